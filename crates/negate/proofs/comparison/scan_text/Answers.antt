use borrow.Author.Rules.{rules}
use Rattle.negate.proofs.Scanning.{texts}
use Rattle.negate.proofs.comparison.scan_text.Goals as goal

pub loop-i-init : goal.loop-i-init
loop-i-init c = search (texts, rules)

pub see_byte-i-requires : goal.see_byte-i-requires
see_byte-i-requires c = search (texts, rules)

pub loop-i-smaller : goal.loop-i-smaller
loop-i-smaller c = search (texts, rules)

pub loop-i-preserved : goal.loop-i-preserved
loop-i-preserved c = search (texts, rules)

pub returns : goal.returns
returns c = search (texts, rules)
