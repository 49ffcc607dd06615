use native.Mathlib.Omega.{arith}
use Rattle.json_scan.proofs.Rules.{digits_stop, digits_end}
use Rattle.json_scan.proofs.digits.Goals as goal
use Rattle.json_scan.proofs.digits.Goals.{in-Some+then-not-is_ascii_digit, in_default}

pub returns : goal.returns
returns c = elim c.match-split_first.branch [
  | in-Some+then-not-is_ascii_digit w ↦ grind (arith, digits_stop c.args.most c.loop-c.v w.in-Some.c.now w.in-Some.tail.now c.loop-c.rest)
  | in_default w ↦ grind (arith, digits_end)
]
