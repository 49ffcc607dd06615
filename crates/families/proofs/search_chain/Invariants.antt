-- `families::search_chain` meets its contract. The family is at no place from c on, and is in the chain at c - 1 if it is anywhere.
-- Assumes nothing.
use Rattle.definitions.specs.Columns.{listing}
use Rattle.definitions.specs.Recover.{defined_families}
use Rattle.family.specs.Register.{family_of}
use Rattle.families.specs.Families.{multiplier}
use Rattle.families.proofs.Finding.{Searching}
use Rattle.families.proofs.search_chain.Given as goal

abbrev pub invariant-loop-c : goal.invariant-loop-c
invariant-loop-c l = Searching (multiplier l.table) (defined_families (listing l.code.lines.now l.code.tokens.now l.code.text.now)) l.count (family_of l.s l.r) l.c

abbrev pub decreases-loop-c : goal.decreases-loop-c
decreases-loop-c l = l.c
