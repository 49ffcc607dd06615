-- `memo::lookup::Lookup::new` meets its contract: no slot has the number of a text. Assumes nothing.
use mathlib.Core.Path.{refl}
use Rattle.memo.proofs.Memos.{memo_empty}
use Rattle.memo.proofs.lookup.Lookup.new.Goals as goal

pub invariant_of-result-clause-keeps : goal.invariant_of-result-clause-keeps
invariant_of-result-clause-keeps c = memo_empty _ _ refl
