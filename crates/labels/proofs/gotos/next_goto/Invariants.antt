-- `labels::gotos::next_goto` meets its contract. The answer is what is left to look for from place k on. Assumes nothing.
use Prim.Native.Nat.{◌≤◌}
use mathlib.Core.Path.{◌≡◌}
use Rattle.definitions.specs.Columns.{token_list}
use Rattle.definitions.specs.Lists.{part}
use Rattle.definitions.specs.Statements.{targets}
use Rattle.labels.proofs.gotos.next_goto.Given as goal

abbrev pub invariant-loop-k : goal.invariant-loop-k
invariant-loop-k l = (l.from ≤ l.k) × (targets (part l.from l.e (token_list l.code.tokens.now l.code.text.now)) ≡ targets (part l.k l.e (token_list l.code.tokens.now l.code.text.now)))
