-- `labels::gotos::next_symbol` meets its contract. The answer is what is left to look for from place k on. Assumes nothing.
use Prim.Native.Nat.{◌≤◌}
use mathlib.Core.Path.{◌≡◌}
use Rattle.definitions.specs.Columns.{token_list}
use Rattle.definitions.specs.Lists.{part}
use Rattle.definitions.specs.Statements.{first_symbol}
use Rattle.labels.proofs.gotos.next_symbol.Given as goal

abbrev pub invariant-loop-k : goal.invariant-loop-k
invariant-loop-k l = (l.from ≤ l.k) × (first_symbol (part l.from l.e (token_list l.code.tokens.now l.code.text.now)) ≡ first_symbol (part l.k l.e (token_list l.code.tokens.now l.code.text.now)))
