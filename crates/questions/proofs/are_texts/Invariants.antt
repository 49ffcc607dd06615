-- `questions::are_texts` meets its contract. The answer is what is left to ask of the tokens from k on. Assumes nothing.
use mathlib.Core.Path.{◌≡◌}
use Prim.Native.Nat.{◌-◌, ◌≤◌}
use lib.ListN.{drop}
use Rattle.definitions.specs.Lists.{all}
use Rattle.definitions.specs.Columns.{token_list}
use Rattle.definitions.specs.Utf8.{is_utf8}
use Rattle.questions.proofs.are_texts.Given as goal

abbrev pub invariant-loop-k : goal.invariant-loop-k
invariant-loop-k l = (l.k ≤ l.n) × (all (λ t. is_utf8 t.text) (token_list l.code.tokens.now l.code.text.now) ≡ all (λ t. is_utf8 t.text) (drop l.k (token_list l.code.tokens.now l.code.text.now)))
