-- The answer and the lent words of the web call, as the definitions have them.
--   lent ns ms ws         what is lent
--   called a ns ms ws     the answer and the lent words at exit
--   Demand3Over Value L numbers    both halves of demand 3, of these numbers, for values of one type
-- Assumes nothing.
use Rattle.std.specs.Prelude.{ℕ, ◌≡◌, List, Some, Result}
use Rattle.definitions.specs.Model.{Line}
use Rattle.definitions.specs.FlowGraph.{flow_graph}
use Rattle.definitions.specs.Demand3.{TwoRunsOver, ChainNumbers}
use Rattle.definitions.specs.Calls.{Lent, Called}
use Rattle.questions.specs.Refusals.{answer_of}
use Rattle.questions.specs.declared.Refusal.{Refusal}

abbrev pub lent : List ℕ → List ℕ → List ℕ → Lent
lent ns ms ws = record { numbers = ns; marks = ms; space = ws }

abbrev pub called : Result ℕ Refusal → List ℕ → List ℕ → List ℕ → Called ℕ
called a ns ms ws = record { answer = answer_of a; lent = lent ns ms ws }

abbrev pub Demand3Over : Type 0 → List Line → List ℕ → Type 0
Demand3Over Value L numbers = (G : List (List ℕ)) → flow_graph L ≡ Some G → TwoRunsOver Value L G numbers × ChainNumbers L G numbers
