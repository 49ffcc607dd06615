-- Demand 3 as a type: what is promised of the web numbers of every listing that the web call accepts.
--   Trace G is                  the list of lines starts at 0, goes on along the edges of G and never comes to 0 again
--   TwoRuns L G numbers        both runs read the same values, whatever the list of lines, the type of values, the rule, the entry values
--                               and the other cells; TwoRunsOver has the type of values fixed
--   ChainNumbers L G numbers   two definitions of a family whose address is not taken have one number exactly if a chain links them
--   Demand3                    both, of the answered numbers
-- Assumes nothing.
use Rattle.std.specs.Prelude.{ℕ, zero, suc, ◌<◌, ◌≡◌, ◌↔◌, Bool, true, false, List, [], ◌∷◌, length, get_or, Some}
use Rattle.std.proofs.Math.Option as maybe
use Rattle.definitions.specs.Lists.{member}
use Rattle.definitions.specs.Model.{Line, line}
use Rattle.definitions.specs.Statements.{defines}
use Rattle.definitions.specs.FlowGraph.{flow_graph, steps}
use Rattle.definitions.specs.Recover.{def_lines, read_lines, address_taken, is_read_family}
use Rattle.definitions.specs.Answers.{accepted, Numbered, webs}
use Rattle.definitions.specs.Reaching.{is_definition, Chain}
use Rattle.definitions.specs.Runs.{family_run, web_run, number_at}

abbrev pub Walk : List (List ℕ) → ℕ → List ℕ → Type 0
Walk G i [] = Unit {0}
Walk G i (j ∷ js) = (steps G i j ≡ true) × (0 < j) × Walk G j js

abbrev pub Trace : List (List ℕ) → List ℕ → Type 0
Trace G [] = ⊥
Trace G (i ∷ is) = (i ≡ 0) × Walk G 0 is

-- To a family that the line at a place defines the rule always gives a value.
abbrev pub Gives {ℓ} : {Value : Type ℓ} → List Line → (ℕ → List Value → List ℕ → maybe.Option Value) → List ℕ → Type ℓ
Gives {Value = Value} L rule is =
    (k : ℕ) (vs : List Value) (f : List ℕ) → 0 < k → k < length is → defines (line L (get_or is k 0)) ≡ Some f → is_read_family f ≡ true
    → ¬ (rule k vs f ≡ maybe.none)

abbrev pub TwoRunsOver {ℓ} : Type ℓ → List Line → List (List ℕ) → List ℕ → Type ℓ
TwoRunsOver Value L G numbers =
    (rule : ℕ → List Value → List ℕ → maybe.Option Value) (entry : List ℕ → Value) (cells : List ℕ → ℕ → Value)
    → ((f : List ℕ) → cells f 0 ≡ entry f)
    → (is : List ℕ) → Trace G is → Gives L rule is
    → family_run L rule entry is ≡ web_run L rule numbers cells is

abbrev pub TwoRuns {ℓ} : List Line → List (List ℕ) → List ℕ → Type (ℓ + 1)
TwoRuns L G numbers = (Value : Type ℓ) → TwoRunsOver Value L G numbers

abbrev pub defines_at : List Line → List ℕ → ℕ → Bool
defines_at L f i = member i (def_lines L f)

abbrev pub reads_at : List Line → List ℕ → ℕ → Bool
reads_at L f i = member i (read_lines L f)

-- The number of a definition: the entry's is 0, a defining line's is the one at its token 0.
abbrev pub definition_number : List Line → List ℕ → ℕ → ℕ
definition_number L numbers zero = 0
definition_number L numbers (suc i) = number_at L numbers (suc i) 0

abbrev pub ChainNumbers : List Line → List (List ℕ) → List ℕ → Type 0
ChainNumbers L G numbers =
    (f : List ℕ) (a b : ℕ) → address_taken L f ≡ false
    → is_definition (defines_at L f) a ≡ true → is_definition (defines_at L f) b ≡ true
    → (definition_number L numbers a ≡ definition_number L numbers b) ↔ Chain (steps G) (defines_at L f) (reads_at L f) a b

abbrev pub Demand3 {ℓ} : Type (ℓ + 1)
Demand3 =
    (L : List Line) (G : List (List ℕ)) (r : Numbered) → webs L ≡ accepted r → flow_graph L ≡ Some G
    → TwoRuns {ℓ} L G r.numbers × ChainNumbers L G r.numbers
