-- What demand 3 rules out, on small listings, and one listing to which all of it applies.
--   one_web               one web for everything, where two definitions are unlinked: the chain half rules it out
--   one_web_runs          the runs alone do not
--   own_webs              a web for every definition, whatever number the read that both reach has
--   first_definition      so too where the read has the number of the first definition that reaches it
--   first_two             only the first two of three definitions that reach a read linked
--   round                 a value that comes round through line 0: round_edges has the way, round_stops that it is none
--   sample_demand         demand 3 of a listing with a loop, a branch, a family whose address is taken, and a register that is used
--                         again; sample_accepted, sample_graph and sample_numbers have what is answered of it
-- Assumes nothing.
use Rattle.std.specs.Prelude.{Option, None, Some}
use mathlib.Core.Option as maybe
use Prim.Native.Nat.{ℕ, ◌+◌}
use Prim.Native.String.{String}
use mathlib.Core.Path.{◌≡◌, refl, sym, ap}
use mathlib.Core.Logic.{◌≢◌, inl, inr}
use mathlib.Core.Bool.{Bool, true, false, cond, ◌&&◌}
use mathlib.Core.List.{List, [], ◌∷◌, ◌++◌, map}
use native.Mathlib.Omega.{arith}
use lib.Dec.{eqb, ltb}
use borrow.Author.Tests.{eqb-true, ltb-true}
use lib.ListN.{length, get_or, take, replicate}
use Rattle.definitions.specs.Lists.{or_else, ascii}
use Rattle.definitions.specs.Model.{Token, Line, tok, pseudo_line, Register, Number, Keyword, Symbol, Punct}
use Rattle.definitions.specs.FlowGraph.{flow_graph, steps}
use Rattle.definitions.specs.Reaching.{is_definition, Reaches, start, itself, link}
use Rattle.definitions.specs.Recover.{address_taken, recover}
use Rattle.definitions.specs.Answers.{accepted, Numbered, numbered_webs, per_token, webs}
use Rattle.definitions.specs.Runs.{read_at, reads_on, number_at, family_run_from, family_run, web_run_from, web_run}
use Rattle.definitions.specs.Demand3.{Walk, TwoRunsOver, TwoRuns, ChainNumbers, definition_number, defines_at}
use Rattle.definitions.specs.Columns.{all_tokens}
use Rattle.definitions.specs.Computed.{answer}
use Rattle.theory.proofs.ListLaws.{replicate_default}
use Rattle.theory.proofs.Graph.{steps_inside}
use Rattle.theory.proofs.TwoRuns.{Fits, two_runs}
use Rattle.theory.proofs.Bools.{decided, clash, and_split}
use Rattle.theory.proofs.Demand.{accepted_chains, demand_3}

-- Notation

abbrev kw : String → Token
kw s = tok (ascii s) Keyword

abbrev reg : String → Token
reg s = tok (ascii s) Register

abbrev num : String → Token
num s = tok (ascii s) Number

abbrev name : String → Token
name s = tok (ascii s) Symbol

abbrev p : String → Token
p s = tok (ascii s) Punct

abbrev at : ℕ → List Token → Line
at indent ts = pseudo_line None indent ts

-- `r = n;`, `g(r);`, `if (r) {`, `return r;`, `}`
abbrev put : String → String → List Token
put r n = reg r ∷ p " = " ∷ num n ∷ p ";" ∷ []

abbrev call : String → List Token
call r = name "g" ∷ p "(" ∷ reg r ∷ p ");" ∷ []

abbrev test : String → List Token
test r = kw "if" ∷ p " (" ∷ reg r ∷ p ") {" ∷ []

abbrev give : String → List Token
give r = kw "return" ∷ p " " ∷ reg r ∷ p ";" ∷ []

abbrev close : List Token
close = p "}" ∷ []

abbrev otherwise : List Token
otherwise = p "} " ∷ kw "else" ∷ p " {" ∷ []

abbrev function : List Line → List Line
function body = at 0 (kw "int" ∷ p " " ∷ name "f" ∷ p "()" ∷ []) ∷ at 0 (p "{" ∷ []) ∷ (body ++ (at 0 close ∷ []))

abbrev rax : List ℕ
rax = ascii "rax"

-- The graph and the answer of a listing

abbrev graph : List Line → List (List ℕ)
graph L = or_else (flow_graph L) []

abbrev answered : List Line → Numbered
answered L = numbered_webs L (or_else (recover L) [])

abbrev zeros : List Line → List ℕ
zeros L = replicate (length (all_tokens L)) 0

-- Refuting the chain half: two definitions that the answer tells apart and these numbers do not

chains_refuted : (L : List Line) (numbers : List ℕ) → webs L ≡ accepted (answered L) → flow_graph L ≡ Some (graph L)
    → (f : List ℕ) (a b : ℕ) → address_taken L f ≡ false → is_definition (defines_at L f) a ≡ true → is_definition (defines_at L f) b ≡ true
    → definition_number L (answered L).numbers a ≢ definition_number L (answered L).numbers b
    → definition_number L numbers a ≡ definition_number L numbers b → ¬ ChainNumbers L (graph L) numbers
chains_refuted L numbers e flow f a b kept sa sb apart same h =
    apart ((accepted_chains L (graph L) (answered L) e flow f a b kept sa sb).1 ((h f a b kept sa sb).0 same))

-- `rax = 1;` `g(rax);` `rax = 2;` `return rax;`: two webs

abbrev twice : List Line
twice = function (at 1 (put "rax" "1") ∷ at 1 (call "rax") ∷ at 1 (put "rax" "2") ∷ at 1 (give "rax") ∷ [])

pub one_web : ¬ ChainNumbers twice (graph twice) (zeros twice)
unfolding answer
one_web = chains_refuted twice (zeros twice) refl refl rax 2 4 refl refl refl (omega arith) refl

-- the runs alone would let it pass, on every listing
pub one_web_runs {ℓ} : (L : List Line) (G : List (List ℕ)) → flow_graph L ≡ Some G → TwoRuns {ℓ} L G (zeros L)
one_web_runs L G flow Value = two_runs L G (zeros L) fits (λ i j e. (steps_inside L G flow i j e).1)
  where
    zero_at : (i k : ℕ) → number_at L (zeros L) i k ≡ 0
    zero_at i k = replicate_default (length (all_tokens L)) (length (all_tokens (take i L)) + k) 0

    fits : Fits L G (zeros L)
    fits = record {
      number = λ f d. 0;
      entry = λ f. refl;
      definition = λ f i δ. zero_at i 0;
      read = λ f i k d r n free q. zero_at i k;
    }

-- Refuting the runs: at each place the rule gives every family the place's number; all cells are 0 at first

abbrev walks : List (List ℕ) → ℕ → List ℕ → Bool
walks G i [] = true
walks G i (j ∷ js) = steps G i j && (ltb 0 j && walks G j js)

walk : (G : List (List ℕ)) (i : ℕ) (js : List ℕ) → walks G i js ≡ true → Walk G i js
walk G i [] e = tt
walk G i (j ∷ js) e =
    let a = and_split (steps G i j) (ltb 0 j && walks G j js) e in
    let b = and_split (ltb 0 j) (walks G j js) a.1 in
    (a.0, ltb-true 0 j b.0, walk G j js b.1)

abbrev rule : ℕ → List ℕ → List ℕ → maybe.Option ℕ
rule k vs f = maybe.some k

runs_agree : (L : List Line) (numbers : List ℕ) (is : List ℕ) → walks (graph L) 0 is ≡ true → TwoRunsOver ℕ L (graph L) numbers
    → family_run L rule (λ f. 0) (0 ∷ is) ≡ web_run L rule numbers (λ f w. 0) (0 ∷ is)
runs_agree L numbers is e h =
    h rule (λ f. 0) (λ f w. 0) (λ f. refl) (0 ∷ is) (refl, walk (graph L) 0 is e) (λ k vs f _ _ _ _ q. maybe.none-ne-some k (sym q))

-- `if (rbx) {` `rax = 1;` `} else {` `rax = 2;` `}` `return rax;`: one web

abbrev branch : List Line
branch = function (
    at 1 (test "rbx") ∷ at 2 (put "rax" "1") ∷ at 1 otherwise ∷ at 2 (put "rax" "2") ∷ at 1 close ∷ at 1 (give "rax") ∷ [])

-- the first definition, on line 3, has 1, the second, on line 5, has 2, and the read, on line 7, has m
abbrev apart : ℕ → List ℕ
apart m = per_token 0 (λ f i k. cond (eqb i 3) 1 (cond (eqb i 5) 2 (cond (eqb i 7) m 0))) branch

pub own_webs : (m : ℕ) → ¬ TwoRunsOver ℕ branch (graph branch) (apart m)
unfolding answer read_at reads_on family_run_from family_run web_run_from web_run
own_webs m h = elim (decided (eqb m 1)) [
  | inl q ↦ absurd (omega (arith, rw (eqb-true m 1 q) at (value (1 ∷ 2 ∷ 5 ∷ 6 ∷ 7 ∷ []) refl)))
  | inr q ↦ past_cell_1 (eqb m 1) (eqb m 0) (value (1 ∷ 2 ∷ 3 ∷ 7 ∷ []) refl) q
]
  where
    -- the second value read, rax on line 7
    value : (is : List ℕ) → walks (graph branch) 0 is ≡ true
        → get_or (family_run branch rule (λ f. 0) (0 ∷ is)) 1 0 ≡ get_or (web_run branch rule (apart m) (λ f w. 0) (0 ∷ is)) 1 0
    value is e = ap (λ (vs : List ℕ). get_or vs 1 0) (runs_agree branch (apart m) is e h)

    past_cell_1 : (a b : Bool) → ◌≡◌ {A = ℕ} 3 (cond a 3 (cond b (cond b 0 0) (cond b 0 0))) → a ≡ false → ⊥
    past_cell_1 true b e q = clash refl q
    past_cell_1 false true e q = omega arith
    past_cell_1 false false e q = omega arith

pub first_definition : ¬ TwoRunsOver ℕ branch (graph branch) (apart 1)
first_definition = own_webs 1

-- `rax = 1;` `if (rbx) {` `rax = 2;` `}` `if (rcx) {` `rax = 3;` `}` `return rax;`: three definitions reach the read

abbrev three : List Line
three = function (
    at 1 (put "rax" "1") ∷ at 1 (test "rbx") ∷ at 2 (put "rax" "2") ∷ at 1 close
    ∷ at 1 (test "rcx") ∷ at 2 (put "rax" "3") ∷ at 1 close ∷ at 1 (give "rax") ∷ [])

-- those on lines 2 and 4 have 1, as the read on line 9, and that on line 7 has 2
abbrev two_linked : List ℕ
two_linked = per_token 0 (λ f i k. cond (eqb i 2) 1 (cond (eqb i 4) 1 (cond (eqb i 7) 2 (cond (eqb i 9) 1 0)))) three

pub first_two : ¬ TwoRunsOver ℕ three (graph three) two_linked
unfolding answer read_at reads_on family_run_from family_run web_run_from web_run
first_two h =
    let e = ap (λ (vs : List ℕ). get_or vs 2 0) (runs_agree three two_linked (1 ∷ 2 ∷ 3 ∷ 6 ∷ 7 ∷ 8 ∷ 9 ∷ []) refl h) in
    omega arith

-- `L:` `g(rax);` `rax = 1;` `g(rax);` `goto L;`: the goto steps to line 0, and from there nothing but the entry goes on

abbrev looping : List Line
looping =
    at 1 (name "L" ∷ p ":" ∷ []) ∷ at 1 (call "rax") ∷ at 1 (put "rax" "1") ∷ at 1 (call "rax")
    ∷ at 1 (kw "goto" ∷ p " " ∷ name "L" ∷ p ";" ∷ []) ∷ []

-- there are edges from line 2 by 3, 4 and 0 to 1, none of which but 2 defines rax
pub round_edges : map (λ (e : ℕ × ℕ). steps (graph looping) e.0 e.1) ((2, 3) ∷ (3, 4) ∷ (4, 0) ∷ (0, 1) ∷ []) ≡ replicate 4 true
unfolding answer
round_edges = refl

pub round_stops : ¬ Reaches (steps (graph looping)) (defines_at looping rax) 2 1
unfolding answer
round_stops q =
    let e = (accepted_chains looping (graph looping) (answered looping) refl refl rax 0 2 refl refl refl).1
    (link 1 itself refl (start refl refl (omega arith)) q) in
    omega arith

-- were it to come round, the read on line 1 would link it with the entry, and all would be web 0
pub round : ¬ ChainNumbers looping (graph looping) (zeros looping)
unfolding answer
round = chains_refuted looping (zeros looping) refl refl rax 0 2 refl refl refl (omega arith) refl

-- A loop over rcx, a branch on rbx that sets rax, rax set again behind the loop, and rdx, whose address is taken

abbrev sample : List Line
sample = function (
    at 1 (put "rcx" "0")
    ∷ at 1 (kw "while" ∷ p " (" ∷ reg "rcx" ∷ p " < " ∷ num "4" ∷ p ") {" ∷ [])
    ∷ at 2 (test "rbx")
    ∷ at 3 (put "rax" "1")
    ∷ at 2 otherwise
    ∷ at 3 (put "rax" "2")
    ∷ at 2 close
    ∷ at 2 (call "rax")
    ∷ at 2 (reg "rcx" ∷ p "++;" ∷ [])
    ∷ at 1 close
    ∷ at 1 (put "rax" "3")
    ∷ at 1 (put "rdx" "4")
    ∷ at 1 (name "h" ∷ p "(&" ∷ reg "rdx" ∷ p ");" ∷ [])
    ∷ at 1 (give "rax") ∷ [])

pub sample_accepted : webs sample ≡ accepted (answered sample)
unfolding answer
sample_accepted = refl

pub sample_graph : flow_graph sample ≡ Some (graph sample)
unfolding answer
sample_graph = refl

-- rcx is one web; rax is web 1 in the loop and web 2 behind it; rdx and rbx are web 0
pub sample_numbers :
    map (λ (t : ℕ × ℕ). number_at sample (answered sample).numbers t.0 t.1)
    ((2, 0) ∷ (3, 2) ∷ (10, 0) ∷ (4, 2) ∷ (5, 0) ∷ (7, 0) ∷ (9, 2) ∷ (12, 0) ∷ (15, 2) ∷ (13, 0) ∷ (14, 2) ∷ [])
    ≡ 1 ∷ 1 ∷ 1 ∷ 0 ∷ 1 ∷ 1 ∷ 1 ∷ 2 ∷ 2 ∷ 0 ∷ 0 ∷ []
unfolding answer
sample_numbers = refl

pub sample_demand {ℓ} :
    TwoRuns {ℓ} sample (graph sample) (answered sample).numbers × ChainNumbers sample (graph sample) (answered sample).numbers
sample_demand = demand_3 sample (graph sample) (answered sample) sample_accepted sample_graph
