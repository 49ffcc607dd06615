-- The whole: from the drawn graph and the words of the tokens to the answer.
--   bounds_by, finds_all, known_by     what is known when the families are numbered
--   state_start             no family is done
--   drawn_webs              the webs over the drawn graph are those of `recover`
--   whole_by                `recover`
-- Assumes nothing.
use Rattle.std.specs.Prelude.{Option, None, Some}
use Prim.Native.Nat.{ℕ, ◌+◌, ◌-◌, ◌≤◌}
use mathlib.Core.Path.{◌≡◌, refl, sym, ap, ◌∙◌}
use mathlib.Core.Bool.{true}
use mathlib.Core.List.{List, [], map}
use native.Mathlib.Omega.{arith}
use borrow.Author.Tests.{le-leb}
use lib.ListN.{length, length-replicate}
use Rattle.definitions.specs.Lists.{or_else, up_to}
use Rattle.definitions.specs.Model.{Token, Line, token, line}
use Rattle.definitions.specs.Family.{Family, fam_of}
use Rattle.definitions.specs.Columns.{token_list, listing}
use Rattle.definitions.specs.Questions.{covers}
use Rattle.definitions.specs.FlowGraph.{predecessors}
use Rattle.definitions.specs.Recover.{recover, defined_families}
use Rattle.definitions.specs.Answers.{numbered_webs, no_family, per_token}
use Rattle.text.specs.Zeroed.{zeroed}
use Rattle.theory.proofs.ListLaws.{replicate_default}
use Rattle.model.specs.Places.{line_start}
use Rattle.model.proofs.Decode.{length_listing}
use Rattle.bits.specs.Edges.{preds_of}
use Rattle.std.specs.Prelude as rust
use Rattle.families.specs.Families.{families_before, Numbered}
use Rattle.families.specs.Tokens.{Finds}
use Rattle.chains.specs.Chains.{waiting, token_word, Bounds, Chained}
use Rattle.families.proofs.Numbered.{families_all}
use Rattle.walks.specs.Known.{Known}
use Rattle.webs.specs.Progress.{webs_over, waiting_at, Drawn}
use Rattle.webs.specs.Steps.{State, AllDone}
use Rattle.chains.proofs.Places.{of_family, place_token, place_inside, per_token_by}
use Rattle.webs.proofs.Progress.{number_start, mark_start}

pub bounds_by : (l t : List ℕ) → covers 512 0 l (length t) ≡ true → length l ≤ 1024 → length t ≤ 16384 → Bounds l t
bounds_by l t ok a b = record { ok = ok; lines = a; tokens = b }

module _ (l t x table ds : List ℕ) (count : ℕ) (N : Numbered (listing l t x) (length l) count table ds) where
  abbrev L : List Line
  L = listing l t x

  pub finds_all : Finds L count table
  finds_all = record {
    table = N.table;
    all = N.known ∙ ap length (ap (λ (n : ℕ). families_before L n) (sym (length_listing l t x)) ∙ families_all L);
    few = omega (arith, N.small, N.upto, N.few);
  }

  pub known_by : Bounds l t → 2 ≤ length l → (ns first : List ℕ) → Chained l t x count 0 ns first → Known l t x table first ds count
  known_by B two ns first C = record {
    bounds = B;
    some = omega arith;
    finds = finds_all;
    defs = record { at = λ j h. N.defs j (omega (arith, length_listing l t x)) };
    heads = C.heads;
    room = omega (arith, N.width, length_listing l t x);
  }

-- No family is done

module _ (l t x : List ℕ) (r : ℕ) (space ms : List ℕ) (B : Bounds l t) where
  no_marks : length ms ≡ length t → zeroed 0 ms ≡ per_token 0 (λ f i j. 0) (listing l t x)
  no_marks e = per_token_by l t x B.ok 0 (λ f i j. 0) (zeroed 0 ms) (length-replicate (length ms - 0) 0 ∙ omega arith) (λ i j h q.
      replicate_default {A = ℕ} (length ms - 0) (line_start l i + j) 0 ∙ go i j (fam_of (token (line (listing l t x) i) j)))
    where
      go : (i j : ℕ) (o : Option Family) → 0 ≡ of_family 0 (λ f i j. 0) o i j
      go i j None = refl
      go i j (Some y) = refl

  -- the words as they are chained
  chained_numbers : (count : ℕ) (ns first : List ℕ) → Chained l t x count 0 ns first → ns ≡ per_token no_family (waiting_at l t x) (listing l t x)
  unfolding token_word
  chained_numbers count ns first C = per_token_by l t x B.ok no_family (waiting_at l t x) ns C.size (λ i j h q.
      C.words (line_start l i + j) (omega arith) (place_inside l t x B.ok i j h q)
      ∙ ap (λ (u : Token). word i j (fam_of u)) (sym (place_token l t x B.ok i j h q)) ∙ go i j (fam_of (token (line (listing l t x) i) j)))
    where
      word : ℕ → ℕ → Option Family → ℕ
      word i j o = elim o [ None ↦ no_family | Some y ↦ waiting l (token_list t x) (defined_families (listing l t x)) y.name (line_start l i + j) ]

      go : (i j : ℕ) (o : Option Family) → word i j o ≡ of_family no_family (waiting_at l t x) o i j
      go i j None = refl
      go i j (Some y) = refl

  pub state_start : (count : ℕ) (ns first zs : List ℕ) (D : Drawn (listing l t x) (length l) r space) → length ms ≡ length t → zs ≡ zeroed 0 ms
      → Chained l t x count 0 ns first → State l t x r 0 space ns zs
  state_start count ns first zs D e z C = record {
    agree = D.agree;
    numbers = chained_numbers count ns first C ∙ ap (λ (g : List ℕ → ℕ → ℕ → ℕ). per_token no_family g (listing l t x)) (sym (number_start l t x (preds_of (length l) r space)));
    marks = z ∙ no_marks e ∙ ap (λ (g : List ℕ → ℕ → ℕ → ℕ). per_token 0 g (listing l t x)) (sym (mark_start l t x (preds_of (length l) r space)));
  }

-- The drawn graph

pub drawn_webs : (l t x : List ℕ) (r : ℕ) (space : List ℕ) → 2 ≤ length l → Drawn (listing l t x) (length l) r space
    → webs_over (listing l t x) (preds_of (length l) r space) ≡ or_else (recover (listing l t x)) []
unfolding recover
drawn_webs l t x r space two D =
    ap (webs_over (listing l t x)) (D.preds ∙ ap (λ (n : ℕ). map (predecessors D.graph) (up_to n)) (sym (length_listing l t x)))
    ∙ sym (rw (le-leb 2 (length (listing l t x)) (omega (arith, length_listing l t x)), D.flow))

pub whole_by : (l t x : List ℕ) (r budget : ℕ) (space ns ms : List ℕ) (a : rust.Option ℕ) → 2 ≤ length l → Drawn (listing l t x) (length l) r space
    → AllDone budget (numbered_webs (listing l t x) (webs_over (listing l t x) (preds_of (length l) r space))) ns ms a
    → AllDone budget (numbered_webs (listing l t x) (or_else (recover (listing l t x)) [])) ns ms a
whole_by l t x r budget space ns ms a two D A = rw (drawn_webs l t x r space two D) at A
