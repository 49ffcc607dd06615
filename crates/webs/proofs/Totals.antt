-- The sweeps of the families together, and the loop over the families.
--   before_next, before_all, before_most     the sweeps of the first k families: one more, all, and at most all
--   going_start, going_next, going_over, going_end    the loop of `all_families`
-- Assumes nothing.
use Prim.Native.Nat.{ℕ, ◌+◌, ◌-◌, ◌<◌, ◌≤◌}
use mathlib.Core.Path.{◌≡◌, refl, sym, ap, ◌∙◌}
use mathlib.Core.Logic.{inl, inr}
use mathlib.Core.Bool.{Bool, true, false, cond, not}
use mathlib.Core.List.{List, [], ◌∷◌, ◌++◌, map, map-append}
use native.Mathlib.Omega.{arith}
use native.Mathlib.Numerals.{add-one}
use borrow.Author.Tests.{le-leb, lt-leb}
use lib.ListN.{length, take, drop, take-append-drop}
use lib.Seq.{take_all, take-suc}
use Rattle.definitions.specs.Lists.{filter, fold}
use Rattle.definitions.specs.Model.{Line}
use Rattle.definitions.specs.Columns.{listing}
use Rattle.definitions.specs.Recover.{Webs, webs_of, address_taken, defined_families, total_sweeps}
use Rattle.definitions.specs.Answers.{numbered_webs, no_family, per_token}
use Rattle.theory.proofs.Bools.{lt_or_ge}
use Rattle.bits.specs.Edges.{preds_of}
use Rattle.std.specs.Prelude.{Option, Some, None}
use Rattle.families.specs.Tokens.{family_name}
use Rattle.webs.specs.Progress.{webs_over, family_sweeps, sweeps_before}
use Rattle.walks.specs.Known.{Known}
use Rattle.webs.specs.Steps.{State, FamilyDone, Going, AllDone}
use Rattle.numbering.proofs.LineRules.{answer_done, answer_over}
use Rattle.webs.proofs.Progress.{number_end, mark_end}

-- Sums

total_from : (n : ℕ) (ws : List Webs) → fold (λ n w. n + w.sweeps) n ws ≡ n + total_sweeps ws
unfolding fold
total_from n [] = omega arith
total_from n (w ∷ ws) = total_from (n + w.sweeps) ws ∙ omega (arith, total_from (0 + w.sweeps) ws)

total_append : (vs ws : List Webs) → total_sweeps (vs ++ ws) ≡ total_sweeps vs + total_sweeps ws
unfolding fold
total_append [] ws = omega arith
total_append (v ∷ vs) ws = total_from (0 + v.sweeps) (vs ++ ws) ∙ omega (arith, total_append vs ws, total_from (0 + v.sweeps) vs)

filter_append : (p : List ℕ → Bool) (xs ys : List (List ℕ)) → filter p (xs ++ ys) ≡ filter p xs ++ filter p ys
unfolding filter
filter_append p [] ys = refl
filter_append p (x ∷ xs) ys = go (p x) (filter_append p xs ys)
  where
    go : (b : Bool) → filter p (xs ++ ys) ≡ filter p xs ++ filter p ys → cond b (x ∷ filter p (xs ++ ys)) (filter p (xs ++ ys)) ≡ cond b (x ∷ filter p xs) (filter p xs) ++ filter p ys
    go true e = ap (x ∷◌) e
    go false e = e

module _ (L : List Line) (preds : List (List ℕ)) where
  abbrev sum : List (List ℕ) → ℕ
  sum fs = total_sweeps (map (webs_of L preds) (filter (λ f. not (address_taken L f)) fs))

  sum_append : (xs ys : List (List ℕ)) → sum (xs ++ ys) ≡ sum xs + sum ys
  sum_append xs ys =
      ap (λ (fs : List (List ℕ)). total_sweeps (map (webs_of L preds) fs)) (filter_append (λ f. not (address_taken L f)) xs ys)
      ∙ ap total_sweeps (map-append (webs_of L preds) (filter (λ f. not (address_taken L f)) xs) (filter (λ f. not (address_taken L f)) ys))
      ∙ total_append _ _

  sum_one : (f : List ℕ) → sum (f ∷ []) ≡ family_sweeps L preds f
  unfolding filter fold family_sweeps webs_of
  sum_one f = go (address_taken L f)
    where
      go : (b : Bool) → total_sweeps (map (webs_of L preds) (cond (not b) (f ∷ []) [])) ≡ cond b 0 (webs_of L preds f).sweeps
      go true = refl
      go false = omega arith

  pub before_next : (k : ℕ) → k < length (defined_families L) → sweeps_before L preds (k + 1) ≡ sweeps_before L preds k + family_sweeps L preds (family_name L k)
  unfolding sweeps_before
  before_next k h =
      ap (λ (m : ℕ). sum (take m (defined_families L))) (add-one k) ∙ ap sum (take-suc (defined_families L) k [] h)
      ∙ sum_append (take k (defined_families L)) (family_name L k ∷ []) ∙ ap (sweeps_before L preds k +◌) (sum_one (family_name L k))

  pub before_all : (k : ℕ) → length (defined_families L) ≤ k → sweeps_before L preds k ≡ total_sweeps (webs_over L preds)
  unfolding sweeps_before
  before_all k h = ap sum (take_all k (defined_families L) h)

  pub before_most : (k : ℕ) → sweeps_before L preds k ≤ total_sweeps (webs_over L preds)
  unfolding sweeps_before
  before_most k = omega (arith, sum_append (take k (defined_families L)) (drop k (defined_families L)), ap sum (take-append-drop k (defined_families L)))

-- The loop

module _ (l t x table first ds : List ℕ) (count r budget : ℕ) (K : Known l t x table first ds count) (space₀ : List ℕ) where
  abbrev L : List Line
  L = listing l t x

  abbrev preds : List (List ℕ)
  preds = preds_of (length l) r space₀

  pub going_start : (ns ms : List ℕ) → State l t x r 0 space₀ ns ms → Going l t x r 0 0 budget space₀ space₀ ns ms
  unfolding sweeps_before filter fold
  going_start ns ms S = record { state = S; preds = refl; total = refl; within = omega arith }

  module _ (k total : ℕ) (space ns ms : List ℕ) (G : Going l t x r k total budget space₀ space ns ms) where
    next_total : k < count → total + family_sweeps L (preds_of (length l) r space) (family_name L k) ≡ sweeps_before L preds (k + 1)
    next_total h = rw G.preds (omega (arith, before_next L preds k (omega (arith, K.finds.all)), G.total))

    module _ (h : k < count) (b : ℕ) (eb : b ≡ budget - total) (space' ns' ms' : List ℕ) where
      pub going_next : (s : ℕ) (a : Option ℕ) → a ≡ Some s → FamilyDone l t x r k b space space' ns' ms' a → Going l t x r (k + 1) (total + s) budget space₀ space' ns' ms'
      going_next s a e F =
          let w = answer_done (family_sweeps L (preds_of (length l) r space) (family_name L k)) b s (sym F.answers ∙ e) in
          record {
            state = F.state w.0;
            preds = F.preds w.0 ∙ G.preds;
            total = ap (total +◌) w.1 ∙ next_total h;
            within = omega (arith, w.0, w.1, G.within);
          }

      pub going_over : (a : Option ℕ) → a ≡ None → FamilyDone l t x r k b space space' ns' ms' a → AllDone budget (numbered_webs L (webs_over L preds)) ns' ms' None
      going_over a e F = record {
        answers = sym (rw (lt-leb (total_sweeps (webs_over L preds)) budget more));
        numbers = λ q. absurd (omega (arith, more));
        marks = λ q. absurd (omega (arith, more));
      }
        where
          c : ℕ
          c = family_sweeps L (preds_of (length l) r space) (family_name L k)

          many : b < c
          many = elim (lt_or_ge b c) [ inl q ↦ q | inr q ↦ absurd (answer_over c b (sym F.answers ∙ e) q) ]

          more : budget < total_sweeps (webs_over L preds)
          more = omega (arith, many, next_total h, before_most L preds (k + 1), G.within)

    pub going_end : count ≤ k → AllDone budget (numbered_webs L (webs_over L preds)) ns ms (Some total)
    going_end h = record {
      answers = rw (sym all, le-leb total budget G.within);
      numbers = λ q. G.state.numbers ∙ rw G.preds (ap (λ (g : List ℕ → ℕ → ℕ → ℕ). per_token no_family g L) (number_end l t x preds k done));
      marks = λ q. G.state.marks ∙ rw G.preds (ap (λ (g : List ℕ → ℕ → ℕ → ℕ). per_token 0 g L) (mark_end l t x preds k done));
    }
      where
        done : length (defined_families L) ≤ k
        done = omega (arith, K.finds.all)

        all : total ≡ total_sweeps (webs_over L preds)
        all = G.total ∙ before_all L preds k done
