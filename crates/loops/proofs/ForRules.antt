-- `to_for` at its returns and calls, as rules for `search`. ws is the lent plan, of which n words count.
--   end_inside, place_calls         the end of a block stands in the plan
--   place_inside                    an initialiser stands before the header, and the body is not empty
--   for_top, for_open, for_absent, for_done    the answer
-- Assumes nothing.
use Rattle.std.specs.Prelude.{Option, Some, None}
use Prim.Native.Nat.{ℕ, ◌+◌, ◌-◌, ◌≤◌, ◌<◌}
use mathlib.Core.Path.{◌≡◌, sym, ap, subst, ◌∙◌}
use mathlib.Core.List.{List}
use mathlib.Core.Bool.{Bool}
use native.Mathlib.Nat.{le_refl}
use native.Mathlib.Omega.{arith}
use lib.ListN.{length, take, get_or}
use lib.Seq.{get_or-take, length-take-le}
use Rattle.definitions.specs.Lists.{position_from}
use Rattle.definitions.specs.Model.{Line}
use Rattle.definitions.specs.Columns.{listing}
use Rattle.loop_theory.proofs.Places.{position_from_inside}
use Rattle.plan.specs.Plan.{indent_at, header_at, render}
use Rattle.plan.specs.Changes.{with_for}
use Rattle.loops.specs.Words.{Ready, ends_word, place_words}
use Rattle.loops.specs.Turns.{ToFor}
use Rattle.loops.proofs.ForPlans.{place_take, place_facts, to_for_top, to_for_open, to_for_none, to_for_made, for_ready}

pub end_inside : (p : ℕ → Bool) (ws : List ℕ) (n a e : ℕ) (r : Option ℕ) → n ≤ length ws → r ≡ position_from a p (take n ws) → r ≡ Some e → (a ≤ e) × (e < n)
end_inside p ws n a e r le f q =
    let i = position_from_inside p a (take n ws) e (sym f ∙ q) in
    (i.0, omega (arith, i.1, length-take-le n ws le))

-- what `for_place` asks
pub place_calls : (p : ℕ → Bool) (ws : List ℕ) (n w e : ℕ) (r : Option ℕ) → w < n → n ≤ length ws → r ≡ position_from (w + 1) p (take n ws) → r ≡ Some e
    → (w < length ws) × (e < length ws) × (w < e)
place_calls p ws n w e r lt le f q = let i = end_inside p ws n (w + 1) e r le f q in (omega arith, omega arith, omega arith)

pub place_inside : (C : List Line) (ws : List ℕ) (w e k : ℕ) (r : Option ℕ) → r ≡ place_words C ws w e → r ≡ Some k → (k < w) × (w + 2 ≤ e)
place_inside C ws w e k r f q = let p = place_facts C ws w e k (sym q ∙ f) in (p.0, p.2)

module _ (l t x : List ℕ) (w n : ℕ) (ws : List ℕ) (wn : w < n) (le : n ≤ length ws) (h : header_at (get_or ws w 0) ≡ 1) (ready : Ready (w + 1) (take n ws)) where
  word : get_or (take n ws) w 0 ≡ get_or ws w 0
  word = get_or-take n ws w 0 wn

  header : header_at (get_or (take n ws) w 0) ≡ 1
  header = ap header_at word ∙ h

  inside : w < length (take n ws)
  inside = omega (arith, length-take-le n ws le)

  pub for_top : w ≡ 0 → ToFor l t x w n ws n ws
  for_top z = record { fewer = le_refl n; ready = ready; lines = λ S R. to_for_top S l t x R (take n ws) w header inside ready z }

  module _ (top : w ≡ 0 → ⊥) (i : ℕ) (d : i ≡ indent_at (get_or ws w 0)) (r : Option ℕ) (f : r ≡ position_from (w + 1) (ends_word (listing l t x) i) (take n ws)) where
    ended : r ≡ position_from (w + 1) (ends_word (listing l t x) (indent_at (get_or (take n ws) w 0))) (take n ws)
    ended = f ∙ ap (λ i. position_from (w + 1) (ends_word (listing l t x) i) (take n ws)) (d ∙ ap indent_at (sym word))

    pub for_open : r ≡ None → ToFor l t x w n ws n ws
    for_open q =
        record { fewer = le_refl n; ready = ready; lines = λ S R. to_for_open S l t x R (take n ws) w header inside ready top (sym q ∙ ended) }

    module _ (e : ℕ) (q : r ≡ Some e) (s : Option ℕ) (g : s ≡ place_words (listing l t x) ws w e) where
      placed : s ≡ place_words (listing l t x) (take n ws) w e
      placed = g ∙ sym (place_take (listing l t x) ws n w e wn (end_inside _ ws n (w + 1) e r le f q).1)

      pub for_absent : s ≡ None → ToFor l t x w n ws n ws
      for_absent u =
          record {
            fewer = le_refl n;
            ready = ready;
            lines = λ S R. to_for_none S l t x R (take n ws) w header inside ready top e (sym q ∙ ended) (sym u ∙ placed);
          }

      pub for_done : (k : ℕ) → s ≡ Some k → (vs : List ℕ) → take (n - 2) vs ≡ with_for (take n ws) w e k → ToFor l t x w n ws (n - 2) vs
      for_done k u vs v =
          record {
            fewer = omega arith;
            ready =
                let p = place_facts (listing l t x) (take n ws) w e k (sym u ∙ placed) in
                let b = (end_inside _ ws n (w + 1) e r le f q).1 in
                subst (Ready (w + 1)) (sym v) (for_ready (take n ws) w e k p.0 p.2 (omega (arith, length-take-le n ws le)) header ready);
            lines = λ S R. ap (render S) v ∙ to_for_made S l t x R (take n ws) w header inside ready top e (sym q ∙ ended) k (sym u ∙ placed);
          }

pub ruleset for_answers = (for_top, for_open, for_absent, for_done)
