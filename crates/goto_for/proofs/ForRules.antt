-- `to_for` at its returns and calls, as rules for `search`. ws is the lent plan, of which n words count.
--   place_inside                    an initialiser stands before the header, and the body is not empty
--   for_top, for_open, for_absent, for_done    the answer
-- Assumes nothing.
use Rattle.std.specs.Prelude.{Option, Some, None}
use Prim.Native.Nat.{ℕ, ◌+◌, ◌-◌, ◌/◌, ◌≤◌, ◌<◌}
use mathlib.Core.Path.{◌≡◌, sym, ap, subst, ◌∙◌}
use mathlib.Core.List.{List}
use native.Mathlib.Nat.{le_refl}
use native.Mathlib.Omega.{arith}
use lib.ListN.{length, take, get_or}
use lib.Seq.{get_or-take, length-take-le}
use Rattle.definitions.specs.Lists.{position_from}
use Rattle.definitions.specs.Model.{Line}
use Rattle.definitions.specs.Columns.{listing}
use Rattle.plan.specs.Plan.{indent_at, header_at, render}
use Rattle.plan.specs.Changes.{Ahead, with_for}
use Rattle.loops.proofs.ForRules.{end_inside}
use Rattle.goto_for.specs.Words.{ends_word, place_words}
use Rattle.goto_for.specs.Answer.{ToFor}
use Rattle.goto_for.proofs.ForPlans.{place_take, place_facts, to_for_top, to_for_open, to_for_none, to_for_made, for_ahead}

pub place_inside : (C : List Line) (ws : List ℕ) (w e k : ℕ) (r : Option ℕ) → r ≡ place_words C ws w e → r ≡ Some k → (k < w) × (w + 2 ≤ e)
place_inside C ws w e k r f q = let p = place_facts C ws w e k (sym q ∙ f) in (p.0, p.2)

module _ (l t x : List ℕ) (w n : ℕ) (ws : List ℕ) (wn : w < n) (le : n ≤ length ws) (h : header_at (get_or ws w 0) / 2 ≡ 1) (ahead : Ahead (w + 1) (take n ws)) where
  word : get_or (take n ws) w 0 ≡ get_or ws w 0
  word = get_or-take n ws w 0 wn

  header : header_at (get_or (take n ws) w 0) / 2 ≡ 1
  header = ap (λ v. header_at v / 2) word ∙ h

  inside : w < length (take n ws)
  inside = omega (arith, length-take-le n ws le)

  pub for_top : w ≡ 0 → ToFor l t x w n ws n ws
  for_top z = record { fewer = le_refl n; ahead = ahead; lines = λ S R. to_for_top S l t x R (take n ws) w header inside ahead z }

  module _ (top : w ≡ 0 → ⊥) (i : ℕ) (d : i ≡ indent_at (get_or ws w 0)) (r : Option ℕ) (f : r ≡ position_from (w + 1) (ends_word (listing l t x) i) (take n ws)) where
    ended : r ≡ position_from (w + 1) (ends_word (listing l t x) (indent_at (get_or (take n ws) w 0))) (take n ws)
    ended = f ∙ ap (λ i. position_from (w + 1) (ends_word (listing l t x) i) (take n ws)) (d ∙ ap indent_at (sym word))

    pub for_open : r ≡ None → ToFor l t x w n ws n ws
    for_open q =
        record { fewer = le_refl n; ahead = ahead; lines = λ S R. to_for_open S l t x R (take n ws) w header inside ahead top (sym q ∙ ended) }

    module _ (e : ℕ) (q : r ≡ Some e) (s : Option ℕ) (g : s ≡ place_words (listing l t x) ws w e) where
      placed : s ≡ place_words (listing l t x) (take n ws) w e
      placed = g ∙ sym (place_take (listing l t x) ws n w e wn (end_inside _ ws n (w + 1) e r le f q).1)

      pub for_absent : s ≡ None → ToFor l t x w n ws n ws
      for_absent u =
          record {
            fewer = le_refl n;
            ahead = ahead;
            lines = λ S R. to_for_none S l t x R (take n ws) w header inside ahead top e (sym q ∙ ended) (sym u ∙ placed);
          }

      pub for_done : (k : ℕ) → s ≡ Some k → (vs : List ℕ) → take (n - 2) vs ≡ with_for (take n ws) w e k → ToFor l t x w n ws (n - 2) vs
      for_done k u vs v =
          record {
            fewer = omega arith;
            ahead =
                let p = place_facts (listing l t x) (take n ws) w e k (sym u ∙ placed) in
                let b = (end_inside _ ws n (w + 1) e r le f q).1 in
                subst (Ahead (w + 1)) (sym v) (for_ahead (take n ws) w e k p.0 p.2 header ahead);
            lines = λ S R. ap (render S) v ∙ to_for_made S l t x R (take n ws) w header inside ahead top e (sym q ∙ ended) k (sym u ∙ placed);
          }

pub ruleset for_answers = (for_top, for_open, for_absent, for_done)
