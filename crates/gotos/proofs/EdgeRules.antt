-- The search for the back edge, as rules for `search`.
--   line_at                  line j of the first n lines is that of word j
--   back_edge_is             the search behind a label is `back_edge`
--   edge_start, edge_found, edge_passed, edge_left, edge_end    the loop: what is left to look at, or the place so far where that gives none
-- Assumes nothing.
use Rattle.std.specs.Prelude.{Option, None, Some}
use Rattle.std.specs.Option.{option_map}
use mathlib.Core.Path.{◌≡◌, refl, sym, ap, ◌∙◌}
use mathlib.Core.Bool.{Bool, true, false, cond}
use mathlib.Core.List.{List}
use Prim.Native.Nat.{ℕ, suc, ◌+◌, ◌≤◌, ◌<◌}
use native.Mathlib.Nat.{add-zero}
use native.Mathlib.Omega.{arith}
use lib.ListN.{length, get_or, take, drop}
use lib.Seq.{get_or-take, length-take-le}
use Rattle.definitions.specs.Lists.{last_position, take_while}
use Rattle.definitions.specs.Model.{Line, line, no_line}
use Rattle.definitions.specs.RecoverGotoLoops.{in_block, is_back, back_edge}
use Rattle.definitions.specs.Statements.{label}
use Rattle.text.proofs.Parts.{drop_step, drop_end}
use Rattle.plan.specs.Plan.{line_of, render}
use Rattle.plan.proofs.Rendered.{length_render, line_render}
use Rattle.gotos.specs.Edges.{later, or_later, back_from}

pub back_edge_is : (L : List Line) (h : ℕ) → back_edge L h ≡ back_from L (label (line L h)) (line L h).indent ((line L h).indent + 1) (h + 1)
unfolding back_from
back_edge_is L h = refl

module _ (C : List Line) (ws : List ℕ) (n j : ℕ) (h : j < n) (le : n ≤ length ws) where
  pub line_at : line (render C (take n ws)) j ≡ line_of C (get_or ws j 0)
  line_at =
      let m : length (take n ws) ≡ n = length-take-le n ws le in
      line_render C (take n ws) j (omega arith) ∙ ap (line_of C) (get_or-take n ws j 0 h)

  pub long_enough : j < length (render C (take n ws))
  long_enough =
      let m : length (take n ws) ≡ n = length-take-le n ws le in
      omega (arith, length_render C (take n ws))

-- the last behind, or the one at hand
module _ (Q P : Line → Bool) where
  seek : List Line → ℕ → Option ℕ
  seek L j = option_map (j +◌) (last_position P (take_while Q (drop j L)))

  seek_next : (L : List Line) (j : ℕ) → j < length L → Q (line L j) ≡ true → (best : Option ℕ)
      → or_later best (seek L j) ≡ or_later (later best (P (line L j)) j) (seek L (j + 1))
  unfolding seek take_while last_position
  seek_next L j h e best = rw (drop_step no_line L j h, e) (go (P (line L j)) (last_position P (take_while Q (drop (j + 1) L))))
    where
      go : (b : Bool) (o : Option ℕ) → or_later best (option_map (j +◌) (elim o [ Some k ↦ Some (suc k) | None ↦ cond b (Some 0) None ]))
          ≡ or_later (cond b (Some j) best) (option_map ((j + 1) +◌) o)
      go true None = ap Some (add-zero j)
      go false None = refl
      go b (Some k) = ap Some (omega arith)

  seek_left : (L : List Line) (j : ℕ) → j < length L → Q (line L j) ≡ false → seek L j ≡ None
  unfolding seek take_while last_position
  seek_left L j h e = rw (drop_step no_line L j h, e)

  seek_end : (L : List Line) (j : ℕ) → length L ≤ j → seek L j ≡ None
  unfolding seek take_while last_position
  seek_end L j h = rw (drop_end L j h)

module _ (C : List Line) (ws : List ℕ) (n : ℕ) (le : n ≤ length ws) (g : List ℕ) (ind d : ℕ) where
  module _ (from j : ℕ) (best : Option ℕ) (inv : back_from (render C (take n ws)) g ind d from ≡ or_later best (back_from (render C (take n ws)) g ind d j)) where
    module _ (h : j < n) (b : Bool) (e : b ≡ in_block ind (line_of C (get_or ws j 0))) where
      inside : in_block ind (line (render C (take n ws)) j) ≡ b
      inside = ap (in_block ind) (line_at C ws n j h le) ∙ sym e

      edge_next : b ≡ true → (x : Bool) (o : Option ℕ) → x ≡ is_back g d (line_of C (get_or ws j 0)) → o ≡ later best x j
          → back_from (render C (take n ws)) g ind d from ≡ or_later o (back_from (render C (take n ws)) g ind d (j + 1))
      unfolding back_from seek
      edge_next f x o y z =
          inv ∙ seek_next (in_block ind) (is_back g d) (render C (take n ws)) j (long_enough C ws n j h le) (inside ∙ f) best
          ∙ rw (line_at C ws n j h le, ← y, ← z)

      module _ (f : b ≡ true) (x : Bool) (y : x ≡ is_back g d (line_of C (get_or ws j 0))) where
        pub edge_found : x ≡ true → back_from (render C (take n ws)) g ind d from ≡ or_later (Some j) (back_from (render C (take n ws)) g ind d (j + 1))
        edge_found z = edge_next f x (Some j) y (rw z)

        pub edge_passed : x ≡ false → back_from (render C (take n ws)) g ind d from ≡ or_later best (back_from (render C (take n ws)) g ind d (j + 1))
        edge_passed z = edge_next f x best y (rw z)

      pub edge_left : b ≡ false → best ≡ back_from (render C (take n ws)) g ind d from
      unfolding back_from seek
      edge_left f = sym (inv ∙ rw (seek_left (in_block ind) (is_back g d) (render C (take n ws)) j (long_enough C ws n j h le) (inside ∙ f)))

    pub edge_end : n ≤ j → best ≡ back_from (render C (take n ws)) g ind d from
    unfolding back_from seek
    edge_end h =
        let m : length (take n ws) ≡ n = length-take-le n ws le in
        sym (inv ∙ rw (seek_end (in_block ind) (is_back g d) (render C (take n ws)) j (omega (arith, length_render C (take n ws)))))

  pub edge_start : (from : ℕ) → back_from (render C (take n ws)) g ind d from ≡ or_later None (back_from (render C (take n ws)) g ind d from)
  edge_start from = go (back_from (render C (take n ws)) g ind d from)
    where
      go : (o : Option ℕ) → o ≡ or_later None o
      go None = refl
      go (Some k) = refl

pub ruleset edges = (edge_start, edge_found, edge_passed, edge_left, edge_end)
