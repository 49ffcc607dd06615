-- Assignments, as rules for `search`.
--   back_last, back_inner, back_past              how many bytes the last token loses
--   expr_cut                                      the text of a token of the right side
--   blank_is                                      is a token of the right side empty?
--   to_last, to_count                             where the right side ends
--   two_no, two_yes                               are there two tokens?
--   closed_of                                     does the last token end with `;`?
--   assigned_none, assigned_open, assigned_empty, assigned_is      the assignment
-- Assumes nothing.
use Rattle.std.specs.Prelude.{if◌then◌else◌, None, Some}
use mathlib.Core.Path.{◌≡◌, sym, ◌∙◌}
use mathlib.Core.Bool.{Bool, true, false}
use mathlib.Core.List.{List, []}
use Prim.Native.Nat.{ℕ, ◌+◌, ◌-◌, ◌≤◌, ◌<◌}
use native.Mathlib.Decide.{dec_lt}
use native.Mathlib.Omega.{arith}
use borrow.Author.Tests.{eq-eqb, ne_eqb, le-leb, lt-leb}
use lib.Dec.{eqb, leb}
use lib.ListN.{length}
use Rattle.definitions.specs.Lists.{part, ◌≟◌, ends_with, ascii}
use Rattle.definitions.specs.Model.{Line, token}
use Rattle.definitions.specs.Statements.{is_empty, assignment}
use Rattle.text.proofs.Parts.{part_step, part_none}
use Rattle.assignment.specs.Assignments.{front, back, expr_token, side, expr_from, expr_to, assigns, is_closed}
use Rattle.assignment.proofs.Sides.{assignment_none, assignment_open, assignment_is, assignment_empty}

module _ (n k : ℕ) where
  pub back_last : k < n → n - k ≡ 1 → 1 ≡ back n k
  back_last h e = rw (eq-eqb (k + 1) n (omega arith))

  pub back_inner : k < n → (n - k ≡ 1 → ⊥) → 0 ≡ back n k
  back_inner h e = rw (ne_eqb (k + 1) n (λ q. e (omega arith)))

  pub back_past : n ≤ k → 0 ≡ back n k
  back_past h = rw (ne_eqb (k + 1) n (λ q. omega arith))

-- a part that ends within the text is empty if it ends where it starts, or before
empty_part : (a e : ℕ) (s : List ℕ) → e ≤ length s → (part a e s ≟ []) ≡ eqb (e - a) 0
unfolding ◌≟◌
empty_part a e s h = go (dec_lt a e)
  where
    go : Dec (a < e) → (part a e s ≟ []) ≡ eqb (e - a) 0
    go (yes g) = rw (part_step 0 s a e g h, ne_eqb (e - a) 0 (λ z. omega arith))
    go (no g) = rw (part_none s a e (omega arith), eq-eqb (e - a) 0 (omega arith))

module _ (l : Line) (n : ℕ) (c : n ≡ length l.tokens) where
  pub expr_cut : (k a e b : ℕ) (r s : List ℕ) → r ≡ part a e s → a ≡ front k → e ≡ length s - b → b ≡ back n k → s ≡ (token l k).text
      → r ≡ (expr_token l k).text
  unfolding expr_token
  expr_cut k a e b r s p f g q t = rw (← t, ← c, ← q, ← g, ← f) p

  pub blank_is : (k a b u v : ℕ) (s : List ℕ) → a ≡ front k → b ≡ back n k → s ≡ (token l k).text → u ≡ length s - b → v ≡ u - a → eqb v 0 ≡ is_empty (expr_token l k)
  unfolding expr_token
  blank_is k a b u v s f g t p q = rw (← t, ← c, ← g, ← f, ← p, q) (sym (empty_part a u s (omega arith)))

  module _ (m : ℕ) (d : m ≡ n - 1) where
    module _ (b : Bool) (s : List ℕ) (p : b ≡ (s ≟ [])) (q : s ≡ (expr_token l m).text) where
      at_last : expr_to l ≡ (if b then m else n)
      unfolding expr_to
      at_last = rw (← c, ← d, ← q, ← p)

      pub to_last : b ≡ true → m ≡ expr_to l
      to_last f = sym (at_last ∙ rw f)

      pub to_count : b ≡ false → n ≡ expr_to l
      to_count f = sym (at_last ∙ rw f)

    pub closed_of : (r : Bool) (s : List ℕ) → r ≡ ends_with (ascii ";") s → s ≡ (token l m).text → r ≡ is_closed l
    unfolding is_closed
    closed_of r s e q = rw (← c, ← d, ← q) e

  pub two_no : n < 2 → false ≡ leb 2 (length l.tokens)
  two_no h = rw (← c) (sym (lt-leb 2 n h))

  pub two_yes : 2 ≤ n → true ≡ leb 2 (length l.tokens)
  two_yes h = rw (← c) (sym (le-leb 2 n h))

module _ (l : Line) (b : Bool) (p : b ≡ assigns l) where
  pub assigned_none : b ≡ false → None ≡ assignment l
  assigned_none f = assignment_none l (sym p ∙ f)

  module _ (f : b ≡ true) (d : Bool) (q : d ≡ is_closed l) where
    pub assigned_open : d ≡ false → None ≡ assignment l
    assigned_open g = assignment_open l (sym p ∙ f) (sym q ∙ g)

    module _ (g : d ≡ true) (a e : ℕ) (i : a ≡ expr_from l) (j : e ≡ expr_to l) where
      pub assigned_is : a < e → Some (record { lhs = token l 0; expr = side l a e }) ≡ assignment l
      assigned_is h = rw (i, j) (assignment_is l (sym p ∙ f) (sym q ∙ g) (omega arith))

      pub assigned_empty : e ≤ a → None ≡ assignment l
      assigned_empty h = assignment_empty l (sym p ∙ f) (sym q ∙ g) (omega arith)

pub ruleset sides = (back_last, back_inner, back_past, expr_cut, blank_is, to_last, to_count, closed_of, two_no, two_yes, assigned_none, assigned_open, assigned_is, assigned_empty)
