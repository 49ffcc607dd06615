-- Texts of which no byte is 0x80 or more.
--   bounded_none, bounded_next, bounded_end    the loop of `bound`
--   ascii_utf8                    such a text is UTF-8
--   ascii_tokens                  where the whole text is such, question 3 is answered yes
--   bounds                        the rules
-- Assumes nothing.
use mathlib.Core.Path.{◌≡◌, refl, sym}
use mathlib.Core.Bool.{true}
use mathlib.Core.List.{List, [], ◌∷◌}
use Prim.Native.Nat.{ℕ, suc, ◌+◌, ◌/◌, ◌≤◌, ◌<◌}
use native.Mathlib.Omega.{arith}
use native.Mathlib.Decide.{dec_lt}
use lib.ListN.{length, get_or}
use Rattle.definitions.specs.Lists.{all, part}
use Rattle.definitions.specs.Columns.{pieces, token_of}
use Rattle.definitions.specs.Utf8.{utf8_after, is_utf8}
use Rattle.definitions.specs.Questions.{question_3}
use Rattle.text.proofs.CodePoints.{following_1}
use Rattle.text.proofs.Parts.{length_part, part_get}
use Rattle.questions.specs.Bounds.{Bounded}

pub bounded_none : (m : ℕ) (s : List ℕ) → Bounded m 0 s
bounded_none m s = record { at_most = λ j h. absurd (omega arith) }

pub bounded_next : (m r k : ℕ) (s : List ℕ) → Bounded m k s → (m ≤ r) × (get_or s k 0 ≤ r) → Bounded r (k + 1) s
bounded_next m r k s B h = record {
  at_most = λ j g. elim (dec_lt j k) [
    | yes q ↦ omega (arith, B.at_most j q)
    | no q ↦ let e : j ≡ k = omega arith in rw e h.1
  ];
}

pub bounded_end : (m k : ℕ) (s : List ℕ) → Bounded m k s → length s ≤ k → Bounded m (length s) s
bounded_end m k s B h = record { at_most = λ j g. B.at_most j (omega arith) }

pub ascii_utf8 : (s : List ℕ) → ((j : ℕ) → j < length s → get_or s j 0 < 128) → is_utf8 s ≡ true
unfolding utf8_after
ascii_utf8 [] h = refl
ascii_utf8 (b ∷ s) h = rw (following_1 b (h 0 (omega arith)), utf8_after) (ascii_utf8 s (λ j g. h (suc j) (omega arith)))

module _ (m : ℕ) (x : List ℕ) (B : Bounded m (length x) x) (small : m < 128) where
  ascii_part : (a e : ℕ) → is_utf8 (part a e x) ≡ true
  ascii_part a e = ascii_utf8 (part a e x) (λ j h.
      let q = rw (length_part x a e) at h in
      rw (part_get 0 x a e j (omega arith)) (omega (arith, B.at_most (a + j) (omega arith))))

  ascii_pieces : (start : ℕ) (t : List ℕ) → all (λ k. is_utf8 k.text) (pieces 256 token_of start t x) ≡ true
  unfolding all pieces
  ascii_pieces start [] = refl
  ascii_pieces start (w ∷ ws) = rw (ascii_part start (w / 256)) (ascii_pieces (w / 256) ws)

  pub ascii_tokens : (t : List ℕ) → true ≡ question_3 t x
  ascii_tokens t = sym (ascii_pieces 0 t)

pub ruleset bounds = (bounded_none, bounded_next, bounded_end, ascii_tokens)
