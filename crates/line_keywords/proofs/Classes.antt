-- The bits of a keyword, from its first byte, as rules for `search`.
--   class_empty, class_g, class_e, class_w, class_f, class_d, class_s, class_b, class_c, class_other
--   class_of    what is said of a part, said of the text that the part is
-- Assumes nothing.
use Prim.Native.Nat.{ℕ}
use mathlib.Core.Path.{◌≡◌, refl, ◌∙◌}
use mathlib.Core.Bool.{cond}
use mathlib.Core.List.{List, [], ◌∷◌}
use native.Mathlib.Omega.{arith}
use borrow.Author.Tests.{ne_eqb}
use lib.ListN.{length, get_or}
use Rattle.definitions.specs.Lists.{◌≟◌, ascii}
use Rattle.line_keywords.specs.Masks.{class}

module _ (s : List ℕ) where
  pub class_empty : length s ≡ 0 → 0 ≡ class s
  unfolding class ◌≟◌
  class_empty = go s
    where
      go : (s : List ℕ) → length s ≡ 0 → 0 ≡ class s
      go [] e = refl
      go (x ∷ xs) e = absurd (omega arith)

  -- s is a text that starts with the byte c
  first : (c : ℕ) (P : List ℕ → Type 0) → (c ≡ 0 → ⊥) → ((xs : List ℕ) → P (c ∷ xs)) → get_or s 0 0 ≡ c → P s
  first c P z p = go s
    where
      go : (s : List ℕ) → get_or s 0 0 ≡ c → P s
      go [] e = absurd (z (omega arith))
      go (x ∷ xs) e = rw e (p xs)

  module _ (r : ℕ) where
    pub class_g : get_or s 0 0 ≡ 103 → r ≡ cond (s ≟ ascii "goto") 2 0 → r ≡ class s
    unfolding class ◌≟◌
    class_g e h = h ∙ first 103 (λ s. cond (s ≟ ascii "goto") 2 0 ≡ class s) (λ z. omega arith) (λ xs. refl) e

    pub class_e : get_or s 0 0 ≡ 101 → r ≡ cond (s ≟ ascii "else") 4 0 → r ≡ class s
    unfolding class ◌≟◌
    class_e e h = h ∙ first 101 (λ s. cond (s ≟ ascii "else") 4 0 ≡ class s) (λ z. omega arith) (λ xs. refl) e

    pub class_w : get_or s 0 0 ≡ 119 → r ≡ cond (s ≟ ascii "while") 8 0 → r ≡ class s
    unfolding class ◌≟◌
    class_w e h = h ∙ first 119 (λ s. cond (s ≟ ascii "while") 8 0 ≡ class s) (λ z. omega arith) (λ xs. refl) e

    pub class_f : get_or s 0 0 ≡ 102 → r ≡ cond (s ≟ ascii "for") 8 0 → r ≡ class s
    unfolding class ◌≟◌
    class_f e h = h ∙ first 102 (λ s. cond (s ≟ ascii "for") 8 0 ≡ class s) (λ z. omega arith) (λ xs. refl) e

    pub class_d : get_or s 0 0 ≡ 100 → r ≡ cond (s ≟ ascii "do") 9 (cond (s ≟ ascii "default") 64 0) → r ≡ class s
    unfolding class ◌≟◌
    class_d e h = h ∙ first 100 (λ s. cond (s ≟ ascii "do") 9 (cond (s ≟ ascii "default") 64 0) ≡ class s) (λ z. omega arith) (λ xs. refl) e

    pub class_s : get_or s 0 0 ≡ 115 → r ≡ cond (s ≟ ascii "switch") 16 0 → r ≡ class s
    unfolding class ◌≟◌
    class_s e h = h ∙ first 115 (λ s. cond (s ≟ ascii "switch") 16 0 ≡ class s) (λ z. omega arith) (λ xs. refl) e

    pub class_b : get_or s 0 0 ≡ 98 → r ≡ cond (s ≟ ascii "break") 32 0 → r ≡ class s
    unfolding class ◌≟◌
    class_b e h = h ∙ first 98 (λ s. cond (s ≟ ascii "break") 32 0 ≡ class s) (λ z. omega arith) (λ xs. refl) e

    pub class_c : get_or s 0 0 ≡ 99 → r ≡ cond (s ≟ ascii "continue") 160 (cond (s ≟ ascii "case") 64 0) → r ≡ class s
    unfolding class ◌≟◌
    class_c e h = h ∙ first 99 (λ s. cond (s ≟ ascii "continue") 160 (cond (s ≟ ascii "case") 64 0) ≡ class s) (λ z. omega arith) (λ xs. refl) e

  pub class_other : (get_or s 0 0 ≡ 103 → ⊥) → (get_or s 0 0 ≡ 101 → ⊥) → (get_or s 0 0 ≡ 119 → ⊥) → (get_or s 0 0 ≡ 102 → ⊥) → (get_or s 0 0 ≡ 100 → ⊥)
      → (get_or s 0 0 ≡ 115 → ⊥) → (get_or s 0 0 ≡ 98 → ⊥) → (get_or s 0 0 ≡ 99 → ⊥) → 0 ≡ class s
  unfolding class ◌≟◌
  class_other = go s
    where
      go : (s : List ℕ) → (get_or s 0 0 ≡ 103 → ⊥) → (get_or s 0 0 ≡ 101 → ⊥) → (get_or s 0 0 ≡ 119 → ⊥) → (get_or s 0 0 ≡ 102 → ⊥) → (get_or s 0 0 ≡ 100 → ⊥)
          → (get_or s 0 0 ≡ 115 → ⊥) → (get_or s 0 0 ≡ 98 → ⊥) → (get_or s 0 0 ≡ 99 → ⊥) → 0 ≡ class s
      go [] g e w f d z b c = refl
      go (x ∷ xs) g e w f d z b c = rw (ne_eqb x 103 g, ne_eqb x 101 e, ne_eqb x 119 w, ne_eqb x 102 f, ne_eqb x 100 d, ne_eqb x 115 z, ne_eqb x 98 b, ne_eqb x 99 c)

pub class_of : (r : ℕ) (s t : List ℕ) → r ≡ class s → s ≡ t → r ≡ class t
class_of r s t e q = e ∙ rw q

pub ruleset classes = (class_empty, class_g, class_e, class_w, class_f, class_d, class_s, class_b, class_c, class_other)
