-- An array goes element by element: laws of `items` and `elements_from`, without the bound.
--   array_items                                         "[", and "]" or elements
--   elements_close, elements_more, elements_none        what stands behind an element, by the separator
-- Assumes nothing.
use Rattle.std.specs.Prelude.{Option, None, Some}
use Prim.Native.Nat.{ℕ, zero, suc, ◌≤◌, ◌<◌}
use mathlib.Core.Path.{◌≡◌, refl, sym, ap, ◌∙◌}
use mathlib.Core.Bool.{Bool, true, false}
use mathlib.Core.List.{List, [], ◌∷◌}
use native.Mathlib.Omega.{arith}
use lib.ListN.{length}
use Rattle.json_definitions.specs.Parser.{Got, got, Parser, pure, after, or_try, ◌>>=◌, ◌>>◌, lexeme, elements, array}
use Rattle.json_theory.specs.Steps.{separator, elements_from, items}
use Rattle.json_theory.proofs.Results.{never, same_got}
use Rattle.json_theory.proofs.Progress.{lexeme_rest}

no_true : true ≡ false → ⊥
no_true e = let z : ◌≡◌ {A = ℕ} 0 1 = cc in omega arith

module _ {A : Type 0} (p : Parser A) where
  pub array_items : (s : List ℕ) → array p s ≡ after (lexeme (91 ∷ []) s) (λ _ r. or_try (after (lexeme (93 ∷ []) r) (λ _. pure [])) (items p) r)
  unfolding array items elements_from
  array_items s = refl

  module _ (shorter : (s : List ℕ) (g : Got A) → p s ≡ Some g → length g.rest ≤ length s) where
    same_after : (f f' : Parser (List A)) (o : Option (Got A)) → ((g : Got A) → o ≡ Some g → f g.rest ≡ f' g.rest)
        → after o (λ x t. after (f t) (λ xs. pure (x ∷ xs))) ≡ after o (λ x t. after (f' t) (λ xs. pure (x ∷ xs)))
    unfolding after
    same_after f f' None h = refl
    same_after f f' (Some g) h = rw (h g refl)

    same_more : (f f' : Parser (List A)) (s : List ℕ) → ((t : List ℕ) → length t < length s → f t ≡ f' t)
        → (lexeme (44 ∷ []) >> (p >>= (λ x. f >>= (λ xs. pure (x ∷ xs))))) s ≡ (lexeme (44 ∷ []) >> (p >>= (λ x. f' >>= (λ xs. pure (x ∷ xs))))) s
    same_more f f' s h = go (lexeme (44 ∷ []) s) refl
      where
        go : (o : Option (Got (Unit {0}))) → lexeme (44 ∷ []) s ≡ o → after o (λ _. p >>= (λ x. f >>= (λ xs. pure (x ∷ xs)))) ≡ after o (λ _. p >>= (λ x. f' >>= (λ xs. pure (x ∷ xs))))
        go None e = unfold after in refl
        go (Some g) e = unfold after in same_after f f' (p g.rest) (λ k q. h k.rest (let a = lexeme_rest (44 ∷ []) s g e in let b = shorter g.rest k q in omega arith))

    same_or : (o : Option (Got (List A))) (q q' : Parser (List A)) (s : List ℕ) → q s ≡ q' s → or_try o q s ≡ or_try o q' s
    unfolding or_try
    same_or None q q' s e = e
    same_or (Some g) q q' s e = refl

    elements_fuel : (n m : ℕ) (s : List ℕ) → length s < n → length s < m → elements p n s ≡ elements p m s
    unfolding elements
    elements_fuel zero m s h k = absurd (omega arith)
    elements_fuel (suc n) zero s h k = absurd (omega arith)
    elements_fuel (suc n) (suc m) s h k =
        same_or (after (lexeme (93 ∷ []) s) (λ _. pure [])) (lexeme (44 ∷ []) >> (p >>= (λ x. elements p n >>= (λ xs. pure (x ∷ xs))))) (lexeme (44 ∷ []) >> (p >>= (λ x. elements p m >>= (λ xs. pure (x ∷ xs))))) s
        (same_more (elements p n) (elements p m) s (λ t l. elements_fuel n m t (omega arith) (omega arith)))

    pub elements_go : (t : List ℕ) → elements_from p t ≡ or_try (after (lexeme (93 ∷ []) t) (λ _. pure [])) (lexeme (44 ∷ []) >> items p) t
    unfolding elements_from items
    elements_go t =
        (unfold elements in same_or (after (lexeme (93 ∷ []) t) (λ _. pure [])) (lexeme (44 ∷ []) >> (p >>= (λ x. elements p (length t) >>= (λ xs. pure (x ∷ xs))))) (lexeme (44 ∷ []) >> (p >>= (λ x. elements_from p >>= (λ xs. pure (x ∷ xs))))) t
        (same_more (elements p (length t)) (elements_from p) t (λ u l. elements_fuel (length t) (suc (length u)) u l (omega arith))))

    -- by the separator
    module _ (t x : List ℕ) where
      pub elements_close : separator t ≡ got false x → elements_from p t ≡ got [] x
      unfolding separator or_try after
      elements_close e = elements_go t ∙ go (lexeme (93 ∷ []) t) (lexeme (44 ∷ []) t) refl e
        where
          go : (o o' : Option (Got (Unit {0}))) → lexeme (44 ∷ []) t ≡ o' → or_try (after o (λ _. pure false)) (λ _. after o' (λ _. pure true)) t ≡ got false x → or_try (after o (λ _. pure [])) (lexeme (44 ∷ []) >> items p) t ≡ got [] x
          go (Some g) o' f e = let q = ap (λ (y : Got Bool). y.rest) (same_got _ _ e) in rw q
          go None (Some g) f e = let q = ap (λ (y : Got Bool). y.value) (same_got _ _ e) in let z : true ≡ false = q in absurd (no_true z)
          go None None f e = never _ e

      pub elements_more : separator t ≡ got true x → elements_from p t ≡ items p x
      unfolding separator or_try after
      elements_more e = elements_go t ∙ go (lexeme (93 ∷ []) t) (lexeme (44 ∷ []) t) refl e
        where
          go : (o o' : Option (Got (Unit {0}))) → lexeme (44 ∷ []) t ≡ o' → or_try (after o (λ _. pure false)) (λ _. after o' (λ _. pure true)) t ≡ got true x → or_try (after o (λ _. pure [])) (lexeme (44 ∷ []) >> items p) t ≡ items p x
          go (Some g) o' f e = let q = ap (λ (y : Got Bool). y.value) (same_got _ _ e) in let z : false ≡ true = q in absurd (no_true (sym z))
          go None (Some g) f e = let q = ap (λ (y : Got Bool). y.rest) (same_got _ _ e) in rw (f, q)
          go None None f e = never _ e

      pub elements_none : separator t ≡ None → elements_from p t ≡ None
      unfolding separator or_try after
      elements_none e = elements_go t ∙ go (lexeme (93 ∷ []) t) (lexeme (44 ∷ []) t) refl e
        where
          go : (o o' : Option (Got (Unit {0}))) → lexeme (44 ∷ []) t ≡ o' → or_try (after o (λ _. pure false)) (λ _. after o' (λ _. pure true)) t ≡ None → or_try (after o (λ _. pure [])) (lexeme (44 ∷ []) >> items p) t ≡ None
          go (Some g) o' f e = never _ (sym e)
          go None (Some g) f e = never _ (sym e)
          go None None f e = rw f
