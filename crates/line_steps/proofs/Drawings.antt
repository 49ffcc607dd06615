-- Drawing edges, one after the other.
--   matrices_kept                 the matrices have room in a list of the same length
--   drawn_step, drawn_past        one edge; one that would lead past the last line
--   drawn_none, drawn_as, drawn_both    no edges, the same edges, first some and then others
--   drawing_start, drawing_next, drawing_end    a loop that draws
--   member_append                 a member of lists one after the other
-- Assumes nothing.
use Prim.Native.Nat.{ℕ, ◌<◌, ◌≤◌}
use mathlib.Core.Path.{◌≡◌, refl, sym, ap, ◌∙◌}
use mathlib.Core.Bool.{Bool, false, ◌&&◌, ◌||◌, and-false, or-false, or_assoc}
use mathlib.Core.List.{List, [], ◌∷◌, ◌++◌}
use native.Mathlib.Omega.{arith}
use borrow.Author.Tests.{ne_eqb}
use lib.Dec.{eqb}
use lib.ListN.{length}
use Rattle.definitions.specs.Lists.{any, member}
use Rattle.bits.specs.Edges.{Matrices, edges, Added}
use Rattle.line_steps.specs.Drawing.{Drawing, Drawn, from}

pub matrices_kept : (n r : ℕ) (l m : List ℕ) → Matrices n r l → length m ≡ length l → Matrices n r m
matrices_kept n r l m M e = record { wide = M.wide; room = omega (arith, M.room); small = M.small }

pub member_append : (x : ℕ) (s t : List ℕ) → member x (s ++ t) ≡ (member x s || member x t)
unfolding any
member_append x [] t = refl
member_append x (y ∷ s) t = ap (eqb x y ||◌) (member_append x s t) ∙ sym (or_assoc (eqb x y) (member x s) (member x t))

module _ (n r : ℕ) where
  pub drawn_none : (l : List ℕ) (f : ℕ → ℕ → Bool) → ((p q : ℕ) → p < n → q < n → f p q ≡ false) → Drawn n r l l f
  drawn_none l f e = record {
    edge = λ p q hp hq. sym (rw (e p q hp hq) (or-false (edges n r l p q)));
    agree = λ a. a;
    kept = λ v h. refl;
  }

  pub drawn_as : (l₀ l : List ℕ) (f g : ℕ → ℕ → Bool) → Drawn n r l₀ l f → ((p q : ℕ) → p < n → q < n → f p q ≡ g p q) → Drawn n r l₀ l g
  drawn_as l₀ l f g D e = record {
    edge = λ p q hp hq. D.edge p q hp hq ∙ ap (edges n r l₀ p q ||◌) (e p q hp hq);
    agree = D.agree;
    kept = D.kept;
  }

  pub drawn_both : (l₀ l₁ l₂ : List ℕ) (f g : ℕ → ℕ → Bool) → Drawn n r l₀ l₁ f → Drawn n r l₁ l₂ g → Drawn n r l₀ l₂ (λ p q. f p q || g p q)
  drawn_both l₀ l₁ l₂ f g D E = record {
    edge = λ p q hp hq. E.edge p q hp hq ∙ ap (◌|| g p q) (D.edge p q hp hq) ∙ or_assoc (edges n r l₀ p q) (f p q) (g p q);
    agree = λ a. E.agree (D.agree a);
    kept = λ v h. E.kept v h ∙ D.kept v h;
  }

  pub drawn_step : (p q : ℕ) (l₀ l : List ℕ) → Added n r p q l₀ l → Drawn n r l₀ l (from p (q ∷ []))
  unfolding any
  drawn_step p q l₀ l A = record {
    edge = λ i j hi hj. A.edge i j hi hj ∙ ap (λ (t : Bool). edges n r l₀ i j || (eqb i p && t)) (sym (or-false (eqb j q)));
    agree = A.agree;
    kept = A.kept;
  }

  pub drawn_past : (p q : ℕ) (l : List ℕ) → n ≤ q → Drawn n r l l (from p (q ∷ []))
  unfolding any
  drawn_past p q l h = drawn_none l (from p (q ∷ [])) (λ i j hi hj. rw (ne_eqb j q (λ e. omega arith)) (and-false (eqb i p)))

  module _ (l₀ : List ℕ) (f : ℕ → ℕ → Bool) where
    pub drawing_start : Drawing n r l₀ l₀ f f
    drawing_start = record { edge = λ i j hi hj. refl; agree = λ a. a; kept = λ v h. refl }

    module _ (l : List ℕ) (g : ℕ → ℕ → Bool) (D : Drawing n r l₀ l f g) where
      pub drawing_next : (m : List ℕ) (d k : ℕ → ℕ → Bool) → Drawn n r l m d → ((p q : ℕ) → p < n → q < n → g p q ≡ (d p q || k p q)) → Drawing n r l₀ m f k
      drawing_next m d k E e = record {
        edge = λ p q hp hq. ap (◌|| k p q) (E.edge p q hp hq) ∙ or_assoc (edges n r l p q) (d p q) (k p q) ∙ ap (edges n r l p q ||◌) (sym (e p q hp hq)) ∙ D.edge p q hp hq;
        agree = λ a. E.agree (D.agree a);
        kept = λ v h. E.kept v h ∙ D.kept v h;
      }

      pub drawing_end : ((p q : ℕ) → p < n → q < n → g p q ≡ false) → Drawn n r l₀ l f
      drawing_end e = record {
        edge = λ p q hp hq. sym (or-false (edges n r l p q)) ∙ ap (edges n r l p q ||◌) (sym (e p q hp hq)) ∙ D.edge p q hp hq;
        agree = D.agree;
        kept = D.kept;
      }
