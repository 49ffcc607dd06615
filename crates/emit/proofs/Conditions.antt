-- The condition of a header, by its kind.
--   leading_one, leading_is      a piece that is no leading test; one that is
--   test_one, test_leading, test_guard    by the kind of the header
-- Assumes nothing.
use Rattle.std.specs.Prelude.{Option, Some, None}
use mathlib.Core.Path.{◌≡◌, refl, sym, ap, ◌∙◌}
use mathlib.Core.List.{List, []}
use Prim.Native.Nat.{ℕ, zero, suc, ◌<◌}
use native.Mathlib.Omega.{arith}
use Rattle.definitions.specs.Lists.{or_else, ascii}
use Rattle.definitions.specs.Model.{Line, line}
use Rattle.definitions.specs.Condition.{condition, negate_cond}
use Rattle.definitions.specs.RecoverGotoLoops.{leading_test, one}
use Rattle.negate.specs.Tests.{test}
use Rattle.pieces.specs.Pieces.{piece, origin}
use Rattle.pieces.specs.Leading.{leading}
use Rattle.emit.specs.Lines.{test_read}

module _ (C : List Line) (p : ℕ) (r : Option ℕ) (e : leading (origin C p) r ≡ leading_test (piece C p) 0) where
  pub leading_one : r ≡ None → one ≡ or_else (leading_test (piece C p) 0) one
  leading_one q = ap (λ o. or_else o one) (sym (ap (leading (origin C p)) q) ∙ e)

  pub leading_is : (g : ℕ) → r ≡ Some g → negate_cond (test (origin C p) g) ≡ or_else (leading_test (piece C p) 0) one
  leading_is g q = ap (λ o. or_else o one) (sym (ap (leading (origin C p)) q) ∙ e)

module _ (C : List Line) (h s t : ℕ) where
  pub test_one : h ≡ 2 → one ≡ test_read C h s t
  unfolding test_read
  test_one e = rw e

  pub test_leading : h ≡ 3 → (q : ℕ) → q ≡ t → or_else (leading_test (piece C q) 0) one ≡ test_read C h s t
  unfolding test_read
  test_leading e q u = rw (e, u)

  pub test_guard : h < 2 → (i : ℕ) → i ≡ s → or_else (condition (line C i) (ascii "if")) [] ≡ test_read C h s t
  test_guard l i u = ap (λ j. or_else (condition (line C j) (ascii "if")) []) u ∙ go h l
    where
      go : (h : ℕ) → h < 2 → or_else (condition (line C s) (ascii "if")) [] ≡ test_read C h s t
      go zero l = unfold test_read in refl
      go (suc zero) l = unfold test_read in refl
      go (suc (suc h)) l = absurd (omega arith)
