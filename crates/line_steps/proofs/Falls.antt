-- The closes of blocks, and falling to the next line or past an else chain.
--   end_value, end_inside      the close of a block, as `Blocks::end` answers it
--   else_yes, else_no          the close at an else-close
--   chain_stop, chain_next     the loop of `chain_end`
--   falls_past, falls_next, falls_chain    where a line falls to
-- Assumes nothing.
use Rattle.std.specs.Prelude.{if◌then◌else◌, Option, None, Some, SomeIff, IfSome}
use Prim.Native.Nat.{ℕ, zero, suc, ◌+◌, ◌-◌, ◌<◌, ◌≤◌}
use mathlib.Core.Path.{◌≡◌, refl, sym, ap, ◌∙◌}
use mathlib.Core.Logic.{◌≢◌}
use mathlib.Core.Bool.{Bool, true, false}
use mathlib.Core.List.{List, [], ◌∷◌}
use native.Mathlib.Omega.{arith}
use lib.ListN.{length, get_or, get_or-eq_default}
use Rattle.definitions.specs.Lists.{any}
use Rattle.definitions.specs.Model.{Line, line, no_line}
use Rattle.definitions.specs.Statements.{has_kw}
use Rattle.definitions.specs.Blocks.{Blocks}
use Rattle.definitions.specs.FlowGraph.{is_else_close, end_of, else_end, chain_end, falls}
use Rattle.model.proofs.Decode.{length_listing}
use Rattle.blocks.specs.Entries.{place}
use Rattle.blocks.specs.Structure.{Ended}

place_is : (e d : ℕ) → place e ≡ Some d → e ≡ suc d
place_is zero d q = let z : ◌≡◌ {A = ℕ} 0 1 = cc in absurd (omega arith)
place_is (suc e) d q = let z : e ≡ d = cc in ap suc z

module _ (L : List Line) (b : Blocks) (es : List ℕ) (E : Ended L b es) where
  module _ (c n : ℕ) (h : c < n) (all : length L ≡ n) (r : Option ℕ) (a : SomeIff r (1 ≤ get_or es c 0) (get_or es c 0 - 1)) where
    pub end_value : r ≡ end_of b c
    end_value = go r (get_or es c 0) a ∙ E.ended c (omega arith)
      where
        go : (r : Option ℕ) (e : ℕ) → SomeIff r (1 ≤ e) (e - 1) → r ≡ place e
        go None zero a = refl
        go None (suc e) a = absurd (a (omega arith))
        go (Some d) zero a = absurd (omega arith)
        go (Some d) (suc e) a = let z : d ≡ e = omega arith in ap Some z

    pub end_inside : IfSome r (λ d. (c < d) × (d < n))
    end_inside = go r (get_or es c 0) a (E.later c (omega arith))
      where
        go : (r : Option ℕ) (e : ℕ) → SomeIff r (1 ≤ e) (e - 1) → (e ≢ 0 → (c + 1 < e) × (e ≤ length L)) → IfSome r (λ d. (c < d) × (d < n))
        go None e a w = tt
        go (Some d) e a w = let z = w (λ z. omega arith) in (omega (arith, z.0), omega (arith, z.1))

  end_later : (c d : ℕ) → c < length L → end_of b c ≡ Some d → (c < d) × (d < length L)
  end_later c d h q =
      let e = place_is (get_or es c 0) d (E.ended c h ∙ q) in
      let w = E.later c h (λ z. omega arith) in
      (omega (arith, w.0), omega (arith, w.1))

  else_later : (c d : ℕ) → c < length L → else_end L b c ≡ Some d → (c < d) × (d < length L)
  else_later c d h q = go (is_else_close (line L c)) q
    where
      go : (t : Bool) → (if t then end_of b c else None) ≡ Some d → (c < d) × (d < length L)
      go true y = end_later c d h y
      go false y = let z : ◌≡◌ {A = ℕ} 0 1 = cc in absurd (omega arith)

  -- as many steps as lines are enough
  chain_fuel : (k m p : ℕ) → p < length L → length L ≤ k + p → length L ≤ m + p → chain_end L b k p ≡ chain_end L b m p
  unfolding chain_end
  chain_fuel zero m p h f g = absurd (omega arith)
  chain_fuel (suc k) zero p h f g = absurd (omega arith)
  chain_fuel (suc k) (suc m) p h f g = go (else_end L b p) refl (λ d x y z. chain_fuel k m d x y z)
    where
      go : (o : Option ℕ) → else_end L b p ≡ o → ((d : ℕ) → d < length L → length L ≤ k + d → length L ≤ m + d → chain_end L b k d ≡ chain_end L b m d)
          → ◌≡◌ {A = ℕ} (elim o [ None ↦ p | Some e ↦ chain_end L b k e ]) (elim o [ None ↦ p | Some e ↦ chain_end L b m e ])
      go None q again = refl
      go (Some d) q again = let w = else_later p d h q in again d w.1 (omega (arith, w.0)) (omega (arith, w.0))

  pub chain_next : (c d n : ℕ) (o : Option ℕ) → c < n → length L ≡ n → o ≡ else_end L b c → o ≡ Some d → chain_end L b (length L) c ≡ chain_end L b (length L) d
  unfolding chain_end
  chain_next c d n o h all e z =
      let w = else_later c d (omega arith) (sym e ∙ z) in
      let s : length L ≡ suc (length L - 1) = omega arith in
      ap (λ (k : ℕ). chain_end L b k c) s
      ∙ ap (λ (o : Option ℕ). elim o as (λ x. ℕ) [ None ↦ c | Some d ↦ chain_end L b (length L - 1) d ]) (sym e ∙ z)
      ∙ chain_fuel (length L - 1) (length L) d w.1 (omega (arith, w.0)) (omega arith)

module _ (L : List Line) (b : Blocks) where
  -- o is the close at the else-close of line c
  module _ (c : ℕ) (o : Option ℕ) (t : Bool) (u : t ≡ is_else_close (line L c)) where
    pub else_yes : t ≡ true → o ≡ end_of b c → o ≡ else_end L b c
    else_yes v e = rw (← u, v) e

    pub else_no : t ≡ false → None ≡ else_end L b c
    else_no v = rw (← u, v)

  pub chain_stop : (n c : ℕ) (o : Option ℕ) → o ≡ else_end L b c → o ≡ None → chain_end L b n c ≡ c
  unfolding chain_end
  chain_stop zero c o e z = refl
  chain_stop (suc n) c o e z = ap (λ (o : Option ℕ). elim o as (λ x. ℕ) [ None ↦ c | Some d ↦ chain_end L b n d ]) (sym e ∙ z)

  falls_of : (i : ℕ) (o : Option ℕ) → else_end L b (i + 1) ≡ o
      → falls L b i ≡ (elim o as (λ x. List ℕ) [ None ↦ (i + 1) ∷ [] | Some c ↦ (chain_end L b (length L) c + 1) ∷ [] ])
  unfolding falls
  falls_of i o e = ap (λ (o : Option ℕ). elim o as (λ x. List ℕ) [ None ↦ (i + 1) ∷ [] | Some c ↦ (chain_end L b (length L) c + 1) ∷ [] ]) e

  pub falls_past : (i : ℕ) → length L ≤ i + 1 → falls L b i ≡ (i + 1) ∷ []
  unfolding has_kw any
  falls_past i h = falls_of i None (rw (get_or-eq_default L no_line {n = i + 1} h))

  module _ (i : ℕ) (o : Option ℕ) (e : o ≡ else_end L b (i + 1)) where
    pub falls_next : o ≡ None → falls L b i ≡ (i + 1) ∷ []
    falls_next z = falls_of i None (sym e ∙ z)

    pub falls_chain : (t c : ℕ) → o ≡ Some c → t ≡ chain_end L b (length L) c → falls L b i ≡ (t + 1) ∷ []
    falls_chain t c z y = falls_of i (Some c) (sym e ∙ z) ∙ ap (λ (c : ℕ). (c + 1) ∷ []) (sym y)

pub ruleset closing = (end_value, end_inside, length_listing)

pub ruleset falling = (chain_next, chain_stop, falls_past, falls_next, falls_chain, length_listing)
