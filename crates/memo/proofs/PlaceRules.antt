-- What is found of a register, as rules for `search`.
--   register_some, register_none        `search_place`
--   token_register, token_other         `token_place`
-- Assumes nothing.
use Rattle.std.specs.Prelude.{Option, None, Some}
use Prim.Native.Nat.{ℕ}
use mathlib.Core.Path.{◌≡◌, refl, sym, ap, ◌∙◌}
use mathlib.Core.Bool.{Bool, true, false}
use mathlib.Core.List.{List}
use native.Mathlib.Omega.{arith}
use borrow.Author.Tests.{eq-eqb, ne_eqb}
use lib.ListN.{take}
use lib.Seq.{take_all}
use Rattle.definitions.specs.Lists.{is_some}
use Rattle.definitions.specs.Model.{Token, Line}
use Rattle.definitions.specs.Family.{Family, family, fam_of}
use Rattle.definitions.specs.Recover.{defined_families}
use Rattle.theory.proofs.Bools.{clash}
use Rattle.family.specs.declared.Register.{Register}
use Rattle.family.specs.Register.{family_of}
use Rattle.families.specs.Families.{place_of}
use Rattle.families.specs.Tokens.{Finds}
use Rattle.memo.specs.Found.{found}

-- One text, one token

module _ (L : List Line) (count : ℕ) (table : List ℕ) (F : Finds L count table) (s : List ℕ) (r : Option Register) (q : family_of s r ≡ family s) (y : Bool) (a : (s : List ℕ) → y ≡ is_some (family_of s r)) where
  pub register_some : (c : ℕ) → y ≡ true → c ≡ place_of (take count (defined_families L)) (family_of s r) → Some c ≡ found (defined_families L) (family s)
  register_some c b e = rw (← q) (go (family_of s r) (sym (a s) ∙ b) (e ∙ ap (λ (fs : List (List ℕ)). place_of fs (family_of s r)) (take_all count (defined_families L) (omega (arith, F.all)))))
    where
      go : (o : Option Family) → is_some o ≡ true → c ≡ place_of (defined_families L) o → Some c ≡ found (defined_families L) o
      go None n e = clash n refl
      go (Some x) n e = ap (λ (k : ℕ). Some k) e

  pub register_none : y ≡ false → None ≡ found (defined_families L) (family s)
  register_none b = rw (← q) (go (family_of s r) (sym (a s) ∙ b))
    where
      go : (o : Option Family) → is_some o ≡ false → None ≡ found (defined_families L) o
      go None n = refl
      go (Some x) n = clash refl n

module _ (fs : List (List ℕ)) (u : Token) (k : ℕ) (e : k ≡ u.kind) where
  pub token_register : (c : Option ℕ) (s : List ℕ) → k ≡ 1 → s ≡ u.text → c ≡ found fs (family s) → c ≡ found fs (fam_of u)
  unfolding fam_of
  token_register c s h p q = rw (← e, eq-eqb k 1 h, ← p) q

  pub token_other : (k ≡ 1 → ⊥) → None ≡ found fs (fam_of u)
  unfolding fam_of
  token_other h = rw (← e, ne_eqb k 1 h)

pub ruleset places = (register_some, register_none, token_register, token_other)
