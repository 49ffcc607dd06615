-- Rules for the needs of the functions over a family's hash.
--   row_hash                            the rows of the table of names, each computed
--   hash_row, hash_behind, hash_part, hash_whole    `hash_of`
--   some_row, some_numbered, some_var, some_nothing    `is_some`
--   first_token                         `is_family`
--   family_hash                         `family_hash`
-- Assumes nothing.
use Rattle.std.specs.Prelude.{Option, None, Some}
use Prim.Native.Nat.{ℕ, zero, suc, ◌+◌, ◌*◌, ◌%◌, ◌<◌, ◌≤◌}
use mathlib.Core.Path.{◌≡◌, refl, ap, ◌∙◌}
use mathlib.Core.Bool.{Bool, true, false, cond}
use mathlib.Core.List.{List, [], ◌∷◌}
use native.Mathlib.Omega.{arith}
use lib.Dec.{ltb}
use borrow.Author.Tests.{lt-ltb, le-ltb}
use lib.ListN.{get_or}
use Rattle.definitions.specs.Lists.{part, is_some}
use Rattle.definitions.specs.Model.{Line, token, line}
use Rattle.definitions.specs.Family.{Family, legacy, family}
use Rattle.family.specs.declared.Register.{Register}
use Rattle.family.specs.declared.Register.TheVariants.{Legacy, Numbered, Var}
use Rattle.legacy.specs.Table.{row_name}
use Rattle.names.specs.Hash as names
use Rattle.family.specs.Register.{family_of, names_family}
use Rattle.families.specs.Families.{hash, hash_of, multiplier}

-- the second and the third byte of the names of the rows
abbrev seconds : List ℕ
seconds = 97 ∷ 98 ∷ 99 ∷ 100 ∷ 115 ∷ 100 ∷ 98 ∷ 115 ∷ []

abbrev thirds : List ℕ
thirds = 120 ∷ 120 ∷ 120 ∷ 120 ∷ 105 ∷ 105 ∷ 112 ∷ 112 ∷ []

row_bytes : (i : ℕ) → i < 8 → row_name i ≡ 114 ∷ get_or seconds i 0 ∷ get_or thirds i 0 ∷ []
unfolding legacy
row_bytes zero h = refl
row_bytes (suc zero) h = refl
row_bytes (suc (suc zero)) h = refl
row_bytes (suc (suc (suc zero))) h = refl
row_bytes (suc (suc (suc (suc zero)))) h = refl
row_bytes (suc (suc (suc (suc (suc zero))))) h = refl
row_bytes (suc (suc (suc (suc (suc (suc zero)))))) h = refl
row_bytes (suc (suc (suc (suc (suc (suc (suc zero))))))) h = refl
row_bytes (suc (suc (suc (suc (suc (suc (suc (suc i)))))))) h = absurd (omega arith)

pub row_hash : (m i v : ℕ) → v ≡ names.hash m (114 ∷ get_or seconds i 0 ∷ get_or thirds i 0 ∷ []) → i < 8 → v % 247 ≡ hash m (row_name i)
unfolding hash
row_hash m i v e h = rw (row_bytes i h, e)

module _ (m : ℕ) (t s : List ℕ) (r : Option Register) (is_m : m ≡ multiplier t) where
  pub hash_row : (i w v : ℕ) → r ≡ Some (Legacy i w) → i < 8 → v ≡ hash m (row_name i) → v ≡ hash_of (multiplier t) (family_of s r)
  hash_row i w v e h q = rw (← is_m, e, lt-ltb i 8 h) q

  pub hash_part : (n w v : ℕ) (p : List ℕ) → r ≡ Some (Numbered n w) → p ≡ part 0 n s → v ≡ names.hash m p → v % 247 ≡ hash_of (multiplier t) (family_of s r)
  unfolding hash
  hash_part n w v p e q f = rw (← is_m, e, f, q)

  pub hash_whole : (v : ℕ) → r ≡ Some Var → v ≡ names.hash m s → v % 247 ≡ hash_of (multiplier t) (family_of s r)
  unfolding hash
  hash_whole v e f = rw (← is_m, e, f)

module _ (s : List ℕ) (r : Option Register) where
  pub hash_behind : (m i w : ℕ) → r ≡ Some (Legacy i w) → 8 ≤ i → 0 ≡ hash_of m (family_of s r)
  hash_behind m i w e h = rw (e, le-ltb i 8 h)

  pub some_row : (i w : ℕ) → r ≡ Some (Legacy i w) → ltb i 8 ≡ is_some (family_of s r)
  some_row i w e = rw e (go (ltb i 8))
    where
      go : (b : Bool) → b ≡ is_some {A = Family} (cond b (Some (record { name = row_name i; width = w })) None)
      go true = refl
      go false = refl

  pub some_numbered : (n w : ℕ) → r ≡ Some (Numbered n w) → true ≡ is_some (family_of s r)
  some_numbered n w e = rw e

  pub some_var : r ≡ Some Var → true ≡ is_some (family_of s r)
  some_var e = rw e

  pub some_nothing : r ≡ None → false ≡ is_some (family_of s r)
  some_nothing e = rw e

pub first_token : (L : List Line) (o : Option Family) (y : Bool) (t : List ℕ) (k i : ℕ) → i ≡ get_or t (257 + 2 * k) 0 → y ≡ names_family o (token (line L i) 0)
    → y ≡ names_family o (token (line L (get_or t (257 + 2 * k) 0)) 0)
first_token L o y t k i e q = rw (← e) q

pub family_hash : (L : List Line) (t s : List ℕ) (r : Option Register) (k i m h : ℕ) → i ≡ get_or t (257 + 2 * k) 0 → s ≡ (token (line L i) 0).text → family_of s r ≡ family s
    → h ≡ hash_of m (family_of s r) → h ≡ hash_of m (family (token (line L (get_or t (257 + 2 * k) 0)) 0).text)
family_hash L t s r k i m h e q f g = rw (← e, ← q) (g ∙ ap (hash_of m) f)

pub ruleset hash_rules = (row_hash, hash_row, hash_behind, hash_part, hash_whole, some_row, some_numbered, some_var, some_nothing, first_token, family_hash)
