-- A token by its kind and its text, as rules for `search`: what is looked up of a part, said of the token that has that text.
--   family_at, names_at
-- Assumes nothing.
use Rattle.std.specs.Prelude.{Option}
use mathlib.Core.Path.{◌≡◌}
use mathlib.Core.Bool.{Bool}
use mathlib.Core.List.{List}
use Prim.Native.Nat.{ℕ}
use Rattle.definitions.specs.Model.{Token, tok}
use Rattle.definitions.specs.Family.{Family, fam_of}
use Rattle.family.specs.Register.{family_of, names_family}
use Rattle.family.specs.declared.Register.{Register}

module _ (t : Token) (k : ℕ) (s : List ℕ) (d : k ≡ t.kind) (q : s ≡ t.text) where
  pub family_at : (r : Option Register) → family_of s r ≡ fam_of (tok s k) → family_of t.text r ≡ fam_of t
  family_at r e = rw (q, d) at e

  pub names_at : (o : Option Family) (y : Bool) → y ≡ names_family o (tok s k) → y ≡ names_family o t
  names_at o y e = rw (q, d) at e

pub ruleset families = (family_at, names_at)
