-- Going into the branches of a definition.
--   if_has, case_has             what holds of each branch holds of the whole
--   IfSome Q o                   Q holds of what the option o holds
--   do_has, required, map_has    so it does if it does at the end of a `do` block, where all that was required is true; and of what is mapped
--   and_split, or_split          both parts of an `&&` that is true, of an `||` that is false
--   ≟_true, some_same           texts that compare equal are equal, and so are what equal options hold
--   true_false, none_some        cannot be
--   true_unless, false_unless    a test is decided by what would follow otherwise
-- Assumes nothing.
use Rattle.std.specs.Prelude.{Option, None, Some}
use Rattle.std.specs.Option.{option_map}
use Prim.Native.Nat.{ℕ}
use mathlib.Core.Path.{◌≡◌, refl, sym, ap₂, subst, ◌∙◌}
use mathlib.Core.Bool.{Bool, true, false, cond, ◌&&◌, ◌||◌, true≢false}
use mathlib.Core.List.{List, [], ◌∷◌}
use native.Mathlib.Omega.{arith}
use lib.Dec.{eqb}
use borrow.Author.Tests.{eqb-true}
use Rattle.definitions.specs.Lists.{◌>>=◌, require, ◌≟◌}

pub true_false {ℓ} : {A : Type ℓ} {b : Bool} → b ≡ true → b ≡ false → A
true_false p q = absurd (true≢false (sym p ∙ q))

pub true_unless : (b : Bool) → (b ≡ false → b ≡ true) → b ≡ true
true_unless true h = refl
true_unless false h = h refl

pub false_unless : (b : Bool) → (b ≡ true → b ≡ false) → b ≡ false
false_unless true h = h refl
false_unless false h = refl

pub none_some {ℓ} : {A : Type ℓ} {B : Type 0} {b : B} → ◌≡◌ {A = Option B} None (Some b) → A
none_some e = let z : ◌≡◌ {A = ℕ} 0 1 = cc in absurd (omega arith)

pub some_same : {B : Type 0} {a b : B} → Some a ≡ Some b → a ≡ b
some_same e = cc

pub and_split : (a b : Bool) → (a && b) ≡ true → (a ≡ true) × (b ≡ true)
and_split true b e = (refl, e)
and_split false b e = true_false refl (sym e)

pub or_split : (a b : Bool) → (a || b) ≡ false → (a ≡ false) × (b ≡ false)
or_split true b e = true_false refl e
or_split false b e = (refl, e)

pub ≟_true : (s t : List ℕ) → (s ≟ t) ≡ true → s ≡ t
unfolding ◌≟◌
≟_true [] [] e = refl
≟_true [] (b ∷ t) e = true_false e refl
≟_true (a ∷ s) [] e = true_false e refl
≟_true (a ∷ s) (b ∷ t) e = let r = and_split (eqb a b) (s ≟ t) e in ap₂ (λ x xs. x ∷ xs) (eqb-true a b r.0) (≟_true s t r.1)

module _ {X : Type 0} (P : X → Type 0) where
  pub if_has : (b : Bool) {x y : X} → (b ≡ true → P x) → (b ≡ false → P y) → P (cond b x y)
  if_has true f g = f refl
  if_has false f g = g refl

  pub case_has : {A : Type 0} (o : Option A) {x : X} {f : A → X} → P x → ((a : A) → o ≡ Some a → P (f a))
      → P (elim o [ None ↦ x | Some a ↦ f a ])
  case_has None p h = p
  case_has (Some a) p h = h a refl

-- Q holds of what the option holds
abbrev pub IfSome : {B : Type 0} → (B → Type 0) → Option B → Type 0
IfSome Q o = (b : _) → o ≡ Some b → Q b

module _ {A B : Type 0} (Q : B → Type 0) where
  pub do_has : (o : Option A) {f : A → Option B} → ((a : A) → o ≡ Some a → IfSome Q (f a)) → IfSome Q (o >>= f)
  do_has None h b e = none_some e
  do_has (Some a) h b e = h a refl b e

module _ {A B : Type 0} (P : A → Type 0) (Q : B → Type 0) where
  pub map_has : (f : A → B) → ((a : A) → P a → Q (f a)) → (o : Option A) → IfSome P o → IfSome Q (option_map f o)
  map_has f h None r b e = none_some e
  map_has f h (Some a) r b e = subst Q (some_same e) (h a (r a refl))

pub required : (t : Bool) {u : Unit {0}} → require t ≡ Some u → t ≡ true
required true e = refl
required false e = none_some e
