-- What the place of a text among the names says of its family.
--   family_row, family_high    a name of the table: the family and the width by its place
--   family_other               no name of the table
--   family_numbered            a numbered name is none of the table
-- Assumes nothing.
use Rattle.std.specs.Prelude.{Option, None, Some}
use Rattle.std.specs.Option.{option_map}
use mathlib.Core.Path.{◌≡◌, refl, sym, ap, ◌∙◌}
use mathlib.Core.Bool.{Bool, true, false, ◌&&◌, not, cond}
use mathlib.Core.List.{List, [], ◌∷◌, ◌++◌}
use Prim.Native.Nat.{ℕ, suc, ◌+◌, ◌-◌, ◌/◌, ◌%◌, ◌≤◌, ◌<◌}
use native.Mathlib.Omega.{arith}
use lib.Dec.{eqb}
use borrow.Author.Tests.{eqb-true}
use lib.ListN.{get_or}
use Rattle.definitions.specs.Lists.{◌≟◌, all, range, position, concat, ascii, take_while, starts_with}
use Rattle.definitions.specs.Family.{Family, legacy, widths, legacy_family, is_high, other_family, is_numbered, numbered_family, family}
use Rattle.text.proofs.Texts.{≟_eq}
use Rattle.family.specs.declared.Register.{Register}
use Rattle.family.specs.declared.Register.TheVariants.{Legacy}
use Rattle.legacy.specs.Table.{all_names, name_at}
use Rattle.family.specs.Register.{number_end, family_of, rest_family}
use Rattle.legacy.proofs.Table.{below, position_at, name_count}
use Rattle.family.proofs.Digits.{flag, other_numbered}

-- A name of the table

same : Option Family → Option Family → Bool
same None p = false
same (Some f) None = false
same (Some f) (Some g) = (f.name ≟ g.name) && eqb f.width g.width

both : (a b : Bool) → (a && b) ≡ true → (a ≡ true) × (b ≡ true)
both true b h = (refl, h)
both false b h = let z : ◌≡◌ {A = ℕ} 0 1 = cc in absurd (omega arith)

family_eq : (x y : List ℕ) (v w : ℕ) → x ≡ y → v ≡ w
    → ◌≡◌ {A = Option Family} (Some (record { name = x; width = v })) (Some (record { name = y; width = w }))
family_eq x y v w p q = rw (p, q)

same_eq : (o p : Option Family) → same o p ≡ true → o ≡ p
unfolding same
same_eq None p e = let z : ◌≡◌ {A = ℕ} 0 1 = cc in absurd (omega arith)
same_eq (Some f) None e = let z : ◌≡◌ {A = ℕ} 0 1 = cc in absurd (omega arith)
same_eq (Some f) (Some g) e =
    let y = both (f.name ≟ g.name) (eqb f.width g.width) e in
    family_eq f.name g.name f.width g.width (≟_eq f.name g.name y.0) (eqb-true f.width g.width y.1)

row_family : (p : ℕ) → p < 32 → family_of [] (Some (Legacy (p / 4) (get_or widths (p % 4) 0))) ≡ family (name_at p)
unfolding all range ◌≟◌ concat legacy all_names same family legacy_family position
row_family p h =
    same_eq (family_of [] (Some (Legacy (p / 4) (get_or widths (p % 4) 0)))) (family (name_at p))
    (below (λ p. same (family_of [] (Some (Legacy (p / 4) (get_or widths (p % 4) 0)))) (family (name_at p))) 32 p refl h)

high_family : (k : ℕ) → k < 4 → family_of [] (Some (Legacy k 8)) ≡ family (name_at (32 + k))
unfolding all range ◌≟◌ concat legacy all_names same family legacy_family position other_family
high_family k h =
    same_eq (family_of [] (Some (Legacy k 8))) (family (name_at (32 + k)))
    (below (λ k. same (family_of [] (Some (Legacy k 8))) (family (name_at (32 + k)))) 4 k refl h)

module _ (s : List ℕ) (p : ℕ) (e : Some p ≡ position (s ≟◌) all_names) where
  is_name : s ≡ name_at p
  is_name = ≟_eq s (name_at p) (position_at (s ≟◌) [] all_names p (sym e)).1

  pub family_row : (w : ℕ) → w ≡ get_or widths (p % 4) 0 → p < 32 → family_of s (Some (Legacy (p / 4) w)) ≡ family s
  family_row w e h = rw e (row_family p h ∙ ap family (sym is_name))

  pub family_high : 32 ≤ p → p < 36 → family_of s (Some (Legacy (p - 32) 8)) ≡ family s
  family_high h g =
      let z : 32 + (p - 32) ≡ p = omega arith in
      let y : name_at (32 + (p - 32)) ≡ name_at p = ap name_at z in
      high_family (p - 32) (omega arith) ∙ ap family (y ∙ sym is_name)

-- No name of the table

position_none : {A : Type 0} (p : A → Bool) (x : A) (xs : List A) → position p (x ∷ xs) ≡ None → (p x ≡ false) × (position p xs ≡ None)
unfolding position
position_none {A} p x xs e = go (p x) refl e
  where
    later : (o : Option ℕ) → option_map suc o ≡ None → o ≡ None
    later None f = refl
    later (Some k) f = cc

    go : (b : Bool) → p x ≡ b → cond b (Some 0) (option_map suc (position p xs)) ≡ None → (p x ≡ false) × (position p xs ≡ None)
    go true f g = let z : ◌≡◌ {A = ℕ} 0 1 = cc in absurd (omega arith)
    go false f g = (f, later (position p xs) g)

none_append : {A : Type 0} (p : A → Bool) (xs ys : List A) → position p (xs ++ ys) ≡ None → (position p xs ≡ None) × (position p ys ≡ None)
unfolding position
none_append p [] ys e = (refl, e)
none_append p (x ∷ xs) ys e =
    let y = position_none p x (xs ++ ys) e in
    let z = none_append p xs ys y.1 in
    (rw (y.0, z.0), z.1)

legacy_none : (s : List ℕ) (rows : List (List (List ℕ))) → position (s ≟◌) (concat rows) ≡ None → legacy_family rows s ≡ None
unfolding concat legacy_family
legacy_none s [] e = refl
legacy_none s (row ∷ rows) e =
    let y = none_append (s ≟◌) row (concat rows) e in
    rw (y.0, legacy_family) (legacy_none s rows y.1)

high_none : (s : List ℕ) → position (s ≟◌) (ascii "ah" ∷ ascii "bh" ∷ ascii "ch" ∷ ascii "dh" ∷ []) ≡ None → is_high s ≡ false
high_none s e =
    let a = position_none (s ≟◌) (ascii "ah") (ascii "bh" ∷ ascii "ch" ∷ ascii "dh" ∷ []) e in
    let b = position_none (s ≟◌) (ascii "bh") (ascii "ch" ∷ ascii "dh" ∷ []) a.1 in
    let c = position_none (s ≟◌) (ascii "ch") (ascii "dh" ∷ []) b.1 in
    let d = position_none (s ≟◌) (ascii "dh") [] c.1 in
    rw (a.0, b.0, c.0, d.0)

family_rest : (s : List ℕ) → legacy_family legacy s ≡ None → is_high s ≡ false → family s ≡ rest_family s
unfolding family other_family
family_rest s e f = rw (e, family, f)

pub family_other : (s : List ℕ) → None ≡ position (s ≟◌) all_names → (o : Option Family) → o ≡ rest_family s → o ≡ family s
unfolding all_names
family_other s e o q =
    let y = none_append (s ≟◌) (concat legacy) (ascii "ah" ∷ ascii "bh" ∷ ascii "ch" ∷ ascii "dh" ∷ []) (sym e) in
    q ∙ sym (family_rest s (legacy_none s legacy y.0) (high_none s y.1))

not_numbered : (p : ℕ) → p < 36 → is_numbered (name_at p) ≡ false
unfolding all range ◌≟◌ concat legacy all_names starts_with take_while
not_numbered p h = go (is_numbered (name_at p)) (below (λ p. not (is_numbered (name_at p))) 36 p refl h)
  where
    go : (b : Bool) → not b ≡ true → b ≡ false
    go true e = sym e
    go false e = refl

pub family_numbered : (s : List ℕ) (n : ℕ) → n ≡ number_end s → 1 < n → (r : Option Register) → family_of s r ≡ numbered_family s → family_of s r ≡ family s
family_numbered s n e h r q = family_other s (go (position (s ≟◌) all_names) refl) (family_of s r) (other_numbered s n e h r q)
  where
    go : (o : Option ℕ) → position (s ≟◌) all_names ≡ o → None ≡ o
    go None f = refl
    go (Some k) f =
        let y = position_at (s ≟◌) [] all_names k f in
        let same : s ≡ name_at k = ≟_eq s (name_at k) y.1 in
        let z : true ≡ false = sym (flag s n e h) ∙ ap is_numbered same ∙ not_numbered k (omega (arith, name_count)) in
        let x : ◌≡◌ {A = ℕ} 0 1 = cc in
        absurd (omega arith)

pub ruleset place_rules = (family_row, family_high, family_other, family_numbered)
