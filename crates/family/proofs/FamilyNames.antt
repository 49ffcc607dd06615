-- Where the name of an answer's family stands, and comparing names there.
--   row_table, row_behind, own_part        the functions `row` and `own_name`
--   in_table, in_text, nowhere             the family's name, by its row
--   register_token, kind_token, other_token    a token's family, by its kind
--   rows_differ, rows_var                  computed of every row: its name is no other row's; none is a `var_`
--   named_here, named_next, named_nowhere  the function `row_named`
--   row_is, row_text, row_none             the function `row_of`
--   same_rows, same_row_text, same_text_row, same_texts, same_none_left, same_none_right    two families have one name
--   names_same                             a token names a family
--   var_text, var_not, wide_table, wide_behind, wide_numbered   tests on one family
-- Assumes nothing.
use Rattle.std.specs.Prelude.{Option, None, Some}
use mathlib.Core.Path.{◌≡◌, refl, sym, ap, ◌∙◌}
use mathlib.Core.Bool.{Bool, true, false, not, cond}
use mathlib.Core.List.{List}
use Prim.Native.Nat.{ℕ, ◌+◌, ◌≤◌, ◌<◌}
use native.Mathlib.Decide.{dec_lt}
use native.Mathlib.Omega.{arith}
use borrow.Author.Tests.{lt-ltb, le-ltb, ltb-true, eq-eqb, ne_eqb}
use lib.Dec.{eqb, leb, ltb}
use Rattle.definitions.specs.Lists.{◌≟◌, all, range, up_to, part, starts_with, ascii}
use Rattle.definitions.specs.Model.{Token, tok}
use Rattle.definitions.specs.Family.{Family, legacy, family, fam_of, names}
use Rattle.definitions.specs.Statements.{is_var}
use Rattle.text.proofs.Texts.{≟_eq, ≟_sym}
use Rattle.legacy.proofs.Table.{below}
use Rattle.family.specs.declared.Register.{Register}
use Rattle.family.specs.declared.Register.TheVariants.{Legacy, Numbered, Var}
use Rattle.legacy.specs.Table.{row_name}
use Rattle.family.specs.Register.{family_of, row, own_name, same_name, names_family, named, is_var_family, is_wide}

-- `row`, `own_name` and `is_wide`

module _ (r : Option Register) (i w : ℕ) (e : r ≡ Some (Legacy i w)) where
  pub row_table : i < 8 → i ≡ row r
  row_table h = rw (e, lt-ltb i 8 h)

  pub row_behind : 8 ≤ i → 9 ≡ row r
  row_behind h = rw (e, le-ltb i 8 h)

  pub wide_table : (s : List ℕ) → i < 8 → leb 32 w ≡ is_wide (family_of s r)
  wide_table s h = rw (e, lt-ltb i 8 h)

  pub wide_behind : (s : List ℕ) → 8 ≤ i → false ≡ is_wide (family_of s r)
  wide_behind s h = rw (e, le-ltb i 8 h)

module _ (r : Option Register) (n w : ℕ) (e : r ≡ Some (Numbered n w)) (s : List ℕ) where
  pub wide_numbered : leb 32 w ≡ is_wide (family_of s r)
  wide_numbered = rw e

  pub own_part : (p : List ℕ) → p ≡ part 0 n s → p ≡ own_name s r
  own_part p q = rw e q

-- The name, by its row

abbrev name_of : Option Family → Option (List ℕ)
name_of None = None
name_of (Some f) = Some f.name

row_limit : (i : ℕ) (b : Bool) → ltb i 8 ≡ b → (cond b i 9 ≡ 8 → ⊥)
row_limit i true e q = omega (arith, ltb-true i 8 e)
row_limit i false e q = omega arith

in_table : (s : List ℕ) (r : Option Register) → row r < 8 → name_of (family_of s r) ≡ Some (row_name (row r))
in_table s (Some (Legacy i w)) h = go (ltb i 8) h
  where
    go : (b : Bool) → cond b i 9 < 8 → name_of (cond b (Some (record { name = row_name i; width = w })) None) ≡ Some (row_name (cond b i 9))
    go true g = refl
    go false g = absurd (omega arith)
in_table s (Some (Numbered n w)) h = absurd (omega arith)
in_table s (Some Var) h = absurd (omega arith)
in_table s None h = absurd (omega arith)

in_text : (s : List ℕ) (r : Option Register) → row r ≡ 8 → name_of (family_of s r) ≡ Some (own_name s r)
in_text s (Some (Legacy i w)) h = absurd (row_limit i (ltb i 8) refl h)
in_text s (Some (Numbered n w)) h = refl
in_text s (Some Var) h = refl
in_text s None h = absurd (omega arith)

nowhere : (s : List ℕ) (r : Option Register) → 8 < row r → family_of s r ≡ None
nowhere s (Some (Legacy i w)) h = go (ltb i 8) refl h
  where
    go : (b : Bool) → ltb i 8 ≡ b → 8 < cond b i 9 → ◌≡◌ {A = Option Family} (cond b (Some (record { name = row_name i; width = w })) None) None
    go true e g = absurd (omega (arith, ltb-true i 8 e))
    go false e g = refl
nowhere s (Some (Numbered n w)) h = absurd (omega arith)
nowhere s (Some Var) h = absurd (omega arith)
nowhere s None h = refl

module _ (s : List ℕ) (r : Option Register) (k : ℕ) (e : k ≡ row r) where
  at_row : k < 8 → name_of (family_of s r) ≡ Some (row_name k)
  at_row h = rw e (in_table s r (rw e at h))

  at_text : (x : List ℕ) → k ≡ 8 → x ≡ own_name s r → name_of (family_of s r) ≡ Some x
  at_text x h q = rw q (in_text s r (sym e ∙ h))

  at_none : 8 ≤ k → (k ≡ 8 → ⊥) → family_of s r ≡ None
  at_none h g = nowhere s r (omega arith)

-- `fam_of`

module _ (s : List ℕ) (kind : ℕ) where
  pub register_token : (r : Option Register) → kind ≡ 1 → family_of s r ≡ family s → family_of s r ≡ fam_of (tok s kind)
  unfolding fam_of
  register_token r h g = rw (eq-eqb kind 1 h) g

  pub kind_token : (k : ℕ) → kind ≡ k → eqb k 1 ≡ false → None ≡ fam_of (tok s kind)
  unfolding fam_of
  kind_token k h g = rw (h, g)

  pub other_token : (kind ≡ 1 → ⊥) → None ≡ fam_of (tok s kind)
  unfolding fam_of
  other_token h = rw (ne_eqb kind 1 h)

-- Computed of every row

agree : Bool → Bool → Bool
agree true b = b
agree false b = not b

agreed : (a b : Bool) → agree a b ≡ true → a ≡ b
unfolding agree
agreed true b e = sym e
agreed false true e = e
agreed false false e = refl

module _ (i : ℕ) (h : i < 8) where
  rows_differ : (j : ℕ) → j < 8 → (row_name i ≟ row_name j) ≡ eqb i j
  unfolding all range ◌≟◌ legacy agree
  rows_differ j g =
      agreed (row_name i ≟ row_name j) (eqb i j)
      (below (λ j. agree (row_name i ≟ row_name j) (eqb i j)) 8 j (below (λ i. all (λ j. agree (row_name i ≟ row_name j) (eqb i j)) (up_to 8)) 8 i refl h) g)

  rows_var : starts_with (ascii "var_") (row_name i) ≡ false
  unfolding all range starts_with legacy agree
  rows_var = agreed (starts_with (ascii "var_") (row_name i)) false (below (λ i. agree (starts_with (ascii "var_") (row_name i)) false) 8 i refl h)

-- Two families

equal_names : Option (List ℕ) → Option (List ℕ) → Bool
equal_names None q = false
equal_names (Some x) None = false
equal_names (Some x) (Some y) = x ≟ y

same_by : (o p : Option Family) → same_name o p ≡ equal_names (name_of o) (name_of p)
unfolding equal_names
same_by None p = refl
same_by (Some f) None = refl
same_by (Some f) (Some g) = refl

none_right : (o : Option Family) → same_name o None ≡ false
none_right None = refl
none_right (Some f) = refl

module _ (a b : List ℕ) (ra rb : Option Register) (i j : ℕ) (p : i ≡ row ra) (q : j ≡ row rb) where
  same_named : (x y : List ℕ) → name_of (family_of a ra) ≡ Some x → name_of (family_of b rb) ≡ Some y → same_name (family_of a ra) (family_of b rb) ≡ (x ≟ y)
  unfolding equal_names
  same_named x y e f = same_by (family_of a ra) (family_of b rb) ∙ rw (e, f)

  pub same_rows : i < 8 → j < 8 → eqb i j ≡ same_name (family_of a ra) (family_of b rb)
  same_rows h g = sym (same_named (row_name i) (row_name j) (at_row a ra i p h) (at_row b rb j q g) ∙ rows_differ i h j g)

  module _ (r : Bool) where
    pub same_row_text : (y : List ℕ) → i < 8 → j ≡ 8 → y ≡ own_name b rb → r ≡ (y ≟ row_name i) → r ≡ same_name (family_of a ra) (family_of b rb)
    same_row_text y h g f e = e ∙ ≟_sym y (row_name i) ∙ sym (same_named (row_name i) y (at_row a ra i p h) (at_text b rb j q y g f))

    pub same_text_row : (x : List ℕ) → i ≡ 8 → x ≡ own_name a ra → j < 8 → r ≡ (x ≟ row_name j) → r ≡ same_name (family_of a ra) (family_of b rb)
    same_text_row x h f g e = e ∙ sym (same_named x (row_name j) (at_text a ra i p x h f) (at_row b rb j q g))

    pub same_texts : (x y : List ℕ) → i ≡ 8 → x ≡ own_name a ra → j ≡ 8 → y ≡ own_name b rb → r ≡ (x ≟ y) → r ≡ same_name (family_of a ra) (family_of b rb)
    same_texts x y h f g k e = e ∙ sym (same_named x y (at_text a ra i p x h f) (at_text b rb j q y g k))

module _ (a b : List ℕ) (ra rb : Option Register) (k : ℕ) where
  pub same_none_left : k ≡ row ra → 8 ≤ k → (k ≡ 8 → ⊥) → false ≡ same_name (family_of a ra) (family_of b rb)
  same_none_left p h g = rw (at_none a ra k p h g)

  pub same_none_right : k ≡ row rb → 8 ≤ k → (k ≡ 8 → ⊥) → false ≡ same_name (family_of a ra) (family_of b rb)
  same_none_right p h g = rw (at_none b rb k p h g) (sym (none_right (family_of a ra)))

-- A token names a family

same_names : (o p : Option Family) → same_name o p ≡ elim p [ None ↦ false | Some f ↦ elim o [ None ↦ false | Some x ↦ x.name ≟ f.name ] ]
same_names None None = refl
same_names None (Some f) = refl
same_names (Some x) None = refl
same_names (Some x) (Some f) = refl

names_by : (o : Option Family) (t : Token) → same_name (fam_of t) o ≡ names_family o t
unfolding names
names_by None t = none_right (fam_of t)
names_by (Some f) t = same_names (fam_of t) (Some f)

pub names_same : (s : List ℕ) (kind : ℕ) (q : Option Register) (o : Option Family) (y : Bool)
    → family_of s q ≡ fam_of (tok s kind) → y ≡ same_name (family_of s q) o → y ≡ names_family o (tok s kind)
names_same s kind q o y e f = f ∙ rw e (names_by o (tok s kind))

-- Tests on one family

named_by : (p : List ℕ → Bool) (o : Option Family) (x : List ℕ) → name_of o ≡ Some x → named p o ≡ p x
named_by p None x q = cc
named_by p (Some f) x q = let e : f.name ≡ x = cc in ap p e

-- `row_named`

module _ (x : List ℕ) (k : ℕ) (y : Bool) (e : y ≡ (x ≟ row_name k)) where
  pub named_here : k < 8 → y ≡ true → (i : ℕ) → i < 8 → (x ≟ row_name i) ≡ eqb k i
  named_here h q i g = rw (≟_eq x (row_name k) (sym e ∙ q)) (rows_differ k h i g)

  pub named_next : ((j : ℕ) → j < k → (x ≟ row_name j) ≡ false) → y ≡ false → (j : ℕ) → j < k + 1 → (x ≟ row_name j) ≡ false
  named_next inv q j h = go (dec_lt j k)
    where
      go : Dec (j < k) → (x ≟ row_name j) ≡ false
      go (yes g) = inv j g
      go (no g) = let z : k ≡ j = omega arith in rw z at (sym e ∙ q)

pub named_nowhere : (x : List ℕ) (k : ℕ) → ((j : ℕ) → j < k → (x ≟ row_name j) ≡ false) → 8 ≤ k → (i : ℕ) → i < 8 → (x ≟ row_name i) ≡ eqb 8 i
named_nowhere x k inv h i g = inv i (omega arith) ∙ sym (ne_eqb 8 i (λ q. omega arith))

-- `row_of`

module _ (s : List ℕ) (r : Option Register) (k : ℕ) (e : k ≡ row r) where
  module _ (i : ℕ) (g : i < 8) where
    pub row_is : k < 8 → named (◌≟ row_name i) (family_of s r) ≡ eqb k i
    row_is h = named_by (◌≟ row_name i) (family_of s r) (row_name k) (at_row s r k e h) ∙ rows_differ k h i g

    pub row_text : (x : List ℕ) (j : ℕ) → k ≡ 8 → x ≡ own_name s r → ((i : ℕ) → i < 8 → (x ≟ row_name i) ≡ eqb j i) → named (◌≟ row_name i) (family_of s r) ≡ eqb j i
    row_text x j h q f = named_by (◌≟ row_name i) (family_of s r) x (at_text s r k e x h q) ∙ f i g

    pub row_none : 8 ≤ k → (k ≡ 8 → ⊥) → named (◌≟ row_name i) (family_of s r) ≡ eqb 8 i
    row_none h n = rw (at_none s r k e h n) (sym (ne_eqb 8 i (λ q. omega arith)))

-- `is_var`

module _ (s : List ℕ) (r : Option Register) (k : ℕ) (e : k ≡ row r) where
  pub var_text : (x : List ℕ) (y : Bool) → k ≡ 8 → x ≡ own_name s r → y ≡ starts_with (ascii "var_") x → y ≡ is_var_family (family_of s r)
  var_text x y h q f = f ∙ sym (named_by is_var (family_of s r) x (at_text s r k e x h q))

  pub var_not : (k ≡ 8 → ⊥) → false ≡ is_var_family (family_of s r)
  var_not g = go (dec_lt k 8)
    where
      go : Dec (k < 8) → false ≡ is_var_family (family_of s r)
      go (yes h) = sym (named_by is_var (family_of s r) (row_name k) (at_row s r k e h) ∙ rows_var k h)
      go (no h) = rw (at_none s r k e (omega arith) g)

pub ruleset name_rules = (row_table, row_behind, own_part, register_token, kind_token, other_token, same_rows, same_row_text, same_text_row, same_texts, same_none_left, same_none_right, names_same, row_is, row_text, row_none, var_text, var_not, wide_table, wide_behind, wide_numbered)
