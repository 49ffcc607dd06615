-- One web has one colour, and different webs have different colours: two tokens with a web are of one web exactly if their hues are the same.
--   one_colour       tokens of one web have one hue
--   colours_apart    tokens with one hue are of one web
-- Behind them: Same k p, tokens k and p are of one web; First k r, the first token of the web of token k is r; `before` rises where a web appears; `hue`
-- tells the first 100,000 colours apart.
-- Assumes nothing.
use Rattle.std.specs.Prelude.{Option, None, Some}
use Prim.Native.Nat.{ℕ, zero, suc, ◌+◌, ◌*◌, ◌/◌, ◌%◌, ◌≤◌, ◌<◌}
use mathlib.Core.Path.{◌≡◌, refl, sym, ap, ◌∙◌}
use mathlib.Core.Logic.{◌⊎◌, inl, inr}
use mathlib.Core.Bool.{Bool, true, false, cond}
use mathlib.Core.List.{List}
use native.Mathlib.Decide.{dec_lt, ℕ_discrete}
use native.Mathlib.Omega.{arith}
use borrow.Author.Tests.{eqb-true, eq-eqb}
use lib.Dec.{eqb}
use lib.ListN.{get_or}
use Rattle.definitions.specs.Lists.{is_some, or_else, find, range}
use Rattle.definitions.specs.Model.{Token, no_token}
use Rattle.definitions.specs.Family.{Family, fam_of}
use Rattle.definitions.specs.Answers.{mark}
use Rattle.family.specs.Register.{same_name}
use Rattle.model.proofs.Ands.{both}
use Rattle.text.proofs.Texts.{≟_eq, eq_≟}
use Rattle.rows.specs.Rows.{name_of}
use Rattle.dot.specs.Dot.{digit, hue, has_web, same_web, first_of, appears, before, colour}

-- Families

record SameFamily (o p : Option Family) : Type 0 where
  left : is_some o ≡ true
  right : is_some p ≡ true
  name : name_of o ≡ name_of p

to_family : (o p : Option Family) → same_name o p ≡ true → SameFamily o p
to_family None p e = let z : ◌≡◌ {A = ℕ} 0 1 = cc in absurd (omega arith)
to_family (Some f) None e = let z : ◌≡◌ {A = ℕ} 0 1 = cc in absurd (omega arith)
to_family (Some f) (Some g) e = record { left = refl; right = refl; name = ≟_eq f.name g.name e }

from_family : (o p : Option Family) → SameFamily o p → same_name o p ≡ true
from_family None p s = let q = s.left in let z : ◌≡◌ {A = ℕ} 0 1 = cc in absurd (omega arith)
from_family (Some f) None s = let q = s.right in let z : ◌≡◌ {A = ℕ} 0 1 = cc in absurd (omega arith)
from_family (Some f) (Some g) s = eq_≟ f.name g.name s.name

-- Hues

module _ (g h : ℕ) where
  -- numbers by their last digit and what is before it
  joined : g / 10 ≡ h / 10 → g % 10 ≡ h % 10 → g ≡ h
  joined p q = omega arith

  first_digit : g < 100000 → h < 100000 → g / 10000 % 10 ≡ h / 10000 % 10 → g / 10000 ≡ h / 10000
  first_digit p q e = omega arith

  signs : 48 + g ≡ 48 + h → g ≡ h
  signs e = omega arith

  -- numbers below 100,000 that differ by hundreds of thousands
  close : (a b : ℕ) → g < 100000 → h < 100000 → g + 100000 * a ≡ h + 100000 * b → g ≡ h
  close a b p q e = go (dec_lt a b) (dec_lt b a)
    where
      go : Dec (a < b) → Dec (b < a) → g ≡ h
      go (yes i) d = omega arith
      go (no i) (yes j) = omega arith
      go (no i) (no j) = omega arith

module _ (g : ℕ) where
  hundreds : g / 10 / 10 ≡ g / 100
  hundreds = omega arith

  thousands : g / 100 / 10 ≡ g / 1000
  thousands = omega arith

  ten_thousands : g / 1000 / 10 ≡ g / 10000
  ten_thousands = omega arith

module _ (g h : ℕ) (p : g < 100000) (q : h < 100000) where
  five : g / 10000 % 10 ≡ h / 10000 % 10 → g / 1000 % 10 ≡ h / 1000 % 10 → g / 100 % 10 ≡ h / 100 % 10 → g / 10 % 10 ≡ h / 10 % 10 → g % 10 ≡ h % 10 → g ≡ h
  five d₀ d₁ d₂ d₃ d₄ =
      let a = first_digit g h p q d₀ in
      let b = joined (g / 1000) (h / 1000) (ten_thousands g ∙ a ∙ sym (ten_thousands h)) d₁ in
      let c = joined (g / 100) (h / 100) (thousands g ∙ b ∙ sym (thousands h)) d₂ in
      let d = joined (g / 10) (h / 10) (hundreds g ∙ c ∙ sym (hundreds h)) d₃ in
      joined g h d d₄

-- 61,803 × 46467 is one more than 28718 × 100,000
spread : (g h a b s : ℕ) → g < 100000 → h < 100000 → g * 61803 ≡ 100000 * a + s → h * 61803 ≡ 100000 * b + s → g ≡ h
spread g h a b s p q i j = close g h (28718 * g + 46467 * b) (28718 * h + 46467 * a) p q (omega arith)

scattered : (g h : ℕ) → g < 100000 → h < 100000 → g % 100000 * 61803 % 100000 ≡ h % 100000 * 61803 % 100000 → g ≡ h
scattered g h p q e =
    let i : g % 100000 ≡ g = omega arith in
    let j : h % 100000 ≡ h = omega arith in
    let f : g * 61803 % 100000 ≡ h * 61803 % 100000 = rw (i, j) at e in
    spread g h (g * 61803 / 100000) (h * 61803 / 100000) (g * 61803 % 100000) p q (whole (g * 61803)) (whole (h * 61803) ∙ ap (λ (r : ℕ). 100000 * (h * 61803 / 100000) + r) (sym f))
  where
    whole : (n : ℕ) → n ≡ 100000 * (n / 100000) + n % 100000
    whole n = omega arith

scatter_most : (c : ℕ) → c % 100000 * 61803 % 100000 < 100000
scatter_most c = omega arith

hue_apart : (a b : ℕ) → a < 100000 → b < 100000 → hue a ≡ hue b → a ≡ b
unfolding hue digit
hue_apart a b p q e =
    scattered a b p q (five _ _ (scatter_most a) (scatter_most b) (signs _ _ (ap (λ (l : List ℕ). get_or l 0 0) e)) (signs _ _ (ap (λ (l : List ℕ). get_or l 1 0) e))
    (signs _ _ (ap (λ (l : List ℕ). get_or l 2 0) e)) (signs _ _ (ap (λ (l : List ℕ). get_or l 3 0) e)) (signs _ _ (ap (λ (l : List ℕ). get_or l 4 0) e)))

module _ (T : List Token) (N : List ℕ) where
  -- Webs

  record Same (k p : ℕ) : Type 0 where
    number : get_or N p 0 ≡ get_or N k 0
    family : SameFamily (fam_of (get_or T p no_token)) (fam_of (get_or T k no_token))

  to_same : (k p : ℕ) → same_web T N k p ≡ true → Same k p
  unfolding same_web
  to_same k p e =
      let b = both (eqb (get_or N p 0) (get_or N k 0)) (same_name (fam_of (get_or T p no_token)) (fam_of (get_or T k no_token))) e in
      record { number = eqb-true (get_or N p 0) (get_or N k 0) b.0; family = to_family (fam_of (get_or T p no_token)) (fam_of (get_or T k no_token)) b.1 }

  from_same : (k p : ℕ) → Same k p → same_web T N k p ≡ true
  unfolding same_web
  from_same k p s = rw (eq-eqb (get_or N p 0) (get_or N k 0) s.number, from_family (fam_of (get_or T p no_token)) (fam_of (get_or T k no_token)) s.family)

  same_self : (k : ℕ) → is_some (fam_of (get_or T k no_token)) ≡ true → Same k k
  same_self k h = record { number = refl; family = record { left = h; right = h; name = refl } }

  same_back : (k p : ℕ) → Same k p → Same p k
  same_back k p s = record { number = sym s.number; family = record { left = s.family.right; right = s.family.left; name = sym s.family.name } }

  same_on : (k p q : ℕ) → Same k p → Same k q → Same p q
  same_on k p q s r =
      record { number = r.number ∙ sym s.number; family = record { left = r.family.left; right = s.family.left; name = r.family.name ∙ sym s.family.name } }

  -- The first token of a web

  record First (k r : ℕ) : Type 0 where
    low : r ≤ k
    hit : (r ≡ k) ⊎ (same_web T N k r ≡ true)
    none_before : (q : ℕ) → q < r → same_web T N k q ≡ false

  find_first : (k n p : ℕ) → p + n ≡ k → ((q : ℕ) → q < p → same_web T N k q ≡ false) → First k (or_else (find (same_web T N k) (range p n)) k)
  unfolding find range
  find_first k zero p h b = record { low = omega arith; hit = inl refl; none_before = λ q g. b q (omega arith) }
  find_first k (suc n) p h b = go (same_web T N k p) refl (find_first k n (suc p) (omega arith))
    where
      later : same_web T N k p ≡ false → (q : ℕ) → q < suc p → same_web T N k q ≡ false
      later f q g = at (ℕ_discrete q p)
        where
          at : Dec (q ≡ p) → same_web T N k q ≡ false
          at (yes z) = rw z f
          at (no z) = b q (omega arith)

      go : (y : Bool) → same_web T N k p ≡ y
          → (((q : ℕ) → q < suc p → same_web T N k q ≡ false) → First k (or_else (find (same_web T N k) (range (suc p) n)) k))
          → First k (or_else (cond y (Some p) (find (same_web T N k) (range (suc p) n))) k)
      go true e ih = record { low = omega arith; hit = inr e; none_before = b }
      go false e ih = ih (later e)

  first_is : (k : ℕ) → First k (first_of T N k)
  unfolding first_of
  first_is k = find_first k k 0 (omega arith) (λ q h. absurd (omega arith))

  module _ (k : ℕ) (some_k : is_some (fam_of (get_or T k no_token)) ≡ true) where
    first_same : Same k (first_of T N k)
    first_same = go (first_is k).hit
      where
        go : (first_of T N k ≡ k) ⊎ (same_web T N k (first_of T N k) ≡ true) → Same k (first_of T N k)
        go (inl e) = rw e (same_self k some_k)
        go (inr e) = to_same k (first_of T N k) e

    no_earlier : (p : ℕ) → Same k p → first_of T N k < first_of T N p → ⊥
    no_earlier p s h =
        let f = (first_is p).none_before (first_of T N k) h in
        let g = from_same p (first_of T N k) (same_on k p (first_of T N k) s first_same) in
        let z : ◌≡◌ {A = ℕ} 0 1 = cc in
        omega arith

  first_one : (k p : ℕ) → is_some (fam_of (get_or T k no_token)) ≡ true → is_some (fam_of (get_or T p no_token)) ≡ true → Same k p → first_of T N k ≡ first_of T N p
  first_one k p i j s = go (dec_lt (first_of T N k) (first_of T N p)) (dec_lt (first_of T N p) (first_of T N k))
    where
      go : Dec (first_of T N k < first_of T N p) → Dec (first_of T N p < first_of T N k) → first_of T N k ≡ first_of T N p
      go (yes h) d = absurd (no_earlier k i p s h)
      go (no h) (yes g) = absurd (no_earlier p j k (same_back k p s) g)
      go (no h) (no g) = omega arith

  first_appears : (k : ℕ) → is_some (fam_of (get_or T k no_token)) ≡ true → has_web N k ≡ true → appears T N (first_of T N k) ≡ true
  unfolding appears has_web
  first_appears k i w =
      let s = first_same k i in
      let e = first_one (first_of T N k) k s.family.left i (same_back k (first_of T N k) s) in
      rw (s.number, w, eq-eqb (first_of T N (first_of T N k)) (first_of T N k) e)

  -- Colours

  before_most : (k : ℕ) → before T N k ≤ k
  unfolding before
  before_most zero = omega arith
  before_most (suc k) = go (appears T N k) (before_most k)
    where
      go : (y : Bool) → before T N k ≤ k → before T N k + mark y ≤ suc k
      go true h = omega arith
      go false h = omega arith

  before_rises : (a b : ℕ) → a < b → appears T N a ≡ true → before T N a < before T N b
  unfolding before
  before_rises a zero h e = absurd (omega arith)
  before_rises a (suc b) h e = go (ℕ_discrete a b) (before_rises a b)
    where
      go : Dec (a ≡ b) → (a < b → appears T N a ≡ true → before T N a < before T N b) → before T N a < before T N b + mark (appears T N b)
      go (yes z) ih = rw (← z, e) (omega arith)
      go (no z) ih = omega (arith, ih (omega arith) e)

  module _ (k p : ℕ) (some_k : is_some (fam_of (get_or T k no_token)) ≡ true) (some_p : is_some (fam_of (get_or T p no_token)) ≡ true) where
    pub one_colour : same_web T N k p ≡ true → hue (colour T N k) ≡ hue (colour T N p)
    one_colour e = ap (λ (f : ℕ). hue (before T N f)) (first_one k p some_k some_p (to_same k p e))

    pub colours_apart : k < 100000 → p < 100000 → has_web N k ≡ true → has_web N p ≡ true → hue (colour T N k) ≡ hue (colour T N p) → same_web T N k p ≡ true
    colours_apart i j v w e =
        let a = before_most (first_of T N k) in let b = before_most (first_of T N p) in
        let c = (first_is k).low in let d = (first_is p).low in
        let one = hue_apart (colour T N k) (colour T N p) (omega arith) (omega arith) e in
        together (dec_lt (first_of T N k) (first_of T N p)) (dec_lt (first_of T N p) (first_of T N k)) one
      where
        together : Dec (first_of T N k < first_of T N p) → Dec (first_of T N p < first_of T N k) → colour T N k ≡ colour T N p → same_web T N k p ≡ true
        together (yes h) d e = absurd (omega (arith, before_rises (first_of T N k) (first_of T N p) h (first_appears k some_k v)))
        together (no h) (yes g) e = absurd (omega (arith, before_rises (first_of T N p) (first_of T N k) g (first_appears p some_p w)))
        together (no h) (no g) e =
            let z : first_of T N k ≡ first_of T N p = omega arith in
            let s : Same p (first_of T N k) = rw z (first_same p some_p) in
            from_same k p (same_on (first_of T N k) k p (same_back k (first_of T N k) (first_same k some_k)) (same_back p (first_of T N k) s))
