-- Laws of texts.
--   ≟_refl             s == s
--   ≟_eq               texts that are == are the same list
--   eq_≟               the same list is ==
--   ne_≟               lists that differ are not ==
--   ≟_sym              s == t is t == s
--   ≟_length, other_length   texts of two lengths are not ==
--   equal_differ, equal_next, equal_end   the loop of `equal`, at place i
--   starts_part, starts_go   s starts with p: its first bytes, as many as p has, are == p
--   starts_short, starts_no   a text that is shorter than p does not start with it
--   ends_part           s ends with p, where s is no shorter: its last bytes, as many as p has, are == p
--   ends_short          a text that is shorter than p does not end with it
--   pointwise_≟, starts_same, ends_same, any_contains      std's words mean the same
-- Assumes nothing.
use mathlib.Core.Path.{◌≡◌, refl, sym, ap, ◌∙◌}
use mathlib.Core.Bool.{Bool, true, false, ◌&&◌, ◌||◌}
use mathlib.Core.List.{List, [], ◌∷◌}
use Prim.Native.Nat.{ℕ, ◌+◌, ◌-◌, ◌≤◌, ◌<◌}
use native.Mathlib.Omega.{arith}
use borrow.Author.Tests.{eq-eqb, ne_eqb, eqb-true, eqb-false, le-leb, lt-leb, leb-false}
use lib.Dec.{eqb, leb}
use lib.ListN.{length, get_or, take, drop, length-take}
use lib.Pointwise.{pointwise}
use Rattle.std.specs.Bool.{nat_eq}
use Rattle.std.specs.List.{list_any}
use Rattle.std.specs.List as std
use Rattle.definitions.specs.Lists.{◌≟◌, starts_with, ends_with, contains, any, part}
use Rattle.text.proofs.Parts.{drop_step, drop_end, part_tail}

both_true : (a b : Bool) → (a && b) ≡ true → (a ≡ true) × (b ≡ true)
both_true true b h = (refl, h)
both_true false b h = let z : ◌≡◌ {A = ℕ} 0 1 = cc in absurd (omega arith)

pub ≟_refl : (s : List ℕ) → (s ≟ s) ≡ true
unfolding ◌≟◌
≟_refl [] = refl
≟_refl (a ∷ s) = rw (eq-eqb a a refl, ≟_refl s)

pub ≟_eq : (s t : List ℕ) → (s ≟ t) ≡ true → s ≡ t
unfolding ◌≟◌
≟_eq [] [] h = refl
≟_eq [] (b ∷ t) h = cc
≟_eq (a ∷ s) [] h = cc
≟_eq (a ∷ s) (b ∷ t) h =
    let p = both_true (eqb a b) (s ≟ t) h in
    let q : a ≡ b = eqb-true a b p.0 in
    let r : s ≡ t = ≟_eq s t p.1 in
    cc

pub eq_≟ : (s t : List ℕ) → s ≡ t → (s ≟ t) ≡ true
eq_≟ s t e = rw e (≟_refl t)

not_true_false : (b : Bool) → (b ≡ true → ⊥) → b ≡ false
not_true_false true h = absurd (h refl)
not_true_false false h = refl

pub ne_≟ : (s t : List ℕ) → (s ≡ t → ⊥) → (s ≟ t) ≡ false
ne_≟ s t h = not_true_false (s ≟ t) (λ e. h (≟_eq s t e))

pub ≟_sym : (s t : List ℕ) → (s ≟ t) ≡ (t ≟ s)
≟_sym s t = go (s ≟ t) refl
  where
    go : (b : Bool) → (s ≟ t) ≡ b → b ≡ (t ≟ s)
    go true e = sym (eq_≟ t s (sym (≟_eq s t e)))
    go false e = sym (ne_≟ t s (λ q. let z : true ≡ false = sym (eq_≟ s t (sym q)) ∙ e in let y : ◌≡◌ {A = ℕ} 0 1 = cc in omega arith))

pub ≟_length : (s t : List ℕ) → (length s ≡ length t → ⊥) → (s ≟ t) ≡ false
≟_length s t h = ne_≟ s t (λ e. h (ap length e))

pub other_length : (s t : List ℕ) → (length s ≡ length t → ⊥) → false ≡ (s ≟ t)
other_length s t h = sym (≟_length s t h)

module _ (a b : List ℕ) (i : ℕ) (inv : (a ≟ b) ≡ (drop i a ≟ drop i b)) where
  pub equal_differ : i < length a → i < length b → (get_or a i 0 ≡ get_or b i 0 → ⊥) → false ≡ (a ≟ b)
  unfolding ◌≟◌
  equal_differ ha hb e = sym (inv ∙ rw (drop_step 0 a i ha, drop_step 0 b i hb, ne_eqb (get_or a i 0) (get_or b i 0) e))

  pub equal_next : i < length a → i < length b → get_or a i 0 ≡ get_or b i 0 → (a ≟ b) ≡ (drop (i + 1) a ≟ drop (i + 1) b)
  unfolding ◌≟◌
  equal_next ha hb e = inv ∙ rw (drop_step 0 a i ha, drop_step 0 b i hb, eq-eqb (get_or a i 0) (get_or b i 0) e)

  pub equal_end : length a ≡ length b → length a ≤ i → true ≡ (a ≟ b)
  unfolding ◌≟◌
  equal_end n h = sym (inv ∙ rw (drop_end a i h, drop_end b i (omega arith)))

eqb_sym : (a b : ℕ) → eqb a b ≡ eqb b a
eqb_sym a b = flip (eqb a b) refl
  where
    flip : (x : Bool) → eqb a b ≡ x → x ≡ eqb b a
    flip true e = sym (eq-eqb b a (sym (eqb-true a b e)))
    flip false e = sym (ne_eqb b a (λ q. eqb-false a b e (sym q)))

pub starts_part : (p s : List ℕ) → starts_with p s ≡ (take (length p) s ≟ p)
unfolding starts_with ◌≟◌
starts_part [] s = refl
starts_part (a ∷ p) [] = refl
starts_part (a ∷ p) (b ∷ s) = rw (starts_part p s) (ap (λ (x : Bool). x && (take (length p) s ≟ p)) (eqb_sym a b))

pub starts_go : (p s : List ℕ) (r : Bool) → r ≡ (take (length p) s ≟ p) → r ≡ starts_with p s
starts_go p s r e = e ∙ sym (starts_part p s)

module _ (p s : List ℕ) where
  pub starts_short : length s < length p → starts_with p s ≡ false
  starts_short h = starts_part p s ∙ ≟_length (take (length p) s) p (rw length-take (λ e. omega arith))

  pub starts_no : length s < length p → false ≡ starts_with p s
  starts_no h = sym (starts_short h)

  pub ends_part : length p ≤ length s → ends_with p s ≡ (part (length s - length p) (length s) s ≟ p)
  ends_part h = rw (le-leb (length p) (length s) h, part_tail)

  pub ends_short : length s < length p → ends_with p s ≡ false
  ends_short h = rw (lt-leb (length p) (length s) h)

pub pointwise_≟ : (s t : List ℕ) → pointwise nat_eq s t ≡ (s ≟ t)
unfolding ◌≟◌
pointwise_≟ [] [] = refl
pointwise_≟ [] (b ∷ t) = refl
pointwise_≟ (a ∷ s) [] = refl
pointwise_≟ (a ∷ s) (b ∷ t) = rw (pointwise_≟ s t)

pub any_contains : (b : ℕ) (s : List ℕ) → list_any (λ y. nat_eq y b) s ≡ contains b s
unfolding any
any_contains b [] = refl
any_contains b (a ∷ s) = rw (any_contains b s) (ap (λ (x : Bool). x || contains b s) (eqb_sym a b))

module _ (p s : List ℕ) where
  pub starts_same : std.starts_with nat_eq s p ≡ starts_with p s
  starts_same = pointwise_≟ p (take (length p) s) ∙ ≟_sym p (take (length p) s) ∙ sym (starts_part p s)

  pub ends_same : std.ends_with nat_eq s p ≡ ends_with p s
  ends_same = pointwise_≟ p (drop (length s - length p) s) ∙ ≟_sym p (drop (length s - length p) s) ∙ go (leb (length p) (length s)) refl
    where
      go : (x : Bool) → leb (length p) (length s) ≡ x → (drop (length s - length p) s ≟ p) ≡ ends_with p s
      go true e = rw e
      go false e =
          let h : length s < length p = leb-false (length p) (length s) e in
          let z : length s - length p ≡ 0 = omega arith in
          rw (z, e) (≟_length s p (λ q. omega arith))

pub ruleset std_words = (pointwise_≟, any_contains, starts_same, ends_same)

pub ruleset equal_steps = (other_length, pointwise_≟, equal_differ, equal_next, equal_end)

pub ruleset starts = (starts_go, starts_no)
