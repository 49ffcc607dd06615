-- Rules for the needs of the sizes of strings, and of every loop of a sum: each premise is a field of what a need is handed.
--   size_control, size_quote, size_slash, size_alone    a byte
--   Counted                                             the loop of a sum: n is the sum of the first k elements, each at most m
--   counted_start, counted_next, counted_wide, counted_end
--   total_bytes                                         the length of the bytes of a string, as a sum
--   characters_join, length_characters                  the bytes of two strings in a row, and their length
--   all_alone, plain_block                              bytes that are as long in a string as they are stand for themselves
-- Assumes nothing.
use Prim.Native.Nat.{ℕ, ◌+◌, ◌*◌, ◌≤◌, ◌<◌}
use mathlib.Core.Path.{◌≡◌, refl, sym, ap, ◌∙◌}
use mathlib.Core.Bool.{Bool, true, false, cond, ◌||◌}
use mathlib.Core.Logic.{◌⊎◌, inl, inr}
use mathlib.Core.List.{List, [], ◌∷◌, ◌++◌, append_assoc}
use native.Mathlib.Nat.{suc-mul}
use native.Mathlib.Numerals.{add-one}
use native.Mathlib.Omega.{arith}
use borrow.Author.Tests.{eq-eqb, ne_eqb, lt-ltb, le-ltb}
use lib.Dec.{eqb, ltb}
use lib.ListN.{length, get_or, take, drop, length-append}
use Rattle.std.proofs.lemmas.List.{take-append-drop}
use Rattle.text.proofs.Parts.{drop_step, drop_end}
use Rattle.json_definitions.specs.Writer.{escaped, characters_text}
use Rattle.json_append.specs.Appended.{Plain}
use Rattle.json_append.specs.Sizes.{total, byte_size, Sized}

-- A byte of a string

module _ (c : ℕ) where
  pub size_control : c < 32 → Sized (byte_size c) 6 6
  unfolding escaped
  size_control h = record { is = rw (ne_eqb c 34 (λ e. omega arith), ne_eqb c 92 (λ e. omega arith), lt-ltb c 32 h); most = omega arith }

  pub size_quote : c ≡ 34 → Sized (byte_size c) 6 2
  unfolding escaped
  size_quote e = record { is = rw (eq-eqb c 34 e); most = omega arith }

  pub size_slash : (c ≡ 34 → ⊥) → c ≡ 92 → Sized (byte_size c) 6 2
  unfolding escaped
  size_slash n e = record { is = rw (ne_eqb c 34 n, eq-eqb c 92 e); most = omega arith }

  pub size_alone : 32 ≤ c → (c ≡ 34 → ⊥) → (c ≡ 92 → ⊥) → Sized (byte_size c) 6 1
  unfolding escaped
  size_alone h n m = record { is = rw (ne_eqb c 34 n, ne_eqb c 92 m, le-ltb c 32 h); most = omega arith }

-- The loop of a sum

pub record Counted {A : Type 0} (f : A → ℕ) (m : ℕ) (xs : List A) (n k : ℕ) : Type 0 where
  pub within : k ≤ length xs
  pub rest : n + total f (drop k xs) ≡ total f xs
  pub small : n ≤ k * m

module _ {A : Type 0} (f : A → ℕ) (m : ℕ) (xs : List A) where
  pub counted_start : Counted f m xs 0 0
  counted_start = record { within = omega arith; rest = omega arith; small = omega arith }

  module _ (n k : ℕ) (g : Counted f m xs n k) where
    pub counted_next : (d : A) (r : ℕ) → k < length xs → Sized (f (get_or xs k d)) m r → Counted f m xs (n + r) (k + 1)
    counted_next d r h s =
        let l : total f (drop k xs) ≡ f (get_or xs k d) + total f (drop (k + 1) xs) = unfold total in rw (drop_step d xs k h) in
        let e = s.is in let p = s.most in let q = g.small in let w = g.rest in
        let z : (k + 1) * m ≡ k * m + m = rw (add-one, suc-mul) in
        record { within = omega arith; rest = omega arith; small = omega arith }

    pub counted_wide : (d : A) (r r' : ℕ) → k < length xs → Sized (f (get_or xs k d)) m r → r' ≡ r → Counted f m xs (n + r') (k + 1)
    counted_wide d r r' h s e = rw e (counted_next d r h s)

    pub counted_end : length xs ≤ k → n ≡ total f xs
    counted_end h =
        let l : total f (drop k xs) ≡ 0 = unfold total in rw (drop_end xs k h) in
        let w = g.rest in
        omega arith

-- The bytes of a string

pub total_bytes : (s : List ℕ) → total byte_size s ≡ length (characters_text s)
unfolding total characters_text
total_bytes [] = refl
total_bytes (c ∷ s) = let e = total_bytes s in simp length-append (omega arith)

pub characters_join : (a b : List ℕ) → characters_text (a ++ b) ≡ characters_text a ++ characters_text b
unfolding characters_text
characters_join [] b = refl
characters_join (c ∷ a) b = ap (λ s. escaped c ++ s) (characters_join a b) ∙ sym (append_assoc (escaped c) (characters_text a) (characters_text b))

pub length_characters : (a b : List ℕ) → length (characters_text (a ++ b)) ≡ length (characters_text a) + length (characters_text b)
length_characters a b = ap length (characters_join a b) ∙ length-append (characters_text a) (characters_text b)

-- A byte is at least one byte long, and stands for itself if it is no longer

alone_or_longer : (c : ℕ) → (escaped c ≡ c ∷ []) ⊎ (2 ≤ length (escaped c))
unfolding escaped
alone_or_longer c = go (eqb c 34 || eqb c 92) (ltb c 32) _ (omega arith)
  where
    go : (a b : Bool) (w : List ℕ) → 2 ≤ length w → (cond a (92 ∷ c ∷ []) (cond b w (c ∷ [])) ≡ c ∷ []) ⊎ (2 ≤ length (cond a (92 ∷ c ∷ []) (cond b w (c ∷ []))))
    go true b w h = inr (omega arith)
    go false true w h = inr h
    go false false w h = inl refl

no_shorter : (s : List ℕ) → length s ≤ length (characters_text s)
unfolding characters_text
no_shorter [] = omega arith
no_shorter (c ∷ s) = go (alone_or_longer c) (no_shorter s)
  where
    go : (escaped c ≡ c ∷ []) ⊎ (2 ≤ length (escaped c)) → length s ≤ length (characters_text s) → length (c ∷ s) ≤ length (escaped c ++ characters_text s)
    go (inl e) n = let m = ap length e in simp length-append (omega arith)
    go (inr h) n = simp length-append (omega arith)

pub all_alone : (s : List ℕ) → length (characters_text s) ≡ length s → characters_text s ≡ s
unfolding characters_text
all_alone [] h = refl
all_alone (c ∷ s) h = go (alone_or_longer c) (all_alone s)
  where
    l : length (escaped c) + length (characters_text s) ≡ length (c ∷ s)
    l = simp length-append at h

    go : (escaped c ≡ c ∷ []) ⊎ (2 ≤ length (escaped c)) → (length (characters_text s) ≡ length s → characters_text s ≡ s) → escaped c ++ characters_text s ≡ c ∷ s
    go (inl e) ih = let m = ap length e in rw (e, ih (omega (arith, l)))
    go (inr g) ih = absurd (omega (arith, l, no_shorter s))

pub plain_block : (s b t : List ℕ) (n : ℕ) → b ≡ take 8 s → t ≡ drop 8 s → length t + 8 ≡ length s → n ≡ length (characters_text b) → n ≡ 8 → Plain s t
plain_block s b t n p q l e h =
    let cut : b ++ t ≡ s = rw (p, q) (take-append-drop 8 s) in
    let eight : length b ≡ 8 = omega (arith, ap length cut, length-append b t) in
    record { front = b; cut = sym cut; same = ap characters_text (sym cut) ∙ characters_join b t ∙ rw (all_alone b (sym e ∙ h ∙ sym eight)) }

pub ruleset byte_sizes = (size_control, size_quote, size_slash, size_alone)

pub ruleset sums = (counted_start, counted_next, counted_wide, counted_end, total_bytes)
