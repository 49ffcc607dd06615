-- Rules for the functions over a name's hash.
--   square_small, square_fits, product_small    the products fit
--   hash_next, hash_none, hash_one, hash_two, hash_rest    `hashed`: four bytes, and what is left behind the last four
--   hash_is                         `hash`
--   hash_three                      the hash of three bytes
-- Assumes nothing.
use Rattle.std.proofs.Common.{◌≡◌, ℕ, ◌-◌, ◌*◌, ◌<◌, ◌≤◌, List, [], ◌∷◌, length, get_or, take, drop, sym, refl, ap, ◌∙◌, mul-le-mul, arith, length-drop}
use lib.Seq.{take_all}
use Rattle.names.specs.Hash.{factor, mix, packed, hashed, spread, hash}

pub square_small : (x : ℕ) → x < 131072 → x * x < 17179869184
square_small x a = let q : x * x ≤ 131071 * 131071 = mul-le-mul {n₂ = 131071} {m₂ = 131071} (omega arith) (omega arith) in omega arith

pub square_fits : (x : ℕ) → x < 4294967296 → x * x < 18446744073709551616
square_fits x a = let q : x * x ≤ 4294967295 * 4294967295 = mul-le-mul {n₂ = 4294967295} {m₂ = 4294967295} (omega arith) (omega arith) in omega arith

pub product_small : (x f : ℕ) → x < 38654705664 → f < 268435456 → x * f < 10376293541461622784
product_small x f a b =
    let q : x * f ≤ 38654705663 * 268435455 = mul-le-mul {n₂ = 38654705663} {m₂ = 268435455} (omega arith) (omega arith) in
    omega arith

-- t is the whole: the number h, gone on with what is left, l
module _ (f h t : ℕ) (l : List ℕ) (inv : hashed f h l ≡ t) where
  pub hash_next : (p v : ℕ) → 4 ≤ length l → p ≡ packed (get_or l 0 0) (get_or l 1 0) (get_or l 2 0) (get_or l 3 0) → v ≡ mix f h p → hashed f v (take (length l - 4) (drop 4 l)) ≡ t
  unfolding hashed
  hash_next p v g e q = rw (take_all (length l - 4) (drop 4 l) (rw length-drop (omega arith)), q, e) (sym (four l g) ∙ inv)
    where
      four : (l : List ℕ) → 4 ≤ length l → hashed f h l ≡ hashed f (mix f h (packed (get_or l 0 0) (get_or l 1 0) (get_or l 2 0) (get_or l 3 0))) (drop 4 l)
      four [] g = absurd (omega arith)
      four (a ∷ []) g = absurd (omega arith)
      four (a ∷ b ∷ []) g = absurd (omega arith)
      four (a ∷ b ∷ c ∷ []) g = absurd (omega arith)
      four (a ∷ b ∷ c ∷ d ∷ l) g = refl

  pub hash_none : length l < 1 → h ≡ t
  unfolding hashed
  hash_none g = none l g ∙ inv
    where
      none : (l : List ℕ) → length l < 1 → h ≡ hashed f h l
      none [] g = refl
      none (a ∷ l) g = absurd (omega arith)

  module _ (p v : ℕ) (q : v ≡ mix f h p) where
    pub hash_one : 1 ≤ length l → length l < 2 → p ≡ packed (get_or l 0 0) 0 0 0 → v ≡ t
    unfolding hashed
    hash_one g k e = q ∙ rw e (one l g k ∙ inv)
      where
        one : (l : List ℕ) → 1 ≤ length l → length l < 2 → mix f h (packed (get_or l 0 0) 0 0 0) ≡ hashed f h l
        one [] g k = absurd (omega arith)
        one (a ∷ []) g k = refl
        one (a ∷ b ∷ l) g k = absurd (omega arith)

    pub hash_two : 2 ≤ length l → length l < 3 → p ≡ packed (get_or l 0 0) (get_or l 1 0) 0 0 → v ≡ t
    unfolding hashed
    hash_two g k e = q ∙ rw e (two l g k ∙ inv)
      where
        two : (l : List ℕ) → 2 ≤ length l → length l < 3 → mix f h (packed (get_or l 0 0) (get_or l 1 0) 0 0) ≡ hashed f h l
        two [] g k = absurd (omega arith)
        two (a ∷ []) g k = absurd (omega arith)
        two (a ∷ b ∷ []) g k = refl
        two (a ∷ b ∷ c ∷ l) g k = absurd (omega arith)

    pub hash_rest : 3 ≤ length l → length l < 4 → p ≡ packed (get_or l 0 0) (get_or l 1 0) (get_or l 2 0) 0 → v ≡ t
    unfolding hashed
    hash_rest g k e = q ∙ rw e (three l g k ∙ inv)
      where
        three : (l : List ℕ) → 3 ≤ length l → length l < 4 → mix f h (packed (get_or l 0 0) (get_or l 1 0) (get_or l 2 0) 0) ≡ hashed f h l
        three [] g k = absurd (omega arith)
        three (a ∷ []) g k = absurd (omega arith)
        three (a ∷ b ∷ []) g k = absurd (omega arith)
        three (a ∷ b ∷ c ∷ []) g k = refl
        three (a ∷ b ∷ c ∷ d ∷ l) g k = absurd (omega arith)

pub hash_is : (m f h v : ℕ) (s : List ℕ) → f ≡ factor m → h ≡ hashed f 1 s → v ≡ spread h → v ≡ hash m s
unfolding hash
hash_is m f h v s e g q = q ∙ rw (g, e)

pub hash_three : (m f a b c p h v : ℕ) → f ≡ factor m → p ≡ packed a b c 0 → h ≡ mix f 1 p → v ≡ spread h → v ≡ hash m (a ∷ b ∷ c ∷ [])
unfolding hash hashed
hash_three m f a b c p h v e q g w = w ∙ ap spread (rw (← e, ← q) g)

pub ruleset hashing = (hash_next, hash_none, hash_one, hash_two, hash_rest, hash_is, hash_three)
