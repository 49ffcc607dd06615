-- The hash of a name by a multiplier. Any function of the two would do.
--   factor m            the factor of the multiplier m
--   mix f h c           (h + c) * f modulo 2^33 - 9, not reduced in full
--   packed a b c d      four bytes as one number
--   hashed f h s        the number h, gone on with the bytes s, four at a time
--   spread h            the square of the lower 32 bits of h, without its lower 16
--   hash m s            the hash of the name s by the multiplier m
-- Assumes nothing.
use Rattle.std.specs.Prelude.{ℕ, ◌+◌, ◌*◌, ◌/◌, ◌%◌, List, [], ◌∷◌}

unfoldable pub factor : ℕ → ℕ
factor m = (m + 65536) * (m + 65536) / 64

unfoldable pub mix : ℕ → ℕ → ℕ → ℕ
mix f h c = (h + c) * f % 8589934592 + 9 * ((h + c) * f / 8589934592)

abbrev pub packed : ℕ → ℕ → ℕ → ℕ → ℕ
packed a b c d = a + 256 * b + 65536 * c + 16777216 * d

unfoldable pub hashed : ℕ → ℕ → List ℕ → ℕ
hashed f h [] = h
hashed f h (a ∷ []) = mix f h (packed a 0 0 0)
hashed f h (a ∷ b ∷ []) = mix f h (packed a b 0 0)
hashed f h (a ∷ b ∷ c ∷ []) = mix f h (packed a b c 0)
hashed f h (a ∷ b ∷ c ∷ d ∷ s) = hashed f (mix f h (packed a b c d)) s

unfoldable pub spread : ℕ → ℕ
spread h = (h % 4294967296) * (h % 4294967296) / 65536

unfoldable pub hash : ℕ → List ℕ → ℕ
hash m s = spread (hashed (factor m) 1 s)
