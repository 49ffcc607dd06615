-- How long the bytes of a string are in a text, without the text.
--   total f xs       the sum of what f gives of the elements
--   byte_size c      the length of a byte in a string
--   Sized s m r      r is s, and at most m
-- Assumes nothing.
use Rattle.std.specs.Prelude.{ℕ, ◌+◌, ◌≤◌, ◌≡◌, List, [], ◌∷◌, length}
use Rattle.json_definitions.specs.Writer.{escaped}

unfoldable pub total : {A : Type 0} → (A → ℕ) → List A → ℕ
total f [] = 0
total f (x ∷ xs) = f x + total f xs

abbrev pub byte_size : ℕ → ℕ
byte_size c = length (escaped c)

pub record Sized (s m r : ℕ) : Type 0 where
  pub is : r ≡ s
  pub most : r ≤ m
