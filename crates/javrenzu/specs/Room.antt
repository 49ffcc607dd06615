-- What the command lends: question 1's limits and what follows from them. Each array is one name, so that no proof writes it out.
--   zeros n a    n words a
--   token_zeros, text_zeros, mark_zeros, space_zeros, word_zeros, byte_zeros    the arrays
--   room         the columns that the reader fills
--   lent_room    what the web call and the chooser fill; split_room, the split call
--   pass_room    the columns that a pass fills
-- Assumes nothing.
use Rattle.std.specs.Prelude.{ℕ, List, [], replicate}
use Rattle.definitions.specs.Calls.{Columns, Lent}

unfoldable pub zeros : {A : Type 0} → ℕ → A → List A
zeros n a = replicate n a

abbrev pub token_zeros : List ℕ
token_zeros = zeros 16384 0

abbrev pub text_zeros : List ℕ
text_zeros = zeros 262144 0

abbrev pub mark_zeros : List ℕ
mark_zeros = zeros 16384 0

abbrev pub space_zeros : List ℕ
space_zeros = zeros 73792 0

abbrev pub word_zeros : List ℕ
word_zeros = zeros 24576 0

abbrev pub byte_zeros : List ℕ
byte_zeros = zeros 294912 0

abbrev pub room : Columns
room = record { lines = zeros 1024 0; addresses = zeros 1024 0; tokens = token_zeros; text = text_zeros }

abbrev pub lent_room : Lent
lent_room = record { numbers = token_zeros; marks = mark_zeros; space = space_zeros }

abbrev pub split_room : Lent
split_room = record { numbers = token_zeros; marks = mark_zeros; space = [] }

abbrev pub pass_room : Columns
pass_room = record { lines = zeros 1024 0; addresses = zeros 1024 0; tokens = word_zeros; text = byte_zeros }
