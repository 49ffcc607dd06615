-- What the answers of the code stand for, where a definition of json_definitions gives a value and the rest of the text.
--   bytes_of b            the bytes
--   character_of r        a code point
--   string_of t from r    a string whose bytes stand in t from place `from` on
--   limited room o        what o gave, if it has at most `room` bytes
-- Assumes nothing.
use Rattle.std.specs.Prelude.{if◌then◌else◌, ℕ, List, leb, length, take, Option, None, Some}
use Rattle.std.specs.Borrow.{Bor}
use Rattle.definitions.specs.Lists.{part}
use Rattle.json_definitions.specs.Parser.{Got}
use Rattle.json_scan.specs.Answers.{found_of}
use Rattle.json_strings.specs.declared.bytes.Bytes.{Bytes}

abbrev pub bytes_of : Bytes → List ℕ
bytes_of b = take b.n b.all

abbrev pub character_of : Option (Bytes × Bor (List ℕ)) → Option (Got (List ℕ))
character_of r = found_of bytes_of r

abbrev pub string_of : List ℕ → ℕ → Option (ℕ × Bor (List ℕ)) → Option (Got (List ℕ))
string_of t from r = found_of (λ e. part from e t) r

unfoldable pub limited : ℕ → Option (Got (List ℕ)) → Option (Got (List ℕ))
limited room None = None
limited room (Some g) = if leb (length g.value) room then Some g else None
