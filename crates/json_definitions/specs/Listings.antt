-- The listings that JSON text can hold: kinds 0 to 7, texts in UTF-8, indents to 255, addresses of 64 bits.
--   is_token t, is_line l, is_listing L
-- Assumes nothing.
use Rattle.std.specs.Prelude.{ℕ, ◌^◌, ◌-◌, Bool, true, ◌&&◌, List, leb, Option, None, Some}
use Rattle.definitions.specs.Lists.{all}
use Rattle.definitions.specs.Utf8.{is_utf8}
use Rattle.definitions.specs.Model.{Token, Line}

unfoldable pub is_token : Token → Bool
is_token t = leb t.kind 7 && is_utf8 t.text

unfoldable pub is_address : Option ℕ → Bool
is_address None = true
is_address (Some a) = leb a (2 ^ 64 - 1)

unfoldable pub is_line : Line → Bool
is_line l = is_address l.address && (leb l.indent 255 && all is_token l.tokens)

abbrev pub is_listing : List Line → Bool
is_listing L = all is_line L
