-- A string of RFC 8259, section 7, as the UTF-8 bytes that it stands for.
--   encode u        the UTF-8 bytes of the code point u (RFC 3629, section 3)
--   unescaped       a code point of at least 32 that is neither quote nor backslash, as it stands
--   escape          what stands behind a backslash: one of " \ / b f n r t, or u and four hexadecimal digits, two such for a surrogate pair
--   character       one code point of a string
--   string          white space, a quote, characters, a quote
-- Assumes nothing.
use Rattle.std.specs.Prelude.{if◌then◌else◌, ℕ, zero, suc, ◌+◌, ◌*◌, ◌-◌, ◌/◌, ◌%◌, List, [], ◌∷◌, ◌++◌, eqb, leb, ltb, length, None, Some}
use Rattle.definitions.specs.Lists.{ascii}
use Rattle.definitions.specs.Utf8.{Range, within, following}
use Rattle.json_definitions.specs.Parser.{got, Parser, pure, after, or_try, ◌>>=◌, ◌>>◌, literal, lexeme}

unfoldable pub encode : ℕ → List ℕ
encode u =
    if ltb u 0x80 then u ∷ []
    else if ltb u 0x800 then (0xc0 + u / 64) ∷ (0x80 + u % 64) ∷ []
    else if ltb u 0x10000 then (0xe0 + u / 4096) ∷ (0x80 + u / 64 % 64) ∷ (0x80 + u % 64) ∷ []
    else (0xf0 + u / 262144) ∷ (0x80 + u / 4096 % 64) ∷ (0x80 + u / 64 % 64) ∷ (0x80 + u % 64) ∷ []

-- one byte of each range
unfoldable pub in_ranges : List Range → Parser (List ℕ)
in_ranges [] s = got [] s
in_ranges (r ∷ rs) [] = None
in_ranges (r ∷ rs) (b ∷ s) =
    let rest = after (in_ranges rs s) (λ bs. pure (b ∷ bs)) in
    if within r.low r.high b then rest else None

-- the code point that the text starts with, RFC 3629
unfoldable pub code_point : Parser (List ℕ)
code_point [] = None
code_point (a ∷ s) = elim (following a) [ None ↦ None | Some rs ↦ after (in_ranges rs s) (λ bs. pure (a ∷ bs)) ]

unfoldable pub unescaped : Parser (List ℕ)
unescaped [] = None
unescaped (c ∷ s) = let point = code_point (c ∷ s) in if ltb c 0x20 then None else point

-- Escapes

-- the value of a hexadecimal digit, 16 where it is none
unfoldable pub hex_value : ℕ → ℕ
hex_value c =
    if within 0x30 0x39 c then c - 0x30
    else if within 0x61 0x66 c then c - 0x57
    else if within 0x41 0x46 c then c - 0x37
    else 16

unfoldable pub hex_digit : Parser ℕ
hex_digit [] = None
hex_digit (c ∷ s) = if ltb (hex_value c) 16 then got (hex_value c) s else None

unfoldable pub hex_4 : Parser ℕ
hex_4 = do
  a ← hex_digit
  b ← hex_digit
  c ← hex_digit
  d ← hex_digit
  pure (a * 4096 + b * 256 + c * 16 + d)

-- the code point of the surrogates u and w, where w is a low one
unfoldable pub low_surrogate : ℕ → ℕ → Parser (List ℕ)
low_surrogate u w s = if within 0xdc00 0xdfff w then got (encode (0x10000 + (u - 0xd800) * 1024 + (w - 0xdc00))) s else None

-- what \u and the number u stand for: a high surrogate wants \u and a low one, a low one alone is not taken
unfoldable pub code_unit : ℕ → Parser (List ℕ)
code_unit u s =
    let pair = (literal (ascii "\\u") >> (hex_4 >>= low_surrogate u)) s in
    if within 0xd800 0xdfff u then (if leb u 0xdbff then pair else None) else got (encode u) s

-- what a backslash and c stand for, 0 where c is none of " \ / b f n r t
unfoldable pub short_escape : ℕ → ℕ
short_escape c =
    if eqb c 0x22 then 0x22
    else if eqb c 0x5c then 0x5c
    else if eqb c 0x2f then 0x2f
    else if eqb c 0x62 then 0x08
    else if eqb c 0x66 then 0x0c
    else if eqb c 0x6e then 0x0a
    else if eqb c 0x72 then 0x0d
    else if eqb c 0x74 then 0x09
    else 0

unfoldable pub escape : Parser (List ℕ)
escape [] = None
escape (c ∷ s) =
    let long = (hex_4 >>= code_unit) s in
    if eqb c 0x75 then long else if eqb (short_escape c) 0 then None else got (short_escape c ∷ []) s

-- Strings

unfoldable pub character : Parser (List ℕ)
character [] = None
character (c ∷ s) = if eqb c 0x5c then escape s else unescaped (c ∷ s)

-- the characters up to a quote; each takes a byte at least, so a bound of the text's length is never met
unfoldable pub characters : ℕ → Parser (List ℕ)
characters zero s = None
characters (suc n) s =
    or_try (after (literal (ascii "\"") s) (λ _. pure [])) (character >>= (λ u. characters n >>= (λ us. pure (u ++ us)))) s

unfoldable pub string : Parser (List ℕ)
string s = after (lexeme (ascii "\"") s) (λ _ r. characters (length r) r)
