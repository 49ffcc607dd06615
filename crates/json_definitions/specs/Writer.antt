-- The JSON text of a listing: no blanks; escaped are only quote, backslash and codes below 32, these as \u00 and two lower-case
-- hexadecimal digits.
--   decimal n         the decimal digits of n
--   escaped c         the byte c in a string
--   string_text s     the string of the bytes s, with its quotes
--   token_text t, line_text l
--   write L           the JSON text of the listing L
-- Assumes nothing.
use Rattle.std.specs.Prelude.{if◌then◌else◌, ℕ, zero, suc, ◌+◌, ◌/◌, ◌%◌, ◌||◌, List, [], ◌∷◌, ◌++◌, eqb, ltb, get_or, Option, None, Some}
use Rattle.definitions.specs.Lists.{ascii}
use Rattle.definitions.specs.Model.{Token, Line}
use Rattle.json_definitions.specs.Reader.{kinds}

-- the decimal digits of n, at most one more than f of them; n has never more than n + 1
unfoldable pub digits_of : ℕ → ℕ → List ℕ
digits_of zero n = (0x30 + n) ∷ []
digits_of (suc f) n = let front = digits_of f (n / 10) in if ltb n 10 then (0x30 + n) ∷ [] else front ++ ((0x30 + n % 10) ∷ [])

unfoldable pub decimal : ℕ → List ℕ
decimal n = digits_of n n

unfoldable pub hex_letter : ℕ → ℕ
hex_letter d = if ltb d 10 then 0x30 + d else 0x57 + d

unfoldable pub escaped : ℕ → List ℕ
escaped c =
    if eqb c 0x22 || eqb c 0x5c then 0x5c ∷ c ∷ []
    else if ltb c 0x20 then 0x5c ∷ 0x75 ∷ 0x30 ∷ 0x30 ∷ hex_letter (c / 16) ∷ hex_letter (c % 16) ∷ []
    else c ∷ []

unfoldable pub characters_text : List ℕ → List ℕ
characters_text [] = []
characters_text (c ∷ s) = escaped c ++ characters_text s

unfoldable pub string_text : List ℕ → List ℕ
string_text s = ascii "\"" ++ (characters_text s ++ ascii "\"")

unfoldable pub kind_text : ℕ → List ℕ
kind_text k = get_or kinds k []

unfoldable pub address_text : Option ℕ → List ℕ
address_text None = ascii "null"
address_text (Some a) = decimal a

-- the elements' texts, each behind a ",", and "]"
unfoldable pub elements_text : {A : Type 0} → (A → List ℕ) → List A → List ℕ
elements_text f [] = ascii "]"
elements_text f (x ∷ xs) = ascii "," ++ (f x ++ elements_text f xs)

unfoldable pub array_text : {A : Type 0} → (A → List ℕ) → List A → List ℕ
array_text f [] = ascii "[]"
array_text f (x ∷ xs) = ascii "[" ++ (f x ++ elements_text f xs)

unfoldable pub token_text : Token → List ℕ
token_text t = ascii "{\"t\":" ++ (string_text t.text ++ (ascii ",\"k\":" ++ (kind_text t.kind ++ ascii "}")))

unfoldable pub line_text : Line → List ℕ
line_text l =
    ascii "{\"address\":" ++ (address_text l.address
    ++ (ascii ",\"indent\":" ++ (decimal l.indent
    ++ (ascii ",\"tokens\":" ++ (array_text token_text l.tokens ++ ascii "}")))))

unfoldable pub write : List Line → List ℕ
write L = array_text line_text L
