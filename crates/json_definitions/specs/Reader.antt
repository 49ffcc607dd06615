-- Which JSON texts are read, and as which listing: RFC 8259 text of document 01's shape
--   [{"address":null,"indent":1,"tokens":[{"t":"}","k":"punct"}]}]
-- with white space where RFC 8259 allows it, members in this order, whole numbers, names and kinds without escapes.
--   number m    white space and a whole number, at most m, without sign, leading zero, fraction or exponent
--   kinds       the names of the kinds, in the order of their numbers
--   token, line a token, a line
--   read s      the listing that the text s writes, none where it writes none
-- Assumes nothing.
use Rattle.std.specs.Prelude.{if◌then◌else◌, ℕ, suc, ◌+◌, ◌*◌, ◌-◌, ◌^◌, Bool, true, false, List, [], ◌∷◌, eqb, leb, Option, None, Some}
use Rattle.definitions.specs.Lists.{ascii}
use Rattle.definitions.specs.Utf8.{within}
use Rattle.definitions.specs.Model.{Token, Line, tok, pseudo_line}
use Rattle.json_definitions.specs.Parser.{Got, got, Parser, pure, after, or_try, ◌>>=◌, ◌>>◌, skip_white_space, lexeme, array}
use Rattle.json_definitions.specs.Strings.{string}

-- Numbers

abbrev pub is_digit : ℕ → Bool
is_digit c = within 0x30 0x39 c

-- the number whose first digits are v and whose other digits the text starts with
unfoldable pub digits : ℕ → List ℕ → Got ℕ
digits v [] = record { value = v; rest = [] }
digits v (c ∷ s) = let more = digits (v * 10 + (c - 0x30)) s in if is_digit c then more else record { value = v; rest = c ∷ s }

unfoldable pub at_most : ℕ → Got ℕ → Option (Got ℕ)
at_most m g = if leb g.value m then Some g else None

-- 0, or digits of which the first is not 0
unfoldable pub whole_number : ℕ → Parser ℕ
whole_number m [] = None
whole_number m (c ∷ s) = let more = at_most m (digits (c - 0x30) s) in if eqb c 0x30 then got 0 s else if is_digit c then more else None

unfoldable pub number : ℕ → Parser ℕ
number m s = whole_number m (skip_white_space s)

-- null, or a number of 64 bits
unfoldable pub address : Parser (Option ℕ)
address s = or_try (after (lexeme (ascii "null") s) (λ _. pure None)) (number (2 ^ 64 - 1) >>= (λ v. pure (Some v))) s

-- Kinds

-- one of the names, which are numbered from k on
unfoldable pub one_of : ℕ → List (List ℕ) → Parser ℕ
one_of k [] s = None
one_of k (w ∷ ws) s = or_try (after (lexeme w s) (λ _. pure k)) (one_of (suc k) ws) s

abbrev pub kinds : List (List ℕ)
kinds =
    ascii "\"text\"" ∷ ascii "\"register\"" ∷ ascii "\"number\"" ∷ ascii "\"keyword\"" ∷ ascii "\"symbol\""
    ∷ ascii "\"address\"" ∷ ascii "\"punct\"" ∷ ascii "\"prefix\"" ∷ []

unfoldable pub kind : Parser ℕ
kind = one_of 0 kinds

-- Tokens and lines

-- "{" or ",", the name of a member, and ":"
unfoldable pub member : List ℕ → List ℕ → Parser (Unit {0})
member before name = do
  lexeme before
  lexeme name
  lexeme (ascii ":")

-- a token behind its text
unfoldable pub token_kind : Parser ℕ
token_kind = do
  member (ascii ",") (ascii "\"k\"")
  k ← kind
  lexeme (ascii "}")
  pure k

unfoldable pub token : Parser Token
token = do
  member (ascii "{") (ascii "\"t\"")
  t ← string
  k ← token_kind
  pure (tok t k)

-- a line up to its tokens
pub record Head : Type 0 where
  pub address : Option ℕ
  pub indent : ℕ

unfoldable pub line_indent : Parser ℕ
line_indent = do
  member (ascii ",") (ascii "\"indent\"")
  i ← number 255
  member (ascii ",") (ascii "\"tokens\"")
  pure i

unfoldable pub head : Parser Head
head = do
  member (ascii "{") (ascii "\"address\"")
  a ← address
  i ← line_indent
  pure (record { address = a; indent = i })

unfoldable pub line : Parser Line
line = do
  h ← head
  ts ← array token
  lexeme (ascii "}")
  pure (pseudo_line h.address h.indent ts)

-- The whole text: behind the array stands nothing but white space.

unfoldable pub is_empty : List ℕ → Bool
is_empty [] = true
is_empty (c ∷ s) = false

unfoldable pub ended : Option (Got (List Line)) → Option (List Line)
ended None = None
ended (Some g) = if is_empty (skip_white_space g.rest) then Some g.value else None

unfoldable pub read : List ℕ → Option (List Line)
read s = ended (array line s)
