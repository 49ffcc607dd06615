-- A listing, to be read beside model.rs and pseudo.rs.
--   Token                UTF-8 text and a kind
--   Line                 an address that may be missing, an indent, tokens
--   tok s k              the token with text s and kind k
--   pseudo_line a i ts   the line with address a, indent i and tokens ts
--   token l k            token k of line l
--   line L i             line i of the listing L
--   text ts              the texts of the tokens, one after the other
-- Assumes nothing.
use Rattle.std.specs.Prelude.{ℕ, List, [], ◌∷◌, ◌++◌, get_or, Option, None}

-- The kinds of a token.

abbrev pub Text : ℕ
Text = 0

abbrev pub Register : ℕ
Register = 1

abbrev pub Number : ℕ
Number = 2

abbrev pub Keyword : ℕ
Keyword = 3

abbrev pub Symbol : ℕ
Symbol = 4

abbrev pub Address : ℕ
Address = 5

abbrev pub Punct : ℕ
Punct = 6

abbrev pub Prefix : ℕ
Prefix = 7

pub record Token : Type 0 where
  pub text : List ℕ
  pub kind : ℕ

pub record Line : Type 0 where
  pub address : Option ℕ
  pub indent : ℕ
  pub tokens : List Token

abbrev pub tok : List ℕ → ℕ → Token
tok s k = record { text = s; kind = k }

abbrev pub pseudo_line : Option ℕ → ℕ → List Token → Line
pseudo_line a i ts = record { address = a; indent = i; tokens = ts }

-- What stands where there is no token or no line; no definition asks what it is.

abbrev pub no_token : Token
no_token = tok [] Text

abbrev pub no_line : Line
no_line = pseudo_line None 0 []

abbrev pub token : Line → ℕ → Token
token l k = get_or l.tokens k no_token

abbrev pub line : List Line → ℕ → Line
line L i = get_or L i no_line

unfoldable pub text : List Token → List ℕ
text [] = []
text (t ∷ ts) = t.text ++ text ts
