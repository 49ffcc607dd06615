-- A listing in memory: columns of words, and the listing that they stand for.
--   column      element    one word holds
--   lines       a line     token_end × 512 + has_address × 256 + indent
--   addresses   a line     its address; only the loop passes and JSON take this column
--   tokens      a token    text_end × 256 + kind
--   text        a byte     UTF-8
-- A line's tokens run from the end of the line before (0 for the first) to its own end; a token's bytes likewise.
--   listing l t x            the listing of the columns lines, tokens and text, its addresses missing
--   with_addresses l a L     the listing L with the addresses of the column a where the words l have one
--   line_words L, address_words L, token_words L, text_bytes L    the columns of a listing
-- Assumes nothing.
use Rattle.std.specs.Prelude.{if◌then◌else◌, ℕ, ◌+◌, ◌*◌, ◌/◌, ◌%◌, List, [], ◌∷◌, map, eqb, length, Option, None, Some}
use Rattle.definitions.specs.Lists.{is_some, or_else, part, concat}
use Rattle.definitions.specs.Model.{Token, Line, tok, pseudo_line, text}

-- Reading. A word over `by` is where its piece ends.

unfoldable pub pieces : {A B : Type 0} → ℕ → (ℕ → List A → B) → ℕ → List ℕ → List A → List B
pieces by make start [] xs = []
pieces by make start (w ∷ ws) xs = make w (part start (w / by) xs) ∷ pieces by make (w / by) ws xs

abbrev pub token_of : ℕ → List ℕ → Token
token_of w s = tok s (w % 256)

abbrev pub line_of : ℕ → List Token → Line
line_of w ts = pseudo_line None (w % 256) ts

abbrev pub token_list : List ℕ → List ℕ → List Token
token_list t x = pieces 256 token_of 0 t x

abbrev pub listing : List ℕ → List ℕ → List ℕ → List Line
listing l t x = pieces 512 line_of 0 l (token_list t x)

abbrev pub address_of : ℕ → ℕ → Option ℕ
address_of w a = if eqb (w / 256 % 2) 1 then Some a else None

unfoldable pub with_addresses : List ℕ → List ℕ → List Line → List Line
with_addresses (w ∷ ws) (a ∷ rest) (l ∷ ls) = pseudo_line (address_of w a) l.indent l.tokens ∷ with_addresses ws rest ls
with_addresses [] rest ls = []
with_addresses (w ∷ ws) [] ls = []
with_addresses (w ∷ ws) (a ∷ rest) [] = []

-- Writing

unfoldable pub line_words_from : ℕ → List Line → List ℕ
line_words_from start [] = []
line_words_from start (l ∷ ls) =
    let end = start + length l.tokens in
    (end * 512 + (if is_some l.address then 256 else 0) + l.indent) ∷ line_words_from end ls

unfoldable pub token_words_from : ℕ → List Token → List ℕ
token_words_from start [] = []
token_words_from start (t ∷ ts) =
    let end = start + length t.text in
    (end * 256 + t.kind) ∷ token_words_from end ts

abbrev pub all_tokens : List Line → List Token
all_tokens L = concat (map (λ l. l.tokens) L)

abbrev pub line_words : List Line → List ℕ
line_words L = line_words_from 0 L

abbrev pub address_words : List Line → List ℕ
address_words L = map (λ l. or_else l.address 0) L

abbrev pub token_words : List Line → List ℕ
token_words L = token_words_from 0 (all_tokens L)

abbrev pub text_bytes : List Line → List ℕ
text_bytes L = text (all_tokens L)
