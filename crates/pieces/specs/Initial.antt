-- Initialisers that were cut at their first goto. p says whether a token names the stepped register's family.
--   cut_from l a       the tokens of line l from place a on and before its first goto
--   cut_assigns l      the line starts as an assignment does, before its first goto
--   cut_calls l        what is left of the line calls
--   cut_inits p l      `inits` of the line that was cut
--   cut_passes p l     `passes` of it
-- Assumes nothing.
use Rattle.std.specs.Prelude.{ℕ, ◌-◌, Bool, ◌&&◌, ◌||◌, not, List, eqb, leb, ltb, take, drop}
use Rattle.definitions.specs.Lists.{any, starts_with, ascii}
use Rattle.definitions.specs.Model.{Token, Line, token, Register, Keyword, Punct}
use Rattle.definitions.specs.Statements.{call_at}
use Rattle.pieces.specs.Pieces.{cut_place, comes_before}

abbrev pub cut_from : Line → ℕ → List Token
cut_from l a = drop a (take (cut_place l) l.tokens)

unfoldable pub cut_assigns : Line → Bool
cut_assigns l = leb 2 (cut_place l) && (eqb (token l 0).kind Register && (eqb (token l 1).kind Punct && starts_with (ascii " = ") (token l 1).text))

unfoldable pub cut_inits : (Token → Bool) → Line → Bool
cut_inits p l = cut_assigns l && (p (token l 0) && not (any p (cut_from l 2)))

-- the last token calls whatever stands behind it
abbrev pub calls_next : Token → Bool
calls_next t = eqb t.kind Keyword && starts_with (ascii "((void") t.text

unfoldable pub cut_calls : Line → Bool
cut_calls l = comes_before (call_at l) (cut_place l - 1) || (ltb 0 (cut_place l) && calls_next (token l (cut_place l - 1)))

unfoldable pub cut_passes : (Token → Bool) → Line → Bool
cut_passes p l = cut_assigns l && (not (any p (cut_from l 0)) && not (cut_calls l))
