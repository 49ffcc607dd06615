-- An assignment as the code has it. Its right side is a run of the line's tokens, the second token without its ` = ` and the last one
-- without its `;`; of these two, one that is empty then is left out of the run.
--   front k, back n k          how many bytes are cut off the front and the end of token k of n
--   expr_token l k             token k of line l with those bytes cut off
--   side l a e                 such tokens, from place a up to, not with, place e
--   expr_from l, expr_to l     where the right side starts and ends
--   assigns l, is_closed l     the line starts as an assignment does; its last token ends with `;`
--   assigned l a               the assignment
-- Assumes nothing.
use Rattle.std.specs.Prelude.{if◌then◌else◌, ℕ, ◌+◌, ◌-◌, Bool, ◌&&◌, List, map, eqb, leb, length, Option, None, Some}
use Rattle.definitions.specs.Lists.{part, range, starts_with, ends_with, ascii}
use Rattle.definitions.specs.Model.{Token, Line, tok, token, Register, Punct}
use Rattle.definitions.specs.Statements.{Assignment, is_empty}
use Rattle.assignment.specs.declared.Side.{Side}

abbrev pub front : ℕ → ℕ
front k = if eqb k 1 then 3 else 0

abbrev pub back : ℕ → ℕ → ℕ
back n k = if eqb (k + 1) n then 1 else 0

unfoldable pub expr_token : Line → ℕ → Token
expr_token l k = tok (part (front k) (length (token l k).text - back (length l.tokens) k) (token l k).text) (token l k).kind

unfoldable pub side : Line → ℕ → ℕ → List Token
side l a e = map (expr_token l) (range a (e - a))

unfoldable pub expr_from : Line → ℕ
expr_from l = if is_empty (expr_token l 1) then 2 else 1

unfoldable pub expr_to : Line → ℕ
expr_to l = let last = length l.tokens - 1 in if is_empty (expr_token l last) then last else length l.tokens

unfoldable pub assigns : Line → Bool
assigns l =
    leb 2 (length l.tokens)
    && (eqb (token l 0).kind Register && eqb (token l 1).kind Punct && starts_with (ascii " = ") (token l 1).text)

unfoldable pub is_closed : Line → Bool
is_closed l = ends_with (ascii ";") (token l (length l.tokens - 1)).text

abbrev pub assigned : Line → Option Side → Option Assignment
assigned l (Some s) = Some (record { lhs = token l 0; expr = side l s.from s.to })
assigned l None = None
