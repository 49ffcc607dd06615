-- Steps and initialisers of a `for` as the code asks for them.
--   text_between l n    the texts of the tokens of line l from place 1 up to place n
--   adds_to s           the text s starts with ` += ` or ` -= `
--   jumped_steps l      what is left of line l before its first goto steps its first token
--   jumped_family l     the family of its first token, where the line does not start with the goto
--   piece_rest C p      the texts of the piece's tokens behind the first
-- Assumes nothing.
use Rattle.std.specs.Prelude.{if◌then◌else◌, ℕ, Bool, false, ◌||◌, List, eqb, take, drop, Option, None}
use Rattle.definitions.specs.Lists.{starts_with, ascii}
use Rattle.definitions.specs.Model.{Line, token, text}
use Rattle.definitions.specs.Family.{Family, fam_of}
use Rattle.pieces.specs.Pieces.{piece, cut_place}

abbrev pub text_between : Line → ℕ → List ℕ
text_between l n = text (drop 1 (take n l.tokens))

unfoldable pub adds_to : List ℕ → Bool
adds_to s = starts_with (ascii " += ") s || starts_with (ascii " -= ") s

abbrev pub jumped_steps : Line → Bool
jumped_steps l = if eqb (cut_place l) 0 then false else adds_to (text_between l (cut_place l))

abbrev pub jumped_family : Line → Option Family
jumped_family l = if eqb (cut_place l) 0 then None else fam_of (token l 0)

abbrev pub piece_rest : List Line → ℕ → List ℕ
piece_rest C p = text (drop 1 (piece C p).tokens)
