-- A place among a line's tokens.
--   text_at l p    the text of the token of line l there
-- Assumes nothing.
use Rattle.std.specs.Prelude.{ℕ, List, Option, None, Some}
use Rattle.definitions.specs.Model.{Line, token}

abbrev pub text_at : Line → Option ℕ → Option (List ℕ)
text_at l (Some k) = Some (token l k).text
text_at l None = None
