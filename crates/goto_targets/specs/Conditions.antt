-- The condition of a header, of the words of a plan. C is the listing of the columns.
--   over C k t            the condition of a header of kind k: the leading test of the piece t, or 1
-- Assumes nothing.
use Rattle.std.specs.Prelude.{if◌then◌else◌, ℕ, ◌%◌, List, eqb}
use Rattle.definitions.specs.Lists.{or_else}
use Rattle.definitions.specs.Model.{Token, Line}
use Rattle.definitions.specs.RecoverGotoLoops.{leading_test, one}
use Rattle.pieces.specs.Pieces.{piece}

abbrev pub over : List Line → ℕ → ℕ → List Token
over C k t = if eqb (k % 2) 1 then or_else (leading_test (piece C t) 0) one else one
