-- The tokens of an initialiser or a step, or of a line as it is.
--   dressed p ts    the tokens without the last code point, where p says so
--   trimmed p s     the text s without its last code point, where p says so
-- Assumes nothing.
use Rattle.std.specs.Prelude.{ℕ, Bool, cond, List}
use Rattle.definitions.specs.Model.{Token}
use Rattle.definitions.specs.ToFor.{popped, pop}

abbrev pub dressed : Bool → List Token → List Token
dressed p ts = cond p (popped ts) ts

abbrev pub trimmed : Bool → List ℕ → List ℕ
trimmed p s = cond p (pop s) s
