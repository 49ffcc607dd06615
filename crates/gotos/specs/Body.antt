-- The body of a goto loop as words. C is the listing of the columns, h the head's name.
--   name_of o           the name that o gives, where it gives one
--   jump_form h e l     what `jump` makes of line l: 1 `continue;`, 2 `break;`, 0 the line as it is
--   moves_in w          the line can move in by one
--   body_word C h e w   the line rewritten and moved in by one
-- Assumes nothing.
use Rattle.std.specs.Prelude.{if◌then◌else◌, ℕ, ◌+◌, ◌*◌, Bool, false, List, ltb, Option, None, Some}
use Rattle.std.specs.Borrow.{Bor}
use Rattle.definitions.specs.Lists.{◌≟◌}
use Rattle.definitions.specs.Model.{Line}
use Rattle.definitions.specs.RecoverGotoLoops.{goes_to}
use Rattle.plan.specs.Plan.{indent_at, piece_at}
use Rattle.pieces.specs.Pieces.{piece}

abbrev pub name_of : Option (Bor (List ℕ)) → Option (List ℕ)
name_of None = None
name_of (Some x) = Some x.now

abbrev pub leaves : Option (List ℕ) → List ℕ → Bool
leaves None t = false
leaves (Some e) t = t ≟ e

unfoldable pub jump_form : List ℕ → Option (List ℕ) → Line → ℕ
jump_form h e l = if goes_to (λ t. t ≟ h) l then 1 else if goes_to (leaves e) l then 2 else 0

abbrev pub moves_in : ℕ → Bool
moves_in w = ltb (indent_at w) 255

unfoldable pub body_word : List Line → List ℕ → Option (List ℕ) → ℕ → ℕ
body_word C h e w = indent_at w + 1 + 2048 * (piece_at w + jump_form h e (piece C (piece_at w)))
