-- Document 01's listings 1 to 10 and its four traps: the definitions answer what each row of specs/Rows says. It stands here, and not beside
-- the rows, so that a wrong definition is refused as a proof that no longer holds.
-- Assumes nothing.
use Rattle.std.specs.Prelude.{◌≡◌, refl, map}
use Rattle.definitions.specs.Rows.{rows, shown}

pub rows_hold : map (λ r. shown r.call r.listing) rows ≡ map (λ r. r.answer) rows
unfolding shown
rows_hold = refl
