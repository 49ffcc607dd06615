-- The counts of `braces` as the definitions have them.
--   counted b    how many blocks are opened and closed
-- Assumes nothing.
use Rattle.definitions.specs.Blocks.{Braces}
use Rattle.braces.specs.declared.Braces.{Braces as Counts}

abbrev pub counted : Counts → Braces
counted b = record { opens = b.opens; closes = b.closes }
