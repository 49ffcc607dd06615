-- A link is a word of 16 bits. Assumes nothing.
use Rattle.std.proofs.Common.{◌<◌}
use Rattle.families.proofs.is_long.Given as goal

abbrev pub invariant-links : goal.invariant-links
invariant-links l = l.c < 65536
