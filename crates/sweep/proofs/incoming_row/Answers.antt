-- `sweep::incoming_row` meets its contract. Assumes nothing.
use native.Mathlib.Omega.{arith}
use Rattle.sweep.proofs.Counting.{incoming_made}
use Rattle.sweep.proofs.incoming_row.Goals as goal

pub returns : goal.returns
returns c = record { value = omega arith; incoming = incoming_made _ _ _ _ _ _ c.args.layout.lines c.requires.1 c.coming_row.ensures }
