-- `negate::comparison::see_brackets` meets its contract. Both brackets are counted.
-- Assumes nothing.
use Rattle.std.specs.Option.{option_map}
use Rattle.negate.specs.Comparisons.{found_of}
use Prim.Native.Nat.{ℕ, ◌+◌}
use mathlib.Core.Path.{ap₂}
use native.Mathlib.Omega.{arith}
use Rattle.negate.proofs.comparison.see_brackets.Goals as goal

pub returns : goal.returns
returns c = (ap₂ (λ (o k : ℕ). record { opened = c.args.r.now.opened + o; closed = c.args.r.now.closed + k; count = c.args.r.now.count; found = option_map found_of c.args.r.now.found }) c.count.ensures.0 c.count-2.ensures.0, omega arith)
