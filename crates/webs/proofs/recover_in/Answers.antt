-- `webs::recover_in` meets its contract. By its calls.
-- Assumes nothing.
use native.Mathlib.Omega.{arith}
use Rattle.webs.proofs.Whole.{bounds_by, finds_all, known_by, state_start, whole_by}
use Rattle.webs.proofs.recover_in.Goals as goal

pub chain_tokens-requires : goal.chain_tokens-requires
chain_tokens-requires g c = let f = finds_all _ _ _ _ _ _ c.families-count.ensures in (f, bounds_by _ _ c.requires.in_bounds.3 c.requires.in_bounds.1 c.requires.in_bounds.2, c.requires.lines_in_bounds.1, omega (arith, c.families-count.ensures.small, c.requires.room.1))

pub invariant_of-chained : goal.invariant_of-chained
invariant_of-chained g c = record { known = known_by _ _ _ _ _ _ c.families-count.ensures (bounds_by _ _ c.requires.in_bounds.3 c.requires.in_bounds.1 c.requires.in_bounds.2) c.requires.in_bounds.0 _ _ c.chain_tokens.ensures }

pub all_families-requires-clause-known : goal.all_families-requires-clause-known
all_families-requires-clause-known g c =
    state_start _ _ _ _ _ c.args.marks.now (bounds_by _ _ c.requires.in_bounds.3 c.requires.in_bounds.1 c.requires.in_bounds.2) _ _ _ _ c.requires.lines_in_bounds.3 c.requires.lines_in_bounds.2 c.zero.ensures c.chain_tokens.ensures

pub returns : goal.returns
returns g c = whole_by _ _ _ _ _ _ _ _ _ c.requires.in_bounds.0 c.requires.lines_in_bounds.3 c.all_families.ensures
