-- `goto_turns::rewriting::make_loop` meets its contract. The header is made, then `to_for`.
-- Assumes nothing.
use Rattle.goto_turns.proofs.LoopRules.{ahead_header, header_calls, header_made}
use native.Mathlib.Omega.{arith}
use Rattle.goto_turns.proofs.rewriting.make_loop.Goals as goal

pub leads-tested-requires : goal.leads-tested-requires
leads-tested-requires c = let p = c.requires in (ahead_header _ _ _ _ (omega arith) p.h_bound.0 p.h_bound.1 p.ahead, omega (arith, c.indent.ensures.0, p.h_bound.3), p.h_bound.2)

pub to_for-requires : goal.to_for-requires
to_for-requires c = let p = c.requires in let z = header_calls _ _ _ p.h_bound.0 p.h_bound.1 p.h_bound.3 p.ahead _ _ _ c.make_header-m.ensures.0 c.make_header-m.ensures.1 c.make_header-m.auto.plan in record { w_lt_n = (z.0, z.1, p.h_bound.2); ahead = z.2; w_value = z.3 }

pub returns : goal.returns
returns c = let p = c.requires in header_made _ _ _ p.h_bound.0 p.h_bound.1 p.h_bound.3 p.ahead _ _ _ c.make_header-m.ensures.0 c.make_header-m.ensures.1 _ _ _ _ c.indent.ensures.0 c.leads-tested.ensures _ _ c.to_for.ensures
