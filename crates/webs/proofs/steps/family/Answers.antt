-- `webs::steps::family` meets its contract. By the test.
-- Assumes nothing.
use native.Mathlib.Omega.{arith}
use mathlib.Core.Path.{sym, ◌∙◌}
use Rattle.webs.proofs.StepRules.{known_chain, taken_done}
use Rattle.webs.proofs.steps.family.Goals as goal

pub address_taken-requires : goal.address_taken-requires
address_taken-requires g c = (c.requires.known.0, known_chain _ _ _ _ _ _ _ _ _ c.args.chained.now.known c.requires.known.0 _ _ _ c.requires.known.1)

pub write_zeros-requires : goal.write_zeros-requires
write_zeros-requires g c = let K = c.args.chained.now.known in
    rw c.columns.ensures (known_chain _ _ _ _ _ _ _ _ _ K c.requires.known.0 _ _ _ c.requires.known.1, omega (arith, c.requires.known.0, K.finds.few))

pub returns-then-address_taken : goal.returns-then-address_taken
returns-then-address_taken g c = let W = rw c.columns.ensures at c.write_zeros.ensures in
    taken_done _ _ _ _ _ _ _ _ _ c.args.chained.now.known c.requires.known.0 _ _ _ c.requires.known.1 (sym c.address_taken.ensures ∙ c.if-address_taken.true) _ _ _ _ W
