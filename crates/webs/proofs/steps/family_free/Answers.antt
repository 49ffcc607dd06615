-- `webs::steps::family_free` meets its contract. By the answer of `family_lines`.
-- Assumes nothing.
use native.Mathlib.Omega.{arith}
use borrow.Author.Rules.{rules}
use Rattle.webs.proofs.StepRules.{known_chain, reads_below, free_done, free_over}
use Rattle.webs.proofs.steps.family_free.Goals as goal

pub family_reads-m-requires-clause-fact : goal.family_reads-m-requires-clause-fact
family_reads-m-requires-clause-fact g c = let K = c.args.chained.now.known in
    rw c.columns-columns.ensures (K.finds.table, c.requires.known.0, omega (arith, c.requires.known.0, K.finds.few), known_chain _ _ _ _ _ _ _ _ _ K c.requires.known.0 _ _ _ c.requires.known.1, K.defs)

pub family_lines-requires : goal.family_lines-requires
family_lines-requires g c = let K = c.args.chained.now.known in
    let R = rw c.columns-columns.ensures at c.family_reads-m.ensures in
    let few = c.requires.lines_in_bounds in
    let B = reads_below _ _ _ _ _ _ _ _ _ K c.requires.known.0 _ _ _ c.requires.known.1 _ R.1 in (
      search rules,
      (
        (K.some, omega (arith, few.1, few.2), few.0, c.requires.known.1.agree, B),
        (omega (arith, c.requires.known.0, K.finds.few), K.room, few.1),
      ),
    )

pub returns-in_err-sweeps : goal.returns-in_err-sweeps
returns-in_err-sweeps g c = let R = rw c.columns-columns.ensures at c.family_reads-m.ensures in
    rw c.from_residual.ensures (free_over _ _ _ _ _ _ _ _ _ c.args.chained.now.known c.requires.known.0 _ _ _ c.requires.known.1 c.requires.k_value _ _ _ _ _ _ R.1 c.family_lines.ensures _ _ c.in_err-sweeps.was)

pub write_family-requires : goal.write_family-requires
write_family-requires g c = let K = c.args.chained.now.known in
    rw c.columns-columns.ensures (known_chain _ _ _ _ _ _ _ _ _ K c.requires.known.0 _ _ _ c.requires.known.1, omega (arith, c.requires.known.0, K.finds.few))

pub returns : goal.returns
returns g c = let R = rw c.columns-columns.ensures at c.family_reads-m.ensures in
    let W = rw c.columns-columns.ensures at c.write_family.ensures in
    free_done _ _ _ _ _ _ _ _ _ c.args.chained.now.known c.requires.known.0 _ _ _ c.requires.known.1 c.requires.k_value _ _ _ _ _ _ R.1 c.family_lines.ensures _ _ _ c.in_ok-sweeps.was W
