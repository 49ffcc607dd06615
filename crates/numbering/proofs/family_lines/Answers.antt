-- `numbering::family_lines` meets its contract. By its calls.
-- Assumes nothing.
use native.Mathlib.Omega.{arith}
use lib.ListN.{length-take}
use Rattle.numbering.proofs.LineRules.{family_numbered, family_room, family_swept, family_by}
use Rattle.numbering.proofs.family_lines.Goals as goal

pub invariant_of-family : goal.invariant_of-family
invariant_of-family g c = record { numbered = family_numbered _ _ _ _ _ c.number-c.ensures c.requires.n_nonzero.1 c.new.result c.new.ensures }

pub solve-requires : goal.solve-requires
solve-requires g c = family_room _ _ _ _ _ c.number-c.ensures c.requires.n_nonzero.1 c.new.result c.new.ensures _ c.requires.n_nonzero.2 c.requires.n_nonzero.3

pub family_reps-requires-clause-swept : goal.family_reps-requires-clause-swept
family_reps-requires-clause-swept g c =
    family_swept _ _ _ _ _ c.number-c.ensures c.requires.n_nonzero.1 c.new.result c.new.ensures _ _ _ _ c.solve.ensures _ c.in_ok-sweeps.was c.requires.n_nonzero.2 c.requires.n_nonzero.3 c.solve.auto.space _ c.requires.n_nonzero.4

pub returns : goal.returns
returns g c =
    family_by _ _ _ _ _ c.number-c.ensures c.requires.n_nonzero.1 c.new.result c.new.ensures _ _ _ _ c.solve.ensures _ c.in_ok-sweeps.was _ _ _ _ _ _ _ _ _ _ _ _ c.narrow.ensures c.family_reps.ensures
    (omega (arith, c.number_defs.auto.own, length-take c.args.n c.args.scratch.now.own, c.requires.k_bound.2)) c.number_defs.ensures c.zero.ensures (omega (arith, c.number_reads.auto.read, c.zero.auto.words, length-take c.args.n c.args.scratch.now.read, c.requires.k_bound.2)) c.number_reads.ensures
