use Rattle.append.proofs.Appends.{adds_as}
use Rattle.append_pieces.proofs.Runs.{left_start, cut_added, run_goes, run_ends}
use Rattle.append_pieces.proofs.conditions.add_run.Goals as goal

pub loop-j-init : goal.loop-j-init
loop-j-init c = left_start

pub loop-j-preserved : goal.loop-j-preserved
loop-j-preserved c = run_goes _ _ _ _ _ c.loop-j.invariant _ c.token_count-n.ensures c.loop-j-test.true (adds_as (cut_added _ _ _ _ _ _ c.cut_text-s.ensures c.kind_at.ensures.0) c.add_unless_empty.ensures)

pub returns : goal.returns
returns c = run_ends _ _ _ _ _ c.loop-j.invariant _ c.token_count-n.ensures c.loop-j-test.false
