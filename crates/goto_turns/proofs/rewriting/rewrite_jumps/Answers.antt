-- `goto_turns::rewriting::rewrite_jumps` meets its contract. The body, by the names of the head and of the exit.
-- Assumes nothing.
use Rattle.goto_turns.proofs.LoopRules.{jumped_by}
use Rattle.goto_turns.proofs.rewriting.rewrite_jumps.Goals as goal

pub returns : goal.returns
returns c = record { value = c.rewrite_body.ensures.value; plan_after = jumped_by _ _ _ _ _ _ _ c.requires _ c.source.ensures _ c.text_at-head.ensures _ _ _ c.exit_name-exit.ensures c.rewrite_body.ensures.plan_after }
