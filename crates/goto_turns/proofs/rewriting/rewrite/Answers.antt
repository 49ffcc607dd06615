-- `goto_turns::rewriting::rewrite` meets its contract. The body, then the store.
-- Assumes nothing.
use Rattle.goto_turns.proofs.LoopRules.{rewritten_words}
use Rattle.goto_turns.proofs.rewriting.rewrite.Goals as goal

pub returns : goal.returns
returns c = record { value = c.rewrite_jumps-moved.ensures.value; plan_after = rewritten_words _ _ _ _ _ _ _ c.requires _ c.indent.ensures.0 _ c.close_word.ensures _ _ c.rewrite_jumps-moved.ensures.plan_after }
