-- `json_lines::tokens::token_array` meets its contract.
-- Assumes nothing.
use Rattle.json_lines.specs.InColumns.{tokens_read}
use Rattle.json_lines.proofs.TokenRules.{array_no, array_empty, array_more}
use Rattle.json_lines.proofs.tokens.token_array.Goals as goal

pub returns-in_err-s : goal.returns-in_err-s
unfolding tokens_read
returns-in_err-s c = rw c.from_residual.ensures (array_no _ _ _ _ _ c.in_err-s.ensures)

pub returns-in-Some : goal.returns-in-Some
unfolding tokens_read
returns-in-Some c = array_empty _ _ c.in_ok-s.ensures _ _ _ _ _ c.in-Some.ensures c.requires.0 c.requires.1.0

pub returns : goal.returns
returns c = rw (array_more _ _ c.in_ok-s.ensures c.in_default.ensures) c.tokens_from.ensures
