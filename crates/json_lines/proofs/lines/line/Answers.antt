-- `json_lines::lines::line` meets its contract.
-- Assumes nothing.
use Rattle.json_lines.specs.InColumns.{tokens_read, line_read}
use Rattle.json_lines.proofs.LineRules.{line_no_head, line_no_tokens, line_no_end, line_whole, indent_small, word_of}
use Rattle.json_lines.proofs.lines.line.Goals as goal

pub returns-in_err-top : goal.returns-in_err-top
unfolding line_read
returns-in_err-top c = rw c.from_residual.ensures (line_no_head _ _ _ _ _ c.in_err-top.ensures)

pub returns-in_err-filled : goal.returns-in_err-filled
unfolding line_read tokens_read
returns-in_err-filled c = rw c.from_residual-in_err-filled.ensures (line_no_tokens _ _ _ _ _ _ _ c.in_ok-top.ensures c.in_err-filled.ensures)

pub returns-in_err-s : goal.returns-in_err-s
unfolding line_read tokens_read
returns-in_err-s c = rw c.from_residual-in_err-s.ensures (line_no_end _ _ _ _ _ _ _ c.in_ok-top.ensures _ _ _ _ _ c.in_ok-filled.ensures c.in_err-s.ensures)

pub low_word-requires : goal.low_word-requires
low_word-requires c = indent_small _ _ _ c.in_ok-top.ensures

pub returns : goal.returns
unfolding line_read tokens_read
returns c = line_whole _ _ _ _ _ _ _ c.in_ok-top.ensures _ _ _ _ _ c.in_ok-filled.ensures _ _ _ c.in_ok-s.ensures c.low_word.ensures (word_of c.in_ok-top.top.address _ c.unwrap_or.ensures)
