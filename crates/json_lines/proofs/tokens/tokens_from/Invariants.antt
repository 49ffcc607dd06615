-- `json_lines::tokens::tokens_from` meets its contract.
-- Assumes nothing.
use Rattle.json_lines.proofs.TokenRules.{Going}
use Rattle.json_lines.proofs.tokens.tokens_from.Given as goal

abbrev pub invariant-loop-n : goal.invariant-loop-n
invariant-loop-n l = Going l.s l.initial.tokens l.initial.text l.fn.from.tokens l.fn.from.text l.tokens l.text l.rest l.n l.end
