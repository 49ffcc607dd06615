-- `family_tokens::family_reads` meets its contract. By the test.
-- Assumes nothing.
use borrow.Author.Rules.{rules}
use Rattle.family_tokens.proofs.TokenRules.{token_rules}
use Rattle.family_tokens.proofs.family_reads.Goals as goal

pub returns-then-is_rsp : goal.returns-then-is_rsp
returns-then-is_rsp c = search (token_rules, rules)

pub returns : goal.returns
returns c = search (token_rules, rules)
