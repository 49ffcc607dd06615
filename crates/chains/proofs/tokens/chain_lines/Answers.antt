-- `chains::tokens::chain_lines` meets its contract. Assumes nothing.
use Rattle.chains.proofs.TokenRules.{chained_end}
use Rattle.chains.proofs.tokens.chain_lines.Goals as goal

pub returns : goal.returns
returns c = chained_end _ _ _ _ c.requires.0 _ _ _ c.loop-i-test.false c.loop-i.invariant.2
