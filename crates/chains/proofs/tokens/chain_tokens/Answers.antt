-- `chains::tokens::chain_tokens` meets its contract. Nothing was looked up yet.
-- Assumes nothing.
use Rattle.chains.proofs.TokenRules.{chained_start}
use Rattle.chains.proofs.tokens.chain_tokens.Goals as goal

pub chain_lines-requires : goal.chain_lines-requires
chain_lines-requires c = let p = c.requires in
    rw (c.new-lookup.ensures.0, c.new-lookup.ensures.1) (
      p.1,
      chained_start _ _ _ _ p.1 _ _ _ c.no_heads.auto.first p.2 p.3 c.no_heads.ensures,
    )
