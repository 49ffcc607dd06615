-- `chains::tokens::chain_token` meets its contract. A token that is in no chain, and one that becomes the first of its chain.
-- Assumes nothing.
use native.Mathlib.Omega.{arith}
use Rattle.chains.proofs.TokenRules.{token_none, token_zero, family_room, token_linked}
use Rattle.chains.proofs.tokens.chain_token.Goals as goal

pub returns-in-None-clause-chained : goal.returns-in-None-clause-chained
returns-in-None-clause-chained c = let p = c.requires in
    token_none _ _ _ _ _ _ _ _ c.args.lookup.now.finds p.2 p.4 _ c.token_place.ensures.value c.in-None.is

pub returns-in-Some-eq0-clause-chained : goal.returns-in-Some-eq0-clause-chained
returns-in-Some-eq0-clause-chained c = let p = c.requires in
    token_zero _ _ _ _ _ _ _ _ c.args.lookup.now.finds p.2 p.4 _ c.token_place.ensures.value c.in-Some-eq0.field-0 c.in-Some-eq0.is c.in-Some-eq0.field-0-test

pub link-requires : goal.link-requires
link-requires c = let p = c.requires in
    let s = c.in-Some in (
      omega (arith, p.0.lines, p.1),
      omega (arith, p.4.size, p.2),
      omega (arith, p.0.tokens, p.2),
      omega (arith, s.c-test.1),
      family_room _ _ _ _ _ _ _ _ c.args.lookup.now.finds p.2 p.4 _ c.token_place.ensures.value s.c s.is,
    )

pub returns-in-Some-clause-chained : goal.returns-in-Some-clause-chained
returns-in-Some-clause-chained c = let p = c.requires in
    let s = c.in-Some in
    token_linked _ _ _ _ _ _ _ _ c.args.lookup.now.finds p.2 p.4 _ c.token_place.ensures.value s.c s.is s.c-test.1 c.args.i p.3 _ _ c.link.ensures
