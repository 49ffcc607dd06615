use Rattle.std.proofs.Common.{rules}
use Rattle.names.proofs.Hashing.{hash_next, hash_none, hash_one, hash_two, hash_rest}
use Rattle.names.proofs.hashed.Goals as goal

pub loop-rest-preserved : goal.loop-rest-preserved
loop-rest-preserved c = (search rules, hash_next _ _ _ _ c.loop-rest.invariant.1 _ _ c.in-len4-up.len_at_least c.packed.ensures.0 c.mix-h.ensures.0)

pub returns-in-empty : goal.returns-in-empty
returns-in-empty c = hash_none _ _ _ _ c.loop-rest.invariant.1 c.in-empty.len_below

pub returns-in-len1 : goal.returns-in-len1
returns-in-len1 c = hash_one _ _ _ _ c.loop-rest.invariant.1 _ _ c.mix.ensures.0 c.in-len1.len_at_least c.in-len1.len_below c.packed-in-len1.ensures.0

pub returns-in-len2 : goal.returns-in-len2
returns-in-len2 c = hash_two _ _ _ _ c.loop-rest.invariant.1 _ _ c.mix-in-len2.ensures.0 c.in-len2.len_at_least c.in-len2.len_below c.packed-in-len2.ensures.0

pub returns-in-len3-up : goal.returns-in-len3-up
returns-in-len3-up c = hash_rest _ _ _ _ c.loop-rest.invariant.1 _ _ c.mix-in-len3-up.ensures.0 c.in-len3-up.len_at_least c.in_default.len_below c.packed-in-len3-up.ensures.0
