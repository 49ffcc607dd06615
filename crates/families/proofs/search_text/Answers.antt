-- `families::search_text` meets its contract. By the last family of the hash.
-- Assumes nothing.
use Rattle.families.proofs.Finding.{last_inside, found_text}
use Rattle.families.proofs.search_text.Goals as goal

pub has_text-requires : goal.has_text-requires
has_text-requires c =
    last_inside _ _ _ c.args.s.now c.args.r c.requires.0 c.requires.2 _ _ c.hash_of-h.ensures.0 c.hash_of-h.ensures.1 c.number-last.ensures c.if-last-gt0.true c.requires.1

pub returns-then-has_text : goal.returns-then-has_text
returns-then-has_text c =
    found_text _ _ _ c.args.s.now c.args.r c.requires.0 c.requires.2 _ _ c.hash_of-h.ensures.0 c.hash_of-h.ensures.1 c.number-last.ensures c.if-last-gt0.true _ c.has_text.ensures c.if-has_text.true
