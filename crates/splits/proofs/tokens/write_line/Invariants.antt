-- `splits::tokens::write_line` meets its contract. The tokens before place k are written. Assumes nothing.
use mathlib.Core.Path.{◌≡◌}
use lib.ListN.{get_or}
use Rattle.definitions.specs.Recover.{defined_families}
use Rattle.model.specs.Listings.{listing_of, tokens_of}
use Rattle.splits.specs.Tokens.{token_number, token_mark, over}
use Rattle.splits.proofs.tokens.write_line.Given as goal

abbrev pub invariant-loop-k : goal.invariant-loop-k
invariant-loop-k l = let code = l.fn.lookup.code in
    let fs = defined_families (listing_of code) in
    (l.lookup.code ≡ code) × (l.numbers ≡ over l.from l.k (token_number fs (λ p. get_or l.fn.counts p 0)) (tokens_of code) l.initial.numbers) × (l.marks ≡ over l.from l.k (token_mark fs l.fn.d) (tokens_of code) l.initial.marks) × (l.lookup.count ≡ l.fn.lookup.count) × (l.lookup.table ≡ l.fn.lookup.table)
