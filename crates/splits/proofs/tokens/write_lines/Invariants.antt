-- `splits::tokens::write_lines` meets its contract. The first i lines are done. Assumes nothing.
use mathlib.Core.Path.{◌≡◌}
use Rattle.definitions.specs.Recover.{defined_families}
use Rattle.model.specs.Listings.{listing_of, tokens_of}
use Rattle.splits.proofs.WriteRules.{Tallied, Written, number_at, mark_at}
use Rattle.splits.proofs.tokens.write_lines.Given as goal

abbrev pub invariant-loop-i : goal.invariant-loop-i
invariant-loop-i l = let code = l.fn.lookup.code in
    let fs = defined_families (listing_of code) in
    (l.lookup.code ≡ code) × Tallied l.fn.starts l.i l.counts × Written code.lines.now code.tokens.now (number_at fs l.fn.starts) (tokens_of code) l.initial.numbers l.i l.numbers × Written code.lines.now code.tokens.now (mark_at fs l.fn.starts) (tokens_of code) l.initial.marks l.i l.marks × (l.lookup.count ≡ l.fn.lookup.count) × (l.lookup.table ≡ l.fn.lookup.table)
