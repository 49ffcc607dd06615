-- `chains::tokens::chain_lines` meets its contract. The lines from line i on are done.
-- Assumes nothing.
use mathlib.Core.Path.{◌≡◌}
use Rattle.model.specs.Places.{line_start}
use Rattle.chains.specs.Chains.{Chained}
use Rattle.chains.proofs.tokens.chain_lines.Given as goal

abbrev pub invariant-loop-i : goal.invariant-loop-i
invariant-loop-i l = let code = l.fn.lookup.code in
    (l.lookup.code ≡ code) × (l.lookup.count ≡ l.fn.lookup.count) × Chained code.lines.now code.tokens.now code.text.now l.fn.lookup.count (line_start code.lines.now l.i) l.numbers l.first
