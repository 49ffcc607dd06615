-- `chains::tokens::chain_line` meets its contract. The tokens from place p on are done.
-- Assumes nothing.
use Prim.Native.Nat.{◌≤◌}
use mathlib.Core.Path.{◌≡◌}
use Rattle.chains.specs.Chains.{Chained}
use Rattle.chains.proofs.tokens.chain_line.Given as goal

abbrev pub invariant-loop-p : goal.invariant-loop-p
invariant-loop-p l = let code = l.fn.lookup.code in
    (l.lookup.code ≡ code) × (l.lookup.count ≡ l.fn.lookup.count) × (l.from ≤ l.p) × Chained code.lines.now code.tokens.now code.text.now l.fn.lookup.count l.p l.numbers l.first
