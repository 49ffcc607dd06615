-- `webs::steps::all_families` meets its contract. The first k families are done.
-- Assumes nothing.
use mathlib.Core.Path.{◌≡◌}
use Prim.Native.Nat.{◌≤◌}
use lib.ListN.{length}
use Rattle.bits.specs.Edges.{row_words}
use Rattle.webs.specs.Steps.{Going}
use Rattle.webs.proofs.steps.all_families.Given as goal

abbrev pub invariant-loop-k : goal.invariant-loop-k
invariant-loop-k g l = let code = l.chained.code.now in
    (l.k ≤ l.chained.count) × Going code.lines.now code.tokens.now code.text.now (row_words (length code.lines.now)) l.k l.total l.budget l.initial.space l.space l.numbers l.marks
    × (length l.space ≡ length l.initial.space) × (length l.numbers ≡ length l.initial.numbers) × (length l.marks ≡ length l.initial.marks)
