-- `emit::lines::emit` meets its contract. The lines before place i are done.
-- Assumes nothing.
use lib.ListN.{take}
use Rattle.definitions.specs.Columns.{listing, with_addresses}
use Rattle.plan.specs.Plan.{render}
use Rattle.emit.specs.Lines.{Emits}
use Rattle.emit.proofs.lines.emit.Given as goal

abbrev pub invariant-loop-w : goal.invariant-loop-w
invariant-loop-w l = Emits (render (with_addresses l.code.lines.now l.addresses (listing l.code.lines.now l.code.tokens.now l.code.text.now)) (take l.w-index l.plan)) l.fn.out l.out
