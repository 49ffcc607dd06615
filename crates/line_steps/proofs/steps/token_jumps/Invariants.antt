-- `line_steps::steps::token_jumps` meets its contract. The gotos from the one at the place `goto` on are left to draw, and their answer is the answer.
-- Assumes nothing.
use Rattle.std.specs.Prelude.{IfSome}
use Prim.Native.Nat.{◌<◌}
use mathlib.Core.Path.{◌≡◌}
use lib.ListN.{length}
use Rattle.definitions.specs.FlowGraph.{leads, jumps}
use Rattle.definitions.specs.Lists.{all, is_some}
use Rattle.definitions.specs.Columns.{token_list, listing}
use Rattle.labels.proofs.Leads.{leads_at, left}
use Rattle.line_steps.specs.Drawing.{Drawing, from}
use Rattle.line_steps.proofs.Edges.{jumps_at}
use Rattle.line_steps.proofs.steps.token_jumps.Given as goal

abbrev pub invariant-loop-goto : goal.invariant-loop-goto
invariant-loop-goto l = IfSome l.goto (λ k. k < l.e) × (length l.space ≡ length l.initial.space) × (all is_some (leads (listing l.labels.code.lines.now l.labels.code.tokens.now l.labels.code.text.now) l.i) ≡ all is_some (leads_at (listing l.labels.code.lines.now l.labels.code.tokens.now l.labels.code.text.now) (token_list l.labels.code.tokens.now l.labels.code.text.now) l.goto l.e)) × Drawing (length l.labels.code.lines.now) l.r l.initial.space l.space (from l.i (jumps (listing l.labels.code.lines.now l.labels.code.tokens.now l.labels.code.text.now) l.i)) (from l.i (jumps_at (listing l.labels.code.lines.now l.labels.code.tokens.now l.labels.code.text.now) (token_list l.labels.code.tokens.now l.labels.code.text.now) l.goto l.e))

abbrev pub decreases-loop-goto : goal.decreases-loop-goto
decreases-loop-goto l = left l.goto l.e
