-- `crossings::mark_line` meets its contract. The gotos from the one at the place `goto` on are left to mark. Assumes nothing.
use Rattle.std.specs.Prelude.{IfSome}
use Prim.Native.Nat.{◌<◌}
use mathlib.Core.Path.{◌≡◌}
use lib.ListN.{length}
use Rattle.definitions.specs.Columns.{token_list, listing}
use Rattle.crossings.specs.Crossed.{Marking, line_gotos}
use Rattle.labels.proofs.Leads.{left}
use Rattle.crossings.proofs.Joins.{gotos_at}
use Rattle.crossings.proofs.mark_line.Given as goal

abbrev pub invariant-loop-goto : goal.invariant-loop-goto
invariant-loop-goto l = IfSome l.goto (λ k. k < l.e) × (length l.far ≡ length l.initial.far) × Marking l.initial.far l.far (line_gotos (listing l.labels.code.lines.now l.labels.code.tokens.now l.labels.code.text.now) l.i) (gotos_at (listing l.labels.code.lines.now l.labels.code.tokens.now l.labels.code.text.now) l.i (token_list l.labels.code.tokens.now l.labels.code.text.now) l.goto l.e)

abbrev pub decreases-loop-goto : goal.decreases-loop-goto
decreases-loop-goto l = left l.goto l.e
