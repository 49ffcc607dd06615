-- `write::Writer::end_merged` meets its contract. By whether the token joins the last one.
-- Assumes nothing.
use mathlib.Core.Path.{sym, ◌∙◌, subst}
use Rattle.write.specs.State.{end_merged}
use Rattle.write.specs.Holds.{tokens_lent, Holds}
use Rattle.write.specs.declared.Cursor.{Cursor}
use Rattle.write.proofs.Steps.{apart}
use Rattle.write.proofs.Writer.end_merged.Goals as goal

pub returns-then-joins : goal.returns-then-joins
returns-then-joins c = let e = c.extend_token.ensures in record {
  same = e.same;
  kept = e.kept;
  holds = λ o s h. subst (λ (d : Cursor). Holds (end_merged c.args.kind s) (tokens_lent o c.extend_token.new.self) d) (sym e.written)
      (e.holds o s (sym c.joins.ensures ∙ c.if-joins.true) h);
}

pub returns-else-joins : goal.returns-else-joins
returns-else-joins c = apart _ _ c.joins.ensures c.if-joins.false c.end_token.ensures
