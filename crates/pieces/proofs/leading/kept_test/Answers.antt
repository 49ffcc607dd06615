-- `pieces::leading::kept_test` meets its contract. By its tests.
-- Assumes nothing.
use borrow.Author.Rules.{rules}
use Rattle.pieces.proofs.LeadingTests.{keeps}
use Rattle.pieces.proofs.leading.kept_test.Goals as goal

pub returns-then-ends_with : goal.returns-then-ends_with
returns-then-ends_with c = search (keeps, rules)
