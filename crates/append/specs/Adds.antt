-- Tokens appended to the open line by the writer of crate write.
--   opened M ts                 the lines M, then the tokens ts of the open line
--   shape m ts                  the tokens merged, or as they are
--   Adding m us w w'            the open line of the destination has us behind, merged where m says so, whatever its lines and addresses are;
--                               these stay as they are
--   whole ts                    the tokens that are not empty
-- Assumes nothing.
use Rattle.std.specs.Prelude.{◌≡◌, Bool, true, false, not, List, [], ◌++◌}
use Rattle.definitions.specs.Lists.{filter}
use Rattle.definitions.specs.Model.{Token, Line}
use Rattle.definitions.specs.Statements.{is_empty, merge}
use Rattle.definitions.specs.Calls.{Columns}
use Rattle.write.specs.State.{State}
use Rattle.write.specs.Holds.{columns_of, open_lent, Holds, Same}
use Rattle.write.specs.declared.Writer.{Writer}

abbrev pub opened : List Line → List Token → State
opened M ts = record { lines = M; tokens = ts; bytes = [] }

abbrev pub shape : Bool → List Token → List Token
shape true ts = merge ts
shape false ts = ts

pub record Adding (m : Bool) (us : List Token) (w w' : Writer) : Type 0 where
  pub same : Same w w'
  pub kept : columns_of w' ≡ open_lent (columns_of w) w'
  pub adds : (o : Columns) (M : List Line) (ts : List Token) → Holds (opened M (shape m ts)) (open_lent o w) w.written
      → Holds (opened M (shape m (ts ++ us))) (open_lent o w') w'.written

abbrev pub whole : List Token → List Token
whole ts = filter (λ t. not (is_empty t)) ts
