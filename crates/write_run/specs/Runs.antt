-- Tokens written as they stand in the columns that they are read from.
--   moved a b w               the token word w, its end moved from byte a of one text to byte b of another
--   add_run us s              the tokens us behind those of the open line
--   Running us out c out' c'  what held a state without an open byte holds the tokens us more
--   Runs us w w'              the same of a destination, whatever its lines and addresses are; these stay as they are
-- Assumes nothing.
use Rattle.std.specs.Prelude.{ℕ, ◌+◌, ◌-◌, ◌*◌, ◌/◌, ◌%◌, ◌≡◌, List, [], ◌++◌}
use Rattle.definitions.specs.Model.{Token}
use Rattle.definitions.specs.Calls.{Columns}
use Rattle.write.specs.State.{State}
use Rattle.write.specs.Holds.{columns_of, open_lent, Holds, Same}
use Rattle.write.specs.declared.Cursor.{Cursor}
use Rattle.write.specs.declared.Writer.{Writer}

abbrev pub moved : ℕ → ℕ → ℕ → ℕ
moved a b w = (w / 256 - a + b) * 256 + w % 256

abbrev pub add_run : List Token → State → State
add_run us s = record { lines = s.lines; tokens = s.tokens ++ us; bytes = [] }

abbrev pub Running : List Token → Columns → Cursor → Columns → Cursor → Type 0
Running us out c out' c' = (s : State) → s.bytes ≡ [] → Holds s out c → Holds (add_run us s) out' c'

pub record Runs (us : List Token) (w w' : Writer) : Type 0 where
  pub same : Same w w'
  pub kept : columns_of w' ≡ open_lent (columns_of w) w'
  pub runs : (o : Columns) → Running us (open_lent o w) w.written (open_lent o w') w'.written
