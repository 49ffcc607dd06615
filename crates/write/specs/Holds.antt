-- What the lent columns hold of a state, up to a cursor.
--   columns l a t x        the lent columns
--   Filled ws n xs         the first n elements of the column xs are ws
--   Held s out c           the columns up to the cursor are the words of the state
--   Room s out             the state has room in the columns, and its ends in the words
--   Holds s out c          the columns hold the state, if it has room in them
--   Writing f out c out' c'    what held a state holds f of it
--   Finished M out c out'  the columns are those of the listing M and zeros, and the cursor has its counts
--   columns_of w           the columns of a destination
--   Same w w'              they are the same columns, of the same lengths
--   text_lent o w          the text of w and the other columns of o: what is lent of w is the text alone
--   tokens_lent o w        the same of the tokens
--   open_lent o w          the same of the tokens and the text
--   lines_lent o w         the same of the lines and the addresses
--   Writes lent f w w'     what held a state holds f of it, whatever the columns are that are not lent; those of w stay as they are
--   Finishes w w'          zeros are behind what is written
-- Assumes nothing.
use Rattle.std.specs.Prelude.{ℕ, ◌≤◌, ◌<◌, ◌≡◌, List, length, take}
use Rattle.definitions.specs.Model.{Line}
use Rattle.definitions.specs.Columns.{line_words, address_words, token_words_from}
use Rattle.definitions.specs.Questions.{Limits}
use Rattle.definitions.specs.Calls.{Columns, packed, counts}
use Rattle.write.specs.State.{State, done, last_kind, written_tokens, written_bytes}
use Rattle.write.specs.declared.Cursor.{Cursor}
use Rattle.write.specs.declared.Writer.{Writer}

abbrev pub columns : List ℕ → List ℕ → List ℕ → List ℕ → Columns
columns l a t x = record { lines = l; addresses = a; tokens = t; text = x }

pub record Filled (ws : List ℕ) (n : ℕ) (xs : List ℕ) : Type 0 where
  pub is : take n xs ≡ ws
  pub count : length ws ≡ n

pub record Held (s : State) (out : Columns) (c : Cursor) : Type 0 where
  pub lines : Filled (line_words s.lines) c.lines out.lines
  pub addresses : Filled (address_words s.lines) c.lines out.addresses
  pub tokens : Filled (token_words_from 0 (written_tokens s)) c.tokens out.tokens
  pub text : Filled (written_bytes s) c.text out.text
  pub last : c.last ≡ last_kind s.tokens

-- a token's end has 24 bits, a line's 23
pub record Room (s : State) (out : Columns) : Type 0 where
  pub lines : length s.lines ≤ length out.lines
  pub addresses : length s.lines ≤ length out.addresses
  pub tokens : length (written_tokens s) ≤ length out.tokens
  pub text : length (written_bytes s) ≤ length out.text
  pub token_ends : length (written_bytes s) < 16777216
  pub line_ends : length (written_tokens s) < 8388608

pub record Holds (s : State) (out : Columns) (c : Cursor) : Type 0 where
  pub given : Room s out → Held s out c

abbrev pub Writing : (State → State) → Columns → Cursor → Columns → Cursor → Type 0
Writing f out c out' c' = (s : State) → Holds s out c → Holds (f s) out' c'

abbrev pub counted : Cursor → Limits
counted c = record { lines = c.lines; tokens = c.tokens; text = c.text }

pub record Finished (M : List Line) (out : Columns) (c : Cursor) (out' : Columns) : Type 0 where
  pub columns : out' ≡ packed M out
  pub counts : counted c ≡ counts M

-- A destination

abbrev pub columns_of : Writer → Columns
columns_of w = columns w.lines.now w.addresses.now w.tokens.now w.text.now

pub record Same (w w' : Writer) : Type 0 where
  pub lines : w'.lines.ghost_name ≡ w.lines.ghost_name
  pub addresses : w'.addresses.ghost_name ≡ w.addresses.ghost_name
  pub tokens : w'.tokens.ghost_name ≡ w.tokens.ghost_name
  pub text : w'.text.ghost_name ≡ w.text.ghost_name
  pub lines_length : length w'.lines.now ≡ length w.lines.now
  pub addresses_length : length w'.addresses.now ≡ length w.addresses.now
  pub tokens_length : length w'.tokens.now ≡ length w.tokens.now
  pub text_length : length w'.text.now ≡ length w.text.now

-- what is lent
abbrev pub text_lent : Columns → Writer → Columns
text_lent o w = columns o.lines o.addresses o.tokens w.text.now

abbrev pub tokens_lent : Columns → Writer → Columns
tokens_lent o w = columns o.lines o.addresses w.tokens.now o.text

abbrev pub open_lent : Columns → Writer → Columns
open_lent o w = columns o.lines o.addresses w.tokens.now w.text.now

abbrev pub lines_lent : Columns → Writer → Columns
lines_lent o w = columns w.lines.now w.addresses.now o.tokens o.text

pub record Writes (lent : Columns → Writer → Columns) (f : State → State) (w w' : Writer) : Type 0 where
  pub same : Same w w'
  pub kept : columns_of w' ≡ lent (columns_of w) w'
  pub holds : (o : Columns) → Writing f (lent o w) w.written (lent o w') w'.written

pub record Finishes (w w' : Writer) : Type 0 where
  pub same : Same w w'
  pub written : w'.written ≡ w.written
  pub finished : (M : List Line) → Holds (done M) (columns_of w) w.written → Room (done M) (columns_of w)
      → Finished M (columns_of w) w.written (columns_of w')
