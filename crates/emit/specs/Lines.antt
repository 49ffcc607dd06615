-- Lines appended by the writer of crate write.
--   is_sound w                  a word of either pass: a header over a guard has a line as it is for it
--   test_read C h s t           the condition of a header of kind h modulo 4, s being the line of the word's piece and t the piece of the test
--   for_start a, for_end c z    the tokens of a for header before they are merged: `for_head` merges them
--   Begins ts w w'              where no token was open, the tokens ts are, whatever the lines and addresses are; these stay as they are
--   LineAdded m w w'            the line m is behind those that are done
--   Emits M w w'                the lines M are done
-- Assumes nothing.
use Rattle.std.specs.Prelude.{◌≡◌, ℕ, zero, suc, Bool, ◌||◌, List, [], ◌∷◌, ◌++◌}
use Rattle.definitions.specs.Lists.{or_else, ascii}
use Rattle.definitions.specs.Model.{Token, Line, tok, line, Keyword, Punct}
use Rattle.definitions.specs.Condition.{condition}
use Rattle.definitions.specs.ToFor.{popped}
use Rattle.definitions.specs.RecoverGotoLoops.{leading_test, one}
use Rattle.definitions.specs.Calls.{Columns}
use Rattle.plan.specs.Changes.{is_plain, is_goto}
use Rattle.pieces.specs.Pieces.{piece}
use Rattle.write.specs.State.{done}
use Rattle.write.specs.Holds.{columns_of, open_lent, Holds, Same}
use Rattle.write.specs.declared.Writer.{Writer}
use Rattle.append.specs.Adds.{opened}

abbrev pub is_sound : ℕ → Bool
is_sound w = is_plain w || is_goto w

unfoldable pub test_read : List Line → ℕ → ℕ → ℕ → List Token
test_read C zero s t = or_else (condition (line C s) (ascii "if")) []
test_read C (suc zero) s t = or_else (condition (line C s) (ascii "if")) []
test_read C (suc (suc zero)) s t = one
test_read C (suc (suc (suc h))) s t = or_else (leading_test (piece C t) 0) one

abbrev pub for_start : List Token → List Token
for_start a = tok (ascii "for") Keyword ∷ (tok (ascii " (") Punct ∷ (popped a ++ (tok (ascii "; ") Punct ∷ [])))

abbrev pub for_end : List Token → List Token → List Token
for_end c z = c ++ (tok (ascii "; ") Punct ∷ (popped z ++ (tok (ascii ") {") Punct ∷ [])))

pub record Begins (ts : List Token) (w w' : Writer) : Type 0 where
  pub same : Same w w'
  pub kept : columns_of w' ≡ open_lent (columns_of w) w'
  pub begins : (o : Columns) (M : List Line) → Holds (done M) (open_lent o w) w.written → Holds (opened M ts) (open_lent o w') w'.written

pub record LineAdded (m : Line) (w w' : Writer) : Type 0 where
  pub same : Same w w'
  pub added : (M : List Line) → Holds (done M) (columns_of w) w.written → Holds (done (M ++ (m ∷ []))) (columns_of w') w'.written

pub record Emits (M : List Line) (w w' : Writer) : Type 0 where
  pub same : Same w w'
  pub holds : Holds (done M) (columns_of w') w'.written
