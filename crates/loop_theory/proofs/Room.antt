-- The room that question 4 asks for the loop passes always suffices.
--   tokens_credit, bytes_credit    a label has 8 tokens of credit, another line 5; a label 32 bytes, a line with a goto 25, another 20
--   Fits L M                       the listing M fits into the room that is asked for L
--   recover_loops_room, recover_goto_loops_room
--                                  what a pass answers fits: no more lines, and for each line that it was given at most 8 tokens and 32 bytes more
-- Assumes nothing.
use Rattle.std.specs.Prelude.{Option}
use Prim.Native.Nat.{ℕ, ◌+◌, ◌≤◌}
use mathlib.Core.Path.{◌≡◌, refl, ap}
use mathlib.Core.Bool.{true, false, cond}
use mathlib.Core.List.{List, [], ◌∷◌}
use native.Mathlib.Omega.{arith}
use native.Mathlib.Nat.{le_refl}
use lib.ListN.{length, length-append}
use Rattle.definitions.specs.Lists.{any, ◌≟◌, ascii}
use Rattle.definitions.specs.Model.{Token, Line, tok, text, Keyword, Punct}
use Rattle.definitions.specs.Statements.{has_kw, is_label, glue, merge}
use Rattle.definitions.specs.Columns.{all_tokens, text_bytes}
use Rattle.definitions.specs.Questions.{Limits, pass_room}
use Rattle.definitions.specs.Passes.{lines}
use Rattle.definitions.specs.RecoverLoops.{recover_loops}
use Rattle.definitions.specs.RecoverGotoLoops.{jump_line, jump, recover_goto_loops}
use Rattle.loop_theory.proofs.Cases.{if_has}
use Rattle.loop_theory.proofs.Jumps.{label_tokens, jump_line_has_no_goto, before_goto, Leading, leading, jump_line_no_label, JumpWord, jump_has}
use Rattle.loop_theory.proofs.Sums.{sum, sum_append}
use Rattle.loop_theory.proofs.Sizes.{Measure}
use Rattle.loop_theory.proofs.Steps.{Steps}
use Rattle.loop_theory.proofs.PassSteps.{steps_lines, recover_loops_steps, recover_goto_loops_steps}
use Rattle.loop_theory.proofs.Credit.{Credit, room}

-- A jump is paid for if its two tokens and the rewritten line's credit are.
module _ (m : Token → ℕ) (credit : Line → ℕ)
    (paid : (kw : List ℕ) (l : Line) → JumpWord kw → (g : Leading l)
    → m (tok kw Keyword) + m (tok (ascii ";") Punct) + credit (jump_line kw l) ≤ m g.goto + m g.target + credit l) where
  jump_line_paid : (kw : List ℕ) (l : Line) → JumpWord kw → Leading l
      → sum m (jump_line kw l).tokens + credit (jump_line kw l) ≤ sum m l.tokens + credit l
  unfolding sum
  jump_line_paid kw l word g =
      let whole = sum_append m (before_goto l) (g.goto ∷ (g.target ∷ g.rest)) in
      let rewritten = sum_append m (before_goto l) (tok kw Keyword ∷ tok (ascii ";") Punct ∷ []) in
      omega (arith, paid kw l word g, ap (sum m) g.whole)

  jump_paid : (name : List ℕ) (exit : Option (List ℕ)) (l : Line)
      → sum m (jump name exit l).tokens + credit (jump name exit l) ≤ sum m l.tokens + credit l
  jump_paid name exit l =
      jump_has (λ x. sum m x.tokens + credit x ≤ sum m l.tokens + credit l) name exit l
      (λ kw word q e. jump_line_paid kw l word (leading q l e)) (λ _. le_refl _)

-- Tokens

abbrev one_each : Token → ℕ
one_each t = 1

abbrev tokens_measure : Measure one_each
tokens_measure = record {
  shorter = λ s u k h. le_refl _;
  joined = λ s u j k. omega arith;
  negation = 2;
  flipped = λ s u k h. omega arith;
  bracketed = omega arith;
}

abbrev token_credit : Line → ℕ
token_credit l = cond (is_label l) 8 5

token_bounds : (l : Line) → (5 ≤ token_credit l) × (token_credit l ≤ 8)
token_bounds l = if_has (λ n. (5 ≤ n) × (n ≤ 8)) (is_label l) (λ _. omega arith) (λ _. omega arith)

token_label : (l : Line) → is_label l ≡ true → token_credit l ≡ 8
token_label l is = rw is

token_other : (l : Line) → is_label l ≡ false → token_credit l ≡ 5
token_other l is = rw is

tokens_credit : Credit one_each tokens_measure token_credit
unfolding sum merge glue is_label ◌≟◌
tokens_credit = record {
  least = 5;
  most = 8;
  at_least = λ l. (token_bounds l).0;
  at_most = λ l. (token_bounds l).1;
  moved = λ a i l. refl;
  jumped = jump_paid one_each token_credit
      (λ kw l word g. omega (arith, token_other (jump_line kw l) (jump_line_no_label kw l), token_bounds l));
  while_paid = omega arith;
  for_paid = omega arith;
  closed = λ l d. omega arith;
  headed = λ a i l is. let t = label_tokens l is in omega (arith, ap (sum one_each) t.2, token_label l is);
  tested = λ l is. let t = label_tokens l is in omega (arith, ap (sum one_each) t.2, token_label l is);
}

-- Bytes

abbrev bytes_of : Token → ℕ
bytes_of t = length t.text

abbrev bytes_measure : Measure bytes_of
bytes_measure = record {
  shorter = λ s u k h. h;
  joined = λ s u j k. omega (arith, length-append s u);
  negation = 4;
  flipped = λ s u k h. h;
  bracketed = omega arith;
}

abbrev byte_credit : Line → ℕ
byte_credit l = cond (is_label l) 32 (cond (has_kw l (ascii "goto")) 25 20)

byte_bounds : (l : Line) → (20 ≤ byte_credit l) × (byte_credit l ≤ 32)
byte_bounds l =
    if_has (λ n. (20 ≤ n) × (n ≤ 32)) (is_label l) (λ _. omega arith)
    (λ _. if_has (λ n. (20 ≤ n) × (n ≤ 32)) (has_kw l (ascii "goto")) (λ _. omega arith) (λ _. omega arith))

byte_label : (l : Line) → is_label l ≡ true → byte_credit l ≡ 32
byte_label l is = rw is

byte_other : (l : Line) → is_label l ≡ false → has_kw l (ascii "goto") ≡ false → byte_credit l ≡ 20
byte_other l is has = rw (is, has)

byte_goto : (l : Line) → has_kw l (ascii "goto") ≡ true → 25 ≤ byte_credit l
byte_goto l has = if_has (λ n. 25 ≤ n) (is_label l) (λ _. omega arith) (λ _. rw has (omega arith))

label_bytes : (l : Line) → is_label l ≡ true → 1 ≤ sum bytes_of l.tokens
unfolding sum
label_bytes l is = let t = label_tokens l is in omega (arith, ap (sum bytes_of) t.2, ap length t.4)

bytes_credit : Credit bytes_of bytes_measure byte_credit
unfolding sum merge glue is_label has_kw any ◌≟◌
bytes_credit = record {
  least = 20;
  most = 32;
  at_least = λ l. (byte_bounds l).0;
  at_most = λ l. (byte_bounds l).1;
  moved = λ a i l. refl;
  jumped = jump_paid bytes_of byte_credit
      (λ kw l word g.
      let rewritten = byte_other (jump_line kw l) (jump_line_no_label kw l) (jump_line_has_no_goto kw l word.other) in
      omega (arith, word.short, ap length g.is_goto, byte_goto l g.has));
  while_paid = omega arith;
  for_paid = omega arith;
  closed = λ l d. omega arith;
  headed = λ a i l is. omega (arith, label_bytes l is, byte_label l is);
  tested = λ l is. omega (arith, label_bytes l is, byte_label l is);
}

-- The passes

token_number : (ts : List Token) → sum one_each ts ≡ length ts
unfolding sum
token_number [] = refl
token_number (t ∷ ts) = omega (arith, token_number ts)

byte_number : (ts : List Token) → sum bytes_of ts ≡ length (text ts)
unfolding sum text
byte_number [] = refl
byte_number (t ∷ ts) = omega (arith, length-append t.text (text ts), byte_number ts)

abbrev pub room_of : List Line → Limits
room_of L = pass_room (length L) (length (all_tokens L)) (length (text_bytes L))

pub record Fits (L M : List Line) : Type 0 where
  pub lines : length M ≤ (room_of L).lines
  pub tokens : length (all_tokens M) ≤ (room_of L).tokens
  pub text : length (text_bytes M) ≤ (room_of L).text

steps_fit : {L M : List Line} → Steps L M → Fits L M
unfolding tokens_credit bytes_credit
steps_fit {L} {M} s = record {
  lines = steps_lines s;
  tokens = omega (arith, room one_each tokens_measure token_credit tokens_credit s, token_number (all_tokens L), token_number (all_tokens M));
  text = omega (arith, room bytes_of bytes_measure byte_credit bytes_credit s, byte_number (all_tokens L), byte_number (all_tokens M));
}

pub recover_loops_room : (L M : List Line) → recover_loops L ≡ lines M → Fits L M
recover_loops_room L M e = steps_fit (recover_loops_steps L M e)

pub recover_goto_loops_room : (L M : List Line) → recover_goto_loops L ≡ lines M → Fits L M
recover_goto_loops_room L M e = steps_fit (recover_goto_loops_steps L M e)
