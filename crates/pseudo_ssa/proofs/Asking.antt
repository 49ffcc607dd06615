-- Questions 1 to 5 of the web call: its refusal, and what is known where there is none.
--   space_small, room_asked              question 5: the words are few; the code's test is the question
--   lines_few                            question 1 is answered yes
--   asked                                where no question is answered no
-- Assumes nothing.
use Rattle.std.specs.Prelude.{None}
use Prim.Native.Nat.{ℕ, ◌+◌, ◌*◌, ◌/◌, ◌≤◌}
use mathlib.Core.Path.{◌≡◌, sym}
use mathlib.Core.List.{List}
use native.Mathlib.Omega.{arith}
use native.Mathlib.Nat.{mul-le-mul_left}
use borrow.Author.Tests.{leb-true}
use lib.Dec.{leb}
use lib.ListN.{length}
use Rattle.definitions.specs.Questions.{Limits, question_5, space_words}
use Rattle.questions.specs.Refusals.{first_questions}
use Rattle.questions.proofs.Refusing.{refusal_yes}
use Rattle.model.proofs.Ands.{both}
use Rattle.pseudo_ssa.specs.Asked.{Asked}
use Rattle.pseudo_ssa.specs.Within.{web_refusal_within}
use Rattle.pseudo_ssa.specs.Answers.{lent}

pub space_small : (n : ℕ) → n ≤ 1024 → n * ((n + 63) / 64) ≤ 16384
space_small n h = let a : n * ((n + 63) / 64) ≤ n * 16 = mul-le-mul_left n (omega arith) in omega arith

pub room_asked : (s n : ℕ) (ws : List ℕ) → s ≡ space_words n → leb s (length ws) ≡ question_5 n ws
room_asked s n ws e = rw e

-- Question 1

pub lines_few : (m : Limits) (l t x : List ℕ) → None ≡ first_questions m l t x → m.lines ≤ 1024 → length l ≤ 1024
lines_few m l t x e h = let a : length l ≤ m.lines = leb-true _ _ (both _ _ (both _ _ (refusal_yes 1 _ _ (sym e)).0).0).0 in omega arith

-- No question is answered no

pub asked : (m : Limits) (l t x ns ms ws : List ℕ) → None ≡ web_refusal_within m l t x (lent ns ms ws)
    → m.lines ≤ 1024 → m.tokens ≤ 16384 → Asked l t x ns ms ws
asked m l t x ns ms ws e hl ht =
    let y1 = refusal_yes 1 _ _ (sym e) in
    let y2 = refusal_yes 2 _ _ y1.1 in
    let y3 = refusal_yes 3 _ _ y2.1 in
    let y4 = refusal_yes 4 _ _ y3.1 in
    let y5 = refusal_yes 5 _ _ y4.1 in
    let few = both _ _ y1.0 in
    let few2 = both _ _ few.0 in
    let a : length l ≤ m.lines = leb-true _ _ few2.0 in
    let b : length t ≤ m.tokens = leb-true _ _ few2.1 in
    record {
      lines = omega arith;
      tokens = omega arith;
      formed = y2.0;
      numbers_room = leb-true _ _ (both (leb (length t) (length ns)) (leb (length t) (length ms)) y4.0).0;
      marks_room = leb-true _ _ (both (leb (length t) (length ns)) (leb (length t) (length ms)) y4.0).1;
      space_room = leb-true _ _ y5.0;
    }
