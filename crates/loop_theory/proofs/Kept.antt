-- A test that every line of a listing passes, and still passes after a loop pass.
--   Kept q                                           the lines that steps make pass q if the lines that they are made of do
--   recover_loops_keeps, recover_goto_loops_keeps    then every line of the answer passes if every line of the listing does
-- Assumes nothing.
use Rattle.std.specs.Prelude.{Option, Some}
use Prim.Native.Nat.{ℕ, ◌+◌}
use mathlib.Core.Path.{◌≡◌}
use mathlib.Core.Bool.{Bool, true, ◌&&◌}
use mathlib.Core.List.{List, map}
use lib.Dec.{ltb}
use Rattle.definitions.specs.Lists.{all, ascii}
use Rattle.definitions.specs.Model.{Token, Line}
use Rattle.definitions.specs.Statements.{merge}
use Rattle.definitions.specs.Condition.{condition}
use Rattle.definitions.specs.ToFor.{for_head}
use Rattle.definitions.specs.Passes.{lines, while_head}
use Rattle.definitions.specs.RecoverLoops.{move_out, recover_loops}
use Rattle.definitions.specs.RecoverGotoLoops.{closed_at, leading_test, one, recover_goto_loops}
use Rattle.loop_theory.proofs.Cases.{and_split}
use Rattle.loop_theory.proofs.AnyAll.{all_cons, all_and, all_append, all_split, all_map, all_both}
use Rattle.loop_theory.proofs.Steps.{header_at, body_line, Step, Step.unwrap, Step.enclose, Step.enclose_tested, Step.count, Steps, Steps.unchanged, Steps.then}
use Rattle.loop_theory.proofs.PassSteps.{recover_loops_steps, recover_goto_loops_steps}

pub record Kept (q : Line → Bool) : Type 0 where
  pub moved_out : (l : Line) → q l ≡ true → q (move_out l) ≡ true
  pub moved_in : (name : List ℕ) (exit : Option (List ℕ)) (l : Line) → q l ≡ true → ltb l.indent 255 ≡ true → q (body_line name exit l) ≡ true
  pub closed : (l : Line) (d : ℕ) → ltb d 255 ≡ true → q (closed_at l d) ≡ true
  pub guarded : (l : Line) (c : List Token) → q l ≡ true → condition l (ascii "if") ≡ Some c
      → q (header_at l l.indent (while_head c)) ≡ true
  pub headed : (l : Line) (d : ℕ) → ltb d 255 ≡ true → q (header_at l d (merge (while_head one))) ≡ true
  pub tested : (l test : Line) (d : ℕ) (name : List ℕ) (exit : Option (List ℕ)) (c : List Token) → ltb d 255 ≡ true → q test ≡ true
      → leading_test (body_line name exit test) d ≡ Some c → q (header_at l d (merge (while_head c))) ≡ true
  pub counted : (init loop step : Line) (c : List Token) → q init ≡ true → q loop ≡ true → q step ≡ true → condition loop (ascii "while") ≡ Some c
      → q (header_at loop loop.indent (for_head init.tokens c step.tokens)) ≡ true

module _ (q : Line → Bool) (Q : Kept q) where
  body_keeps : (name : List ℕ) (exit : Option (List ℕ)) (body : List Line) → all q body ≡ true → all (λ l. ltb l.indent 255) body ≡ true
      → all q (map (body_line name exit) body) ≡ true
  body_keeps name exit body h deep =
      all_map q (λ l. q l && ltb l.indent 255) (body_line name exit)
      (λ l both. let s = and_split (q l) (ltb l.indent 255) both in Q.moved_in name exit l s.0 s.1) body
      (all_both q (λ l. ltb l.indent 255) body h deep)

  step_keeps : {L M : List Line} → Step L M → all q L ≡ true → all q M ≡ true
  step_keeps (unwrap before body after guard do_line close c e) h =
      let h₁ = all_split q before _ h in
      let h₂ = all_cons q guard _ h₁.1 in
      let h₃ = all_cons q do_line _ h₂.1 in
      let h₄ = all_split q body _ h₃.1 in
      let h₅ = all_cons q close after h₄.1 in
      all_append q before _ h₁.0
      (all_and q (header_at guard guard.indent (while_head c)) _ (Q.guarded guard c h₂.0 e)
      (all_append q (map move_out body) after (all_map q q move_out Q.moved_out body h₄.0) h₅.1))
  step_keeps (enclose before body after head back name exit is deep room) h =
      let d = head.indent + 1 in
      let h₁ = all_split q before _ h in
      let h₂ = all_cons q head _ h₁.1 in
      let h₃ = all_split q body _ h₂.1 in
      let h₄ = all_cons q back after h₃.1 in
      all_append q before _ h₁.0
      (all_and q (header_at head d (merge (while_head one))) _ (Q.headed head d room)
      (all_append q (map (body_line name exit) body) _ (body_keeps name exit body h₃.0 deep)
      (all_and q (closed_at back d) after (Q.closed back d room) h₄.1)))
  step_keeps (enclose_tested before body after head test back name exit c is deep room e) h =
      let d = head.indent + 1 in
      let h₁ = all_split q before _ h in
      let h₂ = all_cons q head _ h₁.1 in
      let h₃ = all_cons q test _ h₂.1 in
      let h₄ = all_split q body _ h₃.1 in
      let h₅ = all_cons q back after h₄.1 in
      all_append q before _ h₁.0
      (all_and q (header_at head d (merge (while_head c))) _ (Q.tested head test d name exit c room h₃.0 e)
      (all_append q (map (body_line name exit) body) _ (body_keeps name exit body h₄.0 deep)
      (all_and q (closed_at back d) after (Q.closed back d room) h₅.1)))
  step_keeps (count before between body after init loop step c e) h =
      let h₁ = all_split q before _ h in
      let h₂ = all_cons q init _ h₁.1 in
      let h₃ = all_split q between _ h₂.1 in
      let h₄ = all_cons q loop _ h₃.1 in
      let h₅ = all_split q body _ h₄.1 in
      let h₆ = all_cons q step after h₅.1 in
      all_append q before _ h₁.0
      (all_append q between _ h₃.0
      (all_and q (header_at loop loop.indent (for_head init.tokens c step.tokens)) _ (Q.counted init loop step c h₂.0 h₄.0 h₆.0 e)
      (all_append q body after h₅.0 h₆.1)))

  steps_keep : {L M : List Line} → Steps L M → all q L ≡ true → all q M ≡ true
  steps_keep unchanged h = h
  steps_keep (then s t) h = step_keeps t (steps_keep s h)

  pub recover_loops_keeps : (L M : List Line) → recover_loops L ≡ lines M → all q L ≡ true → all q M ≡ true
  recover_loops_keeps L M e = steps_keep (recover_loops_steps L M e)

  pub recover_goto_loops_keeps : (L M : List Line) → recover_goto_loops L ≡ lines M → all q L ≡ true → all q M ≡ true
  recover_goto_loops_keeps L M e = steps_keep (recover_goto_loops_steps L M e)
