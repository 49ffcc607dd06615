-- A credit for each line, so that no step raises the sum of sizes and credits.
--   Credit m M credit    what a step asks of a credit, where tokens are measured by m
--   room                 steps raise the measure of all tokens by at most the most credit for each line
-- A label may still become a header and a closing brace, and a goto `continue;`: their credits are larger.
-- Assumes nothing.
use Rattle.std.specs.Prelude.{Option}
use Prim.Native.Nat.{ℕ, ◌+◌, ◌*◌, ◌≤◌}
use mathlib.Core.Path.{◌≡◌}
use mathlib.Core.Bool.{true}
use mathlib.Core.List.{List, [], ◌∷◌}
use native.Mathlib.Omega.{arith}
use native.Mathlib.Nat.{le_refl, le_trans}
use lib.ListN.{length}
use Rattle.definitions.specs.Lists.{concat, ascii}
use Rattle.definitions.specs.Model.{Token, Line, pseudo_line}
use Rattle.definitions.specs.Statements.{is_label, merge}
use Rattle.definitions.specs.Columns.{all_tokens}
use Rattle.definitions.specs.ToFor.{for_head}
use Rattle.definitions.specs.Passes.{while_head}
use Rattle.definitions.specs.RecoverLoops.{move_out}
use Rattle.definitions.specs.RecoverGotoLoops.{jump, closed_at, one}
use Rattle.loop_theory.proofs.Sums.{sum, sum_append, sum_map}
use Rattle.loop_theory.proofs.Sizes.{Measure, merge_size, condition_size, test_size, while_size, for_tokens, for_size}
use Rattle.loop_theory.proofs.Steps.{header_at, body_line, Step, Step.unwrap, Step.enclose, Step.enclose_tested, Step.count, Steps, Steps.unchanged, Steps.then}

pub record Credit (m : Token → ℕ) (M : Measure m) (credit : Line → ℕ) : Type 0 where
  pub least : ℕ
  pub most : ℕ
  pub at_least : (l : Line) → least ≤ credit l
  pub at_most : (l : Line) → credit l ≤ most
  -- a line's credit is its tokens'
  pub moved : (a : Option ℕ) (i : ℕ) (l : Line) → credit (pseudo_line a i l.tokens) ≡ credit l
  pub jumped : (name : List ℕ) (exit : Option (List ℕ)) (l : Line)
      → sum m (jump name exit l).tokens + credit (jump name exit l) ≤ sum m l.tokens + credit l
  -- a header made of lines of which two go
  pub while_paid : sum m (while_head []) + most ≤ least + least + least
  pub for_paid : sum m for_tokens + most ≤ least + least + least
  -- a label pays for `while (1) {`, and a label and a test for `while (..) {`; one is left for the closing brace
  pub closed : (l : Line) (d : ℕ) → sum m (closed_at l d).tokens + credit (closed_at l d) ≤ least + 1
  pub headed : (a : Option ℕ) (i : ℕ) (l : Line) → is_label l ≡ true
      → sum m (merge (while_head one)) + credit (pseudo_line a i (merge (while_head one))) + 1 ≤ sum m l.tokens + credit l
  pub tested : (l : Line) → is_label l ≡ true → M.negation + sum m (while_head []) + most + 1 ≤ sum m l.tokens + credit l + least

module _ (m : Token → ℕ) (M : Measure m) (credit : Line → ℕ) (C : Credit m M credit) where
  abbrev weight : Line → ℕ
  weight l = sum m l.tokens + credit l

  moved_in : (name : List ℕ) (exit : Option (List ℕ)) (l : Line) → weight (body_line name exit l) ≤ weight l
  moved_in name exit l = omega (arith, C.moved (jump name exit l).address ((jump name exit l).indent + 1) (jump name exit l), C.jumped name exit l)

  moved_out : (l : Line) → weight (move_out l) ≤ weight l
  moved_out l = omega (arith, C.moved l.address (move_out l).indent l)

  step_weight : {K L : List Line} → Step K L → sum weight L ≤ sum weight K
  unfolding sum
  step_weight (unwrap before body after guard do_line close c q) =
      let header = header_at guard guard.indent (while_head c) in
      simp (sum_append weight)
      (omega (
        arith,
        while_size m M c,
        condition_size m M guard (ascii "if") c q,
        C.while_paid,
        C.at_most header,
        C.at_least guard,
        C.at_least do_line,
        C.at_least close,
        sum_map weight move_out moved_out body,
      ))
  step_weight (enclose before body after head back name exit is deep room) =
      let d = head.indent + 1 in
      simp (sum_append weight)
      (omega (
        arith,
        C.headed head.address d head is,
        C.closed back d,
        C.at_least back,
        sum_map weight (body_line name exit) (moved_in name exit) body,
      ))
  step_weight (enclose_tested before body after head test back name exit c is deep room q) =
      let d = head.indent + 1 in
      let header = header_at head d (merge (while_head c)) in
      simp (sum_append weight)
      (omega (
        arith,
        merge_size m M (while_head c),
        while_size m M c,
        test_size m M (body_line name exit test) d c q,
        moved_in name exit test,
        C.tested head is,
        C.closed back d,
        C.at_most header,
        C.at_least (body_line name exit test),
        C.at_least back,
        sum_map weight (body_line name exit) (moved_in name exit) body,
      ))
  step_weight (count before between body after init loop step c q) =
      let header = header_at loop loop.indent (for_head init.tokens c step.tokens) in
      simp (sum_append weight)
      (omega (
        arith,
        for_size m M init.tokens c step.tokens,
        condition_size m M loop (ascii "while") c q,
        C.for_paid,
        C.at_most header,
        C.at_least init,
        C.at_least loop,
        C.at_least step,
      ))

  steps_weight : {K L : List Line} → Steps K L → sum weight L ≤ sum weight K
  steps_weight unchanged = le_refl _
  steps_weight (then s t) = le_trans (step_weight t) (steps_weight s)

  sizes_and_credits : (L : List Line) → (sum m (all_tokens L) ≤ sum weight L) × (sum weight L ≤ sum m (all_tokens L) + C.most * length L)
  unfolding sum concat
  sizes_and_credits [] = omega arith
  sizes_and_credits (l ∷ L) =
      let rest = sizes_and_credits L in
      omega (arith, sum_append m l.tokens (all_tokens L), C.at_most l)

  pub room : {K L : List Line} → Steps K L → sum m (all_tokens L) ≤ sum m (all_tokens K) + C.most * length K
  room {K} {L} s = omega (arith, sizes_and_credits K, sizes_and_credits L, steps_weight s)
