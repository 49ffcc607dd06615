-- The loop of the pass. What is left to do at place h of the plan is the whole pass.
--   Running l t x ws₀ ws n h    the plan stands for lines of which the turns from h on are left
--   running_start, running_goes, running_overflows, running_ends
--   emitted_ends                the words of the answer have headers of this pass only
-- Assumes nothing.
use borrow.Author.Tests.{clash}
use Rattle.std.specs.Prelude.{Result, Ok, Err}
use Rattle.std.specs.Result.{IsErr}
use Prim.Native.Nat.{ℕ, suc, ◌+◌, ◌%◌, ◌≤◌, ◌<◌}
use mathlib.Core.Path.{◌≡◌, refl, sym, ap, subst, ◌∙◌}
use mathlib.Core.List.{List, [], ◌∷◌}
use mathlib.Core.Bool.{true}
use native.Mathlib.Nat.{le_refl}
use native.Mathlib.Omega.{arith}
use lib.ListN.{length, take}
use lib.Seq.{length-take-le}
use Rattle.definitions.specs.Lists.{all}
use Rattle.definitions.specs.Model.{Line}
use Rattle.definitions.specs.Passes.{lines, turns}
use Rattle.definitions.specs.RecoverGotoLoops.{goto_turn, recover_goto_loops}
use Rattle.loop_theory.proofs.Cases.{and_split}
use Rattle.loop_theory.proofs.GotoSteps.{goto_turned}
use Rattle.plan.specs.Plan.{render}
use Rattle.plan.specs.Changes.{is_line, is_goto, Ahead, kept_words}
use Rattle.plan.specs.Source.{Source}
use Rattle.plan.proofs.Rendered.{length_render}
use Rattle.plan.proofs.Sources.{kept_word, start_render}
use Rattle.plan.specs.Planned.{planned}
use Rattle.plan.proofs.PassLoop.{planned_err, pass_ends, pass_overflows, pass_goes}
use Rattle.goto_turns.specs.Turns.{TurnOf, After, Emitted}
use Rattle.plan.specs.declared.Overflow.{Overflow}

kept_lines : (k : ℕ) (l : List ℕ) → k + length l ≤ 1024 → all is_line (kept_words k l) ≡ true
unfolding all kept_words
kept_lines k [] h = refl
kept_lines k (w ∷ ws) h = rw (kept_word (w % 256) k (omega arith) (omega arith)).1 (kept_lines (suc k) ws (omega arith))

lines_goto : (ws : List ℕ) → all is_line ws ≡ true → all is_goto ws ≡ true
unfolding all
lines_goto [] h = refl
lines_goto (w ∷ ws) h = let p = and_split (is_line w) (all is_line ws) h in rw p.0 (lines_goto ws p.1)

pub record Running (l t x ws₀ ws : List ℕ) (n h : ℕ) : Type 0 where
  pub size : length ws ≡ length ws₀
  pub fewer : n ≤ length l
  pub upto : h ≤ length l
  pub ahead : Ahead h (take n ws)
  pub left : (S : List Line) → Source S l t x → turns 2 goto_turn (length (render S (take n ws))) h (render S (take n ws)) ≡ recover_goto_loops S

pub running_start : (l t x ws : List ℕ) → length l ≤ 1024 → take (length l) ws ≡ kept_words 0 l → Running l t x ws ws (length l) 0
running_start l t x ws few e =
    let kept : all is_line (take (length l) ws) ≡ true = subst (λ vs. all is_line vs ≡ true) (sym e) (kept_lines 0 l (omega arith)) in
    record {
      size = refl;
      fewer = le_refl (length l);
      upto = omega arith;
      ahead = record { words = lines_goto (take (length l) ws) kept; lines = kept };
      left = λ S R. ap (λ M. turns 2 goto_turn (length M) 0 M) (ap (render S) e ∙ start_render S l t x R few);
    }

module _ (l t x ws₀ ws : List ℕ) (n h : ℕ) (r : Running l t x ws₀ ws n h) (room : length l ≤ length ws₀) where
  lines_left : (S : List Line) → length (render S (take n ws)) ≡ n
  lines_left S = length_render S (take n ws) ∙ length-take-le n ws (let f = r.fewer in let s = r.size in omega arith)

  pub running_ends : n ≤ h + 2 → (S : List Line) → Source S l t x → lines (render S (take n ws)) ≡ recover_goto_loops S
  running_ends e S R =
      sym (pass_ends 2 goto_turn goto_turned (render S (take n ws)) h (omega (arith, lines_left S))) ∙ r.left S R

  pub emitted_ends : (n ≤ length l) × (all is_goto (take n ws) ≡ true)
  emitted_ends = (r.fewer, r.ahead.words)

  module _ (more : h + 2 < n) (a : Result ℕ Overflow) (vs : List ℕ) (d : TurnOf l t x (λ M. goto_turn M h) n h ws a vs) where
    left_more : (S : List Line) → h + 2 < length (render S (take n ws))
    left_more S = omega (arith, lines_left S)

    pub running_overflows : (o : Overflow) → a ≡ Err o → (b : Result ℕ Overflow) → IsErr b → (S : List Line) → Source S l t x → planned S vs b ≡ recover_goto_loops S
    running_overflows o q b z S R =
        planned_err S vs b z ∙ sym (pass_overflows 2 goto_turn goto_turned (render S (take n ws)) h (left_more S) (sym (d.turn S R) ∙ rw q)) ∙ r.left S R

    pub emitted_overflows : (b : Result ℕ Overflow) → IsErr b → Emitted (length l) vs b
    emitted_overflows (Ok m) z = absurd (clash z)
    emitted_overflows (Err o) z = tt

    pub running_goes : (m : ℕ) → a ≡ Ok m → length vs ≡ length ws → Running l t x ws₀ vs m (h + 1)
    running_goes m q s =
        let after : (m ≤ n) × Ahead (h + 1) (take m vs) = subst (After n h vs) q d.after in
        record {
          size = s ∙ r.size;
          fewer = let f = r.fewer in let g = after.0 in omega arith;
          upto = let f = r.fewer in omega arith;
          ahead = after.1;
          left = λ S R.
              sym (pass_goes 2 goto_turn goto_turned (render S (take n ws)) h (left_more S) (h + 1) (render S (take m vs)) (sym (d.turn S R) ∙ rw q)) ∙ r.left S R;
        }
