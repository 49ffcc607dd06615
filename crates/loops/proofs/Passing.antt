-- The loop of the pass, as rules for `search`. What is left to do at place i of the plan is the whole pass.
--   Running l t x ws₀ ws n i    the plan stands for lines of which the turns from i on are left
--   running_start, running_goes, running_stops, running_overflows, running_ends
--   emitted_stops, emitted_overflows, emitted_ends    the words of the answer are plain
-- Assumes nothing.
use Rattle.std.specs.Prelude.{None, Some, Result, Ok, Err}
use Rattle.std.specs.Result.{IsErr}
use Prim.Native.Nat.{ℕ, suc, ◌+◌, ◌*◌, ◌%◌, ◌≤◌, ◌<◌}
use mathlib.Core.Path.{◌≡◌, refl, sym, ap, subst, ◌∙◌}
use mathlib.Core.List.{List, [], ◌∷◌}
use mathlib.Core.Bool.{true}
use native.Mathlib.Nat.{le_refl}
use native.Mathlib.Omega.{arith}
use borrow.Author.Tests.{clash, eq-eqb}
use lib.Dec.{eqb}
use lib.ListN.{length, take}
use lib.Seq.{length-take-le}
use Rattle.definitions.specs.Lists.{all}
use Rattle.definitions.specs.Model.{Line}
use Rattle.definitions.specs.Passes.{lines, turns}
use Rattle.definitions.specs.RecoverLoops.{loop_turn, recover_loops}
use Rattle.loop_theory.proofs.Cases.{and_split}
use Rattle.loop_theory.proofs.LoopSteps.{loop_turned}
use Rattle.plan.specs.Plan.{header_at, piece_at, render}
use Rattle.plan.specs.Changes.{is_plain, kept_words}
use Rattle.plan.specs.Source.{Source}
use Rattle.plan.specs.Planned.{planned}
use Rattle.plan.specs.declared.Overflow.{Overflow}
use Rattle.plan.proofs.Rendered.{length_render}
use Rattle.plan.proofs.Sources.{kept_word, start_render}
use Rattle.plan.proofs.PassLoop.{planned_err, pass_ends, pass_stops, pass_overflows, pass_goes}
use Rattle.loops.specs.Words.{is_kept, Ready}
use Rattle.loops.specs.Turns.{Answer, TurnOf, After, Emitted}

all_kept : (k : ℕ) (l : List ℕ) → k + length l ≤ 1024 → all is_kept (kept_words k l) ≡ true
unfolding all kept_words
all_kept k [] h = refl
all_kept k (w ∷ ws) h =
    let v = w % 256 + 8192 * k in
    let p = kept_word (w % 256) k (omega arith) (omega arith) in
    rw (p.1, eq-eqb (piece_at v % 4) 0 p.2, p.4, p.5) (all_kept (suc k) ws (omega arith))

kept_plain : (ws : List ℕ) → all is_kept ws ≡ true → all is_plain ws ≡ true
unfolding all
kept_plain [] h = refl
kept_plain (w ∷ ws) h =
    let p = and_split (is_kept w) (all is_kept ws) h in
    rw (and_split (eqb (header_at w) 0) (is_plain w) p.0).1 (kept_plain ws p.1)

pub record Running (l t x ws₀ ws : List ℕ) (n i : ℕ) : Type 0 where
  pub size : length ws ≡ length ws₀
  pub fewer : n ≤ length l
  pub upto : i ≤ length l
  pub ready : Ready i (take n ws)
  pub left : (S : List Line) → Source S l t x → turns 1 loop_turn (length (render S (take n ws))) i (render S (take n ws)) ≡ recover_loops S

pub running_start : (l t x ws : List ℕ) → length l ≤ 1024 → take (length l) ws ≡ kept_words 0 l → Running l t x ws ws (length l) 0
running_start l t x ws few e =
    let kept : all is_kept (take (length l) ws) ≡ true = subst (λ vs. all is_kept vs ≡ true) (sym e) (all_kept 0 l (omega arith)) in
    record {
      size = refl;
      fewer = le_refl (length l);
      upto = omega arith;
      ready = record { plain = kept_plain (take (length l) ws) kept; kept = kept };
      left = λ S R. ap (λ M. turns 1 loop_turn (length M) 0 M) (ap (render S) e ∙ start_render S l t x R few);
    }

module _ (l t x ws₀ ws : List ℕ) (n i : ℕ) (r : Running l t x ws₀ ws n i) (room : length l ≤ length ws₀) where
  lines_left : (S : List Line) → length (render S (take n ws)) ≡ n
  lines_left S = length_render S (take n ws) ∙ length-take-le n ws (let f = r.fewer in let s = r.size in omega arith)

  pub running_ends : n ≤ i + 1 → (S : List Line) → Source S l t x → lines (render S (take n ws)) ≡ recover_loops S
  running_ends h S R =
      sym (pass_ends 1 loop_turn loop_turned (render S (take n ws)) i (omega (arith, lines_left S))) ∙ r.left S R

  pub emitted_ends : (n ≤ length l) × (all is_plain (take n ws) ≡ true)
  emitted_ends = (r.fewer, r.ready.plain)

  module _ (more : i + 1 < n) (a : Answer) (vs : List ℕ) (d : TurnOf l t x (λ M. loop_turn M i) n i ws a vs) where
    left_more : (S : List Line) → i + 1 < length (render S (take n ws))
    left_more S = omega (arith, lines_left S)

    pub running_stops : a ≡ Ok None → (S : List Line) → Source S l t x → lines (render S (take n vs)) ≡ recover_loops S
    running_stops q S R =
        let same : take n vs ≡ take n ws = subst (After n i ws vs) q d.after in
        ap (λ ys. lines (render S ys)) same
        ∙ (sym (pass_stops 1 loop_turn loop_turned (render S (take n ws)) i (left_more S) (sym (d.turn S R) ∙ rw q)) ∙ r.left S R)

    pub emitted_stops : a ≡ Ok None → (n ≤ length l) × (all is_plain (take n vs) ≡ true)
    emitted_stops q = (r.fewer, subst (λ ys. all is_plain ys ≡ true) (sym (subst (After n i ws vs) q d.after)) r.ready.plain)

    pub running_overflows : (e : Overflow) → a ≡ Err e → (b : Result ℕ Overflow) → IsErr b → (S : List Line) → Source S l t x → planned S vs b ≡ recover_loops S
    running_overflows e q b z S R =
        planned_err S vs b z ∙ sym (pass_overflows 1 loop_turn loop_turned (render S (take n ws)) i (left_more S) (sym (d.turn S R) ∙ rw q)) ∙ r.left S R

    pub emitted_overflows : (b : Result ℕ Overflow) → IsErr b → Emitted (length l) vs b
    emitted_overflows (Ok m) z = absurd (clash z)
    emitted_overflows (Err e) z = tt

    pub running_goes : (m : ℕ) → a ≡ Ok (Some m) → length vs ≡ length ws → Running l t x ws₀ vs m (i + 1)
    running_goes m q s =
        let after : (m ≤ n) × Ready (i + 1) (take m vs) = subst (After n i ws vs) q d.after in
        record {
          size = s ∙ r.size;
          fewer = let f = r.fewer in let g = after.0 in omega arith;
          upto = let f = r.fewer in omega arith;
          ready = after.1;
          left = λ S R.
              sym (pass_goes 1 loop_turn loop_turned (render S (take n ws)) i (left_more S) (i + 1) (render S (take m vs)) (sym (d.turn S R) ∙ rw q)) ∙ r.left S R;
        }
