-- A loop pass as the loop that it is: `turns gap turn (length L) i L` is what is left to do at line i of L. `turned` is loop_turned or goto_turned.
--   pass_goes, pass_stops, pass_overflows    what a turn leaves to do, where `gap` lines stand behind its line
--   pass_ends                                nothing is left, where they do not
--   planned_err                              an error is the overflow
-- Assumes nothing.
use Rattle.std.specs.Prelude.{Result, Ok, Err}
use Rattle.std.specs.Result.{IsErr}
use Prim.Native.Nat.{ℕ, suc, ◌+◌, ◌-◌, ◌≤◌, ◌<◌}
use mathlib.Core.Path.{◌≡◌, refl, sym, ap, ◌∙◌}
use mathlib.Core.List.{List}
use native.Mathlib.Omega.{arith}
use native.Mathlib.Nat.{add_comm}
use borrow.Author.Tests.{clash, lt-ltb}
use lib.ListN.{length}
use Rattle.definitions.specs.Model.{Line}
use Rattle.definitions.specs.Passes.{Turn, go, stop, beyond, lines, overflow, turns}
use Rattle.plan.specs.Planned.{planned}
use Rattle.plan.specs.declared.Overflow.{Overflow}
use Rattle.loop_theory.proofs.Steps.{Turned}
use Rattle.loop_theory.proofs.PassSteps.{turned_lines, no_turn, enough_turns}

pub planned_err : (S : List Line) (vs : List ℕ) (r : Result ℕ Overflow) → IsErr r → planned S vs r ≡ overflow
planned_err S vs (Ok n) e = absurd (clash e)
planned_err S vs (Err o) e = refl

module _ (gap : ℕ) (turn : List Line → ℕ → Turn) (turned : (L : List Line) (i : ℕ) → Turned L i (turn L i)) (L : List Line) (i : ℕ) where
  pub pass_ends : length L ≤ i + gap → turns gap turn (length L) i L ≡ lines L
  pass_ends = no_turn gap turn turned (length L) i L

  module _ (more : i + gap < length L) where
    after_turn : (t : Turn) → turn L i ≡ t → (k : ℕ) → length L ≡ suc k
        → turns gap turn (length L) i L ≡ elim t [ go j M ↦ turns gap turn k j M | stop ↦ lines L | beyond ↦ overflow ]
    unfolding turns
    after_turn t e k n = ap (λ n. turns gap turn n i L) n ∙ rw (lt-ltb (i + gap) (length L) more, e, turns)

    pub pass_stops : turn L i ≡ stop → turns gap turn (length L) i L ≡ lines L
    pass_stops e = after_turn stop e (length L - 1) (omega arith)

    pub pass_overflows : turn L i ≡ beyond → turns gap turn (length L) i L ≡ overflow
    pass_overflows e = after_turn beyond e (length L - 1) (omega arith)

    pub pass_goes : (j : ℕ) (M : List Line) → turn L i ≡ go j M → turns gap turn (length L) i L ≡ turns gap turn (length M) j M
    pass_goes j M e =
        let k = length L - 1 in
        let fewer = turned_lines (turn L i) (turned L i) j M e in
        after_turn (go j M) e k (omega arith)
        ∙ (enough_turns gap turn turned k (length M) j M (omega arith)
        ∙ (ap (λ n. turns gap turn n j M) (add_comm k (length M)) ∙ sym (enough_turns gap turn turned (length M) k j M (omega arith))))
