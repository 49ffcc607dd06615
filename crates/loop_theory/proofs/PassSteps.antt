-- The loop passes go by steps, never answer with more lines than they were given, and have turns enough.
--   recover_loops_steps, recover_goto_loops_steps    the listing that a pass answers is reached by steps
--   recover_loops_lines, recover_goto_loops_lines    it has at most as many lines
--   recover_loops_turns, recover_goto_loops_turns    with more turns than lines the answer is the same
--   enough_turns, no_turn                            so it is at any line, with as many turns as lines are left; with none left it is the listing
-- Assumes nothing.
use Prim.Native.Nat.{ℕ, zero, suc, ◌+◌, ◌≤◌}
use mathlib.Core.Path.{◌≡◌, refl, sym, subst}
use mathlib.Core.Bool.{Bool, true, false}
use mathlib.Core.List.{List}
use native.Mathlib.Omega.{arith}
use native.Mathlib.Nat.{le_refl, le_trans, suc-add}
use lib.Dec.{ltb}
use borrow.Author.Tests.{le-ltb}
use lib.ListN.{length, length-append, length-map}
use Rattle.definitions.specs.Model.{Line}
use Rattle.definitions.specs.Passes.{Turn, go, stop, beyond, Pass, lines, overflow, turns}
use Rattle.definitions.specs.RecoverLoops.{loop_turn, recover_loops}
use Rattle.definitions.specs.RecoverGotoLoops.{goto_turn, recover_goto_loops}
use Rattle.loop_theory.proofs.Steps.{Step, Step.unwrap, Step.enclose, Step.enclose_tested, Step.count, Steps, Steps.unchanged, Steps.then, Turned, Turned.goes, Turned.stops, Turned.overflows}
use Rattle.loop_theory.proofs.LoopSteps.{loop_turned}
use Rattle.loop_theory.proofs.GotoSteps.{goto_turned}

-- Steps

both_steps : {L M N : List Line} → Steps L M → Steps M N → Steps L N
both_steps s unchanged = s
both_steps s (then r t) = then (both_steps s r) t

same_lines : {L M : List Line} → lines L ≡ lines M → L ≡ M
same_lines e = cc

-- Numbers of lines

step_lines : {L M : List Line} → Step L M → length M ≤ length L
step_lines (unwrap before body after guard do_line close c q) = simp (length-append, length-map) (omega arith)
step_lines (enclose before body after head back name exit is deep room) = simp (length-append, length-map) (omega arith)
step_lines (enclose_tested before body after head test back name exit c is deep room q) = simp (length-append, length-map) (omega arith)
step_lines (count before between body after init loop step c q) = simp length-append (omega arith)

pub steps_lines : {L M : List Line} → Steps L M → length M ≤ length L
steps_lines unchanged = le_refl _
steps_lines (then s t) = le_trans (step_lines t) (steps_lines s)

pub turned_lines : {L : List Line} {i : ℕ} (t : Turn) → Turned L i t → (j : ℕ) (M : List Line) → t ≡ go j M → (j ≡ i + 1) × (length M ≤ length L)
turned_lines {L} {i} (go k K) (goes s) j M e =
    let next : k ≡ j = cc in
    let same : K ≡ M = cc in
    (sym next, subst (λ N. length N ≤ length L) same (steps_lines s))
turned_lines stop stops j M e = absurd (let z : ◌≡◌ {A = ℕ} 0 1 = cc in omega arith)
turned_lines beyond overflows j M e = absurd (let z : ◌≡◌ {A = ℕ} 0 1 = cc in omega arith)

module _ (gap : ℕ) (turn : List Line → ℕ → Turn) (turned : (L : List Line) (i : ℕ) → Turned L i (turn L i)) where
  turns_steps : (k i : ℕ) (L M : List Line) → turns gap turn k i L ≡ lines M → Steps L M
  unfolding turns
  turns_steps zero i L M e = subst (Steps L) (same_lines e) unchanged
  turns_steps (suc k) i L M e = after (ltb (i + gap) (length L)) (turn L i) (turned L i) e (turns_steps k)
    where
      after : (b : Bool) (t : Turn) → Turned L i t
          → elim b [ false ↦ lines L | true ↦ elim t [ go j K ↦ turns gap turn k j K | stop ↦ lines L | beyond ↦ overflow ] ] ≡ lines M
          → ((j : ℕ) (K N : List Line) → turns gap turn k j K ≡ lines N → Steps K N) → Steps L M
      after false t s e r = subst (Steps L) (same_lines e) unchanged
      after true (go j K) (goes s) e r = both_steps s (r (i + 1) K M e)
      after true stop stops e r = subst (Steps L) (same_lines e) unchanged
      after true beyond overflows e r = absurd (let z : ◌≡◌ {A = ℕ} 0 1 = cc in omega arith)

  pub no_turn : (k i : ℕ) (L : List Line) → length L ≤ i + gap → turns gap turn k i L ≡ lines L
  unfolding turns
  no_turn zero i L le = refl
  no_turn (suc k) i L le = rw (le-ltb (i + gap) (length L) le, turns)

  pub enough_turns : (k m i : ℕ) (L : List Line) → length L ≤ k + (i + gap) → turns gap turn k i L ≡ turns gap turn (k + m) i L
  unfolding turns
  enough_turns zero m i L le = sym (no_turn (0 + m) i L (omega arith))
  enough_turns (suc k) m i L le = rw suc-add (after (ltb (i + gap) (length L)) (turn L i) (turned L i) (enough_turns k m))
    where
      after : (b : Bool) (t : Turn) → Turned L i t
          → ((j : ℕ) (K : List Line) → length K ≤ k + (j + gap) → turns gap turn k j K ≡ turns gap turn (k + m) j K)
          → ◌≡◌ {A = Pass} (elim b [ false ↦ lines L | true ↦ elim t [ go j K ↦ turns gap turn k j K | stop ↦ lines L | beyond ↦ overflow ] ])
          (elim b [ false ↦ lines L | true ↦ elim t [ go j K ↦ turns gap turn (k + m) j K | stop ↦ lines L | beyond ↦ overflow ] ])
      after false t s r = refl
      after true (go j K) (goes s) r = r (i + 1) K (let fewer = steps_lines s in omega arith)
      after true stop stops r = refl
      after true beyond overflows r = refl

-- The passes

module _ (L : List Line) where
  pub recover_loops_steps : (M : List Line) → recover_loops L ≡ lines M → Steps L M
  recover_loops_steps M e = turns_steps 1 loop_turn loop_turned (length L) 0 L M e

  pub recover_goto_loops_steps : (M : List Line) → recover_goto_loops L ≡ lines M → Steps L M
  recover_goto_loops_steps M e = turns_steps 2 goto_turn goto_turned (length L) 0 L M e

  pub recover_loops_lines : (M : List Line) → recover_loops L ≡ lines M → length M ≤ length L
  recover_loops_lines M e = steps_lines (recover_loops_steps M e)

  pub recover_goto_loops_lines : (M : List Line) → recover_goto_loops L ≡ lines M → length M ≤ length L
  recover_goto_loops_lines M e = steps_lines (recover_goto_loops_steps M e)

  pub recover_loops_turns : (k : ℕ) → turns 1 loop_turn (length L) 0 L ≡ turns 1 loop_turn (length L + k) 0 L
  recover_loops_turns k = enough_turns 1 loop_turn loop_turned (length L) k 0 L (omega arith)

  pub recover_goto_loops_turns : (k : ℕ) → turns 2 goto_turn (length L) 0 L ≡ turns 2 goto_turn (length L + k) 0 L
  recover_goto_loops_turns k = enough_turns 2 goto_turn goto_turned (length L) k 0 L (omega arith)
