-- The words that the pass answers are sound.
--   sound_words    its words are words that the call writes
-- Assumes nothing.
use Rattle.std.specs.Prelude.{Result, Ok, Err}
use Prim.Native.Nat.{ℕ}
use mathlib.Core.List.{List}
use lib.ListN.{take}
use Rattle.plan.specs.declared.Overflow.{Overflow}
use Rattle.goto_turns.specs.Turns.{Emitted}
use Rattle.emit.proofs.Planned.{goto_sound}
use Rattle.pass_call.specs.Answers.{Emitted as Sound}

pub sound_words : (N : ℕ) (vs : List ℕ) (r : Result ℕ Overflow) → Emitted N vs r → Sound N vs r
sound_words N vs (Ok n) e = (e.0, goto_sound (take n vs) e.1)
sound_words N vs (Err o) e = tt
