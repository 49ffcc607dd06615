-- The indents of a listing stay within 255 where a loop pass accepts it.
--   recover_loops_indents, recover_goto_loops_indents    all indents of the answer are at most 255 if all of the listing are
-- Assumes nothing.
use Rattle.std.specs.Prelude.{Option}
use Prim.Native.Nat.{ℕ, ◌+◌, ◌-◌}
use mathlib.Core.Path.{◌≡◌, refl}
use mathlib.Core.Bool.{Bool, true}
use mathlib.Core.List.{List}
use native.Mathlib.Omega.{arith}
use lib.Dec.{leb, ltb}
use borrow.Author.Tests.{leb-true, le-leb, ltb-true}
use Rattle.definitions.specs.Lists.{all}
use Rattle.definitions.specs.Model.{Line}
use Rattle.definitions.specs.Passes.{lines}
use Rattle.definitions.specs.RecoverLoops.{recover_loops}
use Rattle.definitions.specs.RecoverGotoLoops.{jump, recover_goto_loops}
use Rattle.loop_theory.proofs.Jumps.{jump_has}
use Rattle.loop_theory.proofs.Kept.{Kept, recover_loops_keeps, recover_goto_loops_keeps}

abbrev pub within_255 : Line → Bool
within_255 l = leb l.indent 255

jump_indent : (name : List ℕ) (exit : Option (List ℕ)) (l : Line) → (jump name exit l).indent ≡ l.indent
jump_indent name exit l = jump_has (λ x. x.indent ≡ l.indent) name exit l (λ kw word q e. refl) (λ _. refl)

strictly : (n : ℕ) → ltb n 255 ≡ true → leb n 255 ≡ true
strictly n h = le-leb n 255 (omega (arith, ltb-true n 255 h))

indents_kept : Kept within_255
indents_kept = record {
  moved_out = λ l h. le-leb (l.indent - 1) 255 (omega (arith, leb-true l.indent 255 h));
  moved_in = λ name exit l h deep. le-leb ((jump name exit l).indent + 1) 255 (omega (arith, jump_indent name exit l, ltb-true l.indent 255 deep));
  closed = λ l d room. strictly d room;
  guarded = λ l c h e. h;
  headed = λ l d room. strictly d room;
  tested = λ l test d name exit c room h e. strictly d room;
  counted = λ init loop step c h₁ h₂ h₃ e. h₂;
}

pub recover_loops_indents : (L M : List Line) → recover_loops L ≡ lines M → all within_255 L ≡ true → all within_255 M ≡ true
recover_loops_indents = recover_loops_keeps within_255 indents_kept

pub recover_goto_loops_indents : (L M : List Line) → recover_goto_loops L ≡ lines M → all within_255 L ≡ true → all within_255 M ≡ true
recover_goto_loops_indents = recover_goto_loops_keeps within_255 indents_kept
