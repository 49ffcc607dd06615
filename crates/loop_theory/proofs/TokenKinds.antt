-- The kinds of tokens stay kinds: at most 7.
--   recover_loops_kinds, recover_goto_loops_kinds    all kinds of the answer are at most 7 if all of the listing are
-- Assumes nothing.
use mathlib.Core.Path.{◌≡◌}
use mathlib.Core.Bool.{Bool, true}
use mathlib.Core.List.{List}
use lib.Dec.{leb}
use Rattle.definitions.specs.Lists.{all}
use Rattle.definitions.specs.Model.{Token, Line}
use Rattle.definitions.specs.Columns.{all_tokens}
use Rattle.definitions.specs.Passes.{lines}
use Rattle.definitions.specs.RecoverLoops.{recover_loops}
use Rattle.definitions.specs.RecoverGotoLoops.{recover_goto_loops}
use Rattle.loop_theory.proofs.KeptTokens.{KeptToken, recover_loops_tokens, recover_goto_loops_tokens}

abbrev pub is_kind : Token → Bool
is_kind t = leb t.kind 7

kind_kept : KeptToken is_kind
kind_kept = record {
  own = λ s k _ h. h;
  joined = λ s u j k h _. h;
  opened = λ s k _ h. h;
  ended = λ n s k _ h. h;
  last_popped = λ s k h. h;
  flipped = λ s k pos o _ h. h;
}

pub recover_loops_kinds : (L M : List Line) → recover_loops L ≡ lines M
    → all is_kind (all_tokens L) ≡ true → all is_kind (all_tokens M) ≡ true
recover_loops_kinds = recover_loops_tokens is_kind kind_kept

pub recover_goto_loops_kinds : (L M : List Line) → recover_goto_loops L ≡ lines M
    → all is_kind (all_tokens L) ≡ true → all is_kind (all_tokens M) ≡ true
recover_goto_loops_kinds = recover_goto_loops_tokens is_kind kind_kept
