-- The texts of tokens stay UTF-8.
--   recover_loops_utf8, recover_goto_loops_utf8    all texts of the answer are UTF-8 if all of the listing are
-- Assumes nothing.
use Rattle.std.specs.Prelude.{Some}
use Prim.Native.Nat.{ℕ, ◌+◌, ◌-◌}
use mathlib.Core.Path.{◌≡◌, refl, sym, ap, ◌∙◌}
use mathlib.Core.Bool.{Bool, true, ◌&&◌}
use mathlib.Core.List.{List, [], ◌∷◌, ◌++◌, append-nil}
use native.Mathlib.Omega.{arith}
use lib.Dec.{eqb, leb}
use borrow.Author.Tests.{eqb-true, leb-true}
use lib.ListN.{length, take, drop, take-append-drop}
use lib.Seq.{drop-drop}
use Rattle.definitions.specs.Lists.{all, starts_with, ascii}
use Rattle.definitions.specs.Model.{Token, Line}
use Rattle.definitions.specs.Utf8.{is_utf8}
use Rattle.definitions.specs.Condition.{Comparison, comparisons}
use Rattle.definitions.specs.Columns.{all_tokens}
use Rattle.definitions.specs.Passes.{lines}
use Rattle.definitions.specs.RecoverLoops.{recover_loops}
use Rattle.definitions.specs.RecoverGotoLoops.{recover_goto_loops}
use Rattle.loop_theory.proofs.Cases.{true_false, and_split}
use Rattle.loop_theory.proofs.Ascii.{is_ascii}
use Rattle.loop_theory.proofs.Comparisons.{find_passes, find_among, comparison_in}
use Rattle.loop_theory.proofs.KeptTokens.{KeptToken, recover_loops_tokens, recover_goto_loops_tokens}
use Rattle.loop_theory.proofs.Utf8Laws.{ascii_utf8, utf8_append, utf8_around, utf8_pop}

starts_split : (w s : List ℕ) → starts_with w s ≡ true → s ≡ w ++ drop (length w) s
unfolding starts_with
starts_split [] s e = refl
starts_split (a ∷ w) [] e = true_false e refl
starts_split (a ∷ w) (b ∷ s) e =
    let h = and_split (eqb a b) (starts_with w s) e in
    ap (λ u. b ∷ u) (starts_split w s h.1) ∙ ap (λ c. c ∷ (w ++ drop (length w) s)) (sym (eqb-true a b h.0))

opened_utf8 : (s : List ℕ) → starts_with (ascii " (") s ≡ true → is_utf8 s ≡ true → is_utf8 (drop 2 s) ≡ true
unfolding all
opened_utf8 s e h = (utf8_around [] (ascii " (") (drop 2 s) refl (omega arith) (ap is_utf8 (sym (starts_split (ascii " (") s e)) ∙ h)).1

ended_utf8 : (k : ℕ) (s : List ℕ) → all is_ascii (drop k s) ≡ true → is_utf8 s ≡ true → is_utf8 (take k s) ≡ true
ended_utf8 k s a h = go (drop k s) a (ap is_utf8 (take-append-drop k s) ∙ h)
  where
    go : (w : List ℕ) → all is_ascii w ≡ true → is_utf8 (take k s ++ w) ≡ true → is_utf8 (take k s) ≡ true
    go [] a h = ap is_utf8 (sym (append-nil (take k s))) ∙ h
    go (b ∷ w) a h = (utf8_around (take k s) (b ∷ w) [] a (omega arith) (ap (λ u. is_utf8 (take k s ++ u)) (append-nil (b ∷ w)) ∙ h)).0

abbrev in_ascii : Comparison → Bool
in_ascii o = leb 1 (length o.op) && (all is_ascii o.op && all is_ascii o.flipped)

flipped_utf8 : (s : List ℕ) (pos : ℕ) (o : Comparison) → comparison_in (drop pos s) ≡ Some o → is_utf8 s ≡ true
    → is_utf8 (take pos s ++ (o.flipped ++ drop (pos + length o.op) s)) ≡ true
unfolding all comparisons
flipped_utf8 s pos o e h =
    let stands = find_passes (λ c. starts_with c.op (drop pos s)) comparisons o e in
    let written = find_among (λ c. starts_with c.op (drop pos s)) in_ascii comparisons refl o e in
    let n = and_split (leb 1 (length o.op)) (all is_ascii o.op && all is_ascii o.flipped) written in
    let a = and_split (all is_ascii o.op) (all is_ascii o.flipped) n.1 in
    let behind = drop (pos + length o.op) s in
    let apart : take pos s ++ (o.op ++ behind) ≡ s =
    ap (λ u. take pos s ++ (o.op ++ u)) (sym (drop-drop (length o.op) pos s))
    ∙ (ap (λ u. take pos s ++ u) (sym (starts_split o.op (drop pos s) stands)) ∙ take-append-drop pos s) in
    let sides = utf8_around (take pos s) o.op behind a.0 (leb-true 1 (length o.op) n.0) (ap is_utf8 apart ∙ h) in
    utf8_append (take pos s) (o.flipped ++ behind) sides.0 (utf8_append o.flipped behind (ascii_utf8 o.flipped a.1) sides.1)

abbrev pub has_utf8 : Token → Bool
has_utf8 t = is_utf8 t.text

utf8_kept : KeptToken has_utf8
utf8_kept = record {
  own = λ s k h _. ascii_utf8 s h;
  joined = λ s u j k h₁ h₂. utf8_append s u h₁ h₂;
  opened = λ s k e h. opened_utf8 s e h;
  ended = λ n s k a h. ended_utf8 (length s - n) s a h;
  last_popped = λ s k h. utf8_pop s h;
  flipped = λ s k pos o e h. flipped_utf8 s pos o e h;
}

pub recover_loops_utf8 : (L M : List Line) → recover_loops L ≡ lines M
    → all has_utf8 (all_tokens L) ≡ true → all has_utf8 (all_tokens M) ≡ true
recover_loops_utf8 = recover_loops_tokens has_utf8 utf8_kept

pub recover_goto_loops_utf8 : (L M : List Line) → recover_goto_loops L ≡ lines M
    → all has_utf8 (all_tokens L) ≡ true → all has_utf8 (all_tokens M) ≡ true
recover_goto_loops_utf8 = recover_goto_loops_tokens has_utf8 utf8_kept
