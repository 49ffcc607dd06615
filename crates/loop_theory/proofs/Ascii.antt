-- ASCII texts and ends of texts.
--   is_ascii b, ascii_end n s    the byte b is ASCII; the last n bytes of the text s are
--   ends_ascii, closing_ascii    a text that ends with an ASCII text has an ASCII end; so has one that closes a condition
--   cut_ascii_end                and so has what is left behind a cut
-- Assumes nothing.
use Prim.Native.Nat.{ℕ, ◌+◌, ◌-◌}
use mathlib.Core.Path.{◌≡◌, refl, subst}
use mathlib.Core.Bool.{Bool, true}
use mathlib.Core.List.{List}
use native.Mathlib.Omega.{arith}
use lib.Dec.{leb, ltb}
use lib.ListN.{length, drop, length-drop}
use lib.Seq.{drop-drop}
use Rattle.definitions.specs.Lists.{all, ◌≟◌, ends_with, ascii}
use Rattle.definitions.specs.Condition.{closing}
use Rattle.loop_theory.proofs.Cases.{none_some, some_same, and_split, ≟_true, if_has, IfSome}
use Rattle.loop_theory.proofs.AnyAll.{all_halves}

abbrev pub is_ascii : ℕ → Bool
is_ascii b = ltb b 128

-- the last n bytes of a text, or all if it has fewer, are ASCII
abbrev pub ascii_end : ℕ → List ℕ → Bool
ascii_end n s = all is_ascii (drop (length s - n) s)

pub ends_ascii : (w s : List ℕ) → all is_ascii w ≡ true → ends_with w s ≡ true → ascii_end (length w) s ≡ true
ends_ascii w s h e =
    rw (≟_true (drop (length s - length w) s) w (and_split (leb (length w) (length s)) (drop (length s - length w) s ≟ w) e).1) h

pub closing_ascii : (s : List ℕ) → IfSome (λ n. ascii_end n s ≡ true) (closing s)
unfolding closing all
closing_ascii s =
    let Q : ℕ → Type 0 = λ n. ascii_end n s ≡ true in
    if_has (IfSome Q) (ends_with (ascii ") {") s) (λ h n e. subst Q (some_same e) (ends_ascii (ascii ") {") s refl h)) λ _.
    if_has (IfSome Q) (ends_with (ascii ");") s) (λ h n e. subst Q (some_same e) (ends_ascii (ascii ");") s refl h)) λ _ n e.
    none_some e

pub cut_ascii_end : (m n : ℕ) (s : List ℕ) → ascii_end n s ≡ true → ascii_end n (drop m s) ≡ true
cut_ascii_end m n s h =
    let a = length s - n in
    let b = length (drop m s) - n in
    let further : a + (m + b - a) ≡ m + b = omega (arith, length-drop m s) in
    let behind = rw (drop-drop (m + b - a) a s) at (all_halves is_ascii (m + b - a) (drop a s) h).1 in
    rw (drop-drop b m s) (subst (λ k. all is_ascii (drop k s) ≡ true) further behind)
