-- What an answer of a parser came from.
--   never, same_got            nothing is no answer; equal answers
--   after_some, or_some        the answer of one parser after another, of one or the other
--   either                     the answer of a choice
--   rest_of                    the rest of a given answer
-- Assumes nothing.
use Rattle.std.specs.Prelude.{Option, None, Some}
use Prim.Native.Nat.{ℕ}
use mathlib.Core.Path.{◌≡◌, refl, sym, ap}
use mathlib.Core.Bool.{Bool, true, false, cond}
use mathlib.Core.List.{List}
use native.Mathlib.Omega.{arith}
use lib.ListN.{length}
use Rattle.json_definitions.specs.Parser.{Got, got, Parser, after, or_try}

pub never : {A B : Type 0} (g : Got A) → None ≡ Some g → B
never g e = let z : ◌≡◌ {A = ℕ} 0 1 = cc in absurd (omega arith)

pub same_got : {A : Type 0} (a b : Got A) → Some a ≡ Some b → a ≡ b
same_got a b e = cc

pub rest_of : {A : Type 0} (v : A) (x : List ℕ) (g : Got A) → got v x ≡ Some g → length g.rest ≡ length x
rest_of {A} v x g e = sym (ap (λ (y : Got A). length y.rest) (same_got _ g e))

pub after_some : {A B : Type 0} (o : Option (Got A)) (f : A → Parser B) (g : Got B) → after o f ≡ Some g → (h : Got A) × (o ≡ Some h) × (f h.value h.rest ≡ Some g)
unfolding after
after_some None f g e = never g e
after_some (Some h) f g e = (h, refl, e)

pub or_some : {A : Type 0} (o : Option (Got A)) (q : Parser A) (s : List ℕ) (g : Got A) (P : Type 0) → (o ≡ Some g → P) → (q s ≡ Some g → P) → or_try o q s ≡ Some g → P
unfolding or_try
or_some None q s g P h k e = k e
or_some (Some x) q s g P h k e = h e

pub either : {A : Type 0} (b : Bool) (p o : Option (Got A)) (g : Got A) (P : Type 0) → (p ≡ Some g → P) → (o ≡ Some g → P) → cond b p o ≡ Some g → P
either true p o g P h k e = h e
either false p o g P h k e = k e
