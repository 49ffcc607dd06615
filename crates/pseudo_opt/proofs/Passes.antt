-- Rules for `search` at a pass over the tokens of a line by their places among all tokens. The answer r is that of the tokens from place k on.
--   pass_start, pass_found, pass_next, pass_end           r ≡ any p of them
--   seek_start, seek_found, seek_next, seek_end           r is the place of the first that p holds of
-- Assumes nothing.
use Rattle.std.specs.Prelude.{Option, None, Some}
use Prim.Native.Nat.{ℕ, ◌+◌, ◌-◌, ◌≤◌, ◌<◌}
use mathlib.Core.Path.{◌≡◌, sym, ap, ◌∙◌}
use mathlib.Core.Bool.{Bool, true, false}
use mathlib.Core.List.{List}
use native.Mathlib.Omega.{arith}
use lib.ListN.{get_or, drop}
use Rattle.definitions.specs.Lists.{any, position}
use Rattle.definitions.specs.Model.{Token, line, no_token}
use Rattle.definitions.specs.Columns.{token_list, listing}
use Rattle.model.specs.Places.{line_start, line_end}
use Rattle.model.proofs.Decode.{line_length, line_token}
use Rattle.text.proofs.Loops.{any_found, any_next, any_end}
use Rattle.pseudo_opt.proofs.Rules.{place_from, place_start, place_found, place_next, place_end}

-- Token k of all is token k - s of the line that starts at place s.
inside : (l t : List ℕ) (i s k e : ℕ) → s ≡ line_start l i → e ≡ line_end l t i → s ≤ k → k < e → k - s < line_end l t i - line_start l i
inside l t i s k e a b g h = omega arith

here : (p : Token → Bool) (l t x : List ℕ) (i s k e : ℕ) → s ≡ line_start l i → e ≡ line_end l t i → (f : Bool) → s ≤ k → k < e
    → f ≡ p (get_or (token_list t x) k no_token) → f ≡ p (get_or (line (listing l t x) i).tokens (k - s) no_token)
here p l t x i s k e a b f g h q =
    let z : line_start l i + (k - s) ≡ k = omega arith in
    q ∙ ap p (sym (line_token l t x i (k - s) (inside l t i s k e a b g h) ∙ ap (λ (k : ℕ). get_or (token_list t x) k no_token) z))

-- The answer of the tokens of line i from place k on, the line starting at place s.
unfoldable pub from : (Token → Bool) → List ℕ → List ℕ → List ℕ → ℕ → ℕ → ℕ → Bool
from p l t x i s k = any p (drop (k - s) (line (listing l t x) i).tokens)

module _ (p : Token → Bool) (l t x : List ℕ) (i s k : ℕ) where
  pub pass_start : k ≡ s → any p (line (listing l t x) i).tokens ≡ from p l t x i s k
  unfolding from
  pass_start h = let z : k - s ≡ 0 = omega arith in rw z

  module _ (e : ℕ) (a : s ≡ line_start l i) (b : e ≡ line_end l t i) (r : Bool) (inv : r ≡ from p l t x i s k) where
    module _ (f : Bool) (g : s ≤ k) (h : k < e) (q : f ≡ p (get_or (token_list t x) k no_token)) where
      pub pass_found : f ≡ true → true ≡ r
      unfolding from
      pass_found y =
          any_found p (line (listing l t x) i).tokens (k - s) (line_end l t i - line_start l i) (sym (line_length l t x i)) r inv no_token f (inside l t i s k e a b g h) (here p l t x i s k e a b f g h q) y

      pub pass_next : f ≡ false → r ≡ from p l t x i s (k + 1)
      unfolding from
      pass_next y =
          let z : (k - s) + 1 ≡ k + 1 - s = omega arith in
          rw z at
          (any_next p (line (listing l t x) i).tokens (k - s) (line_end l t i - line_start l i) (sym (line_length l t x i)) r inv no_token f (inside l t i s k e a b g h) (here p l t x i s k e a b f g h q) y)

    pub pass_end : s ≤ k → e ≤ k → false ≡ r
    unfolding from
    pass_end g h =
        any_end p (line (listing l t x) i).tokens (k - s) (line_end l t i - line_start l i) (sym (line_length l t x i)) r inv (omega arith)

-- The place of the first token of line i, from place k on, that p holds of, counted from the line's start s.
unfoldable pub placed : (Token → Bool) → List ℕ → List ℕ → List ℕ → ℕ → ℕ → ℕ → Option ℕ
placed p l t x i s k = place_from p (line (listing l t x) i).tokens (k - s)

module _ (p : Token → Bool) (l t x : List ℕ) (i s k : ℕ) where
  pub seek_start : k ≡ s → position p (line (listing l t x) i).tokens ≡ placed p l t x i s k
  unfolding placed
  seek_start h = let z : k - s ≡ 0 = omega arith in rw z (place_start p (line (listing l t x) i).tokens)

  module _ (e : ℕ) (a : s ≡ line_start l i) (b : e ≡ line_end l t i) (r : Option ℕ) (inv : r ≡ placed p l t x i s k) where
    module _ (f : Bool) (g : s ≤ k) (h : k < e) (q : f ≡ p (get_or (token_list t x) k no_token)) where
      pub seek_found : f ≡ true → Some (k - s) ≡ r
      unfolding placed
      seek_found y =
          place_found p (line (listing l t x) i).tokens r (k - s) (line_end l t i - line_start l i) inv (sym (line_length l t x i)) no_token f
          (inside l t i s k e a b g h) (here p l t x i s k e a b f g h q) y

      pub seek_next : f ≡ false → r ≡ placed p l t x i s (k + 1)
      unfolding placed
      seek_next y =
          let z : (k - s) + 1 ≡ k + 1 - s = omega arith in
          rw z at
          (place_next p (line (listing l t x) i).tokens r (k - s) (line_end l t i - line_start l i) inv (sym (line_length l t x i)) no_token f
          (inside l t i s k e a b g h) (here p l t x i s k e a b f g h q) y)

    pub seek_end : s ≤ k → e ≤ k → None ≡ r
    unfolding placed
    seek_end g h =
        place_end p (line (listing l t x) i).tokens r (k - s) (line_end l t i - line_start l i) inv (sym (line_length l t x i)) (omega arith)

pub ruleset passes = (pass_start, pass_found, pass_next, pass_end)

pub ruleset seeks = (seek_start, seek_found, seek_next, seek_end)
