-- Rules for `search` that the functions of this crate share.
--   equal_of, starts_of, ends_of, texts    what a comparison says of a part, said of the text that the part is
--   place_from, place-..                   the loop of a search for a place
-- Assumes nothing.
use Rattle.std.specs.Prelude.{Option, None, Some}
use Rattle.std.specs.Option.{option_map}
use mathlib.Core.Path.{◌≡◌, refl, sym, ap, ◌∙◌}
use mathlib.Core.Bool.{Bool, true, false}
use mathlib.Core.List.{List}
use Prim.Native.Nat.{ℕ, ◌+◌, ◌≤◌, ◌<◌}
use native.Mathlib.Nat.{zero-add}
use lib.ListN.{length, get_or}
use Rattle.definitions.specs.Lists.{◌≟◌, starts_with, ends_with, position, position_from}
use Rattle.text.proofs.Loops.{position_found, position_next, position_end}

module _ (r : Bool) (s t p : List ℕ) where
  pub equal_of : r ≡ (s ≟ p) → s ≡ t → r ≡ (t ≟ p)
  equal_of e q = e ∙ rw q

  pub starts_of : r ≡ starts_with p s → s ≡ t → r ≡ starts_with p t
  starts_of e q = e ∙ rw q

  pub ends_of : r ≡ ends_with p s → s ≡ t → r ≡ ends_with p t
  ends_of e q = e ∙ rw q

pub ruleset texts = (equal_of, starts_of, ends_of)

-- The place of the first that p holds of, from place j on

unfoldable pub place_from : {A : Type 0} → (A → Bool) → List A → ℕ → Option ℕ
place_from p xs j = position_from j p xs

module _ {A : Type 0} (p : A → Bool) (xs : List A) where
  pub place_start : position p xs ≡ place_from p xs 0
  unfolding place_from
  place_start = go (position p xs)
    where
      go : (o : Option ℕ) → o ≡ option_map (0 +◌) o
      go None = refl
      go (Some k) = ap Some (sym (zero-add k))

  module _ (r : Option ℕ) (j n : ℕ) (inv : r ≡ place_from p xs j) (e : n ≡ length xs) where
    module _ (d : A) (b : Bool) (h : j < n) (q : b ≡ p (get_or xs j d)) where
      pub place_found : b ≡ true → Some j ≡ r
      unfolding place_from
      place_found f = position_found p xs j n e r inv d b h q f

      pub place_next : b ≡ false → r ≡ place_from p xs (j + 1)
      unfolding place_from
      place_next f = position_next p xs j n e r inv d b h q f

    pub place_end : n ≤ j → None ≡ r
    unfolding place_from
    place_end h = position_end p xs j n e r inv h

pub ruleset places = (place_start, place_found, place_next, place_end)
