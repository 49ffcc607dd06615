-- Rules for the needs of tokens and of arrays.
--   token_is                                the text of a token, piece by piece
--   elements_next, elements_end             the loop over elements
--   array_none, array_some                  an array without elements, and with them
-- Assumes nothing.
use Prim.Native.Nat.{ℕ, ◌+◌, ◌≤◌, ◌<◌}
use mathlib.Core.Path.{◌≡◌}
use mathlib.Core.List.{List, [], ◌∷◌, ◌++◌, append_assoc}
use lib.ListN.{length, get_or}
use Rattle.definitions.specs.Lists.{ascii, part}
use Rattle.definitions.specs.Model.{Token}
use Rattle.text.proofs.Parts.{part_step, part_none}
use Rattle.json_definitions.specs.Writer.{characters_text, string_text, kind_text, token_text, elements_text, array_text}
use Rattle.json_append.specs.Appended.{Wrote, Begun}
use Rattle.json_append.specs.declared.writer.Writer.{Writer}
use Rattle.json_append.proofs.Appends.{wrote_as, wrote_2, wrote_3, begun_start, begun_next, begun_last}

pub token_is : (T : Token) (u : List ℕ) (v : ℕ) → u ≡ T.text → v ≡ T.kind
    → ascii "{\"t\":\"" ++ (characters_text u ++ (ascii "\",\"k\":" ++ (kind_text v ++ ascii "}"))) ≡ token_text T
unfolding token_text string_text
token_is T u v p q = rw (p, q, append_assoc (characters_text T.text) (ascii "\"") (ascii ",\"k\":" ++ (kind_text T.kind ++ ascii "}")))

-- The elements of xs from place k up to e

module _ {A : Type 0} (f : A → List ℕ) (xs : List A) (e k : ℕ) (w₀ : Writer) (t : List ℕ) (w : Writer) (g : Begun w₀ t w (elements_text f (part k e xs))) where
  pub elements_next : (d : A) → k < e → e ≤ length xs → (w' : Writer) → Wrote w (ascii "," ++ f (get_or xs k d)) w' → Begun w₀ t w' (elements_text f (part (k + 1) e xs))
  elements_next d h l w' v = begun_next w₀ t w (elements_text f (part k e xs)) g (ascii "," ++ f (get_or xs k d)) w' v (elements_text f (part (k + 1) e xs)) step
    where
      step : (ascii "," ++ f (get_or xs k d)) ++ elements_text f (part (k + 1) e xs) ≡ elements_text f (part k e xs)
      step = unfold elements_text in rw (part_step d xs k e h l)

  pub elements_end : e ≤ k → (w' : Writer) → Wrote w (93 ∷ []) w' → Wrote w₀ t w'
  elements_end h w' v = begun_last w₀ t w (elements_text f (part k e xs)) g w' (wrote_as w (93 ∷ []) (elements_text f (part k e xs)) w' none v)
    where
      none : 93 ∷ [] ≡ elements_text f (part k e xs)
      none = unfold elements_text in rw (part_none xs k e h)

module _ {A : Type 0} (f : A → List ℕ) (xs : List A) (from e : ℕ) where
  pub array_none : e ≤ from → 91 ∷ 93 ∷ [] ≡ array_text f (part from e xs)
  unfolding array_text
  array_none h = rw (part_none xs from e h)

  pub array_some : (d : A) → from < e → e ≤ length xs → (91 ∷ []) ++ (f (get_or xs from d) ++ elements_text f (part (from + 1) e xs)) ≡ array_text f (part from e xs)
  unfolding array_text
  array_some d h l = rw (part_step d xs from e h l)

pub ruleset elements = (wrote_as, wrote_2, wrote_3, begun_start, array_none)
