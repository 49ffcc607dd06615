-- What is written for tokens, line by line.
--   tally ds i c          how many of the first i entries of ds are c
--   number_of f c         the number of a token whose family has place c, where f has the number of each place
--   mark_of d c           the mark of such a token on a line whose entry is d
--   token_number fs f u   the number of the token u
--   token_mark fs d u     its mark
--   over a e f us ms      ms with f of the elements of us from place a up to, not with, place e in their places
--   by_line l t g us n    g i of each element of line i, for the first n lines
-- Assumes nothing.
use Rattle.std.specs.Prelude.{if◌then◌else◌, ℕ, ◌&&◌, List, ◌++◌, map, eqb, ltb, get_or, take, drop, Option, None, Some}
use Rattle.definitions.specs.Lists.{count, concat, up_to, part}
use Rattle.definitions.specs.Model.{Token}
use Rattle.definitions.specs.Family.{fam_of}
use Rattle.definitions.specs.Answers.{no_family}
use Rattle.model.specs.Places.{line_start, line_end}
use Rattle.memo.specs.Found.{found}

unfoldable pub tally : List ℕ → ℕ → ℕ → ℕ
tally ds i c = count (λ j. eqb (get_or ds j 0) c) (up_to i)

unfoldable pub number_of : (ℕ → ℕ) → Option ℕ → ℕ
number_of f None = no_family
number_of f (Some c) = if eqb c 0 then 0 else f c

unfoldable pub mark_of : ℕ → Option ℕ → ℕ
mark_of d None = 0
mark_of d (Some c) = if ltb 0 d && eqb d c then 1 else 0

unfoldable pub token_number : List (List ℕ) → (ℕ → ℕ) → Token → ℕ
token_number fs f u = number_of f (found fs (fam_of u))

unfoldable pub token_mark : List (List ℕ) → ℕ → Token → ℕ
token_mark fs d u = mark_of d (found fs (fam_of u))

abbrev pub over : {A : Type 0} → ℕ → ℕ → (A → ℕ) → List A → List ℕ → List ℕ
over a e f us ms = take a ms ++ (map f (part a e us) ++ drop e ms)

unfoldable pub by_line : {A : Type 0} → List ℕ → List ℕ → (ℕ → A → ℕ) → List A → ℕ → List ℕ
by_line l t g us n = concat (map (λ i. map (g i) (part (line_start l i) (line_end l t i) us)) (up_to n))
