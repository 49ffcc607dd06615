-- What the web program prints.
--   name_of o              the name of the family, nothing where there is none
--   number_text n          n and a blank
--   place_text i j f       `line token family`
--   mark_text d            ` D` or ` U`, and a line feed
--   web_text w d           `#web D` or `#web U`, and a line feed
--   row_text i j f w d     a row
--   token_row i j t w d    the row of a token with web number w and definition byte d, none where the number says that it has no family
--   rows f a e             the rows f of the places from a up to e
--   row_at .. i k          the row of token k of all, which is in line i
--   line_rows .. i         the rows of line i
--   all_rows ..            the rows of the listing with the columns l, t, x, the web numbers and the definition bytes
--   refused_text n         `refused n`
--   Short l t x w          of columns that questions 1 and 2 let pass: w is no longer than 28 bytes for each token and the text
--   Printed w out e        the first e bytes of out are w
-- Assumes nothing.
use Rattle.std.specs.Prelude.{if◌then◌else◌, ℕ, ◌+◌, ◌*◌, ◌-◌, ◌≤◌, ◌≡◌, true, List, [], ◌++◌, map, eqb, length, take, get_or, Option, None, Some}
use Rattle.definitions.specs.Lists.{concat, range, ascii}
use Rattle.definitions.specs.Model.{Token, no_token}
use Rattle.definitions.specs.Columns.{token_list}
use Rattle.definitions.specs.Family.{Family, fam_of}
use Rattle.definitions.specs.Questions.{limits, question_1, question_2}
use Rattle.definitions.specs.Answers.{no_family}
use Rattle.model.specs.Places.{line_start, line_end}
use Rattle.json_definitions.specs.Writer.{decimal}

abbrev pub name_of : Option Family → List ℕ
name_of None = []
name_of (Some f) = f.name

unfoldable pub number_text : ℕ → List ℕ
number_text n = decimal n ++ ascii " "

unfoldable pub place_text : ℕ → ℕ → List ℕ → List ℕ
place_text i j f = number_text i ++ (number_text j ++ f)

abbrev pub mark_text : ℕ → List ℕ
mark_text d = if eqb d 1 then ascii " D\n" else ascii " U\n"

unfoldable pub web_text : ℕ → ℕ → List ℕ
web_text w d = ascii "#" ++ (decimal w ++ mark_text d)

unfoldable pub row_text : ℕ → ℕ → List ℕ → ℕ → ℕ → List ℕ
row_text i j f w d = place_text i j f ++ web_text w d

unfoldable pub token_row : ℕ → ℕ → Token → ℕ → ℕ → List ℕ
token_row i j t w d = if eqb w no_family then [] else row_text i j (name_of (fam_of t)) w d

abbrev pub rows : (ℕ → List ℕ) → ℕ → ℕ → List ℕ
rows f a e = concat (map f (range a (e - a)))

module _ (l t x numbers marks : List ℕ) where
  unfoldable pub row_at : ℕ → ℕ → List ℕ
  row_at i k = token_row i (k - line_start l i) (get_or (token_list t x) k no_token) (get_or numbers k 0) (get_or marks k 0)

  unfoldable pub line_rows : ℕ → List ℕ
  line_rows i = rows (row_at i) (line_start l i) (line_end l t i)

  unfoldable pub all_rows : List ℕ
  all_rows = rows line_rows 0 (length l)

unfoldable pub refused_text : ℕ → List ℕ
refused_text n = ascii "refused " ++ (decimal n ++ ascii "\n")

abbrev pub Short : List ℕ → List ℕ → List ℕ → List ℕ → Type 0
Short l t x w = question_1 limits l t x ≡ true → question_2 l t x ≡ true → length w ≤ 28 * length t + length x

pub record Printed (w out : List ℕ) (e : ℕ) : Type 0 where
  pub bytes : take e out ≡ w
  pub within : e ≤ length out
