-- Which targets enter a loop, of the words of a plan. C is the listing of the columns.
--   labels C ws           the source lines of the words of ws whose lines are labels
--   names C s i           s is the first token of line i: the name of a label
--   goes_inside C ls w    the line of w has a goto to one of the labels at lines ls
-- Assumes nothing.
use Rattle.std.specs.Prelude.{ℕ, ◌/◌, Bool, List, map}
use Rattle.definitions.specs.Lists.{any, filter, ◌≟◌}
use Rattle.definitions.specs.Model.{Line, token, line}
use Rattle.definitions.specs.Statements.{is_label}
use Rattle.definitions.specs.RecoverGotoLoops.{goes_to}
use Rattle.plan.specs.Plan.{piece_at, line_of}

unfoldable pub labels : List Line → List ℕ → List ℕ
labels C ws = map (λ w. piece_at w / 4) (filter (λ w. is_label (line_of C w)) ws)

abbrev pub names : List Line → List ℕ → ℕ → Bool
names C s i = (token (line C i) 0).text ≟ s

abbrev pub goes_inside : List Line → List ℕ → ℕ → Bool
goes_inside C ls w = goes_to (λ s. any (names C s) ls) (line_of C w)
