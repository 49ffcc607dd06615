-- The one comparison of a condition as the code has it.
--   named w               the comparison w of the definitions
--   numbered w            comparison w of the six
--   comparison_of s       the comparison that the text s starts with
--   occurs b s            how often the byte b stands in s
--   width w               how many bytes comparison w of the six has, 0 where it is none
--   op_width w            how many bytes the comparison w has
--   found_of f            the comparison f, with its token and its byte
--   seen r                what the scan has seen
--   weight r              how much that is, for the bounds of its numbers
--   flipped w             what comparison w is flipped to
--   negated_token l m o k     token k of m of the condition, with the comparison that the answer o says flipped if it stands there
--   negation l m o        the negated condition by the answer o
-- Assumes nothing.
use Rattle.std.specs.Option.{option_map}
use Rattle.std.specs.Prelude.{if◌then◌else◌, ℕ, ◌+◌, List, ◌∷◌, ◌++◌, [], map, eqb, length, Option, None, Some, slice_get}
use Rattle.definitions.specs.Lists.{or_else, starts_with, ascii, find, count, range}
use Rattle.definitions.specs.Model.{Token, Line, tok, Punct}
use Rattle.definitions.specs.Statements.{merge}
use Rattle.definitions.specs.Condition.{Comparison, comparison, comparisons, Found, Seen, flip}
use Rattle.append.specs.Adds.{whole}
use Rattle.negate.specs.Tests.{test_token, test_tokens}
use Rattle.negate.specs.declared.comparison.Comparison.{Comparison as Which}
use Rattle.negate.specs.declared.comparison.Comparison.TheVariants.{Equal, Unequal, AtMost, AtLeast, Less, Greater}
use Rattle.negate.specs.declared.comparison.Found.{Found as Place}
use Rattle.negate.specs.declared.comparison.Seen.{Seen as Counts}

unfoldable pub named : Which → Comparison
named Equal = comparison " == " " != "
named Unequal = comparison " != " " == "
named AtMost = comparison " <= " " > "
named AtLeast = comparison " >= " " < "
named Less = comparison " < " " >= "
named Greater = comparison " > " " <= "

unfoldable pub numbered : ℕ → Option Comparison
numbered w = slice_get comparisons w

unfoldable pub comparison_of : List ℕ → Option Comparison
comparison_of s = find (λ c. starts_with c.op s) comparisons

unfoldable pub occurs : ℕ → List ℕ → ℕ
occurs b s = count (eqb b) s

unfoldable pub width : ℕ → ℕ
width w = or_else (option_map (λ o. length o.op) (numbered w)) 0

abbrev pub op_width : Which → ℕ
op_width w = length (named w).op

abbrev pub found_in : ℕ → ℕ → Comparison → Found
found_in p b o = record { place = p; pos = b; comparison = o }

abbrev pub found_of : Place → Found
found_of f = found_in f.place f.byte (named f.which)

abbrev pub seen : Counts → Seen
seen r = record { opened = r.opened; closed = r.closed; count = r.count; found = option_map found_of r.found }

abbrev pub weight : Counts → ℕ
weight r = r.opened + r.closed + r.count

abbrev pub flipped : Which → List ℕ
flipped w = (named w).flipped

unfoldable pub negated_token : Line → ℕ → Option Place → ℕ → Token
negated_token l m (Some f) k = if eqb k f.place then flip (found_of f) (test_token l m k) else test_token l m k
negated_token l m None k = test_token l m k

unfoldable pub negation : Line → ℕ → Option Place → List Token
negation l m (Some f) = whole (map (negated_token l m (Some f)) (range 0 m))
negation l m None = merge (tok (ascii "!(") Punct ∷ (whole (test_tokens l m) ++ (tok (ascii ")") Punct ∷ [])))
