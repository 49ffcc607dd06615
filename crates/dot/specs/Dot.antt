-- The picture of a listing, in the DOT language: a node for each line, in order, with the line's number and text; an edge for each edge of the flow graph;
-- each register token that has a web in the colour of its web, with the web's number below it.
--   character c, characters s      bytes as they stand in a label
--   digit n, hue c                 the last digit of n; the hue of colour c, behind `0.`
--   web_text c s w                 the text s in colour c, with the number w below it
--   has_web N k                    token k has a web, N being the web numbers of all tokens
-- of all tokens T and their web numbers N:
--   same_web T N k p               tokens p and k are of one web: of one family and number
--   first_of T N k                 the first token of the web of token k
--   appears T N k                  token k is the first of its web
--   before T N k                   how many webs appear before token k
--   colour T N k                   the colour of the web of token k: how many webs appear before it does
--   token_text T N k               token k in a label
--   line_text T N d a e            the label of a line with indent d and the tokens from a up to e
--   cells T N d a e                how many letters wide that is, two for a web's number
-- and of the listing L:
--   start L i                      the place of line i's first token among all tokens
--   width L N                      the width of a label's text, in points: seven for each letter of the widest
--   node L N i                     line i
--   edge b i j                     the edge from line i to line j, b saying whether there is one: down to the next line, on the right to a later one, on
--                                  the left to an earlier one. A line that does not step to the next has an edge to it that is not drawn, to keep the order
--   drawn L N g                    the picture with the flow graph g, nothing where there is none
--   dot_text L N                   the picture
-- Assumes nothing.
use Rattle.std.specs.Prelude.{if◌then◌else◌, ℕ, zero, suc, ◌+◌, ◌*◌, ◌-◌, ◌/◌, ◌%◌, max, Bool, ◌&&◌, not, List, [], ◌∷◌, ◌++◌, map, eqb, leb, ltb, length, take, get_or, Option, None, Some}
use Rattle.definitions.specs.Lists.{or_else, find, concat, range, up_to, ascii}
use Rattle.definitions.specs.Model.{Token, Line, no_token, line}
use Rattle.definitions.specs.Columns.{all_tokens}
use Rattle.definitions.specs.Family.{fam_of}
use Rattle.definitions.specs.FlowGraph.{flow_graph, steps}
use Rattle.definitions.specs.Answers.{no_family, mark}
use Rattle.family.specs.Register.{same_name}
use Rattle.json_definitions.specs.Writer.{decimal}
use Rattle.rows.specs.Rows.{rows}

-- Labels. A blank, and any code below it, which a label cannot have, is a blank that is kept.

unfoldable pub character : ℕ → List ℕ
character c =
    if leb c 32 then ascii "&nbsp;"
    else if eqb c 34 then ascii "&quot;"
    else if eqb c 38 then ascii "&amp;"
    else if eqb c 60 then ascii "&lt;"
    else if eqb c 62 then ascii "&gt;"
    else c ∷ []

unfoldable pub characters : List ℕ → List ℕ
characters s = concat (map character s)

unfoldable pub digit : ℕ → List ℕ
digit n = (48 + n % 10) ∷ []

-- 61,803 and 100,000 have no common divisor, so that the first 100,000 colours differ, and neighbours lie far apart
unfoldable pub hue : ℕ → List ℕ
hue c = let h = c % 100000 * 61803 % 100000 in digit (h / 10000) ++ (digit (h / 1000) ++ (digit (h / 100) ++ (digit (h / 10) ++ digit h)))

unfoldable pub font : ℕ → List ℕ
font c = ascii "<font color=\"0." ++ (hue c ++ ascii " 0.9 0.6\">")

unfoldable pub blanks : ℕ → List ℕ
blanks d = rows (λ i. ascii "&nbsp;&nbsp;&nbsp;&nbsp;") 0 d

unfoldable pub below : ℕ → List ℕ
below w = ascii "<sub><font point-size=\"8\">" ++ (decimal w ++ ascii "</font></sub></font>")

unfoldable pub web_text : ℕ → List ℕ → ℕ → List ℕ
web_text c s w = font c ++ (characters s ++ below w)

-- Tokens and their webs

unfoldable pub has_web : List ℕ → ℕ → Bool
has_web N k = not (eqb (get_or N k 0) no_family)

module _ (T : List Token) (N : List ℕ) where
  unfoldable pub same_web : ℕ → ℕ → Bool
  same_web k p = eqb (get_or N p 0) (get_or N k 0) && same_name (fam_of (get_or T p no_token)) (fam_of (get_or T k no_token))

  unfoldable pub first_of : ℕ → ℕ
  first_of k = or_else (find (same_web k) (up_to k)) k

  unfoldable pub appears : ℕ → Bool
  appears k = has_web N k && eqb (first_of k) k

  unfoldable pub before : ℕ → ℕ
  before zero = 0
  before (suc k) = before k + mark (appears k)

  abbrev pub colour : ℕ → ℕ
  colour k = before (first_of k)

  unfoldable pub token_text : ℕ → List ℕ
  token_text k = if has_web N k then web_text (colour k) (get_or T k no_token).text (get_or N k 0) else characters (get_or T k no_token).text

  unfoldable pub line_text : ℕ → ℕ → ℕ → List ℕ
  line_text d a e = blanks d ++ rows token_text a e

-- Widths

unfoldable pub sum : List ℕ → ℕ
sum [] = 0
sum (x ∷ xs) = x + sum xs

unfoldable pub greatest : List ℕ → ℕ
greatest [] = 0
greatest (x ∷ xs) = max x (greatest xs)

module _ (T : List Token) (N : List ℕ) where
  unfoldable pub token_cells : ℕ → ℕ
  token_cells k = length (get_or T k no_token).text + (if has_web N k then 2 else 0)

  unfoldable pub cells : ℕ → ℕ → ℕ → ℕ
  cells d a e = 4 * d + sum (map token_cells (range a (e - a)))

-- Nodes

unfoldable pub node_head : ℕ → List ℕ
node_head i = ascii "  " ++ (decimal i ++ ascii " [label=<<table border=\"0\"><tr>")

unfoldable pub number_cell : ℕ → List ℕ
number_cell i = ascii "<td align=\"right\" width=\"24\"><font color=\"gray50\">" ++ (decimal i ++ ascii "</font></td>")

unfoldable pub text_cell : ℕ → List ℕ
text_cell w = ascii "<td align=\"left\" width=\"" ++ (decimal w ++ ascii "\">")

unfoldable pub node_start : ℕ → ℕ → List ℕ
node_start w i = node_head i ++ (number_cell i ++ text_cell w)

unfoldable pub node_text : ℕ → ℕ → List ℕ → List ℕ
node_text w i s = node_start w i ++ (s ++ ascii "</td></tr></table>>]\n")

unfoldable pub start : List Line → ℕ → ℕ
start L i = length (all_tokens (take i L))

module _ (L : List Line) (N : List ℕ) where
  unfoldable pub width : ℕ
  width = 7 * greatest (map (λ i. cells (all_tokens L) N (line L i).indent (start L i) (start L i + length (line L i).tokens)) (up_to (length L)))

  unfoldable pub node : ℕ → List ℕ
  node i = node_text width i (line_text (all_tokens L) N (line L i).indent (start L i) (start L i + length (line L i).tokens))

-- Edges

unfoldable pub arrow : ℕ → List ℕ → ℕ → List ℕ → List ℕ
arrow i s j t = ascii "  " ++ (decimal i ++ (s ++ (decimal j ++ t)))

unfoldable pub down : Bool → ℕ → ℕ → List ℕ
down b i j = if b then arrow i (ascii " -> ") j (ascii " [weight=9]\n") else arrow i (ascii " -> ") j (ascii " [weight=9 style=invis]\n")

unfoldable pub aside : ℕ → ℕ → List ℕ
aside i j = if ltb i j then arrow i (ascii ":e -> ") j (ascii ":e\n") else arrow i (ascii ":w -> ") j (ascii ":w [penwidth=2]\n")

unfoldable pub edge : Bool → ℕ → ℕ → List ℕ
edge b i j = if eqb j (i + 1) then down b i j else if b then aside i j else []

-- f says which line steps to which, of n lines
unfoldable pub edges : (ℕ → ℕ → Bool) → ℕ → List ℕ
edges f n = rows (λ i. rows (λ j. edge (f i j) i j) 0 n) 0 n

-- The picture

abbrev pub settings : List ℕ
settings = ascii "digraph flow {\n  ranksep=0.1\n  nodesep=0.15\n  node [shape=box margin=0 height=0 color=gray80 fontname=Courier fontsize=10]\n  edge [color=gray30 arrowsize=0.5]\n"

unfoldable pub drawn : List Line → List ℕ → Option (List (List ℕ)) → List ℕ
drawn L N None = []
drawn L N (Some G) = settings ++ (rows (node L N) 0 (length L) ++ (edges (steps G) (length L) ++ ascii "}\n"))

unfoldable pub dot_text : List Line → List ℕ → List ℕ
dot_text L N = drawn L N (flow_graph L)
