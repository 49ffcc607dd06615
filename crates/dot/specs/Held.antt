-- What the functions of this crate are handed and leave.
--   Ready l t x space ranks     at most 1,024 lines, which cover the tokens in order; room for the matrices of the flow graph, and for a rank a token
--   Ranked T N m ranks        the ranks of the first m tokens: the first token of the web, and how many webs appear before the token
-- of the columns l, t, x and the web numbers N:
--   line_at l t x N i         the label's text of line i
--   line_cells l t x N i      its width in letters; widest l t x N, the greatest
--   node_at l t x N w i       line i, its text w points wide; nodes_at l t x N, all lines
--   picture l t x N f         the picture with the edges f
-- Assumes nothing.
use Rattle.std.specs.Prelude.{ℕ, ◌+◌, ◌*◌, ◌≤◌, ◌<◌, ◌≡◌, Bool, true, List, ◌++◌, map, length, get_or}
use Rattle.definitions.specs.Lists.{up_to, ascii}
use Rattle.definitions.specs.Model.{Token, line}
use Rattle.definitions.specs.Columns.{token_list, listing}
use Rattle.definitions.specs.Questions.{covers}
use Rattle.model.specs.Places.{line_start, line_end}
use Rattle.rows.specs.Rows.{rows}
use Rattle.dot.specs.Dot.{first_of, before, line_text, cells, greatest, node_text, edges, settings}

pub record Ready (l t x space ranks : List ℕ) : Type 0 where
  pub few : length l ≤ 1024
  pub short : length t ≤ 16384
  pub bytes : length x ≤ 262144
  pub cover : covers 512 0 l (length t) ≡ true
  pub wide : 34816 ≤ length space
  pub room : length t ≤ length ranks

pub record Ranked (T : List Token) (N : List ℕ) (m : ℕ) (ranks : List ℕ) : Type 0 where
  pub small : m ≤ 16384
  pub rank : (k : ℕ) → k < m → get_or ranks k 0 ≡ first_of T N k * 32768 + before T N k
  pub low : (k : ℕ) → k < m → first_of T N k ≤ k
  pub few : (k : ℕ) → k < m → before T N k ≤ k

module _ (l t x N : List ℕ) where
  unfoldable pub line_cells : ℕ → ℕ
  line_cells i = cells (token_list t x) N (line (listing l t x) i).indent (line_start l i) (line_end l t i)

  unfoldable pub widest : ℕ
  widest = greatest (map line_cells (up_to (length l)))

  unfoldable pub line_at : ℕ → List ℕ
  line_at i = line_text (token_list t x) N (line (listing l t x) i).indent (line_start l i) (line_end l t i)

  unfoldable pub node_at : ℕ → ℕ → List ℕ
  node_at w i = node_text w i (line_at i)

  unfoldable pub nodes_at : List ℕ
  nodes_at = rows (node_at (7 * widest)) 0 (length l)

  unfoldable pub picture : (ℕ → ℕ → Bool) → List ℕ
  picture f = settings ++ (nodes_at ++ (edges f (length l) ++ ascii "}\n"))
