-- Brace structure, to be read beside `blocks` of pseudo_ssa.rs.
--   braces l     how many blocks line l closes that earlier lines opened, and how many it opens that later lines close
--   blocks L     for each line the line that closes its block, and the openers of the blocks around it; none where a brace does not match
-- Assumes nothing.
use Rattle.std.specs.Prelude.{if◌then◌else◌, ℕ, zero, suc, ◌+◌, ◌-◌, List, [], ◌∷◌, ◌++◌, eqb, ltb, length, set, replicate, Option, None, Some}
use Rattle.definitions.specs.Lists.{◌>>=◌, require, filter, fold, ◌≟◌}
use Rattle.definitions.specs.Model.{Line, text, Punct}

-- Only braces in punct tokens count; a `}` first cancels a `{` earlier on its line.

pub record Braces : Type 0 where
  pub opens : ℕ
  pub closes : ℕ

abbrev pub closing_brace : Braces → Braces
closing_brace b =
    if ltb 0 b.opens then record { opens = b.opens - 1; closes = b.closes } else record { opens = b.opens; closes = b.closes + 1 }

unfoldable pub brace : Braces → ℕ → Braces
brace b c =
    if eqb c 123 then record { opens = b.opens + 1; closes = b.closes }
    else if eqb c 125 then closing_brace b
    else b

unfoldable pub braces : Line → Braces
braces l = fold brace (record { opens = 0; closes = 0 }) (text (filter (λ t. eqb t.kind Punct) l.tokens))

pub record Blocks : Type 0 where
  pub ends : List (Option ℕ)
  pub enclosing : List (List ℕ)

-- The blocks on the way through the lines, with the openers of those still open, innermost first.
pub record Open : Type 0 where
  pub stack : List ℕ
  pub ends : List (Option ℕ)
  pub enclosing : List (List ℕ)

-- Line i closes k blocks. A line that opens twice has the later close.
unfoldable pub close : ℕ → ℕ → Open → Option Open
close i zero o = Some o
close i (suc k) o = elim o.stack [
  | [] ↦ None
  | h ∷ hs ↦ close i k (record { stack = hs; ends = set o.ends h (Some i); enclosing = o.enclosing })
]

-- Line i opens k blocks; it lies itself in those that were open before.
abbrev pub enter : ℕ → ℕ → Open → Open
enter i k o = record { stack = replicate k i ++ o.stack; ends = o.ends; enclosing = o.enclosing ++ (o.stack ∷ []) }

unfoldable pub blocks_from : ℕ → List Line → Open → Option Open
blocks_from i [] o = Some o
blocks_from i (l ∷ ls) o = close i (braces l).closes o >>= λ closed. blocks_from (suc i) ls (enter i (braces l).opens closed)

unfoldable pub blocks : List Line → Option Blocks
blocks L = do
  o ← blocks_from 0 L (record { stack = []; ends = replicate (length L) None; enclosing = [] })
  _ ← require (o.stack ≟ [])
  Some (record { ends = o.ends; enclosing = o.enclosing })
