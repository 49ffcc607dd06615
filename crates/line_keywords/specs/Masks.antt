-- The keywords of a line as bits of one number.
--   class s        the bits of the keyword s: 2 for goto, 4 for else, 8 for a loop, 16 for switch, 32 for break and continue, 64 for case and default;
--                  1 too for do, 128 too for continue
--   key t          the bits of the token t, 0 where it is no keyword or another one
--   mask l         the bits of the tokens of line l
--   Masks L ms     ms has the mask of each line of L, and 0 behind them
-- Assumes nothing.
use Rattle.std.specs.Prelude.{if◌then◌else◌, ℕ, ◌≡◌, List, eqb, get_or}
use Rattle.std.specs.Int.Bits.{bit_or}
use Rattle.definitions.specs.Lists.{fold, ◌≟◌, ascii}
use Rattle.definitions.specs.Model.{Token, Line, line, Keyword}

unfoldable pub class : List ℕ → ℕ
class s =
    if s ≟ ascii "goto" then 2
    else if s ≟ ascii "else" then 4
    else if s ≟ ascii "while" then 8
    else if s ≟ ascii "for" then 8
    else if s ≟ ascii "do" then 9
    else if s ≟ ascii "default" then 64
    else if s ≟ ascii "switch" then 16
    else if s ≟ ascii "break" then 32
    else if s ≟ ascii "continue" then 160
    else if s ≟ ascii "case" then 64
    else 0

abbrev pub key : Token → ℕ
key t = if eqb t.kind Keyword then class t.text else 0

abbrev pub with_key : ℕ → Token → ℕ
with_key m t = bit_or m (key t)

unfoldable pub mask : Line → ℕ
mask l = fold with_key 0 l.tokens

pub record Masks (L : List Line) (ms : List ℕ) : Type 0 where
  pub at : (i : ℕ) → get_or ms i 0 ≡ mask (line L i)
