-- Marks of lines: which can hold a goto, or give one where a code point or a bracket is cut off. C is the listing of the columns l, t and x.
--   has_g t            t is a keyword with the letter g
--   clean t            it is none
--   before ts          the tokens before the first goto
--   Mark l m           m is the mark of line l: 0 where its tokens are clean; 2 where nothing is known; else those before its first goto are clean,
--                      and beyond 2 the symbol that it leads to stands at place m - 3
--   place_mark j       the mark of a line whose goto leads to the symbol at place j
--   Marked l t x ms    ms has the mark of each line of C
--   quiet ms p         by its mark, the tokens of the piece p are clean
--   quiet_over ms k t  so are those of the piece t, or a header of kind k has no test
--   own_mark l ms w    the mark of the line that w keeps as it is, else 0
--   silent ms w        so are those of all pieces that the line of w is made of
-- Assumes nothing.
use Rattle.std.specs.Prelude.{if◌then◌else◌, ℕ, ◌+◌, ◌-◌, ◌/◌, ◌%◌, ◌<◌, ◌≡◌, Bool, true, false, ◌&&◌, not, List, eqb, ltb, length, get_or, Some}
use Rattle.definitions.specs.Lists.{all, take_while, contains, ascii}
use Rattle.definitions.specs.Model.{Token, Line, token, line, Keyword}
use Rattle.definitions.specs.Columns.{listing}
use Rattle.definitions.specs.Statements.{is_kw, goto_target}
use Rattle.plan.specs.Plan.{header_at, piece_at, test_at, initialiser_at, step_at}

-- 103 is the letter g.
abbrev pub has_g : Token → Bool
has_g t = eqb t.kind Keyword && contains 103 t.text

abbrev pub clean : Token → Bool
clean t = not (has_g t)

-- the tokens before the first goto
abbrev pub before : List Token → List Token
before ts = take_while (λ t. not (is_kw (ascii "goto") t)) ts

pub record Mark (l : Line) (m : ℕ) : Type 0 where
  pub none : m ≡ 0 → all clean l.tokens ≡ true
  pub cut : (m ≡ 2 → ⊥) → all clean (before l.tokens) ≡ true
  pub target : 2 < m → goto_target l ≡ Some (token l (m - 3)).text

abbrev pub place_mark : ℕ → ℕ
place_mark j = if ltb j 65533 then j + 3 else 2

pub record Marked (l t x ms : List ℕ) : Type 0 where
  pub size : length ms ≡ 1024
  pub marks : (i : ℕ) → i < length l → Mark (line (listing l t x) i) (get_or ms i 0)

unfoldable pub quiet : List ℕ → ℕ → Bool
quiet ms p =
    let m = get_or ms (p / 4) 0 in
    if eqb m 0 then true else if eqb (p % 4) 0 then false else not (eqb m 2)

unfoldable pub quiet_over : List ℕ → ℕ → ℕ → Bool
quiet_over ms k t = if eqb (k % 2) 1 then quiet ms t else true

unfoldable pub own_mark : List ℕ → List ℕ → ℕ → ℕ
own_mark l ms w =
    if eqb (header_at w) 0 && (eqb (piece_at w % 4) 0 && ltb (piece_at w / 4) (length l)) then get_or ms (piece_at w / 4) 0 else 0

unfoldable pub silent : List ℕ → ℕ → Bool
silent ms w =
    if eqb (header_at w) 0 then quiet ms (piece_at w)
    else if ltb (header_at w) 4 then quiet_over ms (header_at w) (test_at w)
    else quiet_over ms (header_at w) (test_at w) && (quiet ms (initialiser_at w) && quiet ms (step_at w))
