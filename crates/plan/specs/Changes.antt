-- Changes of a plan's words.
--   kept_words k l      the lines of the words l as they are, the first being line k
--   is_out w            the line can move out by one
--   moved_out w         it moved out by one
--   as_while w          a kept guard made a while header
--   for_word v a z      the while header v made a for header, a being the initialiser and z the step
--   with_for ws w e k   the header at w made a for header, the body being closed at e and the initialiser at k
--   is_loop w           the header is over its guard, and its initialiser and step are lines as they are
--   is_plain w          so is the word's own piece
--   is_line w           the word is no header
--   is_goto w           it is no header, or one whose condition is 1 or a leading test
--   Ahead i ws          all words are such, and from place i on none is a header
-- Assumes nothing.
use Rattle.std.specs.Prelude.{ℕ, suc, ◌+◌, ◌-◌, ◌*◌, ◌/◌, ◌%◌, ◌≡◌, Bool, true, ◌&&◌, ◌||◌, List, [], ◌∷◌, eqb, leb, ltb, get_or, set, drop}
use Rattle.definitions.specs.Lists.{all, remove}
use Rattle.plan.specs.Plan.{indent_at, header_at, piece_at, test_at, initialiser_at, step_at, word}

unfoldable pub kept_words : ℕ → List ℕ → List ℕ
kept_words k [] = []
kept_words k (w ∷ ws) = (w % 256 + 8192 * k) ∷ kept_words (suc k) ws

abbrev pub is_out : ℕ → Bool
is_out w = ltb 0 (indent_at w)

abbrev pub moved_out : ℕ → ℕ
moved_out w = w - 1

abbrev pub as_while : ℕ → ℕ
as_while w = w + 256

unfoldable pub for_word : ℕ → ℕ → ℕ → ℕ
for_word v a z = word (indent_at v) (header_at v % 4 + 4) (piece_at v) (test_at v) (piece_at a) (piece_at z)

unfoldable pub with_for : List ℕ → ℕ → ℕ → ℕ → List ℕ
with_for ws w e k = remove k (set (remove (e - 1) ws) w (for_word (get_or ws w 0) (get_or ws k 0) (get_or ws (e - 1) 0)))

-- Words of `recover_loops`: every piece is a line as it is, and every header is over its guard.

abbrev pub is_loop : ℕ → Bool
is_loop w = eqb (header_at w / 2 % 2) 0 && (eqb (initialiser_at w % 4) 0 && eqb (step_at w % 4) 0)

abbrev pub is_plain : ℕ → Bool
is_plain w = eqb (piece_at w % 4) 0 && is_loop w

-- Words of `recover_goto_loops`: pieces of every form, and no header over a guard.

abbrev pub is_line : ℕ → Bool
is_line w = eqb (header_at w) 0

abbrev pub is_goto : ℕ → Bool
is_goto w = is_line w || leb 2 (header_at w % 4)

pub record Ahead (i : ℕ) (ws : List ℕ) : Type 0 where
  pub words : all is_goto ws ≡ true
  pub lines : all is_line (drop i ws) ≡ true
