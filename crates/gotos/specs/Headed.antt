-- The header of a goto loop as words.
--   head_word v k t         the label's word v made a while header, one deeper, of form k over the leading test of the piece t
--   headed_words b h ws     the label at h made a header, over the leading test behind it where b is true, which then goes
--   fewer b                 how many lines fewer that are
-- Assumes nothing.
use Rattle.std.specs.Prelude.{if◌then◌else◌, ℕ, ◌+◌, ◌*◌, Bool, List, get_or, set}
use Rattle.definitions.specs.Lists.{remove}
use Rattle.plan.specs.Plan.{indent_at, piece_at}

unfoldable pub head_word : ℕ → ℕ → ℕ → ℕ
head_word v k t = indent_at v + 1 + 256 * (k + 8 * (piece_at v + 4096 * t))

unfoldable pub headed_words : Bool → ℕ → List ℕ → List ℕ
headed_words b h ws =
    if b then remove (h + 1) (set ws h (head_word (get_or ws h 0) 3 (piece_at (get_or ws (h + 1) 0))))
    else set ws h (head_word (get_or ws h 0) 2 0)

abbrev pub fewer : Bool → ℕ
fewer b = if b then 1 else 0
