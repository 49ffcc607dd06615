-- One code point of UTF-8, by the leading bytes' ranges in Rattle.definitions.specs.Utf8.
--   low a, high a         the range of the byte that follows the leading byte a, where one follows
--   starts_within rs s    the bytes s start with one byte of each range
--   code_point s          how many bytes long the code point is that s starts with, 0 where s starts with none
-- Assumes nothing.
use Rattle.std.specs.Prelude.{if◌then◌else◌, ℕ, suc, Bool, true, false, ◌&&◌, List, [], ◌∷◌, eqb, length, None, Some}
use Rattle.definitions.specs.Utf8.{Range, within, following}

abbrev pub low : ℕ → ℕ
low a = if eqb a 0xe0 then 0xa0 else if eqb a 0xf0 then 0x90 else 0x80

abbrev pub high : ℕ → ℕ
high a = if eqb a 0xed then 0x9f else if eqb a 0xf4 then 0x8f else 0xbf

unfoldable pub starts_within : List Range → List ℕ → Bool
starts_within [] s = true
starts_within (r ∷ rs) [] = false
starts_within (r ∷ rs) (b ∷ s) = within r.low r.high b && starts_within rs s

unfoldable pub code_point : List ℕ → ℕ
code_point [] = 0
code_point (a ∷ s) = elim (following a) [ None ↦ 0 | Some rs ↦ (if starts_within rs s then suc (length rs) else 0) ]
