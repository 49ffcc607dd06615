-- UTF-8 as RFC 3629, section 4, has it: no overlong form, no surrogate, nothing above U+10FFFF, nothing cut short.
--   is_utf8 s    the bytes s are UTF-8
-- Assumes nothing.
use Rattle.std.specs.Prelude.{if◌then◌else◌, ℕ, Bool, true, false, ◌&&◌, List, [], ◌∷◌, eqb, leb, Option, None, Some}

pub record Range : Type 0 where
  pub low : ℕ
  pub high : ℕ

abbrev pub within : ℕ → ℕ → ℕ → Bool
within low high b = leb low b && leb b high

abbrev pub to : ℕ → ℕ → Range
to low high = record { low = low; high = high }

abbrev pub tail : Range
tail = to 0x80 0xbf

-- the ranges of the bytes that follow the leading byte a; none where a leads nothing
unfoldable pub following : ℕ → Option (List Range)
following a =
    if leb a 0x7f then Some []
    else if within 0xc2 0xdf a then Some (tail ∷ [])
    else if eqb a 0xe0 then Some (to 0xa0 0xbf ∷ tail ∷ [])
    else if within 0xe1 0xec a then Some (tail ∷ tail ∷ [])
    else if eqb a 0xed then Some (to 0x80 0x9f ∷ tail ∷ [])
    else if within 0xee 0xef a then Some (tail ∷ tail ∷ [])
    else if eqb a 0xf0 then Some (to 0x90 0xbf ∷ tail ∷ tail ∷ [])
    else if within 0xf1 0xf3 a then Some (tail ∷ tail ∷ tail ∷ [])
    else if eqb a 0xf4 then Some (to 0x80 0x8f ∷ tail ∷ tail ∷ [])
    else None

-- the bytes go on with one byte of each range, and are UTF-8 behind those
unfoldable pub utf8_after : List Range → List ℕ → Bool
utf8_after [] [] = true
utf8_after (r ∷ rs) [] = false
utf8_after (r ∷ rs) (b ∷ s) = within r.low r.high b && utf8_after rs s
utf8_after [] (b ∷ s) = elim (following b) [ None ↦ false | Some rs ↦ utf8_after rs s ]

abbrev pub is_utf8 : List ℕ → Bool
is_utf8 s = utf8_after [] s
