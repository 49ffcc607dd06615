-- Registers, to be read beside `family` and `fam_of` of pseudo_opt.rs.
--   family s      the family and the width in bits of the register named s
--   fam_of t      the same of a register token
--   names f t     the token t names the family f
-- Assumes nothing.
use Rattle.std.specs.Prelude.{if◌then◌else◌, ℕ, ◌+◌, Bool, false, ◌&&◌, ◌||◌, not, List, [], ◌∷◌, ◌++◌, eqb, leb, length, take, drop, get_or, Option, None, Some}
use Rattle.definitions.specs.Lists.{◌>>=◌, position, take_while, ◌≟◌, starts_with, ascii}
use Rattle.definitions.specs.Model.{Token, Register}

pub record Family : Type 0 where
  pub name : List ℕ
  pub width : ℕ

-- Eight families with four names each, of 64, 32, 16 and 8 bits: a row gives the family, a column the width.
unfoldable pub legacy : List (List (List ℕ))
legacy =
    (ascii "rax" ∷ ascii "eax" ∷ ascii "ax" ∷ ascii "al" ∷ [])
    ∷ (ascii "rbx" ∷ ascii "ebx" ∷ ascii "bx" ∷ ascii "bl" ∷ [])
    ∷ (ascii "rcx" ∷ ascii "ecx" ∷ ascii "cx" ∷ ascii "cl" ∷ [])
    ∷ (ascii "rdx" ∷ ascii "edx" ∷ ascii "dx" ∷ ascii "dl" ∷ [])
    ∷ (ascii "rsi" ∷ ascii "esi" ∷ ascii "si" ∷ ascii "sil" ∷ [])
    ∷ (ascii "rdi" ∷ ascii "edi" ∷ ascii "di" ∷ ascii "dil" ∷ [])
    ∷ (ascii "rbp" ∷ ascii "ebp" ∷ ascii "bp" ∷ ascii "bpl" ∷ [])
    ∷ (ascii "rsp" ∷ ascii "esp" ∷ ascii "sp" ∷ ascii "spl" ∷ [])
    ∷ []

abbrev pub widths : List ℕ
widths = 64 ∷ 32 ∷ 16 ∷ 8 ∷ []

unfoldable pub legacy_family : List (List (List ℕ)) → List ℕ → Option Family
legacy_family [] s = None
legacy_family (row ∷ rows) s =
    let later = legacy_family rows s in
    elim (position (s ≟◌) row) [
      | None ↦ later
      | Some column ↦ Some (record { name = get_or row 0 []; width = get_or widths column 0 })
    ]

-- ah bh ch dh are 8 bits of their r?x.
abbrev pub is_high : List ℕ → Bool
is_high s = (s ≟ ascii "ah") || (s ≟ ascii "bh") || (s ≟ ascii "ch") || (s ≟ ascii "dh")

-- `r` and one or more digits is 64; with d 32, w 16, b or l 8; another ending is no family.

abbrev pub digits : List ℕ → List ℕ
digits s = take_while (λ c. leb 48 c && leb c 57) s

unfoldable pub suffix_width : List ℕ → Option ℕ
suffix_width s =
    if s ≟ [] then Some 64
    else if s ≟ ascii "d" then Some 32
    else if s ≟ ascii "w" then Some 16
    else if (s ≟ ascii "b") || (s ≟ ascii "l") then Some 8
    else None

abbrev pub is_numbered : List ℕ → Bool
is_numbered s = starts_with (ascii "r") s && not (digits (drop 1 s) ≟ [])

abbrev pub numbered_family : List ℕ → Option Family
numbered_family s = do
  let number = digits (drop 1 s)
  width ← suffix_width (drop (1 + length number) s)
  Some (record { name = ascii "r" ++ number; width = width })

-- A name starting `var_` is its own family, 64. Nothing else has one.
unfoldable pub other_family : List ℕ → Option Family
other_family s =
    if is_high s then Some (record { name = ascii "r" ++ (take 1 s ++ ascii "x"); width = 8 })
    else if is_numbered s then numbered_family s
    else if starts_with (ascii "var_") s then Some (record { name = s; width = 64 })
    else None

unfoldable pub family : List ℕ → Option Family
family s = elim (legacy_family legacy s) [ Some f ↦ Some f | None ↦ other_family s ]

unfoldable pub fam_of : Token → Option Family
fam_of t = if eqb t.kind Register then family t.text else None

unfoldable pub names : List ℕ → Token → Bool
names f t = elim (fam_of t) [ None ↦ false | Some x ↦ x.name ≟ f ]
