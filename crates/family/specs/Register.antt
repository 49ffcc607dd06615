-- What an answer of the code says of a text, as the definitions' families.
--   digit_count s        how many digits s starts with
--   number_end s         how many bytes `r` and digits at the start of s are, 0 without an `r`
--   family_of s r        the family and the width that the answer r gives the text s
--   rest_family s        the family of a text that is none of the names
--   row r                where the name of r's family stands: its row of the table; 8, in the text; 9, nowhere
--   own_name s r         the part of the text s that is its family's name, where it stands there
--   same_name o p        both are families, of one name
--   names_family o t     o is a family, and the token t names it
--   named p o            o is a family, and p holds of its name
--   is_var_family o, is_wide o    o is a `var_`; a family, of width 32 or more
-- Assumes nothing.
use Rattle.std.specs.Prelude.{if◌then◌else◌, ℕ, ◌+◌, Bool, false, List, [], leb, ltb, length, drop, Option, None, Some}
use Rattle.definitions.specs.Lists.{part, ◌≟◌, starts_with, ascii}
use Rattle.definitions.specs.Model.{Token}
use Rattle.definitions.specs.Family.{Family, digits, is_numbered, numbered_family, names}
use Rattle.definitions.specs.Statements.{is_var}
use Rattle.legacy.specs.Table.{row_name}
use Rattle.family.specs.declared.Register.{Register}
use Rattle.family.specs.declared.Register.TheVariants.{Legacy, Numbered, Var}

unfoldable pub digit_count : List ℕ → ℕ
digit_count s = length (digits s)

abbrev pub number_end : List ℕ → ℕ
number_end s = if starts_with (ascii "r") s then 1 + digit_count (drop 1 s) else 0

abbrev pub family_of : List ℕ → Option Register → Option Family
family_of s (Some (Legacy i w)) = if ltb i 8 then Some (record { name = row_name i; width = w }) else None
family_of s (Some (Numbered n w)) = Some (record { name = part 0 n s; width = w })
family_of s (Some Var) = Some (record { name = s; width = 64 })
family_of s None = None

abbrev pub rest_family : List ℕ → Option Family
rest_family s =
    if is_numbered s then numbered_family s
    else if starts_with (ascii "var_") s then Some (record { name = s; width = 64 })
    else None

abbrev pub row : Option Register → ℕ
row (Some (Legacy i w)) = if ltb i 8 then i else 9
row (Some (Numbered n w)) = 8
row (Some Var) = 8
row None = 9

abbrev pub own_name : List ℕ → Option Register → List ℕ
own_name s (Some (Legacy i w)) = []
own_name s (Some (Numbered n w)) = part 0 n s
own_name s (Some Var) = s
own_name s None = []

abbrev pub same_name : Option Family → Option Family → Bool
same_name None p = false
same_name (Some f) None = false
same_name (Some f) (Some g) = f.name ≟ g.name

abbrev pub names_family : Option Family → Token → Bool
names_family None t = false
names_family (Some f) t = names f.name t

abbrev pub named : (List ℕ → Bool) → Option Family → Bool
named p None = false
named p (Some f) = p f.name

abbrev pub is_var_family : Option Family → Bool
is_var_family o = named is_var o

abbrev pub is_wide : Option Family → Bool
is_wide None = false
is_wide (Some f) = leb 32 f.width
