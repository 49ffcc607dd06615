-- The family that a line defines as the code has it.
--   may_define o    o is a family, of width 32 or more, and no `var_`
--   defined l d     the family's name, by the answer d for line l
-- Assumes nothing.
use Rattle.std.specs.Option.{option_map}
use Rattle.std.specs.Prelude.{ℕ, Bool, ◌&&◌, not, List, Option}
use Rattle.definitions.specs.Model.{Line, token}
use Rattle.definitions.specs.Family.{Family}
use Rattle.family.specs.declared.Register.{Register}
use Rattle.family.specs.Register.{family_of, is_wide, is_var_family}

abbrev pub may_define : Option Family → Bool
may_define o = is_wide o && not (is_var_family o)

abbrev pub defined : Line → Option Register → Option (List ℕ)
defined l r = option_map (λ f. f.name) (family_of (token l 0).text r)
