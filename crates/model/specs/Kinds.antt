-- The kinds of a token, by their numbers.
--   number k     the number of the kind k, in the definitions
--   kind_of n    the kind with the number n, none above 7
-- Assumes nothing.
use Rattle.std.specs.Prelude.{if◌then◌else◌, ℕ, eqb, Option, None, Some}
use Rattle.model.specs.declared.kind.Kind.{Kind}
use Rattle.model.specs.declared.kind.Kind.TheVariants.{Text, Register, Number, Keyword, Symbol, Address, Punct, Prefix}
use Rattle.definitions.specs.Model as kinds

abbrev pub number : Kind → ℕ
number Text = kinds.Text
number Register = kinds.Register
number Number = kinds.Number
number Keyword = kinds.Keyword
number Symbol = kinds.Symbol
number Address = kinds.Address
number Punct = kinds.Punct
number Prefix = kinds.Prefix

abbrev pub kind_of : ℕ → Option Kind
kind_of n =
    if eqb n kinds.Text then Some Text
    else if eqb n kinds.Register then Some Register
    else if eqb n kinds.Number then Some Number
    else if eqb n kinds.Keyword then Some Keyword
    else if eqb n kinds.Symbol then Some Symbol
    else if eqb n kinds.Address then Some Address
    else if eqb n kinds.Punct then Some Punct
    else if eqb n kinds.Prefix then Some Prefix
    else None
