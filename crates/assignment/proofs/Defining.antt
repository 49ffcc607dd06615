-- Families that tokens name and lines define, as rules for `search`.
--   expr_names_at, expr_names_other       what is looked up of a part, said of the token of the right side that has that text; no register
--   side_found, side_next, side_end       the loop of `side_names`
--   defines_other, defines_none, defines_no, defines_reads, defines_is    the family that a line defines
-- Assumes nothing.
use Rattle.std.specs.Prelude.{Option, None, Some}
use Rattle.std.specs.Option.{option_map}
use mathlib.Core.Path.{◌≡◌, refl, sym, ◌∙◌}
use mathlib.Core.Bool.{Bool, true, false, ◌&&◌, ◌||◌, not, and-false}
use mathlib.Core.List.{List}
use Prim.Native.Nat.{ℕ, ◌+◌, ◌≤◌, ◌<◌}
use borrow.Author.Tests.{eqb-true}
use lib.Dec.{eqb, leb}
use lib.ListN.{length}
use Rattle.definitions.specs.Lists.{◌>>=◌, require, any}
use Rattle.definitions.specs.Model.{Token, Line, tok, token, Register}
use Rattle.definitions.specs.Family.{Family, fam_of, names}
use Rattle.definitions.specs.Statements.{assignment, is_var, defines}
use Rattle.family.specs.Register.{family_of, names_family}
use Rattle.family.specs.declared.Register.{Register as Reg}
use Rattle.assignment.specs.Assignments.{expr_token, side, assigns, assigned}
use Rattle.assignment.specs.Definitions.{may_define}
use Rattle.assignment.specs.declared.Side.{Side}
use Rattle.assignment.proofs.Sides.{side_none, side_first, assignment_none}

-- a token of another kind than a register has no family
no_family : (u : Token) → eqb u.kind Register ≡ false → fam_of u ≡ None
unfolding fam_of
no_family u h = rw h

expr_kind : (l : Line) (k : ℕ) → (token l k).kind ≡ (expr_token l k).kind
unfolding expr_token
expr_kind l k = refl

-- `b`: the token is a register
module _ (l : Line) (k : ℕ) (o : Option Family) (b : Bool) (d : b ≡ eqb (token l k).kind Register) where
  pub expr_names_at : (n : ℕ) (s : List ℕ) (y : Bool) → b ≡ true → n ≡ Register → s ≡ (expr_token l k).text
      → y ≡ names_family o (tok s n) → y ≡ names_family o (expr_token l k)
  unfolding expr_token
  expr_names_at n s y h m q e = let z : n ≡ (token l k).kind = m ∙ sym (eqb-true (token l k).kind Register (sym d ∙ h)) in rw (q, z) at e

  pub expr_names_other : b ≡ false → b ≡ names_family o (expr_token l k)
  unfolding names
  expr_names_other h = h ∙ go o
    where
      none : fam_of (expr_token l k) ≡ None
      none = no_family (expr_token l k) (rw (← expr_kind l k) (sym d ∙ h))

      go : (o : Option Family) → false ≡ names_family o (expr_token l k)
      go None = refl
      go (Some f) = rw (none, names)

-- The right side

module _ (p : Token → Bool) (l : Line) (a e k : ℕ) (inv : any p (side l a e) ≡ any p (side l k e)) where
  side_step : k < e → any p (side l a e) ≡ (p (expr_token l k) || any p (side l (k + 1) e))
  unfolding any
  side_step h = inv ∙ rw (side_first l k e h)

  module _ (b : Bool) (h : k < e) (q : b ≡ p (expr_token l k)) where
    pub side_found : b ≡ true → true ≡ any p (side l a e)
    side_found f = sym (side_step h ∙ rw (← q, f))

    pub side_next : b ≡ false → any p (side l a e) ≡ any p (side l (k + 1) e)
    side_next f = side_step h ∙ rw (← q, f)

  pub side_end : e ≤ k → false ≡ any p (side l a e)
  unfolding any
  side_end h = sym (inv ∙ rw (side_none l k e h))

-- The definition

-- what is asked of the family of an assigned register
test : Family → List Token → Option (List ℕ)
test f ts = require (leb 32 f.width && not (is_var f.name) && not (any (names f.name) ts)) >>= λ _. Some f.name

pub defines_other : (l : Line) (b : Bool) → b ≡ eqb (token l 0).kind Register → b ≡ false → None ≡ defines l
unfolding defines assigns
defines_other l b d h = rw (← assignment_none l (rw (← d, h) (and-false (leb 2 (length l.tokens)))))

module _ (l : Line) (a : Option Side) (e : assigned l a ≡ assignment l) where
  pub defines_none : a ≡ None → None ≡ defines l
  unfolding defines
  defines_none q = rw (← e, q)

  module _ (u : Side) (q : a ≡ Some u) (r : Option Reg) (d : family_of (token l 0).text r ≡ fam_of (token l 0)) where
    defines_step : defines l ≡ (family_of (token l 0).text r >>= λ f. test f (side l u.from u.to))
    unfolding defines test
    defines_step = rw (← e, q, d)

    module _ (s : List ℕ) (us : s ≡ (token l 0).text) (b : Bool) (p : b ≡ may_define (family_of s r)) where
      may : b ≡ may_define (family_of (token l 0).text r)
      may = p ∙ rw us

      pub defines_no : b ≡ false → None ≡ defines l
      unfolding test
      defines_no g = sym (defines_step ∙ go (family_of (token l 0).text r) (sym may ∙ g))
        where
          go : (o : Option Family) → may_define o ≡ false → (o >>= λ f. test f (side l u.from u.to)) ≡ None
          go None h = refl
          go (Some f) h = rw h

      module _ (g : b ≡ true) (c : Bool) (v : c ≡ any (names_family (family_of s r)) (side l u.from u.to)) where
        reads : c ≡ any (names_family (family_of (token l 0).text r)) (side l u.from u.to)
        reads = v ∙ rw us

        pub defines_reads : c ≡ true → None ≡ defines l
        unfolding test
        defines_reads h = sym (defines_step ∙ go (family_of (token l 0).text r) (sym may ∙ g) (sym reads ∙ h))
          where
            go : (o : Option Family) → may_define o ≡ true → any (names_family o) (side l u.from u.to) ≡ true → (o >>= λ f. test f (side l u.from u.to)) ≡ None
            go None m n = refl
            go (Some f) m n = rw (m, n)

        pub defines_is : c ≡ false → option_map (λ f. f.name) (family_of (token l 0).text r) ≡ defines l
        unfolding test
        defines_is h = sym (defines_step ∙ go (family_of (token l 0).text r) (sym may ∙ g) (sym reads ∙ h))
          where
            go : (o : Option Family) → may_define o ≡ true → any (names_family o) (side l u.from u.to) ≡ false
                → (o >>= λ f. test f (side l u.from u.to)) ≡ option_map (λ f. f.name) o
            go None m n = refl
            go (Some f) m n = rw (m, n)

pub ruleset defining = (expr_names_at, expr_names_other, defines_other, side_found, side_next, side_end, defines_none, defines_no, defines_reads, defines_is)
