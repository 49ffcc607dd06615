-- What a line defines, reads and names.
--   defined_token l k                token k is the register that the line l defines
--   names_true, names_of             a token names a family exactly if it has it
--   defines_first, defines_names     the register that a line defines is its token 0
--   defines_at_line, line_defines    a line from 1 on defines f exactly if it is one of f's defining lines
--   any_at                           the token at a place passes, so some token does
--   token_read                       a token that is read makes its line a reading line
--   first_of_definition              on a line that defines f the first token of f is token 0
--   first_names                      the first token of f names f, where one does
-- Assumes nothing.
use Rattle.std.specs.Prelude.{Option, None, Some}
use Rattle.std.specs.Option.{option_map}
use Rattle.std.proofs.lemmas.Option.{none-some, same_Some}
use Prim.Native.Nat.{ℕ, zero, suc, ◌-◌, ◌<◌}
use mathlib.Core.Path.{◌≡◌, refl, sym, ap, ◌∙◌}
use mathlib.Core.Bool.{Bool, true, false, cond, ◌&&◌, ◌||◌, not, false≢true}
use mathlib.Core.List.{List, [], ◌∷◌, ◌++◌}
use native.Mathlib.Omega.{arith}
use lib.Dec.{eqb, leb}
use lib.ListN.{length, get_or, drop}
use Rattle.definitions.specs.Lists.{◌>>=◌, require, is_some, or_else, any, range, position, ◌≟◌, starts_with, ascii}
use Rattle.definitions.specs.Model.{Token, Line, Register, Punct, tok, token, line, no_token}
use Rattle.definitions.specs.Family.{Family, fam_of, names}
use Rattle.definitions.specs.Statements.{Assignment, assignment, without_semicolon, unless_empty, is_var, defines}
use Rattle.definitions.specs.Recover.{is_def_of, is_read_of, is_read_family}
use Rattle.definitions.specs.Runs.{first_on}
use Rattle.definitions.specs.Demand3.{defines_at, reads_at}
use Rattle.theory.proofs.Bools.{and_both, or_left, or_right, clash}
use Rattle.theory.proofs.ListLaws.{member_filter, range_member, ≟_true, ≟_self}
use Rattle.theory.proofs.Tokens.{token_at}
use Rattle.theory.proofs.FamilyWebs.{def_line_inside}

-- Tokens

-- token k is the register that the line l defines
abbrev pub defined_token : Line → ℕ → Bool
defined_token l k = eqb k 0 && is_some (defines l)

pub names_of : (t : Token) (x : Family) → fam_of t ≡ Some x → names x.name t ≡ true
unfolding names
names_of t x e = rw (e, names) (≟_self x.name)

pub names_true : (f : List ℕ) (t : Token) → names f t ≡ true → (x : Family) × (fam_of t ≡ Some x) × (x.name ≡ f)
unfolding names
names_true f t e = go (fam_of t) refl e
  where
    go : (o : Option Family) → fam_of t ≡ o → (elim o [ None ↦ false | Some x ↦ x.name ≟ f ]) ≡ true
        → (x : Family) × (fam_of t ≡ Some x) × (x.name ≡ f)
    go None q e = absurd (false≢true e)
    go (Some x) q e = (x, q, ≟_true x.name f e)

-- The defined register

assignment_lhs : (l : Line) (a : Assignment) → assignment l ≡ Some a → a.lhs ≡ token l 0
unfolding assignment
assignment_lhs l a e =
    go (leb 2 (length l.tokens))
    (eqb (token l 0).kind Register && eqb (token l 1).kind Punct && starts_with (ascii " = ") (token l 1).text)
    (without_semicolon (unless_empty (tok (drop 3 (token l 1).text) Punct) ++ drop 2 l.tokens)) e
  where
    built : List Token → Assignment
    built expr = record { lhs = token l 0; expr = expr }

    last : (b : Bool) (expr : List Token) → (require b >>= λ _. Some (built expr)) ≡ Some a → a.lhs ≡ token l 0
    last true expr e = ap (λ (a : Assignment). a.lhs) (sym (same_Some _ _ e))
    last false expr e = absurd (none-some _ e)

    go : (b c : Bool) (o : Option (List Token))
        → (require b >>= λ _. require c >>= λ _. o >>= λ expr. require (leb 1 (length expr)) >>= λ _. Some (built expr)) ≡ Some a
        → a.lhs ≡ token l 0
    go false c o e = absurd (none-some _ e)
    go true false o e = absurd (none-some _ e)
    go true true None e = absurd (none-some _ e)
    go true true (Some expr) e = last (leb 1 (length expr)) expr e

pub defines_first : (l : Line) (f : List ℕ) → defines l ≡ Some f → (x : Family) × (fam_of (token l 0) ≡ Some x) × (x.name ≡ f)
unfolding defines
defines_first l f e = go (assignment l) refl e
  where
    Defined : Type 0
    Defined = (x : Family) × (fam_of (token l 0) ≡ Some x) × (x.name ≡ f)

    fits : Assignment → Family → Bool
    fits a x = leb 32 x.width && not (is_var x.name) && not (any (names x.name) a.expr)

    last : (b : Bool) (x : Family) → fam_of (token l 0) ≡ Some x → (require b >>= λ _. Some x.name) ≡ Some f → Defined
    last true x q e = (x, q, same_Some _ _ e)
    last false x q e = absurd (none-some _ e)

    with_family : (a : Assignment) → a.lhs ≡ token l 0 → (o : Option Family) → fam_of a.lhs ≡ o
        → (o >>= λ x. require (fits a x) >>= λ _. Some x.name) ≡ Some f → Defined
    with_family a h None q e = absurd (none-some _ e)
    with_family a h (Some x) q e = last (fits a x) x (ap fam_of (sym h) ∙ q) e

    go : (o : Option Assignment) → assignment l ≡ o
        → (o >>= λ a. fam_of a.lhs >>= λ x. require (fits a x) >>= λ _. Some x.name) ≡ Some f → Defined
    go None q e = absurd (none-some _ e)
    go (Some a) q e = with_family a (assignment_lhs l a q) (fam_of a.lhs) refl e

pub defines_names : (l : Line) (f : List ℕ) → defines l ≡ Some f → names f (token l 0) ≡ true
defines_names l f e = let x = defines_first l f e in rw (← x.2) (names_of (token l 0) x.0 x.1)

-- Defining lines

pub defines_at_line : (L : List Line) (f : List ℕ) (i : ℕ) → 0 < i → i < length L → defines (line L i) ≡ Some f → defines_at L f i ≡ true
defines_at_line L f i p h e =
    member_filter (λ i. is_def_of f (line L i)) (range 1 (length L - 1)) i
    ∙ and_both (range_member i 1 (length L - 1) p (omega arith)) (rw (e, is_def_of) (≟_self f))

pub line_defines : (L : List Line) (f : List ℕ) (i : ℕ) → defines_at L f i ≡ true → defines (line L i) ≡ Some f
line_defines L f i e = go (defines (line L i)) refl (def_line_inside L f i e).2
  where
    go : (o : Option (List ℕ)) → defines (line L i) ≡ o → (elim o [ None ↦ false | Some g ↦ g ≟ f ]) ≡ true → defines (line L i) ≡ Some f
    go None q e = absurd (false≢true e)
    go (Some g) q e = rw (≟_true g f e) at q

-- Reading lines

pub any_at : (p : Token → Bool) (ts : List Token) (k : ℕ) → k < length ts → p (get_or ts k no_token) ≡ true → any p ts ≡ true
unfolding any
any_at p [] k h e = absurd (omega arith)
any_at p (t ∷ ts) zero h e = or_left (p t) (any p ts) e
any_at p (t ∷ ts) (suc k) h e = or_right (p t) (any p ts) (any_at p ts k (omega arith) e)

pub token_read : (L : List Line) (f : List ℕ) (i k : ℕ) → 0 < i → i < length L → k < length (line L i).tokens
    → is_read_family f ≡ true → names f (token_at L i k) ≡ true → defined_token (line L i) k ≡ false → reads_at L f i ≡ true
token_read L f i k p h g r n free =
    member_filter (λ i. is_read_of f (line L i)) (range 1 (length L - 1)) i
    ∙ and_both (range_member i 1 (length L - 1) p (omega arith))
    (and_both r (go (line L i).tokens k (is_some (defines (line L i))) g n free))
  where
    go : (ts : List Token) (k : ℕ) (b : Bool) → k < length ts → names f (get_or ts k no_token) ≡ true → (eqb k 0 && b) ≡ false
        → any (names f) (cond b (drop 1 ts) ts) ≡ true
    go ts k false g n free = any_at (names f) ts k g n
    go [] k true g n free = absurd (omega arith)
    go (t ∷ ts) zero true g n free = clash refl free
    go (t ∷ ts) (suc k) true g n free = any_at (names f) ts k (omega arith) n

-- The first token of a family

first_at : (p : Token → Bool) (ts : List Token) → p (get_or ts 0 no_token) ≡ true → or_else (position p ts) 0 ≡ 0
unfolding position
first_at p [] e = refl
first_at p (t ∷ ts) e = rw e

pub first_of_definition : (L : List Line) (f : List ℕ) (i : ℕ) → defines (line L i) ≡ Some f → first_on L i f ≡ 0
first_of_definition L f i e = first_at (names f) (line L i).tokens (defines_names (line L i) f e)

abbrev Found : (Token → Bool) → List Token → Type 0
Found p ts = (k : ℕ) × (position p ts ≡ Some k) × (p (get_or ts k no_token) ≡ true)

position_found : (p : Token → Bool) (ts : List Token) → any p ts ≡ true → Found p ts
unfolding any position
position_found p [] e = absurd (false≢true e)
position_found p (t ∷ ts) e = go (p t) refl e (position_found p ts)
  where
    go : (b : Bool) → p t ≡ b → (b || any p ts) ≡ true → (any p ts ≡ true → Found p ts)
        → (k : ℕ) × (cond b (Some 0) (option_map suc (position p ts)) ≡ Some k) × (p (get_or (t ∷ ts) k no_token) ≡ true)
    go true q e rest = (0, refl, q)
    go false q e rest = let r = rest e in (suc r.0, ap (option_map suc) r.1, r.2)

pub first_names : (L : List Line) (f : List ℕ) (i : ℕ) → any (names f) (line L i).tokens ≡ true
    → names f (token_at L i (first_on L i f)) ≡ true
first_names L f i e = let r = position_found (names f) (line L i).tokens e in rw r.1 r.2
