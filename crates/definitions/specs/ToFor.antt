-- `for` lines, to be read beside `to_for` of pseudo_types.rs.
--   to_for L w    the listing with the while header at w made a for header, where its conditions hold
--   pop s         a text without its last code point
-- Assumes nothing.
use Rattle.std.specs.Prelude.{if◌then◌else◌, ℕ, zero, suc, ◌+◌, ◌-◌, Bool, ◌&&◌, ◌||◌, not, List, [], ◌∷◌, ◌++◌, reverse, eqb, leb, ltb, drop, set, Option, None, Some}
use Rattle.definitions.specs.Lists.{◌>>=◌, require, is_some, or_else, any, position_from, first, part, remove, on_last, ◌≟◌, starts_with, ascii}
use Rattle.definitions.specs.Model.{Token, Line, tok, pseudo_line, line, text, Keyword, Punct}
use Rattle.definitions.specs.Family.{fam_of, names}
use Rattle.definitions.specs.Statements.{has_kw, is_label, call_at, assignment, merge}
use Rattle.definitions.specs.Condition.{condition}

-- A step: `++;`, `--;`, ` += ` or ` -= ` behind the register.
abbrev pub is_step : List ℕ → Bool
is_step s = (s ≟ ascii "++;") || (s ≟ ascii "--;") || starts_with (ascii " += ") s || starts_with (ascii " -= ") s

-- An initialiser of v at indent ind among the n lines before line k, its right side free of v; the lines between are assignments at that
-- indent that neither name v nor call.
unfoldable pub initialiser : List Line → ℕ → List ℕ → ℕ → ℕ → Option ℕ
initialiser L ind v zero k = None
initialiser L ind v (suc n) zero = None
initialiser L ind v (suc n) (suc k) =
    let earlier = initialiser L ind v n k in
    assignment (line L k) >>= λ a.
    require (eqb (line L k).indent ind) >>= λ _.
    if names v a.lhs then (if any (names v) a.expr then None else Some k)
    else if any (names v) (line L k).tokens || is_some (call_at (line L k)) then None
    else earlier

-- From the end: continuation bytes, and the byte before them, are a text's last code point.

unfoldable pub pop_reversed : List ℕ → List ℕ
pop_reversed [] = []
pop_reversed (b ∷ s) = let rest = pop_reversed s in if leb 128 b && ltb b 192 then rest else s

abbrev pub pop : List ℕ → List ℕ
pop s = reverse (pop_reversed (reverse s))

-- Initialiser and step lose the last code point of their last token, if it has one.
abbrev pub popped : List Token → List Token
popped ts = on_last (λ t. tok (pop t.text) t.kind) ts

abbrev pub for_head : List Token → List Token → List Token → List Token
for_head init c step =
    merge ((tok (ascii "for") Keyword ∷ tok (ascii " (") Punct ∷ popped init) ++ (tok (ascii "; ") Punct ∷ c)
    ++ (tok (ascii "; ") Punct ∷ popped step) ++ (tok (ascii ") {") Punct ∷ []))

-- Needs a header at w > 0, a body closed by a lone `}` at the header's indent, a last body line one deeper stepping a register whose family
-- the condition names, no continue, and an initialiser at the header's indent among the 4 lines before.
-- `ind + 1` stays within 255 here: a body line that is no label stands deeper than the header.
unfoldable pub for_loop : List Line → ℕ → Option (List Line)
for_loop L w = do
  let ind = (line L w).indent
  _ ← require (ltb 0 w)
  c ← condition (line L w) (ascii "while")
  end ← position_from (w + 1) (λ l. leb l.indent ind && not (is_label l)) L
  _ ← require (leb (w + 2) end && eqb (line L end).indent ind && (text (line L end).tokens ≟ ascii "}"))
  let step = line L (end - 1)
  t ← first step.tokens
  v ← fam_of t
  _ ← require (eqb step.indent (ind + 1) && is_step (text (drop 1 step.tokens)))
  _ ← require (any (names v.name) c && not (any (λ l. has_kw l (ascii "continue")) (part (w + 1) end L)))
  k ← initialiser L ind v.name 4 w
  let header = pseudo_line (line L w).address ind (for_head (line L k).tokens c step.tokens)
  Some (remove k (set (remove (end - 1) L) w header))

unfoldable pub to_for : List Line → ℕ → List Line
to_for L w = or_else (for_loop L w) L
