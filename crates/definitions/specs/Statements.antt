-- What a line says, to be read beside pseudo_opt.rs.
--   is_kw w t          t is the keyword w
--   has_kw l w         line l has the keyword w
--   is_label l         line l is a label; label l is its name
--   call_at l          the place of the callee where line l calls
--   assignment l       the register and the right side of `reg = expr;`
--   merge ts           adjacent punctuation, and adjacent text, made one token
--   goto_target l      the name that the first goto of line l leads to
--   goto_targets l     the same of each goto
--   defines l          the family that line l defines
-- Assumes nothing.
use Rattle.std.specs.Option.{option_map}
use Rattle.std.specs.Prelude.{if◌then◌else◌, ℕ, ◌+◌, ◌-◌, Bool, ◌&&◌, ◌||◌, not, List, [], ◌∷◌, ◌++◌, eqb, leb, length, take, drop, Option, None, Some}
use Rattle.definitions.specs.Lists.{◌>>=◌, require, any, position, find, last, ◌≟◌, starts_with, ends_with, ascii}
use Rattle.definitions.specs.Model.{Token, Line, tok, token, Text, Register, Keyword, Symbol, Punct}
use Rattle.definitions.specs.Family.{fam_of, names}

abbrev pub is_kw : List ℕ → Token → Bool
is_kw w t = eqb t.kind Keyword && (t.text ≟ w)

unfoldable pub has_kw : Line → List ℕ → Bool
has_kw l w = any (is_kw w) l.tokens

-- Label: two tokens, a symbol and text `:`.

unfoldable pub is_label : Line → Bool
is_label l = eqb (length l.tokens) 2 && ((token l 1).text ≟ ascii ":") && eqb (token l 0).kind Symbol

abbrev pub label : Line → List ℕ
label l = (token l 0).text

-- A call: a symbol before a punct that starts with `(`, or a keyword that starts with `((void` and is not the last token.

abbrev pub is_callee : Token → Token → Bool
is_callee t u =
    (eqb t.kind Symbol && eqb u.kind Punct && starts_with (ascii "(") u.text)
    || (eqb t.kind Keyword && starts_with (ascii "((void") t.text)

unfoldable pub callee : List Token → Option ℕ
callee [] = None
callee (t ∷ []) = None
callee (t ∷ (u ∷ ts)) = let later = option_map (1 +◌) (callee (u ∷ ts)) in if is_callee t u then Some 0 else later

abbrev pub call_at : Line → Option ℕ
call_at l = callee l.tokens

-- Assignment: register, punct starting ` = `, and a nonempty right side whose last token ends `;`, which is cut off.

pub record Assignment : Type 0 where
  pub lhs : Token
  pub expr : List Token

abbrev pub is_empty : Token → Bool
is_empty t = t.text ≟ []

-- the token in a list, or the empty list where its text is empty
abbrev pub unless_empty : Token → List Token
unless_empty t = if is_empty t then [] else t ∷ []

unfoldable pub without_semicolon : List Token → Option (List Token)
without_semicolon ts = do
  end ← last ts
  _ ← require (ends_with (ascii ";") end.text)
  Some (take (length ts - 1) ts ++ unless_empty (tok (take (length end.text - 1) end.text) end.kind))

unfoldable pub assignment : Line → Option Assignment
assignment l = do
  let lhs = token l 0
  let eq = token l 1
  _ ← require (leb 2 (length l.tokens))
  _ ← require (eqb lhs.kind Register && eqb eq.kind Punct && starts_with (ascii " = ") eq.text)
  expr ← without_semicolon (unless_empty (tok (drop 3 eq.text) Punct) ++ drop 2 l.tokens)
  _ ← require (leb 1 (length expr))
  Some (record { lhs = lhs; expr = expr })

-- Merging

abbrev pub joins : Token → Token → Bool
joins t u = eqb t.kind u.kind && (eqb u.kind Punct || eqb u.kind Text)

unfoldable pub glue : Token → List Token → List Token
glue t [] = t ∷ []
glue t (u ∷ us) = if joins t u then tok (t.text ++ u.text) t.kind ∷ us else t ∷ (u ∷ us)

unfoldable pub merge : List Token → List Token
merge [] = []
merge (t ∷ ts) = glue t (merge ts)

-- Goto target: the first symbol after the first keyword `goto`.

unfoldable pub first_symbol : List Token → Option (List ℕ)
first_symbol ts = do
  t ← find (λ t. eqb t.kind Symbol) ts
  Some t.text

unfoldable pub goto_target : Line → Option (List ℕ)
goto_target l = do
  g ← position (is_kw (ascii "goto")) l.tokens
  first_symbol (drop (g + 1) l.tokens)

-- Of every goto: the first symbol after it.
unfoldable pub targets : List Token → List (Option (List ℕ))
targets [] = []
targets (t ∷ ts) = let later = targets ts in if is_kw (ascii "goto") t then first_symbol ts ∷ later else later

abbrev pub goto_targets : Line → List (Option (List ℕ))
goto_targets l = targets l.tokens

-- An assignment of width 32 or more whose right side lacks the family defines it (not `var_`).

abbrev pub is_var : List ℕ → Bool
is_var f = starts_with (ascii "var_") f

unfoldable pub defines : Line → Option (List ℕ)
defines l = do
  a ← assignment l
  f ← fam_of a.lhs
  _ ← require (leb 32 f.width && not (is_var f.name) && not (any (names f.name) a.expr))
  Some f.name
