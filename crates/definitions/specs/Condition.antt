-- Conditions, to be read beside `condition` and `negate_cond` of pseudo_types.rs.
--   condition l kw    the tokens between the brackets after the keyword kw of line l
--   negate_cond c     the condition that holds where c does not
-- Assumes nothing.
use Rattle.std.specs.Prelude.{if◌then◌else◌, ℕ, zero, suc, ◌+◌, ◌-◌, Bool, ◌&&◌, ◌||◌, not, List, [], ◌∷◌, ◌++◌, eqb, length, take, drop, Option, None, Some, slice_get}
use Prim.Native.String.{String}
use Rattle.definitions.specs.Lists.{◌>>=◌, require, position, find, filter, count, last, on_first, on_last, on_part, starts_with, ends_with, ascii}
use Rattle.definitions.specs.Model.{Token, Line, tok, Keyword, Punct}
use Rattle.definitions.specs.Statements.{is_kw, is_empty, merge}

-- Condition after a keyword: the next token starts with a blank and `(`, the line's last token ends with the three bytes `) {` or the
-- two bytes `);`; both ends are cut off, empty tokens dropped.

abbrev pub cut_front : ℕ → Token → Token
cut_front n t = tok (drop n t.text) t.kind

abbrev pub cut_end : ℕ → Token → Token
cut_end n t = tok (take (length t.text - n) t.text) t.kind

-- the tokens without n bytes at the front and m at the end, empty ones dropped
abbrev pub cut : ℕ → ℕ → List Token → List Token
cut n m ts = filter (λ t. not (is_empty t)) (on_last (cut_end m) (on_first (cut_front n) ts))

unfoldable pub closing : List ℕ → Option ℕ
closing s = if ends_with (ascii ") {") s then Some 3 else if ends_with (ascii ");") s then Some 2 else None

unfoldable pub condition : Line → List ℕ → Option (List Token)
condition l kw = do
  k ← position (is_kw kw) l.tokens
  opening ← slice_get l.tokens (k + 1)
  end ← last l.tokens
  _ ← require (starts_with (ascii " (") opening.text)
  n ← closing end.text
  Some (cut 2 n (drop (k + 1) l.tokens))

-- Negation: over punct tokens at bracket depth 0 exactly one comparison and no ` && ` or ` || ` flips it; otherwise `!(..)`.

pub record Comparison : Type 0 where
  pub op : List ℕ
  pub flipped : List ℕ

abbrev pub comparison : String → String → Comparison
comparison o f = record { op = ascii o; flipped = ascii f }

unfoldable pub comparisons : List Comparison
comparisons =
    comparison " == " " != " ∷ comparison " != " " == " ∷ comparison " <= " " > "
    ∷ comparison " >= " " < " ∷ comparison " < " " >= " ∷ comparison " > " " <= " ∷ []

-- A comparison: in which token, at which byte of it, and which.
pub record Found : Type 0 where
  pub place : ℕ
  pub pos : ℕ
  pub comparison : Comparison

-- What the scan has seen: brackets, as their difference is the depth and may go below 0; comparisons at depth 0, ` && ` and ` || `
-- counting two; the last comparison.
pub record Seen : Type 0 where
  pub opened : ℕ
  pub closed : ℕ
  pub count : ℕ
  pub found : Option Found

abbrev pub nothing_seen : Seen
nothing_seen = record { opened = 0; closed = 0; count = 0; found = None }

abbrev pub at_depth_0 : Seen → Bool
at_depth_0 r = eqb r.opened r.closed

abbrev pub add_brackets : ℕ → ℕ → Seen → Seen
add_brackets o c r = record { opened = r.opened + o; closed = r.closed + c; count = r.count; found = r.found }

abbrev pub add_count : ℕ → Seen → Seen
add_count n r = record { opened = r.opened; closed = r.closed; count = r.count + n; found = r.found }

abbrev pub add_found : Found → Seen → Seen
add_found f r = record { opened = r.opened; closed = r.closed; count = r.count + 1; found = Some f }

-- ` && ` and ` || ` count two
unfoldable pub see_logical : List ℕ → Seen → Seen
see_logical s r = if at_depth_0 r && (starts_with (ascii " && ") s || starts_with (ascii " || ") s) then add_count 2 r else r

abbrev pub comparison_at : List ℕ → Seen → Option Comparison
comparison_at s r = if at_depth_0 r then find (λ c. starts_with c.op s) comparisons else None

unfoldable pub see_bracket : ℕ → Seen → Seen
see_bracket c r = if eqb c 40 then add_brackets 1 0 r else if eqb c 41 then add_brackets 0 1 r else r

-- The text s from byte pos on of the punct token at a place; the first bytes of it, skip in number, belong to a comparison that was found.
unfoldable pub scan_text : ℕ → ℕ → ℕ → List ℕ → Seen → Seen
scan_text place pos skip [] r = r
scan_text place pos (suc skip) (c ∷ s) r = scan_text place (suc pos) skip s r
scan_text place pos zero (c ∷ s) r = elim (comparison_at (c ∷ s) r) [
  | Some o ↦ scan_text place (suc pos) (length o.op - 1) s
      (add_found (record { place = place; pos = pos; comparison = o }) (see_logical (c ∷ s) r))
  | None ↦ scan_text place (suc pos) zero s (see_bracket c (see_logical (c ∷ s) r))
]

-- Punct tokens are scanned, keyword brackets count, other tokens are passed over.
unfoldable pub scan_token : ℕ → Token → Seen → Seen
scan_token place t r =
    if eqb t.kind Punct then scan_text place 0 0 t.text r
    else if eqb t.kind Keyword then add_brackets (count (eqb 40) t.text) (count (eqb 41) t.text) r
    else r

unfoldable pub scan : ℕ → List Token → Seen → Seen
scan place [] r = r
scan place (t ∷ ts) r = scan (suc place) ts (scan_token place t r)

abbrev pub flip : Found → Token → Token
flip f t = tok (take f.pos t.text ++ (f.comparison.flipped ++ drop (f.pos + length f.comparison.op) t.text)) t.kind

unfoldable pub only_comparison : Seen → Option Found
only_comparison r = if eqb r.count 1 then r.found else None

unfoldable pub negate_cond : List Token → List Token
negate_cond c = elim (only_comparison (scan 0 c nothing_seen)) [
  | Some f ↦ on_part f.place (f.place + 1) (flip f) c
  | None ↦ merge (tok (ascii "!(") Punct ∷ (c ++ (tok (ascii ")") Punct ∷ [])))
]
