-- Label and goto loops, to be read beside `recover_goto_loops` of pseudo_types.rs.
--   recover_goto_loops L    the listing with `h: body; goto h;` made `while (..) { body }`, or `for`
-- Assumes nothing.
use Rattle.std.specs.Option.{option_map}
use Rattle.std.specs.Prelude.{if◌then◌else◌, ℕ, ◌+◌, Bool, false, ◌&&◌, ◌||◌, not, List, [], ◌∷◌, ◌++◌, eqb, ltb, take, drop, set, Option, None, Some, slice_get}
use Rattle.definitions.specs.Lists.{◌>>=◌, require, is_some, or_else, any, all, filter, take_while, position, last_position, first, last, part, remove, insert, on_first, on_part, ◌≟◌, starts_with, ends_with, ascii}
use Rattle.definitions.specs.Model.{Token, Line, tok, pseudo_line, token, line, text, Number, Keyword, Punct}
use Rattle.definitions.specs.Statements.{is_kw, is_label, label, merge, goto_target}
use Rattle.definitions.specs.Condition.{cut_front, cut, negate_cond}
use Rattle.definitions.specs.ToFor.{to_for}
use Rattle.definitions.specs.Passes.{Turn, go, beyond, Pass, pass, while_head}

-- line l has a goto, and its target passes p
unfoldable pub goes_to : (List ℕ → Bool) → Line → Bool
goes_to p l = elim (goto_target l) [ None ↦ false | Some t ↦ p t ]

-- The back edge: the last `goto h;` one deeper than the label, before the first line that is less indented than the label, or as much and
-- no label.

abbrev pub in_block : ℕ → Line → Bool
in_block ind l = ltb ind l.indent || (eqb l.indent ind && is_label l)

abbrev pub is_back : List ℕ → ℕ → Line → Bool
is_back head d l = eqb l.indent d && (text l.tokens ≟ (ascii "goto " ++ (head ++ ascii ";")))

abbrev pub back_edge : List Line → ℕ → Option ℕ
back_edge L h =
    let l = line L h in
    option_map ((h + 1) +◌) (last_position (is_back (label l) (l.indent + 1)) (take_while (in_block l.indent) (drop (h + 1) L)))

-- No goto outside h..b may target h or a label inside.
abbrev pub enters : List Line → ℕ → ℕ → Bool
enters L h b =
    any (goes_to (λ t. (t ≟ label (line L h)) || any (λ l. label l ≟ t) (filter is_label (part (h + 1) b L)))) (take h L ++ drop (b + 1) L)

-- Inside, goto h becomes continue, goto the label at b + 1 becomes break; everything from the goto on is dropped.

abbrev pub jump_line : List ℕ → Line → Line
jump_line kw l =
    pseudo_line l.address l.indent
    (take_while (λ t. not (is_kw (ascii "goto") t)) l.tokens ++ (tok kw Keyword ∷ tok (ascii ";") Punct ∷ []))

abbrev pub exit_label : List Line → ℕ → Option (List ℕ)
exit_label L b = do
  l ← slice_get L (b + 1)
  _ ← require (is_label l)
  Some (label l)

unfoldable pub jump : List ℕ → Option (List ℕ) → Line → Line
jump head exit l =
    if goes_to (λ t. t ≟ head) l then jump_line (ascii "continue") l
    else if goes_to (λ t. elim exit [ None ↦ false | Some e ↦ t ≟ e ]) l then jump_line (ascii "break") l
    else l

abbrev pub move_in : Line → Line
move_in l = pseudo_line l.address (l.indent + 1) l.tokens

abbrev pub closed_at : Line → ℕ → Line
closed_at l d = pseudo_line l.address d (tok (ascii "}") Punct ∷ [])

-- the listing with the close at b and the body rewritten and moved in one
abbrev pub with_body : List Line → ℕ → ℕ → List Line
with_body L h b =
    on_part (h + 1) b (λ l. move_in (jump (label (line L h)) (exit_label L b) l)) (set L b (closed_at (line L b) ((line L h).indent + 1)))

-- A leading `if (..) break;` becomes the negated condition, else the condition is 1.

abbrev pub is_leading_test : Line → ℕ → Bool
is_leading_test l d = eqb l.indent (d + 1) && is_kw (ascii "if") (token l 0) && ends_with (ascii ") break;") (text l.tokens)

unfoldable pub leading_test : Line → ℕ → Option (List Token)
leading_test l d = do
  _ ← require (is_leading_test l d)
  g ← position (is_kw (ascii "break")) l.tokens
  let c = part 1 g l.tokens
  opening ← first c
  _ ← require (starts_with (ascii " (") opening.text)
  end ← last (on_first (cut_front 2) c)
  _ ← require (ends_with (ascii ") ") end.text)
  Some (negate_cond (cut 2 2 c))

abbrev pub one : List Token
one = tok (ascii "1") Number ∷ []

-- The header takes the label's place, and the leading test's. Where a goto still leads to the label, it stands under it instead.
unfoldable pub headed : List Line → ℕ → ℕ → Turn
headed M h d =
    let test = leading_test (line M (h + 1)) d in
    let header = pseudo_line (line M h).address d (merge (while_head (or_else test one))) in
    let still_used = any (goes_to (λ t. t ≟ label (line M h))) M in
    let N = if is_some test then remove (h + 1) M else M in
    if still_used then go (h + 2) (to_for (insert (h + 1) header N) (h + 1))
    else go (h + 1) (to_for (set N h header) h)

-- Every body line moves in one, and the leading test is looked for one deeper than the header.
unfoldable pub rewritten : List Line → ℕ → ℕ → Turn
rewritten L h b =
    let d = (line L h).indent + 1 in
    if all (λ l. ltb l.indent 255) (part (h + 1) b L) && ltb d 255 then headed (with_body L h b) h d
    else beyond

unfoldable pub looped : List Line → ℕ → Turn
looped L h = elim (back_edge L h) [
  | None ↦ go (h + 1) L
  | Some b ↦ (if ltb (h + 1) b && not (enters L h b) then rewritten L h b else go (h + 1) L)
]

-- `lines[h].indent + 1` is worked out for every label with at least two lines after it.
unfoldable pub goto_turn : List Line → ℕ → Turn
goto_turn L h =
    if not (is_label (line L h)) then go (h + 1) L
    else if eqb (line L h).indent 255 then beyond
    else looped L h

abbrev pub recover_goto_loops : List Line → Pass
recover_goto_loops L = pass 2 goto_turn L
