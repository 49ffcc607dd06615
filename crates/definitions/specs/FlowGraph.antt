-- The flow between lines, to be read beside `flow_graph` of pseudo_ssa.rs.
--   successors L b i    the lines that line i steps to, b being the blocks of L
--   flow_graph L        the successors of every line; none where a brace does not match or a goto leads to no label
--   predecessors G j    the lines that step to line j in the graph G
--   label_line L s      the line of the label s, of equal ones the last
--   jumps L i           where the gotos of line i lead
--   gotos_lead L        every goto keyword has a symbol after it, the first of which names a label
-- Assumes nothing.
use Rattle.std.specs.Prelude.{if◌then◌else◌, ℕ, zero, suc, ◌+◌, ◌-◌, Bool, false, ◌&&◌, ◌||◌, List, [], ◌∷◌, ◌++◌, map, eqb, ltb, length, get_or, Option, None, Some}
use Rattle.definitions.specs.Lists.{◌>>=◌, require, is_some, to_list, any, all, filter, concat, last_position, range, up_to, member, ◌≟◌, contains, ascii}
use Rattle.definitions.specs.Model.{Line, token, line, Punct}
use Rattle.definitions.specs.Statements.{is_kw, has_kw, is_label, label, goto_targets}
use Rattle.definitions.specs.Blocks.{Blocks, blocks}

-- the line that closes the block that line h opens
abbrev pub end_of : Blocks → ℕ → Option ℕ
end_of b h = get_or b.ends h None

-- Line i steps to i + 1, except that before an else-close (keyword else, a punct `}`, opens a block) it steps past the whole chain.

abbrev pub is_else_close : Line → Bool
is_else_close l = has_kw l (ascii "else") && any (λ t. eqb t.kind Punct && contains 125 t.text) l.tokens

-- the close of the block at an else-close
abbrev pub else_end : List Line → Blocks → ℕ → Option ℕ
else_end L b c = if is_else_close (line L c) then end_of b c else None

-- the last close of the chain in which line c closes a block; as each close is a later line, as many steps as lines are enough
unfoldable pub chain_end : List Line → Blocks → ℕ → ℕ → ℕ
chain_end L b zero c = c
chain_end L b (suc k) c = elim (else_end L b c) [ None ↦ c | Some e ↦ chain_end L b k e ]

unfoldable pub falls : List Line → Blocks → ℕ → List ℕ
falls L b i = elim (else_end L b (i + 1)) [ None ↦ (i + 1) ∷ [] | Some c ↦ (chain_end L b (length L) c + 1) ∷ [] ]

-- An opener also steps to the line after its close; a loop's close steps to its opener; a switch to each case or default between.

unfoldable pub past_end : Blocks → ℕ → List ℕ
past_end b h = elim (end_of b h) [ None ↦ [] | Some c ↦ (c + 1) ∷ [] ]

abbrev pub is_loop : Line → Bool
is_loop l = has_kw l (ascii "while") || has_kw l (ascii "for") || has_kw l (ascii "do")

abbrev pub closes : Blocks → ℕ → ℕ → Bool
closes b c h = elim (end_of b h) [ None ↦ false | Some e ↦ eqb e c ]

unfoldable pub loops_back : List Line → Blocks → ℕ → List ℕ
loops_back L b c = filter (λ h. is_loop (line L h)) (filter (closes b c) (up_to (length L)))

abbrev pub is_switch : Line → Bool
is_switch l = has_kw l (ascii "switch")

abbrev pub is_case : Line → Bool
is_case l = is_kw (ascii "case") (token l 0) || is_kw (ascii "default") (token l 0)

unfoldable pub cases : List Line → Blocks → ℕ → List ℕ
cases L b h = elim (end_of b h) [
  | None ↦ []
  | Some c ↦ filter (λ j. is_switch (line L h) && is_case (line L j)) (range (h + 1) (c - (h + 1)))
]

-- Break and continue step to the opener, and past the end, of every enclosing loop or switch.
unfoldable pub leaves : List Line → Blocks → ℕ → List ℕ
leaves L b i =
    if has_kw (line L i) (ascii "break") || has_kw (line L i) (ascii "continue") then
    concat (map (λ h. h ∷ past_end b h) (filter (λ h. is_loop (line L h) || is_switch (line L h)) (get_or b.enclosing i [])))
    else []

-- Each goto steps to its label; of equal labels the last counts.

unfoldable pub label_line : List Line → List ℕ → Option ℕ
label_line L s = last_position (λ l. is_label l && (label l ≟ s)) L

-- where each goto of line i leads, none where it leads to no label
abbrev pub leads : List Line → ℕ → List (Option ℕ)
leads L i = map (λ t. t >>= label_line L) (goto_targets (line L i))

unfoldable pub jumps : List Line → ℕ → List ℕ
jumps L i = concat (map to_list (leads L i))

unfoldable pub gotos_lead : List Line → Bool
gotos_lead L = all (λ i. all is_some (leads L i)) (up_to (length L))

-- No step leads past the last line. Lines after goto or return still fall through.
unfoldable pub successors : List Line → Blocks → ℕ → List ℕ
successors L b i =
    filter (λ j. ltb j (length L))
    (falls L b i ++ past_end b i ++ loops_back L b i ++ cases L b i ++ jumps L i ++ leaves L b i)

unfoldable pub flow_graph : List Line → Option (List (List ℕ))
flow_graph L = do
  b ← blocks L
  _ ← require (gotos_lead L)
  Some (map (successors L b) (up_to (length L)))

abbrev pub steps : List (List ℕ) → ℕ → ℕ → Bool
steps G i j = member j (get_or G i [])

unfoldable pub predecessors : List (List ℕ) → ℕ → List ℕ
predecessors G j = filter (λ i. steps G i j) (up_to (length G))
