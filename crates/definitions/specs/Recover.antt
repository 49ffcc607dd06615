-- Webs, to be read beside `recover` and `Webs` of pseudo_ssa.rs.
--   def_lines L f, read_lines L f    the lines that define, that read the family f
--   address_taken L f                the address of f is taken
--   Webs                             the webs of one family
--   recover L                        the webs of every family that has a definition and is not address_taken
--   key ws f i k                     the web number of the family f at token k of line i
--   is_def ws f i                    line i starts a fresh value of f
-- Assumes nothing.
use Rattle.std.specs.Prelude.{if◌then◌else◌, ℕ, ◌+◌, ◌-◌, Bool, false, ◌&&◌, ◌||◌, not, List, [], ◌∷◌, map, eqb, leb, ltb, length, drop, get_or, Option, None, Some}
use Rattle.definitions.specs.Lists.{◌>>=◌, require, is_some, to_list, or_else, any, filter, find, count, first, fold, concat, range, up_to, member, ◌≟◌, ends_with, ascii}
use Rattle.definitions.specs.Model.{Token, Line, line}
use Rattle.definitions.specs.Family.{names}
use Rattle.definitions.specs.Statements.{defines, is_var}
use Rattle.definitions.specs.FlowGraph.{flow_graph, predecessors}
use Rattle.definitions.specs.Sweeps.{incoming, sweeps}

-- From line 1 on, a definition; any other register token with a family is a read, rsp, `var_` and line 0 excepted.

abbrev pub from_line_1 : List Line → List ℕ
from_line_1 L = range 1 (length L - 1)

abbrev pub is_def_of : List ℕ → Line → Bool
is_def_of f l = elim (defines l) [ None ↦ false | Some g ↦ g ≟ f ]

abbrev pub def_lines : List Line → List ℕ → List ℕ
def_lines L f = filter (λ i. is_def_of f (line L i)) (from_line_1 L)

abbrev pub is_read_family : List ℕ → Bool
is_read_family f = not (is_var f) && not (f ≟ ascii "rsp")

-- the tokens that are read: all but the defined register
abbrev pub read_tokens : Line → List Token
read_tokens l = if is_some (defines l) then drop 1 l.tokens else l.tokens

abbrev pub is_read_of : List ℕ → Line → Bool
is_read_of f l = is_read_family f && any (names f) (read_tokens l)

abbrev pub read_lines : List Line → List ℕ → List ℕ
read_lines L f = filter (λ i. is_read_of f (line L i)) (from_line_1 L)

-- A read whose predecessor's text ends `&` marks the family address_taken.

unfoldable pub takes_address : List ℕ → List Token → Bool
takes_address f [] = false
takes_address f (t ∷ []) = false
takes_address f (t ∷ (u ∷ ts)) = (ends_with (ascii "&") t.text && names f u) || takes_address f (u ∷ ts)

abbrev pub address_taken : List Line → List ℕ → Bool
address_taken L f = is_read_family f && any (λ i. takes_address f (line L i).tokens) (from_line_1 L)

-- Definitions that reach one read are one web. rep has for each definition the first of its web so far.

abbrev pub union : ℕ → ℕ → List ℕ → List ℕ
union a b rep =
    let x = get_or rep a 0 in
    let y = get_or rep b 0 in
    if leb x y then map (λ r. if eqb r y then x else r) rep else map (λ r. if eqb r x then y else r) rep

-- neighbours of a set of definitions are linked
unfoldable pub link : List ℕ → List ℕ → List ℕ
link rep [] = rep
link rep (d ∷ []) = rep
link rep (d ∷ (e ∷ ds)) = link (union d e rep) (e ∷ ds)

pub record Webs : Type 0 where
  pub family : List ℕ
  pub defs : List ℕ
  pub reads : List ℕ
  pub reaching : List (List ℕ)
  pub rep : List ℕ
  pub sweeps : ℕ

unfoldable pub webs_of : List Line → List (List ℕ) → List ℕ → Webs
webs_of L preds f =
    let defs = def_lines L f in
    let swept = sweeps preds defs in
    let reaching = map (incoming preds defs swept.out) (up_to (length L)) in
    record {
      family = f;
      defs = defs;
      reads = read_lines L f;
      reaching = reaching;
      rep = fold (λ r i. link r (get_or reaching i [])) (up_to (length L)) (read_lines L f);
      sweeps = swept.count;
    }

-- the families that have a definition, each once
unfoldable pub distinct : List (List ℕ) → List (List ℕ)
distinct [] = []
distinct (f ∷ fs) = f ∷ filter (λ g. not (g ≟ f)) (distinct fs)

abbrev pub defined_families : List Line → List (List ℕ)
defined_families L = distinct (concat (map (λ i. to_list (defines (line L i))) (from_line_1 L)))

unfoldable pub recover : List Line → Option (List Webs)
recover L = do
  _ ← require (leb 2 (length L))
  G ← flow_graph L
  let preds = map (predecessors G) (up_to (length L))
  Some (map (webs_of L preds) (filter (λ f. not (address_taken L f)) (defined_families L)))

-- Web 0 holds the entry; others are numbered by first definition.
unfoldable pub web_number : Webs → ℕ → ℕ
web_number w d = count (λ x. eqb (get_or w.rep x 0) x && ltb x (get_or w.rep d 0)) (0 ∷ w.defs)

-- A read nothing reaches has web 0.
abbrev pub read_number : Webs → ℕ → ℕ
read_number w i = web_number w (or_else (first (get_or w.reaching i [])) 0)

abbrev pub webs_for : List Webs → List ℕ → Option Webs
webs_for ws f = find (λ w. w.family ≟ f) ws

unfoldable pub is_def : List Webs → List ℕ → ℕ → Bool
is_def ws f i = elim (webs_for ws f) [ None ↦ false | Some w ↦ member i w.defs ]

unfoldable pub key : List Webs → List ℕ → ℕ → ℕ → ℕ
key ws f i k = elim (webs_for ws f) [
  | None ↦ 0
  | Some w ↦ (if eqb k 0 && member i w.defs then web_number w i else if member i w.reads then read_number w i else 0)
]

abbrev pub total_sweeps : List Webs → ℕ
total_sweeps ws = fold (λ n w. n + w.sweeps) 0 ws
