-- The families that have a definition, numbered in the order of their first definition, and the table by which one is found.
--   hash m s            a number below 247, by the multiplier m and the bytes of a name
--   hash_of m o         the same of a family
--   latest m fs h k     1 + the last place below k of a family whose hash is h, 0 where there is none
--   place fs f          1 + the place of f among the families fs, 0 where it is not there
--   place_of fs o       the same of a family
--   place_defined fs o  the same of a family's name
--   multiplier t        the multiplier of the table t: its word 247
--   Linked L count k t  the table t has the first `count` families of the listing L, the first k of them in chains: its words 0 .. 246 have
--                       `latest` for each hash; the words 248 .. 255, for each row of the legacy names, the `place` of its name; the words
--                       from 256 on, in pairs, for each of the k `latest` before it of its own hash, and for each family the line of its
--                       first definition
--   Table L count t     the same, all in chains: the table t finds the first `count` families of the listing L
--   row_word t i        what the table t has for row i, 0 where that is no row
--   kept t i c          the table t with c for row i, if that is a row
--   defined_at L i      the family that line i defines, none on line 0
--   families_before L i the families that lines before line i define
--   Defs L ds           ds has the place of the family that each line defines, 0 where it defines none
--   Numbered L i count t ds    the lines before line i are done: `count` families are in the table t, and ds has the place of the family that
--                       each line defines, 0 where it defines none
--   linked t k h        the table t with family k, of hash h, in front of its chain
--   added t count i h   the table t with one family more
--   emptied t m         the table t with no chains, and the multiplier m
--   Added l count i r t₀ t    the same, of the family of line l
--   of_register l r     the family that line l defines by its register r
--   Ready L i count t   line i is next, `count` families being in the table t
--   Placed L i count c t    line i is done: c is the place of the family that it defines
-- Assumes nothing.
use Rattle.std.specs.Option.{option_map}
use Rattle.std.specs.Prelude.{if◌then◌else◌, ℕ, zero, suc, ◌+◌, ◌*◌, ◌-◌, ◌%◌, ◌<◌, ◌≤◌, max, ◌≡◌, List, [], ◌++◌, map, eqb, ltb, length, get_or, set, take, drop, replicate, Option, None, Some}
use Rattle.definitions.specs.Lists.{position, concat, range, to_list, ◌≟◌}
use Rattle.definitions.specs.Model.{Line, token, line}
use Rattle.definitions.specs.Family.{Family}
use Rattle.definitions.specs.Statements.{defines}
use Rattle.family.specs.declared.Register.{Register}
use Rattle.legacy.specs.Table.{row_name}
use Rattle.names.specs.Hash as names
use Rattle.family.specs.Register.{family_of, named}
use Rattle.definitions.specs.Recover.{distinct, defined_families}

unfoldable pub hash : ℕ → List ℕ → ℕ
hash m s = names.hash m s % 247

abbrev pub hash_of : ℕ → Option Family → ℕ
hash_of m None = 0
hash_of m (Some f) = hash m f.name

unfoldable pub latest : ℕ → List (List ℕ) → ℕ → ℕ → ℕ
latest m fs h zero = 0
latest m fs h (suc k) = if eqb (hash m (get_or fs k [])) h then suc k else latest m fs h k

unfoldable pub place : List (List ℕ) → List ℕ → ℕ
place fs f = elim (position (λ g. g ≟ f) fs) [ None ↦ 0 | Some k ↦ suc k ]

abbrev pub place_of : List (List ℕ) → Option Family → ℕ
place_of fs None = 0
place_of fs (Some f) = place fs f.name

abbrev pub multiplier : List ℕ → ℕ
multiplier t = get_or t 247 0

pub record Linked (L : List Line) (count k : ℕ) (t : List ℕ) : Type 0 where
  pub size : count ≤ length (defined_families L)
  pub heads : (h : ℕ) → h < 247 → get_or t h 0 ≡ latest (multiplier t) (defined_families L) h k
  pub rows : (i : ℕ) → i < 8 → get_or t (248 + i) 0 ≡ place (take count (defined_families L)) (row_name i)
  pub next : (j : ℕ) → j < k → get_or t (256 + 2 * j) 0 ≡ latest (multiplier t) (defined_families L) (hash (multiplier t) (get_or (defined_families L) j [])) j
  pub first : (j : ℕ) → j < count → defines (line L (get_or t (257 + 2 * j) 0)) ≡ Some (get_or (defined_families L) j [])

abbrev pub Table : List Line → ℕ → List ℕ → Type 0
Table L count t = Linked L count count t

unfoldable pub defined_at : List Line → ℕ → Option (List ℕ)
defined_at L zero = None
defined_at L (suc i) = defines (line L (suc i))

abbrev pub place_defined : List (List ℕ) → Option (List ℕ) → ℕ
place_defined fs None = 0
place_defined fs (Some f) = place fs f

unfoldable pub families_before : List Line → ℕ → List (List ℕ)
families_before L i = distinct (concat (map (λ j. to_list (defines (line L j))) (range 1 (i - 1))))

unfoldable pub row_word : List ℕ → ℕ → ℕ
row_word t i = if ltb i 8 then get_or t (248 + i) 0 else 0

unfoldable pub kept : List ℕ → ℕ → ℕ → List ℕ
kept t i c = if ltb i 8 then set t (248 + i) c else t

-- the table t with family k, of hash h, in front of its chain
unfoldable pub linked : List ℕ → ℕ → ℕ → List ℕ
linked t k h = set (set t (256 + 2 * k) (get_or t h 0)) h (k + 1)

-- the table t with family `count`, first defined on line i, of hash h
unfoldable pub added : List ℕ → ℕ → ℕ → ℕ → List ℕ
added t count i h = linked (set t (257 + 2 * count) i) count h

-- the table t with no chains, and the multiplier m
unfoldable pub emptied : List ℕ → ℕ → List ℕ
emptied t m = set (replicate 247 0 ++ drop 247 t) 247 m

-- t is t₀ with the family of token 0 of line l, whose answer is r; `row` is the row that has its name
pub record Added (l : Line) (count i : ℕ) (r : Option Register) (t₀ t : List ℕ) : Type 0 where
  pub hash : ℕ
  pub hash_is : hash ≡ hash_of (multiplier t₀) (family_of (token l 0).text r)
  pub hash_low : hash < 247
  pub row : ℕ
  pub row_is : (j : ℕ) → j < 8 → named (◌≟ row_name j) (family_of (token l 0).text r) ≡ eqb row j
  pub table : t ≡ added (kept t₀ row (count + 1)) count i hash

-- the name of the family that line l defines if its token 0 is the register r
abbrev pub of_register : Line → Option Register → Option (List ℕ)
of_register l r = option_map (λ (f : Family). f.name) (family_of (token l 0).text r)

-- line i is next, `count` families being known before it
pub record Ready (L : List Line) (i count : ℕ) (t : List ℕ) : Type 0 where
  pub above : 0 < i
  pub inside : i < length L
  pub few : length L ≤ 1024
  pub room : 256 + 2 * length L ≤ length t
  pub known : count ≡ length (families_before L i)
  pub small : count < i
  pub table : Table L count t

-- line i is done, `count` families being known before it: c is the place of the family that it defines
pub record Placed (L : List Line) (i count c : ℕ) (t : List ℕ) : Type 0 where
  pub place : c ≡ place_defined (defined_families L) (defines (line L i))
  pub families : max count c ≡ length (families_before L (i + 1))
  pub table : Table L (max count c) t
  pub small : c ≤ i

pub record Numbered (L : List Line) (i count : ℕ) (t ds : List ℕ) : Type 0 where
  pub above : 0 < i
  pub upto : i ≤ length L
  pub few : length L ≤ 1024
  pub room : 256 + 2 * length L ≤ length t
  pub width : length L ≤ length ds
  pub known : count ≡ length (families_before L i)
  pub small : count < i
  pub table : Table L count t
  pub defs : (j : ℕ) → j < i → get_or ds j 0 ≡ place_defined (defined_families L) (defined_at L j)

-- ds has the place of the family that each line defines
pub record Defs (L : List Line) (ds : List ℕ) : Type 0 where
  pub at : (j : ℕ) → j < length L → get_or ds j 0 ≡ place_defined (defined_families L) (defined_at L j)
