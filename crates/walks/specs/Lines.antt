-- What the passes over one family's tokens do.
--   Stands l t x k p          place p is that of a token of family k, or behind all tokens
--   takes l ts i p            the token at place p of line i stands behind one that ends `&`, on a line from 1 on
--   reads l ds i p            it is not the register that line i defines; ds has the place of the family that each line defines
--   Untaken l t x k p         no token of family k before place p takes its address
--   SeenTo l t x ds k p seen  seen has 1 for the lines that read family k before place p
--   Seen l t x k seen         the same of all places
--   own_place l ds k i p      it is the register of family k that line i defines
--   Written                   what `write_tokens` does: ns₀ are the words before, own and read the numbers of each line
--   WroteTo                   the same of the tokens before place p
--   line_marked l k ds ms i   the mark of line i's first token, where the line defines family k
--   lines_marked l k ds ms is the same of the lines is
-- Assumes nothing.
use Rattle.std.specs.Prelude.{if◌then◌else◌, ℕ, ◌+◌, ◌-◌, ◌<◌, ◌≤◌, ◌≡◌, Bool, true, false, cond, ◌&&◌, ◌||◌, List, eqb, ltb, length, get_or, set}
use Rattle.definitions.specs.Lists.{any, fold, ends_with, ascii}
use Rattle.definitions.specs.Model.{Token, no_token, line}
use Rattle.definitions.specs.Family.{names}
use Rattle.definitions.specs.Columns.{token_list, listing}
use Rattle.definitions.specs.Recover.{read_tokens}
use Rattle.model.specs.Places.{line_start}
use Rattle.families.specs.Tokens.{family_name}
use Rattle.chains.specs.Chains.{place_line}

pub record Stands (l t x : List ℕ) (k p : ℕ) : Type 0 where
  pub inside : p ≤ length t
  pub named : p < length t → names (family_name (listing l t x) k) (get_or (token_list t x) p no_token) ≡ true

unfoldable pub takes : List ℕ → List Token → ℕ → ℕ → Bool
takes l ts i p = if ltb 0 i then (if ltb (line_start l i) p then ends_with (ascii "&") (get_or ts (p - 1) no_token).text else false) else false

pub record Untaken (l t x : List ℕ) (k p : ℕ) : Type 0 where
  pub stands : Stands l t x k p
  pub none : (q : ℕ) → q < p → q < length t → names (family_name (listing l t x) k) (get_or (token_list t x) q no_token) ≡ true
      → takes l (token_list t x) (place_line l q) q ≡ false

unfoldable pub reads : List ℕ → List ℕ → ℕ → ℕ → Bool
reads l ds i p = eqb (get_or ds i 0) 0 || ltb (line_start l i) p

pub record SeenTo (l t x ds : List ℕ) (k p : ℕ) (seen : List ℕ) : Type 0 where
  pub stands : Stands l t x k p
  pub sound : (i : ℕ) → get_or seen i 0 ≡ 1
      → (q : ℕ) × (q < length t) × (place_line l q ≡ i) × (names (family_name (listing l t x) k) (get_or (token_list t x) q no_token) ≡ true) × (reads l ds i q ≡ true)
  pub whole : (q : ℕ) → q < p → q < length t → names (family_name (listing l t x) k) (get_or (token_list t x) q no_token) ≡ true
      → reads l ds (place_line l q) q ≡ true → get_or seen (place_line l q) 0 ≡ 1

pub record Seen (l t x : List ℕ) (k : ℕ) (seen : List ℕ) : Type 0 where
  pub at : (i : ℕ) → 0 < i → i < length l → eqb (get_or seen i 0) 1 ≡ any (names (family_name (listing l t x) k)) (read_tokens (line (listing l t x) i))

unfoldable pub own_place : List ℕ → List ℕ → ℕ → ℕ → ℕ → Bool
own_place l ds k i p = eqb (get_or ds i 0) (k + 1) && eqb p (line_start l i)

pub record Written (l t x : List ℕ) (k : ℕ) (ds own read ns₀ ns : List ℕ) : Type 0 where
  pub size : length ns ≡ length t
  pub words : (p : ℕ) → p < length t
      → get_or ns p 0
      ≡ cond (names (family_name (listing l t x) k) (get_or (token_list t x) p no_token))
      (cond (own_place l ds k (place_line l p) p) (get_or own (place_line l p) 0) (get_or read (place_line l p) 0))
      (get_or ns₀ p 0)

pub record WroteTo (l t x : List ℕ) (k : ℕ) (ds own read ns₀ : List ℕ) (p : ℕ) (ns : List ℕ) : Type 0 where
  pub stands : Stands l t x k p
  pub size : length ns ≡ length t
  pub done : (q : ℕ) → q < p → q < length t
      → get_or ns q 0
      ≡ cond (names (family_name (listing l t x) k) (get_or (token_list t x) q no_token))
      (cond (own_place l ds k (place_line l q) q) (get_or own (place_line l q) 0) (get_or read (place_line l q) 0))
      (get_or ns₀ q 0)
  pub rest : (q : ℕ) → p ≤ q → get_or ns q 0 ≡ get_or ns₀ q 0

unfoldable pub line_marked : List ℕ → ℕ → List ℕ → List ℕ → ℕ → List ℕ
line_marked l k ds ms i = if eqb (get_or ds i 0) (k + 1) then set ms (line_start l i) 1 else ms

unfoldable pub lines_marked : List ℕ → ℕ → List ℕ → List ℕ → List ℕ → List ℕ
lines_marked l k ds ms is = fold (line_marked l k ds) ms is
