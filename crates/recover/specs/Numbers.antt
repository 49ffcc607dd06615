-- Representatives and webs by definition number: 0 the entry, then 1, 2, .. in the order of the defining lines.
--   touched rep ds r     r is the representative of one of the definitions ds
--   Least rep ds m       m is the least of the representatives of ds
--   alike rep ds d       d has the representative of the first of ds
--   Within n rep         each representative is below n
--   marked rep marks ds  the marks, with 1 at each representative of ds
--   merged m marks r     m where r is marked, else r
--   earlier rep r        how many definitions below r are their own representative
--   Ranked rep rank      rank has `earlier rep` of each definition
-- Assumes nothing.
use Rattle.std.specs.Prelude.{ℕ, ◌≤◌, ◌<◌, ◌≡◌, Bool, true, cond, ◌&&◌, List, map, eqb, ltb, length, get_or, set}
use Rattle.definitions.specs.Lists.{any, count, fold, up_to, member}

unfoldable pub touched : List ℕ → List ℕ → ℕ → Bool
touched rep ds r = any (λ d. eqb r (get_or rep d 0)) ds

pub record Least (rep ds : List ℕ) (m : ℕ) : Type 0 where
  pub among : touched rep ds m ≡ true
  pub below : (d : ℕ) → member d ds ≡ true → m ≤ get_or rep d 0

abbrev pub alike : List ℕ → List ℕ → ℕ → Bool
alike rep ds d = eqb (get_or rep d 0) (get_or rep (get_or ds 0 0) 0)

pub record Within (n : ℕ) (rep : List ℕ) : Type 0 where
  pub at : (d : ℕ) → get_or rep d 0 < n

unfoldable pub marked : List ℕ → List ℕ → List ℕ → List ℕ
marked rep marks ds = fold (λ m d. set m (get_or rep d 0) 1) marks ds

unfoldable pub merged : ℕ → List ℕ → ℕ → ℕ
merged m marks r = cond (eqb (get_or marks r 0) 1) m r

unfoldable pub earlier : List ℕ → ℕ → ℕ
earlier rep r = count (λ x. eqb (get_or rep x 0) x && ltb x r) (up_to (length rep))

pub record Ranked (rep rank : List ℕ) : Type 0 where
  pub ranks : rank ≡ map (earlier rep) (up_to (length rep))
  pub inside : Within (length rep) rep
