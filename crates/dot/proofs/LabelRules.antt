-- Rules for the needs of the functions that write labels.
--   character_blank, character_other        one byte
--   characters_next, characters_none        the loop over bytes
--   blanks_are                              what a loop wrote
-- Assumes nothing.
use Prim.Native.Nat.{ℕ, ◌+◌, ◌≤◌, ◌<◌}
use mathlib.Core.Path.{◌≡◌, refl}
use mathlib.Core.List.{List, [], ◌∷◌, ◌++◌}
use borrow.Author.Tests.{le-leb, lt-leb, ne_eqb}
use lib.ListN.{length, get_or, drop}
use Rattle.definitions.specs.Lists.{ascii}
use Rattle.text.proofs.Parts.{drop_step, drop_end}
use Rattle.definitions.specs.Lists.{concat}
use Rattle.json_append.proofs.Appends.{wrote_as, begun_start}
use Rattle.rows.specs.Rows.{rows}
use Rattle.rows.proofs.RowRules.{rows_next}
use Rattle.dot.specs.Dot.{character, characters, blanks}

module _ (c : ℕ) where
  pub character_blank : c ≤ 32 → ascii "&nbsp;" ≡ character c
  unfolding character
  character_blank h = rw (le-leb c 32 h)

  pub character_other : 32 < c → (c ≡ 34 → ⊥) → (c ≡ 38 → ⊥) → (c ≡ 60 → ⊥) → (c ≡ 62 → ⊥) → c ∷ [] ≡ character c
  unfolding character
  character_other h p q r t = rw (lt-leb c 32 h, ne_eqb c 34 p, ne_eqb c 38 q, ne_eqb c 60 r, ne_eqb c 62 t)

pub characters_next : (s : List ℕ) (k : ℕ) → k < length s → character (get_or s k 0) ++ characters (drop (k + 1) s) ≡ characters (drop k s)
unfolding characters concat
characters_next s k h = rw (drop_step 0 s k h)

pub characters_none : (s : List ℕ) (k : ℕ) → length s ≤ k → characters (drop k s) ≡ []
unfolding characters concat
characters_none s k h = rw (drop_end s k h)

pub blanks_are : (d : ℕ) → rows (λ i. ascii "&nbsp;&nbsp;&nbsp;&nbsp;") 0 d ≡ blanks d
unfolding blanks
blanks_are d = refl

pub ruleset labels = (wrote_as, character_blank, character_other, begun_start, rows_next)
