-- The openers of the blocks still open, as the code keeps them: the entry of the innermost, for each line the entry of the opener around
-- it, and for each line how many of its blocks are open.
--   Stack ps cs p s            the entry p, the entries ps and the counts cs stand for the openers s, innermost first
--   Held es ps cs p i o        the columns stand for what the definition has at line i
--   Closing i m k o es ps cs p     of the m blocks that line i closes, k are left to close
--   Closed i k o es ps cs r    line i closed k blocks, or there were fewer
-- Assumes nothing.
use Rattle.std.specs.Prelude.{ℕ, zero, suc, ◌+◌, ◌<◌, ◌≤◌, ◌≡◌, ◌⊎◌, List, [], ◌∷◌, ◌++◌, length, get_or, replicate, None, Option, Some}
use Rattle.definitions.specs.Lists.{member}
use Rattle.definitions.specs.Blocks.{Open, close}
use Rattle.blocks.specs.Entries.{place, linked}

pub data Stack (ps cs : List ℕ) : ℕ → List ℕ → Type 0 where
  bottom : Stack ps cs zero []
  upon : (h k : ℕ) (s : List ℕ) → get_or cs h 0 ≡ suc k → Stack ps cs (get_or ps h 0) s → Stack ps cs (suc h) (h ∷ (replicate k h ++ s))

pub record Held (es ps cs : List ℕ) (p i : ℕ) (o : Open) : Type 0 where
  pub stack : Stack ps cs p o.stack
  pub below : p ≤ i
  pub ended : (j : ℕ) → j < i → place (get_or es j 0) ≡ get_or o.ends j None
  pub later : (j : ℕ) → j < i → (get_or es j 0 ≡ 0) ⊎ ((j + 1 < get_or es j 0) × (get_or es j 0 ≤ length o.ends))
  pub unended : (j : ℕ) → i ≤ j → get_or o.ends j None ≡ None
  pub inward : (j : ℕ) → j < i → get_or ps j 0 ≤ j
  pub lines : length o.enclosing ≡ i
  pub around : (j h : ℕ) → j < i → member h (linked ps j (get_or ps j 0)) ≡ member h (get_or o.enclosing j [])

pub record Closing (i m k : ℕ) (o : Open) (es ps cs : List ℕ) (p : ℕ) : Type 0 where
  pub now : Open
  pub left : close i m o ≡ close i k now
  pub size : length now.ends ≡ length o.ends
  pub held : Held es ps cs p i now

abbrev pub Closed : ℕ → ℕ → Open → List ℕ → List ℕ → List ℕ → Option ℕ → Type 0
Closed i k o es ps cs (Some p) = Closing i k 0 o es ps cs p
Closed i k o es ps cs None = close i k o ≡ None
