-- The labels of a listing as the code keeps them, in buckets by their names: of a bucket the entry of its last label, of a label the entry
-- of the one before it in its bucket. Behind the buckets stands the multiplier of the hash, which the code draws so that buckets stay small.
--   size n                  how many buckets there are in n words
--   bucket hs s             the bucket of the name s for the words hs; any function of the multiplier and the name would do
--   lookup L ns k p s       the first label named s from the entry p on, of at most k
--   behind L ns s p         the entry behind a label s that is put in front of the entry p: that behind p where p's label is named s too
--   Follows L ns s p r      r is p, or that entry: either may be put behind it
--   Indexed L hs ns i       the labels of the first i lines are in their buckets
-- Assumes nothing.
use Rattle.std.specs.Prelude.{if◌then◌else◌, ℕ, zero, suc, ◌%◌, ◌<◌, ◌≤◌, ◌≡◌, ◌⊎◌, List, ltb, length, get_or, take, Option}
use Rattle.definitions.specs.Lists.{find, ◌≟◌}
use Rattle.definitions.specs.Model.{Line, line}
use Rattle.definitions.specs.Statements.{label}
use Rattle.definitions.specs.FlowGraph.{label_line}
use Rattle.blocks.specs.Entries.{linked}
use Rattle.names.specs.Hash.{hash}

unfoldable pub size : ℕ → ℕ
size n = if ltb n 1024 then 255 else 1023

unfoldable pub bucket : List ℕ → List ℕ → ℕ
bucket hs s = hash (get_or hs (size (length hs)) 0) s % size (length hs)

unfoldable pub lookup : List Line → List ℕ → ℕ → ℕ → List ℕ → Option ℕ
lookup L ns k p s = find (λ h. label (line L h) ≟ s) (linked ns k p)

unfoldable pub behind : List Line → List ℕ → List ℕ → ℕ → ℕ
behind L ns s zero = zero
behind L ns s (suc h) = if label (line L h) ≟ s then get_or ns h 0 else suc h

abbrev pub Follows : List Line → List ℕ → List ℕ → ℕ → ℕ → Type 0
Follows L ns s p r = (r ≡ p) ⊎ (r ≡ behind L ns s p)

pub record Indexed (L : List Line) (hs ns : List ℕ) (i : ℕ) : Type 0 where
  pub below : (b : ℕ) → b < size (length hs) → get_or hs b 0 ≤ i
  pub back : (j : ℕ) → j < i → get_or ns j 0 ≤ j
  pub found : (s : List ℕ) → lookup L ns i (get_or hs (bucket hs s) 0) s ≡ label_line (take i L) s
