-- The textbook's side (Muchnick; Aho, Lam, Sethi and Ullman): definitions that reach a line, and chains of reads. For one family, over any
-- graph: edge i j says that line i steps to line j, defines i and reads i that line i defines and reads the family. A definition is its
-- line; 0 is the entry value.
--   is_definition d    d is the entry value or a defining line
--   Reaches d j        a path of one or more edges leads from d to j, no line strictly between defining the family, never arriving at line 0
--   Chain a b          a and b are linked by reads
-- Assumes nothing.
use Rattle.std.specs.Prelude.{ℕ, ◌<◌, ◌≡◌, Bool, true, false, ◌||◌, eqb}

abbrev pub is_definition : (ℕ → Bool) → ℕ → Bool
is_definition defines d = eqb d 0 || defines d

module _ (edge : ℕ → ℕ → Bool) (defines : ℕ → Bool) where
  -- `Reaches d j` is a path d → i₁ → .. → j: `start` has its first edge, `further` goes on past a line i that does not define the family.
  pub data Reaches (d : ℕ) : ℕ → Type 0 where
    start : {j : ℕ} → is_definition defines d ≡ true → edge d j ≡ true → 0 < j → Reaches d j
    further : {i j : ℕ} → Reaches d i → defines i ≡ false → edge i j ≡ true → 0 < j → Reaches d j

-- Each link is a line that reads the family and that both neighbours reach; a definition is linked with itself.
module _ (edge : ℕ → ℕ → Bool) (defines reads : ℕ → Bool) where
  pub data Chain (a : ℕ) : ℕ → Type 0 where
    itself : Chain a a
    link : {b c : ℕ} (i : ℕ) → Chain a b → reads i ≡ true → Reaches edge defines b i → Reaches edge defines c i → Chain a c
