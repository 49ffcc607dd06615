-- What the inner functions of a sweep do, bit by bit. A column says of each line whether bit b is in its outgoing row.
--   Word k x f                 x is word k of a row of bits f
--   coming preds b f i         what comes to line i, of the column f; to line 0 only the entry, bit 0
--   given preds nums b f i     what line i is given: its own definition, or what comes to it
--   visit, visited k           the column f after a visit of line i; of the lines below k in order
--   Stable                     a visit of line j would change nothing
--   Updated                    line i is visited, and z says whether its outgoing row changed
--   Visit, Marked, Step        what `visit_line`, `mark` and `step_line` do
--   Ahead, Back                what `mark_ahead` and `mark_back` do
--   Full                       every line is on this sweep's list
--   Listed                     a line that is not on the list would not change
--   Sweep                      what `sweep` does
--   Started, Turned            the lists of lines before the first sweep, and between sweeps
-- Assumes nothing.
use Rattle.std.specs.Prelude.{ℕ, zero, suc, ◌+◌, ◌*◌, ◌<◌, ◌≤◌, ◌≡◌, ◌≢◌, Bool, true, false, cond, List, [], eqb, get_or}
use Rattle.definitions.specs.Lists.{any}
use Rattle.bits.specs.Rows.{word_bit, Away}
use Rattle.bits.specs.Edges.{succs, preds_of}
use Rattle.visit.specs.Layout.{base, outs, todo, next, Kept}

pub record Word (k x : ℕ) (f : ℕ → Bool) : Type 0 where
  pub bits : (b : ℕ) → b < 64 → word_bit x b ≡ f (k * 64 + b)

abbrev pub coming : List (List ℕ) → ℕ → (ℕ → Bool) → ℕ → Bool
coming preds b f zero = eqb b 0
coming preds b f (suc i) = any f (get_or preds (suc i) [])

abbrev pub given : List (List ℕ) → List ℕ → ℕ → (ℕ → Bool) → ℕ → Bool
given preds nums b f i = cond (eqb (get_or nums i 0) 0) (coming preds b f i) (eqb b (get_or nums i 0))

abbrev pub visit : List (List ℕ) → List ℕ → ℕ → (ℕ → Bool) → ℕ → ℕ → Bool
visit preds nums b f i j = cond (eqb i j) (given preds nums b f i) (f j)

abbrev pub visited : List (List ℕ) → List ℕ → ℕ → ℕ → (ℕ → Bool) → ℕ → Bool
visited preds nums b zero f = f
visited preds nums b (suc k) f = visit preds nums b (visited preds nums b k f) k

-- of the columns S of the bits below c
abbrev pub Stable : List (List ℕ) → List ℕ → ℕ → (ℕ → ℕ → Bool) → ℕ → Type 0
Stable preds nums c S j = (b : ℕ) → b < c → S b j ≡ given preds nums b (S b) j

pub record Updated (n r w i : ℕ) (nums l₀ l : List ℕ) (z : Bool) : Type 0 where
  pub cols : (b : ℕ) → b < w * 64 → outs n r w l b ≡ visit (preds_of n r l₀) nums b (outs n r w l₀ b) i
  pub same : z ≡ false → (b : ℕ) → b < w * 64 → outs n r w l b i ≡ outs n r w l₀ b i
  pub other : z ≡ true → (b : ℕ) × (b < w * 64) × (outs n r w l b i ≢ outs n r w l₀ b i)

pub record Visit (n r w i : ℕ) (nums l₀ l : List ℕ) (z : Bool) : Type 0 where
  pub updated : Updated n r w i nums l₀ l z
  pub kept : (v : ℕ) → Away v (base n r) (n * w + w) → get_or l v 0 ≡ get_or l₀ v 0

abbrev pub Full : ℕ → ℕ → List ℕ → Type 0
Full n r l = (j : ℕ) → j < n → todo n r l j ≡ true

-- the successors of line i are on this sweep's list
pub record Ahead (n r i : ℕ) (l₀ l : List ℕ) : Type 0 where
  pub kept : (v : ℕ) → Away v (n * r + n * r) r → get_or l v 0 ≡ get_or l₀ v 0
  pub old : (j : ℕ) → j < n → todo n r l j ≡ false → todo n r l₀ j ≡ false
  pub new : (j : ℕ) → j < n → todo n r l j ≡ false → succs n r l₀ i j ≡ false

-- those that are at or below it are on the next sweep's
pub record Back (n r i : ℕ) (l₀ l : List ℕ) : Type 0 where
  pub kept : (v : ℕ) → Away v (n * r + n * r + r) r → get_or l v 0 ≡ get_or l₀ v 0
  pub old : (j : ℕ) → j < n → next n r l j ≡ false → next n r l₀ j ≡ false
  pub new : (j : ℕ) → j ≤ i → next n r l j ≡ false → succs n r l₀ i j ≡ false

-- the successors of line i are on the lists: those above i on this sweep's, the others on the next's
pub record Marked (n r i : ℕ) (l₀ l : List ℕ) : Type 0 where
  pub kept : (v : ℕ) → Away v (n * r + n * r) (r + r) → get_or l v 0 ≡ get_or l₀ v 0
  pub todo_old : (j : ℕ) → j < n → todo n r l j ≡ false → todo n r l₀ j ≡ false
  pub next_old : (j : ℕ) → j < n → next n r l j ≡ false → next n r l₀ j ≡ false
  pub todo_new : (j : ℕ) → i < j → j < n → todo n r l j ≡ false → succs n r l₀ i j ≡ false
  pub next_new : (j : ℕ) → j ≤ i → next n r l j ≡ false → succs n r l₀ i j ≡ false

pub record Step (n r w i : ℕ) (nums l₀ l : List ℕ) (z : Bool) : Type 0 where
  pub updated : Updated n r w i nums l₀ l z
  pub kept : Kept n r w l₀ l
  pub todo_old : (j : ℕ) → j < n → todo n r l j ≡ false → todo n r l₀ j ≡ false
  pub next_old : (j : ℕ) → j < n → next n r l j ≡ false → next n r l₀ j ≡ false
  pub todo_new : z ≡ true → (j : ℕ) → i < j → j < n → todo n r l j ≡ false → succs n r l₀ i j ≡ false
  pub next_new : z ≡ true → (j : ℕ) → j ≤ i → next n r l j ≡ false → succs n r l₀ i j ≡ false

unfoldable pub Listed : ℕ → ℕ → ℕ → List ℕ → List ℕ → (ℕ → Bool) → Type 0
Listed n r w nums l list = (j : ℕ) → j < n → list j ≡ false → Stable (preds_of n r l) nums (w * 64) (outs n r w l) j

pub record Sweep (n r w : ℕ) (nums l₀ l : List ℕ) (z : Bool) : Type 0 where
  pub cols : (b : ℕ) → b < w * 64 → outs n r w l b ≡ visited (preds_of n r l₀) nums b n (outs n r w l₀ b)
  pub kept : Kept n r w l₀ l
  pub same : z ≡ false → (b : ℕ) → b < w * 64 → outs n r w l b ≡ outs n r w l₀ b
  pub other : z ≡ true → (b : ℕ) × (b < w * 64) × (outs n r w l b ≢ outs n r w l₀ b)
  pub listed : Listed n r w nums l (next n r l)

pub record Started (n r w : ℕ) (l₀ l : List ℕ) : Type 0 where
  pub kept : Kept n r w l₀ l
  pub empty : (b : ℕ) → b < w * 64 → outs n r w l b ≡ (λ j. false)
  pub all : (j : ℕ) → j < n → todo n r l j ≡ true

pub record Turned (n r : ℕ) (l₀ l : List ℕ) : Type 0 where
  pub kept : (v : ℕ) → Away v (n * r + n * r) (r + r) → get_or l v 0 ≡ get_or l₀ v 0
  pub list : (j : ℕ) → j < n → todo n r l j ≡ next n r l₀ j
