-- A list with one element from a place on.
--   filled_from k a xs    what stands before place k is kept, the rest is a
--   zeroed k xs           the rest is 0
-- Assumes nothing.
use Rattle.std.specs.Prelude.{ℕ, ◌-◌, List, ◌++◌, length, take, replicate}

abbrev pub filled_from : {A : Type 0} → ℕ → A → List A → List A
filled_from k a xs = take k xs ++ replicate (length xs - k) a

abbrev pub zeroed : ℕ → List ℕ → List ℕ
zeroed k xs = filled_from k 0 xs
