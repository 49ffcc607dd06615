-- What the answers of the code stand for, where a definition of json_definitions gives a value and the rest of the text.
--   next_of r      r is the rest
--   found_of f r   r is what was found, which stands for its image under f, and the rest
--   number_of r    r is a number and the rest
-- Assumes nothing.
use Rattle.std.specs.Prelude.{ℕ, List, Option, Some, None}
use Rattle.std.specs.Borrow.{Bor}
use Rattle.json_definitions.specs.Parser.{Got, got}

abbrev pub next_of : Option (Bor (List ℕ)) → Option (Got (Unit {0}))
next_of (Some s) = got tt s.now
next_of None = None

abbrev pub found_of : {A B : Type 0} → (A → B) → Option (A × Bor (List ℕ)) → Option (Got B)
found_of f (Some (a, s)) = got (f a) s.now
found_of f None = None

abbrev pub number_of : Option (ℕ × Bor (List ℕ)) → Option (Got ℕ)
number_of r = found_of (λ v. v) r
