-- The headers of words as the code reads them: `header_of` says what each number stands for.
--   least_test t, most_test t    the numbers of the headers over the condition t, modulo 4, go from the first to the second
--   least q, most q              so do the numbers of the header q
--   Asks w t                     the header of the word w is over the condition t
--   Says w q                     the word w says the header q
-- Assumes nothing.
use Rattle.std.specs.Prelude.{ℕ, ◌%◌, ◌≤◌}
use Rattle.plan.specs.Plan.{header_at}
use Rattle.plan.specs.declared.headers.Test.{Test}
use Rattle.plan.specs.declared.headers.Test.TheVariants.{Guard, Always, Leading}
use Rattle.plan.specs.declared.headers.Header.{Header}
use Rattle.plan.specs.declared.headers.Header.TheVariants.{NoHeader, While, For}

abbrev pub least_test : Test → ℕ
least_test Guard = 0
least_test Always = 2
least_test Leading = 3

abbrev pub most_test : Test → ℕ
most_test Guard = 1
most_test Always = 2
most_test Leading = 3

abbrev pub least : Header → ℕ
least NoHeader = 0
least (While Guard) = 1
least (While Always) = 2
least (While Leading) = 3
least (For Guard) = 4
least (For Always) = 6
least (For Leading) = 7

abbrev pub most : Header → ℕ
most NoHeader = 0
most (While Guard) = 1
most (While Always) = 2
most (While Leading) = 3
most (For Guard) = 5
most (For Always) = 6
most (For Leading) = 7

pub record Asks (w : ℕ) (t : Test) : Type 0 where
  pub from : least_test t ≤ header_at w % 4
  pub to : header_at w % 4 ≤ most_test t

pub record Says (w : ℕ) (q : Header) : Type 0 where
  pub from : least q ≤ header_at w
  pub to : header_at w ≤ most q
