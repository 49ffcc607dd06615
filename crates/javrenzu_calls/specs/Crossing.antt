-- Answers as numbers.
--   refusal_number a    the number of the refusal, 0 where there is none
--   number_of a         the number that is answered, 0 on refusal
--   choice_of a         1 for webs, 2 for splits, 0 on refusal
--   chosen_sweeps a     the total of sweeps of webs, else 0
--   counts n k b        counts of lines, tokens and bytes
--   counts_of a         those of a pass that is accepted, else 0
-- Assumes nothing.
use Rattle.std.specs.Prelude.{ℕ}
use Rattle.definitions.specs.Questions.{Limits}
use Rattle.definitions.specs.Answers.{Answer, refused, accepted}
use Rattle.definitions.specs.Calls.{Chosen, by_webs, by_splits}

unfoldable pub refusal_number : {A : Type 0} → Answer A → ℕ
refusal_number (refused n) = n
refusal_number (accepted r) = 0

unfoldable pub number_of : Answer ℕ → ℕ
number_of (refused n) = 0
number_of (accepted s) = s

unfoldable pub choice_of : Answer Chosen → ℕ
choice_of (refused n) = 0
choice_of (accepted (by_webs s)) = 1
choice_of (accepted by_splits) = 2

unfoldable pub chosen_sweeps : Answer Chosen → ℕ
chosen_sweeps (refused n) = 0
chosen_sweeps (accepted (by_webs s)) = s
chosen_sweeps (accepted by_splits) = 0

abbrev pub counts : ℕ → ℕ → ℕ → Limits
counts n k b = record { lines = n; tokens = k; text = b }

unfoldable pub counts_of : Answer Limits → Limits
counts_of (refused n) = counts 0 0 0
counts_of (accepted c) = c
