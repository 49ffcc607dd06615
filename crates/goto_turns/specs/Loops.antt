-- A loop of `recover_goto_loops` as words. C is the listing of the columns; ws is the lent plan at entry, of which n words count, vs at exit.
--   close_word w d             a closing brace at indent d in place of the line of w
--   jumped_words C ws h b      the body of the loop from the label at h to its back edge at b, rewritten and moved in
--   body_words C ws h b        the same, and the back edge made a closing brace
--   with_header M h d          the header in the label's place, and in the leading test's
--   Labelled l t x n h ws      the line at h is a label, and no header stands from it on
--   Loop l t x n h b ws        with a back edge at b, a body, and no goto that leads in from outside
--   Headed l t x n h ws k vs   k lines are left, those with the header made
-- Assumes nothing.
use Rattle.std.specs.Prelude.{if◌then◌else◌, ℕ, ◌+◌, ◌*◌, ◌/◌, ◌≤◌, ◌<◌, ◌≡◌, true, false, List, length, take, get_or, set}
use Rattle.definitions.specs.Lists.{is_some, or_else, remove, on_part}
use Rattle.definitions.specs.Model.{Line, pseudo_line, line}
use Rattle.definitions.specs.Columns.{listing}
use Rattle.definitions.specs.Questions.{question_2}
use Rattle.definitions.specs.Statements.{is_label, label, merge}
use Rattle.definitions.specs.ToFor.{to_for}
use Rattle.definitions.specs.Passes.{while_head}
use Rattle.definitions.specs.RecoverGotoLoops.{enters, exit_label, leading_test, one}
use Rattle.plan.specs.Plan.{indent_at, piece_at, line_of, render}
use Rattle.plan.specs.Changes.{Ahead}
use Rattle.plan.specs.Source.{Source}
use Rattle.gotos.specs.Body.{body_word}

abbrev pub close_word : ℕ → ℕ → ℕ
close_word w d = d + 2048 * (3 + 4 * (piece_at w / 4))

unfoldable pub jumped_words : List Line → List ℕ → ℕ → ℕ → List ℕ
jumped_words C ws h b = on_part (h + 1) b (body_word C (label (line (render C ws) h)) (exit_label (render C ws) b)) ws

unfoldable pub body_words : List Line → List ℕ → ℕ → ℕ → List ℕ
body_words C ws h b = set (jumped_words C ws h b) b (close_word (get_or ws b 0) (indent_at (get_or ws h 0) + 1))

unfoldable pub with_header : List Line → ℕ → ℕ → List Line
with_header M h d =
    let test = leading_test (line M (h + 1)) d in
    let header = pseudo_line (line M h).address d (merge (while_head (or_else test one))) in
    set (if is_some test then remove (h + 1) M else M) h header

pub record Labelled (l t x : List ℕ) (n h : ℕ) (ws : List ℕ) : Type 0 where
  pub inside : h < n
  pub few : n ≤ 1024
  pub fits : n ≤ length ws
  pub formed : question_2 l t x ≡ true
  pub label : is_label (line_of (listing l t x) (get_or ws h 0)) ≡ true
  pub ahead : Ahead h (take n ws)

pub record Loop (l t x : List ℕ) (n h b : ℕ) (ws : List ℕ) : Type 0 where
  pub labelled : Labelled l t x n h ws
  pub far : h + 1 < b
  pub within : b < n
  pub alone : enters (render (listing l t x) (take n ws)) h b ≡ false
  pub room : indent_at (get_or ws h 0) < 255

pub record Headed (l t x : List ℕ) (n h : ℕ) (ws : List ℕ) (k : ℕ) (vs : List ℕ) : Type 0 where
  pub fewer : k ≤ n
  pub ahead : Ahead (h + 1) (take k vs)
  pub lines : (S : List Line) → Source S l t x → render S (take k vs) ≡ to_for (with_header (render S (take n ws)) h (indent_at (get_or ws h 0) + 1)) h
