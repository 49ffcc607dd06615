-- What `to_for` asks of the lines of a plan of `recover_goto_loops`, each of a word and of its piece of the listing C.
--   word_line C w              the line that the word w reads where it is no header
--   ends_word C ind w          `ends` of it
--   continue_word C w          it has the keyword continue
--   head_test C v              the condition of the header v: of its leading test, or 1
--   closed_words, steps_words, counts_words    the tests of `for_tests`
--   init_words C p ws ind n k  `init_from` of the lines before place k
--   counted_words C ws w e p   the same, where the header at w counts p
--   place_words C ws w e       the place of the initialiser, where the header at w becomes a for header
-- Assumes nothing.
use Rattle.std.specs.Prelude.{if◌then◌else◌, ℕ, zero, suc, ◌+◌, ◌-◌, Bool, ◌&&◌, not, List, eqb, leb, get_or, Option, None, Some}
use Rattle.definitions.specs.Lists.{or_else, any, part}
use Rattle.definitions.specs.Model.{Token, Line, token}
use Rattle.definitions.specs.Family.{fam_of}
use Rattle.definitions.specs.Statements.{is_label}
use Rattle.definitions.specs.ToFor.{is_step}
use Rattle.definitions.specs.Passes.{lone_brace}
use Rattle.definitions.specs.RecoverGotoLoops.{leading_test, one}
use Rattle.family.specs.Register.{names_family}
use Rattle.plan.specs.Plan.{indent_at, header_at, piece_at, test_at}
use Rattle.plan.specs.ForLoop.{inits, passes, has_continue}
use Rattle.loops.specs.Words.{at_indent}
use Rattle.pieces.specs.Pieces.{piece}
use Rattle.pieces.specs.Counting.{piece_rest}

abbrev pub word_line : List Line → ℕ → Line
word_line C w = piece C (piece_at w)

unfoldable pub ends_word : List Line → ℕ → ℕ → Bool
ends_word C ind w = leb (indent_at w) ind && not (is_label (word_line C w))

unfoldable pub continue_word : List Line → ℕ → Bool
continue_word C w = has_continue (word_line C w)

unfoldable pub head_test : List Line → ℕ → List Token
head_test C v = let test = or_else (leading_test (piece C (test_at v)) 0) one in if eqb (header_at v) 3 then test else one

unfoldable pub closed_words : List Line → List ℕ → ℕ → ℕ → Bool
closed_words C ws w e =
    leb (w + 2) e && eqb (indent_at (get_or ws e 0)) (indent_at (get_or ws w 0)) && lone_brace (word_line C (get_or ws e 0))

unfoldable pub steps_words : List Line → ℕ → ℕ → Bool
steps_words C h z = eqb (indent_at z) (indent_at h + 1) && is_step (piece_rest C (piece_at z))

unfoldable pub counts_words : List Line → List ℕ → ℕ → ℕ → (Token → Bool) → Bool
counts_words C ws w e p = any p (head_test C (get_or ws w 0)) && not (any (continue_word C) (part (w + 1) e ws))

unfoldable pub init_words : List Line → (Token → Bool) → List ℕ → ℕ → ℕ → ℕ → Option ℕ
init_words C p ws ind zero k = None
init_words C p ws ind (suc n) zero = None
init_words C p ws ind (suc n) (suc k) =
    let earlier = init_words C p ws ind n k in
    if at_indent ind (get_or ws k 0) && inits p (word_line C (get_or ws k 0)) then Some k
    else if at_indent ind (get_or ws k 0) && passes p (word_line C (get_or ws k 0)) then earlier
    else None

abbrev pub counted_words : List Line → List ℕ → ℕ → ℕ → (Token → Bool) → Option ℕ
counted_words C ws w e p = if counts_words C ws w e p then init_words C p ws (indent_at (get_or ws w 0)) 4 w else None

unfoldable pub place_words : List Line → List ℕ → ℕ → ℕ → Option ℕ
place_words C ws w e =
    let h = get_or ws w 0 in
    let z = get_or ws (e - 1) 0 in
    let p = names_family (fam_of (token (word_line C z) 0)) in
    let found = init_words C p ws (indent_at h) 4 w in
    if closed_words C ws w e && (steps_words C h z && counts_words C ws w e p) then found else None
