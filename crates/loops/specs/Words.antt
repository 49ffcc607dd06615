-- What `recover_loops` asks of the lines of its plan. All lines that it reads are lines of the listing C as they are, but for headers
-- that it made; so each question is asked of a word and of its line of C.
--   source_line C w            the line of C that the word w is made of
--   is_kept w                  the word is a line as it is, and no header
--   Ready i ws                 all words are plain, and from place i on kept
--   ends_word C ind w          `ends` of a kept line
--   continue_word C w          it has the keyword continue
--   closed_words, steps_words, counts_words, for_words    the tests of `for_tests`
--   is_init a, is_passing a    the answer a says that a line is an initialiser; that it may stand behind one
--   init_words C p ws ind n k  `init_from` of the lines before place k
--   counted_words C ws w e p   the same, where the header at w counts p
--   place_words C ws w e       the place of the initialiser, where the header at w becomes a for header
--   closes_words C g c b       the guard g, the close c and the line b behind it belong together
--   guarded_words C ws i w     the same of the words at the places i, w and w + 1
--   do_word C d                the line of d has the keyword do
--   opens_words C g d          the line of g is a guard, and the line of d one indent deeper
-- Assumes nothing.
use Rattle.std.specs.Prelude.{if◌then◌else◌, ℕ, zero, suc, ◌+◌, ◌-◌, ◌/◌, ◌≡◌, Bool, true, false, ◌&&◌, not, List, [], eqb, leb, ltb, length, get_or, drop, Option, None, Some}
use Rattle.definitions.specs.Lists.{or_else, any, all, part, ascii}
use Rattle.definitions.specs.Model.{Token, Line, token, line}
use Rattle.definitions.specs.Family.{fam_of}
use Rattle.definitions.specs.Statements.{is_label, has_kw}
use Rattle.definitions.specs.Condition.{condition}
use Rattle.definitions.specs.ToFor.{is_step}
use Rattle.definitions.specs.Passes.{lone_brace}
use Rattle.definitions.specs.RecoverLoops.{is_guard}
use Rattle.family.specs.Register.{names_family}
use Rattle.pseudo_types.specs.Cuts.{text_from, same_condition}
use Rattle.plan.specs.Plan.{indent_at, header_at, piece_at}
use Rattle.plan.specs.Changes.{is_plain}
use Rattle.plan.specs.ForLoop.{inits, passes, has_continue}
use Rattle.loops.specs.declared.for_loops.Ahead.{Ahead}
use Rattle.loops.specs.declared.for_loops.Ahead.TheVariants.{Init, Passing, Other}

abbrev pub source_line : List Line → ℕ → Line
source_line C w = line C (piece_at w / 4)

abbrev pub is_kept : ℕ → Bool
is_kept w = eqb (header_at w) 0 && is_plain w

pub record Ready (i : ℕ) (ws : List ℕ) : Type 0 where
  pub plain : all is_plain ws ≡ true
  pub kept : all is_kept (drop i ws) ≡ true

unfoldable pub ends_word : List Line → ℕ → ℕ → Bool
ends_word C ind w = leb (indent_at w) ind && not (is_label (source_line C w))

unfoldable pub continue_word : List Line → ℕ → Bool
continue_word C w = has_continue (source_line C w)

unfoldable pub closed_words : List Line → List ℕ → ℕ → ℕ → Bool
closed_words C ws w e =
    leb (w + 2) e && eqb (indent_at (get_or ws e 0)) (indent_at (get_or ws w 0)) && lone_brace (source_line C (get_or ws e 0))

unfoldable pub steps_words : List Line → ℕ → ℕ → Bool
steps_words C h z = eqb (indent_at z) (indent_at h + 1) && is_step (text_from (source_line C z) 1)

unfoldable pub counts_words : List Line → List ℕ → ℕ → ℕ → (Token → Bool) → Bool
counts_words C ws w e p =
    any p (or_else (condition (source_line C (get_or ws w 0)) (ascii "if")) []) && not (any (continue_word C) (part (w + 1) e ws))

abbrev pub at_indent : ℕ → ℕ → Bool
at_indent ind w = eqb (indent_at w) ind && eqb (header_at w) 0

abbrev pub is_init : Ahead → Bool
is_init Init = true
is_init Passing = false
is_init Other = false

abbrev pub is_passing : Ahead → Bool
is_passing Init = false
is_passing Passing = true
is_passing Other = false

unfoldable pub init_words : List Line → (Token → Bool) → List ℕ → ℕ → ℕ → ℕ → Option ℕ
init_words C p ws ind zero k = None
init_words C p ws ind (suc n) zero = None
init_words C p ws ind (suc n) (suc k) =
    let earlier = init_words C p ws ind n k in
    if at_indent ind (get_or ws k 0) && inits p (source_line C (get_or ws k 0)) then Some k
    else if at_indent ind (get_or ws k 0) && passes p (source_line C (get_or ws k 0)) then earlier
    else None

abbrev pub counted_words : List Line → List ℕ → ℕ → ℕ → (Token → Bool) → Option ℕ
counted_words C ws w e p = if counts_words C ws w e p then init_words C p ws (indent_at (get_or ws w 0)) 4 w else None

unfoldable pub place_words : List Line → List ℕ → ℕ → ℕ → Option ℕ
place_words C ws w e =
    let h = get_or ws w 0 in
    let z = get_or ws (e - 1) 0 in
    let p = names_family (fam_of (token (source_line C z) 0)) in
    let found = init_words C p ws (indent_at h) 4 w in
    if closed_words C ws w e && (steps_words C h z && counts_words C ws w e p) then found else None

unfoldable pub closes_words : List Line → ℕ → ℕ → ℕ → Bool
closes_words C g c b =
    eqb (indent_at c) (indent_at g + 1)
    && (eqb (indent_at b) (indent_at g) && (lone_brace (source_line C b) && same_condition (source_line C g) (source_line C c)))

unfoldable pub guarded_words : List Line → List ℕ → ℕ → ℕ → Bool
guarded_words C ws i w = ltb (w + 1) (length ws) && closes_words C (get_or ws i 0) (get_or ws w 0) (get_or ws (w + 1) 0)

unfoldable pub do_word : List Line → ℕ → Bool
do_word C d = has_kw (source_line C d) (ascii "do")

unfoldable pub opens_words : List Line → ℕ → ℕ → Bool
opens_words C g d = eqb (indent_at d) (indent_at g + 1) && is_guard (source_line C g)
