-- `for_loop` cut into what a pass asks of one line or of a few, in the order in which the code asks. p says whether a token names the stepped
-- register's family.
--   inits p m, passes p m      line m is an initialiser; is a line that may stand between it and the header
--   init_from p L ind n k      `initialiser` over p
--   ends ind m                 line m ends a block at indent ind
--   has_continue m             line m has the keyword continue
--   for_tests L w e c p        what is asked of the header at w with condition c, of the body and of its close at e, but for the initialiser
--   for_made L w e k c         the header at w made a for header with the initialiser at k
-- Assumes nothing.
use Rattle.std.specs.Prelude.{if◌then◌else◌, ℕ, zero, suc, ◌+◌, ◌-◌, Bool, false, ◌&&◌, not, List, eqb, leb, drop, set, Option, None, Some}
use Rattle.definitions.specs.Lists.{is_some, any, part, remove, ascii}
use Rattle.definitions.specs.Model.{Token, Line, pseudo_line, line, text}
use Rattle.definitions.specs.Statements.{has_kw, is_label, call_at, assignment}
use Rattle.definitions.specs.ToFor.{is_step, for_head}
use Rattle.definitions.specs.Passes.{lone_brace}

unfoldable pub inits : (Token → Bool) → Line → Bool
inits p m = elim (assignment m) [ None ↦ false | Some a ↦ p a.lhs && not (any p a.expr) ]

unfoldable pub passes : (Token → Bool) → Line → Bool
passes p m = elim (assignment m) [ None ↦ false | Some a ↦ not (p a.lhs) && (not (any p m.tokens) && not (is_some (call_at m))) ]

unfoldable pub init_from : (Token → Bool) → List Line → ℕ → ℕ → ℕ → Option ℕ
init_from p L ind zero k = None
init_from p L ind (suc n) zero = None
init_from p L ind (suc n) (suc k) =
    let earlier = init_from p L ind n k in
    if eqb (line L k).indent ind && inits p (line L k) then Some k
    else if eqb (line L k).indent ind && passes p (line L k) then earlier
    else None

abbrev pub ends : ℕ → Line → Bool
ends ind m = leb m.indent ind && not (is_label m)

abbrev pub has_continue : Line → Bool
has_continue m = has_kw m (ascii "continue")

abbrev pub closed_body : List Line → ℕ → ℕ → Bool
closed_body L w e = leb (w + 2) e && eqb (line L e).indent (line L w).indent && lone_brace (line L e)

abbrev pub steps_body : List Line → ℕ → ℕ → Bool
steps_body L w e = eqb (line L (e - 1)).indent ((line L w).indent + 1) && is_step (text (drop 1 (line L (e - 1)).tokens))

abbrev pub counts_body : List Line → ℕ → ℕ → List Token → (Token → Bool) → Bool
counts_body L w e c p = any p c && not (any has_continue (part (w + 1) e L))

abbrev pub for_tests : List Line → ℕ → ℕ → List Token → (Token → Bool) → Bool
for_tests L w e c p = closed_body L w e && (steps_body L w e && counts_body L w e c p)

abbrev pub for_made : List Line → ℕ → ℕ → ℕ → List Token → List Line
for_made L w e k c =
    remove k (set (remove (e - 1) L) w
    (pseudo_line (line L w).address (line L w).indent (for_head (line L k).tokens c (line L (e - 1)).tokens)))
