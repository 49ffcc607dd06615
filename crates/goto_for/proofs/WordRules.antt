-- What is asked of single words, as rules for `search`.
--   end_words        the end of a block, and the search for the first
--   continue_words   the keyword continue, and the search for it
--   init_places      an initialiser, a line that may stand behind it, and the search for the initialiser
--   test_names       the registers of a leading test
--   head_words       the condition of a header, by its leading test
--   for_words        the tests of a for header
-- Assumes nothing.
use Rattle.std.specs.Prelude.{Option, None, Some}
use mathlib.Core.Path.{◌≡◌, refl, sym, ap, ◌∙◌}
use mathlib.Core.Bool.{Bool, true, false, ◌&&◌, ◌||◌, cond}
use mathlib.Core.List.{List}
use Prim.Native.Nat.{ℕ, suc, ◌+◌, ◌-◌, ◌≤◌, ◌<◌}
use native.Mathlib.Decide.{dec_le}
use native.Mathlib.Omega.{arith}
use Rattle.text.proofs.Bools.{bools}
use borrow.Author.Tests.{le-leb, lt-leb, eq-eqb, ne_eqb}
use lib.ListN.{get_or}
use Rattle.definitions.specs.Lists.{or_else, any, part, ascii}
use Rattle.definitions.specs.Model.{Token, Line, tok, token, Number}
use Rattle.definitions.specs.Statements.{is_label}
use Rattle.definitions.specs.Family.{Family, fam_of}
use Rattle.definitions.specs.ToFor.{is_step}
use Rattle.definitions.specs.Passes.{lone_brace}
use Rattle.definitions.specs.RecoverGotoLoops.{leading_test, one}
use Rattle.family.specs.Register.{family_of, names_family}
use Rattle.family.specs.declared.Register.{Register}
use Rattle.pseudo_types.proofs.CutRuns.{filter_any, empty_names}
use Rattle.plan.specs.Plan.{indent_at, header_at, piece_at, test_at}
use Rattle.plan.specs.ForLoop.{inits, passes, has_continue}
use Rattle.loops.specs.Words.{at_indent}
use Rattle.loops.proofs.WordRules.{first_found, first_next, first_none, part_found, part_next, part_end}
use Rattle.negate.specs.Tests.{test, test_count, test_token, test_from, test_tokens}
use Rattle.negate.proofs.TestTokens.{test_first, test_past, test_is}
use Rattle.pieces.specs.Pieces.{piece, origin}
use Rattle.pieces.specs.Counting.{piece_rest}
use Rattle.pieces.specs.Leading.{leading}
use Rattle.goto_for.specs.Words.{word_line, ends_word, continue_word, head_test, closed_words, steps_words, counts_words, init_words, counted_words, place_words}
use Rattle.goto_for.proofs.Named.{names_other, any_negated}

-- Ends of blocks

module _ (C : List Line) (ind w i : ℕ) (q : i ≡ indent_at w) where
  pub ends_deeper : ind < i → false ≡ ends_word C ind w
  unfolding ends_word
  ends_deeper h = rw (← q, lt-leb i ind h)

  module _ (s : ℕ) (p : s ≡ piece_at w) (h : i ≤ ind) (b : Bool) (e : b ≡ is_label (piece C s)) where
    pub ends_label : b ≡ true → false ≡ ends_word C ind w
    unfolding ends_word
    ends_label f = rw (← q, le-leb i ind h, ← p, ← e, f)

    pub ends_here : b ≡ false → true ≡ ends_word C ind w
    unfolding ends_word
    ends_here f = rw (← q, le-leb i ind h, ← p, ← e, f)

pub ruleset end_words = (ends_deeper, ends_label, ends_here, first_found, first_next, first_none)

-- Continue

pub continue_at : (C : List Line) (w s : ℕ) (b : Bool) → s ≡ piece_at w → b ≡ has_continue (piece C s) → b ≡ continue_word C w
unfolding continue_word
continue_at C w s b p e = e ∙ rw p

pub ruleset continue_words = (continue_at, part_found, part_next, part_end)

-- Initialisers

module _ (C : List Line) (p : Token → Bool) (ind w : ℕ) (b : Bool) (e : b ≡ at_indent ind w) where
  pub inits_away : b ≡ false → false ≡ (at_indent ind w && inits p (word_line C w))
  inits_away f = rw (← e, f)

  pub passes_away : b ≡ false → false ≡ (at_indent ind w && passes p (word_line C w))
  passes_away f = rw (← e, f)

  module _ (f : b ≡ true) (s : ℕ) (q : s ≡ piece_at w) (y : Bool) where
    pub inits_there : y ≡ inits p (piece C s) → y ≡ (at_indent ind w && inits p (word_line C w))
    inits_there g = g ∙ rw (← e, f, q)

    pub passes_there : y ≡ passes p (piece C s) → y ≡ (at_indent ind w && passes p (word_line C w))
    passes_there g = g ∙ rw (← e, f, q)

module _ (C : List Line) (p : Token → Bool) (ws : List ℕ) (ind n k : ℕ) (r : Option ℕ) (inv : r ≡ init_words C p ws ind n k) where
  pub init_over : n ≤ 0 → None ≡ r
  unfolding init_words
  init_over h = let z : n ≡ 0 = omega arith in sym (inv ∙ rw z)

  pub init_top : 0 < n → k ≡ 0 → None ≡ r
  unfolding init_words
  init_top h e = let z : n ≡ suc (n - 1) = omega arith in sym (inv ∙ rw (z, e))

  module _ (h : 0 < n) (g : k ≡ 0 → ⊥) (b : Bool) (e : b ≡ (at_indent ind (get_or ws (k - 1) 0) && inits p (word_line C (get_or ws (k - 1) 0)))) where
    look : r ≡ cond b (Some (k - 1)) (cond (at_indent ind (get_or ws (k - 1) 0) && passes p (word_line C (get_or ws (k - 1) 0))) (init_words C p ws ind (n - 1) (k - 1)) None)
    unfolding init_words
    look =
        let y : n ≡ suc (n - 1) = omega arith in
        let z : k ≡ suc (k - 1) = omega arith in
        inv ∙ ap (λ m. init_words C p ws ind m k) y ∙ ap (init_words C p ws ind (suc (n - 1))) z ∙ rw (← e)

    pub init_here : b ≡ true → Some (k - 1) ≡ r
    init_here f = sym (look ∙ rw f)

    module _ (f : b ≡ false) (c : Bool) (q : c ≡ (at_indent ind (get_or ws (k - 1) 0) && passes p (word_line C (get_or ws (k - 1) 0)))) where
      pub init_next : c ≡ true → r ≡ init_words C p ws ind (n - 1) (k - 1)
      init_next u = look ∙ rw (f, ← q, u)

      pub init_stop : c ≡ false → None ≡ r
      init_stop u = sym (look ∙ rw (f, ← q, u))

-- the search, line by line up to 4 before place w
module _ (C : List Line) (p : Token → Bool) (ws : List ℕ) (ind w k : ℕ) (h : k ≤ w) (inv : init_words C p ws ind 4 w ≡ init_words C p ws ind (4 - (w - k)) k) where
  module _ (lt : w - 4 < k) (b : Bool) (e : b ≡ (at_indent ind (get_or ws (k - 1) 0) && inits p (word_line C (get_or ws (k - 1) 0)))) where
    pub place_here : b ≡ true → Some (k - 1) ≡ init_words C p ws ind 4 w
    place_here f = init_here C p ws ind (4 - (w - k)) k (init_words C p ws ind 4 w) inv (omega arith) (λ z. omega arith) b e f

    module _ (f : b ≡ false) (c : Bool) (q : c ≡ (at_indent ind (get_or ws (k - 1) 0) && passes p (word_line C (get_or ws (k - 1) 0)))) where
      pub place_next : c ≡ true → init_words C p ws ind 4 w ≡ init_words C p ws ind (4 - (w - (k - 1))) (k - 1)
      place_next u =
          let z : 4 - (w - k) - 1 ≡ 4 - (w - (k - 1)) = omega arith in
          init_next C p ws ind (4 - (w - k)) k (init_words C p ws ind 4 w) inv (omega arith) (λ z. omega arith) b e f c q u ∙ rw z

      pub place_stop : c ≡ false → None ≡ init_words C p ws ind 4 w
      place_stop u = init_stop C p ws ind (4 - (w - k)) k (init_words C p ws ind 4 w) inv (omega arith) (λ z. omega arith) b e f c q u

  pub place_over : k ≤ w - 4 → None ≡ init_words C p ws ind 4 w
  place_over ge = go (dec_le k 0)
    where
      go : Dec (k ≤ 0) → None ≡ init_words C p ws ind 4 w
      go (yes z) = go_top (dec_le (4 - (w - k)) 0)
        where
          go_top : Dec (4 - (w - k) ≤ 0) → None ≡ init_words C p ws ind 4 w
          go_top (yes y) = init_over C p ws ind (4 - (w - k)) k (init_words C p ws ind 4 w) inv y
          go_top (no y) = init_top C p ws ind (4 - (w - k)) k (init_words C p ws ind 4 w) inv (omega arith) (omega arith)
      go (no z) = init_over C p ws ind (4 - (w - k)) k (init_words C p ws ind 4 w) inv (omega arith)

pub ruleset init_places = (inits_away, passes_away, inits_there, passes_there, place_here, place_next, place_stop, place_over)

-- The registers of a leading test

pub test_named : (l : Line) (m k z : ℕ) (u : List ℕ) (o : Option Family) (y : Bool) → z ≡ (test_token l m k).kind → u ≡ (test_token l m k).text
    → y ≡ names_family o (tok u z) → y ≡ names_family o (test_token l m k)
unfolding test_token
test_named l m k z u o y d q e = rw (q, d) at e

module _ (p : Token → Bool) (l : Line) (m k : ℕ) (r : Bool) (inv : r ≡ any p (test_from l m k)) where
  module _ (b : Bool) (h : k < m) (q : b ≡ p (test_token l m k)) where
    test_step : r ≡ (b || any p (test_from l m (k + 1)))
    unfolding any
    test_step = inv ∙ rw (test_first l m k h, ← q)

    pub test_found : b ≡ true → true ≡ r
    test_found f = sym (test_step ∙ rw f)

    pub test_next : b ≡ false → r ≡ any p (test_from l m (k + 1))
    test_next f = test_step ∙ rw f

  pub test_over : m ≤ k → false ≡ r
  unfolding any
  test_over h = sym (inv ∙ rw (test_past l m k h))

pub ruleset test_names = (test_named, test_found, test_next, test_over)

-- The condition of a header

one_names : (o : Option Family) → any (names_family o) one ≡ false
unfolding any
one_names o = rw (names_other o (tok (ascii "1") Number) refl)

module _ (C : List Line) (v : ℕ) (o : Option Family) (h : ℕ) (q : h ≡ header_at v) where
  pub head_always : (h ≡ 3 → ⊥) → false ≡ any (names_family o) (head_test C v)
  unfolding head_test
  head_always n = rw (← q, ne_eqb h 3 n) (sym (one_names o))

  module _ (e : h ≡ 3) (p : ℕ) (t : p ≡ test_at v) (f : Option ℕ) (u : leading (origin C p) f ≡ leading_test (piece C p) 0) where
    head_is : head_test C v ≡ or_else (leading (origin C p) f) one
    unfolding head_test
    head_is = rw (← q, eq-eqb h 3 e, ← t, ← u)

    pub head_nothing : f ≡ None → false ≡ any (names_family o) (head_test C v)
    head_nothing n = sym (ap (any (names_family o)) head_is ∙ rw n (one_names o))

    pub head_tested : (g : ℕ) → f ≡ Some g → (m : ℕ) → m ≡ test_count (origin C p) g → (y : Bool) → y ≡ any (names_family o) (test_tokens (origin C p) m)
        → y ≡ any (names_family o) (head_test C v)
    head_tested g n m c y d =
        d
        ∙ (ap (λ k. any (names_family o) (test_tokens (origin C p) k)) c
        ∙ (sym (filter_any (names_family o) (empty_names o) (test_tokens (origin C p) (test_count (origin C p) g)))
        ∙ (ap (any (names_family o)) (test_is (origin C p) g)
        ∙ (sym (any_negated (names_family o) (names_other o) (test (origin C p) g)) ∙ sym (ap (any (names_family o)) head_is ∙ rw n)))))

pub ruleset head_words = (head_always, head_nothing, head_tested)

-- The tests of a for header

module _ (C : List Line) (ws : List ℕ) (w e : ℕ) where
  pub closed_short : e < w + 2 → false ≡ closed_words C ws w e
  unfolding closed_words
  closed_short h = rw (lt-leb (w + 2) e h)

  module _ (h : w + 2 ≤ e) (i j : ℕ) (p : i ≡ indent_at (get_or ws e 0)) (q : j ≡ indent_at (get_or ws w 0)) where
    pub closed_other : (i ≡ j → ⊥) → false ≡ closed_words C ws w e
    unfolding closed_words
    closed_other n = rw (le-leb (w + 2) e h, ← p, ← q, ne_eqb i j n)

    pub closed_is : i ≡ j → (s : ℕ) (r : Bool) → s ≡ piece_at (get_or ws e 0) → r ≡ lone_brace (piece C s) → r ≡ closed_words C ws w e
    unfolding closed_words
    closed_is n s r u v = v ∙ rw (le-leb (w + 2) e h, ← p, ← q, eq-eqb i j n, u)

module _ (C : List Line) (h z i j : ℕ) (p : i ≡ indent_at z) (q : j ≡ indent_at h) where
  pub steps_other : (i ≡ j + 1 → ⊥) → false ≡ steps_words C h z
  unfolding steps_words
  steps_other n = rw (← p, ← q, ne_eqb i (j + 1) n)

  pub steps_is : i ≡ j + 1 → (s : ℕ) (r : Bool) → s ≡ piece_at z → r ≡ is_step (piece_rest C s) → r ≡ steps_words C h z
  unfolding steps_words
  steps_is n s r u v = v ∙ rw (← p, ← q, eq-eqb i (j + 1) n, u)

module _ (C : List Line) (ws : List ℕ) (w e : ℕ) (p : Token → Bool) (b : Bool) (u : b ≡ any p (head_test C (get_or ws w 0))) where
  pub counts_no : b ≡ false → false ≡ counts_words C ws w e p
  unfolding counts_words
  counts_no f = rw (← u, f)

  module _ (f : b ≡ true) (c : Bool) (v : c ≡ any (continue_word C) (part (w + 1) e ws)) where
    pub counts_continue : c ≡ true → false ≡ counts_words C ws w e p
    unfolding counts_words
    counts_continue g = rw (← u, f, ← v, g)

    pub counts_is : c ≡ false → true ≡ counts_words C ws w e p
    unfolding counts_words
    counts_is g = rw (← u, f, ← v, g)

module _ (C : List Line) (ws : List ℕ) (w e p : ℕ) (r : Option Register) (g : family_of (token (origin C p) 0).text r ≡ fam_of (token (piece C p) 0)) (s : List ℕ)
    (q : s ≡ (token (origin C p) 0).text) (b : Bool) (u : b ≡ counts_words C ws w e (names_family (family_of s r))) where
  same_family : family_of s r ≡ fam_of (token (piece C p) 0)
  same_family = ap (λ s. family_of s r) q ∙ g

  pub counted_no : b ≡ false → None ≡ counted_words C ws w e (names_family (fam_of (token (piece C p) 0)))
  counted_no f = rw (← same_family, ← u, f)

  pub counted_is : b ≡ true → (i : ℕ) → i ≡ indent_at (get_or ws w 0) → (o : Option ℕ) → o ≡ init_words C (names_family (family_of s r)) ws i 4 w
      → o ≡ counted_words C ws w e (names_family (fam_of (token (piece C p) 0)))
  counted_is f i d o v = v ∙ rw (← same_family, ← u, f, d)

module _ (C : List Line) (ws : List ℕ) (w e : ℕ) (b : Bool) (u : b ≡ closed_words C ws w e) where
  pub place_open : b ≡ false → None ≡ place_words C ws w e
  unfolding place_words
  place_open f = rw (← u, f)

  module _ (f : b ≡ true) (c : Bool) (v : c ≡ steps_words C (get_or ws w 0) (get_or ws (e - 1) 0)) where
    pub place_still : c ≡ false → None ≡ place_words C ws w e
    unfolding place_words
    place_still g = rw (← u, f, ← v, g)

    pub place_is : c ≡ true → (s : ℕ) → s ≡ piece_at (get_or ws (e - 1) 0) → (o : Option ℕ)
        → o ≡ counted_words C ws w e (names_family (fam_of (token (piece C s) 0))) → o ≡ place_words C ws w e
    unfolding place_words
    place_is g s q o d = d ∙ rw (← u, f, ← v, g, q)

pub ruleset for_words = (closed_short, closed_other, closed_is, steps_other, steps_is, counts_no, counts_continue, counts_is, counted_no, counted_is, place_open, place_still, place_is)

pub ruleset ends = (end_words, continue_words)

pub ruleset tests = (test_names, head_words)

pub ruleset initials = (bools, init_places)
