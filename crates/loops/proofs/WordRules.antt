-- What is asked of single words, as rules for `search`.
--   end_words        the end of a block, and the search for the first
--   continue_words   the keyword continue, and the search for it
--   init_lines       an initialiser, and a line that may stand behind it
--   init_places      the same of a word, and the search for the initialiser
--   for_words        the tests of a for header
-- Assumes nothing.
use Rattle.std.specs.Prelude.{eqb, Option, None, Some}
use mathlib.Core.Path.{◌≡◌, refl, sym, ap, ◌∙◌}
use mathlib.Core.Bool.{Bool, true, false, ◌&&◌, ◌||◌, cond}
use mathlib.Core.List.{List, [], ◌∷◌}
use Prim.Native.Nat.{ℕ, suc, ◌+◌, ◌-◌, ◌/◌, ◌≤◌, ◌<◌}
use native.Mathlib.Decide.{dec_le}
use native.Mathlib.Omega.{arith}
use borrow.Author.Tests.{le-leb, lt-leb, eq-eqb, ne_eqb}
use Rattle.std.proofs.lemmas.Bool.{eqb-false}
use lib.ListN.{length, get_or, take, drop}
use lib.Seq.{get_or-take, length-take-le}
use Rattle.definitions.specs.Lists.{or_else, any, part, position_from, ascii}
use Rattle.definitions.specs.Model.{Token, Line, no_token, token, line}
use Rattle.definitions.specs.Statements.{is_label, has_kw, call_at, assignment}
use Rattle.definitions.specs.Family.{Family, fam_of, names}
use Rattle.definitions.specs.Condition.{condition}
use Rattle.definitions.specs.ToFor.{is_step}
use Rattle.definitions.specs.Passes.{lone_brace}
use Rattle.text.proofs.Parts.{part_step, part_none}
use Rattle.text.proofs.Loops.{position_found, position_next, position_end}
use Rattle.assignment.specs.Assignments.{side, assigned}
use Rattle.assignment.specs.declared.Side.{Side}
use Rattle.family.specs.Register.{names_family}
use Rattle.pseudo_types.specs.Cuts.{text_from}
use Rattle.plan.specs.Plan.{indent_at, piece_at}
use Rattle.plan.specs.ForLoop.{inits, passes}
use Rattle.loops.specs.declared.for_loops.Ahead.{Ahead}
use Rattle.loops.specs.declared.for_loops.Ahead.TheVariants.{Init, Passing, Other}
use Rattle.loops.specs.Words.{source_line, at_indent, is_init, is_passing, ends_word, continue_word, closed_words, steps_words, counts_words, init_words, counted_words, place_words}

-- Ends of blocks

module _ (C : List Line) (ind w i : ℕ) (q : i ≡ indent_at w) where
  pub ends_deeper : ind < i → false ≡ ends_word C ind w
  unfolding ends_word
  ends_deeper h = rw (← q, lt-leb i ind h)

  module _ (s : ℕ) (p : s ≡ piece_at w / 4) (h : i ≤ ind) (b : Bool) (e : b ≡ is_label (line C s)) where
    pub ends_label : b ≡ true → false ≡ ends_word C ind w
    unfolding ends_word
    ends_label f = rw (← q, le-leb i ind h, ← p, ← e, f)

    pub ends_here : b ≡ false → true ≡ ends_word C ind w
    unfolding ends_word
    ends_here f = rw (← q, le-leb i ind h, ← p, ← e, f)

module _ (p : ℕ → Bool) (ws : List ℕ) (n j : ℕ) (r : Option ℕ) (inv : r ≡ position_from j p (take n ws)) (le : n ≤ length ws) where
  size : n ≡ length (take n ws)
  size = sym (length-take-le n ws le)

  module _ (b : Bool) (h : j < n) (e : b ≡ p (get_or ws j 0)) where
    word : b ≡ p (get_or (take n ws) j 0)
    word = e ∙ ap p (sym (get_or-take n ws j 0 h))

    pub first_found : b ≡ true → Some j ≡ r
    first_found f = position_found p (take n ws) j n size r inv 0 b h word f

    pub first_next : b ≡ false → r ≡ position_from (j + 1) p (take n ws)
    first_next f = position_next p (take n ws) j n size r inv 0 b h word f

  pub first_none : n ≤ j → None ≡ r
  first_none h = position_end p (take n ws) j n size r inv h

pub ruleset end_words = (ends_deeper, ends_label, ends_here, first_found, first_next, first_none)

-- Continue

pub continue_at : (C : List Line) (w s : ℕ) (b : Bool) → s ≡ piece_at w / 4 → b ≡ has_kw (line C s) (ascii "continue") → b ≡ continue_word C w
unfolding continue_word
continue_at C w s b p e = e ∙ rw p

module _ (p : ℕ → Bool) (ws : List ℕ) (e j : ℕ) (r : Bool) (inv : r ≡ any p (part j e ws)) (le : e ≤ length ws) where
  module _ (b : Bool) (h : j < e) (q : b ≡ p (get_or ws j 0)) where
    part_first : r ≡ (b || any p (part (j + 1) e ws))
    unfolding any
    part_first = inv ∙ rw (part_step 0 ws j e h le, ← q)

    pub part_found : b ≡ true → true ≡ r
    part_found f = sym (part_first ∙ rw f)

    pub part_next : b ≡ false → r ≡ any p (part (j + 1) e ws)
    part_next f = part_first ∙ rw f

  pub part_end : e ≤ j → false ≡ r
  unfolding any
  part_end h = sym (inv ∙ rw (part_none ws j e h))

pub ruleset continue_words = (continue_at, part_found, part_next, part_end)

-- Initialisers

no_family : (t : Token) → (t.kind ≡ 1 → ⊥) → fam_of t ≡ None
unfolding fam_of
no_family t h = rw (ne_eqb t.kind 1 h)

pub names_other : (o : Option Family) (t : Token) (k : ℕ) → k ≡ t.kind → (k ≡ 1 → ⊥) → false ≡ names_family o t
unfolding names
names_other None t k e h = refl
names_other (Some f) t k e h = rw (no_family t (λ z. h (e ∙ z)), names)

pub names_kind : (o : Option Family) (t : Token) (b : Bool) → b ≡ eqb t.kind 1 → b ≡ false → b ≡ names_family o t
names_kind o t b e f = f ∙ names_other o t t.kind refl (eqb-false t.kind 1 (sym e ∙ f))

-- where the first token does not, the others do
rest_whole : (p : Token → Bool) (ts : List Token) → p (get_or ts 0 no_token) ≡ false → any p (drop 1 ts) ≡ any p ts
unfolding any
rest_whole p [] e = refl
rest_whole p (t ∷ ts) e = rw e

module _ (p : Token → Bool) (l : Line) (a : Option Side) (e : assigned l a ≡ assignment l) where
  pub inits_none : a ≡ None → false ≡ inits p l
  unfolding inits
  inits_none q = rw (← e, q, inits)

  pub passes_none : a ≡ None → false ≡ passes p l
  unfolding passes
  passes_none q = rw (← e, q, passes)

  module _ (u : Side) (q : a ≡ Some u) (b : Bool) (n : b ≡ p (token l 0)) where
    pub inits_other : b ≡ false → false ≡ inits p l
    unfolding inits
    inits_other f = rw (← e, q, inits, ← n, f)

    module _ (f : b ≡ true) (c : Bool) (m : c ≡ any p (side l u.from u.to)) where
      pub inits_reads : c ≡ true → false ≡ inits p l
      unfolding inits
      inits_reads g = rw (← e, q, inits, ← n, f, ← m, g)

      pub inits_is : c ≡ false → true ≡ inits p l
      unfolding inits
      inits_is g = rw (← e, q, inits, ← n, f, ← m, g)

    pub passes_own : b ≡ true → false ≡ passes p l
    unfolding passes
    passes_own f = rw (← e, q, passes, ← n, f)

    module _ (f : b ≡ false) (c : Bool) (m : c ≡ any p (drop 1 l.tokens)) where
      whole : c ≡ any p l.tokens
      whole = m ∙ rest_whole p l.tokens (sym n ∙ f)

      pub passes_names : c ≡ true → false ≡ passes p l
      unfolding passes
      passes_names g = rw (← e, q, passes, ← n, f, ← whole, g)

      module _ (g : c ≡ false) (o : Option ℕ) (uc : o ≡ call_at l) where
        pub passes_calls : (k : ℕ) → o ≡ Some k → false ≡ passes p l
        unfolding passes
        passes_calls k t = rw (← e, q, passes, ← n, f, ← whole, g, ← uc, t)

        pub passes_is : o ≡ None → true ≡ passes p l
        unfolding passes
        passes_is t = rw (← e, q, passes, ← n, f, ← whole, g, ← uc, t)

pub ruleset init_lines = (inits_none, inits_other, inits_reads, inits_is, passes_none, passes_own, passes_names, passes_calls, passes_is)

-- Their search

module _ (C : List Line) (p : Token → Bool) (ind w : ℕ) (b : Bool) (e : b ≡ at_indent ind w) where
  pub inits_away : b ≡ false → false ≡ (at_indent ind w && inits p (source_line C w))
  inits_away f = rw (← e, f)

  pub passes_away : b ≡ false → false ≡ (at_indent ind w && passes p (source_line C w))
  passes_away f = rw (← e, f)

  module _ (f : b ≡ true) (s : ℕ) (q : s ≡ piece_at w / 4) (y : Bool) where
    pub inits_there : y ≡ inits p (line C s) → y ≡ (at_indent ind w && inits p (source_line C w))
    inits_there g = g ∙ rw (← e, f, q)

    pub passes_there : y ≡ passes p (line C s) → y ≡ (at_indent ind w && passes p (source_line C w))
    passes_there g = g ∙ rw (← e, f, q)

module _ (C : List Line) (p : Token → Bool) (ws : List ℕ) (ind n k : ℕ) (r : Option ℕ) (inv : r ≡ init_words C p ws ind n k) where
  init_over : n ≤ 0 → None ≡ r
  unfolding init_words
  init_over h = let z : n ≡ 0 = omega arith in sym (inv ∙ rw z)

  init_top : 0 < n → k ≡ 0 → None ≡ r
  unfolding init_words
  init_top h e = let z : n ≡ suc (n - 1) = omega arith in sym (inv ∙ rw (z, e))

  module _ (h : 0 < n) (g : k ≡ 0 → ⊥) (a : Ahead) (e : is_init a ≡ (at_indent ind (get_or ws (k - 1) 0) && inits p (source_line C (get_or ws (k - 1) 0))))
      (q : is_passing a ≡ (at_indent ind (get_or ws (k - 1) 0) && passes p (source_line C (get_or ws (k - 1) 0)))) where
    look : r ≡ cond (is_init a) (Some (k - 1)) (cond (is_passing a) (init_words C p ws ind (n - 1) (k - 1)) None)
    unfolding init_words
    look =
        let y : n ≡ suc (n - 1) = omega arith in
        let z : k ≡ suc (k - 1) = omega arith in
        inv ∙ ap (λ m. init_words C p ws ind m k) y ∙ ap (init_words C p ws ind (suc (n - 1))) z ∙ rw (← e, ← q)

    init_here : a ≡ Init → Some (k - 1) ≡ r
    init_here f = sym (look ∙ rw f)

    init_next : a ≡ Passing → r ≡ init_words C p ws ind (n - 1) (k - 1)
    init_next f = look ∙ rw f

    init_stop : a ≡ Other → None ≡ r
    init_stop f = sym (look ∙ rw f)

-- the search, line by line up to 4 before place w
module _ (C : List Line) (p : Token → Bool) (ws : List ℕ) (ind w k : ℕ) (h : k ≤ w) (inv : init_words C p ws ind 4 w ≡ init_words C p ws ind (4 - (w - k)) k) where
  module _ (lt : w - 4 < k) (a : Ahead) (e : is_init a ≡ (at_indent ind (get_or ws (k - 1) 0) && inits p (source_line C (get_or ws (k - 1) 0))))
      (q : is_passing a ≡ (at_indent ind (get_or ws (k - 1) 0) && passes p (source_line C (get_or ws (k - 1) 0)))) where
    pub place_here : a ≡ Init → Some (k - 1) ≡ init_words C p ws ind 4 w
    place_here f = init_here C p ws ind (4 - (w - k)) k (init_words C p ws ind 4 w) inv (omega arith) (λ z. omega arith) a e q f

    pub place_next : a ≡ Passing → init_words C p ws ind 4 w ≡ init_words C p ws ind (4 - (w - (k - 1))) (k - 1)
    place_next f =
        let z : 4 - (w - k) - 1 ≡ 4 - (w - (k - 1)) = omega arith in
        init_next C p ws ind (4 - (w - k)) k (init_words C p ws ind 4 w) inv (omega arith) (λ z. omega arith) a e q f ∙ rw z

    pub place_stop : a ≡ Other → None ≡ init_words C p ws ind 4 w
    place_stop f = init_stop C p ws ind (4 - (w - k)) k (init_words C p ws ind 4 w) inv (omega arith) (λ z. omega arith) a e q f

  pub place_over : k ≤ w - 4 → None ≡ init_words C p ws ind 4 w
  place_over ge = go (dec_le k 0)
    where
      go : Dec (k ≤ 0) → None ≡ init_words C p ws ind 4 w
      go (yes z) = go_top (dec_le (4 - (w - k)) 0)
        where
          go_top : Dec (4 - (w - k) ≤ 0) → None ≡ init_words C p ws ind 4 w
          go_top (yes y) = init_over C p ws ind (4 - (w - k)) k (init_words C p ws ind 4 w) inv y
          go_top (no y) = init_top C p ws ind (4 - (w - k)) k (init_words C p ws ind 4 w) inv (omega arith) (omega arith)
      go (no z) = init_over C p ws ind (4 - (w - k)) k (init_words C p ws ind 4 w) inv (omega arith)

pub ruleset init_places = (inits_away, passes_away, inits_there, passes_there, place_here, place_next, place_stop, place_over)

-- The tests of a for header

module _ (C : List Line) (ws : List ℕ) (w e : ℕ) where
  pub closed_short : e < w + 2 → false ≡ closed_words C ws w e
  unfolding closed_words
  closed_short h = rw (lt-leb (w + 2) e h)

  module _ (h : w + 2 ≤ e) (i j : ℕ) (p : i ≡ indent_at (get_or ws e 0)) (q : j ≡ indent_at (get_or ws w 0)) where
    pub closed_other : (i ≡ j → ⊥) → false ≡ closed_words C ws w e
    unfolding closed_words
    closed_other n = rw (le-leb (w + 2) e h, ← p, ← q, ne_eqb i j n)

    pub closed_is : i ≡ j → (s : ℕ) (r : Bool) → s ≡ piece_at (get_or ws e 0) / 4 → r ≡ lone_brace (line C s) → r ≡ closed_words C ws w e
    unfolding closed_words
    closed_is n s r u v = v ∙ rw (le-leb (w + 2) e h, ← p, ← q, eq-eqb i j n, u)

module _ (C : List Line) (h z i j : ℕ) (p : i ≡ indent_at z) (q : j ≡ indent_at h) where
  pub steps_other : (i ≡ j + 1 → ⊥) → false ≡ steps_words C h z
  unfolding steps_words
  steps_other n = rw (← p, ← q, ne_eqb i (j + 1) n)

  pub steps_is : i ≡ j + 1 → (s : ℕ) (r : Bool) → s ≡ piece_at z / 4 → r ≡ is_step (text_from (line C s) 1) → r ≡ steps_words C h z
  unfolding steps_words
  steps_is n s r u v = v ∙ rw (← p, ← q, eq-eqb i (j + 1) n, u)

module _ (C : List Line) (ws : List ℕ) (w e : ℕ) (p : Token → Bool) (s : ℕ) (q : s ≡ piece_at (get_or ws w 0) / 4) (b : Bool)
    (u : b ≡ any p (or_else (condition (line C s) (ascii "if")) [])) where
  pub counts_no : b ≡ false → false ≡ counts_words C ws w e p
  unfolding counts_words
  counts_no f = rw (← q, ← u, f)

  module _ (f : b ≡ true) (c : Bool) (v : c ≡ any (continue_word C) (part (w + 1) e ws)) where
    pub counts_continue : c ≡ true → false ≡ counts_words C ws w e p
    unfolding counts_words
    counts_continue g = rw (← q, ← u, f, ← v, g)

    pub counts_is : c ≡ false → true ≡ counts_words C ws w e p
    unfolding counts_words
    counts_is g = rw (← q, ← u, f, ← v, g)

module _ (C : List Line) (ws : List ℕ) (w e : ℕ) (b : Bool) (u : b ≡ closed_words C ws w e) where
  pub place_open : b ≡ false → None ≡ place_words C ws w e
  unfolding place_words
  place_open f = rw (← u, f)

  module _ (f : b ≡ true) (c : Bool) (v : c ≡ steps_words C (get_or ws w 0) (get_or ws (e - 1) 0)) where
    pub place_still : c ≡ false → None ≡ place_words C ws w e
    unfolding place_words
    place_still g = rw (← u, f, ← v, g)

    pub place_is : c ≡ true → (s : ℕ) → s ≡ piece_at (get_or ws (e - 1) 0) / 4 → (o : Option ℕ)
        → o ≡ counted_words C ws w e (names_family (fam_of (token (line C s) 0))) → o ≡ place_words C ws w e
    unfolding place_words
    place_is g s q o d = d ∙ rw (← u, f, ← v, g, q)

pub ruleset for_words = (closed_short, closed_other, closed_is, steps_other, steps_is, counts_no, counts_continue, counts_is, place_open, place_still, place_is)
