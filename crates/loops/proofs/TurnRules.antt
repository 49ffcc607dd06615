-- The turns of the pass at their returns and calls, as rules for `search`. ws is the lent plan at entry, of which n words count.
--   guard_words                        the tests of a guard and its close
--   rebuild_calls, rebuilt_go, rebuilt_beyond    a guard rebuilt
--   closed_far, close_other, close_rebuilt       the close is at w
--   close_none, close_found            the close is looked for
--   turn_do, turn_other, turn_beyond, turn_close a turn
-- Assumes nothing.
use Rattle.std.specs.Prelude.{Option, None, Some, Ok, Err}
use Prim.Native.Nat.{ℕ, ◌+◌, ◌-◌, ◌/◌, ◌≤◌, ◌<◌}
use mathlib.Core.Path.{◌≡◌, refl, sym, ap, ap₂, subst, ◌∙◌}
use mathlib.Core.List.{List, []}
use mathlib.Core.Bool.{Bool, true, false, cond, ◌&&◌, and-false}
use native.Mathlib.Nat.{le_refl}
use native.Mathlib.Omega.{arith}
use borrow.Author.Tests.{eq-eqb, ne_eqb, lt-ltb, le-ltb, ltb-true}
use lib.Dec.{eqb, ltb}
use lib.ListN.{length, take, drop, get_or, set, length-set, length-append, length-take, length-drop}
use lib.Seq.{get_or-take, length-take-le}
use Rattle.definitions.specs.Lists.{◌>>=◌, require, or_else, all, part, position_from, remove, ◌≟◌, ends_with, ascii}
use Rattle.definitions.specs.Model.{Token, Line, no_token, line, text}
use Rattle.definitions.specs.Columns.{listing}
use Rattle.definitions.specs.Statements.{is_kw, has_kw}
use Rattle.definitions.specs.Condition.{condition}
use Rattle.definitions.specs.ToFor.{to_for}
use Rattle.definitions.specs.Passes.{go, beyond, lone_brace}
use Rattle.definitions.specs.RecoverLoops.{is_guard, guarded, unwrapped, rebuilt, close_at, close, loop_turn}
use Rattle.loop_theory.proofs.Cases.{and_split, true_false}
use Rattle.plan.specs.Plan.{indent_at, header_at, piece_at, line_of, render}
use Rattle.plan.specs.Changes.{is_out, as_while}
use Rattle.plan.specs.Source.{Source}
use Rattle.plan.specs.ForLoop.{ends}
use Rattle.plan.proofs.Rendered.{length_render, line_render, indent_line}
use Rattle.pseudo_types.specs.Cuts.{same_text, same_condition}
use Rattle.loops.specs.Words.{source_line, is_kept, Ready, ends_word, closes_words, guarded_words, do_word, opens_words}
use Rattle.loops.specs.Turns.{Answer, ToFor, cleared, unwrapped_words, TurnOf}
use Rattle.plan.specs.declared.Overflow.{Overflow}
use Rattle.loops.proofs.Lists.{all_at, all_from}
use Rattle.loops.proofs.Lines.{kept_parts, kept_reads, kw_same, condition_same}
use Rattle.loops.proofs.ForPlans.{ends_render}
use Rattle.loops.proofs.Unwrapped.{header_kept, unwrapped_ready, out_lines, moved_lines}

-- The tests

module _ (C : List Line) (g c b i j : ℕ) (p : i ≡ indent_at c) (q : j ≡ indent_at g) where
  pub closes_shallow : (i ≡ j + 1 → ⊥) → false ≡ closes_words C g c b
  unfolding closes_words
  closes_shallow n = rw (← p, ← q, ne_eqb i (j + 1) n)

  module _ (n : i ≡ j + 1) (k m : ℕ) (u : k ≡ indent_at b) (v : m ≡ indent_at g) where
    pub closes_elsewhere : (k ≡ m → ⊥) → false ≡ closes_words C g c b
    unfolding closes_words
    closes_elsewhere o = rw (← p, ← q, eq-eqb i (j + 1) n, ← u, ne_eqb k j (λ z. o (omega arith)))

    module _ (o : k ≡ m) (s : ℕ) (d : s ≡ piece_at b / 4) (y : Bool) (e : y ≡ lone_brace (line C s)) where
      pub closes_no : y ≡ false → false ≡ closes_words C g c b
      unfolding closes_words
      closes_no f = rw (← p, ← q, eq-eqb i (j + 1) n, ← u, eq-eqb k j (omega arith), ← d, ← e, f)

      pub closes_is : y ≡ true → (a w : ℕ) (r : Bool) → a ≡ piece_at g / 4 → w ≡ piece_at c / 4 → r ≡ same_condition (line C a) (line C w) → r ≡ closes_words C g c b
      unfolding closes_words
      closes_is f a w r x z h = h ∙ rw (← p, ← q, eq-eqb i (j + 1) n, ← u, eq-eqb k j (omega arith), ← d, ← e, f, x, z)

module _ (C : List Line) (ws : List ℕ) (n i w : ℕ) (iw : i < w) (wn : w < n) (le : n ≤ length ws) where
  pub guarded_short : n ≤ w + 1 → false ≡ guarded_words C (take n ws) i w
  unfolding guarded_words
  guarded_short h = rw (length-take-le n ws le, le-ltb (w + 1) n h)

  pub guarded_is : w + 1 < n → (r : Bool) → r ≡ closes_words C (get_or ws i 0) (get_or ws w 0) (get_or ws (w + 1) 0) → r ≡ guarded_words C (take n ws) i w
  unfolding guarded_words
  guarded_is h r e =
      e ∙ rw (length-take-le n ws le, lt-ltb (w + 1) n h, get_or-take n ws i 0 (omega arith), get_or-take n ws w 0 wn, get_or-take n ws (w + 1) 0 h)

module _ (C : List Line) (g d s : ℕ) where
  pub do_at : s ≡ piece_at d / 4 → (b : Bool) → b ≡ has_kw (line C s) (ascii "do") → b ≡ do_word C d
  unfolding do_word
  do_at p b e = e ∙ rw p

  module _ (i j : ℕ) (p : i ≡ indent_at d) (q : j ≡ indent_at g) where
    pub opens_other : (i ≡ j + 1 → ⊥) → false ≡ opens_words C g d
    unfolding opens_words
    opens_other n = rw (← p, ← q, ne_eqb i (j + 1) n)

    pub opens_is : i ≡ j + 1 → s ≡ piece_at g / 4 → (b : Bool) → b ≡ is_guard (line C s) → b ≡ opens_words C g d
    unfolding opens_words
    opens_is n u b e = e ∙ rw (← p, ← q, eq-eqb i (j + 1) n, u)

pub ruleset guard_words = (closes_shallow, closes_elsewhere, closes_no, closes_is, guarded_short, guarded_is, do_at, opens_other, opens_is)

-- A guard rebuilt

length_remove : {A : Type 0} (k : ℕ) (xs : List A) → k < length xs → length (remove k xs) ≡ length xs - 1
length_remove k xs h = length-append (take k xs) (drop (k + 1) xs) ∙ rw (length-take, length-drop) (omega arith)

length_cleared : (ws : List ℕ) (i w : ℕ) → i + 2 ≤ w → w < length ws → length (cleared ws i w) ≡ length ws - 2
unfolding cleared
length_cleared ws i w h lt =
    let g = as_while (get_or ws i 0) in
    let s = length-set ws i g in
    let r = length_remove w (set ws i g) (omega arith) in
    length_remove (i + 1) (remove w (set ws i g)) (omega arith) ∙ omega arith

module _ (ws : List ℕ) (n i w : ℕ) (h : i + 2 ≤ w) (wn : w + 1 < n) (le : n ≤ length ws) (ready : Ready i (take n ws)) (b : Bool)
    (e : b ≡ all is_out (part (i + 1) (w - 1) (cleared (take n ws) i w))) where
  inside : w < length (take n ws)
  inside = omega (arith, length-take-le n ws le)

  module _ (vs : List ℕ) (f : b ≡ true) (u : b ≡ true → take (n - 2) vs ≡ unwrapped_words (take n ws) i w) where
    pub rebuild_calls : (header_at (get_or vs i 0) ≡ 1) × Ready (i + 1) (take (n - 2) vs)
    rebuild_calls =
        let k = length_cleared (take n ws) i w h inside in
        let m = length-take-le n ws le in
        let z : i < length (cleared (take n ws) i w) = omega arith in (
          ap header_at (sym (get_or-take (n - 2) vs i 0 (omega arith)) ∙ ap (λ ys. get_or ys i 0) (u f)) ∙ header_kept (take n ws) i w h inside ready z,
          subst (Ready (i + 1)) (sym (u f)) (unwrapped_ready (take n ws) i w h inside ready (sym e ∙ f)),
        )

    pub rebuilt_go : (l t x : List ℕ) (m : ℕ) (us : List ℕ) → ToFor l t x i (n - 2) vs m us
        → TurnOf l t x (λ M. rebuilt (unwrapped M i w (or_else (condition (line M i) (ascii "if")) [])) i (w - 1)) n i ws (Ok (Some m)) us
    unfolding rebuilt
    rebuilt_go l t x m us d =
        record {
          after = (let a = d.fewer in omega arith, d.ready);
          turn = λ S R.
              ap (go (i + 1)) (d.lines S R ∙ ap (λ M. to_for M i) (ap (render S) (u f) ∙ moved_lines (take n ws) i w h inside ready S l t x R (sym e ∙ f)))
              ∙ rw (sym (out_lines (take n ws) i w h inside ready S l t x R) ∙ (sym e ∙ f));
        }

  pub rebuilt_beyond : {o : Overflow} → b ≡ false → (l t x us : List ℕ)
      → TurnOf l t x (λ M. rebuilt (unwrapped M i w (or_else (condition (line M i) (ascii "if")) [])) i (w - 1)) n i ws (Err o) us
  unfolding rebuilt
  rebuilt_beyond f l t x us =
      record { after = tt; turn = λ S R. rw (sym (out_lines (take n ws) i w h inside ready S l t x R) ∙ (sym e ∙ f)) }

pub ready_header : (ws : List ℕ) (n i : ℕ) → i < n → n ≤ length ws → Ready i (take n ws) → header_at (get_or ws i 0) ≡ 0
ready_header ws n i lt le ready =
    let m = length-take-le n ws le in
    ap header_at (sym (get_or-take n ws i 0 lt)) ∙ (kept_parts (get_or (take n ws) i 0) (all_at is_kept 0 i i (take n ws) ready.kept (omega arith) (omega arith))).0

-- The guard and its close, of the lines

same_tests : (o p : Option (List Token)) (A B D E : Bool)
    → (o >>= λ c. p >>= λ d. require (A && B) >>= λ _. require (D && E && (text c ≟ text d)) >>= λ _. Some c)
    ≡ cond (B && (A && (D && (E && same_text o p)))) o None
same_tests None p A B D E = sym (same_cond (B && (A && (D && (E && same_text None p)))))
  where
    same_cond : (b : Bool) → ◌≡◌ {A = Option (List Token)} (cond b None None) None
    same_cond true = refl
    same_cond false = refl
same_tests (Some c) None A B D E = go A B D E
  where
    go : (A B D E : Bool) → ◌≡◌ {A = Option (List Token)} None (cond (B && (A && (D && (E && false)))) (Some c) None)
    go A false D E = refl
    go false true D E = refl
    go true true false E = refl
    go true true true false = refl
    go true true true true = refl
same_tests (Some c) (Some d) A B D E = go A B D E (text c ≟ text d)
  where
    go : (A B D E s : Bool) → (require (A && B) >>= λ _. require (D && E && s) >>= λ _. Some c) ≡ cond (B && (A && (D && (E && s)))) (Some c) None
    go false false D E s = refl
    go false true D E s = refl
    go true false D E s = refl
    go true true false E s = refl
    go true true true false s = refl
    go true true true true false = refl
    go true true true true true = refl

module _ (S : List Line) (l t x : List ℕ) (R : Source S l t x) (ws : List ℕ) (i w : ℕ) (ready : Ready i ws) (iw : i < w) (wl : w < length ws) where
  abbrev L : List Line
  L = render S ws

  abbrev C : List Line
  C = listing l t x

  reads : (j : ℕ) → i ≤ j → j < length ws → (line L j).tokens ≡ (source_line C (get_or ws j 0)).tokens
  reads j a b = ap (λ m. m.tokens) (line_render S ws j b) ∙ kept_reads S l t x R (get_or ws j 0) (all_at is_kept 0 i j ws ready.kept a b)

  indents : (j : ℕ) → j < length ws → (line L j).indent ≡ indent_at (get_or ws j 0)
  indents j b = ap (λ m. m.indent) (line_render S ws j b) ∙ indent_line S (get_or ws j 0)

  closes_lines : w + 1 < length ws
      → (eqb (line L w).indent ((line L i).indent + 1) && (eqb (line L (w + 1)).indent (line L i).indent && (lone_brace (line L (w + 1)) && same_condition (line L i) (line L w))))
      ≡ closes_words C (get_or ws i 0) (get_or ws w 0) (get_or ws (w + 1) 0)
  unfolding closes_words
  closes_lines h =
      rw (
        indents w wl,
        indents i (omega arith),
        indents (w + 1) h,
        reads (w + 1) (omega arith) h,
        condition_same (line L i) (source_line C (get_or ws i 0)) (reads i (omega arith) (omega arith)) (ascii "if"),
        condition_same (line L w) (source_line C (get_or ws w 0)) (reads w (omega arith) wl) (ascii "while"),
      )

  words_lines : (ltb (w + 1) (length L) && (eqb (line L w).indent ((line L i).indent + 1)
      && (eqb (line L (w + 1)).indent (line L i).indent && (lone_brace (line L (w + 1)) && same_condition (line L i) (line L w)))))
      ≡ guarded_words C ws i w
  unfolding guarded_words
  words_lines = rw (length_render S ws) (go (ltb (w + 1) (length ws)) refl)
    where
      go : (b : Bool) → ltb (w + 1) (length ws) ≡ b
          → (b && (eqb (line L w).indent ((line L i).indent + 1)
          && (eqb (line L (w + 1)).indent (line L i).indent && (lone_brace (line L (w + 1)) && same_condition (line L i) (line L w)))))
          ≡ (b && closes_words C (get_or ws i 0) (get_or ws w 0) (get_or ws (w + 1) 0))
      go false e = refl
      go true e = closes_lines (ltb-true (w + 1) (length ws) e)

  guarded_lines : guarded L i w ≡ cond (guarded_words C ws i w) (condition (line L i) (ascii "if")) None
  unfolding guarded
  guarded_lines =
      same_tests (condition (line L i) (ascii "if")) (condition (line L w) (ascii "while")) (eqb (line L w).indent ((line L i).indent + 1)) (ltb (w + 1) (length L))
      (eqb (line L (w + 1)).indent (line L i).indent) (lone_brace (line L (w + 1)))
      ∙ ap (λ b. cond b (condition (line L i) (ascii "if")) None) words_lines

  pub not_guarded : guarded_words C ws i w ≡ false → close_at L i w ≡ go (i + 1) L
  unfolding close_at
  not_guarded e = rw (guarded_lines, e, close_at)

  pub is_guarded : guarded_words C ws i w ≡ true → close_at L i w ≡ rebuilt (unwrapped L i w (or_else (condition (line L i) (ascii "if")) [])) i (w - 1)
  unfolding close_at
  is_guarded e = rw (guarded_lines, e, close_at) (found_one (condition (line L i) (ascii "if")) refl)
    where
      found_one : (o : Option (List Token)) → condition (line L i) (ascii "if") ≡ o
          → elim o [ None ↦ go (i + 1) L | Some c ↦ rebuilt (unwrapped L i w c) i (w - 1) ] ≡ rebuilt (unwrapped L i w (or_else o [])) i (w - 1)
      found_one (Some c) q = refl
      found_one None q =
          let p₁ = and_split (ltb (w + 1) (length L)) _ (words_lines ∙ e) in
          let p₂ = and_split (eqb (line L w).indent ((line L i).indent + 1)) _ p₁.1 in
          let p₃ = and_split (eqb (line L (w + 1)).indent (line L i).indent) _ p₂.1 in
          let p₄ = and_split (lone_brace (line L (w + 1))) (same_condition (line L i) (line L w)) p₃.1 in
          true_false p₄.1 (ap (λ o. same_text o (condition (line L w) (ascii "while"))) q)

-- The close is at w

module _ (l t x ws : List ℕ) (n i w : ℕ) (h : i + 2 ≤ w) (wn : w < n) (le : n ≤ length ws) (ready : Ready i (take n ws)) (b : Bool)
    (e : b ≡ guarded_words (listing l t x) (take n ws) i w) where
  within : w < length (take n ws)
  within = omega (arith, length-take-le n ws le)

  pub closed_far : b ≡ true → w + 1 < n
  unfolding guarded_words
  closed_far f =
      let p = and_split (ltb (w + 1) (length (take n ws))) _ (sym e ∙ f) in
      omega (arith, ltb-true (w + 1) (length (take n ws)) p.0, length-take-le n ws le)

  pub close_other : b ≡ false → TurnOf l t x (λ M. close_at M i w) n i ws (Ok (Some n)) ws
  close_other f =
      record {
        after = (le_refl n, record { plain = ready.plain; kept = all_from is_kept i (i + 1) (take n ws) ready.kept (omega arith) });
        turn = λ S R. sym (not_guarded S l t x R (take n ws) i w ready (omega arith) within (sym e ∙ f));
      }

  pub close_rebuilt : b ≡ true → (r : Answer) (vs : List ℕ)
      → TurnOf l t x (λ M. rebuilt (unwrapped M i w (or_else (condition (line M i) (ascii "if")) [])) i (w - 1)) n i ws r vs
      → TurnOf l t x (λ M. close_at M i w) n i ws r vs
  close_rebuilt f r vs d =
      record {
        after = d.after;
        turn = λ S R. d.turn S R ∙ sym (is_guarded S l t x R (take n ws) i w ready (omega arith) within (sym e ∙ f));
      }

-- The close is looked for

module _ (l t x ws : List ℕ) (n i : ℕ) (lt : i + 1 < n) (le : n ≤ length ws) (ready : Ready i (take n ws)) (j : ℕ) (d : j ≡ indent_at (get_or ws i 0)) (r : Option ℕ)
    (f : r ≡ position_from (i + 2) (ends_word (listing l t x) (j + 1)) (take n ws)) where
  looked : (S : List Line) → Source S l t x → position_from (i + 2) (ends ((line (render S (take n ws)) i).indent + 1)) (render S (take n ws)) ≡ r
  looked S R =
      let m = length-take-le n ws le in
      let z : i < length (take n ws) = omega arith in
      ap (λ a. position_from (i + 2) (ends (a + 1)) (render S (take n ws)))
      (ap (λ m. m.indent) (line_render S (take n ws) i z) ∙ (indent_line S (get_or (take n ws) i 0) ∙ (ap indent_at (get_or-take n ws i 0 (omega arith)) ∙ sym d)))
      ∙ (ends_render S l t x R (take n ws) (i + 2) (j + 1) (all_from is_kept i (i + 2) (take n ws) ready.kept (omega arith)) ∙ sym f)

  pub close_none : r ≡ None → TurnOf l t x (λ M. close M i) n i ws (Ok None) ws
  unfolding close
  close_none q = record { after = refl; turn = λ S R. rw (looked S R, q, close) }

  pub close_found : (w : ℕ) → r ≡ Some w → (a : Answer) (vs : List ℕ) → TurnOf l t x (λ M. close_at M i w) n i ws a vs → TurnOf l t x (λ M. close M i) n i ws a vs
  unfolding close
  close_found w q a vs e = record { after = e.after; turn = λ S R. e.turn S R ∙ rw (looked S R, q, close) }

-- One turn

guard_same : (l m : Line) → l.tokens ≡ m.tokens → is_guard l ≡ is_guard m
guard_same l m e = ap (λ ts. is_kw (ascii "if") (get_or ts 0 no_token) && ends_with (ascii ") {") (text ts)) e

module _ (l t x ws : List ℕ) (n i : ℕ) (lt : i + 1 < n) (le : n ≤ length ws) (ready : Ready i (take n ws)) (b : Bool)
    (e : b ≡ do_word (listing l t x) (get_or ws (i + 1) 0)) where
  module _ (S : List Line) (R : Source S l t x) where
    abbrev K : List Line
    K = render S (take n ws)

    inner : (j : ℕ) → j ≤ i + 1 → j < length (take n ws)
    inner j h = omega (arith, length-take-le n ws le)

    at_word : (j : ℕ) → j ≤ i + 1 → line K j ≡ line_of S (get_or ws j 0)
    at_word j h = line_render S (take n ws) j (inner j h) ∙ ap (line_of S) (get_or-take n ws j 0 (omega arith))

    kept_at : (j : ℕ) → i ≤ j → j ≤ i + 1 → (line K j).tokens ≡ (source_line (listing l t x) (get_or ws j 0)).tokens
    kept_at j g h =
        ap (λ m. m.tokens) (at_word j h)
        ∙ kept_reads S l t x R (get_or ws j 0) (ap is_kept (sym (get_or-take n ws j 0 (omega arith))) ∙ all_at is_kept 0 i j (take n ws) ready.kept g (inner j h))

    pub turn_do : has_kw (line K (i + 1)) (ascii "do") ≡ b
    unfolding do_word
    turn_do = kw_same (line K (i + 1)) (source_line (listing l t x) (get_or ws (i + 1) 0)) (kept_at (i + 1) (omega arith) (omega arith)) (ascii "do") ∙ sym e

    indent_i : (line K i).indent ≡ indent_at (get_or ws i 0)
    indent_i = ap (λ m. m.indent) (at_word i (omega arith)) ∙ indent_line S (get_or ws i 0)

    turn_opens : (y : Bool) → y ≡ opens_words (listing l t x) (get_or ws i 0) (get_or ws (i + 1) 0)
        → (is_guard (line K i) && b && eqb (line K (i + 1)).indent ((line K i).indent + 1)) ≡ (y && b)
    unfolding opens_words
    turn_opens y u =
        rw (
          guard_same (line K i) (source_line (listing l t x) (get_or ws i 0)) (kept_at i (omega arith) (omega arith)),
          indent_i,
          ap (λ m. m.indent) (at_word (i + 1) (omega arith)) ∙ indent_line S (get_or ws (i + 1) 0),
          u,
        )
        (go (is_guard (source_line (listing l t x) (get_or ws i 0))) b (eqb (indent_at (get_or ws (i + 1) 0)) (indent_at (get_or ws i 0) + 1)))
      where
        go : (g d f : Bool) → (g && d && f) ≡ ((f && g) && d)
        go true true true = refl
        go true true false = refl
        go true false true = refl
        go true false false = refl
        go false d true = refl
        go false d false = refl

  same_plan : Ready (i + 1) (take n ws)
  same_plan = record { plain = ready.plain; kept = all_from is_kept i (i + 1) (take n ws) ready.kept (omega arith) }

  pub turn_plain : b ≡ false → TurnOf l t x (λ M. loop_turn M i) n i ws (Ok (Some n)) ws
  unfolding loop_turn
  turn_plain f = record { after = (le_refl n, same_plan); turn = λ S R. rw (turn_do S R, f, and-false (is_guard (line (render S (take n ws)) i))) }

  module _ (f : b ≡ true) (j : ℕ) (d : j ≡ indent_at (get_or ws i 0)) where
    pub turn_beyond : {o : Overflow} → j ≡ 255 → (vs : List ℕ) → TurnOf l t x (λ M. loop_turn M i) n i ws (Err o) vs
    unfolding loop_turn
    turn_beyond q vs = record { after = tt; turn = λ S R. rw (turn_do S R, f, indent_i S R, ← d, eq-eqb j 255 q) }

    module _ (g : j ≡ 255 → ⊥) (y : Bool) (u : y ≡ opens_words (listing l t x) (get_or ws i 0) (get_or ws (i + 1) 0)) where
      turn_by : (S : List Line) (R : Source S l t x) → loop_turn (render S (take n ws)) i ≡ cond y (close (render S (take n ws)) i) (go (i + 1) (render S (take n ws)))
      unfolding loop_turn
      turn_by S R =
          let M = render S (take n ws) in
          ap₂ (λ p q. cond p beyond (cond q (close M i) (go (i + 1) M)))
          (ap₂ ◌&&◌ (turn_do S R ∙ f) (ap (λ a. eqb a 255) (indent_i S R ∙ sym d) ∙ ne_eqb j 255 g))
          (ap (λ v. is_guard (line M i) && v && eqb (line M (i + 1)).indent ((line M i).indent + 1)) (turn_do S R) ∙ (turn_opens S R y u ∙ (ap (λ v. y && v) f ∙ swap y)))
        where
          swap : (y : Bool) → (y && true) ≡ y
          swap true = refl
          swap false = refl

      pub turn_other : y ≡ false → TurnOf l t x (λ M. loop_turn M i) n i ws (Ok (Some n)) ws
      turn_other q = record { after = (le_refl n, same_plan); turn = λ S R. sym (turn_by S R ∙ rw q) }

      pub turn_close : y ≡ true → (r : Answer) (vs : List ℕ) → TurnOf l t x (λ M. close M i) n i ws r vs → TurnOf l t x (λ M. loop_turn M i) n i ws r vs
      turn_close q r vs z = record { after = z.after; turn = λ S R. z.turn S R ∙ sym (turn_by S R ∙ rw q) }

pub ruleset loop_turns = (close_other, close_rebuilt, close_none, close_found, turn_plain, turn_beyond, turn_other, turn_close)
