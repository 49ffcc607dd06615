-- The turns of the pass at their returns and calls. ws is the lent plan at entry, of which n words count.
--   loop_short, loop_entered, loop_calls, loop_rebuilt    the back edge is at b
--   find_inside, find_none, find_at                       the back edge is looked for
--   turn_plain, turn_beyond, turn_calls, turn_loop        a turn
-- Assumes nothing.
use Rattle.std.specs.Prelude.{Option, Some, None, Result, Ok, Err}
use Prim.Native.Nat.{ℕ, ◌+◌, ◌/◌, ◌≤◌, ◌<◌}
use mathlib.Core.Path.{◌≡◌, refl, sym, ap, ap₂, ◌∙◌}
use mathlib.Core.List.{List}
use mathlib.Core.Bool.{Bool, true, false, cond, ◌&&◌, not}
use native.Mathlib.Nat.{le_refl}
use native.Mathlib.Omega.{arith}
use borrow.Author.Tests.{eq-eqb, ne_eqb, lt-ltb, le-ltb}
use lib.ListN.{length, take, get_or}
use lib.Seq.{length-take-le}
use Rattle.definitions.specs.Model.{Line, token, line}
use Rattle.definitions.specs.Columns.{listing}
use Rattle.definitions.specs.Questions.{question_2}
use Rattle.definitions.specs.Statements.{is_label, label}
use Rattle.definitions.specs.Passes.{go}
use Rattle.definitions.specs.RecoverGotoLoops.{back_edge, enters, rewritten, looped, goto_turn}
use Rattle.loop_theory.proofs.GotoSteps.{back_edge_inside}
use Rattle.plan.specs.Plan.{indent_at, piece_at, line_of, render}
use Rattle.plan.specs.Changes.{is_line, Ahead}
use Rattle.plan.specs.Source.{Source}
use Rattle.plan.proofs.Rendered.{length_render, indent_line}
use Rattle.loops.proofs.Lists.{all_from}
use Rattle.gotos.specs.Edges.{back_from}
use Rattle.gotos.proofs.EdgeRules.{back_edge_is, line_at}
use Rattle.goto_turns.specs.Loops.{Labelled, Loop}
use Rattle.goto_turns.specs.Turns.{loop_at, TurnOf}
use Rattle.plan.specs.declared.Overflow.{Overflow}
use Rattle.goto_turns.proofs.Addresses.{bare_line, bare_render, label_bare, head_bare, back_bare, enters_bare}
use Rattle.goto_turns.proofs.Bodies.{label_text}

-- the plan as it is
stays : (n h : ℕ) (ws : List ℕ) → Ahead h (take n ws) → (n ≤ n) × Ahead (h + 1) (take n ws)
stays n h ws ahead = (le_refl n, record { words = ahead.words; lines = all_from is_line h (h + 1) (take n ws) ahead.lines (omega arith) })

-- The back edge is at b

module _ (l t x ws : List ℕ) (n h b : ℕ) (p : Labelled l t x n h ws) where
  pub loop_short : b ≤ h + 1 → TurnOf l t x (λ M. loop_at M h b) n h ws (Ok n) ws
  unfolding loop_at
  loop_short ge = record { after = stays n h ws p.ahead; turn = λ S R. rw (le-ltb (h + 1) b ge) }

  module _ (far : h + 1 < b) (y : Bool) (e : y ≡ enters (render (listing l t x) (take n ws)) h b) where
    loop_by : (S : List Line) → Source S l t x
        → loop_at (render S (take n ws)) h b ≡ cond (not y) (rewritten (render S (take n ws)) h b) (go (h + 1) (render S (take n ws)))
    unfolding loop_at
    loop_by S R =
        let K = render S (take n ws) in
        ap₂ (λ u v. cond (u && not v) (rewritten K h b) (go (h + 1) K)) (lt-ltb (h + 1) b far)
        (enters_bare K (render (listing l t x) (take n ws)) (bare_render S l t x R (take n ws)) h b ∙ sym e)

    pub loop_entered : y ≡ true → TurnOf l t x (λ M. loop_at M h b) n h ws (Ok n) ws
    loop_entered f = record { after = stays n h ws p.ahead; turn = λ S R. sym (loop_by S R ∙ rw f) }

    module _ (f : y ≡ false) where
      pub loop_calls : b < n → indent_at (get_or ws h 0) < 255 → Loop l t x n h b ws
      loop_calls bn room = record { labelled = p; far = far; within = bn; alone = sym e ∙ f; room = room }

      pub loop_rebuilt : (r : Result ℕ Overflow) (vs : List ℕ) → TurnOf l t x (λ M. rewritten M h b) n h ws r vs → TurnOf l t x (λ M. loop_at M h b) n h ws r vs
      loop_rebuilt r vs d = record { after = d.after; turn = λ S R. d.turn S R ∙ sym (loop_by S R ∙ rw f) }

-- The back edge is looked for

module _ (l t x ws : List ℕ) (n h : ℕ) (p : Labelled l t x n h ws) (s : ℕ) (d : s ≡ piece_at (get_or ws h 0) / 4) (g : List ℕ)
    (e : g ≡ (token (line (listing l t x) s) 0).text) (i : ℕ) (u : i ≡ indent_at (get_or ws h 0)) (r : Option ℕ)
    (f : r ≡ back_from (render (listing l t x) (take n ws)) g i (i + 1) (h + 1)) where
  abbrev K : List Line
  K = render (listing l t x) (take n ws)

  head_at : (S : List Line) → line (render S (take n ws)) h ≡ line_of S (get_or ws h 0)
  head_at S = line_at S ws n h p.inside p.fits

  indent_of : (S : List Line) → (line (render S (take n ws)) h).indent ≡ i
  indent_of S = ap (λ m. m.indent) (head_at S) ∙ (indent_line S (get_or ws h 0) ∙ sym u)

  name_of : label (line K h) ≡ g
  name_of = ap label (head_at (listing l t x)) ∙ sym (e ∙ label_text (listing l t x) (get_or ws h 0) p.label s d)

  edge_of : (M : List Line) → label (line M h) ≡ g → (line M h).indent ≡ i
      → ((j : ℕ) → back_from M g i (i + 1) j ≡ back_from K g i (i + 1) j) → back_edge M h ≡ r
  edge_of M a c q =
      back_edge_is M h ∙ (ap₂ (λ z k. back_from M z k (k + 1) (h + 1)) a c ∙ (q (h + 1) ∙ sym f))

  edge_lines : (S : List Line) → Source S l t x → back_edge (render S (take n ws)) h ≡ r
  edge_lines S R =
      let M = render S (take n ws) in
      let same = bare_render S l t x R (take n ws) in
      edge_of M (head_bare M K same h ∙ name_of) (indent_of S) (back_bare M K same g i (i + 1))

  pub find_inside : (b : ℕ) → r ≡ Some b → (h < b) × (b < n)
  find_inside b q =
      let z = back_edge_inside K h b (edge_of K name_of (indent_of (listing l t x)) (λ j. refl) ∙ rw q) in
      (z.0, omega (arith, z.1, length_render (listing l t x) (take n ws), length-take-le n ws p.fits))

  pub find_none : r ≡ None → TurnOf l t x (λ M. looped M h) n h ws (Ok n) ws
  unfolding looped
  find_none q = record { after = stays n h ws p.ahead; turn = λ S R. rw (edge_lines S R, q, looped) }

  pub find_at : (b : ℕ) → r ≡ Some b → (a : Result ℕ Overflow) (vs : List ℕ) → TurnOf l t x (λ M. loop_at M h b) n h ws a vs
      → TurnOf l t x (λ M. looped M h) n h ws a vs
  unfolding looped loop_at
  find_at b q a vs z = record { after = z.after; turn = λ S R. z.turn S R ∙ rw (edge_lines S R, q, looped) }

-- One turn

module _ (l t x ws : List ℕ) (n h : ℕ) (lt : h < n) (le : n ≤ length ws) (ahead : Ahead h (take n ws)) (y : Bool)
    (e : y ≡ is_label (line_of (listing l t x) (get_or ws h 0))) where
  label_of : (S : List Line) → Source S l t x → is_label (line (render S (take n ws)) h) ≡ y
  label_of S R =
      ap is_label (line_at S ws n h lt le)
      ∙ (label_bare (line_of S (get_or ws h 0)) (line_of (listing l t x) (get_or ws h 0)) (bare_line S l t x R (get_or ws h 0)) ∙ sym e)

  pub turn_plain : y ≡ false → TurnOf l t x (λ M. goto_turn M h) n h ws (Ok n) ws
  unfolding goto_turn
  turn_plain f = record { after = stays n h ws ahead; turn = λ S R. rw (label_of S R, f) }

  module _ (f : y ≡ true) (i : ℕ) (d : i ≡ indent_at (get_or ws h 0)) where
    depth_of : (S : List Line) → (line (render S (take n ws)) h).indent ≡ i
    depth_of S = ap (λ m. m.indent) (line_at S ws n h lt le) ∙ (indent_line S (get_or ws h 0) ∙ sym d)

    pub turn_beyond : i ≡ 255 → (o : Overflow) (vs : List ℕ) → TurnOf l t x (λ M. goto_turn M h) n h ws (Err o) vs
    unfolding goto_turn
    turn_beyond q o vs = record { after = tt; turn = λ S R. rw (label_of S R, f, depth_of S, eq-eqb i 255 q) }

    module _ (q : i ≡ 255 → ⊥) where
      pub turn_calls : n ≤ 1024 → question_2 l t x ≡ true → Labelled l t x n h ws × (indent_at (get_or ws h 0) < 255)
      turn_calls few ok = (record { inside = lt; few = few; fits = le; formed = ok; label = sym e ∙ f; ahead = ahead }, omega arith)

      pub turn_loop : (r : Result ℕ Overflow) (vs : List ℕ) → TurnOf l t x (λ M. looped M h) n h ws r vs → TurnOf l t x (λ M. goto_turn M h) n h ws r vs
      unfolding goto_turn
      turn_loop r vs z = record { after = z.after; turn = λ S R. z.turn S R ∙ rw (label_of S R, f, depth_of S, ne_eqb i 255 q) }
