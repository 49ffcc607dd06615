-- A loop made, at the returns and calls of the functions that make it. ws is the lent plan at entry, of which n words count.
--   jumped_by                                    the body rewritten, by the exit's name
--   rewritten_words                              the back edge made a closing brace
--   ahead_header                                 no header stands from place h on
--   header_calls, header_made                    the header made, then `to_for`
--   rebuild_calls, rebuilt_go, rebuilt_beyond, rebuilt_deep    the whole loop
-- Assumes nothing.
use Rattle.std.specs.Prelude.{Option, Ok, Err}
use Prim.Native.Nat.{ℕ, ◌+◌, ◌-◌, ◌/◌, ◌≤◌, ◌<◌}
use mathlib.Core.Path.{◌≡◌, refl, sym, ap, ap₂, subst, ◌∙◌}
use mathlib.Core.List.{List}
use mathlib.Core.Bool.{Bool, true, false, cond, ◌&&◌, and-false}
use native.Mathlib.Omega.{arith}
use borrow.Author.Tests.{eqb-true, lt-ltb, le-ltb}
use lib.Dec.{ltb}
use lib.ListN.{length, take, get_or, set}
use lib.Seq.{get_or-take, length-take-le, take-set-lt}
use Rattle.definitions.specs.Lists.{is_some, all, part, on_part}
use Rattle.definitions.specs.Model.{Line, token, line}
use Rattle.definitions.specs.Columns.{listing}
use Rattle.definitions.specs.Statements.{is_label, label}
use Rattle.definitions.specs.ToFor.{to_for}
use Rattle.definitions.specs.Passes.{go, beyond}
use Rattle.definitions.specs.RecoverGotoLoops.{enters, exit_label, with_body, leading_test, headed, rewritten}
use Rattle.loop_theory.proofs.StillUsed.{in_place, headed_in_place}
use Rattle.plan.specs.Plan.{indent_at, header_at, piece_at, line_of, render}
use Rattle.plan.specs.Changes.{is_line, Ahead}
use Rattle.plan.specs.Source.{Source}
use Rattle.plan.proofs.Rendered.{length_render, indent_line}
use Rattle.loops.proofs.Lists.{all_at}
use Rattle.gotos.specs.Body.{moves_in, body_word}
use Rattle.gotos.specs.Headed.{headed_words, fewer}
use Rattle.gotos.proofs.EdgeRules.{line_at}
use Rattle.goto_for.specs.Answer.{ToFor}
use Rattle.goto_turns.specs.Loops.{close_word, jumped_words, body_words, with_header, Loop, Headed}
use Rattle.goto_turns.specs.Turns.{TurnOf}
use Rattle.plan.specs.declared.Overflow.{Overflow}
use Rattle.goto_turns.proofs.Addresses.{bare_line, bare_render, label_bare, enters_bare}
use Rattle.goto_turns.proofs.Bodies.{label_text, moves_lines, body_ahead, body_head, body_lines}
use Rattle.goto_turns.proofs.Headers.{tested_lines, headed_header, headed_ahead, headed_lines}

-- The body

module _ (l t x ws : List ℕ) (n h b : ℕ) (p : Loop l t x n h b ws) where
  abbrev C : List Line
  C = listing l t x

  module _ (s : ℕ) (d : s ≡ piece_at (get_or ws h 0) / 4) (g : List ℕ) (e : g ≡ (token (line C s) 0).text) (r : Bool) (vs : List ℕ) where
    head_name : g ≡ label (line (render C (take n ws)) h)
    head_name = e ∙ (label_text C (get_or ws h 0) p.labelled.label s d ∙ ap label (sym (line_at C ws n h p.labelled.inside p.labelled.fits)))

    pub jumped_by : (o : Option (List ℕ)) → o ≡ exit_label (render C (take n ws)) b → (r ≡ true → take n vs ≡ on_part (h + 1) b (body_word C g o) (take n ws))
        → r ≡ true → take n vs ≡ jumped_words C (take n ws) h b
    unfolding jumped_words
    jumped_by o q f z = f z ∙ ap₂ (λ a o. on_part (h + 1) b (body_word C a o) (take n ws)) head_name q

  pub rewritten_words : (i : ℕ) → i ≡ indent_at (get_or ws h 0) → (w : ℕ) → w ≡ close_word (get_or ws b 0) (i + 1) → (r : Bool) (vs : List ℕ)
      → (r ≡ true → take n vs ≡ jumped_words C (take n ws) h b) → r ≡ true → take n (set vs b w) ≡ body_words C (take n ws) h b
  unfolding body_words
  rewritten_words i d w e r vs f z =
      take-set-lt n vs b w p.within
      ∙ ap₂ (λ K v. set K b v) (f z)
      (e ∙ ap₂ (λ a c. close_word a (c + 1)) (sym (get_or-take n ws b 0 p.within)) (d ∙ ap indent_at (sym (get_or-take n ws h 0 p.labelled.inside))))

-- The header

pub ahead_header : (ws : List ℕ) (n h j : ℕ) → h ≤ j → j < n → n ≤ length ws → Ahead h (take n ws) → header_at (get_or ws j 0) ≡ 0
ahead_header ws n h j hj jn le ahead =
    let m = length-take-le n ws le in
    ap header_at (sym (get_or-take n ws j 0 jn)) ∙ eqb-true (header_at (get_or (take n ws) j 0)) 0 (all_at is_line 0 h j (take n ws) ahead.lines hj (omega arith))

module _ (ws : List ℕ) (n h : ℕ) (lt : h + 1 < n) (le : n ≤ length ws) (room : indent_at (get_or ws h 0) < 255) (ahead : Ahead h (take n ws))
    (y : Bool) (m : ℕ) (vs : List ℕ) (few : m ≡ n - fewer y) (made : take m vs ≡ headed_words y h (take n ws)) where
  long : h + 1 < length (take n ws)
  long = omega (arith, length-take-le n ws le)

  shallow : indent_at (get_or (take n ws) h 0) < 255
  shallow = rw (get_or-take n ws h 0 (omega arith)) room

  left : (h < m) × (m ≤ n)
  left = go y few
    where
      go : (y : Bool) → m ≡ n - fewer y → (h < m) × (m ≤ n)
      go true e = (omega arith, omega arith)
      go false e = (omega arith, omega arith)

  pub header_calls : length vs ≡ length ws → (h < m) × (m ≤ length vs) × Ahead (h + 1) (take m vs) × (header_at (get_or vs h 0) / 2 ≡ 1)
  header_calls same = (
    left.0,
    omega (arith, left.1),
    subst (Ahead (h + 1)) (sym made) (headed_ahead (take n ws) h long ahead shallow y),
    ap (λ w. header_at w / 2) (sym (get_or-take m vs h 0 left.0) ∙ ap (λ ys. get_or ys h 0) made) ∙ headed_header (take n ws) h long ahead shallow y,
  )

  pub header_made : (l t x : List ℕ) (i : ℕ) → i ≡ indent_at (get_or ws h 0) → y ≡ is_some (leading_test (line_of (listing l t x) (get_or ws (h + 1) 0)) (i + 1))
      → (k : ℕ) (us : List ℕ) → ToFor l t x h m vs k us → Headed l t x n h ws k us
  header_made l t x i d e k us f =
      record {
        fewer = omega (arith, left.1, f.fewer);
        ahead = f.ahead;
        lines = λ S R.
            f.lines S R
            ∙ ap (λ M. to_for M h)
            (ap (render S) made
            ∙ (headed_lines (take n ws) h long ahead shallow S l t x R y
            (tested_lines (take n ws) h long ahead shallow S l t x R y
            (e ∙ ap₂ (λ a c. is_some (leading_test (line_of (listing l t x) a) (c + 1))) (sym (get_or-take n ws (h + 1) 0 lt))
            (d ∙ ap indent_at (sym (get_or-take n ws h 0 (omega arith))))))
            ∙ ap (λ w. with_header (render S (take n ws)) h (indent_at w + 1)) (get_or-take n ws h 0 (omega arith))));
      }

-- The whole

module _ (l t x ws : List ℕ) (n h b : ℕ) (p : Loop l t x n h b ws) where
  size : length (take n ws) ≡ n
  size = length-take-le n ws p.labelled.fits

  module _ (S : List Line) (R : Source S l t x) where
    abbrev L : List Line
    L = render S (take n ws)

    head_line : line L h ≡ line_of S (get_or ws h 0)
    head_line = line_at S ws n h p.labelled.inside p.labelled.fits

    head_indent : (line L h).indent ≡ indent_at (get_or ws h 0)
    head_indent = ap (λ m. m.indent) head_line ∙ indent_line S (get_or ws h 0)

    head_label : is_label (line L h) ≡ true
    head_label =
        ap is_label head_line
        ∙ (label_bare (line_of S (get_or ws h 0)) (line_of (listing l t x) (get_or ws h 0)) (bare_line S l t x R (get_or ws h 0)) ∙ p.labelled.label)

    entered : enters L h b ≡ false
    entered = enters_bare L (render (listing l t x) (take n ws)) (bare_render S l t x R (take n ws)) h b ∙ p.alone

    rewritten_by : (y : Bool) → (all (λ l. ltb l.indent 255) (part (h + 1) b L) && ltb ((line L h).indent + 1) 255) ≡ y
        → rewritten L h b ≡ cond y (headed (with_body L h b) h ((line L h).indent + 1)) beyond
    unfolding rewritten
    rewritten_by y e = rw e

  pub rebuilt_deep : (i : ℕ) → i ≡ indent_at (get_or ws h 0) → i ≡ 254 → (o : Overflow) (vs : List ℕ) → TurnOf l t x (λ M. rewritten M h b) n h ws (Err o) vs
  rebuilt_deep i d e o vs =
      record {
        after = tt;
        turn = λ S R.
            let K = render S (take n ws) in
            let deep : ltb ((line K h).indent + 1) 255 ≡ false = le-ltb ((line K h).indent + 1) 255 (omega (arith, head_indent S R)) in
            sym (rewritten_by S R false (rw deep (and-false (all (λ l. ltb l.indent 255) (part (h + 1) b K)))));
      }

  module _ (r : Bool) (e : r ≡ all moves_in (part (h + 1) b (take n ws))) where
    pub rebuilt_beyond : r ≡ false → (o : Overflow) (vs : List ℕ) → TurnOf l t x (λ M. rewritten M h b) n h ws (Err o) vs
    rebuilt_beyond f o vs =
        record {
          after = tt;
          turn = λ S R. sym (rewritten_by S R false (rw (moves_lines S (take n ws) (h + 1) b, ← e, f)));
        }

    module _ (f : r ≡ true) (vs : List ℕ) (w : r ≡ true → take n vs ≡ body_words (listing l t x) (take n ws) h b) where
      hb : h < b
      hb = let z = p.far in omega arith

      bl : b < length (take n ws)
      bl = let z = p.within in omega (arith, size)

      room : indent_at (get_or (take n ws) h 0) < 255
      room = rw (get_or-take n ws h 0 p.labelled.inside) p.room

      same_head : get_or vs h 0 ≡ get_or ws h 0
      same_head =
          sym (get_or-take n vs h 0 p.labelled.inside)
          ∙ (ap (λ ys. get_or ys h 0) (w f)
          ∙ (body_head l t x (take n ws) h b hb bl p.labelled.ahead room (sym e ∙ f) ∙ get_or-take n ws h 0 p.labelled.inside))

      pub rebuild_calls : (indent_at (get_or vs h 0) < 255) × Ahead h (take n vs)
      rebuild_calls = (
        rw same_head p.room,
        subst (Ahead h) (sym (w f)) (body_ahead l t x (take n ws) h b hb bl p.labelled.ahead room (sym e ∙ f)),
      )

      pub rebuilt_go : (i : ℕ) → i ≡ indent_at (get_or ws h 0) → (i ≡ 254 → ⊥) → (k : ℕ) (us : List ℕ) → Headed l t x n h vs k us
          → TurnOf l t x (λ M. rewritten M h b) n h ws (Ok k) us
      rebuilt_go i d ne k us z =
          record {
            after = (z.fewer, z.ahead);
            turn = λ S R.
                let K = render S (take n ws) in
                let shallow : ltb ((line K h).indent + 1) 255 ≡ true = lt-ltb ((line K h).indent + 1) 255 (omega (arith, head_indent S R, p.room)) in
                ap (go (h + 1)) (z.lines S R
                ∙ ap₂ (λ M c. to_for (with_header M h (c + 1)) h)
                (ap (render S) (w f) ∙ body_lines l t x (take n ws) h b hb bl p.labelled.ahead room (sym e ∙ f) S R)
                (ap indent_at same_head ∙ sym (head_indent S R)))
                ∙ sym (rewritten_by S R true (rw (moves_lines S (take n ws) (h + 1) b, ← e, f) shallow)
                ∙ (headed_in_place K h b hb (omega (arith, length_render S (take n ws), bl)) ((line K h).indent + 1) (head_label S R) (entered S R)
                ∙ made K ((line K h).indent + 1)));
          }
        where
          made : (K : List Line) (c : ℕ) → in_place (with_body K h b) h c ≡ go (h + 1) (to_for (with_header (with_body K h b) h c) h)
          made K c = unfold with_header in refl
