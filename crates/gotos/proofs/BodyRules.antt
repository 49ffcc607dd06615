-- The body of a goto loop, as rules for `search`, and what its words stand for.
--   form_none, form_continue, form_break, form_other, form_stays    what a piece becomes
--   word_of                     the word of a body line
--   Rewriting, rewriting        the loop over the body
--   word_parts                  the parts of the word of a line without a header
--   body_line                   the word stands for the line that `jump` gives, moved in by one
-- Assumes nothing.
use Rattle.std.specs.Prelude.{Option, None, Some}
use Prim.Native.Nat.{ℕ, ◌+◌, ◌-◌, ◌*◌, ◌/◌, ◌%◌, ◌≤◌, ◌<◌}
use mathlib.Core.Path.{◌≡◌, refl, sym, ap, ◌∙◌}
use mathlib.Core.Bool.{Bool, true, false, cond}
use mathlib.Core.List.{List}
use native.Mathlib.Omega.{arith}
use native.Mathlib.Numerals.{add-one}
use native.Mathlib.Decide.{dec_le}
use borrow.Author.Tests.{lt-ltb, le-ltb}
use lib.ListN.{length, get_or, take, set, length-set, length-take}
use lib.Seq.{take-set-lt, get_or-take}
use Rattle.std.specs.Borrow.{Bor}
use Rattle.definitions.specs.Lists.{all, part, on_part, ◌≟◌, ascii}
use Rattle.definitions.specs.Model.{Line, pseudo_line, token, line}
use Rattle.definitions.specs.Columns.{listing}
use Rattle.definitions.specs.Statements.{goto_target}
use Rattle.definitions.specs.RecoverGotoLoops.{goes_to, jump_line, jump, move_in}
use Rattle.loop_theory.proofs.Cases.{true_false}
use Rattle.plan.specs.Plan.{Form, Form.kept, Form.continued, Form.broken, Form.closed, form_of, form_tokens, piece_of, piece_tokens, indent_at, header_at, piece_at, line_of}
use Rattle.plan.specs.Source.{Source}
use Rattle.plan.proofs.Loops.{on_step, on_none, all_step, no_exit}
use Rattle.plan.proofs.Rendered.{kept_line}
use Rattle.pseudo_opt.specs.Places.{text_at}
use Rattle.pieces.specs.Pieces.{piece, origin}
use Rattle.pieces.proofs.Forms.{target_other}
use Rattle.gotos.specs.Body.{name_of, leaves, jump_form, moves_in, body_word}

-- What a piece becomes

goes_by : (p : List ℕ → Bool) (l : Line) (o : Option (List ℕ)) → goto_target l ≡ o → goes_to p l ≡ (elim o [ None ↦ false | Some t ↦ p t ])
unfolding goes_to
goes_by p l o e = rw (e, goes_to)

module _ (C : List Line) (p : ℕ) (h : List ℕ) (o : Option (Bor (List ℕ))) (f : Option ℕ) (e : text_at (origin C p) f ≡ goto_target (piece C p)) where
  pub form_none : f ≡ None → p ≡ p + jump_form h (name_of o) (piece C p)
  unfolding jump_form
  form_none q =
      let g : goto_target (piece C p) ≡ None = sym e ∙ rw q in
      rw (goes_by (λ t. t ≟ h) (piece C p) None g, goes_by (leaves (name_of o)) (piece C p) None g) (omega arith)

  module _ (j : ℕ) (q : f ≡ Some j) (i : ℕ) (a : i ≡ p / 4) (s : List ℕ) (t : s ≡ (token (line C i) j).text) (y : Bool) (z : y ≡ (s ≟ h)) where
    target : goto_target (piece C p) ≡ Some s
    target = sym e ∙ rw (q, t, a)

    is_whole : p % 4 ≡ 0
    is_whole = go (dec_le (p % 4) 0)
      where
        go : Dec (p % 4 ≤ 0) → p % 4 ≡ 0
        go (yes k) = omega arith
        go (no k) = let n : None ≡ Some s = target_other C p (λ z. k (omega arith)) ∙ target in cc

    pub form_continue : y ≡ true → (r : ℕ) → r ≡ 4 * i + 1 → r ≡ p + jump_form h (name_of o) (piece C p)
    unfolding jump_form
    form_continue g r c =
        let w : r ≡ p + 1 = omega (arith, is_whole) in
        w ∙ rw (goes_by (λ t. t ≟ h) (piece C p) (Some s) target, ← z, g)

    module _ (g : y ≡ false) where
      pub form_stays : o ≡ None → p ≡ p + jump_form h (name_of o) (piece C p)
      unfolding jump_form
      form_stays k = rw (goes_by (λ t. t ≟ h) (piece C p) (Some s) target, ← z, g, goes_by (leaves (name_of o)) (piece C p) (Some s) target, k) (omega arith)

      module _ (x : Bor (List ℕ)) (k : o ≡ Some x) (m : Bool) (w : m ≡ (s ≟ x.now)) where
        pub form_break : m ≡ true → (r : ℕ) → r ≡ 4 * i + 2 → r ≡ p + jump_form h (name_of o) (piece C p)
        unfolding jump_form
        form_break n r c =
            let d : r ≡ p + 2 = omega (arith, is_whole) in
            d ∙ rw (goes_by (λ t. t ≟ h) (piece C p) (Some s) target, ← z, g, goes_by (leaves (name_of o)) (piece C p) (Some s) target, k, ← w, n)

        pub form_other : m ≡ false → p ≡ p + jump_form h (name_of o) (piece C p)
        unfolding jump_form
        form_other n = rw (goes_by (λ t. t ≟ h) (piece C p) (Some s) target, ← z, g, goes_by (leaves (name_of o)) (piece C p) (Some s) target, k, ← w, n) (omega arith)

pub ruleset forms = (form_none, form_continue, form_stays, form_break, form_other)

pub word_of : (C : List Line) (h : List ℕ) (o : Option (List ℕ)) (w i p f : ℕ) → i ≡ indent_at w → p ≡ piece_at w → f ≡ p + jump_form h o (piece C p)
    → i + 1 + 2048 * f ≡ body_word C h o w
unfolding body_word
word_of C h o w i p f a b c = rw (c, b, a)

-- The loop

pub record Rewriting (C : List Line) (h : List ℕ) (o : Option (List ℕ)) (n a e : ℕ) (ws₀ ws : List ℕ) (k : ℕ) : Type 0 where
  pub upto : (a ≤ k) × (k ≤ e)
  pub size : length ws ≡ length ws₀
  pub tests : all moves_in (part k e (take n ws)) ≡ all moves_in (part a e (take n ws₀))
  pub left : on_part k e (body_word C h o) (take n ws) ≡ on_part a e (body_word C h o) (take n ws₀)

module _ (C : List Line) (h : List ℕ) (o : Option (List ℕ)) (n a e : ℕ) (ws₀ : List ℕ) where
  pub rewriting_start : a ≤ e → Rewriting C h o n a e ws₀ ws₀ a
  rewriting_start q = record { upto = (omega arith, q); size = refl; tests = refl; left = refl }

  module _ (ws : List ℕ) (k : ℕ) (r : Rewriting C h o n a e ws₀ ws k) where
    module _ (le : e ≤ n) (fit : n ≤ length ws₀) (lt : k < e) (i : ℕ) (d : i ≡ indent_at (get_or ws k 0)) where
      within : e ≤ length (take n ws)
      within = let s = r.size in rw length-take (omega arith)

      same_word : get_or (take n ws) k 0 ≡ get_or ws k 0
      same_word = get_or-take n ws k 0 (omega arith)

      pub rewriting_next : (i ≡ 255 → ⊥) → (v : ℕ) → v ≡ body_word C h o (get_or ws k 0) → Rewriting C h o n a e ws₀ (set ws k v) (k + 1)
      rewriting_next nz v y =
          let u = r.upto in
          let t : take n (set ws k v) ≡ set (take n ws) k v = take-set-lt n ws k v (omega arith) in
          let z : moves_in (get_or (take n ws) k 0) ≡ true = rw same_word (lt-ltb (get_or ws k 0 % 256) 255 (omega arith)) in
          record {
            upto = (omega arith, omega arith);
            size = length-set ws k v ∙ r.size;
            tests = rw (add-one, t) (sym (all_step 0 moves_in k e (take n ws) v lt within ∙ rw z) ∙ r.tests);
            left = rw (add-one, t) (on_step 0 (body_word C h o) k e (take n ws) v lt within (y ∙ ap (body_word C h o) (sym same_word)) ∙ r.left);
          }

      pub rewriting_beyond : i ≡ 255 → false ≡ all moves_in (part a e (take n ws₀))
      rewriting_beyond z =
          let y : moves_in (get_or (take n ws) k 0) ≡ false = rw same_word (le-ltb (get_or ws k 0 % 256) 255 (omega arith)) in
          sym (sym r.tests ∙ (all_step 0 moves_in k e (take n ws) 0 lt within ∙ rw y))

    there : e ≤ k → k ≡ e
    there ge = let u = r.upto in omega arith

    pub rewriting_tests : e ≤ k → true ≡ all moves_in (part a e (take n ws₀))
    unfolding all
    rewriting_tests ge = let z : e - k ≡ 0 = omega arith in sym (sym r.tests ∙ rw z)

    pub rewriting_end : e ≤ k → take n ws ≡ on_part a e (body_word C h o) (take n ws₀)
    rewriting_end ge = sym (sym r.left ∙ rw (there ge) (on_none 0 (body_word C h o) e (take n ws)))

pub ruleset rewriting = (rewriting_start, rewriting_next, rewriting_beyond, rewriting_tests, rewriting_end, no_exit)

-- What the words stand for

-- the word of a line without a header
pub word_parts : (i p : ℕ) → i < 256 → p < 4096 → (header_at (i + 2048 * p) ≡ 0) × (indent_at (i + 2048 * p) ≡ i) × (piece_at (i + 2048 * p) ≡ p)
word_parts i p h k =
    let a : (i + 2048 * p) / 256 ≡ 8 * p = omega arith in
    let b : 8 * p / 8 ≡ p = omega arith in
    (rw a (omega arith), omega arith, rw (a, b) (omega arith))

goes_same : (q : List ℕ → Bool) (l m : Line) → l.tokens ≡ m.tokens → goes_to q l ≡ goes_to q m
unfolding goes_to goto_target
goes_same q l m e = rw (e, goes_to, goto_target)

exits : (o : Option (List ℕ)) (l : Line) → goes_to (λ t. elim o [ None ↦ false | Some e ↦ t ≟ e ]) l ≡ goes_to (leaves o) l
exits None l = refl
exits (Some e) l = refl

module _ (l t x : List ℕ) (S : List Line) (R : Source S l t x) where
  piece_source : (p : ℕ) → piece_tokens S (piece_of p) ≡ (piece (listing l t x) p).tokens
  unfolding form_tokens
  piece_source p = go (form_of (p % 4))
    where
      go : (f : Form) → form_tokens f (line S (p / 4)) ≡ form_tokens f (line (listing l t x) (p / 4))
      go kept = R.tokens (p / 4)
      go continued = rw (R.tokens (p / 4))
      go broken = rw (R.tokens (p / 4))
      go closed = refl

  module _ (h : List ℕ) (o : Option (List ℕ)) (w : ℕ) (hd : header_at w ≡ 0) (room : indent_at w < 255) where
    old : line_of S w ≡ pseudo_line (line S (piece_at w / 4)).address (indent_at w) (piece_tokens S (piece_of (piece_at w)))
    old = kept_line S w hd

    goes : (q : List ℕ → Bool) → goes_to q (line_of S w) ≡ goes_to q (piece (listing l t x) (piece_at w))
    goes q = goes_same q (line_of S w) (piece (listing l t x) (piece_at w)) (ap (λ (m : Line). m.tokens) old ∙ piece_source (piece_at w))

    -- a line that leads somewhere is as it was
    whole : (q : List ℕ → Bool) → goes_to q (piece (listing l t x) (piece_at w)) ≡ true → piece_at w % 4 ≡ 0
    whole q e = go (dec_le (piece_at w % 4) 0)
      where
        go : Dec (piece_at w % 4 ≤ 0) → piece_at w % 4 ≡ 0
        go (yes z) = omega arith
        go (no z) = true_false {b = false} (sym (goes_by q (piece (listing l t x) (piece_at w)) None (sym (target_other (listing l t x) (piece_at w) (λ y. omega arith)))) ∙ e) refl

    -- the line of the new word, by its form
    new : (f : ℕ) → piece_at w + f < 4096 → line_of S (indent_at w + 1 + 2048 * (piece_at w + f))
        ≡ pseudo_line (line S ((piece_at w + f) / 4)).address (indent_at w + 1) (piece_tokens S (piece_of (piece_at w + f)))
    new f k =
        let u = word_parts (indent_at w + 1) (piece_at w + f) (omega arith) k in
        kept_line S (indent_at w + 1 + 2048 * (piece_at w + f)) u.0 ∙ rw (u.1, u.2)

    continued_line : piece_at w % 4 ≡ 0 → line_of S (indent_at w + 1 + 2048 * (piece_at w + 1)) ≡ move_in (jump_line (ascii "continue") (line_of S w))
    unfolding form_of form_tokens
    continued_line k =
        let d : (piece_at w + 1) / 4 ≡ piece_at w / 4 = omega arith in
        let m : (piece_at w + 1) % 4 ≡ 1 = omega arith in
        new 1 (omega arith) ∙ rw (old, d, m, k)

    broken_line : piece_at w % 4 ≡ 0 → line_of S (indent_at w + 1 + 2048 * (piece_at w + 2)) ≡ move_in (jump_line (ascii "break") (line_of S w))
    unfolding form_of form_tokens
    broken_line k =
        let d : (piece_at w + 2) / 4 ≡ piece_at w / 4 = omega arith in
        let m : (piece_at w + 2) % 4 ≡ 2 = omega arith in
        new 2 (omega arith) ∙ rw (old, d, m, k)

    kept_as : line_of S (indent_at w + 1 + 2048 * (piece_at w + 0)) ≡ move_in (line_of S w)
    kept_as =
        let z : piece_at w + 0 ≡ piece_at w = omega arith in
        new 0 (omega arith) ∙ rw (old, z)

    pub body_line : line_of S (body_word (listing l t x) h o w) ≡ move_in (jump h o (line_of S w))
    unfolding body_word jump_form jump
    body_line = rw (goes (λ t. t ≟ h), exits o (line_of S w), goes (leaves o)) (go (goes_to (λ t. t ≟ h) (piece (listing l t x) (piece_at w))) (goes_to (leaves o) (piece (listing l t x) (piece_at w))) refl refl)
      where
        go : (a b : Bool) → goes_to (λ t. t ≟ h) (piece (listing l t x) (piece_at w)) ≡ a → goes_to (leaves o) (piece (listing l t x) (piece_at w)) ≡ b
            → line_of S (indent_at w + 1 + 2048 * (piece_at w + cond a 1 (cond b 2 0)))
            ≡ move_in (cond a (jump_line (ascii "continue") (line_of S w)) (cond b (jump_line (ascii "break") (line_of S w)) (line_of S w)))
        go true b e f = continued_line (whole (λ t. t ≟ h) e)
        go false true e f = broken_line (whole (leaves o) f)
        go false false e f = kept_as

pub ruleset body = (forms, word_of, rewriting)
