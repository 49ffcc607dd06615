-- The header of a goto loop, as rules for `search`, and what its word stands for.
--   leads_by                            a leading test by the word's indent and piece
--   leads_other, leads_yes, leads_no    the same by the code's answers
--   head_is                             the header's word
--   fewer_yes, fewer_no                 how many lines are left
--   made_tested, made_plain             the plan with the header
--   head_line_always, head_line_leading the word stands for the header of `headed`
-- Assumes nothing.
use Rattle.std.specs.Prelude.{Option, None, Some}
use Prim.Native.Nat.{ℕ, ◌+◌, ◌-◌, ◌*◌, ◌/◌, ◌<◌}
use mathlib.Core.Path.{◌≡◌, refl, sym, ap, ◌∙◌}
use mathlib.Core.Bool.{Bool, true, false, ◌&&◌, cond}
use mathlib.Core.List.{List}
use native.Mathlib.Omega.{arith}
use borrow.Author.Tests.{eq-eqb, ne_eqb}
use lib.Dec.{eqb}
use lib.ListN.{get_or, take, set}
use lib.Seq.{take-set-lt, get_or-take}
use Rattle.definitions.specs.Lists.{◌>>=◌, require, is_some, or_else, remove, position, first, last, part, on_first, starts_with, ends_with, ascii}
use Rattle.definitions.specs.Model.{Token, Line, pseudo_line, token, line, text}
use Rattle.definitions.specs.Statements.{is_kw, merge}
use Rattle.definitions.specs.Condition.{cut_front, cut, negate_cond}
use Rattle.definitions.specs.Passes.{while_head}
use Rattle.definitions.specs.RecoverGotoLoops.{leading_test, one}
use Rattle.plan.specs.Plan.{piece_of, piece_line, piece_tokens, test_tokens, while_tokens, header_tokens, header_of, planned, plan_of, word, indent_at, header_at, piece_at, line_of}
use Rattle.plan.proofs.Rendered.{kept_line, plan_word}
use Rattle.pieces.specs.Pieces.{piece, origin}
use Rattle.pieces.specs.Leading.{leading as test_of}
use Rattle.gotos.specs.Headed.{head_word, headed_words, fewer}

-- A leading test

by_indent : (a b : Option ℕ) (i d : ℕ) (ts : List Token) → leading_test (pseudo_line a i ts) d ≡ cond (eqb i (d + 1)) (leading_test (pseudo_line b 1 ts) 0) None
unfolding leading_test
by_indent a b i d ts = go (eqb i (d + 1))
  where
    go : (e : Bool) → (require ((e && is_kw (ascii "if") (token (pseudo_line a i ts) 0)) && ends_with (ascii ") break;") (text ts)) >>= λ _.
        position (is_kw (ascii "break")) ts >>= λ g. first (part 1 g ts) >>= λ opening. require (starts_with (ascii " (") opening.text) >>= λ _.
        last (on_first (cut_front 2) (part 1 g ts)) >>= λ end. require (ends_with (ascii ") ") end.text) >>= λ _. Some (negate_cond (cut 2 2 (part 1 g ts))))
        ≡ cond e (require (is_kw (ascii "if") (token (pseudo_line a i ts) 0) && ends_with (ascii ") break;") (text ts)) >>= λ _.
        position (is_kw (ascii "break")) ts >>= λ g. first (part 1 g ts) >>= λ opening. require (starts_with (ascii " (") opening.text) >>= λ _.
        last (on_first (cut_front 2) (part 1 g ts)) >>= λ end. require (ends_with (ascii ") ") end.text) >>= λ _. Some (negate_cond (cut 2 2 (part 1 g ts)))) None
    go true = refl
    go false = refl

module _ (C : List Line) (w d i : ℕ) (hd : header_at w ≡ 0) (k : i ≡ indent_at w) where
  pub leads_by : leading_test (line_of C w) d ≡ cond (eqb (indent_at w) (d + 1)) (leading_test (piece C (piece_at w)) 0) None
  leads_by = ap (λ m. leading_test m d) (kept_line C w hd) ∙ by_indent (line C (piece_at w / 4)).address None (indent_at w) d (piece_tokens C (piece_of (piece_at w)))

  pub leads_other : (i ≡ d + 1 → ⊥) → false ≡ is_some (leading_test (line_of C w) d)
  leads_other f =
      let z : leading_test (line_of C w) d ≡ None = leads_by ∙ rw (← k, ne_eqb i (d + 1) f) in
      rw z

  module _ (f : i ≡ d + 1) (p : ℕ) (q : p ≡ piece_at w) (r : Option ℕ) (e : test_of (origin C p) r ≡ leading_test (piece C p) 0) where
    here : leading_test (line_of C w) d ≡ test_of (origin C p) r
    here = leads_by ∙ rw (← k, eq-eqb i (d + 1) f, ← q) (sym e)

    pub leads_yes : (g : ℕ) → r ≡ Some g → true ≡ is_some (leading_test (line_of C w) d)
    leads_yes g z = rw (here, z)

    pub leads_no : r ≡ None → false ≡ is_some (leading_test (line_of C w) d)
    leads_no z = rw (here, z)

pub ruleset leads = (leads_other, leads_yes, leads_no)

-- The word and the plan

pub head_is : (v k t i p : ℕ) → i ≡ indent_at v → p ≡ piece_at v → i + 1 + 256 * (k + 8 * (p + 4096 * t)) ≡ head_word v k t
unfolding head_word
head_is v k t i p a b = rw (a, b)

pub fewer_yes : (n : ℕ) (b : Bool) → b ≡ true → n - 1 ≡ n - fewer b
fewer_yes n b e = rw e

pub fewer_no : (n : ℕ) (b : Bool) → b ≡ false → n ≡ n - fewer b
fewer_no n b e = rw e (omega arith)

module _ (ws : List ℕ) (n h : ℕ) (b : Bool) (lt : h + 1 < n) where
  pub made_plain : b ≡ false → (v : ℕ) → v ≡ head_word (get_or ws h 0) 2 0 → take n (set ws h v) ≡ headed_words b h (take n ws)
  unfolding headed_words
  made_plain e v q = take-set-lt n ws h v (omega arith) ∙ rw (e, get_or-take n ws h 0 (omega arith), q)

  pub made_tested : b ≡ true → (v p : ℕ) (vs : List ℕ) → v ≡ head_word (get_or ws h 0) 3 p → p ≡ piece_at (get_or ws (h + 1) 0)
      → take (n - 1) vs ≡ remove (h + 1) (take n (set ws h v)) → take (n - 1) vs ≡ headed_words b h (take n ws)
  unfolding headed_words
  made_tested e v p vs q r s = s ∙ rw (take-set-lt n ws h v (omega arith), e, get_or-take n ws h 0 (omega arith), get_or-take n ws (h + 1) 0 lt, q, r)

-- What the header's word stands for

head_parts : (v k t : ℕ) → head_word v k t ≡ word (indent_at v + 1) k (piece_at v) t 0 0
unfolding head_word
head_parts v k t = let z : t + 0 ≡ t = omega arith in rw z

module _ (S : List Line) (v : ℕ) (hd : header_at v ≡ 0) (room : indent_at v < 255) where
  head_line : (k t : ℕ) → k < 8 → t < 4096 → line_of S (head_word v k t)
      ≡ planned S (record { indent = indent_at v + 1; piece = piece_of (piece_at v); header = header_of k (piece_of t) (piece_of 0) (piece_of 0) })
  head_line k t a b =
      ap (line_of S) (head_parts v k t) ∙ ap (planned S) (plan_word (indent_at v + 1) k (piece_at v) t 0 0 (omega arith) a (omega arith) b (omega arith) (omega arith))

  pub head_line_always : line_of S (head_word v 2 0) ≡ pseudo_line (line_of S v).address ((line_of S v).indent + 1) (merge (while_head one))
  unfolding planned plan_of header_tokens while_tokens test_tokens header_of
  head_line_always = head_line 2 0 (omega arith) (omega arith)

  pub head_line_leading : (t : ℕ) → t < 4096
      → line_of S (head_word v 3 t) ≡ pseudo_line (line_of S v).address ((line_of S v).indent + 1) (merge (while_head (or_else (leading_test (piece_line S (piece_of t)) 0) one)))
  unfolding planned plan_of header_tokens while_tokens test_tokens header_of
  head_line_leading t h = head_line 3 t (omega arith) h

pub ruleset headers = (leads, head_is)
