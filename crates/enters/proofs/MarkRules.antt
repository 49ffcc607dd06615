-- Marks of lines, as rules for `search`.
--   contains_of, mark_other, mark_none, mark_goto, mark_symbol    the mark of a line
--   marks_start, marks_next, marks_end               the marks of all lines
--   own_header, own_other, own_past, own_here        the mark of a line that is kept
--   quiet_kept, over_unread, over_read               a piece, and a header's test
--   silent_line, silent_while, silent_test, silent_first, silent_for    what a mark answers
--   goes_marked                                      a line whose mark says where its goto leads
--   scan_silent                                      a word that is passed over
-- Assumes nothing.
use Rattle.std.specs.Prelude.{Option, None, Some}
use mathlib.Core.Path.{◌≡◌, refl, sym, ap, ◌∙◌}
use mathlib.Core.Bool.{Bool, true, false, cond, ◌&&◌}
use mathlib.Core.List.{List}
use Prim.Native.Nat.{ℕ, ◌+◌, ◌-◌, ◌/◌, ◌%◌, ◌≤◌, ◌<◌}
use native.Mathlib.Decide.{dec_le, dec_lt}
use native.Mathlib.Omega.{arith}
use borrow.Author.Tests.{eq-eqb, ne_eqb, eqb-true, lt-ltb, le-ltb, ltb-true}
use lib.Dec.{eqb, ltb}
use lib.ListN.{length, get_or, set, drop, length-set}
use lib.Seq.{get_or-set_same, get_or-set_other}
use Rattle.definitions.specs.Lists.{any, all, contains, position, ◌≟◌, ascii}
use Rattle.definitions.specs.Model.{Token, Line, pseudo_line, token, line}
use Rattle.definitions.specs.Columns.{listing}
use Rattle.definitions.specs.Statements.{first_symbol, goto_target}
use Rattle.definitions.specs.ToFor.{popped}
use Rattle.definitions.specs.RecoverGotoLoops.{goes_to}
use Rattle.pseudo_opt.proofs.Passes.{seeks}
use Rattle.text.proofs.Bools.{bools}
use Rattle.loop_theory.proofs.Cases.{and_split}
use Rattle.plan.specs.Plan.{header_at, piece_at, test_at, initialiser_at, step_at, line_of}
use Rattle.plan.specs.Changes.{is_line, is_goto}
use Rattle.pseudo_opt.specs.Places.{text_at}
use Rattle.pieces.specs.Pieces.{piece, origin, Says}
use Rattle.pieces.specs.declared.piece.Piece.{Piece}
use Rattle.pieces.specs.declared.piece.Piece.TheVariants.{Kept, Continued, Broken, Closed}
use Rattle.pieces.proofs.Forms.{kept_piece}
use Rattle.goto_targets.specs.Seek.{Seek.looking, seek}
use Rattle.goto_targets.specs.Conditions.{over}
use Rattle.enters.specs.Inside.{names, goes_inside}
use Rattle.enters.specs.Marks.{has_g, place_mark, Mark, Marked, quiet, quiet_over, own_mark, silent}
use Rattle.goto_targets.proofs.SeekLaws.{target_is, seek_one}
use Rattle.goto_targets.proofs.HeaderRules.{while_target, for_target, line_target}
use Rattle.enters.proofs.EnterRules.{any_next, goto_at, names_at, goes, scans}
use Rattle.enters.proofs.MarkLaws.{marked_none, marked_unknown, marked_goto, marked_symbol, clean_seek, clean_popped, clean_over, quiet_clean}

-- The mark of a line

pub contains_of : (r : Bool) (b : ℕ) (s t : List ℕ) → r ≡ contains b s → s ≡ t → r ≡ contains b t
contains_of r b s t e q = e ∙ rw q

module _ (l : Line) where
  pub mark_other : Mark l 2
  mark_other = marked_unknown l

  module _ (f : Option ℕ) (e : f ≡ position has_g l.tokens) where
    pub mark_none : f ≡ None → Mark l 0
    mark_none q = marked_none l (sym e ∙ rw q)

    module _ (g : ℕ) (q : f ≡ Some g) (s : List ℕ) (d : s ≡ (token l g).text) (b : Bool) (h : b ≡ (s ≟ ascii "goto")) (y : b ≡ true)
        (o : Option ℕ) (u : text_at l o ≡ first_symbol (drop (g + 1) l.tokens)) where
      at : position has_g l.tokens ≡ Some g
      at = sym e ∙ rw q

      is : ((token l g).text ≟ ascii "goto") ≡ true
      is = rw (← d) (sym h ∙ y)

      pub mark_goto : o ≡ None → Mark l 1
      mark_goto z = marked_goto l g at is

      pub mark_symbol : (j : ℕ) → o ≡ Some j → (r : ℕ) → r ≡ place_mark j → Mark l r
      mark_symbol j z r c = rw c (go (dec_lt j 65533))
        where
          go : Dec (j < 65533) → Mark l (place_mark j)
          go (yes k) = rw (lt-ltb j 65533 k) (marked_symbol l g at is j (sym u ∙ rw z))
          go (no k) = rw (le-ltb j 65533 (omega arith)) (marked_unknown l)

pub ruleset marks = (mark_other, mark_none, mark_goto, mark_symbol)

-- All lines

-- the marks of the first n lines
pub record Marking (C : List Line) (ms₀ ms : List ℕ) (n : ℕ) : Type 0 where
  pub same : length ms ≡ length ms₀
  pub done : (i : ℕ) → i < n → Mark (line C i) (get_or ms i 0)

module _ (C : List Line) (ms₀ : List ℕ) where
  pub marks_start : Marking C ms₀ ms₀ 0
  marks_start = record { same = refl; done = λ i h. absurd (omega arith) }

  pub marks_next : (ms : List ℕ) (n : ℕ) → Marking C ms₀ ms n → (l : List ℕ) → n < length l → length l ≤ 1024 → length ms₀ ≡ 1024 → (v : ℕ) → Mark (line C n) v → Marking C ms₀ (set ms n v) (n + 1)
  marks_next ms n M l lt few wide v e =
      record { same = length-set ms n v ∙ M.same; done = λ i h. go i h (dec_lt i n) }
    where
      go : (i : ℕ) → i < n + 1 → Dec (i < n) → Mark (line C i) (get_or (set ms n v) i 0)
      go i h (yes k) = rw (get_or-set_other ms n i v 0 (omega arith)) (M.done i k)
      go i h (no k) =
          let z : i ≡ n = omega arith in
          rw (z, get_or-set_same ms n v 0 (omega (arith, M.same))) e

pub marks_end : (l t x ms₀ ms : List ℕ) (n : ℕ) → Marking (listing l t x) ms₀ ms n → length l ≤ n → length ms₀ ≡ 1024 → Marked l t x ms
marks_end l t x ms₀ ms n M ge e = record { size = M.same ∙ e; marks = λ i h. M.done i (omega arith) }

pub ruleset markings = (marks_start, marks_next, marks_end)

-- What a mark answers

not_kept : (p : ℕ) (y : Piece) → Says p y → ((i : ℕ) → y ≡ Kept i → ⊥) → p % 4 ≡ 0 → ⊥
not_kept p (Kept i) s n e = n i refl
not_kept p (Continued i) s n e = omega (arith, s.form)
not_kept p (Broken i) s n e = omega (arith, s.form)
not_kept p (Closed i) s n e = omega (arith, s.form)

module _ (l ms : List ℕ) (w : ℕ) (b : Bool) (q : b ≡ is_line w) where
  pub own_header : b ≡ false → 0 ≡ own_mark l ms w
  unfolding own_mark
  own_header n = rw (← q, n)

  module _ (z : b ≡ true) (p : ℕ) (d : p ≡ piece_at w) where
    own_cut : (p % 4 ≡ 0 → ⊥) → 0 ≡ own_mark l ms w
    unfolding own_mark
    own_cut n = rw (← q, z, ← d, ne_eqb (p % 4) 0 n)

    pub own_other : (y : Piece) → Says p y → ((i : ℕ) → y ≡ Kept i → ⊥) → 0 ≡ own_mark l ms w
    own_other y s n = own_cut (not_kept p y s n)

    module _ (i : ℕ) (s : Says p (Kept i)) where
      pub own_past : length l ≤ i → 0 ≡ own_mark l ms w
      unfolding own_mark
      own_past n = rw (← q, z, ← d, eq-eqb (p % 4) 0 s.form, ← s.line, le-ltb i (length l) n)

      pub own_here : i < length l → (r : ℕ) → r ≡ get_or ms i 0 → r ≡ own_mark l ms w
      unfolding own_mark
      own_here n r e = e ∙ sym (rw (← q, z, ← d, eq-eqb (p % 4) 0 s.form, ← s.line, lt-ltb i (length l) n))

pub own_room : (p i : ℕ) → Says p (Kept i) → p < 4096 → i < 1024
own_room p i s h = omega (arith, s.line)

pub ruleset owns = (own_header, own_other, own_past, own_here, own_room)

module _ (ms : List ℕ) (p : ℕ) (m : ℕ) (q : m ≡ get_or ms (p / 4) 0) where
  pub quiet_kept : (i : ℕ) → Says p (Kept i) → (r : Bool) → r ≡ eqb m 0 → r ≡ quiet ms p
  unfolding quiet
  quiet_kept i s r e = rw (← q, eq-eqb (p % 4) 0 s.form) (e ∙ go (eqb m 0))
    where
      go : (b : Bool) → b ≡ cond b true false
      go true = refl
      go false = refl

module _ (ms : List ℕ) (h t : ℕ) where
  pub over_unread : (h % 2 ≡ 1 → ⊥) → true ≡ quiet_over ms h t
  unfolding quiet_over
  over_unread n = rw (ne_eqb (h % 2) 1 n)

  pub over_read : h % 2 ≡ 1 → (r : Bool) → r ≡ quiet ms t → r ≡ quiet_over ms h t
  unfolding quiet_over
  over_read e r q = rw (eq-eqb (h % 2) 1 e) q

module _ (ms : List ℕ) (w h : ℕ) (q : h ≡ header_at w) where
  pub silent_line : h ≡ 0 → (p : ℕ) → p ≡ piece_at w → (r : Bool) → r ≡ quiet ms p → r ≡ silent ms w
  unfolding silent
  silent_line z p d r e = e ∙ rw (d, ← q, eq-eqb h 0 z)

  module _ (n : h ≡ 0 → ⊥) (t : ℕ) (d : t ≡ test_at w) (o : Bool) (g : o ≡ quiet_over ms h t) where
    pub silent_while : h < 4 → o ≡ silent ms w
    unfolding silent
    silent_while lt = g ∙ rw (d, ← q, ne_eqb h 0 n, lt-ltb h 4 lt)

    module _ (ge : 4 ≤ h) where
      pub silent_test : o ≡ false → false ≡ silent ms w
      unfolding silent
      silent_test f = sym (rw (← q, ne_eqb h 0 n, le-ltb h 4 ge, ← d, ← g, f))

      module _ (y : o ≡ true) (a : ℕ) (k : a ≡ initialiser_at w) (i : Bool) (c : i ≡ quiet ms a) where
        pub silent_first : i ≡ false → false ≡ silent ms w
        unfolding silent
        silent_first f = sym (rw (← q, ne_eqb h 0 n, le-ltb h 4 ge, ← d, ← g, y, ← k, ← c, f))

        pub silent_for : i ≡ true → (z : ℕ) → z ≡ step_at w → (r : Bool) → r ≡ quiet ms z → r ≡ silent ms w
        unfolding silent
        silent_for f z u r e = e ∙ sym (rw (← q, ne_eqb h 0 n, le-ltb h 4 ge, ← d, ← g, y, ← k, ← c, f, ← u))

pub ruleset silents = (silent_line, silent_while, silent_test, silent_first, silent_for)

-- Lines that are passed over

module _ (l t x ms : List ℕ) (M : Marked l t x ms) where
  abbrev C : List Line
  C = listing l t x

  over_none : (k p : ℕ) → quiet_over ms k p ≡ true → looking ≡ seek looking (over C k p)
  unfolding quiet_over
  over_none k p e = go (dec_le (k % 2) 0)
    where
      go : Dec (k % 2 ≤ 0) → looking ≡ seek looking (over C k p)
      go (yes h) = rw (ne_eqb (k % 2) 1 (λ q. omega arith)) (sym (seek_one looking))
      go (no h) =
          let z : k % 2 ≡ 1 = omega arith in
          rw (eq-eqb (k % 2) 1 z) (sym (clean_over (piece C p) (quiet_clean l t x ms M p (rw (eq-eqb (k % 2) 1 z) at e))))

  popped_none : (p : ℕ) → quiet ms p ≡ true → looking ≡ seek looking (popped (piece C p).tokens)
  popped_none p e = sym (clean_popped (piece C p).tokens (quiet_clean l t x ms M p e))

  silent_none : (w : ℕ) → is_goto w ≡ true → silent ms w ≡ true → None ≡ goto_target (line_of C w)
  unfolding silent
  silent_none w g s = go (dec_le (header_at w) 0) (dec_lt (header_at w) 4)
    where
      lined : (h : header_at w ≡ 0) → quiet ms (piece_at w) ≡ true → None ≡ goto_target (line_of C w)
      lined h e =
          line_target C w (header_at w) refl h (piece_at w) refl None
          (sym (target_is (piece C (piece_at w)) ∙ rw (clean_seek (piece C (piece_at w)).tokens (quiet_clean l t x ms M (piece_at w) e))))

      go : Dec (header_at w ≤ 0) → Dec (header_at w < 4) → None ≡ goto_target (line_of C w)
      go (yes h) d = let z : header_at w ≡ 0 = omega arith in lined z (rw (eq-eqb (header_at w) 0 z) at s)
      go (no h) (yes f) =
          let n : header_at w ≡ 0 → ⊥ = λ e. h (omega arith) in
          while_target C w (header_at w) refl g n (test_at w) refl f looking
          (over_none (header_at w) (test_at w) (rw (ne_eqb (header_at w) 0 n, lt-ltb (header_at w) 4 f) at s)) None refl
      go (no h) (no f) =
          let n : header_at w ≡ 0 → ⊥ = λ e. h (omega arith) in
          let a = and_split (quiet_over ms (header_at w) (test_at w)) _ (rw (ne_eqb (header_at w) 0 n, le-ltb (header_at w) 4 (omega arith)) at s) in
          let b = and_split (quiet ms (initialiser_at w)) (quiet ms (step_at w)) a.1 in
          for_target C w (header_at w) refl g n (test_at w) refl (omega arith) (omega arith) looking (initialiser_at w) refl (popped_none (initialiser_at w) b.0)
          looking (over_none (header_at w) (test_at w) a.0) (step_at w) refl looking (popped_none (step_at w) b.1) None refl

  goes_silent : (ls : List ℕ) (w : ℕ) → is_goto w ≡ true → silent ms w ≡ true → goes_inside C ls w ≡ false
  unfolding goes_to
  goes_silent ls w g s = rw (← silent_none w g s, goes_to)

  pub scan_silent : (ls ws : List ℕ) (k : ℕ) → any (goes_inside C ls) ws ≡ any (goes_inside C ls) (drop k ws) → k < length ws → all is_goto ws ≡ true
      → (b : Bool) → b ≡ silent ms (get_or ws k 0) → b ≡ true → any (goes_inside C ls) ws ≡ any (goes_inside C ls) (drop (k + 1) ws)
  scan_silent ls ws k inv lt g b q f =
      any_next (goes_inside C ls) ws k inv lt false (sym (goes_silent ls (get_or ws k 0) (goto_at ws k g lt) (sym q ∙ f))) refl

  -- the mark of a line that is kept says where its goto leads
  module _ (w m : ℕ) (e : m ≡ own_mark l ms w) (lt : 2 < m) where
    kept : (header_at w ≡ 0) × ((piece_at w % 4 ≡ 0) × ((piece_at w / 4 < length l) × (m ≡ get_or ms (piece_at w / 4) 0)))
    unfolding own_mark
    kept = go (eqb (header_at w) 0) refl (eqb (piece_at w % 4) 0) refl (ltb (piece_at w / 4) (length l)) refl e
      where
        go : (a : Bool) → eqb (header_at w) 0 ≡ a → (b : Bool) → eqb (piece_at w % 4) 0 ≡ b → (c : Bool) → ltb (piece_at w / 4) (length l) ≡ c
            → m ≡ cond (a && (b && c)) (get_or ms (piece_at w / 4) 0) 0
            → (header_at w ≡ 0) × ((piece_at w % 4 ≡ 0) × ((piece_at w / 4 < length l) × (m ≡ get_or ms (piece_at w / 4) 0)))
        go true h true i true j e = (eqb-true (header_at w) 0 h, (eqb-true (piece_at w % 4) 0 i, (ltb-true (piece_at w / 4) (length l) j, e)))
        go true h true i false j e = absurd (omega arith)
        go true h false i c j e = absurd (omega arith)
        go false h b i c j e = absurd (omega arith)

    target_there : Some (token (origin C (piece_at w)) (m - 3)).text ≡ goto_target (line_of C w)
    target_there =
        line_target C w (header_at w) refl kept.0 (piece_at w) refl (Some (token (origin C (piece_at w)) (m - 3)).text)
        (sym (ap goto_target_of (kept_piece C (piece_at w) kept.1.0) ∙ found_there))
      where
        goto_target_of : List Token → Option (List ℕ)
        goto_target_of ts = goto_target (pseudo_line None 1 ts)

        found_there : goto_target_of (origin C (piece_at w)).tokens ≡ Some (token (origin C (piece_at w)) (m - 3)).text
        found_there = unfold goto_target in (M.marks (piece_at w / 4) kept.1.1.0).target (rw (← kept.1.1.1) lt) ∙ rw (← kept.1.1.1)

    pub goes_marked : (i : ℕ) → i ≡ piece_at w / 4 → (s : List ℕ) → s ≡ (token (line C i) (m - 3)).text → (ls : List ℕ) (r : Bool) → r ≡ any (names C s) ls → r ≡ goes_inside C ls w
    unfolding goes_to
    goes_marked i d s q ls r g = g ∙ rw (← target_there, goes_to, q, d)

pub ruleset quiets = (quiet_kept, over_unread, over_read)

pub ruleset marking = (bools, seeks, marks, markings, owns, silents, quiets)

pub ruleset entering = (names_at, goes, scans, scan_silent, goes_marked)
