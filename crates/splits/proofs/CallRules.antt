-- Rules for the needs of `call`.
--   finds_by, defs_by            what `families` leaves
--   starts_few                   the places of the split points
--   numbers_are, marks_are       what is written, by the definition
--   no_lines_numbers, no_lines_marks     a listing without lines
--   filled_by                    zeros behind what was written
--   room                         what questions 1, 2 and 4 say
--   accepts, refuses             `split_call_within`
--   within_limits                with the limits of question 1 it is the call
-- Assumes nothing.
use Rattle.std.specs.Prelude.{Option, None, Some, Ok, Err}
use Prim.Native.Nat.{ℕ, ◌+◌, ◌-◌, ◌<◌, ◌≤◌}
use mathlib.Core.Path.{◌≡◌, refl, sym, ap, ap₂, ◌∙◌}
use mathlib.Core.Bool.{true, ◌&&◌}
use mathlib.Core.List.{List, [], ◌∷◌, ◌++◌}
use native.Mathlib.Omega.{arith}
use borrow.Author.Tests.{eqb-true, leb-true}
use lib.Dec.{leb}
use lib.ListN.{length, get_or, drop, replicate, length-append, length-drop}
use lib.Seq.{take_at}
use Rattle.definitions.specs.Lists.{concat, range}
use Rattle.definitions.specs.Family.{fam_of}
use Rattle.definitions.specs.Columns.{pieces, token_list, listing}
use Rattle.definitions.specs.Questions.{Limits, limits, covers}
use Rattle.definitions.specs.Recover.{defined_families}
use Rattle.definitions.specs.SplitPoints.{split_points, split_key, split_starts}
use Rattle.definitions.specs.Answers.{no_family, per_token, mark, accepted, splits}
use Rattle.definitions.specs.Answers as Answers
use Rattle.definitions.specs.Calls.{Lent, Called, filled, written, split_call}
use Rattle.text.specs.Zeroed.{zeroed}
use Rattle.questions.specs.Refusals.{number}
use Rattle.questions.specs.declared.Refusal.{Refusal}
use Rattle.questions.proofs.Refusing.{refusal_yes}
use Rattle.model.proofs.Ands.{both}
use Rattle.model.proofs.Decode.{length_listing}
use Rattle.model.proofs.Formed.{formed_lines}
use Rattle.families.specs.Families.{Numbered, Defs, families_before}
use Rattle.families.specs.Tokens.{Finds}
use Rattle.families.proofs.Numbered.{families_all}
use Rattle.splits.specs.Starts.{Starts}
use Rattle.splits.specs.Tokens.{tally, token_number, token_mark, by_line}
use Rattle.splits.specs.Call.{lent, called, questions, split_within}
use Rattle.splits.proofs.Places.{start_small, number_is, mark_is}
use Rattle.splits.proofs.ByLine.{per_token_by_line}

module _ (l t x : List ℕ) (count : ℕ) (table ds : List ℕ) (N : Numbered (listing l t x) (length l) count table ds) where
  pub finds_by : Finds (listing l t x) count table
  finds_by = record {
    table = N.table;
    all = N.known ∙ ap (λ (n : ℕ). length (families_before (listing l t x) n)) (sym (length_listing l t x)) ∙ ap length (families_all (listing l t x));
    few = omega (arith, N.small, N.few, length_listing l t x);
  }

  pub defs_by : Defs (listing l t x) ds
  defs_by = record { at = λ j h. N.defs j (omega (arith, length_listing l t x)) }

module _ (l t x ds : List ℕ) (S : Starts (listing l t x) ds) (few : length l ≤ 1024) where
  small : length (listing l t x) ≤ 1024
  small = omega (arith, length_listing l t x)

  pub starts_few : (j : ℕ) → j < length l → get_or ds j 0 < 1024
  starts_few j h = let g : j < length (listing l t x) = omega (arith, length_listing l t x) in rw (S.at j g) (start_small (listing l t x) ds S small j g)

  module _ (ok : covers 512 0 l (length t) ≡ true) where
    pub numbers_are : (ns : List ℕ) → ns ≡ by_line l t (λ i. token_number (defined_families (listing l t x)) (tally ds (i + 1))) (token_list t x) (length l) → ns ≡ (splits (listing l t x)).numbers
    unfolding splits token_number
    numbers_are ns w =
        w ∙ per_token_by_line l t x ok no_family (split_key (split_points (listing l t x))) (λ i. token_number (defined_families (listing l t x)) (tally ds (i + 1)))
        (λ i h u. number_is (listing l t x) ds S small i (omega (arith, length_listing l t x)) (fam_of u))

    pub marks_are : (ms : List ℕ) → ms ≡ by_line l t (λ i. token_mark (defined_families (listing l t x)) (get_or ds i 0)) (token_list t x) (length l) → ms ≡ (splits (listing l t x)).marks
    unfolding splits token_mark
    marks_are ms w =
        w ∙ per_token_by_line l t x ok 0 (λ f i. mark (split_starts (split_points (listing l t x)) f i)) (λ i. token_mark (defined_families (listing l t x)) (get_or ds i 0))
        (λ i h u. mark_is (listing l t x) ds S small i (omega (arith, length_listing l t x)) (fam_of u))

-- A listing without lines

module _ (l t x ns : List ℕ) (z : length l ≡ 0) (ok : covers 512 0 l (length t) ≡ true) (e : length ns ≡ length t) where
  no_words : (l t ns : List ℕ) → length l ≡ 0 → covers 512 0 l (length t) ≡ true → length ns ≡ length t → ns ≡ []
  unfolding covers
  no_words [] [] [] z ok e = refl
  no_words [] [] (n ∷ ns) z ok e = absurd (omega arith)
  no_words [] (w ∷ t) ns z ok e = absurd (omega (arith, eqb-true 0 (length (w ∷ t)) ok))
  no_words (w ∷ l) t ns z ok e = absurd (omega arith)

  no_lines : (l : List ℕ) → length l ≡ 0 → l ≡ []
  no_lines [] z = refl
  no_lines (w ∷ l) z = absurd (omega arith)

  pub no_lines_numbers : ns ≡ (splits (listing l t x)).numbers
  unfolding splits per_token pieces range concat
  no_lines_numbers = no_words l t ns z ok e ∙ rw (no_lines l z)

  pub no_lines_marks : ns ≡ (splits (listing l t x)).marks
  unfolding splits per_token pieces range concat
  no_lines_marks = no_words l t ns z ok e ∙ rw (no_lines l z)

-- Zeros behind what was written

pub filled_by : (s sub old out : List ℕ) (n : ℕ) → sub ≡ s → length sub ≡ n → out ≡ zeroed n (sub ++ drop n old) → out ≡ filled s old
filled_by s sub old out n p q e =
    let z : (n + (length old - n)) - n ≡ length old - length s = omega (arith, ap length p) in
    e ∙ rw (take_at sub (drop n old) n q, length-append, q, length-drop, z) (ap (◌++ replicate (length old - length s) 0) p)

-- Questions

module _ (m : Limits) (l t x : List ℕ) (a b : ℕ) where
  pub room : None ≡ questions m l t x a b → m.lines ≤ 1024
      → (length l ≤ 1024) × (covers 512 0 l (length t) ≡ true) × (length t ≤ a) × (length t ≤ b)
  unfolding questions
  room e few =
      let y1 = refusal_yes 1 _ _ (sym e) in
      let y2 = refusal_yes 2 _ _ y1.1 in
      let y3 = refusal_yes 3 _ _ y2.1 in
      let y4 = refusal_yes 4 _ _ y3.1 in
      let one = both (leb (length l) m.lines) (leb (length t) m.tokens) (both (leb (length l) m.lines && leb (length t) m.tokens) (leb (length x) m.text) y1.0).0 in
      let four = both (leb (length t) a) (leb (length t) b) y4.0 in
      (omega (arith, leb-true (length l) m.lines one.0), formed_lines l t x y2.0, leb-true (length t) a four.0, leb-true (length t) b four.1)

-- The call

module _ (m : Limits) (l t x ns₀ ms₀ : List ℕ) where
  abbrev left : Option ℕ → Called (Unit {0})
  left o = elim o [
    | Some n ↦ record { answer = Answers.refused n; lent = lent ns₀ ms₀ }
    | None ↦ record { answer = accepted tt; lent = written (splits (listing l t x)) (lent ns₀ ms₀) }
  ]

  pub accepts : None ≡ questions m l t x (length ns₀) (length ms₀) → (ns ms : List ℕ) → ns ≡ filled (splits (listing l t x)).numbers ns₀ → ms ≡ filled (splits (listing l t x)).marks ms₀
      → called (Ok tt) ns ms ≡ split_within m l t x (lent ns₀ ms₀)
  unfolding split_within
  accepts e ns ms p r = ap₂ (called (Ok tt)) p r ∙ ap left e

  pub refuses : (r : Refusal) → Some (number r) ≡ questions m l t x (length ns₀) (length ms₀) → called (Err r) ns₀ ms₀ ≡ split_within m l t x (lent ns₀ ms₀)
  unfolding split_within
  refuses r e = ap left e

pub within_limits : (l t x : List ℕ) (o : Lent) → split_within limits l t x o ≡ split_call l t x o
unfolding split_within split_call questions
within_limits l t x o = refl
