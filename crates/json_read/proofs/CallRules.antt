-- The call, by what it has read.
--   out_refused, out_accepted    what the call answers and leaves is what `read_call` gives
-- Assumes nothing.
use Prim.Native.Nat.{ℕ, min, ◌-◌, ◌≤◌}
use mathlib.Core.Path.{◌≡◌, refl, sym, ap, ◌∙◌}
use mathlib.Core.Bool.{Bool, true, false, ◌&&◌, cond}
use mathlib.Core.List.{List}
use native.Mathlib.Omega.{arith}
use borrow.Author.Tests.{le-leb, leb-true}
use lib.Dec.{leb}
use lib.ListN.{length, take, replicate, length-map}
use Rattle.definitions.specs.Model.{Line}
use Rattle.definitions.specs.Columns.{all_tokens, line_words, address_words, token_words, text_bytes}
use Rattle.definitions.specs.Questions.{limits, question_1}
use Rattle.definitions.specs.Answers.{refused, accepted}
use Rattle.definitions.specs.Answers as defined
use Rattle.definitions.specs.Calls.{Columns, filled, passed}
use Rattle.text.specs.Zeroed.{zeroed}
use Rattle.loop_theory.proofs.Cases.{and_split}
use Rattle.write.proofs.Words.{length_line_words, length_token_words}
use Rattle.json_definitions.specs.Parser.{Got, array}
use Rattle.json_definitions.specs.Reader.{read, line}
use Rattle.json_definitions.specs.JsonCalls.{fits, fitting, read_call}
use Rattle.std.specs.Prelude.{Some, None, Option}
use Rattle.json_listing.specs.declared.Counts.{Counts}
use Rattle.json_listing.specs.InColumns.{ReadListing, NoListing, closed}
use Rattle.json_listing.proofs.EndRules.{value_of, read_is}
use Rattle.json_read.specs.Answers.{columns, called}

-- A listing fits exactly if its counts are within the lesser of limit and length.

length_address_words : (L : List Line) → length (address_words L) ≡ length L
length_address_words L = simp length-map

record Fitting (out : Columns) (L : List Line) : Type 0 where
  lines : length L ≤ min (length out.lines) 1024
  addresses : length L ≤ min (length out.addresses) 1024
  tokens : length (all_tokens L) ≤ min (length out.tokens) 16384
  text : length (text_bytes L) ≤ min (length out.text) 262144

fits_fitting : (out : Columns) (L : List Line) → fits out L ≡ true → Fitting out L
fits_fitting out L e =
    let q = and_split (question_1 limits (line_words L) (token_words L) (text_bytes L)) _ e in
    let q₁ = and_split (leb (length (line_words L)) 1024 && leb (length (token_words L)) 16384) _ q.0 in
    let q₂ = and_split (leb (length (line_words L)) 1024) _ q₁.0 in
    let r₁ = and_split (leb (length (line_words L)) (length out.lines)) _ q.1 in
    let r₂ = and_split (leb (length (address_words L)) (length out.addresses)) _ r₁.1 in
    let r₃ = and_split (leb (length (token_words L)) (length out.tokens)) _ r₂.1 in
    let a₁ = leb-true (length (line_words L)) 1024 q₂.0 in
    let a₂ = leb-true (length (token_words L)) 16384 q₂.1 in
    let a₃ = leb-true (length (text_bytes L)) 262144 q₁.1 in
    let b₁ = leb-true (length (line_words L)) (length out.lines) r₁.0 in
    let b₂ = leb-true (length (address_words L)) (length out.addresses) r₂.0 in
    let b₃ = leb-true (length (token_words L)) (length out.tokens) r₃.0 in
    let b₄ = leb-true (length (text_bytes L)) (length out.text) r₃.1 in
    let l₁ = length_line_words 0 L in let l₂ = length_address_words L in let l₃ = length_token_words 0 (all_tokens L) in
    record { lines = omega arith; addresses = omega arith; tokens = omega arith; text = omega arith }

fitting_fits : (out : Columns) (L : List Line) → Fitting out L → fits out L ≡ true
fitting_fits out L f =
    let a = f.lines in let b = f.addresses in let c = f.tokens in let d = f.text in
    let l₁ = length_line_words 0 L in let l₂ = length_address_words L in let l₃ = length_token_words 0 (all_tokens L) in
    rw (
      le-leb (length (line_words L)) 1024 (omega arith),
      le-leb (length (token_words L)) 16384 (omega arith),
      le-leb (length (text_bytes L)) 262144 (omega arith),
      le-leb (length (line_words L)) (length out.lines) (omega arith),
      le-leb (length (address_words L)) (length out.addresses) (omega arith),
      le-leb (length (token_words L)) (length out.tokens) (omega arith),
      le-leb (length (text_bytes L)) (length out.text) (omega arith),
    )

-- Columns

zero_all : (l z : List ℕ) (n : ℕ) → length l ≡ n → z ≡ zeroed 0 l → z ≡ replicate n 0
zero_all l z n h e = let k : length l - 0 ≡ n = omega arith in e ∙ rw k

filled_in : (old l z w : List ℕ) (k : ℕ) → length l ≡ length old → take k l ≡ w → k ≡ length w → z ≡ zeroed k l → z ≡ filled w old
filled_in old l z w k h e f g = g ∙ rw (e, h, f)

done : (M : List Line) (out : Columns) (n : Counts) (ln ad tk tx : List ℕ) → n.lines ≡ length M → n.tokens ≡ length (token_words M) → n.text ≡ length (text_bytes M)
    → ln ≡ filled (line_words M) out.lines → ad ≡ filled (address_words M) out.addresses → tk ≡ filled (token_words M) out.tokens → tx ≡ filled (text_bytes M) out.text
    → called (Some n) ln ad tk tx ≡ passed (accepted M) out
unfolding passed
done M out n ln ad tk tx p q r e f g h = rw (p, q, r, e, f, g, h)

module _ (s a b c d ln ad tk tx : List ℕ) (la : length ln ≡ length a) (lb : length ad ≡ length b) (lc : length tk ≡ length c) (ld : length tx ≡ length d) where
  abbrev out : Columns
  out = columns a b c d

  module _ (w : NoListing (closed (array line s)) (min (length a) 1024) (min (length b) 1024) (min (length c) 16384) (min (length d) 262144)) where
    refused_is : fitting out (read s) ≡ refused 10
    refused_is = ap (fitting out) (read_is s) ∙ go (closed (array line s)) w
      where
        go : (o : Option (Got (List Line))) → NoListing o (min (length a) 1024) (min (length b) 1024) (min (length c) 16384) (min (length d) 262144) → fitting out (value_of o) ≡ refused 10
        go None w = unfold fitting in refl
        go (Some g) w = unfold fitting in test (fits out g.value) refl
          where
            test : (y : Bool) → fits out g.value ≡ y → cond y (accepted g.value) (refused 10) ≡ refused 10
            test false e = refl
            test true e = let f = fits_fitting out g.value e in absurd (w.never g refl f.lines f.addresses f.tokens f.text)

    pub out_refused : (ln' ad' tk' tx' : List ℕ) → ln' ≡ zeroed 0 ln → ad' ≡ zeroed 0 ad → tk' ≡ zeroed 0 tk → tx' ≡ zeroed 0 tx → called None ln' ad' tk' tx' ≡ read_call s out
    unfolding read_call passed
    out_refused ln' ad' tk' tx' z₁ z₂ z₃ z₄ =
        rw (refused_is, zero_all ln ln' (length a) la z₁, zero_all ad ad' (length b) lb z₂, zero_all tk tk' (length c) lc z₃, zero_all tx tx' (length d) ld z₄)

  module _ (rest : List ℕ) (n : Counts)
      (w : ReadListing (closed (array line s)) (min (length a) 1024) (min (length b) 1024) (min (length c) 16384) (min (length d) 262144) ln ad tk tx rest n.lines n.tokens n.text) where
    accepted_is : fitting out (read s) ≡ accepted w.L
    accepted_is =
        let c₁ = w.count in let c₂ = w.tokens in let c₃ = w.bytes in
        let y₁ = w.room.0 in let y₂ = w.room.1.0 in let y₃ = w.room.1.1.0 in let y₄ = w.room.1.1.1 in
        ap (fitting out) (read_is s ∙ ap value_of w.is)
        ∙ (unfold fitting in rw (fitting_fits out w.L (record { lines = omega arith; addresses = omega arith; tokens = omega arith; text = omega arith })))

    pub out_accepted : (ln' ad' tk' tx' : List ℕ) → ln' ≡ zeroed n.lines ln → ad' ≡ zeroed n.lines ad → tk' ≡ zeroed n.tokens tk → tx' ≡ zeroed n.text tx
        → called (Some n) ln' ad' tk' tx' ≡ read_call s out
    unfolding read_call
    out_accepted ln' ad' tk' tx' z₁ z₂ z₃ z₄ =
        let e₁ : ln' ≡ filled (line_words w.L) a = filled_in a ln ln' (line_words w.L) n.lines la w.lines (w.count ∙ sym (length_line_words 0 w.L)) z₁ in
        let e₂ : ad' ≡ filled (address_words w.L) b = filled_in b ad ad' (address_words w.L) n.lines lb w.addresses (w.count ∙ sym (length_address_words w.L)) z₂ in
        let e₃ : tk' ≡ filled (token_words w.L) c = filled_in c tk tk' (token_words w.L) n.tokens lc w.words (w.tokens ∙ sym (length_token_words 0 (all_tokens w.L))) z₃ in
        let e₄ : tx' ≡ filled (text_bytes w.L) d = filled_in d tx tx' (text_bytes w.L) n.text ld w.texts w.bytes z₄ in
        let n' : n.tokens ≡ length (token_words w.L) = w.tokens ∙ sym (length_token_words 0 (all_tokens w.L)) in
        done w.L out n ln' ad' tk' tx' w.count n' w.bytes e₁ e₂ e₃ e₄ ∙ sym (ap (λ (o : defined.Answer (List Line)). passed o out) accepted_is)
