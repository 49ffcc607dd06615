-- The round trip, of the slices of the two calls.
--   read_again       what `read` accepted, written, is read as the same listing
--   read_written     the reader turns the text that the writer left in its slice into the listing of the writer's columns, packed in a destination
--                    that it fits
--   call_again       the call on the text of what the call accepted answers and leaves the same
--   cut n out        the columns, each cut to how much of it was read
--   written_again    the writer, lent the columns that the reader left, leaves a text that the reader reads as it read the first
-- Assumes nothing.
use Rattle.std.specs.Prelude.{Option, None, Some}
use Prim.Native.Nat.{ℕ, ◌-◌}
use mathlib.Core.Path.{◌≡◌, refl, sym, ap, ◌∙◌}
use mathlib.Core.Bool.{Bool, true, false, cond, ◌&&◌}
use mathlib.Core.List.{List}
use native.Mathlib.Omega.{arith}
use lib.Dec.{eqb, leb}
use lib.ListN.{length, take, replicate, length-map}
use lib.Seq.{take_at}
use Rattle.definitions.specs.Lists.{all}
use Rattle.definitions.specs.Model.{Line}
use Rattle.definitions.specs.Columns.{line_words, address_words, token_words, text_bytes}
use Rattle.definitions.specs.Questions.{Limits, limits, question_1, question_2, question_3, refusal}
use Rattle.definitions.specs.Answers.{refused, accepted}
use Rattle.definitions.specs.Calls.{Columns, Passed, passed, filled, packed, counts}
use Rattle.write.proofs.Words.{length_line_words}
use Rattle.model.proofs.Formed.{formed_kinds}
use Rattle.json_definitions.specs.Reader.{read}
use Rattle.json_definitions.specs.Writer.{write}
use Rattle.json_definitions.specs.Listings.{is_listing}
use Rattle.json_definitions.specs.JsonCalls.{fits, fitting, read_call, listing_of, write_refusal, Written, write_call}
use Rattle.json_theory.proofs.RoundTrip.{round_trip}
use Rattle.json_round_trip.proofs.Formed.{read_formed}
use Rattle.json_round_trip.proofs.Columns.{is_word, listing_formed}
use Rattle.json_round_trip.proofs.Decoded.{words_formed, listing_back}

pub read_again : (s : List ℕ) (L : List Line) → read s ≡ Some L → read (write L) ≡ Some L
read_again s L e = round_trip L (read_formed s L e)

-- What the writer left is read

read_text : (L : List Line) (d : Columns) → is_listing L ≡ true → fits d L ≡ true → read_call (write L) d ≡ passed (accepted L) d
unfolding read_call fitting
read_text L d h f = rw (round_trip L h, f)

asked : (c : Columns) (out : List ℕ) → write_refusal c out ≡ None → (question_2 c.lines c.tokens c.text ≡ true) × (question_3 c.tokens c.text ≡ true)
unfolding refusal
asked c out e =
    go (question_1 limits c.lines c.tokens c.text) (eqb (length c.addresses) (length c.lines)) (question_2 c.lines c.tokens c.text) (question_3 c.tokens c.text)
    (leb (length (write (listing_of c))) (length out)) e
  where
    go : (q₁ p q₂ q₃ q₄ : Bool) → cond {A = Option ℕ} q₁ (cond (p && q₂) (cond q₃ (cond q₄ None (Some 4)) (Some 3)) (Some 2)) (Some 1) ≡ None → (q₂ ≡ true) × (q₃ ≡ true)
    go true true true true q₄ e = (refl, refl)
    go true true true false q₄ e = let z : ◌≡◌ {A = ℕ} 0 1 = cc in absurd (omega arith)
    go true true false q₃ q₄ e = let z : ◌≡◌ {A = ℕ} 0 1 = cc in absurd (omega arith)
    go true false q₂ q₃ q₄ e = let z : ◌≡◌ {A = ℕ} 0 1 = cc in absurd (omega arith)
    go false p q₂ q₃ q₄ e = let z : ◌≡◌ {A = ℕ} 0 1 = cc in absurd (omega arith)

pub read_written : (c : Columns) (out : List ℕ) (n : ℕ) (d : Columns) → all is_word c.addresses ≡ true → (write_call c out).answer ≡ accepted n → fits d (listing_of c) ≡ true
    → read_call (take n (write_call c out).out) d ≡ passed (accepted (listing_of c)) d
unfolding write_call
read_written c out n d h e f = go (write_refusal c out) refl e
  where
    called : Option ℕ → Written
    called o = elim o [ Some m ↦ record { answer = refused m; out = out } | None ↦ record { answer = accepted (length (write (listing_of c))); out = filled (write (listing_of c)) out } ]

    go : (o : Option ℕ) → write_refusal c out ≡ o → (called o).answer ≡ accepted n → read_call (take n (called o).out) d ≡ passed (accepted (listing_of c)) d
    go (Some m) r e = let z : ◌≡◌ {A = ℕ} 0 1 = cc in absurd (omega arith)
    go None r e =
        let q = asked c out r in
        let m : n ≡ length (write (listing_of c)) = cc in
        let t : take n (filled (write (listing_of c)) out) ≡ write (listing_of c) = take_at (write (listing_of c)) (replicate (length out - length (write (listing_of c))) 0) n (sym m) in
        rw t (read_text (listing_of c) d (listing_formed c.lines c.addresses c.tokens c.text h (formed_kinds c.lines c.tokens c.text q.0) q.1) f)

-- What the reader accepted, written, is read again

fitted : (d : Columns) (L : List Line) (o : Option (List Line)) → fitting d o ≡ accepted L → (o ≡ Some L) × (fits d L ≡ true)
unfolding fitting
fitted d L None e = let z : ◌≡◌ {A = ℕ} 0 1 = cc in absurd (omega arith)
fitted d L (Some M) e = go (fits d M) refl e
  where
    go : (b : Bool) → fits d M ≡ b → cond b (accepted M) (refused 10) ≡ accepted L → (Some M ≡ Some L) × (fits d L ≡ true)
    go true f e = let q : M ≡ L = cc in (ap Some q, rw (← q) f)
    go false f e = let z : ◌≡◌ {A = ℕ} 0 1 = cc in absurd (omega arith)

pub call_again : (s : List ℕ) (d : Columns) (L : List Line) → fitting d (read s) ≡ accepted L → read_call (write L) d ≡ read_call s d
call_again s d L e = same (let r = (fitted d L (read s) e).0 in read_again s L r ∙ sym r)
  where
    same : read (write L) ≡ read s → read_call (write L) d ≡ read_call s d
    same q = unfold read_call in rw q

-- The columns that the reader left, lent to the writer

abbrev pub cut : Limits → Columns → Columns
cut n out = record { lines = take n.lines out.lines; addresses = take n.lines out.addresses; tokens = take n.tokens out.tokens; text = take n.text out.text }

abbrev columns_of : List Line → Columns
columns_of L = record { lines = line_words L; addresses = address_words L; tokens = token_words L; text = text_bytes L }

cut_packed : (L : List Line) (d : Columns) → cut (counts L) (packed L d) ≡ columns_of L
cut_packed L d =
    rw (
      take_at (line_words L) (replicate (length d.lines - length (line_words L)) 0) (length L) (length_line_words 0 L),
      take_at (address_words L) (replicate (length d.addresses - length (address_words L)) 0) (length L) (simp length-map),
      take_at (token_words L) (replicate (length d.tokens - length (token_words L)) 0) (length (token_words L)) refl,
      take_at (text_bytes L) (replicate (length d.text - length (text_bytes L)) 0) (length (text_bytes L)) refl,
    )

pub written_again : (s : List ℕ) (d : Columns) (L : List Line) (out : List ℕ) (n : ℕ) → fitting d (read s) ≡ accepted L
    → (write_call (cut (counts L) (read_call s d).out) out).answer ≡ accepted n
    → read_call (take n (write_call (cut (counts L) (read_call s d).out) out).out) d ≡ read_call s d
written_again s d L out n e w = again (cut (counts L) (read_call s d).out) (ap (λ (y : Passed). cut (counts L) y.out) told ∙ packed_is) w
  where
    told : read_call s d ≡ passed (accepted L) d
    told = unfold read_call in rw e

    packed_is : cut (counts L) (passed (accepted L) d).out ≡ columns_of L
    packed_is = unfold passed in cut_packed L d

    again : (c : Columns) → c ≡ columns_of L → (write_call c out).answer ≡ accepted n → read_call (take n (write_call c out).out) d ≡ read_call s d
    again c q w =
        let f = fitted d L (read s) e in
        let h : is_listing L ≡ true = read_formed s L f.0 in
        let b : listing_of (columns_of L) ≡ L = listing_back L h in
        let w' : (write_call (columns_of L) out).answer ≡ accepted n = rw q at w in
        let g : fits d (listing_of (columns_of L)) ≡ true = rw b f.1 in
        rw q (read_written (columns_of L) out n d (words_formed L h) w' g ∙ ap (λ (M : List Line). passed (accepted M) d) b ∙ sym told)
