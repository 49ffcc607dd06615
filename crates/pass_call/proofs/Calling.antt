-- The call of a pass by its parts.
--   asked_all          what questions 1 to 4 say, where each is answered yes
--   refusal_is         a refusal 1 to 4 writes nothing
--   made_lines         what the pass makes of the listing are the lines of the plan
--   plan_overflows     an overflow leaves every output zero
--   plan_accepts       the lines of the plan are what the call gives
--   writable           what is not more than the room of the passes can be written
--   written_is         what is written and zeroed is `packed`
--   few_lines, small_columns, zeros_are    what each function shows
-- Assumes nothing.
use Rattle.std.specs.Prelude.{None, Some, Result, Ok, Err}
use Prim.Native.Nat.{ℕ, suc, ◌≤◌}
use mathlib.Core.Path.{◌≡◌, refl, sym, ap, ap₂, ◌∙◌}
use mathlib.Core.Bool.{Bool, true, ◌&&◌}
use mathlib.Core.List.{List, [], ◌∷◌, map}
use native.Mathlib.Nat.{sub-zero}
use native.Mathlib.Omega.{arith}
use borrow.Author.Tests.{eqb-true, leb-true}
use lib.Dec.{eqb, leb}
use lib.ListN.{length, take}
use Rattle.definitions.specs.Lists.{concat, part}
use Rattle.definitions.specs.Model.{Line, text}
use Rattle.definitions.specs.Columns.{listing, with_addresses, token_list, all_tokens}
use Rattle.definitions.specs.Questions.{limits, question_1, question_2}
use Rattle.definitions.specs.Passes.{Pass, lines, overflow}
use Rattle.definitions.specs.Answers.{Answer, refused, accepted, rewritten}
use Rattle.definitions.specs.Calls.{Columns, Passed, has_room, pass_refusal, zero_columns, packed, passed, pass_call}
use Rattle.loop_theory.proofs.Cases.{and_split}
use Rattle.text.proofs.Parts.{part_tail, length_part}
use Rattle.text.specs.Zeroed.{zeroed}
use Rattle.model.specs.Places.{token_start}
use Rattle.model.proofs.Decode.{length_listing, length_tokens}
use Rattle.model.proofs.Formed.{formed_lines, formed_tokens, all_tokens_listing, run_text}
use Rattle.questions.specs.Refusals.{number}
use Rattle.questions.specs.declared.Refusal.{Refusal}
use Rattle.questions.specs.declared.Refusal.TheVariants.{Overflow as TheRefusal}
use Rattle.questions.proofs.Refusing.{refusal_yes}
use Rattle.plan.specs.Plan.{render}
use Rattle.plan.specs.Planned.{planned}
use Rattle.plan.specs.declared.Overflow.{Overflow}
use Rattle.write.specs.State.{done}
use Rattle.write.specs.Holds.{columns, columns_of, counted, Room, Finishes}
use Rattle.write.specs.declared.Writer.{Writer}
use Rattle.write.proofs.Steps.{same_more}
use Rattle.emit.specs.Lines.{Emits}
use Rattle.write.proofs.PassRoom.{pass_room_suffices}
use Rattle.pass_call.specs.Answers.{passed_with, source, Writable, InRoom, Answers}

-- The questions

none_call : (pass : List Line → Answer (List Line)) (c out : Columns) → pass_refusal c out ≡ None → pass_call pass c out ≡ passed (pass (source c)) out
unfolding pass_call
none_call pass c out e = rw (e, pass_call)

module _ (c out : Columns) (e : pass_refusal c out ≡ None) where
  pub asked_all : (question_1 limits c.lines c.tokens c.text ≡ true) × (length c.addresses ≡ length c.lines)
      × (question_2 c.lines c.tokens c.text ≡ true) × (has_room c out ≡ true)
  asked_all =
      let a = refusal_yes 1 _ _ e in
      let b = refusal_yes 2 _ _ a.1 in
      let d = refusal_yes 3 _ _ b.1 in
      let f = refusal_yes 4 _ _ d.1 in
      let g = and_split (eqb (length c.addresses) (length c.lines)) (question_2 c.lines c.tokens c.text) b.0 in
      (a.0, eqb-true (length c.addresses) (length c.lines) g.0, g.1, f.0)

  pub few_lines : length c.lines ≤ 1024
  few_lines =
      let p = and_split (leb (length c.lines) 1024 && leb (length c.tokens) 16384) (leb (length c.text) 262144) asked_all.0 in
      leb-true (length c.lines) 1024 (and_split (leb (length c.lines) 1024) (leb (length c.tokens) 16384) p.0).0

-- A call of a pass

module _ (pass : List Line → Answer (List Line)) (c out : Columns) where
  pub refusal_is : (r : Refusal) → Some (number r) ≡ pass_refusal c out → passed_with (Err r) out ≡ pass_call pass c out
  unfolding pass_call
  refusal_is r e = sym (rw (← e, pass_call))

pub made_lines : (S : List Line) (vs : List ℕ) (r : Result ℕ Overflow) (p : Pass) → planned S vs r ≡ p → {n : ℕ} → r ≡ Ok n
    → p ≡ lines (render S (take n vs))
made_lines S vs r p e q = sym e ∙ ap (planned S vs) q

module _ (made : List Line → Pass) (c out : Columns) (e : pass_refusal c out ≡ None) (vs : List ℕ) (r : Result ℕ Overflow)
    (z : planned (source c) vs r ≡ made (source c)) where
  answer_is : (p : Pass) → made (source c) ≡ p → (q : Passed) → q ≡ passed (rewritten p) out → q ≡ pass_call (λ L. rewritten (made L)) c out
  answer_is p m q f = f ∙ sym (none_call (λ L. rewritten (made L)) c out e ∙ ap (λ a. passed (rewritten a) out) m)

  pub plan_overflows : {o : Overflow} → r ≡ Err o → (out' : Columns) → out' ≡ zero_columns out
      → passed_with (Err TheRefusal) out' ≡ pass_call (λ L. rewritten (made L)) c out
  unfolding passed
  plan_overflows q out' f = answer_is overflow (sym z ∙ ap (planned (source c) vs) q) _ (ap (λ o. record { answer = refused 6; out = o }) f)

  pub plan_accepts : (n : ℕ) → r ≡ Ok n → (p : Passed) → p ≡ passed (accepted (render (source c) (take n vs))) out
      → p ≡ pass_call (λ L. rewritten (made L)) c out
  plan_accepts n q p f = answer_is _ (made_lines (source c) vs r _ z q) p f

-- Room

pub writable : (c out : Columns) (M : List Line) → pass_refusal c out ≡ None → InRoom (source c) M → Writable c out M
writable c out M e f = record { asked = e; lines = f.0; tokens = f.1; text = f.2 }

tokens_kept : (l a : List ℕ) (L : List Line) → length a ≡ length l → length L ≡ length l → map (λ m. m.tokens) (with_addresses l a L) ≡ map (λ m. m.tokens) L
unfolding with_addresses
tokens_kept [] a [] p q = refl
tokens_kept [] a (m ∷ ms) p q = absurd (omega arith)
tokens_kept (w ∷ ws) [] L p q = absurd (omega arith)
tokens_kept (w ∷ ws) (b ∷ rest) [] p q = absurd (omega arith)
tokens_kept (w ∷ ws) (b ∷ rest) (m ∷ ms) p q = ap (λ xs. m.tokens ∷ xs) (tokens_kept ws rest ms (omega arith) (omega arith))

lines_kept : (l a : List ℕ) (L : List Line) → length a ≡ length l → length L ≡ length l → length (with_addresses l a L) ≡ length l
unfolding with_addresses
lines_kept [] a L p q = refl
lines_kept (w ∷ ws) [] L p q = absurd (omega arith)
lines_kept (w ∷ ws) (b ∷ rest) [] p q = absurd (omega arith)
lines_kept (w ∷ ws) (b ∷ rest) (m ∷ ms) p q = ap suc (lines_kept ws rest ms (omega arith) (omega arith))

all_text : (t x : List ℕ) (l : List ℕ) → question_2 l t x ≡ true → length (text (token_list t x)) ≤ length x
all_text t x l ok =
    let whole : part 0 (length t) (token_list t x) ≡ token_list t x = ap (λ n. part 0 n (token_list t x)) (sym (length_tokens t x)) ∙ part_tail (token_list t x) 0 in
    let run = run_text t x (formed_tokens l t x ok) 0 (length t) (omega arith) (omega arith) in
    omega (arith, ap (λ ts. length (text ts)) (sym whole), ap length run, length_part x (token_start t 0) (token_start t (length t)))

module _ (c out : Columns) (M : List Line) (w : Writable c out M) where
  room_enough : Room (done M) out
  room_enough =
      let a = asked_all c out w.asked in
      let L = listing c.lines c.tokens c.text in
      let n = length_listing c.lines c.tokens c.text in
      let same : all_tokens (source c) ≡ token_list c.tokens c.text =
      ap concat (tokens_kept c.lines c.addresses L a.1 n)
      ∙ all_tokens_listing c.lines c.tokens (formed_lines c.lines c.tokens c.text a.2) c.text in
      let k = lines_kept c.lines c.addresses L a.1 n in
      pass_room_suffices M out c a.0 a.3 (omega (arith, w.lines)) (omega (arith, w.tokens, ap length same, length_tokens c.tokens c.text))
      (omega (arith, w.text, ap (λ ts. length (text ts)) same, all_text c.tokens c.text c.lines a.2))

-- the destination changed, but not in its lengths
module _ (c : Columns) (M : List Line) {u v w : Writer} (r : Writable c (columns_of u) M) (e : Emits M u v) (f : Finishes v w) where
  room_still : Room (done M) (columns_of v)
  room_still =
      let k = room_enough c (columns_of u) M r in
      let s = e.same in
      record {
        lines = rw s.lines_length k.lines;
        addresses = rw s.addresses_length k.addresses;
        tokens = rw s.tokens_length k.tokens;
        text = rw s.text_length k.text;
        token_ends = k.token_ends;
        line_ends = k.line_ends;
      }

  packed_same : packed M (columns_of v) ≡ packed M (columns_of u)
  packed_same = let s = e.same in rw (s.lines_length, s.addresses_length, s.tokens_length, s.text_length)

  pub written_is : Answers (Ok (record { lines = w.written.lines; tokens = w.written.tokens; text = w.written.text })) (passed (accepted M) (columns_of u)) u w
  unfolding passed
  written_is =
      let z = f.finished M e.holds room_still in
      record {
        same = same_more e.same f.same;
        passed = ap₂ (λ n o. record { answer = accepted n; out = o }) (ap counted f.written ∙ z.counts) (z.columns ∙ packed_same);
      }

-- Each function's facts

pub small_columns : (b : Bool) (x y z m k j : ℕ) → b ≡ (leb x m && leb y k && leb z j) → b ≡ true → m ≤ 1048576 → k ≤ 16777216 → j ≤ 16777216
    → (x ≤ 1048576) × (y ≤ 16777216) × (z ≤ 16777216)
small_columns b x y z m k j e f p q r =
    let s = and_split (leb x m && leb y k) (leb z j) (sym e ∙ f) in
    let u = and_split (leb x m) (leb y k) s.0 in
    (omega (arith, leb-true x m u.0), omega (arith, leb-true y k u.1), omega (arith, leb-true z j s.1))

pub zeros_are : (r p w b r' p' w' b' : List ℕ) → r' ≡ zeroed 0 r → p' ≡ zeroed 0 p → w' ≡ zeroed 0 w → b' ≡ zeroed 0 b
    → columns r' p' w' b' ≡ zero_columns (columns r p w b)
zeros_are r p w b r' p' w' b' e f g h = rw (e, f, g, h, sub-zero, sub-zero, sub-zero, sub-zero)
