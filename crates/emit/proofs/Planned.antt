-- The tokens of planned lines, and lines one after the other.
--   begins_piece, begins_guard, begins_while, begins_for    the tokens of a word's line
--   line_written, line_ended                 the line that the word stands for
--   plain_sound, goto_sound                  the words of either pass are sound
--   word_sound, emitted_next, emitted_end    the lines before place i are done
-- Assumes nothing.
use Rattle.std.specs.Prelude.{Option, None}
use mathlib.Core.Logic.{◌⊎◌}
use mathlib.Core.Path.{◌≡◌, refl, sym, ap, ap₂, subst, ◌∙◌}
use mathlib.Core.Bool.{Bool, true, false, ◌&&◌, ◌||◌, or-true}
use mathlib.Core.List.{List, [], ◌∷◌, ◌++◌, append_assoc}
use Prim.Native.Nat.{ℕ, zero, suc, ◌+◌, ◌/◌, ◌%◌, ◌≤◌, ◌<◌}
use native.Mathlib.Omega.{arith}
use native.Mathlib.Numerals.{add-one}
use borrow.Author.Tests.{eqb-true, leb-true}
use lib.Dec.{eqb, leb}
use lib.ListN.{length, take, get_or}
use lib.Seq.{take-suc, take_all}
use Rattle.definitions.specs.Lists.{all, or_else, ascii}
use Rattle.definitions.specs.Model.{Token, Line, pseudo_line, line}
use Rattle.definitions.specs.Columns.{listing, with_addresses}
use Rattle.definitions.specs.Statements.{merge}
use Rattle.definitions.specs.Condition.{condition}
use Rattle.definitions.specs.ToFor.{for_head}
use Rattle.definitions.specs.Passes.{while_head}
use Rattle.definitions.specs.RecoverGotoLoops.{leading_test, one}
use Rattle.definitions.specs.Calls.{Columns}
use Rattle.loop_theory.proofs.Cases.{and_split}
use Rattle.write.specs.State.{done, end_line}
use Rattle.write.specs.Holds.{columns_of, open_lent, lines_lent, Holds, Writing, Same, Writes}
use Rattle.write.specs.declared.Writer.{Writer}
use Rattle.write.proofs.Steps.{same_more, lines_written}
use Rattle.plan.specs.Plan.{Form, Form.kept, Form.continued, Form.broken, Form.closed, Piece, Test, Test.guard, Test.always, Test.leading, Header, Header.no_header, Header.while_over, Header.for_over, form_of, form_tokens, piece_of, piece_tokens, test_tokens, while_tokens, header_tokens, header_of, indent_at, header_at, piece_at, test_at, initialiser_at, step_at, planned, plan_of, line_of, render}
use Rattle.plan.specs.Changes.{is_loop, is_plain, is_line, is_goto}
use Rattle.plan.specs.Source.{Source}
use Rattle.plan.specs.Headers.{Says}
use Rattle.plan.specs.declared.headers.Test.{Test as Asked}
use Rattle.plan.specs.declared.headers.Test.TheVariants.{Guard, Always, Leading}
use Rattle.plan.specs.declared.headers.Header.TheVariants.{NoHeader, While, For}
use Rattle.plan.proofs.Numbers.{no_number, guard_number, while_number, for_number}
use Rattle.plan.proofs.Maps.{map_append}
use Rattle.plan.proofs.Rendered.{kept_line, guard_line}
use Rattle.plan.proofs.Sources.{columns_source}
use Rattle.pieces.specs.Pieces.{piece}
use Rattle.append.specs.Adds.{opened, Adding}
use Rattle.append.proofs.Appends.{adds_more}
use Rattle.append_pieces.specs.Dressed.{dressed}
use Rattle.emit.specs.Lines.{is_sound, test_read, for_start, for_end, Begins, LineAdded, Emits}

-- The condition of a header

either : {A : Type 0} (a b : Bool) → (a || b) ≡ true → (a ≡ true → A) → (b ≡ true → A) → A
either true b e f g = f refl
either false b e f g = g e

guarded : (w : ℕ) → is_sound w ≡ true → (header_at w ≡ 0 → ⊥) → header_at w % 4 < 2 → piece_at w % 4 ≡ 0
guarded w e n h =
    either (is_plain w) (is_goto w) e (λ p. eqb-true (piece_at w % 4) 0 (and_split (eqb (piece_at w % 4) 0) (is_loop w) p).0)
    (λ g. either (is_line w) (leb 2 (header_at w % 4)) g (λ z. absurd (n (eqb-true (header_at w) 0 z))) (λ z. absurd (over (leb-true 2 (header_at w % 4) z))))
  where
    over : 2 ≤ header_at w % 4 → ⊥
    over z = omega arith

module _ (C : List Line) (p : ℕ) where
  guard_read : p % 4 ≡ 0 → test_tokens C (piece_of p) guard ≡ or_else (condition (line C (p / 4)) (ascii "if")) []
  unfolding test_tokens form_of form_tokens condition
  guard_read f = rw f

  while_read : (t : ℕ) (a z : Piece) (h : ℕ) → (h ≡ 0 → ⊥) → (h ≡ 1 → ⊥) → h < 4
      → header_tokens C (piece_of p) (header_of h (piece_of t) a z) ≡ merge (while_head (test_read C (h % 4) (p / 4) t))
  unfolding header_of header_tokens while_tokens test_tokens test_read
  while_read t a z zero m n l = absurd (m refl)
  while_read t a z (suc zero) m n l = absurd (n refl)
  while_read t a z (suc (suc zero)) m n l = refl
  while_read t a z (suc (suc (suc zero))) m n l = refl
  while_read t a z (suc (suc (suc (suc h)))) m n l = absurd (omega arith)

  for_read : (t : ℕ) (a z : Piece) (h : ℕ) → 4 ≤ h → h < 8 → (h % 4 < 2 → p % 4 ≡ 0)
      → header_tokens C (piece_of p) (header_of h (piece_of t) a z) ≡ for_head (piece_tokens C a) (test_read C (h % 4) (p / 4) t) (piece_tokens C z)
  unfolding header_of header_tokens test_tokens test_read
  for_read t a z zero m n f = absurd (omega arith)
  for_read t a z (suc zero) m n f = absurd (omega arith)
  for_read t a z (suc (suc zero)) m n f = absurd (omega arith)
  for_read t a z (suc (suc (suc zero))) m n f = absurd (omega arith)
  for_read t a z (suc (suc (suc (suc zero)))) m n f = ap (λ c. for_head (piece_tokens C a) c (piece_tokens C z)) (guard_read (f (omega arith)))
  for_read t a z (suc (suc (suc (suc (suc zero))))) m n f = ap (λ c. for_head (piece_tokens C a) c (piece_tokens C z)) (guard_read (f (omega arith)))
  for_read t a z (suc (suc (suc (suc (suc (suc zero)))))) m n f = refl
  for_read t a z (suc (suc (suc (suc (suc (suc (suc zero))))))) m n f = refl
  for_read t a z (suc (suc (suc (suc (suc (suc (suc (suc h)))))))) m n f = absurd (omega arith)

header_line : (C : List Line) (w : ℕ)
    → header_tokens C (piece_of (piece_at w)) (header_of (header_at w) (piece_of (test_at w)) (piece_of (initialiser_at w)) (piece_of (step_at w))) ≡ (line_of C w).tokens
unfolding planned plan_of
header_line C w = refl

for_shape : (a c z : List Token) → merge (for_start a ++ for_end c z) ≡ for_head a c z
for_shape a c z = ap merge (simp append_assoc)

-- The tokens of a word's line

module _ {ts us : List Token} {u v : Writer} where
  begins_plain : us ≡ ts → Adding false us u v → Begins ts u v
  begins_plain e a = record {
    same = a.same;
    kept = a.kept;
    begins = λ o M g. subst (λ ys. Holds (opened M ys) (open_lent o v) v.written) e (a.adds o M [] g);
  }

  begins_merged : merge us ≡ ts → Adding true us u v → Begins ts u v
  begins_merged e a = record {
    same = a.same;
    kept = a.kept;
    begins = λ o M g. subst (λ ys. Holds (opened M ys) (open_lent o v) v.written) e (a.adds o M [] (unfold merge in g));
  }

module _ (C : List Line) (w : ℕ) (k : is_sound w ≡ true) {out out' : Writer} where
  pub begins_piece : Says w NoHeader → (s : ℕ) → s ≡ piece_at w → Adding false (dressed false (piece C s).tokens) out out' → Begins (line_of C w).tokens out out'
  begins_piece y s u a = begins_plain (ap (λ q. (piece C q).tokens) u ∙ sym (ap (λ m. m.tokens) (kept_line C w (no_number w y)))) a

  pub begins_guard : (t : Asked) → Says w (While t) → t ≡ Guard → (s : ℕ) → s ≡ piece_at w / 4
      → Adding false (while_head (or_else (condition (line C s) (ascii "if")) [])) out out' → Begins (line_of C w).tokens out out'
  begins_guard t y e s u a =
      let z : header_at w ≡ 1 = guard_number w t y e in
      begins_plain
      (ap (λ i. while_head (or_else (condition (line C i) (ascii "if")) [])) u
      ∙ sym (ap (λ m. m.tokens) (guard_line w z C) ∙ ap while_head (guard_read C (piece_at w) (guarded w k (λ q. omega arith) (omega arith))))) a

  pub begins_while : (t : Asked) → Says w (While t) → (t ≡ Always) ⊎ (t ≡ Leading) → Adding true (while_head (test_read C (header_at w % 4) (piece_at w / 4) (test_at w))) out out'
      → Begins (line_of C w).tokens out out'
  begins_while t y n a =
      let z = while_number w t y n in
      begins_merged
      (sym (while_read C (piece_at w) (test_at w) (piece_of (initialiser_at w)) (piece_of (step_at w)) (header_at w) (λ q. omega (arith, z.0)) (λ q. omega (arith, z.0)) z.1)
      ∙ header_line C w) a

  pub begins_for : {out₁ : Writer} (t : Asked) → Says w (For t) → Adding true (for_start (piece C (initialiser_at w)).tokens) out out₁
      → Adding true (for_end (test_read C (header_at w % 4) (piece_at w / 4) (test_at w)) (piece C (step_at w)).tokens) out₁ out'
      → Begins (line_of C w).tokens out out'
  begins_for t y a b =
      let l : 4 ≤ header_at w = for_number w t y in
      let i = (piece C (initialiser_at w)).tokens in
      let d = test_read C (header_at w % 4) (piece_at w / 4) (test_at w) in
      let z = (piece C (step_at w)).tokens in
      let e : merge (for_start i ++ for_end d z) ≡ (line_of C w).tokens =
      for_shape i d z
      ∙ (sym (for_read C (piece_at w) (test_at w) (piece_of (initialiser_at w)) (piece_of (step_at w)) (header_at w) l (omega arith) (guarded w k (λ q. omega arith))) ∙ header_line C w) in
      begins_merged e (adds_more (for_start i) (for_end d z) a b)

-- Lines

module _ (S : List Line) (l t x : List ℕ) (R : Source S l t x) where
  form_same : (f : Form) (i : ℕ) → form_tokens f (line S i) ≡ form_tokens f (line (listing l t x) i)
  unfolding form_tokens
  form_same kept i = R.tokens i
  form_same continued i = rw (R.tokens i)
  form_same broken i = rw (R.tokens i)
  form_same closed i = refl

  piece_same : (p : Piece) → piece_tokens S p ≡ piece_tokens (listing l t x) p
  piece_same p = form_same p.form p.source

  test_same : (p : Piece) (q : Test) → test_tokens S p q ≡ test_tokens (listing l t x) p q
  unfolding test_tokens
  test_same p guard = ap (λ ts. or_else (condition (pseudo_line None 1 ts) (ascii "if")) []) (piece_same p)
  test_same p always = refl
  test_same p (leading q) = ap (λ ts. or_else (leading_test (pseudo_line None 1 ts) 0) one) (piece_same q)

  while_same : (p : Piece) (q : Test) → while_tokens S p q ≡ while_tokens (listing l t x) p q
  unfolding while_tokens
  while_same p guard = ap while_head (test_same p guard)
  while_same p always = ap (λ ts. merge (while_head ts)) (test_same p always)
  while_same p (leading q) = ap (λ ts. merge (while_head ts)) (test_same p (leading q))

  header_same : (p : Piece) (h : Header) → header_tokens S p h ≡ header_tokens (listing l t x) p h
  unfolding header_tokens
  header_same p no_header = piece_same p
  header_same p (while_over q) = while_same p q
  header_same p (for_over q a z) =
      ap₂ (λ u v. for_head u (test_tokens S p q) v) (piece_same a) (piece_same z)
      ∙ ap (λ c. for_head (piece_tokens (listing l t x) a) c (piece_tokens (listing l t x) z)) (test_same p q)

  tokens_same : (w : ℕ) → (line_of S w).tokens ≡ (line_of (listing l t x) w).tokens
  unfolding planned plan_of
  tokens_same w = header_same (plan_of w).piece (plan_of w).header

line_parts : (S : List Line) (w : ℕ) → line_of S w ≡ pseudo_line (line S (piece_at w / 4)).address (indent_at w) (line_of S w).tokens
unfolding planned plan_of
line_parts S w = refl

module _ (l a t x : List ℕ) (w : ℕ) (q : length a ≡ length l) {out₀ out₁ out₂ : Writer} where
  pub line_written : Same out₀ out₁
      → ((M : List Line) → Holds (done M) (columns_of out₀) out₀.written → Holds (opened M (line_of (listing l t x) w).tokens) (columns_of out₁) out₁.written)
      → (s i : ℕ) (o : Option ℕ) → s ≡ piece_at w / 4 → i ≡ indent_at w → o ≡ (line (with_addresses l a (listing l t x)) s).address
      → Same out₁ out₂ → Writing (end_line o i) (columns_of out₁) out₁.written (columns_of out₂) out₂.written
      → LineAdded (line_of (with_addresses l a (listing l t x)) w) out₀ out₂
  line_written b begins s i o u v g f ends =
      let S = with_addresses l a (listing l t x) in
      let ts = (line_of (listing l t x) w).tokens in
      let same : pseudo_line o i ts ≡ line_of S w =
      ap₂ (λ o i. pseudo_line o i ts) (g ∙ ap (λ j. (line S j).address) u) v
      ∙ (ap (pseudo_line (line S (piece_at w / 4)).address (indent_at w)) (sym (tokens_same S l t x (columns_source l a t x q) w)) ∙ sym (line_parts S w)) in
      record {
        same = same_more b f;
        added = λ M h. subst (λ m. Holds (done (M ++ (m ∷ []))) (columns_of out₂) out₂.written) same (ends (opened M ts) (begins M h));
      }

  pub line_ended : Begins (line_of (listing l t x) w).tokens out₀ out₁
      → (s i : ℕ) (o : Option ℕ) → s ≡ piece_at w / 4 → i ≡ indent_at w → o ≡ (line (with_addresses l a (listing l t x)) s).address
      → Writes lines_lent (end_line o i) out₁ out₂ → LineAdded (line_of (with_addresses l a (listing l t x)) w) out₀ out₂
  line_ended b s i o u v g f =
      let ts = (line_of (listing l t x) w).tokens in
      line_written b.same
      (λ M h. subst (λ (o : Columns). Holds (opened M ts) o out₁.written) (sym b.kept) (b.begins (columns_of out₀) M h))
      s i o u v g f.same (lines_written f)

-- All lines

pub word_sound : (ws : List ℕ) (i : ℕ) → all is_sound ws ≡ true → i < length ws → is_sound (get_or ws i 0) ≡ true
unfolding all
word_sound [] i e h = absurd (omega arith)
word_sound (w ∷ ws) zero e h = (and_split (is_sound w) (all is_sound ws) e).0
word_sound (w ∷ ws) (suc i) e h = word_sound ws i (and_split (is_sound w) (all is_sound ws) e).1 (omega arith)

both : {a b : Bool} → a ≡ true → b ≡ true → (a && b) ≡ true
both f g = rw (f, g)

all_sound : (p : ℕ → Bool) → ((w : ℕ) → p w ≡ true → is_sound w ≡ true) → (ws : List ℕ) → all p ws ≡ true → all is_sound ws ≡ true
unfolding all
all_sound p f [] e = refl
all_sound p f (w ∷ ws) e = let q = and_split (p w) (all p ws) e in both (f w q.0) (all_sound p f ws q.1)

pub plain_sound : (ws : List ℕ) → all is_plain ws ≡ true → all is_sound ws ≡ true
plain_sound = all_sound is_plain (λ w q. ap (λ b. b || is_goto w) q)

pub goto_sound : (ws : List ℕ) → all is_goto ws ≡ true → all is_sound ws ≡ true
goto_sound = all_sound is_goto (λ w q. ap (λ b. is_plain w || b) q ∙ or-true (is_plain w))

pub emitted_next : (S : List Line) (ws : List ℕ) (i : ℕ) → i < length ws → {out₀ out₁ out₂ : Writer}
    → Emits (render S (take i ws)) out₀ out₁ → LineAdded (line_of S (get_or ws i 0)) out₁ out₂ → Emits (render S (take (i + 1) ws)) out₀ out₂
emitted_next S ws i lt {out₀} {out₁} {out₂} e a = record {
  same = same_more e.same a.same;
  holds = subst (λ M. Holds (done M) (columns_of out₂) out₂.written)
      (sym (ap (render S) (ap (λ m. take m ws) (add-one i) ∙ take-suc ws i 0 lt) ∙ map_append (line_of S) (take i ws) (get_or ws i 0 ∷ [])))
      (a.added (render S (take i ws)) e.holds);
}

pub emitted_end : (S : List Line) (ws : List ℕ) (i : ℕ) → length ws ≤ i → {out₀ out₁ : Writer} → Emits (render S (take i ws)) out₀ out₁ → Emits (render S ws) out₀ out₁
emitted_end S ws i h {out₀} {out₁} e = subst (λ vs. Emits (render S vs) out₀ out₁) (take_all i ws h) e
