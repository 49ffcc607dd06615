-- What the words of a plan stand for, and what a change of a word does to its line.
--   length_render, line_render    as many lines as words; line i is the line of word i
--   plan_word                     the plan of a word by its parts
--   kept_line, kept_tokens        a word without a header stands for its piece; of form 0, for the source line's tokens
--   moved_line                    a word that moved out stands for the line moved out
--   indent_line                   the indent of a line is that of its word
--   while_line                    a guard made a while header
--   guard_header, guard_line      a while header over its guard
--   for_parts, for_plan, for_line    a while header made a for header
-- Assumes nothing.
use Prim.Native.Nat.{ℕ, zero, suc, ◌+◌, ◌-◌, ◌*◌, ◌/◌, ◌%◌, ◌<◌}
use mathlib.Core.Path.{◌≡◌, refl, sym, ap, ap₂, ◌∙◌}
use mathlib.Core.List.{List, [], ◌∷◌}
use mathlib.Core.Bool.{true}
use native.Mathlib.Omega.{arith}
use borrow.Author.Tests.{ltb-true}
use lib.ListN.{length, get_or, length-map}
use Rattle.definitions.specs.Model.{Line, pseudo_line, line}
use Rattle.definitions.specs.ToFor.{for_head}
use Rattle.definitions.specs.Passes.{while_head}
use Rattle.definitions.specs.RecoverLoops.{move_out}
use Rattle.plan.specs.Plan.{Piece, Test, Test.guard, Test.always, Test.leading, Header.no_header, Header.while_over, Header.for_over, form_tokens, piece_tokens, test_tokens, while_tokens, header_tokens, planned, form_of, piece_of, header_of, indent_at, header_at, piece_at, test_at, initialiser_at, step_at, plan_of, line_of, render, word}
use Rattle.plan.specs.Changes.{is_out, moved_out, as_while, for_word}

pub length_render : (S : List Line) (ws : List ℕ) → length (render S ws) ≡ length ws
length_render S ws = length-map ws (line_of S)

pub line_render : (S : List Line) (ws : List ℕ) (i : ℕ) → i < length ws → line (render S ws) i ≡ line_of S (get_or ws i 0)
line_render S [] i h = absurd (omega arith)
line_render S (w ∷ ws) zero h = refl
line_render S (w ∷ ws) (suc i) h = line_render S ws i (omega arith)

-- The parts of a word

div_256 : (r q : ℕ) → r < 256 → ((r + 256 * q) / 256 ≡ q) × ((r + 256 * q) % 256 ≡ r)
div_256 r q h = let d : (r + 256 * q) / 256 ≡ q = omega arith in (d, omega arith)

div_8 : (r q : ℕ) → r < 8 → ((r + 8 * q) / 8 ≡ q) × ((r + 8 * q) % 8 ≡ r)
div_8 r q h = let d : (r + 8 * q) / 8 ≡ q = omega arith in (d, omega arith)

div_4096 : (r q : ℕ) → r < 4096 → ((r + 4096 * q) / 4096 ≡ q) × ((r + 4096 * q) % 4096 ≡ r)
div_4096 r q h = let d : (r + 4096 * q) / 4096 ≡ q = omega arith in (d, omega arith)

pub plan_word : (i h p t a z : ℕ) → i < 256 → h < 8 → p < 4096 → t < 4096 → a < 4096 → z < 4096
    → plan_of (word i h p t a z) ≡ record { indent = i; piece = piece_of p; header = header_of h (piece_of t) (piece_of a) (piece_of z) }
unfolding plan_of
plan_word i h p t a z hi hh hp ht ha hz =
    let A = a + 4096 * z in
    let T = t + 4096 * A in
    let P = p + 4096 * T in
    let H = h + 8 * P in
    let d₁ = div_256 i H hi in
    let d₂ = div_8 h P hh in
    let d₃ = div_4096 p T hp in
    let d₄ = div_4096 t A ht in
    let d₅ = div_4096 a z ha in
    let d₆ : z % 4096 ≡ z = omega arith in
    rw (d₁.1, d₁.0, d₂.1, d₂.0, d₃.1, d₃.0, d₄.1, d₄.0, d₅.1, d₅.0, d₆)

-- A word without a header

module _ (S : List Line) (w : ℕ) (h : header_at w ≡ 0) where
  pub kept_line : line_of S w ≡ pseudo_line (line S (piece_at w / 4)).address (indent_at w) (piece_tokens S (piece_of (piece_at w)))
  unfolding planned plan_of header_of header_tokens
  kept_line = rw h

  pub kept_tokens : piece_at w % 4 ≡ 0 → (line_of S w).tokens ≡ (line S (piece_at w / 4)).tokens
  unfolding form_of form_tokens
  kept_tokens f = ap (λ (l : Line). l.tokens) kept_line ∙ rw f

  while_plan : plan_of (as_while w) ≡ record { indent = indent_at w; piece = piece_of (piece_at w); header = while_over guard }
  unfolding plan_of header_of
  while_plan =
      let i : (w + 256) % 256 ≡ w % 256 = omega arith in
      let q : (w + 256) / 256 ≡ w / 256 + 1 = omega arith in
      let s : (w / 256 + 1) / 8 ≡ w / 256 / 8 = omega arith in
      let f : (w / 256 + 1) % 8 ≡ 1 = omega arith in
      rw (i, q, f, s)

  pub while_line : line_of S (as_while w)
      ≡ pseudo_line (line_of S w).address (line_of S w).indent (while_head (test_tokens S (piece_of (piece_at w)) guard))
  unfolding planned header_tokens while_tokens plan_of
  while_line = ap (planned S) while_plan

pub indent_line : (S : List Line) (w : ℕ) → (line_of S w).indent ≡ indent_at w
unfolding planned plan_of
indent_line S w = refl

-- A while header over its guard

module _ (w : ℕ) (h : header_at w ≡ 1) where
  pub guard_header : (plan_of w).header ≡ while_over guard
  unfolding plan_of header_of
  guard_header = rw h

  pub guard_line : (S : List Line) → line_of S w
      ≡ pseudo_line (line S (piece_at w / 4)).address (indent_at w) (while_head (test_tokens S (piece_of (piece_at w)) guard))
  unfolding planned plan_of header_of header_tokens while_tokens
  guard_line S = rw h

-- Moving out

pub moved_line : (S : List Line) (w : ℕ) → is_out w ≡ true → line_of S (moved_out w) ≡ move_out (line_of S w)
unfolding planned plan_of
moved_line S w h =
    let p : 0 < w % 256 = ltb-true 0 (w % 256) h in
    let i : (w - 1) % 256 ≡ w % 256 - 1 = omega arith in
    let q : (w - 1) / 256 ≡ w / 256 = omega arith in
    rw (i, q)

-- For headers

for_of : (h : ℕ) (t a z u v : Piece) (T : Test) → h < 8 → header_of h t a z ≡ while_over T → header_of (h % 4 + 4) t u v ≡ for_over T u v
unfolding header_of
for_of zero t a z u v T b e = absurd (no_while e)
  where
    no_while : no_header ≡ while_over T → ⊥
    no_while e = let z : ◌≡◌ {A = ℕ} 0 1 = cc in omega arith
for_of (suc zero) t a z u v T b e = let f : guard ≡ T = cc in rw f
for_of (suc (suc zero)) t a z u v T b e = let f : always ≡ T = cc in rw f
for_of (suc (suc (suc zero))) t a z u v T b e = let f : leading t ≡ T = cc in rw f
for_of (suc (suc (suc (suc zero)))) t a z u v T b e = let y : ◌≡◌ {A = ℕ} 0 1 = cc in absurd (omega arith)
for_of (suc (suc (suc (suc (suc zero))))) t a z u v T b e = let y : ◌≡◌ {A = ℕ} 0 1 = cc in absurd (omega arith)
for_of (suc (suc (suc (suc (suc (suc zero)))))) t a z u v T b e = let y : ◌≡◌ {A = ℕ} 0 1 = cc in absurd (omega arith)
for_of (suc (suc (suc (suc (suc (suc (suc h))))))) t a z u v T b e = let y : ◌≡◌ {A = ℕ} 0 1 = cc in absurd (omega arith)

module _ (v a z : ℕ) where
  pub for_parts : (header_at (for_word v a z) ≡ header_at v % 4 + 4) × (piece_at (for_word v a z) ≡ piece_at v)
      × (initialiser_at (for_word v a z) ≡ piece_at a) × (step_at (for_word v a z) ≡ piece_at z)
  unfolding for_word
  for_parts =
      let A = piece_at a + 4096 * piece_at z in
      let T = test_at v + 4096 * A in
      let P = piece_at v + 4096 * T in
      let H = header_at v % 4 + 4 + 8 * P in
      let d₁ = div_256 (indent_at v) H (omega arith) in
      let d₂ = div_8 (header_at v % 4 + 4) P (omega arith) in
      let d₃ = div_4096 (piece_at v) T (omega arith) in
      let d₄ = div_4096 (test_at v) A (omega arith) in
      let d₅ = div_4096 (piece_at a) (piece_at z) (omega arith) in
      let d₆ : piece_at z % 4096 ≡ piece_at z = omega arith in
      (rw (d₁.0, d₂.1), rw (d₁.0, d₂.0, d₃.1), rw (d₁.0, d₂.0, d₃.0, d₄.0, d₅.1), rw (d₁.0, d₂.0, d₃.0, d₄.0, d₅.0, d₆))

module _ (v a z : ℕ) (T : Test) (e : (plan_of v).header ≡ while_over T) where
  pub for_plan : plan_of (for_word v a z) ≡ record { indent = indent_at v; piece = piece_of (piece_at v); header = for_over T (piece_of (piece_at a)) (piece_of (piece_at z)) }
  unfolding plan_of for_word
  for_plan =
      plan_word (indent_at v) (header_at v % 4 + 4) (piece_at v) (test_at v) (piece_at a) (piece_at z) (omega arith) (omega arith) (omega arith) (omega arith) (omega arith) (omega arith)
      ∙ rw (for_of (header_at v) (piece_of (test_at v)) (piece_of (initialiser_at v)) (piece_of (step_at v)) (piece_of (piece_at a)) (piece_of (piece_at z)) T (omega arith) e)

  pub for_line : (S : List Line) → header_at a ≡ 0 → header_at z ≡ 0 → line_of S (for_word v a z)
      ≡ pseudo_line (line_of S v).address (line_of S v).indent
      (for_head (line_of S a).tokens (test_tokens S (piece_of (piece_at v)) T) (line_of S z).tokens)
  unfolding planned header_tokens plan_of
  for_line S ha hz =
      ap (planned S) for_plan
      ∙ ap₂ (λ x y. pseudo_line (line_of S v).address (line_of S v).indent (for_head x (test_tokens S (piece_of (piece_at v)) T) y))
      (sym (ap (λ (l : Line). l.tokens) (kept_line S a ha))) (sym (ap (λ (l : Line). l.tokens) (kept_line S z hz)))
