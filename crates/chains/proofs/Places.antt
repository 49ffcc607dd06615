-- The places of tokens among all: token j of line i stands at `line_start l i + j`.
--   start_within          a line starts inside the tokens
--   token_place           every place is that of one token
--   last_start            the lines end where the tokens do
--   line_next             a line's tokens end where the next line starts
--   other_line            a token of another line stands before a line or behind it
--   place_token           the token at a place
--   place_line_is         the line of a place
--   per_token_at          what `per_token` has at a place
--   per_token_by          a list that has it at every place
-- Assumes nothing.
use Rattle.std.specs.Prelude.{Option, None, Some}
use Prim.Native.Nat.{ℕ, zero, suc, ◌+◌, ◌-◌, ◌/◌, ◌<◌, ◌≤◌}
use mathlib.Core.Path.{◌≡◌, refl, sym, ap, ◌∙◌}
use mathlib.Core.Logic.{◌⊎◌, inl, inr}
use mathlib.Core.Bool.{true}
use mathlib.Core.List.{List}
use native.Mathlib.Omega.{arith}
use lib.ListN.{length, get_or, take, length-take}
use lib.Dec.{ltb}
use borrow.Author.Tests.{lt-ltb, le-ltb}
use lib.Seq.{ext_get_or, take_all}
use Rattle.definitions.specs.Model.{Line, no_token, token, line}
use Rattle.definitions.specs.Family.{Family, fam_of}
use Rattle.definitions.specs.Columns.{token_list, listing, all_tokens}
use Rattle.definitions.specs.Questions.{covers}
use Rattle.definitions.specs.Answers.{per_token}
use Rattle.theory.proofs.Bools.{lt_or_ge}
use Rattle.theory.proofs.Tokens.{length_numbers, number_of_family, number_of_other}
use Rattle.model.specs.Places.{start_from, line_start}
use Rattle.model.proofs.Decode.{length_listing, length_tokens, line_length, line_token}
use Rattle.chains.specs.Chains.{place_line}
use Rattle.chains.proofs.NextPlace.{gap_is}
use Rattle.model.proofs.Formed.{line_order, line_within, tokens_before, all_tokens_listing}

-- what stands at a token whose family is o
abbrev pub of_family : ℕ → (List ℕ → ℕ → ℕ → ℕ) → Option Family → ℕ → ℕ → ℕ
of_family other g None i j = other
of_family other g (Some x) i j = g x.name i j

module _ (l t x : List ℕ) (ok : covers 512 0 l (length t) ≡ true) where
  abbrev L : List Line
  L = listing l t x

  abbrev width : ℕ → ℕ
  width i = length (line L i).tokens

  pub start_within : (i : ℕ) → i ≤ length l → line_start l i ≤ length t
  unfolding start_from
  start_within zero h = omega arith
  start_within (suc i) h = line_within l t ok i (omega arith)

  -- a line's tokens end where the next line starts
  pub line_next : (i : ℕ) → i < length l → line_start l i + width i ≡ line_start l (suc i)
  unfolding start_from
  line_next i h = omega (arith, line_length l t x i, line_order l t ok i h, line_within l t ok i h)

  start_rises : (i k : ℕ) → i + k ≤ length l → line_start l i ≤ line_start l (i + k)
  start_rises i zero h = let z : i + 0 ≡ i = omega arith in rw z (omega arith)
  start_rises i (suc k) h =
      let z : i + suc k ≡ suc (i + k) = omega arith in
      rw z (omega (arith, start_rises i k (omega arith), line_next (i + k) (omega arith)))

  all_before : (i : ℕ) → i ≤ length l → length (all_tokens (take i L)) ≡ line_start l i
  all_before i h = ap length (tokens_before l t ok x i h) ∙ length-take (line_start l i) (token_list t x) ∙ omega (arith, start_within i h, length_tokens t x)

  pub last_start : line_start l (length l) ≡ length t
  last_start =
      sym (all_before (length l) (omega arith))
      ∙ ap (λ (m : List Line). length (all_tokens m)) (take_all (length l) L (omega (arith, length_listing l t x)))
      ∙ ap length (all_tokens_listing l t ok x) ∙ length_tokens t x

  pub token_place : (p : ℕ) → p < length t → (i : ℕ) × (j : ℕ) × (i < length l) × (j < width i) × (p ≡ line_start l i + j)
  unfolding start_from
  token_place p h = go (length l) (omega arith) (omega (arith, last_start))
    where
      go : (m : ℕ) → m ≤ length l → p < line_start l m → (i : ℕ) × (j : ℕ) × (i < length l) × (j < width i) × (p ≡ line_start l i + j)
      go zero g q = absurd (omega arith)
      go (suc m) g q = elim (lt_or_ge p (line_start l m)) [
        | inl b ↦ go m (omega arith) b
        | inr b ↦ (m, p - line_start l m, omega arith, omega (arith, line_next m (omega arith)), omega arith)
      ]

  -- a token of another line stands before line a or behind it
  pub other_line : (i j a : ℕ) → i < length l → a < length l → j < width i → (i ≡ a → ⊥)
      → (line_start l i + j < line_start l a) ⊎ (line_start l a + width a ≤ line_start l i + j)
  other_line i j a hi ha hj n = elim (lt_or_ge i a) [
    | inl q ↦ inl (let z : suc i + (a - suc i) ≡ a = omega arith in omega (arith, line_next i hi, rw z at (start_rises (suc i) (a - suc i) (omega arith))))
    | inr q ↦ inr (let z : suc a + (i - suc a) ≡ i = omega arith in omega (arith, line_next a ha, rw z at (start_rises (suc a) (i - suc a) (omega arith))))
  ]

  module _ (i j : ℕ) (h : i < length l) (b : j < width i) where
    pub place_token : token (line L i) j ≡ get_or (token_list t x) (line_start l i + j) no_token
    place_token = line_token l t x i j (omega (arith, line_length l t x i))

    pub place_inside : line_start l i + j < length t
    place_inside = omega (arith, line_next i h, start_within (suc i) h)

    pub place_line_is : place_line l (line_start l i + j) ≡ i
    unfolding place_line start_from
    place_line_is = gap_is (λ w. ltb (line_start l i + j) (w / 512)) 0 l i h
        (λ q g. le-ltb (line_start l i + j) (get_or l q 0 / 512) (let z : suc q + (i - suc q) ≡ i = omega arith in omega (arith, rw z at (start_rises (suc q) (i - suc q) (omega arith)))))
        (lt-ltb (line_start l i + j) (get_or l i 0 / 512) (omega (arith, line_next i h)))

  module _ (other : ℕ) (g : List ℕ → ℕ → ℕ → ℕ) where
    pub per_token_at : (i j : ℕ) → i < length l → j < width i → get_or (per_token other g L) (line_start l i + j) 0 ≡ of_family other g (fam_of (token (line L i) j)) i j
    per_token_at i j h b = ap (λ (s : ℕ). get_or (per_token other g L) (s + j) 0) (sym (all_before i (omega arith))) ∙ go (fam_of (token (line L i) j)) refl
      where
        go : (o : Option Family) → fam_of (token (line L i) j) ≡ o → get_or (per_token other g L) (length (all_tokens (take i L)) + j) 0 ≡ of_family other g o i j
        go None e = number_of_other other g L i j (rw length_listing h) b e
        go (Some y) e = number_of_family other g L i j y e

    pub per_token_length : length (per_token other g L) ≡ length t
    per_token_length = length_numbers other g L ∙ ap length (all_tokens_listing l t ok x) ∙ length_tokens t x

    pub per_token_by : (ns : List ℕ) → length ns ≡ length t
        → ((i j : ℕ) → i < length l → j < width i → get_or ns (line_start l i + j) 0 ≡ of_family other g (fam_of (token (line L i) j)) i j)
        → ns ≡ per_token other g L
    per_token_by ns e h = ext_get_or 0 ns (per_token other g L) (e ∙ sym per_token_length) (λ p b.
        let w = token_place p (omega arith) in
        rw w.4 (h w.0 w.1 w.2 w.3 ∙ sym (per_token_at w.0 w.1 w.2 w.3)))
