-- The number answered for a token, in a list made by `per_token`.
--   token_at L i k      token k of line i
--   token_inside        a token that has a family is a token of the listing
--   length_numbers      there is one number for each token
--   number_of_family    the number at a token that has a family
--   number_of_other     the number at a token that has none
-- Assumes nothing.
use Rattle.std.specs.Prelude.{Option, None, Some}
use Prim.Native.Nat.{ℕ, zero, suc, ◌+◌, ◌<◌, ◌≤◌}
use mathlib.Core.Path.{◌≡◌, refl, sym, ap, ap₂, ◌∙◌}
use mathlib.Core.Logic.{◌⊎◌, inl, inr}
use mathlib.Core.List.{List, [], ◌∷◌, map}
use native.Mathlib.Omega.{arith}
use lib.ListN.{length, get_or, take, length-append, length-map, get_or-map, get_or-eq_default}
use lib.Seq.{take_all}
use Rattle.definitions.specs.Lists.{concat, up_to}
use Rattle.definitions.specs.Model.{Token, Line, token, line, no_token, no_line}
use Rattle.definitions.specs.Family.{Family, fam_of}
use Rattle.definitions.specs.Columns.{all_tokens}
use Rattle.definitions.specs.Answers.{per_token}
use Rattle.definitions.specs.Runs.{number_at}
use Rattle.theory.proofs.Bools.{lt_or_ge}
use Rattle.theory.proofs.ListLaws.{concat_at, getD_map_up_to, length_range}

abbrev pub token_at : List Line → ℕ → ℕ → Token
token_at L i k = token (line L i) k

no_family : fam_of no_token ≡ None
unfolding fam_of
no_family = refl

pub token_inside : (L : List Line) (i k : ℕ) (x : Family) → fam_of (token_at L i k) ≡ Some x
    → (i < length L) × (k < length (line L i).tokens)
token_inside L i k x e = (in_listing (lt_or_ge i (length L)), in_line)
  where
    in_line : k < length (line L i).tokens
    in_line = elim (lt_or_ge k (length (line L i).tokens)) [
      | inl h ↦ h
      | inr h ↦ (let n = ap fam_of (get_or-eq_default (line L i).tokens no_token {n = k} h) in
          let z : ◌≡◌ {A = ℕ} 0 1 = cc (n, no_family) in absurd (omega arith))
    ]

    in_listing : (i < length L) ⊎ (length L ≤ i) → i < length L
    in_listing (inl h) = h
    in_listing (inr h) = absurd (omega (arith, rw (get_or-eq_default L no_line {n = i} h) at in_line))

-- Lists of equal lengths, put one after the other, start at equal places

nothing : (A : Type 0) (i : ℕ) → length (concat {A = A} (take i [])) ≡ 0
unfolding concat
nothing A zero = refl
nothing A (suc i) = refl

concat_lengths : {A B : Type 0} (i : ℕ) (xss : List (List A)) (yss : List (List B))
    → ((j : ℕ) → length (get_or xss j []) ≡ length (get_or yss j []))
    → length (concat (take i xss)) ≡ length (concat (take i yss))
unfolding concat
concat_lengths zero xss yss h = refl
concat_lengths (suc i) [] [] h = refl
concat_lengths {A = A} (suc i) [] (ys ∷ yss) h =
    sym (length-append ys (concat (take i yss)) ∙ omega (arith, h 0, concat_lengths {A = A} i [] yss (λ j. h (suc j)), nothing A i))
concat_lengths {B = B} (suc i) (xs ∷ xss) [] h =
    length-append xs (concat (take i xss)) ∙ omega (arith, h 0, concat_lengths {B = B} i xss [] (λ j. h (suc j)), nothing B i)
concat_lengths (suc i) (xs ∷ xss) (ys ∷ yss) h =
    length-append xs (concat (take i xss)) ∙ ap₂ ◌+◌ (h 0) (concat_lengths i xss yss (λ j. h (suc j)))
    ∙ sym (length-append ys (concat (take i yss)))

map_take : {A B : Type 0} (f : A → B) (i : ℕ) (xs : List A) → map f (take i xs) ≡ take i (map f xs)
map_take f zero xs = refl
map_take f (suc i) [] = refl
map_take f (suc i) (x ∷ xs) = ap (f x ∷◌) (map_take f i xs)

-- The number of a token

module _ (other : ℕ) (f : List ℕ → ℕ → ℕ → ℕ) (L : List Line) where
  abbrev of_family : Option Family → ℕ → ℕ → ℕ
  of_family o i k = elim o [ None ↦ other | Some x ↦ f x.name i k ]

  abbrev row : ℕ → List ℕ
  row i = map (λ k. of_family (fam_of (token_at L i k)) i k) (up_to (length (line L i).tokens))

  abbrev all_rows : List (List ℕ)
  all_rows = map row (up_to (length L))

  row_length : (i : ℕ) → length (row i) ≡ length (line L i).tokens
  row_length i = rw length-map (length_range 0 (length (line L i).tokens))

  row_lengths : (j : ℕ) → length (get_or all_rows j []) ≡ length (get_or (map (λ l. l.tokens) L) j [])
  row_lengths j = rw (get_or-map (λ (l : Line). l.tokens) L j no_line) (elim (lt_or_ge j (length L)) [
    | inl h ↦ rw (getD_map_up_to row (length L) j [] h) (row_length j)
    | inr h ↦ (let g : length all_rows ≤ j = rw length-map (omega (arith, length_range 0 (length L))) in
        rw (get_or-eq_default L no_line {n = j} h, get_or-eq_default all_rows [] {n = j} g))
  ])

  number_of_token : (i k : ℕ) → i < length L → k < length (line L i).tokens
      → number_at L (per_token other f L) i k ≡ of_family (fam_of (token_at L i k)) i k
  unfolding per_token
  number_of_token i k h g =
      let r : get_or all_rows i [] ≡ row i = getD_map_up_to row (length L) i [] h in
      let starts : length (all_tokens (take i L)) ≡ length (concat (take i all_rows)) =
      ap (λ (t : List (List Token)). length (concat t)) (map_take (λ (l : Line). l.tokens) i L)
      ∙ sym (concat_lengths i all_rows (map (λ l. l.tokens) L) row_lengths) in
      ap (λ (p : ℕ). get_or (concat all_rows) (p + k) 0) starts
      ∙ concat_at all_rows i k 0 (rw r (omega (arith, row_length i)))
      ∙ ap (λ (s : List ℕ). get_or s k 0) r
      ∙ getD_map_up_to (λ k. of_family (fam_of (token_at L i k)) i k) (length (line L i).tokens) k 0 g

  -- one number for each token
  pub length_numbers : length (per_token other f L) ≡ length (all_tokens L)
  unfolding per_token
  length_numbers =
      let rows : take (length L) all_rows ≡ all_rows =
      take_all (length L) all_rows (rw length-map (omega (arith, length_range 0 (length L)))) in
      let lists : take (length L) (map (λ l. l.tokens) L) ≡ map (λ l. l.tokens) L =
      take_all (length L) (map (λ l. l.tokens) L) (rw length-map (omega arith)) in
      ap (λ (r : List (List ℕ)). length (concat r)) (sym rows)
      ∙ concat_lengths (length L) all_rows (map (λ l. l.tokens) L) row_lengths
      ∙ ap (λ (t : List (List Token)). length (concat t)) lists

  pub number_of_family : (i k : ℕ) (x : Family) → fam_of (token_at L i k) ≡ Some x
      → number_at L (per_token other f L) i k ≡ f x.name i k
  number_of_family i k x e = let b = token_inside L i k x e in number_of_token i k b.0 b.1 ∙ rw e

  pub number_of_other : (i k : ℕ) → i < length L → k < length (line L i).tokens → fam_of (token_at L i k) ≡ None
      → number_at L (per_token other f L) i k ≡ other
  number_of_other i k h g e = number_of_token i k h g ∙ rw e
