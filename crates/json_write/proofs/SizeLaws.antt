-- The length of the text of a listing, from the sizes of its lines, its tokens and the bytes of its text.
--   length_write      the length of the text, by columns that questions 1 and 2 accept
--   listing_sized     the same, as a rule for the need
-- Assumes nothing.
use Prim.Native.Nat.{ℕ, ◌+◌, ◌/◌}
use mathlib.Core.Path.{◌≡◌, refl, sym, ap, ◌∙◌}
use mathlib.Core.Bool.{true}
use mathlib.Core.List.{List, [], ◌∷◌, ◌++◌}
use native.Mathlib.Omega.{arith}
use borrow.Author.Tests.{eqb-true}
use lib.Dec.{leb}
use lib.ListN.{length, length-append}
use Rattle.definitions.specs.Lists.{concat, part}
use Rattle.definitions.specs.Model.{Token, Line, text}
use Rattle.definitions.specs.Columns.{token_list, listing, with_addresses, all_tokens}
use Rattle.definitions.specs.Questions.{covers}
use Rattle.loop_theory.proofs.Cases.{and_split}
use Rattle.text.proofs.Parts.{part_tail}
use Rattle.model.specs.Places.{start_from, token_start}
use Rattle.model.proofs.Decode.{start_next, start_zero, length_listing, length_tokens}
use Rattle.model.proofs.Formed.{formed_lines, formed_tokens, all_tokens_listing, run_text}
use Rattle.json_definitions.specs.Writer.{characters_text, string_text, token_text, elements_text, array_text, line_text, write}
use Rattle.json_write.specs.Answers.{lines_of}
use Rattle.json_append.specs.Sizes.{total, Sized}
use Rattle.json_append.proofs.Sums.{length_characters}
use Rattle.json_write.specs.Sizes.{ends, token_size, head_size, Formed}
use Rattle.json_write.proofs.LineRules.{line_is, length_lines}

-- Sums

total_append : {A : Type 0} (f : A → ℕ) (xs ys : List A) → total f (xs ++ ys) ≡ total f xs + total f ys
unfolding total
total_append f [] ys = omega arith
total_append f (x ∷ xs) ys = let e = total_append f xs ys in omega arith

-- An array

abbrev with_comma : {A : Type 0} → (A → List ℕ) → A → ℕ
with_comma f x = 1 + length (f x)

length_elements : {A : Type 0} (f : A → List ℕ) (xs : List A) → length (elements_text f xs) ≡ 1 + total (with_comma f) xs
unfolding elements_text total
length_elements f [] = refl
length_elements f (x ∷ xs) = let e = length_elements f xs in simp length-append (omega arith)

length_array : {A : Type 0} (f : A → List ℕ) (xs : List A) → length (array_text f xs) ≡ ends (length xs) + total (with_comma f) xs
unfolding array_text total ends
length_array f [] = refl
length_array f (x ∷ xs) = let e = length_elements f xs in simp length-append (omega arith)

-- Tokens

length_token : (t : Token) → with_comma token_text t ≡ token_size t + length (characters_text t.text)
unfolding token_text string_text
length_token t = simp length-append (omega arith)

length_tokens_text : (ts : List Token) → total (with_comma token_text) ts ≡ total token_size ts + length (characters_text (text ts))
unfolding total text
length_tokens_text [] = unfold characters_text in refl
length_tokens_text (t ∷ ts) =
    let e = length_tokens_text ts in let w = length_token t in let c = length_characters t.text (text ts) in
    omega arith

-- Lines

length_line : (l : Line) → with_comma line_text l ≡ head_size l + total (with_comma token_text) l.tokens
unfolding head_size
length_line l =
    let e = ap length (line_is l l.tokens refl) in
    let a = length_array token_text l.tokens in
    omega (arith, simp length-append at e)

length_lines_text : (L : List Line) → total (with_comma line_text) L ≡ total head_size L + total (with_comma token_text) (all_tokens L)
unfolding total concat
length_lines_text [] = refl
length_lines_text (l ∷ L) =
    let e = length_lines_text L in let w = length_line l in let c = total_append (with_comma token_text) l.tokens (all_tokens L) in
    omega arith

-- The columns

tokens_kept : (l a : List ℕ) (L : List Line) → length a ≡ length l → length L ≡ length l → all_tokens (with_addresses l a L) ≡ all_tokens L
unfolding with_addresses concat
tokens_kept [] a [] p q = refl
tokens_kept [] a (m ∷ ms) p q = absurd (omega arith)
tokens_kept (w ∷ ws) [] L p q = absurd (omega arith)
tokens_kept (w ∷ ws) (b ∷ rest) [] p q = absurd (omega arith)
tokens_kept (w ∷ ws) (b ∷ rest) (m ∷ ms) p q = ap (λ ts. m.tokens ++ ts) (tokens_kept ws rest ms (omega arith) (omega arith))

covers_last : (by s n : ℕ) (ws : List ℕ) → covers by s ws n ≡ true → start_from by s ws (length ws) ≡ n
covers_last by s n [] e = rw start_zero (unfold covers in eqb-true s n e)
covers_last by s n (w ∷ ws) e = rw (← start_next by s w ws (length ws)) (covers_last by (w / by) n ws (unfold covers in (and_split (leb s (w / by)) _ e).1))

module _ (l a t x : List ℕ) (f : Formed l a t x) where
  tokens_are : all_tokens (lines_of l a t x) ≡ token_list t x
  tokens_are = tokens_kept l a (listing l t x) f.addresses (length_listing l t x) ∙ all_tokens_listing l t (formed_lines l t x f.covered) x

  text_is : text (token_list t x) ≡ x
  text_is =
      let ok = formed_tokens l t x f.covered in
      let whole : part 0 (length t) (token_list t x) ≡ token_list t x = ap (λ n. part 0 n (token_list t x)) (sym (length_tokens t x)) ∙ part_tail (token_list t x) 0 in
      let last : token_start t (length t) ≡ length x = covers_last 256 0 (length x) t ok in
      ap text (sym whole) ∙ run_text t x ok 0 (length t) (omega arith) (omega arith) ∙ rw (start_zero, last) (part_tail x 0)

  pub length_write : length (write (lines_of l a t x)) ≡ ends (length (lines_of l a t x)) + (total head_size (lines_of l a t x) + (total token_size (token_list t x) + length (characters_text x)))
  unfolding write
  length_write =
      let L = lines_of l a t x in
      let p = length_array line_text L in let q = length_lines_text L in
      let r : total (with_comma token_text) (all_tokens L) ≡ total token_size (token_list t x) + length (characters_text x) = rw tokens_are (length_tokens_text (token_list t x) ∙ rw text_is) in
      omega arith

  pub listing_sized : (e h n b b' : ℕ) → Sized (ends (length l)) 2 e → Sized (total head_size (lines_of l a t x)) 76800 h → Sized (total token_size (token_list t x)) 393216 n
      → Sized (length (characters_text x)) 1572864 b → b' ≡ b → e + h + n + b' ≡ length (write (lines_of l a t x))
  listing_sized e h n b b' se sh sn sb q =
      let p : e ≡ ends (length (lines_of l a t x)) = rw (length_lines l a t x f.addresses) se.is in
      let i = sh.is in let j = sn.is in let k = sb.is in let w = length_write in
      omega arith
