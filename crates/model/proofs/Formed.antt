-- What question 2's answer says of the columns: pieces in order, without gap, up to the end.
--   formed_lines, formed_tokens, formed_kinds    the three parts of the answer
--   line_order, line_within                      a line starts no later than it ends, and ends within the tokens
--   token_order, token_within                    a token likewise within the text
--   tokens_before, all_tokens_listing            the tokens of the first lines, and of all, are the first tokens, and all
--   run_text                                     the texts of a run of tokens, one after the other, are one part of the text
-- Assumes nothing.
use mathlib.Core.Path.{◌≡◌, refl, sym, ap, ◌∙◌}
use mathlib.Core.Bool.{true, ◌&&◌}
use mathlib.Core.List.{List, [], ◌∷◌, map}
use Prim.Native.Nat.{ℕ, zero, suc, ◌+◌, ◌-◌, ◌/◌, ◌%◌, ◌≤◌, ◌<◌}
use native.Mathlib.Nat.{le_of_suc-le-suc, not-suc-le-zero, zero-add, suc-add, sub-zero}
use native.Mathlib.Omega.{arith}
use borrow.Author.Tests.{leb-true, eqb-true}
use lib.Dec.{leb}
use lib.ListN.{length, get_or, take, drop, length-drop}
use lib.Seq.{take_all}
use Rattle.definitions.specs.Lists.{part, all, concat}
use Rattle.definitions.specs.Model.{Token, text}
use Rattle.definitions.specs.Columns.{pieces, token_of, line_of, token_list, listing, all_tokens}
use Rattle.definitions.specs.Questions.{covers, question_2}
use Rattle.text.proofs.Parts.{part_join}
use Rattle.model.proofs.Ands.{both}
use Rattle.model.specs.Places.{start_from, token_start, line_start}
use Rattle.model.proofs.Decode.{start_next, start_zero, length_listing, length_tokens}

-- Ends that never fall

covers_both : (by s n w : ℕ) (ws : List ℕ) → covers by s (w ∷ ws) n ≡ true → (s ≤ w / by) × (covers by (w / by) ws n ≡ true)
unfolding covers
covers_both by s n w ws e = let p = both (leb s (w / by)) (covers by (w / by) ws n) e in (leb-true s (w / by) p.0, p.1)

covers_top : (by s n : ℕ) (ws : List ℕ) → covers by s ws n ≡ true → s ≤ n
covers_top by s n [] e = unfold covers in omega (arith, eqb-true s n e)
covers_top by s n (w ∷ ws) e =
    let p = covers_both by s n w ws e in
    omega (arith, p.0, covers_top by (w / by) n ws p.1)

covers_at : (by s n : ℕ) (ws : List ℕ) → covers by s ws n ≡ true → (k : ℕ) → k < length ws
    → (start_from by s ws k ≤ get_or ws k 0 / by) × (get_or ws k 0 / by ≤ n)
covers_at by s n [] e k h = absurd (not-suc-le-zero h)
covers_at by s n (w ∷ ws) e zero h =
    let p = covers_both by s n w ws e in
    unfold start_from in (p.0, covers_top by (w / by) n ws p.1)
covers_at by s n (w ∷ ws) e (suc k) h =
    rw (← start_next by s w ws k) (covers_at by (w / by) n ws (covers_both by s n w ws e).1 k (le_of_suc-le-suc h))

-- the start of a later piece
covers_start : (by s n : ℕ) (ws : List ℕ) → covers by s ws n ≡ true → (k : ℕ) → k ≤ length ws
    → (s ≤ start_from by s ws k) × (start_from by s ws k ≤ n)
covers_start by s n ws e zero h = rw start_zero (omega arith, covers_top by s n ws e)
covers_start by s n [] e (suc k) h = absurd (not-suc-le-zero h)
covers_start by s n (w ∷ ws) e (suc k) h =
    let p = covers_both by s n w ws e in
    let q = covers_start by (w / by) n ws p.1 k (le_of_suc-le-suc h) in
    rw (← start_next by s w ws k) (omega (arith, p.0, q.0), q.1)

-- the last piece ends at the end
covers_last : (by s n : ℕ) (ws : List ℕ) → covers by s ws n ≡ true → start_from by s ws (length ws) ≡ n
covers_last by s n [] e = rw start_zero (unfold covers in eqb-true s n e)
covers_last by s n (w ∷ ws) e = rw (← start_next by s w ws (length ws)) (covers_last by (w / by) n ws (covers_both by s n w ws e).1)

-- Pieces one after the other

drop_pieces : {A B : Type 0} (by : ℕ) (make : ℕ → List A → B) (s : ℕ) (ws : List ℕ) (xs : List A) (k : ℕ) → k ≤ length ws
    → drop k (pieces by make s ws xs) ≡ pieces by make (start_from by s ws k) (drop k ws) xs
unfolding pieces
drop_pieces by make s ws xs zero h = rw start_zero
drop_pieces by make s [] xs (suc k) h = absurd (not-suc-le-zero h)
drop_pieces by make s (w ∷ ws) xs (suc k) h =
    rw (← start_next by s w ws k) (drop_pieces by make (w / by) ws xs k (le_of_suc-le-suc h))

drop_covers : (by s n : ℕ) (ws : List ℕ) → covers by s ws n ≡ true → (k : ℕ) → k ≤ length ws
    → covers by (start_from by s ws k) (drop k ws) n ≡ true
drop_covers by s n ws e zero h = rw start_zero e
drop_covers by s n [] e (suc k) h = absurd (not-suc-le-zero h)
drop_covers by s n (w ∷ ws) e (suc k) h =
    rw (← start_next by s w ws k) (drop_covers by (w / by) n ws (covers_both by s n w ws e).1 k (le_of_suc-le-suc h))

start_drop : (by s : ℕ) (ws : List ℕ) (k n : ℕ) → k ≤ length ws
    → start_from by (start_from by s ws k) (drop k ws) n ≡ start_from by s ws (k + n)
start_drop by s ws zero n h = rw (start_zero, zero-add)
start_drop by s [] (suc k) n h = absurd (not-suc-le-zero h)
start_drop by s (w ∷ ws) (suc k) n h =
    rw (suc-add k n, ← start_next by s w ws k, ← start_next by s w ws (k + n)) (start_drop by (w / by) ws k n (le_of_suc-le-suc h))

module _ {A B : Type 0} (by : ℕ) (make : ℕ → List A → B) (piece : B → List A) (made : (w : ℕ) (p : List A) → piece (make w p) ≡ p) (xs : List A) where
  run_from : (s : ℕ) (ws : List ℕ) → covers by s ws (length xs) ≡ true → (n : ℕ) → n ≤ length ws
      → concat (map piece (take n (pieces by make s ws xs))) ≡ part s (start_from by s ws n) xs
  unfolding pieces concat
  run_from s ws e zero h = rw start_zero (let z : s - s ≡ 0 = omega arith in rw z)
  run_from s [] e (suc n) h = absurd (not-suc-le-zero h)
  run_from s (w ∷ ws) e (suc n) h =
      let p = covers_both by s (length xs) w ws e in
      let q = covers_start by (w / by) (length xs) ws p.1 n (le_of_suc-le-suc h) in
      rw (made w (part s (w / by) xs), run_from (w / by) ws p.1 n (le_of_suc-le-suc h), ← start_next by s w ws n)
      (part_join xs s (w / by) (start_from by (w / by) ws n) p.0 q.0)

text_concat : (ts : List Token) → text ts ≡ concat (map (λ t. t.text) ts)
unfolding text concat
text_concat [] = refl
text_concat (t ∷ ts) = rw (text_concat ts)

-- The answer, part by part

module _ (l t x : List ℕ) (ok : question_2 l t x ≡ true) where
  formed_ends : (covers 512 0 l (length t) && covers 256 0 t (length x)) ≡ true
  formed_ends = (both (covers 512 0 l (length t) && covers 256 0 t (length x)) (all (λ w. leb (w % 256) 7) t) ok).0

  pub formed_lines : covers 512 0 l (length t) ≡ true
  formed_lines = (both (covers 512 0 l (length t)) (covers 256 0 t (length x)) formed_ends).0

  pub formed_tokens : covers 256 0 t (length x) ≡ true
  formed_tokens = (both (covers 512 0 l (length t)) (covers 256 0 t (length x)) formed_ends).1

  pub formed_kinds : all (λ w. leb (w % 256) 7) t ≡ true
  formed_kinds = (both (covers 512 0 l (length t) && covers 256 0 t (length x)) (all (λ w. leb (w % 256) 7) t) ok).1

-- Lines

module _ (l t : List ℕ) (ok : covers 512 0 l (length t) ≡ true) where
  pub line_order : (i : ℕ) → i < length l → line_start l i ≤ get_or l i 0 / 512
  line_order i h = (covers_at 512 0 (length t) l ok i h).0

  pub line_within : (i : ℕ) → i < length l → get_or l i 0 / 512 ≤ length t
  line_within i h = (covers_at 512 0 (length t) l ok i h).1

  pub tokens_before : (x : List ℕ) (i : ℕ) → i ≤ length l → all_tokens (take i (listing l t x)) ≡ take (line_start l i) (token_list t x)
  tokens_before x i h =
      run_from 512 line_of (λ m. m.tokens) (λ w ts. refl) (token_list t x) 0 l (rw length_tokens ok) i h ∙ rw (sub-zero (line_start l i))

  pub all_tokens_listing : (x : List ℕ) → all_tokens (listing l t x) ≡ token_list t x
  all_tokens_listing x =
      let n : length (listing l t x) ≤ length l = omega (arith, length_listing l t x) in
      let m : length (token_list t x) ≤ line_start l (length l) = omega (arith, length_tokens t x, covers_last 512 0 (length t) l ok) in
      ap all_tokens (sym (take_all (length l) (listing l t x) n)) ∙ tokens_before x (length l) (omega arith)
      ∙ take_all (line_start l (length l)) (token_list t x) m

-- Tokens

module _ (t x : List ℕ) (ok : covers 256 0 t (length x) ≡ true) where
  pub token_order : (k : ℕ) → k < length t → token_start t k ≤ get_or t k 0 / 256
  token_order k h = (covers_at 256 0 (length x) t ok k h).0

  pub token_within : (k : ℕ) → k < length t → get_or t k 0 / 256 ≤ length x
  token_within k h = (covers_at 256 0 (length x) t ok k h).1

  pub run_text : (a e : ℕ) → a ≤ e → e ≤ length t → text (part a e (token_list t x)) ≡ part (token_start t a) (token_start t e) x
  run_text a e h k =
      let g : a ≤ length t = omega arith in
      let z : a + (e - a) ≡ e = omega arith in
      rw (drop_pieces 256 token_of 0 t x a g, text_concat)
      (run_from 256 token_of (λ k. k.text) (λ w s. refl) x (token_start t a) (drop a t) (drop_covers 256 0 (length x) t ok a g) (e - a)
      (rw length-drop (omega arith)) ∙ rw (start_drop 256 0 t a (e - a) g, z))
