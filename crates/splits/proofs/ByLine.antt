-- What is written line by line, and the definitions that go token by token.
--   by_line_start, by_line_next, by_line_end     lines one after the other: what is written for the first i lines stands in front
--   per_token_by_line      what is written for each line's tokens is `per_token`
-- Assumes nothing.
use Rattle.std.specs.Prelude.{None, Some}
use Prim.Native.Nat.{ℕ, zero, suc, ◌+◌, ◌-◌, ◌/◌, ◌<◌, ◌≤◌}
use mathlib.Core.Path.{◌≡◌, refl, sym, ap, ap₂, ◌∙◌, fun_ext}
use mathlib.Core.Bool.{true}
use mathlib.Core.List.{List, [], ◌∷◌, ◌++◌, map, map-append, append_assoc, append-nil}
use native.Mathlib.Nat.{zero-add}
use native.Mathlib.Numerals.{add-one}
use native.Mathlib.Omega.{arith}
use lib.ListN.{length, get_or, take, drop, length-append, length-map, length-take}
use lib.Seq.{drop-drop, take_all, take_at, drop_at}
use Rattle.definitions.specs.Lists.{part, concat, range, up_to}
use Rattle.definitions.specs.Model.{Token, Line, token, line, no_token}
use Rattle.definitions.specs.Family.{fam_of}
use Rattle.definitions.specs.Columns.{token_list, listing, all_tokens}
use Rattle.definitions.specs.Questions.{covers}
use Rattle.definitions.specs.Answers.{per_token}
use Rattle.text.proofs.Parts.{length_part, drop_end}
use Rattle.model.specs.Places.{line_start, line_end, start_from}
use Rattle.model.proofs.Decode.{line_at, length_listing, length_tokens, start_zero}
use Rattle.model.proofs.Formed.{line_order, line_within, all_tokens_listing, tokens_before}
use Rattle.families.proofs.Lists.{range_snoc}
use Rattle.families.proofs.TokenWords.{map_places}
use Rattle.splits.specs.Tokens.{over, by_line}

-- Lines one after the other

concat_snoc : {A : Type 0} (xss : List (List A)) (xs : List A) → concat (xss ++ (xs ∷ [])) ≡ concat xss ++ xs
unfolding concat
concat_snoc [] xs = append-nil xs
concat_snoc (ys ∷ xss) xs = ap (ys ++◌) (concat_snoc xss xs) ∙ sym (append_assoc ys (concat xss) xs)

pub start_next : (l : List ℕ) (i : ℕ) → line_start l (i + 1) ≡ get_or l i 0 / 512
unfolding start_from
start_next l i = rw (add-one i)

module _ (l t : List ℕ) (ok : covers 512 0 l (length t) ≡ true) where
  module _ (i : ℕ) (h : i < length l) where
    pub line_to : line_end l t i ≡ line_start l (i + 1)
    line_to = omega (arith, line_within l t ok i h, start_next l i)

    pub line_upward : line_start l i ≤ line_end l t i
    line_upward = omega (arith, line_within l t ok i h, line_order l t ok i h)

  module _ {A : Type 0} (g : ℕ → A → ℕ) (ws : List A) (size : length t ≤ length ws) where
    by_line_more : (i : ℕ) → by_line l t g ws (i + 1) ≡ by_line l t g ws i ++ map (g i) (part (line_start l i) (line_end l t i) ws)
    unfolding by_line
    by_line_more i =
        ap (λ (n : ℕ). concat (map one (up_to n))) (add-one i) ∙ ap (λ (is : List ℕ). concat (map one is)) (range_snoc 0 i)
        ∙ ap concat (map-append one (up_to i) ((0 + i) ∷ [])) ∙ concat_snoc (map one (up_to i)) (one (0 + i))
        ∙ ap (λ (j : ℕ). concat (map one (up_to i)) ++ one j) (zero-add i)
      where
        one : ℕ → List ℕ
        one i = map (g i) (part (line_start l i) (line_end l t i) ws)

    length_by_line : (i : ℕ) → i ≤ length l → length (by_line l t g ws i) ≡ line_start l i
    length_by_line zero h = unfold by_line range concat in sym (start_zero 512 0 l)
    length_by_line (suc i) h =
        let z = add-one i in
        rw (← z, by_line_more i, length-append, length-map, length_part ws (line_start l i) (line_end l t i), length_by_line i (omega arith))
        (omega (arith, line_to i h, line_upward i h))

    -- the lines before line i are done in ms, which was ms₀
    module _ (ms₀ ms : List ℕ) (i : ℕ) (inv : ms ≡ by_line l t g ws i ++ drop (line_start l i) ms₀) (h : i < length l) where
      front : take (line_start l i) ms ≡ by_line l t g ws i
      front = ap (take (line_start l i)) inv ∙ take_at (by_line l t g ws i) (drop (line_start l i) ms₀) (line_start l i) (length_by_line i (omega arith))

      back : drop (line_start l i) ms ≡ drop (line_start l i) ms₀
      back = ap (drop (line_start l i)) inv ∙ drop_at (by_line l t g ws i) (drop (line_start l i) ms₀) (line_start l i) (length_by_line i (omega arith))

      later : drop (line_end l t i) ms ≡ drop (line_start l (i + 1)) ms₀
      later =
          let z : line_start l i + (line_end l t i - line_start l i) ≡ line_end l t i = omega (arith, line_upward i h) in
          ap (λ (k : ℕ). drop k ms) (sym z) ∙ sym (drop-drop (line_end l t i - line_start l i) (line_start l i) ms)
          ∙ ap (drop (line_end l t i - line_start l i)) back ∙ drop-drop (line_end l t i - line_start l i) (line_start l i) ms₀
          ∙ ap (λ (k : ℕ). drop k ms₀) (z ∙ line_to i h)

      pub by_line_next : (next : List ℕ) → next ≡ over (line_start l i) (line_end l t i) (g i) ws ms → next ≡ by_line l t g ws (i + 1) ++ drop (line_start l (i + 1)) ms₀
      by_line_next next e =
          e ∙ ap₂ (λ (a b : List ℕ). a ++ (map (g i) (part (line_start l i) (line_end l t i) ws) ++ b)) front later
          ∙ sym (append_assoc (by_line l t g ws i) (map (g i) (part (line_start l i) (line_end l t i) ws)) (drop (line_start l (i + 1)) ms₀))
          ∙ ap (◌++ drop (line_start l (i + 1)) ms₀) (sym (by_line_more i))

  last_start : length t ≤ line_start l (length l)
  last_start =
      let n : length (listing l t []) ≤ length l = omega (arith, length_listing l t []) in
      let e = sym (all_tokens_listing l t ok []) ∙ ap all_tokens (sym (take_all (length l) (listing l t []) n)) ∙ tokens_before l t ok [] (length l) (omega arith) in
      omega (arith, ap length e, length-take (line_start l (length l)) (token_list t []), length_tokens t [])

  module _ {A : Type 0} (g : ℕ → A → ℕ) (ws : List A) (ms₀ : List ℕ) where
    pub by_line_start : ms₀ ≡ by_line l t g ws 0 ++ drop (line_start l 0) ms₀
    unfolding by_line range concat
    by_line_start = rw (start_zero 512 0 l)

    pub by_line_end : (ms : List ℕ) (i : ℕ) → ms ≡ by_line l t g ws i ++ drop (line_start l i) ms₀ → i ≤ length l → length l ≤ i → length ms₀ ≡ length t
        → ms ≡ by_line l t g ws (length l)
    by_line_end ms i inv h b e =
        let z : i ≡ length l = omega arith in
        let d = drop_end ms₀ (line_start l (length l)) (omega (arith, last_start)) in
        inv ∙ rw (z, d) (append-nil (by_line l t g ws (length l)))

-- Token by token

map_below : {A : Type 0} (f g : ℕ → A) (n : ℕ) → ((i : ℕ) → i < n → f i ≡ g i) → map f (up_to n) ≡ map g (up_to n)
unfolding range
map_below f g n h = go 0 n (λ i b. h i (omega arith))
  where
    go : (a m : ℕ) → ((i : ℕ) → i < a + m → f i ≡ g i) → map f (range a m) ≡ map g (range a m)
    go a zero h = refl
    go a (suc m) h = ap₂ (λ (x : _) (xs : List _). x ∷ xs) (h a (omega arith)) (go (suc a) m (λ i b. h i (omega arith)))

module _ (l t x : List ℕ) (ok : covers 512 0 l (length t) ≡ true) where
  tokens_line : (i : ℕ) → i < length l → part (line_start l i) (line_end l t i) (token_list t x) ≡ (line (listing l t x) i).tokens
  tokens_line i h =
      let z : line_end l t i ≡ get_or l i 0 / 512 = omega (arith, line_within l t ok i h) in
      ap (λ (e : ℕ). part (line_start l i) e (token_list t x)) z ∙ ap (λ (m : Line). m.tokens) (sym (line_at l t x i))

  module _ (other : ℕ) (f : List ℕ → ℕ → ℕ) (g : ℕ → Token → ℕ)
      (same : (i : ℕ) → i < length l → (u : Token) → g i u ≡ (elim (fam_of u) [ None ↦ other | Some y ↦ f y.name i ])) where
    pub per_token_by_line : by_line l t g (token_list t x) (length l) ≡ per_token other (λ n i k. f n i) (listing l t x)
    unfolding by_line per_token
    per_token_by_line =
        ap concat (map_below one all (length l) line_same) ∙ ap (λ (n : ℕ). concat (map all (up_to n))) (sym (length_listing l t x))
      where
        one : ℕ → List ℕ
        one i = map (g i) (part (line_start l i) (line_end l t i) (token_list t x))

        says : ℕ → Token → ℕ
        says i u = elim (fam_of u) [ None ↦ other | Some y ↦ f y.name i ]

        all : ℕ → List ℕ
        all i = map (λ k. says i (token (line (listing l t x) i) k)) (up_to (length (line (listing l t x) i).tokens))

        line_same : (i : ℕ) → i < length l → one i ≡ all i
        line_same i h =
            ap (map (g i)) (tokens_line i h) ∙ ap (λ (p : Token → ℕ). map p (line (listing l t x) i).tokens) (fun_ext (λ u. same i h u))
            ∙ sym (map_places (says i) no_token (line (listing l t x) i).tokens)
