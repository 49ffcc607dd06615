-- Laws of the columns' words when one thing more is written, and of a column that is filled up to a place.
--   text_snoc, all_tokens_snoc                          the bytes and tokens, with a token or line behind
--   token_words_snoc, line_words_snoc, address_words_snoc   the words, with a token or line behind
--   length_token_words, length_line_words               a word for each
--   filled_start, filled_push, filled_last              no word; a word behind the last; another last word
--   copied_start, copied_next, copied_end               bytes copied behind it: none yet, one more, all
--   filled_within                                       what is filled lies within the column
-- Assumes nothing.
use Rattle.std.specs.Prelude.{if◌then◌else◌}
use mathlib.Core.Path.{◌≡◌, refl, sym, ap, ◌∙◌}
use mathlib.Core.List.{List, [], ◌∷◌, ◌++◌, append-nil, append_assoc, map-append}
use Prim.Native.Nat.{ℕ, suc, ◌+◌, ◌-◌, ◌*◌, ◌≤◌, ◌<◌}
use native.Mathlib.Numerals.{add-one}
use native.Mathlib.Omega.{arith}
use lib.ListN.{length, take, get_or, set, length-append, length-take}
use lib.Seq.{take-suc, take-suc-set, take-take, take_at, take_all, length-take-le}
use Rattle.definitions.specs.Lists.{is_some, or_else, concat}
use Rattle.definitions.specs.Model.{Token, Line, text}
use Rattle.definitions.specs.Columns.{line_words_from, token_words_from, all_tokens, address_words}
use Rattle.write.specs.Holds.{Filled}

-- One more

pub text_append : (ts us : List Token) → text (ts ++ us) ≡ text ts ++ text us
unfolding text
text_append [] us = refl
text_append (t ∷ ts) us = rw (text_append ts us, append_assoc)

pub text_snoc : (ts : List Token) (u : Token) → text (ts ++ (u ∷ [])) ≡ text ts ++ u.text
text_snoc ts u = text_append ts (u ∷ []) ∙ (unfold text in rw (append-nil u.text))

pub all_tokens_snoc : (L : List Line) (m : Line) → all_tokens (L ++ (m ∷ [])) ≡ all_tokens L ++ m.tokens
unfolding concat
all_tokens_snoc [] m = append-nil m.tokens
all_tokens_snoc (l ∷ L) m = rw (all_tokens_snoc L m, append_assoc)

pub token_words_snoc : (n : ℕ) (ts : List Token) (u : Token)
    → token_words_from n (ts ++ (u ∷ [])) ≡ token_words_from n ts ++ (((n + length (text ts ++ u.text)) * 256 + u.kind) ∷ [])
unfolding token_words_from text
token_words_snoc n [] u = refl
token_words_snoc n (t ∷ ts) u =
    let e : n + length t.text + length (text ts ++ u.text) ≡ n + length ((t.text ++ text ts) ++ u.text) = simp length-append (omega arith) in
    rw (token_words_snoc (n + length t.text) ts u, e)

pub line_words_snoc : (n : ℕ) (L : List Line) (m : Line)
    → line_words_from n (L ++ (m ∷ []))
    ≡ line_words_from n L ++ (((n + length (all_tokens L ++ m.tokens)) * 512 + (if is_some m.address then 256 else 0) + m.indent) ∷ [])
unfolding line_words_from concat
line_words_snoc n [] m = refl
line_words_snoc n (l ∷ L) m =
    let e : n + length l.tokens + length (all_tokens L ++ m.tokens) ≡ n + length ((l.tokens ++ all_tokens L) ++ m.tokens) = simp length-append (omega arith) in
    rw (line_words_snoc (n + length l.tokens) L m, e)

pub address_words_snoc : (L : List Line) (m : Line) → address_words (L ++ (m ∷ [])) ≡ address_words L ++ (or_else m.address 0 ∷ [])
address_words_snoc L m = map-append (λ l. or_else l.address 0) L (m ∷ [])

pub length_token_words : (n : ℕ) (ts : List Token) → length (token_words_from n ts) ≡ length ts
unfolding token_words_from
length_token_words n [] = refl
length_token_words n (t ∷ ts) = ap suc (length_token_words (n + length t.text) ts)

pub length_line_words : (n : ℕ) (L : List Line) → length (line_words_from n L) ≡ length L
unfolding line_words_from
length_line_words n [] = refl
length_line_words n (l ∷ L) = ap suc (length_line_words (n + length l.tokens) L)

-- A column that is filled up to a place

pub filled_start : (xs : List ℕ) → Filled [] 0 xs
filled_start xs = record { is = refl; count = refl }

pub filled_push : (ws : List ℕ) (n : ℕ) (xs : List ℕ) (w : ℕ) → Filled ws n xs → n < length xs → Filled (ws ++ (w ∷ [])) (n + 1) (set xs n w)
filled_push ws n xs w f h = record {
  is = rw (add-one, take-suc-set xs n w h, f.is);
  count = length-append ws (w ∷ []) ∙ ap (λ (k : ℕ). k + 1) f.count;
}

-- copying bytes behind what stands before place n: none yet, one more, all
pub copied_start : (n : ℕ) (xs : List ℕ) → n ≤ length xs → Filled (take n xs ++ []) (n + 0) xs
copied_start n xs h =
    let e : n + 0 ≡ n = omega arith in
    rw (e, append-nil) (record { is = refl; count = length-take-le n xs h })

pub copied_next : (ws b : List ℕ) (j n : ℕ) (xs : List ℕ) → Filled (ws ++ take j b) (n + j) xs → j < length b → n + j < length xs
    → Filled (ws ++ take (j + 1) b) (n + (j + 1)) (set xs (n + j) (get_or b j 0))
copied_next ws b j n xs f h g =
    let e : n + (j + 1) ≡ n + j + 1 = omega arith in
    rw (e, add-one j, take-suc b j 0, ← append_assoc ws (take j b) (get_or b j 0 ∷ [])) (filled_push (ws ++ take j b) (n + j) xs (get_or b j 0) f g)

pub copied_end : (ws b : List ℕ) (j n : ℕ) (xs : List ℕ) → Filled (ws ++ take j b) (n + j) xs → j ≤ length b → length b ≤ j → Filled (ws ++ b) (n + length b) xs
copied_end ws b j n xs f h g =
    let e : j ≡ length b = omega arith in
    rw (take_all j b g, e) at f

pub filled_within : (ws : List ℕ) (n : ℕ) (xs : List ℕ) → Filled ws n xs → n ≤ length xs
filled_within ws n xs f = omega (arith, ap length f.is, length-take n xs, f.count)

pub filled_last : (ws : List ℕ) (v w n : ℕ) (xs : List ℕ) → Filled (ws ++ (v ∷ [])) n xs → Filled (ws ++ (w ∷ [])) n (set xs (n - 1) w)
filled_last ws v w n xs f =
    let m : ℕ = length ws in
    let e : n ≡ suc m = omega (arith, f.count, length-append ws (v ∷ [])) in
    let z : n - 1 ≡ m = omega arith in
    let h : suc m ≤ length xs = omega (arith, filled_within _ n xs f) in
    let q : take m xs ≡ ws = sym (take-take m (suc m) xs (omega arith)) ∙ ap (take m) (rw e at f.is) ∙ take_at ws (v ∷ []) m refl in
    record {
      is = rw (z, e) (take-suc-set xs m w h ∙ ap (λ (r : List ℕ). r ++ (w ∷ [])) q);
      count = length-append ws (w ∷ []) ∙ sym (length-append ws (v ∷ [])) ∙ f.count;
    }
