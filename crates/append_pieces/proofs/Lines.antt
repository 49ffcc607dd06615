-- The first tokens of a line, the last of them without its last code point where a flag says so.
--   dressed_plain, dressed_at                     one of them
--   line_goes, line_ends                          the loop over them
--   kind_of                                       a kind of the columns fits a byte
-- Assumes nothing.
use mathlib.Core.Path.{◌≡◌, refl, sym, ap, ◌∙◌}
use mathlib.Core.Bool.{Bool, true, false, cond}
use mathlib.Core.List.{List, [], ◌∷◌, ◌++◌}
use Prim.Native.Nat.{ℕ, zero, suc, ◌+◌, ◌-◌, ◌≤◌, ◌<◌}
use native.Mathlib.Decide.{dec_lt}
use native.Mathlib.Omega.{arith}
use borrow.Author.Tests.{ne_eqb}
use lib.Dec.{eqb}
use lib.ListN.{length, take, drop, get_or, get_or-eq_default}
use lib.Seq.{get_or-take, length-take-le}
use Rattle.definitions.specs.Lists.{on_last}
use Rattle.definitions.specs.Model.{Token, tok, no_token, token, line}
use Rattle.definitions.specs.Columns.{listing}
use Rattle.definitions.specs.ToFor.{pop}
use Rattle.text.proofs.Parts.{drop_step, drop_end}
use Rattle.model.specs.Places.{line_start, line_end}
use Rattle.model.proofs.Decode.{line_token, line_length, token_at}
use Rattle.write.specs.declared.Writer.{Writer}
use Rattle.append.specs.Adds.{Adding}
use Rattle.append_pieces.specs.Dressed.{dressed, trimmed}
use Rattle.append_pieces.proofs.Runs.{Left, left_next, left_end}

-- The tokens

get_on_last : (f : Token → Token) (ts : List Token) (j : ℕ) → j < length ts
    → get_or (on_last f ts) j no_token ≡ cond (eqb (length ts - j) 1) (f (get_or ts j no_token)) (get_or ts j no_token)
unfolding on_last
get_on_last f [] j h = absurd (omega arith)
get_on_last f (t ∷ []) zero h = refl
get_on_last f (t ∷ []) (suc j) h = absurd (omega arith)
get_on_last f (t ∷ (u ∷ ts)) zero h = rw (ne_eqb (length (t ∷ (u ∷ ts)) - 0) 1 (λ e. omega arith))
get_on_last f (t ∷ (u ∷ ts)) (suc j) h =
    let z : suc (length (u ∷ ts)) - suc j ≡ length (u ∷ ts) - j = omega arith in
    rw z (get_on_last f (u ∷ ts) j (omega arith))

length_on_last : (f : Token → Token) (ts : List Token) → length (on_last f ts) ≡ length ts
unfolding on_last
length_on_last f [] = refl
length_on_last f (t ∷ []) = refl
length_on_last f (t ∷ (u ∷ ts)) = ap suc (length_on_last f (u ∷ ts))

length_dressed : (p : Bool) (ts : List Token) → length (dressed p ts) ≡ length ts
length_dressed false ts = refl
length_dressed true ts = length_on_last (λ t. tok (pop t.text) t.kind) ts

dressed_kind : (ts : List Token) (p : Bool) (j : ℕ) → j < length ts → (get_or (dressed p ts) j no_token).kind ≡ (get_or ts j no_token).kind
dressed_kind ts false j h = refl
dressed_kind ts true j h = ap (λ (t : Token). t.kind) (get_on_last (λ t. tok (pop t.text) t.kind) ts j h) ∙ go (eqb (length ts - j) 1)
  where
    go : (b : Bool) → (cond b (tok (pop (get_or ts j no_token).text) (get_or ts j no_token).kind) (get_or ts j no_token)).kind ≡ (get_or ts j no_token).kind
    go true = refl
    go false = refl

module _ (T : List Token) (n j : ℕ) (h : j < n) (le : n ≤ length T) (p : Bool) where
  size : length (take n T) ≡ n
  size = length-take-le n T le

  same : get_or (take n T) j no_token ≡ get_or T j no_token
  same = get_or-take n T j no_token h

  module _ (s : List ℕ) (q : s ≡ (get_or T j no_token).text) where
    at : s ≡ (get_or (take n T) j no_token).text
    at = q ∙ ap (λ (t : Token). t.text) (sym same)

    module _ (y : Bool) (r : List ℕ) (u : r ≡ trimmed y s) where
      pub dressed_plain : p ≡ false → y ≡ p → r ≡ (get_or (dressed p (take n T)) j no_token).text
      dressed_plain f g = let z : y ≡ false = g ∙ f in u ∙ rw (f, z) at

      module _ (f : p ≡ true) where
        last_is : get_or (dressed p (take n T)) j no_token
            ≡ cond (eqb (n - j) 1) (tok (pop (get_or (take n T) j no_token).text) (get_or (take n T) j no_token).kind) (get_or (take n T) j no_token)
        last_is =
            let t = get_or (take n T) j no_token in
            rw f
            (get_on_last (λ t. tok (pop t.text) t.kind) (take n T) j (omega (arith, size)) ∙ ap (λ m. cond (eqb (m - j) 1) (tok (pop t.text) t.kind) t) size)

        pub dressed_at : y ≡ eqb (n - j) 1 → r ≡ (get_or (dressed p (take n T)) j no_token).text
        dressed_at e = u ∙ go (eqb (n - j) 1) e refl
          where
            go : (b : Bool) → y ≡ b → eqb (n - j) 1 ≡ b → trimmed y s ≡ (get_or (dressed p (take n T)) j no_token).text
            go true g h = rw g (ap pop at ∙ sym (ap (λ (t : Token). t.text) last_is ∙ rw h))
            go false g h = rw g (at ∙ sym (ap (λ (t : Token). t.text) last_is ∙ rw h))

  -- one token more of it
  split : (s : List ℕ) (k : ℕ) → s ≡ (get_or (dressed p (take n T)) j no_token).text → k ≡ (get_or T j no_token).kind
      → drop j (dressed p (take n T)) ≡ (tok s k ∷ []) ++ drop (j + 1) (dressed p (take n T))
  split s k u v =
      let z = length_dressed p (take n T) in
      let i : j < length (dressed p (take n T)) = omega (arith, size) in
      drop_step no_token (dressed p (take n T)) j i
      ∙ ap (λ (t : Token). t ∷ drop (j + 1) (dressed p (take n T)))
      (sym (rw (u, v ∙ (ap (λ (t : Token). t.kind) (sym same) ∙ sym (dressed_kind (take n T) p j (omega (arith, size)))))))

-- The loop over them

module _ {m : Bool} (p : Bool) (T : List Token) (n : ℕ) (le : n ≤ length T) {out out' : Writer} (j : ℕ)
    (r : Left m (dressed p (take n T)) out (drop j (dressed p (take n T))) out') where
  pub line_goes : {out'' : Writer} → j < n → (s : List ℕ) (k : ℕ) → s ≡ (get_or (dressed p (take n T)) j no_token).text → k ≡ (get_or T j no_token).kind
      → Adding m (tok s k ∷ []) out' out'' → Left m (dressed p (take n T)) out (drop (j + 1) (dressed p (take n T))) out''
  line_goes h s k u v a = left_next r _ _ (split T n j h le p s k u v) a

  pub line_ends : n ≤ j → Adding m (dressed p (take n T)) out out'
  line_ends h = left_end r (drop_end (dressed p (take n T)) j (omega (arith, length_dressed p (take n T), length-take-le n T le)))

-- Kinds

kind_small : (l t x : List ℕ) (i j : ℕ) → (token (line (listing l t x) i) j).kind < 256
kind_small l t x i j = go (dec_lt j (line_end l t i - line_start l i))
  where
    go : Dec (j < line_end l t i - line_start l i) → (token (line (listing l t x) i) j).kind < 256
    go (yes g) = rw (line_token l t x i j g, token_at t x (line_start l i + j)) (omega arith)
    go (no g) =
        let e : length (line (listing l t x) i).tokens ≤ j = omega (arith, line_length l t x i) in
        rw (get_or-eq_default (line (listing l t x) i).tokens no_token e) (omega arith)

pub kind_of : (l t x : List ℕ) (i j r : ℕ) → r ≡ (token (line (listing l t x) i) j).kind → (r ≡ (token (line (listing l t x) i) j).kind) × (r < 256)
kind_of l t x i j r e = (e, omega (arith, e, kind_small l t x i j))
