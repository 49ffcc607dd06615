-- Braces, as rules for `search`.
--   brace_open, brace_cancel, brace_close, brace_other    one byte
--   bytes_next, bytes_end                                 the loop of `in_text`
--   within_of, grown_of                                   what a token adds
--   rest, braces_start, braces_next, braces_end           the loop of `line_braces`, by the places of the tokens among all
--   place_short                                           how many tokens and bytes there can be
-- Assumes nothing.
use Rattle.std.specs.Prelude.{if◌then◌else◌}
use mathlib.Core.Path.{◌≡◌, refl, sym, ◌∙◌}
use mathlib.Core.Bool.{Bool, true, false, cond}
use mathlib.Core.List.{List, [], ◌∷◌, ◌++◌}
use Prim.Native.Nat.{ℕ, ◌+◌, ◌-◌, ◌/◌, ◌≤◌, ◌<◌}
use native.Mathlib.Omega.{arith}
use borrow.Author.Tests.{eq-eqb, ne_eqb, lt-ltb, le-ltb}
use lib.Dec.{eqb}
use lib.ListN.{length, get_or, drop}
use Rattle.definitions.specs.Lists.{filter, fold}
use Rattle.definitions.specs.Model.{Token, Line, no_token, text, line, Punct}
use Rattle.definitions.specs.Columns.{token_list, listing}
use Rattle.definitions.specs.Blocks.{Braces, brace, braces}
use Rattle.text.proofs.Parts.{drop_step, drop_end, length_part}
use Rattle.model.specs.Places.{token_start, line_start, line_end}
use Rattle.model.proofs.Decode.{token_at, line_length, line_token, line_short}

-- One byte

module _ (o k c : ℕ) where
  pub brace_open : c ≡ 123 → record { opens = o + 1; closes = k } ≡ brace (record { opens = o; closes = k }) c
  unfolding brace
  brace_open e = rw (eq-eqb c 123 e)

  module _ (e : c ≡ 125) where
    pub brace_cancel : 0 < o → record { opens = o - 1; closes = k } ≡ brace (record { opens = o; closes = k }) c
    unfolding brace
    brace_cancel h = rw (e, lt-ltb 0 o h)

    pub brace_close : o ≤ 0 → record { opens = o; closes = k + 1 } ≡ brace (record { opens = o; closes = k }) c
    unfolding brace
    brace_close h = rw (e, le-ltb 0 o h)

  pub brace_other : (c ≡ 123 → ⊥) → (c ≡ 125 → ⊥) → record { opens = o; closes = k } ≡ brace (record { opens = o; closes = k }) c
  unfolding brace
  brace_other e f = rw (ne_eqb c 123 e, ne_eqb c 125 f)

-- A text

module _ (a : Braces) (s : List ℕ) (k : ℕ) (b : Braces) (inv : fold brace a s ≡ fold brace b (drop k s)) where
  pub bytes_next : (d : Braces) → d ≡ brace b (get_or s k 0) → k < length s → fold brace a s ≡ fold brace d (drop (k + 1) s)
  unfolding fold
  bytes_next d e h = inv ∙ rw (drop_step 0 s k, e)

  pub bytes_end : length s ≤ k → b ≡ fold brace a s
  unfolding fold
  bytes_end h = sym (inv ∙ rw (drop_end s k))

-- bounds that name a part, said of the text that the part is
module _ (m n : ℕ) (s t : List ℕ) (q : s ≡ t) where
  pub within_of : m + length t ≤ n → m + length s ≤ n
  within_of h = rw q h

  pub grown_of : n ≤ m + length s → n ≤ m + length t
  grown_of h = rw (← q) h

-- A line

fold_append : (b : Braces) (s t : List ℕ) → fold brace b (s ++ t) ≡ fold brace (fold brace b s) t
unfolding fold
fold_append b [] t = refl
fold_append b (c ∷ s) t = fold_append (brace b c) s t

-- what is left to count from token j on
unfoldable pub rest : List Token → ℕ → List ℕ
rest ts j = text (filter (λ t. eqb t.kind Punct) (drop j ts))

pub braces_start : (l : Line) (s k : ℕ) → k ≡ s → braces l ≡ fold brace (record { opens = 0; closes = 0 }) (rest l.tokens (k - s))
unfolding rest braces
braces_start l s k h = let z : k - s ≡ 0 = omega arith in rw z

-- token j more
rest_next : (ts : List Token) (j : ℕ) (b : Braces) → j < length ts
    → fold brace b (rest ts j) ≡ fold brace (if eqb (get_or ts j no_token).kind Punct then fold brace b (get_or ts j no_token).text else b) (rest ts (j + 1))
unfolding rest filter text
rest_next ts j b h = rw (drop_step no_token ts j) (go (eqb (get_or ts j no_token).kind Punct))
  where
    more : List Token
    more = filter (λ t. eqb t.kind Punct) (drop (j + 1) ts)

    go : (p : Bool) → fold brace b (text (cond p (get_or ts j no_token ∷ more) more)) ≡ fold brace (cond p (fold brace b (get_or ts j no_token).text) b) (text more)
    go true = fold_append b (get_or ts j no_token).text (text more)
    go false = refl

-- line i starts at place s of all tokens and ends before place e
module _ (l t x : List ℕ) (i s e : ℕ) (es : s ≡ line_start l i) (ee : e ≡ line_end l t i) (k : ℕ) (g : s ≤ k) where
  module _ (b : Braces) (inv : braces (line (listing l t x) i) ≡ fold brace b (rest (line (listing l t x) i).tokens (k - s))) where
    pub braces_next : (d : Braces)
        → d ≡ (if eqb (get_or (token_list t x) k no_token).kind Punct then fold brace b (get_or (token_list t x) k no_token).text else b) → k < e
        → braces (line (listing l t x) i) ≡ fold brace d (rest (line (listing l t x) i).tokens (k + 1 - s))
    braces_next d q h =
        let y : line_start l i + (k - s) ≡ k = omega arith in
        let z : (k - s) + 1 ≡ k + 1 - s = omega arith in
        let w : k - s < line_end l t i - line_start l i = omega arith in
        inv ∙ rest_next (line (listing l t x) i).tokens (k - s) b (rw line_length w) ∙ rw (line_token l t x i (k - s) w, y, z, q)

    pub braces_end : e ≤ k → b ≡ braces (line (listing l t x) i)
    unfolding rest filter text fold
    braces_end h = sym (inv ∙ rw (drop_end (line (listing l t x) i).tokens (k - s) (rw line_length (omega arith))))

  -- a word of 32 bits can say so many tokens and bytes
  pub place_short : k < e → get_or l i 0 < 4294967296 → ((j : ℕ) → get_or t j 0 < 4294967296)
      → (k - s ≤ 8388607) × (length (get_or (token_list t x) k no_token).text ≤ 16777215)
  place_short h p q = (
    omega (arith, line_short l t x i p, line_length l t x i),
    rw (token_at t x k) (omega (arith, q k, length_part x (token_start t k) (get_or t k 0 / 256))),
  )

pub ruleset bytes = (brace_open, brace_cancel, brace_close, brace_other, bytes_next, bytes_end)

pub ruleset counts = (within_of, grown_of, braces_start, braces_next, braces_end)
