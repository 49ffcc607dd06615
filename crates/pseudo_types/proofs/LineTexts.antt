-- The text of a line as one part of the lent text, as rules for `search`.
--   text_run, text_short, text_none    the texts of a line's tokens from place j on
-- Assumes nothing.
use mathlib.Core.Path.{◌≡◌, sym, ap, ◌∙◌}
use mathlib.Core.Bool.{true}
use mathlib.Core.List.{List, []}
use Prim.Native.Nat.{ℕ, ◌+◌, ◌-◌, ◌/◌, ◌≤◌, ◌<◌}
use native.Mathlib.Decide.{dec_le}
use native.Mathlib.Omega.{arith}
use lib.ListN.{length, get_or, drop, drop_of_length-le}
use Rattle.definitions.specs.Lists.{part}
use Rattle.definitions.specs.Model.{text, line}
use Rattle.definitions.specs.Columns.{listing, token_list}
use Rattle.definitions.specs.Questions.{question_2}
use Rattle.text.proofs.Parts.{part_clamp, part_part, part_tail, length_part}
use Rattle.model.specs.Places.{token_start, line_start, line_end}
use Rattle.model.proofs.Decode.{line_at, line_length, length_tokens}
use Rattle.model.proofs.Formed.{formed_tokens, run_text}

module _ (l t x : List ℕ) (i j : ℕ) where
  -- the tokens of line i, clamped to those there are
  tokens_at : (line (listing l t x) i).tokens ≡ part (line_start l i) (line_end l t i) (token_list t x)
  tokens_at = ap (λ m. m.tokens) (line_at l t x i) ∙ go (dec_le (get_or l i 0 / 512) (length t))
    where
      go : Dec (get_or l i 0 / 512 ≤ length t) → part (line_start l i) (get_or l i 0 / 512) (token_list t x) ≡ part (line_start l i) (line_end l t i) (token_list t x)
      go (yes h) = let z : line_end l t i ≡ get_or l i 0 / 512 = omega arith in rw z
      go (no h) =
          let z : line_end l t i ≡ length (token_list t x) = omega (arith, length_tokens t x) in
          rw z (sym (part_clamp (token_list t x) (line_start l i) (get_or l i 0 / 512) (omega (arith, length_tokens t x))))

  module _ (s e : ℕ) (p : s ≡ line_start l i) (q : e ≡ line_end l t i) where
    -- the run of tokens that the line's last tokens are
    from_run : s < e → j < e - s → part (s + j) e (token_list t x) ≡ drop j (line (listing l t x) i).tokens
    from_run h g =
        let ts = token_list t x in
        let n : length (part s e ts) ≡ e - s = length_part ts s e ∙ omega (arith, length_tokens t x) in
        let z : s + (e - s) ≡ e = omega arith in
        let y : part j (e - s) (part s e ts) ≡ drop j (part s e ts) = ap (λ m. part j m (part s e ts)) (sym n) ∙ part_tail (part s e ts) j in
        let v : part j (e - s) (part s e ts) ≡ part (s + j) e ts = part_part ts j (e - s) s e (omega arith) ∙ rw z in
        sym v ∙ (y ∙ rw (tokens_at, ← p, ← q))

    pub text_none : e ≤ s → [] ≡ text (drop j (line (listing l t x) i).tokens)
    unfolding text
    text_none h =
        let z : length (line (listing l t x) i).tokens ≤ j = omega (arith, line_length l t x i) in
        rw (drop_of_length-le (line (listing l t x) i).tokens z)

    pub text_short : e - s ≤ j → [] ≡ text (drop j (line (listing l t x) i).tokens)
    unfolding text
    text_short h =
        let z : length (line (listing l t x) i).tokens ≤ j = omega (arith, line_length l t x i) in
        rw (drop_of_length-le (line (listing l t x) i).tokens z)

    pub text_run : question_2 l t x ≡ true → s < e → j < e - s → (r : List ℕ) (a b : ℕ) → r ≡ part a b x → a ≡ token_start t (s + j) → b ≡ token_start t e
        → r ≡ text (drop j (line (listing l t x) i).tokens)
    text_run ok h g r a b u c d =
        let k : e ≤ length t = omega arith in
        u ∙ rw (c, d) (sym (run_text t x (formed_tokens l t x ok) (s + j) e (omega arith) k)) ∙ ap text (from_run h g)

pub ruleset line_texts = (text_none, text_short, text_run)
