-- Laws of the lines of the columns with their addresses, and rules for the needs of the lines.
--   lines_indent, lines_count, lines_tokens    the indent of a line, how many tokens it has, and its tokens
--   length_lines                  how many lines there are
--   head_is, line_is              the text of a line, piece by piece
--   lines_part                    the lines from a place on, as a part
--   listing_none, listing_some    the text of a listing without lines, and with them
-- Assumes nothing.
use Rattle.std.specs.Prelude.{Option}
use Prim.Native.Nat.{ℕ, zero, suc, ◌/◌, ◌≤◌, ◌<◌}
use native.Mathlib.Nat.{not-suc-le-zero, le_of_suc-le-suc}
use mathlib.Core.Path.{◌≡◌, refl, sym, ap, ◌∙◌}
use mathlib.Core.List.{List, [], ◌∷◌, ◌++◌, append_assoc}
use native.Mathlib.Decide.{dec_le}
use native.Mathlib.Omega.{arith}
use lib.ListN.{length, get_or, drop}
use Rattle.definitions.specs.Lists.{ascii, part}
use Rattle.definitions.specs.Model.{Token, Line, line, no_line}
use Rattle.definitions.specs.Columns.{token_list, listing, with_addresses}
use Rattle.text.proofs.Parts.{part_clamp, part_tail}
use Rattle.model.specs.Places.{line_start, line_end}
use Rattle.model.proofs.Decode.{line_at, length_listing, length_tokens, length_addresses}
use Rattle.json_definitions.specs.Writer.{address_text, decimal, token_text, elements_text, array_text, line_text, write}
use Rattle.json_append.proofs.Appends.{wrote_2, begun_start}
use Rattle.json_write.specs.Answers.{lines_of, head_text}
use Rattle.json_write.proofs.ElementRules.{array_none, array_some}

-- Lines with their addresses

kept_indent : (l a : List ℕ) (L : List Line) (i : ℕ) → i < length l → i < length a → i < length L → (line (with_addresses l a L) i).indent ≡ (line L i).indent
unfolding with_addresses
kept_indent [] a L i h k g = absurd (not-suc-le-zero h)
kept_indent (w ∷ ws) [] L i h k g = absurd (not-suc-le-zero k)
kept_indent (w ∷ ws) (b ∷ rest) [] i h k g = absurd (not-suc-le-zero g)
kept_indent (w ∷ ws) (b ∷ rest) (m ∷ ms) zero h k g = refl
kept_indent (w ∷ ws) (b ∷ rest) (m ∷ ms) (suc i) h k g = kept_indent ws rest ms i (le_of_suc-le-suc h) (le_of_suc-le-suc k) (le_of_suc-le-suc g)

kept_tokens : (l a : List ℕ) (L : List Line) (i : ℕ) → i < length l → i < length a → i < length L → (line (with_addresses l a L) i).tokens ≡ (line L i).tokens
unfolding with_addresses
kept_tokens [] a L i h k g = absurd (not-suc-le-zero h)
kept_tokens (w ∷ ws) [] L i h k g = absurd (not-suc-le-zero k)
kept_tokens (w ∷ ws) (b ∷ rest) [] i h k g = absurd (not-suc-le-zero g)
kept_tokens (w ∷ ws) (b ∷ rest) (m ∷ ms) zero h k g = refl
kept_tokens (w ∷ ws) (b ∷ rest) (m ∷ ms) (suc i) h k g = kept_tokens ws rest ms i (le_of_suc-le-suc h) (le_of_suc-le-suc k) (le_of_suc-le-suc g)

module _ (l a t x : List ℕ) (n : length a ≡ length l) where
  pub length_lines : length (lines_of l a t x) ≡ length l
  length_lines = omega (arith, length_addresses l a (listing l t x), length_listing l t x)

  pub lines_part : (k : ℕ) → part k (length l) (lines_of l a t x) ≡ drop k (lines_of l a t x)
  lines_part k = rw (← length_lines) (part_tail (lines_of l a t x) k)

  module _ (i : ℕ) (h : i < length l) where
    pub lines_indent : (d : ℕ) → d ≡ (line (listing l t x) i).indent → d ≡ (line (lines_of l a t x) i).indent
    lines_indent d e = e ∙ sym (kept_indent l a (listing l t x) i h (omega arith) (rw length_listing h))

    pub lines_count : (m : ℕ) → m ≡ length (line (listing l t x) i).tokens → m ≡ length (line (lines_of l a t x) i).tokens
    lines_count m e = e ∙ ap length (sym (kept_tokens l a (listing l t x) i h (omega arith) (rw length_listing h)))

    pub lines_tokens : (s e : ℕ) → s ≡ line_start l i → e ≡ line_end l t i → part s e (token_list t x) ≡ (line (lines_of l a t x) i).tokens
    lines_tokens s e p q =
        sym (kept_tokens l a (listing l t x) i h (omega arith) (rw length_listing h) ∙ ap (λ (m : Line). m.tokens) (line_at l t x i) ∙ go (dec_le (get_or l i 0 / 512) (length t)))
      where
        go : Dec (get_or l i 0 / 512 ≤ length t) → part (line_start l i) (get_or l i 0 / 512) (token_list t x) ≡ part s e (token_list t x)
        go (yes k) = let z : e ≡ get_or l i 0 / 512 = omega arith in rw (p, z)
        go (no k) =
            let z : e ≡ length (token_list t x) = omega (arith, length_tokens t x) in
            rw (p, z) (sym (part_clamp (token_list t x) (line_start l i) (get_or l i 0 / 512) (omega (arith, length_tokens t x))))

-- The text of a listing

module _ (l a t x : List ℕ) (n : length a ≡ length l) where
  pub listing_none : length l ≡ 0 → 91 ∷ 93 ∷ [] ≡ write (lines_of l a t x)
  unfolding write
  listing_none h = rw (← lines_part l a t x n 0) (array_none line_text (lines_of l a t x) 0 (length l) (omega arith))

  pub listing_some : (length l ≡ 0 → ⊥)
      → (91 ∷ []) ++ (line_text (line (lines_of l a t x) 0) ++ elements_text line_text (drop 1 (lines_of l a t x))) ≡ write (lines_of l a t x)
  unfolding write
  listing_some h =
      let L = lines_of l a t x in
      let z : length l ≤ length L = omega (arith, length_lines l a t x n) in
      let whole : (91 ∷ []) ++ (line_text (line L 0) ++ elements_text line_text (part 1 (length l) L)) ≡ array_text line_text (part 0 (length l) L)
      = array_some line_text L 0 (length l) no_line (omega arith) z in
      let cut : (91 ∷ []) ++ (line_text (line L 0) ++ elements_text line_text (drop 1 L)) ≡ array_text line_text (part 0 (length l) L) = rw (lines_part l a t x n 1) at whole in
      cut ∙ ap (array_text line_text) (lines_part l a t x n 0)

-- The text of a line

pub head_is : (l : Line) (a : Option ℕ) (d : ℕ) → a ≡ l.address → d ≡ l.indent
    → ascii "{\"address\":" ++ (address_text a ++ (ascii ",\"indent\":" ++ (decimal d ++ ascii ",\"tokens\":"))) ≡ head_text l
unfolding head_text
head_is l a d p q = rw (p, q)

pub line_is : (l : Line) (ts : List Token) → ts ≡ l.tokens → head_text l ++ (array_text token_text ts ++ ascii "}") ≡ line_text l
unfolding head_text line_text
line_is l ts p =
    rw (
      p,
      append_assoc (address_text l.address) (ascii ",\"indent\":" ++ (decimal l.indent ++ ascii ",\"tokens\":")) (array_text token_text l.tokens ++ ascii "}"),
      append_assoc (decimal l.indent) (ascii ",\"tokens\":") (array_text token_text l.tokens ++ ascii "}"),
    )

pub ruleset lines = (wrote_2, begun_start)
