-- A line's tokens appended in one copy.
--   kept_none, kept_run    it has none; they are a run of the columns' tokens
--   kept_as_piece          the piece that is the line as it is
-- Assumes nothing.
use mathlib.Core.Path.{◌≡◌, refl, sym, ◌∙◌}
use mathlib.Core.Bool.{false}
use mathlib.Core.List.{List}
use Prim.Native.Nat.{ℕ, ◌/◌, ◌≤◌}
use native.Mathlib.Omega.{arith}
use native.Mathlib.Decide.{dec_le}
use lib.ListN.{length, get_or}
use Rattle.definitions.specs.Lists.{part}
use Rattle.definitions.specs.Model.{line}
use Rattle.definitions.specs.Columns.{listing, token_list}
use Rattle.text.proofs.Parts.{part_none, part_clamp}
use Rattle.model.specs.Places.{line_start, line_end}
use Rattle.model.proofs.Decode.{line_at, length_tokens}
use Rattle.write.specs.declared.Writer.{Writer}
use Rattle.write_run.specs.Runs.{Runs}
use Rattle.pieces.specs.Pieces.{piece, Says}
use Rattle.pieces.specs.declared.piece.Piece.TheVariants.{Kept}
use Rattle.pieces.proofs.Forms.{kept_piece}
use Rattle.append.specs.Adds.{Adding}
use Rattle.append.proofs.Appends.{adds_none, adds_as}

module _ (l t x : List ℕ) (i s e : ℕ) (p : s ≡ line_start l i) (q : e ≡ line_end l t i) where
  tokens_part : (line (listing l t x) i).tokens ≡ part s e (token_list t x)
  tokens_part = rw (line_at l t x i, p, q) (go (dec_le (get_or l i 0 / 512) (length t)))
    where
      go : Dec (get_or l i 0 / 512 ≤ length t) → part (line_start l i) (get_or l i 0 / 512) (token_list t x) ≡ part (line_start l i) (line_end l t i) (token_list t x)
      go (yes h) =
          let z : line_end l t i ≡ get_or l i 0 / 512 = omega arith in
          rw z
      go (no h) =
          let z : line_end l t i ≡ length (token_list t x) = omega (arith, length_tokens t x) in
          rw z (sym (part_clamp (token_list t x) (line_start l i) (get_or l i 0 / 512) (omega (arith, length_tokens t x))))

  module _ (w : Writer) where
    pub kept_none : e ≤ s → Adding false (line (listing l t x) i).tokens w w
    kept_none h = adds_as (sym (tokens_part ∙ part_none (token_list t x) s e h)) adds_none

    pub kept_run : (w' : Writer) → Runs (part s e (token_list t x)) w w' → Adding false (line (listing l t x) i).tokens w w'
    kept_run w' r = adds_as (sym tokens_part) (record { same = r.same; kept = r.kept; adds = λ o M ts h. r.runs o _ refl h })

pub kept_as_piece : (l t x : List ℕ) (p i : ℕ) (w w' : Writer) → Says p (Kept i)
    → Adding false (line (listing l t x) i).tokens w w' → Adding false (piece (listing l t x) p).tokens w w'
kept_as_piece l t x p i w w' s r = adds_as (sym (rw (kept_piece (listing l t x) p s.form, ← s.line))) r
