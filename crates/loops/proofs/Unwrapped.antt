-- The words and the lines of a guard rebuilt.
--   words_tests, words_moved           the changes that the code makes one after the other
--   cleared_lines                      the words with the guard rebuilt stand for `unwrapped` of the lines
--   out_lines, moved_lines             the body can move out; it moved out
--   header_kept, unwrapped_ready       the header of the words then, and that they are ready
-- Assumes nothing.
use Prim.Native.Nat.{ℕ, zero, suc, ◌+◌, ◌-◌, ◌/◌, ◌%◌, ◌≤◌, ◌<◌}
use mathlib.Core.Path.{◌≡◌, refl, sym, ap, ap₂, ◌∙◌}
use mathlib.Core.List.{List, [], ◌∷◌, ◌++◌, map}
use mathlib.Core.Bool.{Bool, true, ◌&&◌}
use native.Mathlib.Omega.{arith}
use native.Mathlib.Numerals.{add-one}
use borrow.Author.Tests.{eqb-true, ltb-true}
use lib.Dec.{eqb, ltb}
use lib.ListN.{length, take, drop, get_or, set, length-take, get_or-append}
use lib.Seq.{take-set-lt, get_or-take, drop-set-lt, get_or-set_same}
use Rattle.definitions.specs.Lists.{or_else, all, part, remove, on_part, ascii}
use Rattle.definitions.specs.Model.{Token, Line, pseudo_line, line}
use Rattle.definitions.specs.Columns.{listing}
use Rattle.definitions.specs.Condition.{condition}
use Rattle.definitions.specs.Passes.{while_head}
use Rattle.definitions.specs.RecoverLoops.{move_out, unwrapped}
use Rattle.loop_theory.proofs.Cases.{and_split}
use Rattle.plan.specs.Plan.{Test.guard, test_tokens, piece_of, header_at, piece_at, initialiser_at, step_at, line_of, render}
use Rattle.plan.specs.Changes.{is_out, moved_out, as_while, is_loop, is_plain}
use Rattle.plan.specs.Source.{Source}
use Rattle.plan.proofs.Maps.{map_remove, map_set, map_all, map_part, map_on_part}
use Rattle.plan.proofs.Rendered.{line_render, indent_line, while_line, moved_line}
use Rattle.loops.specs.Words.{source_line, is_kept, Ready}
use Rattle.loops.specs.Turns.{cleared, unwrapped_words}
use Rattle.loops.proofs.Lists.{all_at, all_from, all_remove, all_set, all_on_part, all_on_whole}
use Rattle.loops.proofs.Lines.{kept_reads, guard_test, condition_same}

-- The code's changes

module _ (n i w : ℕ) (ws ws₂ : List ℕ) (h : i + 2 ≤ w) (lt : w < n)
    (e : take (n - 2) ws₂ ≡ remove (i + 1) (remove w (take n (set ws i (get_or ws i 0 + 256))))) where
  gone : take (n - 2) ws₂ ≡ cleared (take n ws) i w
  unfolding cleared
  gone =
      e
      ∙ ap (λ ys. remove (i + 1) (remove w ys))
      (take-set-lt n ws i (get_or ws i 0 + 256) (omega arith) ∙ ap (λ v. set (take n ws) i (v + 256)) (sym (get_or-take n ws i 0 (omega arith))))

  pub words_tests : (r : Bool) → r ≡ all is_out (part (i + 1) (w - 1) (take (n - 2) ws₂)) → r ≡ all is_out (part (i + 1) (w - 1) (cleared (take n ws) i w))
  words_tests r q = rw (← gone) q

  pub words_moved : (ws₃ : List ℕ) → take (n - 2) ws₃ ≡ on_part (i + 1) (w - 1) moved_out (take (n - 2) ws₂) → take (n - 2) ws₃ ≡ unwrapped_words (take n ws) i w
  words_moved ws₃ q = rw (← gone) q

-- Words at a place

get_remove : (d k i : ℕ) (xs : List ℕ) → i < k → get_or (remove k xs) i d ≡ get_or xs i d
get_remove d k i xs h = rw add-one (go k i xs h)
  where
    go : (k i : ℕ) (xs : List ℕ) → i < k → get_or (take k xs ++ drop (suc k) xs) i d ≡ get_or xs i d
    go zero i xs h = absurd (omega arith)
    go (suc k) i [] h = refl
    go (suc k) zero (x ∷ xs) h = refl
    go (suc k) (suc i) (x ∷ xs) h = go k i xs (omega arith)

get_on_part : (d a e i : ℕ) (f : ℕ → ℕ) (xs : List ℕ) → i < a → i < length xs → get_or (on_part a e f xs) i d ≡ get_or xs i d
get_on_part d a e i f xs h b = get_or-append (take a xs) (map f (part a e xs) ++ drop e xs) d i (rw length-take (omega arith)) ∙ get_or-take a xs i d h

kept_moved : (w : ℕ) → is_out w ≡ true → is_kept w ≡ true → is_kept (moved_out w) ≡ true
kept_moved w h k =
    let p : 0 < w % 256 = ltb-true 0 (w % 256) h in
    let q : (w - 1) / 256 ≡ w / 256 = omega arith in
    rw q k

plain_moved : (w : ℕ) → is_out w ≡ true → is_plain w ≡ true → is_plain (moved_out w) ≡ true
plain_moved w h k =
    let p : 0 < w % 256 = ltb-true 0 (w % 256) h in
    let q : (w - 1) / 256 ≡ w / 256 = omega arith in
    rw q k

plain_while : (w : ℕ) → header_at w ≡ 0 → is_plain w ≡ true → (is_plain (as_while w) ≡ true) × (header_at (as_while w) ≡ 1)
plain_while w h k =
    let q : (w + 256) / 256 ≡ w / 256 + 1 = omega arith in
    let s : (w / 256 + 1) / 8 ≡ w / 256 / 8 = omega arith in
    let one : (w / 256 + 1) % 8 ≡ 1 = omega arith in
    let p = and_split (eqb (piece_at w % 4) 0) (is_loop w) k in
    let r = and_split (eqb (header_at w / 2 % 2) 0) (eqb (initialiser_at w % 4) 0 && eqb (step_at w % 4) 0) p.1 in
    (rw (q, s, one, p.0, r.1), rw q one)

out_same : (S : List Line) (vs : List ℕ) → all (λ v. ltb 0 (line_of S v).indent) vs ≡ all is_out vs
unfolding all
out_same S [] = refl
out_same S (v ∷ vs) = ap₂ ◌&&◌ (ap (ltb 0) (indent_line S v)) (out_same S vs)

module _ (ws : List ℕ) (i w : ℕ) (h : i + 2 ≤ w) (lt : w < length ws) (ready : Ready i ws) where
  guard_kept : (header_at (get_or ws i 0) ≡ 0) × (is_plain (get_or ws i 0) ≡ true)
  guard_kept =
      let g = get_or ws i 0 in
      let p = and_split (eqb (header_at g) 0) (is_plain g) (all_at is_kept 0 i i ws ready.kept (omega arith) (omega arith)) in
      (eqb-true (header_at g) 0 p.0, p.1)

  cleared_plain : all is_plain (cleared ws i w) ≡ true
  unfolding cleared
  cleared_plain =
      let g = get_or ws i 0 in
      let v = (plain_while g guard_kept.0 guard_kept.1).0 in
      all_remove is_plain 0 (i + 1) (remove w (set ws i (as_while g)))
      (all_remove is_plain 0 w (set ws i (as_while g)) (all_set is_plain 0 i (as_while g) ws v ready.plain))

  cleared_kept : all is_kept (drop (i + 1) (cleared ws i w)) ≡ true
  unfolding cleared
  cleared_kept =
      let g = get_or ws i 0 in
      all_remove is_kept (i + 1) (i + 1) (remove w (set ws i (as_while g)))
      (all_remove is_kept (i + 1) w (set ws i (as_while g))
      (rw (drop-set-lt (i + 1) ws i (as_while g) (omega arith)) (all_from is_kept i (i + 1) ws ready.kept (omega arith))))

  cleared_at : get_or (cleared ws i w) i 0 ≡ as_while (get_or ws i 0)
  unfolding cleared
  cleared_at =
      let g = get_or ws i 0 in
      get_remove 0 (i + 1) i (remove w (set ws i (as_while g))) (omega arith)
      ∙ (get_remove 0 w i (set ws i (as_while g)) (omega arith) ∙ get_or-set_same ws i (as_while g) 0 (omega arith))

  pub header_kept : i < length (cleared ws i w) → header_at (get_or (unwrapped_words ws i w) i 0) ≡ 1
  header_kept b =
      let g = get_or ws i 0 in
      ap header_at (get_on_part 0 (i + 1) (w - 1) i moved_out (cleared ws i w) (omega arith) b ∙ cleared_at)
      ∙ (plain_while g guard_kept.0 guard_kept.1).1

  pub unwrapped_ready : all is_out (part (i + 1) (w - 1) (cleared ws i w)) ≡ true → Ready (i + 1) (unwrapped_words ws i w)
  unwrapped_ready out =
      record {
        plain = all_on_whole is_plain is_out moved_out plain_moved (i + 1) (w - 1) (cleared ws i w) (omega arith) out cleared_plain;
        kept = all_on_part is_kept is_out moved_out kept_moved (i + 1) (i + 1) (w - 1) (cleared ws i w) (omega arith) out cleared_kept (omega arith);
      }

  -- The lines

  module _ (S : List Line) (l t x : List ℕ) (R : Source S l t x) where
    abbrev c : List Token
    c = or_else (condition (line (render S ws) i) (ascii "if")) []

    header_line : line_of S (as_while (get_or ws i 0)) ≡ pseudo_line (line (render S ws) i).address (line (render S ws) i).indent (while_head c)
    header_line =
        let g = get_or ws i 0 in
        let k = all_at is_kept 0 i i ws ready.kept (omega arith) (omega arith) in
        let r = line_render S ws i (omega arith) in
        let same : test_tokens S (piece_of (piece_at g)) guard ≡ c =
        guard_test S l t x R g guard_kept.1
        ∙ ap (λ o. or_else o []) (sym (ap (λ m. condition m (ascii "if")) r ∙ condition_same (line_of S g) (source_line (listing l t x) g) (kept_reads S l t x R g k) (ascii "if"))) in
        while_line S g guard_kept.0
        ∙ ap₂ (λ m ts. pseudo_line m.address m.indent (while_head ts)) (sym r) same

    pub cleared_lines : render S (cleared ws i w) ≡ unwrapped (render S ws) i w c
    unfolding cleared
    cleared_lines =
        let g = get_or ws i 0 in
        map_remove (line_of S) (i + 1) (remove w (set ws i (as_while g)))
        ∙ ap (remove (i + 1))
        (map_remove (line_of S) w (set ws i (as_while g)) ∙ ap (remove w) (map_set (line_of S) i (as_while g) ws ∙ ap (set (render S ws) i) header_line))

    pub out_lines : all is_out (part (i + 1) (w - 1) (cleared ws i w)) ≡ all (λ m. ltb 0 m.indent) (part (i + 1) (w - 1) (unwrapped (render S ws) i w c))
    out_lines =
        sym (map_all (line_of S) (λ m. ltb 0 m.indent) (part (i + 1) (w - 1) (cleared ws i w)) ∙ out_same S (part (i + 1) (w - 1) (cleared ws i w)))
        ∙ ap (all (λ m. ltb 0 m.indent)) (map_part (line_of S) (i + 1) (w - 1) (cleared ws i w) ∙ ap (part (i + 1) (w - 1)) cleared_lines)

    pub moved_lines : all is_out (part (i + 1) (w - 1) (cleared ws i w)) ≡ true
        → render S (unwrapped_words ws i w) ≡ on_part (i + 1) (w - 1) move_out (unwrapped (render S ws) i w c)
    moved_lines out =
        map_on_part (line_of S) is_out moved_out move_out (moved_line S) (i + 1) (w - 1) (cleared ws i w) out
        ∙ ap (on_part (i + 1) (w - 1) move_out) cleared_lines
