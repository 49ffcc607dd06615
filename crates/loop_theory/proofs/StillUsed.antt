-- `still_used` of recover_goto_loops is never true: after the body is rewritten no goto leads to the label, so the branch that inserts a line
-- is never taken.
--   with_body_parts              the listing with its body rewritten, taken apart at the label and at the back edge
--   not_still_used               no line of it has a goto to the label
--   in_place, headed_in_place    so the header takes the label's place
-- Assumes nothing.
use Rattle.std.specs.Prelude.{if◌then◌else◌, Option, None, Some}
use Prim.Native.Nat.{ℕ, suc, ◌+◌, ◌-◌, ◌<◌}
use mathlib.Core.Path.{◌≡◌, refl, ap, ◌∙◌}
use mathlib.Core.Bool.{Bool, true, false, ◌||◌}
use mathlib.Core.List.{List, ◌∷◌, ◌++◌, map}
use native.Mathlib.Omega.{arith}
use native.Mathlib.Numerals.{add-one}
use lib.ListN.{length, take, drop, set}
use lib.Seq.{length-take-le, get_or_at}
use Rattle.definitions.specs.Lists.{is_some, or_else, any, filter, part, remove, on_part, ◌≟◌, ascii}
use Rattle.definitions.specs.Model.{Line, line, no_line}
use Rattle.definitions.specs.Statements.{has_kw, is_label, label, merge, goto_target}
use Rattle.definitions.specs.ToFor.{to_for}
use Rattle.definitions.specs.Passes.{Turn, go, while_head}
use Rattle.definitions.specs.RecoverGotoLoops.{goes_to, enters, jump_line, exit_label, move_in, closed_at, with_body, leading_test, one, headed}
use Rattle.loop_theory.proofs.Cases.{true_false, or_split, if_has}
use Rattle.loop_theory.proofs.Places.{two_places, length_part, set_second, on_part_between}
use Rattle.loop_theory.proofs.Steps.{header_at, body_line}
use Rattle.loop_theory.proofs.Jumps.{no_goto, label_has_no_goto, jump_line_has_no_goto, jump_has}
use Rattle.loop_theory.proofs.AnyAll.{none_append, none_cons, none_split, none_map, none_weaker}

-- a line of the body leads to the label no more
body_goes_elsewhere : (name : List ℕ) (exit : Option (List ℕ)) (l : Line) → goes_to (λ t. t ≟ name) (body_line name exit l) ≡ false
unfolding goes_to goto_target has_kw
body_goes_elsewhere name exit l =
    jump_has (λ x. goes_to (λ t. t ≟ name) (move_in x) ≡ false) name exit l
    (λ kw word q e. no_goto (λ t. t ≟ name) (move_in (jump_line kw l)) (jump_line_has_no_goto kw l word.other)) (λ e. e)

closed_has_no_goto : (l : Line) (d : ℕ) → has_kw (closed_at l d) (ascii "goto") ≡ false
unfolding has_kw any ◌≟◌
closed_has_no_goto l d = refl

goes_to_neither : (p q : List ℕ → Bool) (l : Line) → goes_to (λ t. p t || q t) l ≡ false → goes_to p l ≡ false
unfolding goes_to
goes_to_neither p q l e = go (goto_target l) e
  where
    go : (o : Option (List ℕ)) → elim o [ None ↦ false | Some t ↦ p t || q t ] ≡ false → elim o [ None ↦ false | Some t ↦ p t ] ≡ false
    go None e = refl
    go (Some t) e = (or_split (p t) (q t) e).0

-- The listing with its body rewritten

-- the header in the label's place, and in the leading test's: `headed` without the branch that inserts
abbrev pub in_place : List Line → ℕ → ℕ → Turn
in_place M h d =
    let test = leading_test (line M (h + 1)) d in
    let header = header_at (line M h) d (merge (while_head (or_else test one))) in
    go (h + 1) (to_for (set (if is_some test then remove (h + 1) M else M) h header) h)

abbrev pub rewritten_body : List Line → ℕ → ℕ → List Line
rewritten_body L h b = map (body_line (label (line L h)) (exit_label L b)) (part (suc h) b L)

abbrev pub closing_line : List Line → ℕ → ℕ → Line
closing_line L h b = closed_at (line L b) ((line L h).indent + 1)

module _ (L : List Line) (h b : ℕ) (hb : h < b) (inside : b < length L) where
  length_before : length (take h L) ≡ h
  length_before = length-take-le h L (omega arith)

  pub with_body_parts : with_body L h b ≡ take h L ++ (line L h ∷ (rewritten_body L h b ++ (closing_line L h b ∷ drop (suc b) L)))
  with_body_parts =
      let f = body_line (label (line L h)) (exit_label L b) in
      let x = closing_line L h b in
      let body = part (suc h) b L in
      let after = drop (suc b) L in
      let front = length_before in
      let length_body : length body ≡ b - suc h = length_part (suc h) b L (omega arith) in
      ap (λ K. on_part (h + 1) b f (set K b x)) (two_places no_line h b L hb inside)
      ∙ (ap (on_part (h + 1) b f) (set_second (take h L) body after (line L h) (line L b) x b (omega arith))
      ∙ on_part_between f (take h L) body (x ∷ after) (line L h) h b front (omega arith))

  with_body_head : line (with_body L h b) h ≡ line L h
  with_body_head =
      ap (λ K. line K h) with_body_parts
      ∙ get_or_at (take h L) (line L h) (rewritten_body L h b ++ (closing_line L h b ∷ drop (suc b) L)) no_line h length_before

  pub not_still_used : is_label (line L h) ≡ true → enters L h b ≡ false
      → any (goes_to (λ t. t ≟ label (line (with_body L h b) h))) (with_body L h b) ≡ false
  not_still_used is entered = rw with_body_head (rw with_body_parts
      (none_append back (take h L) _ (outside (take h L) sides.0)
      (none_cons back (line L h) _ (no_goto (λ t. t ≟ name) (line L h) (label_has_no_goto (line L h) is))
      (none_append back (rewritten_body L h b) _ (none_map back _ (body_goes_elsewhere name (exit_label L b)) (part (suc h) b L))
      (none_cons back (closing_line L h b) (drop (suc b) L) (no_goto (λ t. t ≟ name) (closing_line L h b) (closed_has_no_goto (line L b) _))
      (rw add-one at (outside (drop (b + 1) L) sides.1)))))))
    where
      name : List ℕ
      name = label (line L h)

      back : Line → Bool
      back = goes_to (λ t. t ≟ name)

      inner : List ℕ → Bool
      inner t = any (λ l. label l ≟ t) (filter is_label (part (h + 1) b L))

      back_or_inner : Line → Bool
      back_or_inner = goes_to (λ t. (t ≟ name) || inner t)

      sides : (any back_or_inner (take h L) ≡ false) × (any back_or_inner (drop (b + 1) L) ≡ false)
      sides = none_split back_or_inner (take h L) (drop (b + 1) L) entered

      outside : (K : List Line) → any back_or_inner K ≡ false → any back K ≡ false
      outside K = none_weaker back back_or_inner (goes_to_neither (λ t. t ≟ name) inner) K

  pub headed_in_place : (d : ℕ) → is_label (line L h) ≡ true → enters L h b ≡ false → headed (with_body L h b) h d ≡ in_place (with_body L h b) h d
  unfolding headed
  headed_in_place d is entered =
      let M = with_body L h b in
      if_has (λ t. t ≡ in_place M h d) (any (goes_to (λ t. t ≟ label (line M h))) M)
      (λ used. true_false used (not_still_used is entered)) (λ _. refl)
