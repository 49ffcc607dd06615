-- A turn of `recover_goto_loops` goes by steps.
--   back_edge_inside    a back edge stands behind its label, in the listing
--   goto_turned         the turn goes on at the next line after steps, or overflows
-- Assumes nothing.
use Rattle.std.specs.Prelude.{Option, None, Some}
use Prim.Native.Nat.{ℕ, suc, ◌+◌, ◌≤◌, ◌<◌}
use mathlib.Core.Path.{◌≡◌, refl, sym, ap, subst, ◌∙◌}
use mathlib.Core.Bool.{true, false, cond, ◌&&◌, not}
use mathlib.Core.List.{List, [], ◌∷◌, ◌++◌, map}
use native.Mathlib.Omega.{arith}
use native.Mathlib.Numerals.{add-one}
use lib.Dec.{eqb, ltb}
use borrow.Author.Tests.{ltb-true, not-true, not-false}
use lib.ListN.{length, take, drop, set, length-drop}
use lib.Seq.{length-take-le, set_at, get_or_at, get_or-append-add}
use Rattle.definitions.specs.Lists.{is_some, or_else, all, take_while, last_position, part, remove}
use Rattle.definitions.specs.Model.{Token, Line, line, no_line}
use Rattle.definitions.specs.Statements.{is_label, label, merge}
use Rattle.definitions.specs.Passes.{while_head}
use Rattle.definitions.specs.RecoverGotoLoops.{in_block, is_back, back_edge, enters, exit_label, closed_at, with_body, leading_test, one, headed, rewritten, looped, goto_turn}
use Rattle.loop_theory.proofs.Cases.{and_split, if_has, case_has, IfSome, map_has}
use Rattle.loop_theory.proofs.AnyAll.{all_cons}
use Rattle.loop_theory.proofs.Places.{two_places, length_part, remove_second, last_position_inside, take_while_shorter}
use Rattle.loop_theory.proofs.StillUsed.{with_body_parts, headed_in_place}
use Rattle.loop_theory.proofs.Steps.{header_at, body_line, Step, Step.enclose, Step.enclose_tested, Steps.unchanged, Steps.then, Turned, Turned.goes, Turned.overflows}
use Rattle.loop_theory.proofs.ForStep.{to_for_steps}

pub back_edge_inside : (L : List Line) (h : ℕ) → IfSome (λ b. (h < b) × (b < length L)) (back_edge L h)
back_edge_inside L h =
    let l = line L h in
    let block = take_while (in_block l.indent) (drop (h + 1) L) in
    let shorter = take_while_shorter (in_block l.indent) (drop (h + 1) L) in
    let rest = length-drop (h + 1) L in
    map_has (λ j. j < length block) (λ b. (h < b) × (b < length L)) ((h + 1) +◌) (λ j below. omega arith)
    (last_position (is_back (label l) (l.indent + 1)) block) (last_position_inside (is_back (label l) (l.indent + 1)) block)

-- A label, its body rewritten and closed, gets its header, and loses its leading test.
module _ (before after : List Line) (head back : Line) (name : List ℕ) (exit : Option (List ℕ)) (h : ℕ) (at : length before ≡ h)
    (is : is_label head ≡ true) (room : ltb (head.indent + 1) 255 ≡ true) where
  abbrev closed : List Line → List Line
  closed body = before ++ (head ∷ (map (body_line name exit) body ++ (closed_at back (head.indent + 1) ∷ after)))

  abbrev header : List Line → List Token → Line
  header M c = header_at (line M h) (head.indent + 1) (merge (while_head c))

  at_head : (body : List Line) → line (closed body) h ≡ head
  at_head body = get_or_at before head (map (body_line name exit) body ++ (closed_at back (head.indent + 1) ∷ after)) no_line h at

  with_header : (body : List Line) → 1 ≤ length body → all (λ l. ltb l.indent 255) body ≡ true
      → (o : Option (List Token)) → leading_test (line (closed body) (h + 1)) (head.indent + 1) ≡ o
      → Step (before ++ (head ∷ (body ++ (back ∷ after))))
      (set (cond (is_some o) (remove (h + 1) (closed body)) (closed body)) h (header (closed body) (or_else o one)))
  with_header body n deep None q =
      let made = ap (λ l. set (closed body) h (header_at l (head.indent + 1) (merge (while_head one)))) (at_head body) in
      subst (Step (before ++ (head ∷ (body ++ (back ∷ after)))))
      (sym (made ∙ set_at before head _ (header_at head (head.indent + 1) (merge (while_head one))) h at))
      (enclose before body after head back name exit is deep room)
  with_header [] n deep (Some c) q = absurd (omega arith)
  with_header (t ∷ body) n deep (Some c) q =
      let rest = map (body_line name exit) body ++ (closed_at back (head.indent + 1) ∷ after) in
      let test = body_line name exit t in
      let at_test : line (closed (t ∷ body)) (h + 1) ≡ test =
      ap (λ n. line (closed (t ∷ body)) (n + 1)) (sym at) ∙ get_or-append-add before (head ∷ (test ∷ rest)) 1 no_line in
      let new = header_at head (head.indent + 1) (merge (while_head c)) in
      let made : set (remove (h + 1) (closed (t ∷ body))) h (header (closed (t ∷ body)) c) ≡ before ++ (new ∷ rest) =
      ap (λ l. set (remove (h + 1) (closed (t ∷ body))) h (header_at l (head.indent + 1) (merge (while_head c)))) (at_head (t ∷ body))
      ∙ (ap (λ K. set K h new) (remove_second before [] rest head test (h + 1) (omega arith)) ∙ set_at before head rest new h at) in
      subst (Step (before ++ (head ∷ (t ∷ (body ++ (back ∷ after)))))) (sym made)
      (enclose_tested before body after head t back name exit c is (all_cons (λ l. ltb l.indent 255) t body deep).1 room
      (ap (λ l. leading_test l (head.indent + 1)) (sym at_test) ∙ q))

headed_turned : (L : List Line) (h b : ℕ) → h + 1 < b → b < length L → is_label (line L h) ≡ true
    → all (λ l. ltb l.indent 255) (part (h + 1) b L) ≡ true → ltb ((line L h).indent + 1) 255 ≡ true → enters L h b ≡ false
    → Turned L h (headed (with_body L h b) h ((line L h).indent + 1))
headed_turned L h b hb inside is deep room entered =
    let hb' : h < b = omega arith in
    rw (headed_in_place L h b hb' inside ((line L h).indent + 1) is entered)
    (goes (to_for_steps L (with_head (with_body L h b)) h (then unchanged
    (subst (λ K. Step K (with_head (with_body L h b))) (sym (two_places no_line h b L hb' inside))
    (subst (λ K. Step (take h L ++ (line L h ∷ (part (suc h) b L ++ (line L b ∷ drop (suc b) L)))) (with_head K))
    (sym (with_body_parts L h b hb' inside))
    (with_header (take h L) (drop (suc b) L) (line L h) (line L b) (label (line L h)) (exit_label L b) h
    (length-take-le h L (omega arith)) is room
    (part (suc h) b L) (rw (length_part (suc h) b L (omega arith)) (omega arith)) (rw add-one at deep) _ refl))))))
  where
    with_head : List Line → List Line
    with_head K =
        let test = leading_test (line K (h + 1)) ((line L h).indent + 1) in
        set (cond (is_some test) (remove (h + 1) K) K) h (header_at (line K h) ((line L h).indent + 1) (merge (while_head (or_else test one))))

pub goto_turned : (L : List Line) (h : ℕ) → Turned L h (goto_turn L h)
unfolding goto_turn looped rewritten
goto_turned L h =
    if_has (Turned L h) (not (is_label (line L h))) (λ _. goes unchanged) λ is.
    if_has (Turned L h) (eqb (line L h).indent 255) (λ _. overflows) λ _.
    case_has (Turned L h) (back_edge L h) (goes unchanged) λ b found.
    if_has (Turned L h) (ltb (h + 1) b && not (enters L h b))
    (λ loop. let d = (line L h).indent + 1 in
    if_has (Turned L h) (all (λ l. ltb l.indent 255) (part (h + 1) b L) && ltb d 255)
    (λ fits. let s = and_split (ltb (h + 1) b) (not (enters L h b)) loop in
    let f = and_split (all (λ l. ltb l.indent 255) (part (h + 1) b L)) (ltb d 255) fits in
    headed_turned L h b (ltb-true (h + 1) b s.0) (back_edge_inside L h b found).1 (not-false (is_label (line L h)) is) f.0 f.1
    (not-true (enters L h b) s.1))
    (λ _. overflows))
    (λ _. goes unchanged)
