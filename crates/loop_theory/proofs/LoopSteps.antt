-- A turn of `recover_loops` goes by steps.
--   loop_turned    it goes on at the next line after steps, or stops, or overflows
-- Assumes nothing.
use Rattle.std.specs.Prelude.{Some}
use Prim.Native.Nat.{ℕ, suc, ◌+◌, ◌-◌, ◌≤◌, ◌<◌}
use mathlib.Core.Path.{◌≡◌, sym, ap, subst, ◌∙◌}
use mathlib.Core.Bool.{◌&&◌, not}
use mathlib.Core.List.{List, [], ◌∷◌, ◌++◌, map}
use native.Mathlib.Omega.{arith}
use lib.Dec.{eqb, leb, ltb}
use lib.ListN.{length, take, drop, set}
use lib.Seq.{length-take-le, set_at}
use Rattle.definitions.specs.Lists.{require, all, position_from, part, remove, on_part, ◌≟◌, ascii}
use Rattle.definitions.specs.Model.{Token, Line, line, no_line, text}
use Rattle.definitions.specs.Statements.{has_kw, is_label}
use Rattle.definitions.specs.Condition.{condition}
use Rattle.definitions.specs.Passes.{while_head, lone_brace}
use Rattle.definitions.specs.RecoverLoops.{is_guard, guarded, move_out, unwrapped, rebuilt, close_at, close, loop_turn}
use Rattle.loop_theory.proofs.Cases.{if_has, case_has, IfSome, do_has}
use Rattle.loop_theory.proofs.Places.{two_places, length_part, remove_second, on_part_between, position_from_inside}
use Rattle.loop_theory.proofs.Steps.{header_at, Step, Step.unwrap, Steps.unchanged, Steps.then, Turned, Turned.goes, Turned.stops, Turned.overflows}
use Rattle.loop_theory.proofs.ForStep.{to_for_steps}

-- A line is replaced, the next one and one behind are removed, and those between are changed.
unwrapped_parts : (f : Line → Line) (p q xs : List Line) (x d y v : Line) (i w : ℕ) → length p ≡ i → i + suc (suc (length q)) ≡ w
    → on_part (i + 1) (w - 1) f (remove (i + 1) (remove w (set (p ++ (x ∷ (d ∷ (q ++ (y ∷ xs))))) i v))) ≡ p ++ (v ∷ (map f q ++ xs))
unwrapped_parts f p q xs x d y v i w li lw =
    ap (λ L. on_part (i + 1) (w - 1) f (remove (i + 1) (remove w L))) (set_at p x (d ∷ (q ++ (y ∷ xs))) v i li)
    ∙ (ap (λ L. on_part (i + 1) (w - 1) f (remove (i + 1) L)) (remove_second p (d ∷ q) xs v y w (omega arith))
    ∙ (ap (on_part (i + 1) (w - 1) f) (remove_second p [] (q ++ xs) v d (i + 1) (omega arith))
    ∙ on_part_between f p q xs v i (w - 1) li (omega arith)))

unwrap_step : (L : List Line) (i w : ℕ) (c : List Token) → i + 2 ≤ w → w < length L → condition (line L i) (ascii "if") ≡ Some c
    → Step L (on_part (i + 1) (w - 1) move_out (unwrapped L i w c))
unwrap_step L i w c iw wl q =
    go (part (suc i) w L) (length_part (suc i) w L (omega arith)) (two_places no_line i w L (omega arith) wl)
  where
    header : Line
    header = header_at (line L i) (line L i).indent (while_head c)

    go : (B : List Line) → length B ≡ w - suc i → L ≡ take i L ++ (line L i ∷ (B ++ (line L w ∷ drop (suc w) L)))
        → Step L (on_part (i + 1) (w - 1) move_out (unwrapped L i w c))
    go [] e apart = absurd (omega arith)
    go (d ∷ B) e apart =
        let made : on_part (i + 1) (w - 1) move_out (unwrapped L i w c) ≡ take i L ++ (header ∷ (map move_out B ++ drop (suc w) L)) =
        ap (λ K. on_part (i + 1) (w - 1) move_out (remove (i + 1) (remove w (set K i header)))) apart
        ∙ unwrapped_parts move_out (take i L) B (drop (suc w) L) (line L i) d (line L w) header i w
        (length-take-le i L (omega arith)) (omega arith) in
        subst (λ K. Step K (on_part (i + 1) (w - 1) move_out (unwrapped L i w c))) (sym apart)
        (subst (Step (take i L ++ (line L i ∷ (d ∷ (B ++ (line L w ∷ drop (suc w) L)))))) (sym made)
        (unwrap (take i L) B (drop (suc w) L) (line L i) d (line L w) c q))

guarded_condition : (L : List Line) (i w : ℕ) → IfSome (λ c. condition (line L i) (ascii "if") ≡ Some c) (guarded L i w)
unfolding guarded
guarded_condition L i w =
    let Q : List Token → Type 0 = λ c. condition (line L i) (ascii "if") ≡ Some c in
    do_has Q (condition (line L i) (ascii "if")) λ c read.
    do_has Q (condition (line L w) (ascii "while")) λ c₂ _.
    do_has Q (require (eqb (line L w).indent ((line L i).indent + 1) && ltb (w + 1) (length L))) λ _ _.
    do_has Q (require (eqb (line L (w + 1)).indent (line L i).indent && lone_brace (line L (w + 1)) && (text c ≟ text c₂))) λ _ _ b e.
    read ∙ e

pub loop_turned : (L : List Line) (i : ℕ) → Turned L i (loop_turn L i)
unfolding loop_turn close close_at rebuilt
loop_turned L i =
    let ind = (line L i).indent in
    let next = line L (i + 1) in
    if_has (Turned L i) (has_kw next (ascii "do") && eqb ind 255) (λ _. overflows) λ _.
    if_has (Turned L i) (is_guard (line L i) && has_kw next (ascii "do") && eqb next.indent (ind + 1))
    (λ _. case_has (Turned L i) (position_from (i + 2) (λ l. leb l.indent (ind + 1) && not (is_label l)) L) stops λ w found.
    case_has (Turned L i) (guarded L i w) (goes unchanged) λ c read.
    let inside = position_from_inside (λ l. leb l.indent (ind + 1) && not (is_label l)) (i + 2) L w found in
    if_has (Turned L i) (all (λ l. ltb 0 l.indent) (part (i + 1) (w - 1) (unwrapped L i w c)))
    (λ _. goes (to_for_steps L _ i (then unchanged (unwrap_step L i w c inside.0 inside.1 (guarded_condition L i w c read)))))
    (λ _. overflows))
    (λ _. goes unchanged)
