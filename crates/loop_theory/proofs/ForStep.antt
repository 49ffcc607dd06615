-- `to_for` makes one step or none.
--   initialiser_before    an initialiser stands before the header
--   to_for_steps          what to_for answers is reached by steps
-- Assumes nothing.
use Rattle.std.specs.Prelude.{Option, None, Some}
use Prim.Native.Nat.{ℕ, zero, suc, ◌+◌, ◌-◌, ◌≤◌, ◌<◌}
use mathlib.Core.Path.{◌≡◌, refl, sym, ap, subst, ◌∙◌}
use mathlib.Core.Bool.{◌&&◌, ◌||◌, not}
use mathlib.Core.List.{List, ◌∷◌, ◌++◌, append_assoc}
use native.Mathlib.Omega.{arith}
use lib.Dec.{eqb, leb, ltb}
use borrow.Author.Tests.{leb-true}
use lib.ListN.{length, take, drop, set, length-append}
use lib.Seq.{length-take-le}
use Rattle.definitions.specs.Lists.{require, is_some, or_else, any, position_from, first, part, remove, ◌≟◌, ascii}
use Rattle.definitions.specs.Model.{Token, Line, line, no_line, text}
use Rattle.definitions.specs.Family.{names, fam_of}
use Rattle.definitions.specs.Statements.{assignment, call_at, has_kw, is_label}
use Rattle.definitions.specs.Condition.{condition}
use Rattle.definitions.specs.ToFor.{initialiser, is_step, for_head, for_loop, to_for}
use Rattle.loop_theory.proofs.Cases.{none_some, some_same, and_split, if_has, IfSome, do_has, required}
use Rattle.loop_theory.proofs.Places.{from_place, two_places, length_part, remove_there, set_second, remove_second, position_from_inside}
use Rattle.loop_theory.proofs.Steps.{header_at, Step, Step.count, Steps, Steps.then}

initialiser_before : (L : List Line) (ind : ℕ) (v : List ℕ) (n k : ℕ) → IfSome (λ j. j < k) (initialiser L ind v n k)
unfolding initialiser
initialiser_before L ind v zero k = λ j e. none_some e
initialiser_before L ind v (suc n) zero = λ j e. none_some e
initialiser_before L ind v (suc n) (suc k) =
    let earlier = initialiser_before L ind v n k in
    do_has (λ j. j < suc k) (assignment (line L k)) λ a _.
    do_has (λ j. j < suc k) (require (eqb (line L k).indent ind)) λ _ _.
    if_has (IfSome (λ j. j < suc k)) (names v a.lhs)
    (λ _. if_has (IfSome (λ j. j < suc k)) (any (names v) a.expr) (λ _ j e. none_some e) (λ _ j e. let here = some_same e in omega arith))
    (λ _. if_has (IfSome (λ j. j < suc k)) (any (names v) (line L k).tokens || is_some (call_at (line L k)))
    (λ _ j e. none_some e) (λ _ j e. let before = earlier j e in omega arith))

-- Three places: the first and the last are removed, the middle is replaced.
counted : (p q r s : List Line) (x y z v : Line) (k w e : ℕ) → length p ≡ k → k + suc (length q) ≡ w → w + suc (length r) ≡ e
    → remove k (set (remove e (p ++ (x ∷ (q ++ (y ∷ (r ++ (z ∷ s))))))) w v) ≡ p ++ (q ++ (v ∷ (r ++ s)))
counted p q r s x y z v k w e lk lw le =
    let l = length-append p (x ∷ q) in
    ap (λ L. remove k (set (remove e L) w v)) (sym (append_assoc p (x ∷ q) (y ∷ (r ++ (z ∷ s)))))
    ∙ (ap (λ L. remove k (set L w v)) (remove_second (p ++ (x ∷ q)) r s y z e (omega arith) ∙ append_assoc p (x ∷ q) (y ∷ (r ++ s)))
    ∙ (ap (remove k) (set_second p q (r ++ s) x y v w (omega arith)) ∙ remove_there p x (q ++ (v ∷ (r ++ s))) k lk))

count_step : (L : List Line) (k w e : ℕ) (c : List Token) → k < w → w + 2 ≤ e → e < length L → condition (line L w) (ascii "while") ≡ Some c
    → Step L (remove k (set (remove (e - 1) L) w (header_at (line L w) (line L w).indent (for_head (line L k).tokens c (line L (e - 1)).tokens))))
count_step L k w e c kw we el q =
    let s = e - 1 in
    let header = header_at (line L w) (line L w).indent (for_head (line L k).tokens c (line L s).tokens) in
    let before = take k L in
    let between = part (suc k) w L in
    let body = part (suc w) s L in
    let after = drop (suc s) L in
    let apart : L ≡ before ++ (line L k ∷ (between ++ (line L w ∷ (body ++ (line L s ∷ after))))) =
    two_places no_line k w L kw (omega arith)
    ∙ ap (λ K. before ++ (line L k ∷ (between ++ (line L w ∷ K)))) (from_place no_line (suc w) s L (omega arith) (omega arith)) in
    let lk : length before ≡ k = length-take-le k L (omega arith) in
    let lw = length_part (suc k) w L (omega arith) in
    let ls = length_part (suc w) s L (omega arith) in
    let made : remove k (set (remove s L) w header) ≡ before ++ (between ++ (header ∷ (body ++ after))) =
    ap (λ K. remove k (set (remove s K) w header)) apart
    ∙ counted before between body after (line L k) (line L w) (line L s) header k w s lk (omega arith) (omega arith) in
    subst (λ K. Step K (remove k (set (remove s L) w header))) (sym apart)
    (subst (λ K. Step (before ++ (line L k ∷ (between ++ (line L w ∷ (body ++ (line L s ∷ after)))))) K) (sym made)
    (count before between body after (line L k) (line L w) (line L s) c q))

for_loop_step : (L : List Line) (w : ℕ) → IfSome (Step L) (for_loop L w)
unfolding for_loop
for_loop_step L w =
    let ind = (line L w).indent in
    do_has (Step L) (require (ltb 0 w)) λ _ _.
    do_has (Step L) (condition (line L w) (ascii "while")) λ c read.
    do_has (Step L) (position_from (w + 1) (λ l. leb l.indent ind && not (is_label l)) L) λ end found.
    do_has (Step L) (require (leb (w + 2) end && eqb (line L end).indent ind && (text (line L end).tokens ≟ ascii "}"))) λ _ closed.
    let step = line L (end - 1) in
    do_has (Step L) (first step.tokens) λ t _.
    do_has (Step L) (fam_of t) λ v _.
    do_has (Step L) (require (eqb step.indent (ind + 1) && is_step (text (drop 1 step.tokens)))) λ _ _.
    do_has (Step L) (require (any (names v.name) c && not (any (λ l. has_kw l (ascii "continue")) (part (w + 1) end L)))) λ _ _.
    do_has (Step L) (initialiser L ind v.name 4 w) λ k initialised M e.
    let level = (and_split _ (text (line L end).tokens ≟ ascii "}") (required _ closed)).0 in
    let far = (and_split (leb (w + 2) end) (eqb (line L end).indent ind) level).0 in
    let inside = (position_from_inside (λ l. leb l.indent ind && not (is_label l)) (w + 1) L end found).1 in
    subst (Step L) (some_same e)
    (count_step L k w end c (initialiser_before L ind v.name 4 w k initialised) (leb-true (w + 2) end far) inside read)

pub to_for_steps : (L M : List Line) (w : ℕ) → Steps L M → Steps L (to_for M w)
unfolding to_for
to_for_steps L M w s = go (for_loop M w) (for_loop_step M w)
  where
    go : (o : Option (List Line)) → IfSome (Step M) o → Steps L (or_else o M)
    go None f = s
    go (Some N) f = then s (f N refl)
