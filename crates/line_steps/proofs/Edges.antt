-- The kinds of step, as edges drawn.
--   steps_next, steps_end, steps_append    the steps of a line, one list after the other
--   test_yes, test_no                                steps that a test of the code decides
--   past_some, past_none                             past the end of a block
--   back_some, back_other, back_none                 back to the opener of a loop
--   case_left, case_end, cases_some, cases_other, cases_none    to the cases of a switch
--   left_yes, left_no, left_start, left_next, left_end          out of one block, out of those around a line
--   leaves_yes, leaves_no                            the same as the definition has it
--   jump_some, jump_none, jumps_at, jumps_start, jumps_next, jumps_end, jumps_none    to labels
--   leads_yes, leads_no, leads_start, leads_next, leads_fail, leads_end, leads_none   whether there is one for every goto
--   block_drawn, line_drawn                                   all kinds
-- Assumes nothing.
use Rattle.std.specs.Prelude.{if◌then◌else◌, Option, None, Some}
use Prim.Native.Nat.{ℕ, suc, ◌+◌, ◌-◌, ◌<◌, ◌≤◌}
use mathlib.Core.Path.{◌≡◌, refl, sym, ap, ◌∙◌, fun_ext}
use mathlib.Core.Bool.{Bool, true, false, cond, ◌&&◌, ◌||◌, and-false, or-false, and-or_distrib_left}
use mathlib.Core.List.{List, [], ◌∷◌, ◌++◌, map}
use native.Mathlib.Numerals.{add-one}
use native.Mathlib.Decide.{ℕ_discrete}
use native.Mathlib.Omega.{arith}
use borrow.Author.Tests.{eq-eqb, ne_eqb, eqb-true}
use lib.Dec.{eqb}
use lib.ListN.{length, get_or}
use Rattle.definitions.specs.Lists.{◌>>=◌, is_some, to_list, any, all, filter, concat, part, range, up_to, member, ascii}
use Rattle.definitions.specs.Columns.{token_list, listing}
use Rattle.definitions.specs.Model.{Token, Line, line}
use Rattle.definitions.specs.Statements.{targets, has_kw}
use Rattle.definitions.specs.Blocks.{Blocks}
use Rattle.definitions.specs.FlowGraph.{end_of, falls, past_end, is_loop, is_switch, is_case, closes, loops_back, cases, leaves, label_line, leads, jumps}
use Rattle.model.specs.Places.{line_start, line_end}
use Rattle.model.proofs.Decode.{length_listing}
use Rattle.line_keywords.proofs.NoGotos.{no_leads, no_jumps}
use Rattle.theory.proofs.Bools.{same_test}
use Rattle.theory.proofs.ListLaws.{any_found, any_here, member_filter, range_member}
use Rattle.bits.specs.Edges.{Added}
use Rattle.blocks.specs.Entries.{linked}
use Rattle.blocks.specs.Structure.{Enclosed}
use Rattle.labels.specs.Gotos.{targets_at, goto_line}
use Rattle.line_steps.specs.Drawing.{Drawing, Drawn, from, left, lefts, back, own, line_edges}
use Rattle.blocks.proofs.Links.{linked_fuel}
use Rattle.line_steps.proofs.Drawings.{drawn_none, drawn_as, drawn_both, drawn_step, drawing_start, drawing_next, drawing_end, member_append}
use Rattle.labels.proofs.Leads.{line_tokens, leads_at, left_falls}

-- Lists of steps

eqb_sym : (a b : ℕ) → eqb a b ≡ eqb b a
eqb_sym a b = same_test (eqb a b) (eqb b a) (λ e. eq-eqb b a (sym (eqb-true a b e))) (λ e. eq-eqb a b (sym (eqb-true b a e)))

-- no steps to draw
from_nil : (n r i : ℕ) (xs l : List ℕ) → xs ≡ [] → Drawn n r l l (from i xs)
unfolding any
from_nil n r i xs l e = drawn_none n r l (from i xs) (λ p q hp hq. rw e (and-false (eqb p i)))

from_as : (n r i : ℕ) (xs ys l₀ l : List ℕ) → Drawn n r l₀ l (from i xs) → ((q : ℕ) → member q xs ≡ member q ys) → Drawn n r l₀ l (from i ys)
from_as n r i xs ys l₀ l D e = drawn_as n r l₀ l (from i xs) (from i ys) D (λ p q hp hq. ap (eqb p i &&◌) (e q))

-- a loop that draws the steps of line i, one list after the other
module _ (n r i : ℕ) (f : ℕ → ℕ → Bool) (l₀ l : List ℕ) (xs : List ℕ) (D : Drawing n r l₀ l f (from i xs)) where
  pub steps_next : (m ys zs : List ℕ) → Drawn n r l m (from i ys) → ((q : ℕ) → member q xs ≡ (member q ys || member q zs)) → Drawing n r l₀ m f (from i zs)
  steps_next m ys zs E e =
      drawing_next n r l₀ f l (from i xs) D m (from i ys) (from i zs) E
      (λ p q hp hq. ap (eqb p i &&◌) (e q) ∙ and-or_distrib_left (eqb p i) (member q ys) (member q zs))

  pub steps_end : xs ≡ [] → Drawn n r l₀ l f
  unfolding any
  steps_end e = drawing_end n r l₀ f l (from i xs) D (λ p q hp hq. rw e (and-false (eqb p i)))

pub steps_append : (n r i : ℕ) (xs ys l₀ l₁ l₂ : List ℕ) → Drawn n r l₀ l₁ (from i xs) → Drawn n r l₁ l₂ (from i ys) → Drawn n r l₀ l₂ (from i (xs ++ ys))
steps_append n r i xs ys l₀ l₁ l₂ D E =
    drawn_as n r l₀ l₂ (λ p q. from i xs p q || from i ys p q) (from i (xs ++ ys)) (drawn_both n r l₀ l₁ l₂ (from i xs) (from i ys) D E)
    (λ p q hp hq. sym (ap (eqb p i &&◌) (member_append q xs ys) ∙ and-or_distrib_left (eqb p i) (member q xs) (member q ys)))

-- by a test of the code
module _ (n r i : ℕ) (b x : Bool) (e : b ≡ x) (xs : List ℕ) where
  pub test_yes : (l₀ l : List ℕ) → b ≡ true → Drawn n r l₀ l (from i xs) → Drawn n r l₀ l (from i (if x then xs else []))
  test_yes l₀ l q D = rw (← e, q) D

  pub test_no : (l : List ℕ) → b ≡ false → Drawn n r l l (from i (if x then xs else []))
  test_no l q = from_nil n r i (if x then xs else []) l (rw (← e, q))

-- Past the end of a block

-- o is the close of the block that line h opens
module _ (b : Blocks) (h : ℕ) (o : Option ℕ) (end : o ≡ end_of b h) where
  past_of : past_end b h ≡ (elim o as (λ x. List ℕ) [ None ↦ [] | Some c ↦ (c + 1) ∷ [] ])
  unfolding past_end
  past_of = ap (λ (o : Option ℕ). elim o as (λ x. List ℕ) [ None ↦ [] | Some c ↦ (c + 1) ∷ [] ]) (sym end)

  module _ (n r i : ℕ) where
    pub past_some : (l₀ l : List ℕ) (c : ℕ) → o ≡ Some c → Drawn n r l₀ l (from i ((c + 1) ∷ [])) → Drawn n r l₀ l (from i (past_end b h))
    past_some l₀ l c z D = rw (past_of, z) D

    pub past_none : (l : List ℕ) → o ≡ None → Drawn n r l l (from i (past_end b h))
    past_none l z = from_nil n r i (past_end b h) l (past_of ∙ rw z)

-- Back to the opener of a loop

module _ (L : List Line) (b : Blocks) (h : ℕ) (o : Option ℕ) (end : o ≡ end_of b h) where
  closes_of : (p : ℕ) → closes b p h ≡ (elim o as (λ x. Bool) [ None ↦ false | Some c ↦ eqb c p ])
  closes_of p = ap (λ (o : Option ℕ). elim o as (λ x. Bool) [ None ↦ false | Some c ↦ eqb c p ]) (sym end)

  module _ (n r : ℕ) (hh : h < n) (all : length L ≡ n) where
    back_at : (p q : ℕ) → back L b h p q ≡ (eqb q h && (closes b p h && is_loop (line L h)))
    unfolding loops_back
    back_at p q = go (ℕ_discrete q h)
      where
        go : Dec (q ≡ h) → back L b h p q ≡ (eqb q h && (closes b p h && is_loop (line L h)))
        go (yes e) = rw (e, member_filter (λ h. is_loop (line L h)) (filter (closes b p) (up_to (length L))) h, member_filter (closes b p) (up_to (length L)) h, range_member h 0 (length L) (omega arith) (omega arith))
        go (no e) = rw (ne_eqb q h e)

    pub back_some : (l₀ l : List ℕ) (c : ℕ) (t : Bool) → o ≡ Some c → t ≡ is_loop (line L h) → t ≡ true → Added n r c h l₀ l → Drawn n r l₀ l (back L b h)
    unfolding any
    back_some l₀ l c t z u v A = drawn_as n r l₀ l (from c (h ∷ [])) (back L b h) (drawn_step n r c h l₀ l A) (λ p q hp hq. sym (same p q))
      where
        flip : (x y w : Bool) → y ≡ w → (x && (y && true)) ≡ (w && (x || false))
        flip true true w e = rw (← e)
        flip true false w e = rw (← e)
        flip false y w e = sym (and-false w)

        same : (p q : ℕ) → back L b h p q ≡ from c (h ∷ []) p q
        same p q = back_at p q ∙ rw (closes_of p, z, ← u, v) (flip (eqb q h) (eqb c p) (eqb p c) (eqb_sym c p))

    pub back_other : (l : List ℕ) (t : Bool) → t ≡ is_loop (line L h) → t ≡ false → Drawn n r l l (back L b h)
    back_other l t u v = drawn_none n r l (back L b h) (λ p q hp hq. back_at p q ∙ rw (← u, v, and-false (closes b p h)) (and-false (eqb q h)))

    pub back_none : (l : List ℕ) → o ≡ None → Drawn n r l l (back L b h)
    back_none l z = drawn_none n r l (back L b h) (λ p q hp hq. back_at p q ∙ rw (closes_of p, z) (and-false (eqb q h)))

-- To the cases of a switch

module _ (p : ℕ → Bool) (j c : ℕ) where
  pub case_left : j < c → (q : ℕ) → member q (filter p (range j (c - j))) ≡ (member q (if p j then j ∷ [] else []) || member q (filter p (range (j + 1) (c - (j + 1)))))
  unfolding filter range any
  case_left h q =
      let e : c - j ≡ suc (c - (j + 1)) = omega arith in
      rw (e, add-one j) (go (p j))
    where
      go : (t : Bool) → member q (cond t (j ∷ filter p (range (suc j) (c - suc j))) (filter p (range (suc j) (c - suc j))))
          ≡ (member q (cond t (j ∷ []) []) || member q (filter p (range (suc j) (c - suc j))))
      go true = ap (◌|| member q (filter p (range (suc j) (c - suc j)))) (sym (or-false (eqb q j)))
      go false = refl

  pub case_end : c ≤ j → filter p (range j (c - j)) ≡ []
  unfolding filter range
  case_end h = let e : c - j ≡ 0 = omega arith in rw e

filter_none : (p : ℕ → Bool) (xs : List ℕ) → ((x : ℕ) → p x ≡ false) → filter p xs ≡ []
unfolding filter
filter_none p [] e = refl
filter_none p (x ∷ xs) e = rw (e x) (filter_none p xs e)

module _ (L : List Line) (b : Blocks) (h : ℕ) (o : Option ℕ) (end : o ≡ end_of b h) where
  between : cases L b h ≡ (elim o as (λ x. List ℕ) [ None ↦ [] | Some c ↦ filter (λ j. is_switch (line L h) && is_case (line L j)) (range (h + 1) (c - (h + 1))) ])
  unfolding cases
  between = ap (λ (o : Option ℕ). elim o as (λ x. List ℕ) [ None ↦ [] | Some c ↦ filter (λ j. is_switch (line L h) && is_case (line L j)) (range (h + 1) (c - (h + 1))) ]) (sym end)

  module _ (n r : ℕ) where
    module _ (t : Bool) (u : t ≡ is_switch (line L h)) (c : ℕ) (z : o ≡ Some c) where
      pub cases_some : (l₀ l : List ℕ) → t ≡ true → Drawn n r l₀ l (from h (filter (λ j. is_case (line L j)) (range (h + 1) (c - (h + 1))))) → Drawn n r l₀ l (from h (cases L b h))
      cases_some l₀ l v D = rw (between, z, ← u, v) D

      pub cases_other : (l : List ℕ) → t ≡ false → Drawn n r l l (from h (cases L b h))
      cases_other l v =
          from_nil n r h (cases L b h) l
          (rw (between, z) (filter_none (λ j. is_switch (line L h) && is_case (line L j)) (range (h + 1) (c - (h + 1))) (λ j. rw (← u, v))))

    pub cases_none : (l : List ℕ) → o ≡ None → Drawn n r l l (from h (cases L b h))
    cases_none l z = from_nil n r h (cases L b h) l (rw (between, z))

-- Out of blocks

abbrev is_left : List Line → ℕ → Bool
is_left L h = is_loop (line L h) || is_switch (line L h)

module _ (L : List Line) (b : Blocks) (n r i h : ℕ) (t : Bool) (u : t ≡ is_left L h) where
  pub left_yes : (l₀ l₁ l₂ : List ℕ) → t ≡ true → Drawn n r l₀ l₁ (from i (h ∷ [])) → Drawn n r l₁ l₂ (from i (past_end b h)) → Drawn n r l₀ l₂ (from i (left L b h))
  unfolding left
  left_yes l₀ l₁ l₂ v D D' = rw (← u, v) (steps_append n r i (h ∷ []) (past_end b h) l₀ l₁ l₂ D D')

  pub left_no : (l : List ℕ) → t ≡ false → Drawn n r l l (from i (left L b h))
  unfolding left
  left_no l v = from_nil n r i (left L b h) l (rw (← u, v))

module _ (L : List Line) (b : Blocks) (ps : List ℕ) where
  -- the openers that are left, p being the entry of the next
  module _ (i p : ℕ) (low : (j : ℕ) → j < i → get_or ps j 0 ≤ j) (le : p ≤ i) where
    pub left_start : (n r : ℕ) (l : List ℕ) → Drawing n r l l (from i (lefts L b (linked ps i p))) (from i (lefts L b (linked ps p p)))
    left_start n r l = rw (linked_fuel ps i p p le (omega arith) (λ j q. low j (omega arith))) (drawing_start n r l (from i (lefts L b (linked ps p p))))

    pub left_next : (h : ℕ) → p ≡ suc h → (q : ℕ)
        → member q (lefts L b (linked ps p p)) ≡ (member q (left L b h) || member q (lefts L b (linked ps (get_or ps h 0) (get_or ps h 0))))
    unfolding lefts concat linked
    left_next h e q =
        let w = low h (omega arith) in
        ap (λ (x : ℕ). member q (lefts L b (linked ps x x))) e
        ∙ member_append q (left L b h) (lefts L b (linked ps h (get_or ps h 0)))
        ∙ ap (λ (xs : List ℕ). member q (left L b h) || member q (lefts L b xs))
        (linked_fuel ps h (get_or ps h 0) (get_or ps h 0) w (omega arith) (λ j g. low j (omega arith)))

  pub left_end : (p : ℕ) → p ≡ 0 → lefts L b (linked ps p p) ≡ []
  unfolding lefts concat linked
  left_end p e = rw e

member_concat : (f : ℕ → List ℕ) (q : ℕ) (xs : List ℕ) → member q (concat (map f xs)) ≡ any (λ x. member q (f x)) xs
unfolding concat any
member_concat f q [] = refl
member_concat f q (x ∷ xs) = member_append q (f x) (concat (map f xs)) ∙ ap (member q (f x) ||◌) (member_concat f q xs)

any_of_filter : (t p : ℕ → Bool) (xs : List ℕ) → any t (filter p xs) ≡ any (λ x. p x && t x) xs
unfolding any filter
any_of_filter t p [] = refl
any_of_filter t p (x ∷ xs) = go (p x) (any_of_filter t p xs)
  where
    go : (b : Bool) → any t (filter p xs) ≡ any (λ x. p x && t x) xs → any t (cond b (x ∷ filter p xs) (filter p xs)) ≡ ((b && t x) || any (λ x. p x && t x) xs)
    go true e = ap (t x ||◌) e
    go false e = e

module _ (L : List Line) (b : Blocks) (ps : List ℕ) (P : Enclosed L b ps) (i m : ℕ) (him : i < m) (all : length L ≡ m) where
  hi : i < length L
  hi = omega arith

  abbrev around : List ℕ
  around = linked ps i (get_or ps i 0)

  -- a step to line q out of the block that line h opens
  abbrev leads_out : ℕ → ℕ → Bool
  leads_out q h = is_left L h && member q (h ∷ past_end b h)

  left_members : (q : ℕ) → member q (lefts L b around) ≡ any (leads_out q) around
  unfolding lefts left any
  left_members q = member_concat (left L b) q around ∙ ap (λ (f : ℕ → Bool). any f around) (fun_ext (λ h. go h (is_left L h)))
    where
      go : (h : ℕ) (t : Bool) → member q (cond t (h ∷ past_end b h) []) ≡ (t && member q (h ∷ past_end b h))
      go h true = refl
      go h false = refl

  leave_members : (q : ℕ) → member q (lefts L b around)
      ≡ member q (concat (map (λ h. h ∷ past_end b h) (filter (is_left L) (get_or b.enclosing i []))))
  leave_members q =
      left_members q
      ∙ same_test (any (leads_out q) around) (any (leads_out q) (get_or b.enclosing i [])) there back_again
      ∙ sym (member_concat (λ h. h ∷ past_end b h) q (filter (is_left L) (get_or b.enclosing i []))
      ∙ any_of_filter (λ h. member q (h ∷ past_end b h)) (is_left L) (get_or b.enclosing i []))
    where
      there : any (leads_out q) around ≡ true → any (leads_out q) (get_or b.enclosing i []) ≡ true
      there e =
          let f = any_found (leads_out q) around e in
          any_here (leads_out q) (get_or b.enclosing i []) f.0 (sym (P.around i f.0 hi) ∙ f.1) f.2

      back_again : any (leads_out q) (get_or b.enclosing i []) ≡ true → any (leads_out q) around ≡ true
      back_again e =
          let f = any_found (leads_out q) (get_or b.enclosing i []) e in
          any_here (leads_out q) around f.0 (P.around i f.0 hi ∙ f.1) f.2

  module _ (n r : ℕ) (t : Bool) (u : t ≡ (has_kw (line L i) (ascii "break") || has_kw (line L i) (ascii "continue"))) where
    pub leaves_yes : (l₀ l : List ℕ) → t ≡ true → Drawn n r l₀ l (from i (lefts L b (linked ps i (get_or ps i 0)))) → Drawn n r l₀ l (from i (leaves L b i))
    unfolding leaves
    leaves_yes l₀ l v D =
        rw (← u, v) (from_as n r i (lefts L b around) (concat (map (λ h. h ∷ past_end b h) (filter (is_left L) (get_or b.enclosing i [])))) l₀ l D leave_members)

    pub leaves_no : (l : List ℕ) → t ≡ false → Drawn n r l l (from i (leaves L b i))
    unfolding leaves
    leaves_no l v = from_nil n r i (leaves L b i) l (rw (← u, v))

pub ruleset leaving = (past_some, past_none, back_some, back_other, back_none, left_yes, left_no, leaves_yes, leaves_no, length_listing)

-- To labels

module _ (n r i : ℕ) (f : Option ℕ) (o : Option ℕ) (e : f ≡ o) where
  pub jump_some : (l₀ l : List ℕ) (q : ℕ) → f ≡ Some q → Drawn n r l₀ l (from i (q ∷ [])) → Drawn n r l₀ l (from i (to_list o))
  jump_some l₀ l q z D = rw (← e, z) D

  pub jump_none : (l : List ℕ) → f ≡ None → Drawn n r l l (from i (to_list o))
  jump_none l z = from_nil n r i (to_list o) l (rw (← e, z))

module _ (f : Option ℕ) (o : Option ℕ) (e : f ≡ o) where
  pub leads_yes : (q : ℕ) → f ≡ Some q → true ≡ is_some o
  leads_yes q z = rw (← e, z)

  pub leads_no : f ≡ None → false ≡ is_some o
  leads_no z = rw (← e, z)

-- where the gotos from the one at the place o on lead
unfoldable pub jumps_at : List Line → List Token → Option ℕ → ℕ → List ℕ
jumps_at L us o e = concat (map to_list (leads_at L us o e))

module _ (l t x : List ℕ) (i s e : ℕ) (k : Option ℕ) (p : s ≡ line_start l i) (q : e ≡ line_end l t i) (z : targets_at (token_list t x) k e ≡ targets (part s e (token_list t x))) where
  all_at : leads (listing l t x) i ≡ leads_at (listing l t x) (token_list t x) k e
  unfolding leads_at
  all_at = rw (line_tokens l t x i, ← p, ← q, z)

  pub leads_start : all is_some (leads (listing l t x) i) ≡ all is_some (leads_at (listing l t x) (token_list t x) k e)
  leads_start = ap (all is_some) all_at

  pub jumps_start : (n r : ℕ) (d : List ℕ) → Drawing n r d d (from i (jumps (listing l t x) i)) (from i (jumps_at (listing l t x) (token_list t x) k e))
  unfolding jumps jumps_at
  jumps_start n r d = rw (← all_at) (drawing_start n r d (from i (jumps (listing l t x) i)))

module _ (L : List Line) (us : List Token) (o : Option ℕ) (e : ℕ) (r : Bool) (inv : r ≡ all is_some (leads_at L us o e)) where
  module _ (k : ℕ) (at : o ≡ Some k) (b : Bool) (q : b ≡ is_some (goto_line L us (k + 1) e)) where
    leads_step : r ≡ (b && all is_some (map (λ t. t >>= label_line L) (targets (part (k + 1) e us))))
    unfolding leads_at targets_at all
    leads_step = inv ∙ rw (at, q)

    pub leads_next : (n : Option ℕ) → b ≡ true → targets_at us n e ≡ targets (part (k + 1) e us) → r ≡ all is_some (leads_at L us n e)
    unfolding leads_at
    leads_next n z y = leads_step ∙ rw (z, y)

    pub leads_fail : b ≡ false → false ≡ r
    leads_fail z = sym (leads_step ∙ rw z)

  pub leads_end : o ≡ None → true ≡ r
  unfolding leads_at targets_at all
  leads_end z = sym (inv ∙ rw z)

module _ (n r : ℕ) where
  module _ (L : List Line) (us : List Token) (i : ℕ) (o : Option ℕ) (e : ℕ) (f : ℕ → ℕ → Bool) (l₀ l : List ℕ) (D : Drawing n r l₀ l f (from i (jumps_at L us o e))) where
    pub jumps_next : (m : List ℕ) (j : Option ℕ) (k : ℕ) → o ≡ Some k → Drawn n r l m (from i (to_list (goto_line L us (k + 1) e))) → targets_at us j e ≡ targets (part (k + 1) e us)
        → Drawing n r l₀ m f (from i (jumps_at L us j e))
    unfolding jumps_at leads_at targets_at concat
    jumps_next m j k h E z =
        let rest : List (Option (List ℕ)) → List ℕ = λ ts. concat (map to_list (map (λ t. t >>= label_line L) ts)) in
        steps_next n r i f l₀ l (jumps_at L us o e) D m (to_list (goto_line L us (k + 1) e)) (jumps_at L us j e) E
        (λ q. rw h (member_append q (to_list (goto_line L us (k + 1) e)) (rest (targets (part (k + 1) e us))) ∙ ap (λ (ts : List (Option (List ℕ))). member q (to_list (goto_line L us (k + 1) e)) || member q (rest ts)) (sym z)))

    pub jumps_end : o ≡ None → Drawn n r l₀ l f
    unfolding jumps_at leads_at targets_at concat
    jumps_end h = steps_end n r i f l₀ l (jumps_at L us o e) D (rw h)

pub ruleset jumping = (leads_start, leads_next, leads_fail, leads_end, jumps_start, jumps_next, jumps_end, left_falls)

pub leads_none : (L : List Line) (i : ℕ) (b : Bool) → b ≡ has_kw (line L i) (ascii "goto") → b ≡ false → true ≡ all is_some (leads L i)
unfolding all
leads_none L i b e f = rw (no_leads L i (sym e ∙ f))

pub jumps_none : (n r : ℕ) (L : List Line) (i : ℕ) (b : Bool) (l : List ℕ) → b ≡ has_kw (line L i) (ascii "goto") → b ≡ false → Drawn n r l l (from i (jumps L i))
jumps_none n r L i b l e f = from_nil n r i (jumps L i) l (no_jumps L i (sym e ∙ f))

pub ruleset leading = (jump_some, jump_none, leads_yes, leads_no, leads_none, jumps_none)

-- All kinds

pub block_drawn : (n r i t : ℕ) (L : List Line) (b : Blocks) (l₀ l₁ l₂ l₃ : List ℕ) → falls L b i ≡ t ∷ [] → Drawn n r l₀ l₁ (from i (t ∷ []))
    → Drawn n r l₁ l₂ (from i (past_end b i)) → Drawn n r l₂ l₃ (from i (cases L b i)) → Drawn n r l₀ l₃ (from i (falls L b i ++ past_end b i ++ cases L b i))
block_drawn n r i t L b l₀ l₁ l₂ l₃ e D P C =
    steps_append n r i (falls L b i ++ past_end b i) (cases L b i) l₀ l₂ l₃
    (steps_append n r i (falls L b i) (past_end b i) l₀ l₁ l₂ (rw e D) P) C

pub line_drawn : (n r i : ℕ) (L : List Line) (b : Blocks) (l₀ l₁ l₂ l₃ l₄ : List ℕ) → Drawn n r l₀ l₁ (from i (falls L b i ++ past_end b i ++ cases L b i)) → Drawn n r l₁ l₂ (from i (jumps L i))
    → Drawn n r l₂ l₃ (from i (leaves L b i)) → Drawn n r l₃ l₄ (back L b i) → Drawn n r l₀ l₄ (line_edges L b i)
unfolding own
line_drawn n r i L b l₀ l₁ l₂ l₃ l₄ D J W B =
    drawn_both n r l₀ l₃ l₄ (from i (own L b i)) (back L b i)
    (steps_append n r i (falls L b i ++ past_end b i ++ cases L b i ++ jumps L i) (leaves L b i) l₀ l₂ l₃ (steps_append n r i (falls L b i ++ past_end b i ++ cases L b i) (jumps L i) l₀ l₁ l₂ D J) W) B
