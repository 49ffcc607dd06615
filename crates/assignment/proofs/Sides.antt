-- The right side of an assignment: the run of tokens that the code answers is the list that `assignment` gives.
--   side_none, side_first, side_last, length_side    a run of tokens of the right side
--   assignment_none, assignment_open, assignment_empty    no assignment
--   assignment_is                                    the assignment, by where its right side starts and ends
-- Assumes nothing.
use Rattle.std.specs.Prelude.{None, Some}
use mathlib.Core.Path.{◌≡◌, refl, sym, ap, ◌∙◌}
use mathlib.Core.Bool.{Bool, true, false, ◌&&◌, cond, false≢true}
use mathlib.Core.List.{List, [], ◌∷◌, ◌++◌, map, append-nil, append_assoc}
use Prim.Native.Nat.{ℕ, zero, suc, ◌+◌, ◌-◌, ◌≤◌, ◌<◌}
use native.Mathlib.Nat.{add-zero, sub-zero, add-suc, suc-add}
use native.Mathlib.Numerals.{add-one}
use native.Mathlib.Decide.{dec_lt}
use native.Mathlib.Omega.{arith}
use borrow.Author.Tests.{eq-eqb, ne_eqb, le-leb, lt-leb, leb-true, eqb-true}
use lib.Dec.{eqb, leb}
use lib.ListN.{length, take, drop, length-append, length-drop, length-map, drop_of_length-le}
use lib.Seq.{take_all, take_at, drop-cons, drop-drop}
use Rattle.definitions.specs.Lists.{◌>>=◌, require, last, part, range, ◌≟◌, starts_with, ends_with, ascii}
use Rattle.definitions.specs.Model.{Token, Line, tok, token, no_token, Punct, Register}
use Rattle.definitions.specs.Statements.{is_empty, unless_empty, without_semicolon, assignment}
use Rattle.text.proofs.Parts.{part_join, part_tail, part_step, part_none}
use Rattle.text.proofs.Texts.{≟_eq, starts_part}
use Rattle.model.proofs.Ands.{both}
use Rattle.assignment.specs.Assignments.{expr_token, side, expr_from, expr_to, assigns, is_closed}

-- Runs

map_snoc : {A B : Type 0} (f : A → B) (xs : List A) (x : A) → map f (xs ++ (x ∷ [])) ≡ map f xs ++ (f x ∷ [])
map_snoc f [] x = refl
map_snoc f (y ∷ xs) x = rw (map_snoc f xs x)

range_snoc : (a m : ℕ) → range a (suc m) ≡ range a m ++ ((a + m) ∷ [])
unfolding range
range_snoc a zero = rw (add-zero a)
range_snoc a (suc m) = rw (add-suc a m, ← suc-add a m) (ap (λ (ks : List ℕ). a ∷ ks) (range_snoc (suc a) m))

length_range : (a m : ℕ) → length (range a m) ≡ m
unfolding range
length_range a zero = refl
length_range a (suc m) = ap suc (length_range (suc a) m)

module _ (l : Line) where
  pub side_none : (a e : ℕ) → e ≤ a → side l a e ≡ []
  unfolding side range
  side_none a e h = let z : e - a ≡ 0 = omega arith in rw z

  pub side_first : (a e : ℕ) → a < e → side l a e ≡ expr_token l a ∷ side l (a + 1) e
  unfolding side range
  side_first a e h = let z : e - a ≡ suc (e - (a + 1)) = omega arith in rw (z, add-one)

  pub side_last : (a e : ℕ) → a ≤ e → side l a (e + 1) ≡ side l a e ++ (expr_token l e ∷ [])
  unfolding side
  side_last a e h =
      let z : e + 1 - a ≡ suc (e - a) = omega arith in
      let y : a + (e - a) ≡ e = omega arith in
      rw (z, range_snoc a (e - a), map_snoc (expr_token l) (range a (e - a)) (a + (e - a)), y)

  pub length_side : (a e : ℕ) → length (side l a e) ≡ e - a
  unfolding side
  length_side a e = rw (length-map, length_range)

  -- a token that is neither the second nor the last is whole
  whole : (k : ℕ) → 2 ≤ k → k + 1 < length l.tokens → expr_token l k ≡ token l k
  unfolding expr_token
  whole k h g =
      rw (ne_eqb k 1 (λ e. omega arith), ne_eqb (k + 1) (length l.tokens) (λ e. omega arith))
      (ap (λ (s : List ℕ). tok s (token l k).kind) (take_all (length (token l k).text - 0 - 0) (token l k).text (omega arith)))

  middle : (m a : ℕ) → 2 ≤ a → a + m < length l.tokens → map (expr_token l) (range a m) ≡ take m (drop a l.tokens)
  unfolding range
  middle zero a h g = refl
  middle (suc m) a h g =
      let i : a < length l.tokens = omega arith in
      rw (whole a h (omega arith), middle m (suc a) (omega arith) (omega arith), drop-cons l.tokens a no_token i)

  side_middle : (a e : ℕ) → 2 ≤ a → a ≤ e → e < length l.tokens → side l a e ≡ part a e l.tokens
  unfolding side
  side_middle a e h k g = middle (e - a) a h (omega arith)

-- The list that `assignment` cuts the `;` off

last_snoc : (xs : List Token) (z : Token) → last (xs ++ (z ∷ [])) ≡ Some z
unfolding last
last_snoc [] z = refl
last_snoc (x ∷ []) z = refl
last_snoc (x ∷ (y ∷ xs)) z = last_snoc (y ∷ xs) z

cut_semicolon : Token → Token
cut_semicolon z = tok (take (length z.text - 1) z.text) z.kind

without_snoc : (xs : List Token) (z : Token) → ends_with (ascii ";") z.text ≡ true
    → without_semicolon (xs ++ (z ∷ [])) ≡ Some (xs ++ unless_empty (cut_semicolon z))
unfolding without_semicolon cut_semicolon
without_snoc xs z e =
    let n : length (xs ++ (z ∷ [])) ≡ length xs + 1 = length-append xs (z ∷ []) in
    let k : length xs ≡ length (xs ++ (z ∷ [])) - 1 = omega arith in
    rw (last_snoc xs z, e, take_at xs (z ∷ []) (length (xs ++ (z ∷ [])) - 1) k)

without_open : (xs : List Token) (z : Token) → ends_with (ascii ";") z.text ≡ false → without_semicolon (xs ++ (z ∷ [])) ≡ None
unfolding without_semicolon
without_open xs z e = rw (last_snoc xs z, e)

module _ (l : Line) where
  abbrev count : ℕ
  count = length l.tokens

  -- what the right side is before its `;` is cut off
  whole_side : List Token
  whole_side = unless_empty (tok (drop 3 (token l 1).text) Punct) ++ drop 2 l.tokens

  whole_long : 2 < count → whole_side ≡ (unless_empty (tok (drop 3 (token l 1).text) Punct) ++ side l 2 (count - 1)) ++ (token l (count - 1) ∷ [])
  unfolding whole_side
  whole_long h =
      let z : count - 1 + 1 ≡ count = omega arith in
      let e : drop 2 l.tokens ≡ part 2 (count - 1) l.tokens ++ (token l (count - 1) ∷ []) =
      sym (part_tail l.tokens 2) ∙ sym (part_join l.tokens 2 (count - 1) count (omega arith) (omega arith))
      ∙ rw (part_step no_token l.tokens (count - 1) count (omega arith) (omega arith), z, part_none l.tokens count count (omega arith)) in
      rw (e, side_middle l 2 (count - 1) (omega arith) (omega arith) (omega arith))
      (sym (append_assoc (unless_empty (tok (drop 3 (token l 1).text) Punct)) (part 2 (count - 1) l.tokens) (token l (count - 1) ∷ [])))

  -- the two tokens that lose bytes
  first_long : 2 < count → (token l 1).kind ≡ Punct → tok (drop 3 (token l 1).text) Punct ≡ expr_token l 1
  unfolding expr_token
  first_long h e = rw (ne_eqb 2 count (λ q. omega arith), sub-zero (length (token l 1).text), part_tail (token l 1).text 3, e)

  last_long : 2 < count → cut_semicolon (token l (count - 1)) ≡ expr_token l (count - 1)
  unfolding expr_token cut_semicolon
  last_long h =
      rw (ne_eqb (count - 1) 1 (λ q. omega arith), eq-eqb (count - 1 + 1) count (omega arith), sub-zero (length (token l (count - 1)).text - 1))

  first_short : count ≡ 2 → (token l 1).kind ≡ Punct → cut_semicolon (tok (drop 3 (token l 1).text) Punct) ≡ expr_token l 1
  unfolding expr_token cut_semicolon
  first_short h e =
      let z : length (token l 1).text - 3 - 1 ≡ length (token l 1).text - 1 - 3 = omega arith in
      rw (h, length-drop 3 (token l 1).text, z, e)

  -- the run of tokens, by whether those two are empty
  trimmed_long : 2 < count
      → (unless_empty (expr_token l 1) ++ side l 2 (count - 1)) ++ unless_empty (expr_token l (count - 1)) ≡ side l (expr_from l) (expr_to l)
  unfolding expr_from expr_to
  trimmed_long h = go (is_empty (expr_token l 1)) (is_empty (expr_token l (count - 1)))
    where
      from : (p : Bool) → cond p [] (expr_token l 1 ∷ []) ++ side l 2 (count - 1) ≡ side l (cond p 2 1) (count - 1)
      from true = refl
      from false = sym (side_first l 1 (count - 1) (omega arith))

      within : (p : Bool) → cond p 2 1 ≤ count - 1
      within true = omega arith
      within false = omega arith

      go : (p q : Bool) → (cond p [] (expr_token l 1 ∷ []) ++ side l 2 (count - 1)) ++ cond q [] (expr_token l (count - 1) ∷ [])
          ≡ side l (cond p 2 1) (cond q (count - 1) count)
      go p true = append-nil (cond p [] (expr_token l 1 ∷ []) ++ side l 2 (count - 1)) ∙ from p
      go p false =
          let z : count - 1 + 1 ≡ count = omega arith in
          rw (from p) (sym (side_last l (cond p 2 1) (count - 1) (within p)) ∙ rw z)

  trimmed_short : count ≡ 2 → unless_empty (expr_token l 1) ≡ side l (expr_from l) (expr_to l)
  unfolding expr_from expr_to
  trimmed_short h = rw h (go (is_empty (expr_token l 1)))
    where
      go : (p : Bool) → cond p [] (expr_token l 1 ∷ []) ≡ side l (cond p 2 1) (cond p 1 2)
      go true = sym (side_none l 2 1 (omega arith))
      go false = sym (side_first l 1 2 (omega arith) ∙ rw (side_none l 2 2 (omega arith)))

-- A text that starts with ` = `

module _ (s : List ℕ) where
  ends_drop : 3 < length s → ends_with (ascii ";") (drop 3 s) ≡ ends_with (ascii ";") s
  ends_drop h =
      let z : 3 + (length s - 3 - 1) ≡ length s - 1 = omega arith in
      rw (length-drop 3 s, le-leb 1 (length s - 3) (omega arith), le-leb 1 (length s) (omega arith), drop-drop (length s - 3 - 1) 3 s, z)

  only_equals : starts_with (ascii " = ") s ≡ true → length s ≤ 3 → s ≡ ascii " = "
  only_equals e h =
      let t : take 3 s ≡ s = take_all 3 s h in
      ≟_eq s (ascii " = ") (ap (λ (u : List ℕ). u ≟ ascii " = ") (sym t) ∙ sym (starts_part (ascii " = ") s) ∙ e)

nonempty : (s : List ℕ) → 0 < length s → (s ≟ []) ≡ false
unfolding ◌≟◌
nonempty [] h = absurd (omega arith)
nonempty (b ∷ s) h = refl

-- Both lengths together

module _ (l : Line) (start : assigns l ≡ true) where
  guards : (2 ≤ length l.tokens) × ((token l 1).kind ≡ Punct) × (starts_with (ascii " = ") (token l 1).text ≡ true)
  unfolding assigns
  guards =
      let p = both (leb 2 (length l.tokens))
      (eqb (token l 0).kind Register && eqb (token l 1).kind Punct && starts_with (ascii " = ") (token l 1).text) start in
      let q = both (eqb (token l 0).kind Register && eqb (token l 1).kind Punct) (starts_with (ascii " = ") (token l 1).text) p.1 in
      let r = both (eqb (token l 0).kind Register) (eqb (token l 1).kind Punct) q.0 in
      (leb-true 2 (length l.tokens) p.0, eqb-true (token l 1).kind Punct r.1, q.1)

  -- two tokens: the second has more than its ` = ` if it ends with `;`
  short_side : length l.tokens ≡ 2 → 3 < length (token l 1).text → whole_side l ≡ [] ++ (tok (drop 3 (token l 1).text) Punct ∷ [])
  unfolding whole_side
  short_side h k =
      let g : length l.tokens ≤ 2 = omega arith in
      rw (nonempty (drop 3 (token l 1).text) (rw length-drop (omega arith)), drop_of_length-le l.tokens g)

  long_side : 2 < length l.tokens
      → whole_side l ≡ (unless_empty (expr_token l 1) ++ side l 2 (length l.tokens - 1)) ++ (token l (length l.tokens - 1) ∷ [])
  long_side h =
      whole_long l h
      ∙ ap (λ (t : Token). (unless_empty t ++ side l 2 (length l.tokens - 1)) ++ (token l (length l.tokens - 1) ∷ [])) (first_long l h guards.1)

  -- a second token that has no more than its ` = `
  bare : length (token l 1).text ≤ 3 → (token l 1).text ≡ ascii " = "
  bare h = only_equals (token l 1).text guards.2 h

  bare_side : length l.tokens ≡ 2 → length (token l 1).text ≤ 3 → whole_side l ≡ []
  unfolding whole_side ◌≟◌
  bare_side h k =
      let g : length l.tokens ≤ 2 = omega arith in
      rw (bare k, drop_of_length-le l.tokens g)

  side_closed : is_closed l ≡ true → without_semicolon (whole_side l) ≡ Some (side l (expr_from l) (expr_to l))
  unfolding is_closed
  side_closed c = go (dec_lt 2 (length l.tokens))
    where
      short : length l.tokens ≡ 2 → Dec (3 < length (token l 1).text) → without_semicolon (whole_side l) ≡ Some (side l (expr_from l) (expr_to l))
      short z (yes k) =
          let e : ends_with (ascii ";") (drop 3 (token l 1).text) ≡ true = ends_drop (token l 1).text k ∙ (rw z at c) in
          rw (short_side z k)
          (without_snoc [] (tok (drop 3 (token l 1).text) Punct) e ∙ ap Some (ap unless_empty (first_short l z guards.1) ∙ trimmed_short l z))
      short z (no k) = absurd (false≢true (unfold ◌≟◌ in rw (z, bare (omega arith)) at c))

      go : Dec (2 < length l.tokens) → without_semicolon (whole_side l) ≡ Some (side l (expr_from l) (expr_to l))
      go (yes h) =
          rw (long_side h)
          (without_snoc (unless_empty (expr_token l 1) ++ side l 2 (length l.tokens - 1)) (token l (length l.tokens - 1)) c
          ∙ ap Some (ap (λ (t : Token). (unless_empty (expr_token l 1) ++ side l 2 (length l.tokens - 1)) ++ unless_empty t) (last_long l h) ∙ trimmed_long l h))
      go (no h) = short (omega (arith, guards.0)) (dec_lt 3 (length (token l 1).text))

  side_open : is_closed l ≡ false → without_semicolon (whole_side l) ≡ None
  unfolding is_closed
  side_open c = go (dec_lt 2 (length l.tokens))
    where
      short : length l.tokens ≡ 2 → Dec (3 < length (token l 1).text) → without_semicolon (whole_side l) ≡ None
      short z (yes k) =
          let e : ends_with (ascii ";") (drop 3 (token l 1).text) ≡ false = ends_drop (token l 1).text k ∙ (rw z at c) in
          rw (short_side z k) (without_open [] (tok (drop 3 (token l 1).text) Punct) e)
      short z (no k) = rw (bare_side z (omega arith)) (unfold without_semicolon last in refl)

      go : Dec (2 < length l.tokens) → without_semicolon (whole_side l) ≡ None
      go (yes h) = rw (long_side h) (without_open (unless_empty (expr_token l 1) ++ side l 2 (length l.tokens - 1)) (token l (length l.tokens - 1)) c)
      go (no h) = short (omega (arith, guards.0)) (dec_lt 3 (length (token l 1).text))

  assignment_step : assignment l
      ≡ (without_semicolon (whole_side l) >>= λ expr. require (leb 1 (length expr)) >>= λ _. Some (record { lhs = token l 0; expr = expr }))
  unfolding assignment whole_side assigns
  assignment_step =
      let p = both (leb 2 (length l.tokens))
      (eqb (token l 0).kind Register && eqb (token l 1).kind Punct && starts_with (ascii " = ") (token l 1).text) start in
      rw (p.0, p.1)

  pub assignment_open : is_closed l ≡ false → None ≡ assignment l
  assignment_open c = sym (assignment_step ∙ rw (side_open c))

  module _ (c : is_closed l ≡ true) where
    pub assignment_is : expr_from l < expr_to l → Some (record { lhs = token l 0; expr = side l (expr_from l) (expr_to l) }) ≡ assignment l
    assignment_is h =
        sym (assignment_step ∙ rw (side_closed c, length_side l (expr_from l) (expr_to l), le-leb 1 (expr_to l - expr_from l) (omega arith)))

    pub assignment_empty : expr_to l ≤ expr_from l → None ≡ assignment l
    assignment_empty h =
        sym (assignment_step ∙ rw (side_closed c, length_side l (expr_from l) (expr_to l), lt-leb 1 (expr_to l - expr_from l) (omega arith)))

pub assignment_none : (l : Line) → assigns l ≡ false → None ≡ assignment l
unfolding assignment assigns
assignment_none l h = go (leb 2 (length l.tokens)) refl
  where
    rest : Bool
    rest = eqb (token l 0).kind Register && eqb (token l 1).kind Punct && starts_with (ascii " = ") (token l 1).text

    go : (b : Bool) → leb 2 (length l.tokens) ≡ b → None ≡ assignment l
    go false e = rw e
    go true e = let f : rest ≡ false = rw e at h in rw (e, f)
