-- The scan for comparisons, as rules for `search`.
--   comparison_0 .. comparison_5, comparison_none    the comparison that a text starts with
--   op_width_of                                      how many bytes it has
--   width_four, width_three, width_none              the same by its number
--   logical_yes, logical_no, logical_deep            ` && ` and ` || `
--   counts_here, counts_deep                         a comparison counts at depth 0
--   bracket_open, bracket_close, bracket_other       one byte
--   byte_found, comparison_found, byte_passed, byte_other, found_after, found_within            what stands at a byte, and where to go on
--   text_next, text_end                              the loop over a text
--   count_add, count_all                             the loop that counts a byte
--   token_punct, token_keyword, token_other, token_none    what a token adds, by its kind
--   within_of, grown_of                              bounds, said of the text that a part is
--   scan_next, scan_end                              the loop over the condition's tokens
--   named_long                                       no comparison is empty, nor what it is flipped to
-- Assumes nothing.
use Rattle.std.specs.Option.{option_map}
use Rattle.std.specs.Prelude.{if◌then◌else◌, Option, None, Some}
use mathlib.Core.Path.{◌≡◌, refl, sym, ap, ◌∙◌}
use mathlib.Core.Bool.{Bool, true, false, ◌||◌, not, cond, and-false}
use mathlib.Core.List.{List, [], ◌∷◌}
use Prim.Native.Nat.{ℕ, zero, suc, ◌+◌, ◌-◌, ◌*◌, ◌≤◌, ◌<◌}
use native.Mathlib.Nat.{add-zero, add-suc, suc-add}
use native.Mathlib.Numerals.{add-one}
use native.Mathlib.Decide.{dec_le}
use native.Mathlib.Omega.{arith}
use borrow.Author.Tests.{eq-eqb, ne_eqb, eqb-true}
use lib.Dec.{T, eqb}
use lib.ListN.{length, get_or, drop, length-drop}
use lib.Seq.{drop-drop}
use Rattle.definitions.specs.Lists.{filter, count, find, starts_with, ascii, part}
use Rattle.definitions.specs.Condition.{Comparison, comparisons, Found, Seen, at_depth_0, add_found, see_logical, comparison_at, see_bracket, add_brackets, nothing_seen, scan_text, scan_token, scan}
use Rattle.definitions.specs.Model.{Line, tok}
use Rattle.text.proofs.Parts.{drop_step, drop_end, part_tail}
use Rattle.text.proofs.Texts.{starts_short}
use Rattle.loop_theory.proofs.Cases.{none_some, true_false, if_has}
use Rattle.loop_theory.proofs.Comparisons.{find_passes, comparison_in}
use Rattle.negate.specs.Tests.{test_token, test_from, test_tokens}
use Rattle.negate.specs.Comparisons.{named, comparison_of, numbered, occurs, width, op_width, found_in}
use Rattle.negate.specs.declared.comparison.Comparison.{Comparison as Which}
use Rattle.negate.specs.declared.comparison.Comparison.TheVariants.{Equal, Unequal, AtMost, AtLeast, Less, Greater}
use Rattle.negate.proofs.TestTokens.{test_first, test_past}

T_not : (p : Bool) → T (not p) → p ≡ false
T_not true h = absurd h
T_not false h = refl

-- Which comparison

module _ (s : List ℕ) (a : Bool) (p : a ≡ starts_with (ascii " == ") s) where
  pub comparison_0 : a ≡ true → option_map named (Some Equal) ≡ comparison_of s
  unfolding named comparisons find comparison_of
  comparison_0 f = rw (← p, f)

  module _ (pf : a ≡ false) (b : Bool) (q : b ≡ starts_with (ascii " != ") s) where
    pub comparison_1 : b ≡ true → option_map named (Some Unequal) ≡ comparison_of s
    unfolding named comparisons find comparison_of
    comparison_1 f = rw (← p, pf, ← q, f)

    module _ (qf : b ≡ false) (c : Bool) (r : c ≡ starts_with (ascii " <= ") s) where
      pub comparison_2 : c ≡ true → option_map named (Some AtMost) ≡ comparison_of s
      unfolding named comparisons find comparison_of
      comparison_2 f = rw (← p, pf, ← q, qf, ← r, f)

      module _ (rf : c ≡ false) (d : Bool) (t : d ≡ starts_with (ascii " >= ") s) where
        pub comparison_3 : d ≡ true → option_map named (Some AtLeast) ≡ comparison_of s
        unfolding named comparisons find comparison_of
        comparison_3 f = rw (← p, pf, ← q, qf, ← r, rf, ← t, f)

        module _ (tf : d ≡ false) (e : Bool) (u : e ≡ starts_with (ascii " < ") s) where
          pub comparison_4 : e ≡ true → option_map named (Some Less) ≡ comparison_of s
          unfolding named comparisons find comparison_of
          comparison_4 f = rw (← p, pf, ← q, qf, ← r, rf, ← t, tf, ← u, f)

          module _ (uf : e ≡ false) (g : Bool) (v : g ≡ starts_with (ascii " > ") s) where
            pub comparison_5 : g ≡ true → option_map named (Some Greater) ≡ comparison_of s
            unfolding named comparisons find comparison_of
            comparison_5 f = rw (← p, pf, ← q, qf, ← r, rf, ← t, tf, ← u, uf, ← v, f)

            pub comparison_none : g ≡ false → option_map named None ≡ comparison_of s
            unfolding named comparisons find comparison_of
            comparison_none f = rw (← p, pf, ← q, qf, ← r, rf, ← t, tf, ← u, uf, ← v, f)

pub ruleset whiches = (comparison_0, comparison_1, comparison_2, comparison_3, comparison_4, comparison_5, comparison_none)

pub op_width_of : (w v : Which) (r : ℕ) → w ≡ v → r ≡ op_width v → r ≡ op_width w
op_width_of w v r e f = rw e f

-- by its number
pub width_four : (w : ℕ) → w < 4 → 4 ≡ width w
unfolding width numbered comparisons
width_four zero h = refl
width_four (suc zero) h = refl
width_four (suc (suc zero)) h = refl
width_four (suc (suc (suc zero))) h = refl
width_four (suc (suc (suc (suc w)))) h = absurd (omega arith)

pub width_three : (w : ℕ) → 4 ≤ w → w < 6 → 3 ≡ width w
unfolding width numbered comparisons
width_three zero g h = absurd (omega arith)
width_three (suc zero) g h = absurd (omega arith)
width_three (suc (suc zero)) g h = absurd (omega arith)
width_three (suc (suc (suc zero))) g h = absurd (omega arith)
width_three (suc (suc (suc (suc zero)))) g h = refl
width_three (suc (suc (suc (suc (suc zero))))) g h = refl
width_three (suc (suc (suc (suc (suc (suc w)))))) g h = absurd (omega arith)

pub width_none : (w : ℕ) → 6 ≤ w → 0 ≡ width w
unfolding width numbered comparisons
width_none zero g = absurd (omega arith)
width_none (suc zero) g = absurd (omega arith)
width_none (suc (suc zero)) g = absurd (omega arith)
width_none (suc (suc (suc zero))) g = absurd (omega arith)
width_none (suc (suc (suc (suc zero)))) g = absurd (omega arith)
width_none (suc (suc (suc (suc (suc zero))))) g = absurd (omega arith)
width_none (suc (suc (suc (suc (suc (suc w)))))) g = refl

pub named_long : (w : Which) → (1 ≤ length (named w).op) × (1 ≤ length (named w).flipped)
unfolding named
named_long Equal = (omega arith, omega arith)
named_long Unequal = (omega arith, omega arith)
named_long AtMost = (omega arith, omega arith)
named_long AtLeast = (omega arith, omega arith)
named_long Less = (omega arith, omega arith)
named_long Greater = (omega arith, omega arith)

-- What is seen

module _ (o c n : ℕ) (f : Option Found) (s : List ℕ) where
  abbrev state : Seen
  state = record { opened = o; closed = c; count = n; found = f }

  module _ (e : o ≡ c) where
    module _ (b : Bool) (q : b ≡ (starts_with (ascii " && ") s || starts_with (ascii " || ") s)) where
      pub logical_yes : b ≡ true → record { opened = o; closed = c; count = n + 2; found = f } ≡ see_logical s state
      unfolding see_logical
      logical_yes g = rw (eq-eqb o c e, ← q, g)

      pub logical_no : b ≡ false → state ≡ see_logical s state
      unfolding see_logical
      logical_no g = rw (eq-eqb o c e, ← q, g)

    pub counts_here : (x : Option Comparison) → x ≡ comparison_of s → x ≡ comparison_at s state
    unfolding comparison_of
    counts_here x q = rw (eq-eqb o c e) q

  module _ (e : o ≡ c → ⊥) where
    pub logical_deep : state ≡ see_logical s state
    unfolding see_logical
    logical_deep = rw (ne_eqb o c e)

    pub counts_deep : option_map named None ≡ comparison_at s state
    unfolding named comparisons
    counts_deep = rw (ne_eqb o c e)

pub ruleset logicals = (logical_yes, logical_no, logical_deep)

module _ (o c n : ℕ) (f : Option Found) (b : ℕ) where
  abbrev now : Seen
  now = record { opened = o; closed = c; count = n; found = f }

  pub bracket_open : b ≡ 40 → record { opened = o + 1; closed = c; count = n; found = f } ≡ see_bracket b now
  unfolding see_bracket
  bracket_open e = rw (eq-eqb b 40 e) (ap (λ (k : ℕ). record { opened = o + 1; closed = k; count = n; found = f }) (sym (add-zero c)))

  pub bracket_close : b ≡ 41 → record { opened = o; closed = c + 1; count = n; found = f } ≡ see_bracket b now
  unfolding see_bracket
  bracket_close e = rw e (ap (λ (k : ℕ). record { opened = k; closed = c + 1; count = n; found = f }) (sym (add-zero o)))

  pub bracket_other : (b ≡ 40 → ⊥) → (b ≡ 41 → ⊥) → now ≡ see_bracket b now
  unfolding see_bracket
  bracket_other e g = rw (ne_eqb b 40 e, ne_eqb b 41 g)

pub ruleset brackets = (bracket_open, bracket_close, bracket_other)

-- One byte of a text

skipped : (place pos k : ℕ) (s : List ℕ) (r : Seen) → scan_text place pos k s r ≡ scan_text place (pos + k) 0 (drop k s) r
unfolding scan_text
skipped place pos zero s r = rw (add-zero pos)
skipped place pos (suc k) [] r = refl
skipped place pos (suc k) (c ∷ s) r = skipped place (suc pos) k s r ∙ rw (add-suc pos k, suc-add pos k)

module _ (place pos c : ℕ) (s : List ℕ) (r : Seen) where
  scan_some : (o : Comparison) → comparison_at (c ∷ s) r ≡ Some o
      → scan_text place pos 0 (c ∷ s) r ≡ scan_text place (suc pos) (length o.op - 1) s (add_found (found_in place pos o) (see_logical (c ∷ s) r))
  unfolding scan_text
  scan_some o e = rw (e, scan_text)

  scan_none : comparison_at (c ∷ s) r ≡ None → scan_text place pos 0 (c ∷ s) r ≡ scan_text place (suc pos) 0 s (see_bracket c (see_logical (c ∷ s) r))
  unfolding scan_text
  scan_none e = rw (e, scan_text)

-- Where a comparison stands, no ` && ` or ` || ` does: their second bytes differ
other_second : (b c : ℕ) (p q s : List ℕ) → (b ≡ c → ⊥) → starts_with (32 ∷ (b ∷ p)) s ≡ true → starts_with (32 ∷ (c ∷ q)) s ≡ false
unfolding starts_with
other_second b c p q [] h e = refl
other_second b c p q (x ∷ []) h e = and-false (eqb 32 x)
other_second b c p q (x ∷ (y ∷ s)) h e = go (eqb c y) refl
  where
    go : (k : Bool) → eqb c y ≡ k → starts_with (32 ∷ (c ∷ q)) (x ∷ (y ∷ s)) ≡ false
    go false f = rw (f, and-false (eqb 32 x))
    go true f = true_false e (rw (ne_eqb b y (λ z. h (z ∙ sym (eqb-true c y f))), and-false (eqb 32 x)))

no_logical : (x : Which) (s : List ℕ) → starts_with (named x).op s ≡ true → (starts_with (ascii " && ") s || starts_with (ascii " || ") s) ≡ false
unfolding named
no_logical x s h = go x h
  where
    second : (b : ℕ) (p : List ℕ) → (b ≡ 38 → ⊥) → (b ≡ 124 → ⊥) → starts_with (32 ∷ (b ∷ p)) s ≡ true
        → (starts_with (ascii " && ") s || starts_with (ascii " || ") s) ≡ false
    second b p u v e = rw (other_second b 38 p (38 ∷ (32 ∷ [])) s u e, other_second b 124 p (124 ∷ (32 ∷ [])) s v e)

    go : (x : Which) → starts_with (named x).op s ≡ true → (starts_with (ascii " && ") s || starts_with (ascii " || ") s) ≡ false
    go Equal e = second 61 (61 ∷ (32 ∷ [])) (λ z. omega arith) (λ z. omega arith) e
    go Unequal e = second 33 (61 ∷ (32 ∷ [])) (λ z. omega arith) (λ z. omega arith) e
    go AtMost e = second 60 (61 ∷ (32 ∷ [])) (λ z. omega arith) (λ z. omega arith) e
    go AtLeast e = second 62 (61 ∷ (32 ∷ [])) (λ z. omega arith) (λ z. omega arith) e
    go Less e = second 60 (32 ∷ []) (λ z. omega arith) (λ z. omega arith) e
    go Greater e = second 62 (32 ∷ []) (λ z. omega arith) (λ z. omega arith) e

module _ (s : List ℕ) (i : ℕ) (h : i < length s) (rest : List ℕ) (e : rest ≡ part i (length s) s) (r n : Seen) (w : Option Which)
    (c : option_map named w ≡ comparison_at rest r) where
  here : rest ≡ get_or s i 0 ∷ drop (i + 1) s
  here = e ∙ part_tail s i ∙ drop_step 0 s i h

  module _ (x : Which) (is : w ≡ Some x) where
    abbrev o : Comparison
    o = named x

    there : comparison_at rest r ≡ Some o
    there = sym c ∙ ap (option_map named) is

    starts : starts_with o.op rest ≡ true
    starts =
        let found : comparison_in rest ≡ Some o =
        if_has (λ x. x ≡ Some o → comparison_in rest ≡ Some o) (at_depth_0 r) (λ _ q. q) (λ _ q. none_some q) there in
        find_passes (λ (k : Comparison). starts_with k.op rest) comparisons o found

    within : (v : ℕ) → v ≡ op_width x → (i < i + v) × (i + v ≤ length s)
    within v q =
        let long : length rest ≡ length s - i = ap length (e ∙ part_tail s i) ∙ length-drop i s in
        go o.op starts (named_long x).0 q long
      where
        go : (p : List ℕ) → starts_with p rest ≡ true → 1 ≤ length p → v ≡ length p → length rest ≡ length s - i → (i < i + v) × (i + v ≤ length s)
        go p starts one q long = by (dec_le (length p) (length rest))
          where
            by : Dec (length p ≤ length rest) → (i < i + v) × (i + v ≤ length s)
            by (yes g) = (omega arith, omega arith)
            by (no g) = true_false starts (starts_short p rest (omega arith))

    pub found_after : (v : ℕ) → v ≡ op_width x → i < i + v
    found_after v q = (within v q).0

    pub found_within : (v : ℕ) → v ≡ op_width x → i + v ≤ length s
    found_within v q = (within v q).1

    module _ (place : ℕ) where
      pub byte_found : n ≡ see_logical rest r → (v : ℕ) → v ≡ op_width x
          → scan_text place i 0 (drop i s) r
          ≡ scan_text place (i + v) 0 (drop (i + v) s) (record { opened = n.opened; closed = n.closed; count = n.count + 1; found = Some (found_in place i (named x)) })
      byte_found g v q =
          let long = (named_long x).0 in
          let m = length o.op - 1 in
          let at : comparison_at (get_or s i 0 ∷ drop (i + 1) s) r ≡ Some o = ap (λ (x : List ℕ). comparison_at x r) (sym here) ∙ there in
          let a : suc i + m ≡ i + v = omega (arith, q, long) in
          let b : i + 1 + m ≡ i + v = omega (arith, q, long) in
          ap (λ (x : List ℕ). scan_text place i 0 x r) (drop_step 0 s i h)
          ∙ (scan_some place i (get_or s i 0) (drop (i + 1) s) r o at
          ∙ (skipped place (suc i) m (drop (i + 1) s) (add_found (found_in place i o) (see_logical (get_or s i 0 ∷ drop (i + 1) s) r))
          ∙ rw (drop-drop m (i + 1) s, a, b, g, here)))

  module _ (is : w ≡ None) (place : ℕ) where
    pub byte_passed : n ≡ see_logical rest r → (m : Seen) → m ≡ see_bracket (get_or s i 0) n → scan_text place i 0 (drop i s) r ≡ scan_text place (i + 1) 0 (drop (i + 1) s) m
    byte_passed g m q =
        let at : comparison_at (get_or s i 0 ∷ drop (i + 1) s) r ≡ None = ap (λ (x : List ℕ). comparison_at x r) (sym here) ∙ sym c ∙ ap (option_map named) is in
        ap (λ (x : List ℕ). scan_text place i 0 x r) (drop_step 0 s i h)
        ∙ (scan_none place i (get_or s i 0) (drop (i + 1) s) r at ∙ rw (q, g, here, add-one i))

module _ (s : List ℕ) (i : ℕ) (h : i < length s) (rest : List ℕ) (e : rest ≡ part i (length s) s) (r : Seen) (w : Option Which)
    (c : option_map named w ≡ comparison_at rest r) (x : Which) (is : w ≡ Some x) (place : ℕ) where
  pub comparison_found : (v : ℕ) → v ≡ op_width x
      → scan_text place i 0 (drop i s) r
      ≡ scan_text place (i + v) 0 (drop (i + v) s) (record { opened = r.opened; closed = r.closed; count = r.count + 1; found = Some (found_in place i (named x)) })
  unfolding see_logical
  comparison_found =
      let g : r ≡ see_logical rest r = rw (no_logical x rest (starts s i h rest e r r w c x is), and-false (at_depth_0 r)) in
      byte_found s i h rest e r r w c x is place g

-- A byte that is no blank: no comparison starts there, nor ` && ` or ` || `
module _ (c : ℕ) (t : List ℕ) (r : Seen) (h : c ≡ 32 → ⊥) where
  no_blank : eqb 32 c ≡ false
  no_blank = ne_eqb 32 c (λ e. h (sym e))

  none_found : find (λ k. starts_with k.op (c ∷ t)) comparisons ≡ None
  unfolding comparisons find starts_with
  none_found = rw no_blank

  none_at : comparison_at (c ∷ t) r ≡ None
  none_at = if_has (λ (x : Option Comparison). x ≡ None) (at_depth_0 r) (λ _. none_found) (λ _. refl)

  none_logical : see_logical (c ∷ t) r ≡ r
  unfolding see_logical starts_with
  none_logical = rw (no_blank, and-false (at_depth_0 r))

pub byte_other : (s : List ℕ) (i place : ℕ) (r m : Seen) → i < length s → (get_or s i 0 ≡ 32 → ⊥) → m ≡ see_bracket (get_or s i 0) r
    → scan_text place i 0 (drop i s) r ≡ scan_text place (i + 1) 0 (drop (i + 1) s) m
byte_other s i place r m h b q =
    let c = get_or s i 0 in
    let t = drop (i + 1) s in
    ap (λ (x : List ℕ). scan_text place i 0 x r) (drop_step 0 s i h) ∙ (scan_none place i c t r (none_at c t r b) ∙ rw (q, none_logical c t r b, add-one i))

-- A text

module _ (place : ℕ) (s : List ℕ) (a : Seen) (i : ℕ) (r : Seen) (inv : scan_text place 0 0 s a ≡ scan_text place i 0 (drop i s) r) where
  pub text_next : (j : ℕ) (n : Seen) → scan_text place i 0 (drop i s) r ≡ scan_text place j 0 (drop j s) n
      → scan_text place 0 0 s a ≡ scan_text place j 0 (drop j s) n
  text_next j n e = inv ∙ e

  pub text_end : length s ≤ i → r ≡ scan_text place 0 0 s a
  unfolding scan_text
  text_end h = sym (inv ∙ rw (drop_end s i h))

pub ruleset texts = (text_next, text_end)

-- A byte counted

module _ (b : ℕ) (s : List ℕ) where
  module _ (k n : ℕ) (inv : occurs b s ≡ n + occurs b (drop k s)) where
    pub count_add : (d : ℕ) → d ≡ (if eqb b (get_or s k 0) then 1 else 0) → k < length s → occurs b s ≡ n + d + occurs b (drop (k + 1) s)
    unfolding occurs filter
    count_add d e h = inv ∙ rw (drop_step 0 s k h, e) (go (eqb b (get_or s k 0)))
      where
        go : (x : Bool) → n + length (cond x (get_or s k 0 ∷ filter (eqb b) (drop (k + 1) s)) (filter (eqb b) (drop (k + 1) s)))
            ≡ n + cond x 1 0 + count (eqb b) (drop (k + 1) s)
        go true = omega arith
        go false = omega arith

    pub count_all : length s ≤ k → n ≡ occurs b s
    unfolding occurs filter
    count_all h = let z : count (eqb b) s ≡ n + 0 = inv ∙ rw (drop_end s k h) in omega arith

-- A token, by its kind

module _ (k a p : ℕ) (e : k ≡ a) (s : List ℕ) (r : Seen) where
  pub token_punct : (n : Seen) (u : List ℕ) → k ≡ 6 → n ≡ scan_text p 0 0 u r → u ≡ s → n ≡ scan_token p (tok s a) r
  unfolding scan_token
  token_punct n u f g q = rw (← e, eq-eqb k 6 f, ← q) g

  pub token_keyword : (n : Seen) (u : List ℕ) → k ≡ 3 → n ≡ add_brackets (occurs 40 u) (occurs 41 u) r → u ≡ s → n ≡ scan_token p (tok s a) r
  unfolding scan_token occurs
  token_keyword n u f g q = rw (← e, f, ← q) g

  pub token_other : (m : ℕ) → k ≡ m → T (not (eqb m 6)) → T (not (eqb m 3)) → r ≡ scan_token p (tok s a) r
  unfolding scan_token
  token_other m f g h = rw (← e, f, T_not (eqb m 6) g, T_not (eqb m 3) h)

  pub token_none : (k ≡ 3 → ⊥) → (k ≡ 6 → ⊥) → r ≡ scan_token p (tok s a) r
  unfolding scan_token
  token_none f g = rw (← e, ne_eqb k 6 g, ne_eqb k 3 f)

-- bounds that name a part, said of the text that the part is
module _ (m n : ℕ) (s t : List ℕ) (q : s ≡ t) where
  pub within_of : m + 3 * length t ≤ n → m + 3 * length s ≤ n
  within_of h = rw q h

  pub grown_of : n ≤ m + 3 * length s → n ≤ m + 3 * length t
  grown_of h = rw (← q) h

pub ruleset tokens = (token_punct, token_keyword, token_other, token_none, within_of, grown_of)

-- The condition's tokens

module _ (l : Line) (m k : ℕ) (r : Seen) (inv : scan 0 (test_tokens l m) nothing_seen ≡ scan k (test_from l m k) r) where
  pub scan_next : (n : Seen) → n ≡ scan_token k (test_token l m k) r → k < m → scan 0 (test_tokens l m) nothing_seen ≡ scan (k + 1) (test_from l m (k + 1)) n
  unfolding scan
  scan_next n e h = inv ∙ rw (test_first l m k h, e, add-one k)

  pub scan_end : m ≤ k → r ≡ scan 0 (test_tokens l m) nothing_seen
  unfolding scan
  scan_end h = sym (inv ∙ rw (test_past l m k h))

pub ruleset scans = (scan_next, scan_end)
