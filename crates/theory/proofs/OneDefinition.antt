-- The sweeps seen from one definition d: a function says of each line whether d leaves it. Over any predecessor lists.
--   enters preds                     the edges that the predecessor lists say
--   enters_inside, reaches_inside    they lead to lines that have such a list
--   comes f i, leaves f i            d comes to line i, leaves line i, where f says which lines it leaves
--   visit f i                        f after line i is worked out anew
--   lines k f                        f after the lines below k, in order
--   swept t                          the lines that d leaves after t sweeps
--   swept_sound                      d leaves only lines where it holds
--   swept_stops                      after as many sweeps as there are lines a sweep changes nothing
--   comes_iff                        where a sweep changes nothing, d comes to a line exactly if it reaches it
-- Assumes nothing.
use Prim.Native.Nat.{ℕ, zero, suc, ◌<◌, ◌≤◌}
use mathlib.Core.Path.{◌≡◌, refl, sym, ap, ◌∙◌, fun_ext}
use mathlib.Core.Logic.{◌⊎◌, inl, inr, ◌↔◌}
use mathlib.Core.Bool.{Bool, true, false, cond, ◌&&◌, ◌||◌, or-false, false≢true}
use mathlib.Core.List.{List, []}
use native.Mathlib.Omega.{arith}
use lib.Dec.{eqb, eqb-suc-zero}
use borrow.Author.Tests.{eqb-true, eq-eqb, ne_eqb}
use lib.ListN.{length, get_or, get_or-eq_default}
use Rattle.definitions.specs.Lists.{any, count, up_to, member}
use Rattle.definitions.specs.Reaching.{is_definition, Reaches, start, further}
use Rattle.theory.proofs.Bools.{decided, clash, same_test, and_both, and_split, or_left, lt_or_ge, eq_or_lt}
use Rattle.theory.proofs.ListLaws.{any_found, any_here, count_lt, count_all, range_member, length_range}
use Rattle.theory.proofs.Paths.{line_definition, Holds, extend, reaches_definition}

-- the edges that the predecessor lists say
abbrev pub enters : List (List ℕ) → ℕ → ℕ → Bool
enters preds i j = member i (get_or preds j [])

-- an edge enters only a line that has a predecessor list
pub enters_inside : (preds : List (List ℕ)) (i j : ℕ) → enters preds i j ≡ true → j < length preds
unfolding any
enters_inside preds i j e = elim (lt_or_ge j (length preds)) [
  | inl h ↦ h
  | inr h ↦ absurd (false≢true (rw (get_or-eq_default preds [] h) at e))
]

pub reaches_inside : (preds : List (List ℕ)) (defines : ℕ → Bool) {d i : ℕ} → Reaches (enters preds) defines d i → i < length preds
reaches_inside preds defines (start {j = j} s e p) = enters_inside preds _ j e
reaches_inside preds defines (further {i = i} {j = j} r δ e p) = enters_inside preds i j e

module _ (preds : List (List ℕ)) (defines : ℕ → Bool) (d : ℕ) where
  abbrev pub comes : (ℕ → Bool) → ℕ → Bool
  comes f zero = eqb d 0
  comes f (suc i) = is_definition defines d && any f (get_or preds (suc i) [])

  abbrev pub leaves : (ℕ → Bool) → ℕ → Bool
  leaves f i = cond (defines i) (eqb d i) (comes f i)

  abbrev pub visit : (ℕ → Bool) → ℕ → ℕ → Bool
  visit f i j = cond (eqb i j) (leaves f i) (f j)

  abbrev pub lines : ℕ → (ℕ → Bool) → ℕ → Bool
  lines zero f = f
  lines (suc k) f = visit (lines k f) k

  abbrev pub swept : ℕ → ℕ → Bool
  swept zero = λ j. false
  swept (suc t) = lines (length preds) (swept t)

  -- One sweep, line by line

  lines_before : (k j : ℕ) (f : ℕ → Bool) → k ≤ j → lines k f j ≡ f j
  lines_before zero j f h = refl
  lines_before (suc k) j f h = rw (ne_eqb k j (omega arith)) (lines_before k j f (omega arith))

  lines_done : (m j : ℕ) (f : ℕ → Bool) → j < m → lines m f j ≡ leaves (lines j f) j
  lines_done zero j f h = absurd (omega arith)
  lines_done (suc m) j f h = elim (eq_or_lt h) [
    | inl q ↦ rw (q, eq-eqb m m refl)
    | inr q ↦ rw (ne_eqb m j (omega arith)) (lines_done m j f q)
  ]

  -- Sound: d leaves only lines where it holds

  abbrev Sound : (ℕ → Bool) → Type 0
  Sound f = (j : ℕ) → f j ≡ true → Holds (enters preds) defines d j

  comes_sound : (f : ℕ → Bool) → Sound f → (i : ℕ) → 0 < i → comes f i ≡ true → Reaches (enters preds) defines d i
  comes_sound f s zero p e = absurd (omega arith)
  comes_sound f s (suc i) p e =
      let r = any_found f (get_or preds (suc i) []) (and_split (is_definition defines d) (any f (get_or preds (suc i) [])) e).1 in
      extend (enters preds) defines (s r.0 r.2) r.1 p

  leaves_sound : (f : ℕ → Bool) → Sound f → (i : ℕ) → leaves f i ≡ true → Holds (enters preds) defines d i
  leaves_sound f s i e = go (defines i) refl e
    where
      entry_or : (i : ℕ) → defines i ≡ false → comes f i ≡ true → Holds (enters preds) defines d i
      entry_or zero δ e = inl (eqb-true d 0 e, or_left (eqb d 0) (defines d) e)
      entry_or (suc i) δ e = inr (comes_sound f s (suc i) (omega arith) e, δ)

      go : (b : Bool) → defines i ≡ b → cond b (eqb d i) (comes f i) ≡ true → Holds (enters preds) defines d i
      go true δ e = let q = eqb-true d i e in inl (q, line_definition defines d (rw q δ))
      go false δ e = entry_or i δ e

  lines_sound : (k : ℕ) (f : ℕ → Bool) → Sound f → Sound (lines k f)
  lines_sound zero f s j e = s j e
  lines_sound (suc k) f s j e = go (eqb k j) refl e (lines_sound k f s)
    where
      go : (b : Bool) → eqb k j ≡ b → cond b (leaves (lines k f) k) (lines k f j) ≡ true → Sound (lines k f)
          → Holds (enters preds) defines d j
      go true q e s = rw (← (eqb-true k j q)) (leaves_sound (lines k f) s k e)
      go false q e s = s j e

  pub swept_sound : (t : ℕ) → Sound (swept t)
  swept_sound zero j e = absurd (false≢true e)
  swept_sound (suc t) j e = lines_sound (length preds) (swept t) (swept_sound t) j e

  -- Complete: where a sweep changes nothing, d leaves every line where it holds

  module _ (f : ℕ → Bool) (still : lines (length preds) f ≡ f) where
    lines_still : (k j : ℕ) → k ≤ length preds → lines k f j ≡ f j
    lines_still k j h = elim (lt_or_ge j k) [
      | inl q ↦ lines_done k j f q ∙ sym (lines_done (length preds) j f (omega arith)) ∙ ap (λ (g : ℕ → Bool). g j) still
      | inr q ↦ lines_before k j f q
    ]

    still_leaves : (i : ℕ) → i < length preds → f i ≡ leaves f i
    still_leaves i h =
        sym (ap (λ (g : ℕ → Bool). g i) still) ∙ lines_done (length preds) i f h
        ∙ ap (λ (g : ℕ → Bool). leaves g i) (fun_ext (λ j. lines_still i j (omega arith)))

    own_line : d < length preds → is_definition defines d ≡ true → f d ≡ true
    own_line h s = still_leaves d h ∙ go d (defines d) refl s
      where
        go : (i : ℕ) (b : Bool) → d ≡ i → (eqb i 0 || b) ≡ true → cond b (eqb d i) (comes f i) ≡ true
        go i true q s = eq-eqb d i q
        go zero false q s = eq-eqb d 0 q
        go (suc i) false q s = clash (sym (or-false (eqb (suc i) 0)) ∙ s) (eqb-suc-zero i)

    comes_step : (i j : ℕ) → is_definition defines d ≡ true → f i ≡ true → enters preds i j ≡ true → 0 < j → comes f j ≡ true
    comes_step i zero s u e p = absurd (omega arith)
    comes_step i (suc j) s u e p = and_both s (any_here f (get_or preds (suc j) []) i e u)

    comes_complete : d < length preds → {i : ℕ} → Reaches (enters preds) defines d i → comes f i ≡ true
    comes_complete h (start {j = j} s e p) = comes_step d j s (own_line h s) e p
    comes_complete h (further {i = i} {j = j} r δ e p) =
        comes_step i j (reaches_definition r) (still_leaves i (reaches_inside preds defines r) ∙ rw δ (comes_complete h r)) e p

  pub comes_iff : (f : ℕ → Bool) → lines (length preds) f ≡ f → Sound f → d < length preds
      → (i : ℕ) → 0 < i → (comes f i ≡ true) ↔ Reaches (enters preds) defines d i
  comes_iff f still s h i p = (comes_sound f s i p, comes_complete f still h)

  -- The lines that d leaves only grow, and a sweep that adds none is the last that could

  abbrev Within : (ℕ → Bool) → (ℕ → Bool) → Type 0
  Within f g = (j : ℕ) → f j ≡ true → g j ≡ true

  leaves_grow : (f g : ℕ → Bool) → Within f g → (i : ℕ) → leaves f i ≡ true → leaves g i ≡ true
  leaves_grow f g h i e = go (defines i) e
    where
      comes_grow : (i : ℕ) → comes f i ≡ true → comes g i ≡ true
      comes_grow zero e = e
      comes_grow (suc i) e =
          let r = and_split (is_definition defines d) (any f (get_or preds (suc i) [])) e in
          let p = any_found f (get_or preds (suc i) []) r.1 in
          and_both r.0 (any_here g (get_or preds (suc i) []) p.0 p.1 (h p.0 p.2))

      go : (b : Bool) → cond b (eqb d i) (comes f i) ≡ true → cond b (eqb d i) (comes g i) ≡ true
      go true e = e
      go false e = comes_grow i e

  lines_grow : (k : ℕ) (f g : ℕ → Bool) → Within f g → Within (lines k f) (lines k g)
  lines_grow zero f g h j e = h j e
  lines_grow (suc k) f g h j e = go (eqb k j) e (lines_grow k f g h)
    where
      go : (b : Bool) → cond b (leaves (lines k f) k) (lines k f j) ≡ true → Within (lines k f) (lines k g)
          → cond b (leaves (lines k g) k) (lines k g j) ≡ true
      go true e h = leaves_grow (lines k f) (lines k g) h k e
      go false e h = h j e

  swept_grows : (t : ℕ) → Within (swept t) (swept (suc t))
  swept_grows zero j e = absurd (false≢true e)
  swept_grows (suc t) j e = lines_grow (length preds) (swept t) (swept (suc t)) (swept_grows t) j e

  swept_above : (t j : ℕ) → length preds ≤ j → swept t j ≡ false
  swept_above zero j h = refl
  swept_above (suc t) j h = lines_before (length preds) j (swept t) h ∙ swept_above t j h

  -- how many lines d leaves after t sweeps
  held : ℕ → ℕ
  held t = count (swept t) (up_to (length preds))

  held_still : (t : ℕ) → held (suc t) ≤ held t → swept (suc t) ≡ swept t
  unfolding held
  held_still t h = fun_ext (λ j. elim (lt_or_ge j (length preds)) [
    | inl q ↦ same_test (swept (suc t) j) (swept t j) (back j q) (swept_grows t j)
    | inr q ↦ swept_above (suc t) j q ∙ sym (swept_above t j q)
  ])
    where
      back : (j : ℕ) → j < length preds → swept (suc t) j ≡ true → swept t j ≡ true
      back j q e = elim (decided (swept t j)) [
        | inl y ↦ y
        | inr n ↦ absurd (omega (
          arith,
          count_lt (swept t) (swept (suc t)) (up_to (length preds)) j (swept_grows t)
              (range_member j 0 (length preds) (omega arith) (omega arith)) n e,
        ))
      ]

  held_grows : (t : ℕ) → (swept (suc t) ≡ swept t) ⊎ (t < held (suc t))
  held_grows zero = elim (lt_or_ge (held 0) (held 1)) [ inl q ↦ inr (omega arith) | inr q ↦ inl (held_still 0 q) ]
  held_grows (suc t) = elim (held_grows t) [
    | inl e ↦ inl (ap (lines (length preds)) e)
    | inr h ↦ elim (lt_or_ge (held (suc t)) (held (suc (suc t)))) [ inl q ↦ inr (omega arith) | inr q ↦ inl (held_still (suc t) q) ]
  ]

  pub swept_stops : (t : ℕ) → length preds ≤ t → swept (suc t) ≡ swept t
  unfolding held
  swept_stops t h = elim (held_grows t) [
    | inl e ↦ e
    | inr q ↦ absurd (omega (arith, count_all (swept (suc t)) (up_to (length preds)), length_range 0 (length preds)))
  ]
