-- The loops over a plan's words; each invariant is what is left to do.
--   Moving n a e ws₀ ws k    moving out the lines from k on of ws is moving out those from a on of ws₀
--   Starting l ws k          the first k words are those of the first k lines
--   moving, starting         the rules for `search`
--   moved_up, both_up        one word removed by the move of the words behind it, and two
--   length_kept, kept_at     the words of the lines as they are
--   made_for                 the header stored, two words removed: a for header is made
-- Assumes nothing.
use Prim.Native.Nat.{ℕ, zero, suc, ◌+◌, ◌-◌, ◌*◌, ◌%◌, ◌≤◌, ◌<◌}
use mathlib.Core.Path.{◌≡◌, refl, sym, ap, ap₂, ◌∙◌}
use mathlib.Core.List.{List, [], ◌∷◌, ◌++◌, map}
use mathlib.Core.Bool.{Bool, true, false, ◌&&◌}
use native.Mathlib.Omega.{arith}
use native.Mathlib.Numerals.{add-one}
use native.Mathlib.Nat.{sub_self, zero-add}
use borrow.Author.Tests.{lt-ltb, le-ltb}
use lib.ListN.{take-append-drop, length, length-drop, take, drop, get_or, set, length-set, length-take}
use lib.Seq.{append_snoc, take-set-lt, get_or-take, drop-cons, drop-drop, drop-set-lt, take-suc-set, take_all, take-suc}
use Rattle.std.specs.List.{copy_within}
use Rattle.std.proofs.lemmas.List.{take-take, drop-take, take-append-le, drop-append-le, append_assoc}
use Rattle.std.proofs.lemmas.List.Edits.{take-paste, drop-paste, length-paste}
use Rattle.definitions.specs.Lists.{part, all, remove, on_part}
use Rattle.plan.specs.Changes.{is_out, moved_out, for_word, with_for, kept_words}

-- Removing

module _ {A : Type 0} where
  -- the elements from i + 1 up to n copied to i
  pub moved_up : (i n : ℕ) (xs : List A) → i < n → n ≤ length xs → take (n - 1) (copy_within xs (i + 1) n i) ≡ remove i (take n xs)
  moved_up i n xs h le =
      let k = n - (i + 1) in
      let q : n - 1 ≡ i + k = omega arith in
      let e : i + 1 + k ≡ n = omega arith in
      ap (λ m. take m (copy_within xs (i + 1) n i)) q ∙ take-paste xs i (drop (i + 1) xs) k (omega arith) (rw length-drop (omega arith))
      ∙ ap₂ (λ ys zs. ys ++ zs) (sym (take-take i n xs (omega arith))) (sym (ap (λ m. drop (i + 1) (take m xs)) (sym e) ∙ drop-take (i + 1) k xs))

  -- the same up to w, and then the elements from w + 1 up to n copied to w - 1
  pub both_up : (i w n : ℕ) (xs ys : List A) → i < w → w < n → n ≤ length xs → ys ≡ copy_within xs (i + 1) w i
      → take (n - 2) (copy_within ys (w + 1) n (w - 1)) ≡ remove i (remove w (take n xs))
  both_up i w n xs ys h b le e =
      let k = n - (w + 1) in
      let a : w - 1 ≡ i + (w - (i + 1)) = omega arith in
      let q : n - 2 ≡ w - 1 + k = omega arith in
      let z : w + 1 + k ≡ n = omega arith in
      let d : w + 1 ≡ w - 1 + 2 = omega arith in
      let size : length ys ≡ length xs = ap length e ∙ length-paste xs i (drop (i + 1) xs) (w - (i + 1)) (omega arith) (rw length-drop (omega arith)) in
      let front : take (w - 1) ys ≡ remove i (take w xs) = ap (take (w - 1)) e ∙ moved_up i w xs h (omega arith) in
      let rest : drop (w - 1) ys ≡ drop (w - 1) xs =
      ap (drop (w - 1)) e ∙ ap (λ m. drop m (copy_within xs (i + 1) w i)) a
      ∙ drop-paste xs i (drop (i + 1) xs) (w - (i + 1)) (omega arith) (rw length-drop (omega arith)) ∙ ap (λ m. drop m xs) (sym a) in
      let back : drop (w + 1) ys ≡ drop (w + 1) xs =
      ap (λ m. drop m ys) d ∙ sym (drop-drop 2 (w - 1) ys) ∙ ap (drop 2) rest ∙ drop-drop 2 (w - 1) xs ∙ ap (λ m. drop m xs) (sym d) in
      let tail = take k (drop (w + 1) xs) in
      let fit : i + 1 ≤ length (take w xs) = rw length-take (omega arith) in
      let whole : remove w (take n xs) ≡ take w xs ++ tail =
      ap₂ (λ ys zs. ys ++ zs) (take-take w n xs (omega arith)) (ap (λ m. drop (w + 1) (take m xs)) (sym z) ∙ drop-take (w + 1) k xs) in
      ap (λ m. take m (copy_within ys (w + 1) n (w - 1))) q ∙ take-paste ys (w - 1) (drop (w + 1) ys) k (omega (arith, size)) (rw length-drop (omega (arith, size)))
      ∙ ap₂ (λ ys zs. ys ++ zs) front (ap (take k) back)
      ∙ append_assoc (take i (take w xs)) (drop (i + 1) (take w xs)) tail
      ∙ sym (ap (remove i) whole ∙ ap₂ (λ ys zs. ys ++ zs) (take-append-le i (take w xs) tail (omega (arith, fit))) (drop-append-le (i + 1) (take w xs) tail fit))

  -- a set before the removed place
  remove_set : (j w : ℕ) (v : A) (xs : List A) → j < w → remove w (set xs j v) ≡ set (remove w xs) j v
  remove_set j w v xs h = simp add-one (go j w xs h)
    where
      go : (j w : ℕ) (xs : List A) → j < w → take w (set xs j v) ++ drop (suc w) (set xs j v) ≡ set (take w xs ++ drop (suc w) xs) j v
      go j zero xs h = absurd (omega arith)
      go j (suc w) [] h = refl
      go zero (suc w) (x ∷ xs) h = refl
      go (suc j) (suc w) (x ∷ xs) h = ap (λ ys. x ∷ ys) (go j w xs (omega arith))

-- A part changed from the front

module _ {A : Type 0} (d : A) where
  part_cons : (k e : ℕ) (xs : List A) → k < e → e ≤ length xs → part k e xs ≡ get_or xs k d ∷ part (suc k) e xs
  part_cons k e xs h m =
      let q : e - k ≡ suc (e - suc k) = omega arith in
      rw (q, drop-cons xs k d (omega arith))

  part_set : (k e : ℕ) (xs : List A) (v : A) → part (suc k) e (set xs k v) ≡ part (suc k) e xs
  part_set k e xs v = ap (take (e - suc k)) (drop-set-lt (suc k) xs k v (omega arith))

  pub on_step : (f : A → A) (k e : ℕ) (xs : List A) (v : A) → k < e → e ≤ length xs → v ≡ f (get_or xs k d)
      → on_part (suc k) e f (set xs k v) ≡ on_part k e f xs
  on_step f k e xs v h m q =
      let b : k < length xs = omega arith in
      let ys = map f (part (suc k) e xs) ++ drop e xs in
      rw (part_set k e xs v, drop-set-lt e xs k v h, take-suc-set xs k v b, append_snoc (take k xs) v ys, q, part_cons k e xs h m)

  pub on_none : (f : A → A) (e : ℕ) (xs : List A) → on_part e e f xs ≡ xs
  on_none f e xs = rw sub_self (take-append-drop e xs)

  pub all_step : (p : A → Bool) (k e : ℕ) (xs : List A) (v : A) → k < e → e ≤ length xs
      → all p (part k e xs) ≡ (p (get_or xs k d) && all p (part (suc k) e (set xs k v)))
  unfolding all
  all_step p k e xs v h m = rw (part_cons k e xs h m, part_set k e xs v)

-- Moving out

pub record Moving (n a e : ℕ) (ws₀ ws : List ℕ) (k : ℕ) : Type 0 where
  pub upto : (a ≤ k) × (k ≤ e)
  pub size : length ws ≡ length ws₀
  pub tests : all is_out (part k e (take n ws)) ≡ all is_out (part a e (take n ws₀))
  pub left : on_part k e moved_out (take n ws) ≡ on_part a e moved_out (take n ws₀)

module _ (n a e : ℕ) (ws₀ : List ℕ) where
  module _ (ws : List ℕ) (k : ℕ) (r : Moving n a e ws₀ ws k) where
    module _ (le : e ≤ n) (fit : n ≤ length ws₀) (lt : k < e) where
      within : e ≤ length (take n ws)
      within = let s = r.size in rw length-take (omega arith)

      same_word : get_or (take n ws) k 0 ≡ get_or ws k 0
      same_word = get_or-take n ws k 0 (omega arith)

      pub moving_next : (get_or ws k 0 % 256 ≡ 0 → ⊥) → Moving n a e ws₀ (set ws k (get_or ws k 0 - 1)) (k + 1)
      moving_next nz =
          let v = get_or ws k 0 - 1 in
          let u = r.upto in
          let t : take n (set ws k v) ≡ set (take n ws) k v = take-set-lt n ws k v (omega arith) in
          let o : is_out (get_or (take n ws) k 0) ≡ true = rw same_word (lt-ltb 0 (get_or ws k 0 % 256) (omega arith)) in
          record {
            upto = (omega arith, omega arith);
            size = length-set ws k v ∙ r.size;
            tests = rw (add-one, t) (sym (all_step 0 is_out k e (take n ws) v lt within ∙ rw o) ∙ r.tests);
            left = rw (add-one, t) (on_step 0 moved_out k e (take n ws) v lt within (rw same_word) ∙ r.left);
          }

      pub moving_beyond : get_or ws k 0 % 256 ≡ 0 → false ≡ all is_out (part a e (take n ws₀))
      moving_beyond z =
          let o : is_out (get_or (take n ws) k 0) ≡ false = rw same_word (le-ltb 0 (get_or ws k 0 % 256) (omega arith)) in
          sym (sym r.tests ∙ (all_step 0 is_out k e (take n ws) 0 lt within ∙ rw o))

    pub moving_all : e ≤ k → true ≡ all is_out (part a e (take n ws₀))
    unfolding all
    moving_all ge = let q : e - k ≡ 0 = omega arith in sym (sym r.tests ∙ rw q)

pub no_exit : (xs ys : List ℕ) → false ≡ true → xs ≡ ys
no_exit xs ys e = let z : ◌≡◌ {A = ℕ} 0 1 = cc in absurd (omega arith)

pub ruleset moving = (moving_next, moving_beyond, moving_all)

-- Starting

pub record Starting (l ws₀ ws : List ℕ) (k : ℕ) : Type 0 where
  pub upto : k ≤ length l
  pub size : length ws ≡ length ws₀
  pub done : take k ws ≡ take k (kept_words 0 l)

pub length_kept : (k : ℕ) (l : List ℕ) → length (kept_words k l) ≡ length l
unfolding kept_words
length_kept k [] = refl
length_kept k (w ∷ ws) = ap suc (length_kept (suc k) ws)

pub kept_at : (k j : ℕ) (l : List ℕ) → j < length l → get_or (kept_words k l) j 0 ≡ get_or l j 0 % 256 + 8192 * (k + j)
unfolding kept_words
kept_at k j [] h = absurd (omega arith)
kept_at k zero (w ∷ ws) h = let z : k + 0 ≡ k = omega arith in rw z
kept_at k (suc j) (w ∷ ws) h = let z : k + suc j ≡ suc k + j = omega arith in rw z (kept_at (suc k) j ws (omega arith))

module _ (l ws₀ : List ℕ) where
  module _ (ws : List ℕ) (k : ℕ) (r : Starting l ws₀ ws k) where
    pub starting_next : (v : ℕ) → v ≡ get_or l k 0 → length l ≤ length ws₀ → k < length l → Starting l ws₀ (set ws k (v % 256 + 8192 * k)) (k + 1)
    starting_next v e f lt =
        let s = r.size in
        let n = length_kept 0 l in
        let x = v % 256 + 8192 * k in
        let b : k < length ws = omega arith in
        let z : k < length (kept_words 0 l) = omega arith in
        let g : get_or (kept_words 0 l) k 0 ≡ x = kept_at 0 k l lt ∙ rw (zero-add, e) in
        record {
          upto = omega arith;
          size = length-set ws k x ∙ s;
          done = rw (add-one, take-suc-set ws k x b, take-suc (kept_words 0 l) k 0 z, g, r.done);
        }

    pub starting_end : length l ≤ k → take (length l) ws ≡ kept_words 0 l
    starting_end ge =
        let u = r.upto in
        let q : length l ≡ k = omega arith in
        let n = length_kept 0 l in
        rw q (r.done ∙ take_all k (kept_words 0 l) (omega arith))

pub ruleset starting = (starting_next, starting_end)

-- Making a for

pub made_for : (n w e k h : ℕ) (ws₀ ws₁ : List ℕ) → k < w → w + 2 ≤ e → e < n → n ≤ length ws₀
    → h ≡ for_word (get_or ws₀ w 0) (get_or ws₀ k 0) (get_or ws₀ (e - 1) 0)
    → take (n - 2) ws₁ ≡ remove k (remove (e - 1) (take n (set ws₀ w h))) → take (n - 2) ws₁ ≡ with_for (take n ws₀) w e k
unfolding with_for
made_for n w e k h ws₀ ws₁ kw we en le q e₁ =
    rw (get_or-take n ws₀ w 0 (omega arith), get_or-take n ws₀ k 0 (omega arith), get_or-take n ws₀ (e - 1) 0 (omega arith), ← q)
    (e₁ ∙ ap (remove k) (ap (remove (e - 1)) (take-set-lt n ws₀ w h (omega arith)) ∙ remove_set w (e - 1) h (take n ws₀) (omega arith)))
