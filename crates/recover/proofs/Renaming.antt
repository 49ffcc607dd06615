-- Definitions by number and by line: `lines` has the line of each definition, 0 for the entry, then the defining lines in order.
--   line_of d               the line of definition d
--   Renamed rep rep'        rep has by line the representatives that rep' has by number
--   renamed_start           each definition its own
--   renamed_link, renamed_fold    after one set, after a list of reads
--   renamed_number          the web numbers are the same
--   filter_renamed          a set by line is the set by number, renamed
-- Assumes nothing.
use Prim.Native.Nat.{ℕ, zero, suc, ◌+◌, ◌<◌, ◌≤◌}
use mathlib.Core.Path.{◌≡◌, refl, sym, ap, ap₂, ◌∙◌}
use mathlib.Core.Logic.{inl, inr}
use mathlib.Core.Bool.{Bool, true, false, cond, ◌&&◌, false≢true}
use mathlib.Core.List.{List, [], ◌∷◌, map}
use native.Mathlib.Omega.{arith}
use native.Mathlib.Nat.{zero-add, add-zero}
use native.Mathlib.Numerals.{add-one}
use lib.Dec.{eqb, ltb}
use borrow.Author.Tests.{eqb-true, eq-eqb, ltb-true, lt-ltb}
use lib.ListN.{length, get_or, take, length-map}
use lib.Seq.{take_all}
use Rattle.definitions.specs.Lists.{any, filter, count, fold, range, up_to, member}
use Rattle.definitions.specs.Recover.{link}
use Rattle.theory.proofs.Bools.{same_test, lt_or_ge}
use Rattle.theory.proofs.ListLaws.{member_head, member_tail, member_cases, getD_range, length_range, member_range}
use Rattle.theory.proofs.Ranks.{Rising}
use Rattle.recover.specs.Numbers.{touched, Least, earlier}
use Rattle.families.proofs.Lists.{filter_same}
use Rattle.recover.proofs.Linking.{touched_by, link_merged, link_length}
use Rattle.recover.proofs.RepresentativeRules.{least_one, least_next}

getD_map_in : (f : ℕ → ℕ) (l : List ℕ) (k : ℕ) → k < length l → get_or (map f l) k 0 ≡ f (get_or l k 0)
getD_map_in f [] k h = absurd (omega arith)
getD_map_in f (x ∷ l) zero h = refl
getD_map_in f (x ∷ l) (suc k) h = getD_map_in f l k (omega arith)

-- A set of definitions by line

filter_map : (g : ℕ → ℕ) (p : ℕ → Bool) (xs : List ℕ) → filter p (map g xs) ≡ map g (filter (λ x. p (g x)) xs)
unfolding filter
filter_map g p [] = refl
filter_map g p (x ∷ xs) = go (p (g x)) (filter_map g p xs)
  where
    go : (b : Bool) → filter p (map g xs) ≡ map g (filter (λ x. p (g x)) xs)
        → cond b (g x ∷ filter p (map g xs)) (filter p (map g xs)) ≡ map g (cond b (x ∷ filter (λ x. p (g x)) xs) (filter (λ x. p (g x)) xs))
    go true e = ap (g x ∷◌) e
    go false e = e

map_places : (xs : List ℕ) → xs ≡ map (λ k. get_or xs k 0) (up_to (length xs))
unfolding range
map_places xs = go xs xs 0 (λ k. ap (λ (i : ℕ). get_or xs i 0) (sym (zero-add k)))
  where
    go : (all xs : List ℕ) (a : ℕ) → ((k : ℕ) → get_or xs k 0 ≡ get_or all (a + k) 0) → xs ≡ map (λ k. get_or all k 0) (range a (length xs))
    go all [] a h = refl
    go all (x ∷ xs) a h = ap₂ (λ (y : ℕ) (ys : List ℕ). y ∷ ys) (h 0 ∙ ap (λ (i : ℕ). get_or all i 0) (add-zero a)) (go all xs (suc a) (λ k. h (suc k) ∙ ap (λ (i : ℕ). get_or all i 0) (omega arith)))

pub filter_renamed : (lines : List ℕ) (p : ℕ → Bool) → filter p lines ≡ map (λ k. get_or lines k 0) (filter (λ k. p (get_or lines k 0)) (up_to (length lines)))
filter_renamed lines p = ap (filter p) (map_places lines) ∙ filter_map (λ k. get_or lines k 0) p (up_to (length lines))

-- The least of a set

pub least_of : (rep ds : List ℕ) → 0 < length ds → (m : ℕ) × Least rep ds m
least_of rep ds h = let w = go (length ds) h (omega arith) in (w.0, rw (take_all (length ds) ds (omega arith)) at w.1)
  where
    go : (k : ℕ) → 0 < k → k ≤ length ds → (m : ℕ) × Least rep (take k ds) m
    go zero p q = absurd (omega arith)
    go (suc zero) p q = (get_or rep (get_or ds 0 0) 0, least_one rep ds _ h refl)
    go (suc (suc k)) p q =
        let w = go (suc k) (omega arith) (omega arith) in
        (_, rw (add-one (suc k)) at (least_next rep ds w.0 (suc k) w.1 _ _ (omega arith) refl refl))

module _ (lines : List ℕ) where
  abbrev pub line_of : ℕ → ℕ
  line_of d = get_or lines d 0

  pub record Renamed (rep rep' : List ℕ) : Type 0 where
    pub at : (d : ℕ) → d < length lines → get_or rep (line_of d) 0 ≡ line_of (get_or rep' d 0)
    pub inside : (d : ℕ) → d < length lines → get_or rep' d 0 < length lines
    pub room : (d : ℕ) → d < length lines → line_of d < length rep
    pub size : length rep' ≡ length lines

rising_low : (lo : ℕ) (xs : List ℕ) (d : ℕ) → Rising lo xs → d < length xs → lo ≤ get_or xs d 0
rising_low lo [] d r h = absurd (omega arith)
rising_low lo (x ∷ xs) zero r h = r.0
rising_low lo (x ∷ xs) (suc d) r h = omega (arith, r.0, rising_low (suc x) xs d r.1 (omega arith))

rising_order : (lo : ℕ) (xs : List ℕ) (d e : ℕ) → Rising lo xs → d < e → e < length xs → get_or xs d 0 < get_or xs e 0
rising_order lo [] d e r h g = absurd (omega arith)
rising_order lo (x ∷ xs) d zero r h g = absurd (omega arith)
rising_order lo (x ∷ xs) zero (suc e) r h g = rising_low (suc x) xs e r.1 (omega arith)
rising_order lo (x ∷ xs) (suc d) (suc e) r h g = rising_order (suc x) xs d e r.1 (omega arith) (omega arith)

module _ (lines : List ℕ) (lo : ℕ) (rising : Rising lo lines) where
  order : (d e : ℕ) → d < e → e < length lines → line_of lines d < line_of lines e
  order d e h g = rising_order lo lines d e rising h g

  one : (d e : ℕ) → d < length lines → e < length lines → line_of lines d ≡ line_of lines e → d ≡ e
  one d e hd he q = elim (lt_or_ge d e) [
    | inl h ↦ absurd (omega (arith, order d e h he))
    | inr h ↦ elim (lt_or_ge e d) [ inl g ↦ absurd (omega (arith, order e d g hd)) | inr g ↦ omega arith ]
  ]

  pub eqb_renamed : (d e : ℕ) → d < length lines → e < length lines → eqb (line_of lines d) (line_of lines e) ≡ eqb d e
  eqb_renamed d e hd he = same_test _ _
      (λ q. eq-eqb d e (one d e hd he (eqb-true _ _ q)))
      (λ q. eq-eqb _ _ (ap (line_of lines) (eqb-true d e q)))

  ltb_renamed : (d e : ℕ) → d < length lines → e < length lines → ltb (line_of lines d) (line_of lines e) ≡ ltb d e
  ltb_renamed d e hd he = same_test _ _
      (λ q. lt-ltb d e (elim (lt_or_ge d e) [ inl h ↦ h | inr h ↦ back h (ltb-true _ _ q) ]))
      (λ q. lt-ltb _ _ (order d e (ltb-true d e q) he))
    where
      back : e ≤ d → line_of lines d < line_of lines e → d < e
      back h q = elim (lt_or_ge e d) [
        | inl g ↦ absurd (omega (arith, order e d g hd))
        | inr g ↦ absurd (omega (arith, ap (line_of lines) (let z : d ≡ e = omega arith in z)))
      ]

  pub renamed_start : (n : ℕ) → ((d : ℕ) → d < length lines → line_of lines d < n) → Renamed lines (up_to n) (up_to (length lines))
  renamed_start n h = record {
    at = λ d l. getD_range 0 n (line_of lines d) 0 (h d l) ∙ zero-add (line_of lines d) ∙ ap (line_of lines) (sym (own d l));
    inside = λ d l. rw (own d l) l;
    room = λ d l. rw (length_range 0 n) (h d l);
    size = length_range 0 (length lines);
  }
    where
      own : (d : ℕ) → d < length lines → get_or (up_to (length lines)) d 0 ≡ d
      own d l = getD_range 0 (length lines) d 0 l ∙ zero-add d

  module _ (rep rep' : List ℕ) (w : Renamed lines rep rep') where
    touched_renamed : (ds : List ℕ) (r : ℕ) → r < length lines → ((d : ℕ) → member d ds ≡ true → d < length lines)
        → touched rep (map (line_of lines) ds) (line_of lines r) ≡ touched rep' ds r
    unfolding touched any
    touched_renamed [] r h g = refl
    touched_renamed (d ∷ ds) r h g =
        let l : d < length lines = g d (member_head d ds) in
        rw (w.at d l, eqb_renamed r (get_or rep' d 0) h (w.inside d l), touched_renamed ds r h (λ x m. g x (member_tail x d ds m)))

    below_renamed : (m : ℕ) (ds : List ℕ) → ((d : ℕ) → member d ds ≡ true → d < length lines) → ((d : ℕ) → member d ds ≡ true → m ≤ get_or rep' d 0)
        → (x : ℕ) → member x (map (line_of lines) ds) ≡ true → line_of lines m ≤ get_or rep x 0
    unfolding any
    below_renamed m [] g b x q = absurd (false≢true q)
    below_renamed m (d ∷ ds) g b x q = elim (member_cases x (line_of lines d) (map (line_of lines) ds) q) [
      | inl e ↦ (let l : d < length lines = g d (member_head d ds) in
          rw (e, w.at d l) (elim (lt_or_ge m (get_or rep' d 0)) [
            | inl h ↦ omega (arith, order m (get_or rep' d 0) h (w.inside d l))
            | inr h ↦ omega (arith, ap (line_of lines) (let z : m ≡ get_or rep' d 0 = omega (arith, b d (member_head d ds)) in z))
          ]))
      | inr s ↦ below_renamed m ds (λ y t. g y (member_tail y d ds t)) (λ y t. b y (member_tail y d ds t)) x s
    ]

    pub renamed_link : (ds : List ℕ) → ((d : ℕ) → member d ds ≡ true → d < length lines) → Renamed lines (link rep (map (line_of lines) ds)) (link rep' ds)
    unfolding link
    renamed_link [] g = w
    renamed_link (e ∷ es) g = record {
      at = λ d l. ap (λ (x : List ℕ). get_or x (line_of lines d) 0) by_line ∙ getD_map_in _ rep (line_of lines d) (w.room d l)
          ∙ rw (w.at d l, touched_renamed (e ∷ es) (get_or rep' d 0) (w.inside d l) g) (pick (touched rep' (e ∷ es) (get_or rep' d 0)) (get_or rep' d 0)) ∙ ap (line_of lines) (sym (number d l));
      inside = λ d l. rw (number d l) (stays (touched rep' (e ∷ es) (get_or rep' d 0)) (get_or rep' d 0) (w.inside d l));
      room = λ d l. rw (link_length (map (line_of lines) (e ∷ es)) rep) (w.room d l);
      size = link_length (e ∷ es) rep' ∙ w.size;
    }
      where
        found : (m : ℕ) × Least rep' (e ∷ es) m
        found = least_of rep' (e ∷ es) (omega arith)

        m : ℕ
        m = found.0

        m_in : m < length lines
        m_in = let t = touched_by rep' (e ∷ es) m found.1.among in rw t.2 (w.inside t.0 (g t.0 t.1))

        by_line : link rep (map (line_of lines) (e ∷ es)) ≡ map (λ r. cond (touched rep (map (line_of lines) (e ∷ es)) r) (line_of lines m) r) rep
        by_line = link_merged (map (line_of lines) (e ∷ es)) rep (line_of lines m) (record {
          among = touched_renamed (e ∷ es) m m_in g ∙ found.1.among;
          below = below_renamed m (e ∷ es) g found.1.below;
        })

        number : (d : ℕ) → d < length lines → get_or (link rep' (e ∷ es)) d 0 ≡ cond (touched rep' (e ∷ es) (get_or rep' d 0)) m (get_or rep' d 0)
        number d l = ap (λ (x : List ℕ). get_or x d 0) (link_merged (e ∷ es) rep' m found.1) ∙ getD_map_in _ rep' d (omega (arith, w.size))

        pick : (b : Bool) (r : ℕ) → cond b (line_of lines m) (line_of lines r) ≡ line_of lines (cond b m r)
        pick true r = refl
        pick false r = refl

        stays : (b : Bool) (r : ℕ) → r < length lines → cond b m r < length lines
        stays true r h = m_in
        stays false r h = h

  -- by_line i and by_number i have the definitions that reach line i
  pub renamed_fold : (by_line by_number : ℕ → List ℕ) (is : List ℕ)
      → ((i : ℕ) → member i is ≡ true → by_line i ≡ map (line_of lines) (by_number i))
      → ((i d : ℕ) → member d (by_number i) ≡ true → d < length lines)
      → (rep rep' : List ℕ) → Renamed lines rep rep' → Renamed lines (fold (λ r i. link r (by_line i)) rep is) (fold (λ r i. link r (by_number i)) rep' is)
  unfolding fold
  renamed_fold a b [] h g rep rep' w = w
  renamed_fold a b (i ∷ is) h g rep rep' w =
      renamed_fold a b is (λ j m. h j (member_tail j i is m)) g (link rep (a i)) (link rep' (b i))
      (rw (h i (member_head i is)) (renamed_link rep rep' w (b i) (g i)))

  -- The numbers

  pub renamed_number : (rep rep' : List ℕ) → Renamed lines rep rep' → (d : ℕ) → d < length lines
      → count (λ x. eqb (get_or rep x 0) x && ltb x (get_or rep (line_of lines d) 0)) lines ≡ earlier rep' (get_or rep' d 0)
  unfolding earlier
  renamed_number rep rep' w d l =
      ap length (filter_renamed lines (λ x. eqb (get_or rep x 0) x && ltb x (get_or rep (line_of lines d) 0)))
      ∙ length-map (filter (λ k. eqb (get_or rep (line_of lines k) 0) (line_of lines k) && ltb (line_of lines k) (get_or rep (line_of lines d) 0)) (up_to (length lines))) (line_of lines)
      ∙ ap length (filter_same _ _ (up_to (length lines)) same)
      ∙ ap (λ (n : ℕ). count (λ x. eqb (get_or rep' x 0) x && ltb x (get_or rep' d 0)) (up_to n)) (sym w.size)
    where
      same : (k : ℕ) → member k (up_to (length lines)) ≡ true
          → (eqb (get_or rep (line_of lines k) 0) (line_of lines k) && ltb (line_of lines k) (get_or rep (line_of lines d) 0)) ≡ (eqb (get_or rep' k 0) k && ltb k (get_or rep' d 0))
      same k q =
          let b = member_range k 0 (length lines) q in
          let h : k < length lines = omega arith in
          rw (w.at k h, w.at d l, eqb_renamed (get_or rep' k 0) k (w.inside k h) h, ltb_renamed k (get_or rep' d 0) h (w.inside d l))
