-- One set of definitions linked: each representative of one of them becomes the least.
--   map_own            a map that leaves each element as it is
--   link_merged        `link rep ds` takes each representative that ds touch to their least
--   link_length        it is as long as rep
--   link_within        its representatives are among those of rep
-- Assumes nothing.
use Prim.Native.Nat.{ℕ, ◌<◌, ◌≤◌}
use mathlib.Core.Path.{◌≡◌, refl, sym, ap, ◌∙◌, fun_ext}
use mathlib.Core.Logic.{◌⊎◌, inl, inr}
use mathlib.Core.Bool.{Bool, true, false, cond, false≢true}
use mathlib.Core.List.{List, [], ◌∷◌, map, map-map}
use native.Mathlib.Omega.{arith}
use lib.Dec.{eqb, leb}
use borrow.Author.Tests.{eqb-true, eqb-false, eq-eqb, ne_eqb, leb-true, leb-false}
use lib.ListN.{length, get_or, length-map, get_or-map}
use Rattle.definitions.specs.Lists.{any, member}
use Rattle.definitions.specs.Recover.{union, link}
use Rattle.theory.proofs.Bools.{clash, same_test, or_cases}
use Rattle.theory.proofs.ListLaws.{member_head, member_tail, member_cases, any_found, any_here}
use Rattle.recover.specs.Numbers.{touched, Least, Within}

-- Representatives of a set

pub touched_of : (rep ds : List ℕ) (r x : ℕ) → member x ds ≡ true → r ≡ get_or rep x 0 → touched rep ds r ≡ true
unfolding touched
touched_of rep ds r x m e = any_here (λ d. eqb r (get_or rep d 0)) ds x m (eq-eqb r (get_or rep x 0) e)

pub touched_by : (rep ds : List ℕ) (r : ℕ) → touched rep ds r ≡ true → (x : ℕ) × (member x ds ≡ true) × (r ≡ get_or rep x 0)
unfolding touched
touched_by rep ds r e = let w = any_found (λ d. eqb r (get_or rep d 0)) ds e in (w.0, w.1, eqb-true r (get_or rep w.0 0) w.2)

-- One union

abbrev swap : ℕ → ℕ → ℕ → ℕ
swap lo hi r = cond (eqb r hi) lo r

swap_at : (lo hi : ℕ) → lo ≤ hi → (rep : List ℕ) (x : ℕ) → get_or (map (swap lo hi) rep) x 0 ≡ swap lo hi (get_or rep x 0)
swap_at lo hi h rep x = ap (get_or (map (swap lo hi) rep) x) (sym (zero (eqb 0 hi) refl)) ∙ get_or-map (swap lo hi) rep x 0
  where
    zero : (b : Bool) → eqb 0 hi ≡ b → cond b lo 0 ≡ 0
    zero true e = let q = eqb-true 0 hi e in omega arith
    zero false e = refl

swap_hi : (lo hi r : ℕ) → r ≡ hi → swap lo hi r ≡ lo
swap_hi lo hi r e = rw (eq-eqb r hi e)

swap_other : (lo hi r : ℕ) → (r ≡ hi → ⊥) → swap lo hi r ≡ r
swap_other lo hi r e = rw (ne_eqb r hi e)

swap_lo : (lo hi r : ℕ) → r ≡ lo → swap lo hi r ≡ lo
swap_lo lo hi r e = go (eqb r hi)
  where
    go : (b : Bool) → cond b lo r ≡ lo
    go true = refl
    go false = e

record Joined (rep : List ℕ) (a b : ℕ) : Type 0 where
  lo : ℕ
  hi : ℕ
  order : lo ≤ hi
  new : union a b rep ≡ map (swap lo hi) rep
  ends : ((get_or rep a 0 ≡ lo) × (get_or rep b 0 ≡ hi)) ⊎ ((get_or rep a 0 ≡ hi) × (get_or rep b 0 ≡ lo))

joined : (rep : List ℕ) (a b : ℕ) → Joined rep a b
joined rep a b = go (leb (get_or rep a 0) (get_or rep b 0)) refl
  where
    go : (t : Bool) → leb (get_or rep a 0) (get_or rep b 0) ≡ t → Joined rep a b
    go true e = record { lo = get_or rep a 0; hi = get_or rep b 0; order = leb-true _ _ e; new = rw e; ends = inl (refl, refl) }
    go false e = record { lo = get_or rep b 0; hi = get_or rep a 0; order = let h = leb-false (get_or rep a 0) (get_or rep b 0) e in omega arith; new = rw e; ends = inr (refl, refl) }

-- One set

module _ (rep : List ℕ) (d e : ℕ) (ds : List ℕ) (j : Joined rep d e) where
  abbrev step : ℕ → ℕ
  step r = swap j.lo j.hi r

  at : (x : ℕ) → get_or (union d e rep) x 0 ≡ step (get_or rep x 0)
  at x = ap (λ (l : List ℕ). get_or l x 0) j.new ∙ swap_at j.lo j.hi j.order rep x

  first : member d (d ∷ (e ∷ ds)) ≡ true
  first = member_head d (e ∷ ds)

  second : member e (d ∷ (e ∷ ds)) ≡ true
  second = member_tail e d (e ∷ ds) (member_head e ds)

  to_lo : (x : ℕ) → (get_or rep x 0 ≡ j.lo) ⊎ (get_or rep x 0 ≡ j.hi) → step (get_or rep x 0) ≡ j.lo
  to_lo x (inl q) = swap_lo j.lo j.hi (get_or rep x 0) q
  to_lo x (inr q) = swap_hi j.lo j.hi (get_or rep x 0) q

  d_end : (get_or rep d 0 ≡ j.lo) ⊎ (get_or rep d 0 ≡ j.hi)
  d_end = elim j.ends [ inl q ↦ inl q.0 | inr q ↦ inr q.0 ]

  e_end : (get_or rep e 0 ≡ j.lo) ⊎ (get_or rep e 0 ≡ j.hi)
  e_end = elim j.ends [ inl q ↦ inr q.1 | inr q ↦ inl q.1 ]

  lo_touched : touched rep (d ∷ (e ∷ ds)) j.lo ≡ true
  lo_touched = elim j.ends [
    | inl q ↦ touched_of rep (d ∷ (e ∷ ds)) j.lo d first (sym q.0)
    | inr q ↦ touched_of rep (d ∷ (e ∷ ds)) j.lo e second (sym q.1)
  ]

  hi_touched : touched rep (d ∷ (e ∷ ds)) j.hi ≡ true
  hi_touched = elim j.ends [
    | inl q ↦ touched_of rep (d ∷ (e ∷ ds)) j.hi e second (sym q.1)
    | inr q ↦ touched_of rep (d ∷ (e ∷ ds)) j.hi d first (sym q.0)
  ]

  there : (r : ℕ) → touched rep (d ∷ (e ∷ ds)) r ≡ true → touched (union d e rep) (e ∷ ds) (step r) ≡ true
  there r t =
      let w = touched_by rep (d ∷ (e ∷ ds)) r t in
      elim (member_cases w.0 d (e ∷ ds) w.1) [
        | inl q ↦ touched_of (union d e rep) (e ∷ ds) (step r) e (member_head e ds)
            (ap step (w.2 ∙ ap (λ (x : ℕ). get_or rep x 0) q) ∙ to_lo d d_end ∙ sym (at e ∙ to_lo e e_end))
        | inr m ↦ touched_of (union d e rep) (e ∷ ds) (step r) w.0 m (ap step w.2 ∙ sym (at w.0))
      ]

  back : (r : ℕ) → touched (union d e rep) (e ∷ ds) (step r) ≡ true → touched rep (d ∷ (e ∷ ds)) r ≡ true
  back r t =
      let w = touched_by (union d e rep) (e ∷ ds) (step r) t in
      go w.0 w.1 (w.2 ∙ at w.0) (eqb r j.hi) refl
    where
      from : (x : ℕ) → member x (e ∷ ds) ≡ true → (b : Bool) → eqb (get_or rep x 0) j.hi ≡ b → r ≡ cond b j.lo (get_or rep x 0)
          → touched rep (d ∷ (e ∷ ds)) r ≡ true
      from x m true q s = rw s lo_touched
      from x m false q s = touched_of rep (d ∷ (e ∷ ds)) r x (member_tail x d (e ∷ ds) m) s

      go : (x : ℕ) → member x (e ∷ ds) ≡ true → step r ≡ step (get_or rep x 0) → (b : Bool) → eqb r j.hi ≡ b → touched rep (d ∷ (e ∷ ds)) r ≡ true
      go x m s true q = rw (eqb-true r j.hi q) hi_touched
      go x m s false q = from x m (eqb (get_or rep x 0) j.hi) refl (sym (swap_other j.lo j.hi r (eqb-false r j.hi q)) ∙ s)

  same_touched : (r : ℕ) → touched (union d e rep) (e ∷ ds) (step r) ≡ touched rep (d ∷ (e ∷ ds)) r
  same_touched r = same_test _ _ (back r) (there r)

  module _ (m : ℕ) (l : Least rep (d ∷ (e ∷ ds)) m) where
    under : m ≤ j.lo
    under = elim j.ends [ inl q ↦ omega (arith, l.below d first, q.0) | inr q ↦ omega (arith, l.below e second, q.1) ]

    kept : (b : Bool) → eqb m j.hi ≡ b → step m ≡ m
    kept true q = let s = eqb-true m j.hi q in swap_hi j.lo j.hi m s ∙ omega (arith, under, j.order)
    kept false q = swap_other j.lo j.hi m (eqb-false m j.hi q)

    least_next : Least (union d e rep) (e ∷ ds) m
    least_next = record {
      among = rw (kept (eqb m j.hi) refl) at (there m l.among);
      below = λ x s. rw (at x) (low x s (eqb (get_or rep x 0) j.hi));
    }
      where
        low : (x : ℕ) → member x (e ∷ ds) ≡ true → (b : Bool) → m ≤ cond b j.lo (get_or rep x 0)
        low x s true = under
        low x s false = l.below x (member_tail x d (e ∷ ds) s)

    same_merged : (r : ℕ) → cond (touched (union d e rep) (e ∷ ds) (step r)) m (step r) ≡ cond (touched rep (d ∷ (e ∷ ds)) r) m r
    same_merged r = rw (same_touched r) (go (touched rep (d ∷ (e ∷ ds)) r) refl)
      where
        go : (b : Bool) → touched rep (d ∷ (e ∷ ds)) r ≡ b → cond b m (step r) ≡ cond b m r
        go true t = refl
        go false t = swap_other j.lo j.hi r (λ q. clash hi_touched (rw q at t))

pub map_own : (f : ℕ → ℕ) (xs : List ℕ) → ((x : ℕ) → f x ≡ x) → map f xs ≡ xs
map_own f [] h = refl
map_own f (x ∷ xs) h = rw (h x, map_own f xs h)

pub link_merged : (ds rep : List ℕ) (m : ℕ) → Least rep ds m → link rep ds ≡ map (λ r. cond (touched rep ds r) m r) rep
unfolding link any touched
link_merged [] rep m l = absurd (false≢true l.among)
link_merged (d ∷ []) rep m l = sym (map_own (λ r. cond (touched rep (d ∷ []) r) m r) rep (λ r. go r (touched rep (d ∷ []) r) refl))
  where
    only : (r : ℕ) → touched rep (d ∷ []) r ≡ true → r ≡ get_or rep d 0
    only r t = elim (or_cases (eqb r (get_or rep d 0)) false t) [ inl q ↦ eqb-true r (get_or rep d 0) q | inr q ↦ absurd (false≢true q) ]

    go : (r : ℕ) (b : Bool) → touched rep (d ∷ []) r ≡ b → cond b m r ≡ r
    go r true t = only m l.among ∙ sym (only r t)
    go r false t = refl
link_merged (d ∷ (e ∷ ds)) rep m l =
    let j = joined rep d e in
    link_merged (e ∷ ds) (union d e rep) m (least_next rep d e ds j m l)
    ∙ ap (map (λ r. cond (touched (union d e rep) (e ∷ ds) r) m r)) j.new
    ∙ map-map (λ r. cond (touched (union d e rep) (e ∷ ds) r) m r) (swap j.lo j.hi) rep
    ∙ ap (λ (f : ℕ → ℕ). map f rep) (fun_ext (same_merged rep d e ds j m l))

pub link_length : (ds rep : List ℕ) → length (link rep ds) ≡ length rep
unfolding link
link_length [] rep = refl
link_length (d ∷ []) rep = refl
link_length (d ∷ (e ∷ ds)) rep =
    let j = joined rep d e in
    link_length (e ∷ ds) (union d e rep) ∙ ap length j.new ∙ length-map rep (swap j.lo j.hi)

pub link_within : (n : ℕ) (ds rep : List ℕ) → Within n rep → Within n (link rep ds)
unfolding link
link_within n [] rep w = w
link_within n (d ∷ []) rep w = w
link_within n (d ∷ (e ∷ ds)) rep w = let j = joined rep d e in link_within n (e ∷ ds) (union d e rep) (record { at = λ x. rw (at rep d e ds j x) (go j x (eqb (get_or rep x 0) j.hi)) })
  where
    low : (j : Joined rep d e) → j.lo < n
    low j = elim j.ends [ inl q ↦ omega (arith, w.at d, q.0) | inr q ↦ omega (arith, w.at e, q.1) ]

    go : (j : Joined rep d e) (x : ℕ) (b : Bool) → cond b j.lo (get_or rep x 0) < n
    go j x true = low j
    go j x false = w.at x
