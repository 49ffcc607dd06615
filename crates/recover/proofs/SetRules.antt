-- Rules for the needs of `sets`.
--   filter_snoc                                        a filtered list with one more at its end
--   put_yes, put_no                                    `put`
--   Listing, members_start, members_next  the loop of `members`
--   row_room, reached_by                               `reaching`
--   first_there, first_none                            `first_reaching`
-- Assumes nothing.
use Prim.Native.Nat.{ℕ, zero, suc, ◌+◌, ◌-◌, ◌*◌, ◌<◌, ◌≤◌}
use mathlib.Core.Path.{◌≡◌, refl, sym, ap, ap₂, ◌∙◌}
use mathlib.Core.Bool.{Bool, true, false, cond}
use mathlib.Core.List.{List, [], ◌∷◌, ◌++◌, append-nil, append_assoc}
use native.Mathlib.Omega.{arith}
use native.Mathlib.Nat.{add-zero, zero-add}
use native.Mathlib.Numerals.{add-one}
use lib.ListN.{length, set, take}
use lib.Seq.{take-suc-set}
use Rattle.definitions.specs.Lists.{filter, range, up_to, or_else, first}
use Rattle.bits.specs.Rows.{bit, First}
use Rattle.visit.specs.Layout.{making, Fits}
use Rattle.visit.specs.declared.layout.Layout.{Layout}
use Rattle.sweep.specs.Solved.{Incoming}
use Rattle.recover.specs.Reaching.{bits_from, Put, Reached, FirstReached}
use Rattle.families.proofs.Lists.{range_snoc}

module _ (s : List ℕ) (m b : ℕ) (y : Bool) where
  pub put_yes : (v : ℕ) → y ≡ true → m < length s → v ≡ b → Put s (set s m v) m b y (m + 1)
  put_yes v e h q = record {
    place = rw e;
    front = rw (e, add-one m, q) (take-suc-set s m b h);
    step = omega arith;
  }

  pub put_no : y ≡ false → Put s s m b y m
  put_no e = record { place = rw e (sym (add-zero m)); front = rw e (sym (append-nil (take m s))); step = omega arith }

pub filter_snoc : (p : ℕ → Bool) (xs : List ℕ) (x : ℕ) → filter p (xs ++ (x ∷ [])) ≡ filter p xs ++ cond (p x) (x ∷ []) []
unfolding filter
filter_snoc p [] x = refl
filter_snoc p (y ∷ xs) x = go (p y) (filter_snoc p xs x)
  where
    go : (b : Bool) → filter p (xs ++ (x ∷ [])) ≡ filter p xs ++ cond (p x) (x ∷ []) []
        → cond b (y ∷ filter p (xs ++ (x ∷ []))) (filter p (xs ++ (x ∷ []))) ≡ cond b (y ∷ filter p xs) (filter p xs) ++ cond (p x) (x ∷ []) []
    go true e = ap (y ∷◌) e
    go false e = e

-- The bits below b are listed so far, in the first m words; bit q, b places behind a, is the next that is set, or e

bits_none : (l : List ℕ) (a : ℕ) → bits_from l a 0 ≡ []
unfolding bits_from filter range
bits_none l a = refl

bits_more : (l : List ℕ) (a b : ℕ) → bits_from l a (suc b) ≡ bits_from l a b ++ cond (bit l (a + b)) (b ∷ []) []
unfolding bits_from
bits_more l a b =
    ap (filter (λ b. bit l (a + b))) (range_snoc 0 b ∙ ap (λ (x : ℕ). up_to b ++ (x ∷ [])) (zero-add b)) ∙ filter_snoc (λ b. bit l (a + b)) (up_to b) b

bits_skip : (l : List ℕ) (a b k : ℕ) → ((j : ℕ) → b ≤ j → j < b + k → bit l (a + j) ≡ false) → bits_from l a (b + k) ≡ bits_from l a b
bits_skip l a b zero h = let e : b + 0 ≡ b = omega arith in rw e
bits_skip l a b (suc k) h =
    let e : b + suc k ≡ suc (b + k) = omega arith in
    rw (e, bits_more l a (b + k), h (b + k) (omega arith) (omega arith)) (append-nil (bits_from l a (b + k)) ∙ bits_skip l a b k (λ j x y. h j x (omega arith)))

pub record Listing (l : List ℕ) (a e : ℕ) (s : List ℕ) (m q : ℕ) : Type 0 where
  pub low : a ≤ q
  pub high : q ≤ e
  pub few : a + m ≤ q
  pub there : q < e → bit l q ≡ true
  pub front : take m s ≡ bits_from l a (q - a)

pub members_start : (l s : List ℕ) (a n q : ℕ) → First l a (a + n) q → Listing l a (a + n) s 0 q
members_start l s a n q F = record {
  low = F.from;
  high = F.upto;
  few = omega (arith, F.from);
  there = F.there;
  front = sym (ap (bits_from l a) (sym (zero-add (q - a))) ∙ bits_skip l a 0 (q - a) (λ j x y. F.none (a + j) (omega arith) (omega (arith, F.from))) ∙ bits_none l a);
}

pub members_next : (l s₀ s : List ℕ) (a n m q q' v : ℕ) → length s ≡ length s₀ → n ≤ length s₀ → Listing l a (a + n) s m q → q < a + n → v ≡ q - a → First l (q + 1) (a + n) q'
    → Listing l a (a + n) (set s m v) (m + 1) q'
members_next l s₀ s a n m q q' v es g L h ev F = record {
  low = omega (arith, L.low, F.from);
  high = F.upto;
  few = omega (arith, L.few, F.from);
  there = F.there;
  front = rw (add-one m, ev) (take-suc-set s m (q - a) (omega (arith, L.few)) ∙ ap (◌++ ((q - a) ∷ [])) L.front ∙ sym more);
}
  where
    here : bit l (a + (q - a)) ≡ true
    here = let p : a + (q - a) ≡ q = omega (arith, L.low) in rw p (L.there h)

    more : bits_from l a (q' - a) ≡ bits_from l a (q - a) ++ ((q - a) ∷ [])
    more =
        let p : q' - a ≡ suc (q - a) + (q' - q - 1) = omega (arith, L.low, F.from) in
        ap (bits_from l a) p ∙ bits_skip l a (suc (q - a)) (q' - q - 1) (λ j x y. F.none (a + j) (omega (arith, L.low)) (omega (arith, L.low, F.from)))
        ∙ bits_more l a (q - a) ∙ ap (λ (c : Bool). bits_from l a (q - a) ++ cond c ((q - a) ∷ []) []) here

-- The first bit

bits_front : (l : List ℕ) (a b k : ℕ) → (zs : List ℕ) × (bits_from l a (b + k) ≡ bits_from l a b ++ zs)
bits_front l a b zero = let e : b + 0 ≡ b = omega arith in ([], rw e (sym (append-nil (bits_from l a b))))
bits_front l a b (suc k) =
    let s = bits_front l a b k in
    let e : b + suc k ≡ suc (b + k) = omega arith in
    let z = cond (bit l (a + (b + k))) ((b + k) ∷ []) [] in
    (s.0 ++ z, ap (bits_from l a) e ∙ bits_more l a (b + k) ∙ ap (◌++ z) s.1 ∙ append_assoc (bits_from l a b) s.0 z)

module _ (n r w i nd a q : ℕ) (l₀ l : List ℕ) (ea : a ≡ making n r w * 64) (F : First l a (a + nd) q) (I : Incoming n r w i l₀ l) where
  low_none : bits_from l a (q - a) ≡ []
  low_none = ap (bits_from l a) (sym (zero-add (q - a))) ∙ bits_skip l a 0 (q - a) (λ j x y. F.none (a + j) (omega arith) (omega (arith, F.from))) ∙ bits_none l a

  pub first_there : q < a + nd → FirstReached n r w i nd l₀ l (q - a)
  first_there h = record { is = sym (ap (λ (ds : List ℕ). or_else (first ds) 0) (ap (λ (x : ℕ). bits_from l x nd) (sym ea) ∙ all)); row = I }
    where
      here : bit l (a + (q - a)) ≡ true
      here = let p : a + (q - a) ≡ q = omega (arith, F.from) in rw p (F.there h)

      rest : (zs : List ℕ) × (bits_from l a (suc (q - a) + (nd - suc (q - a))) ≡ bits_from l a (suc (q - a)) ++ zs)
      rest = bits_front l a (suc (q - a)) (nd - suc (q - a))

      one : bits_from l a (suc (q - a)) ≡ (q - a) ∷ []
      one = bits_more l a (q - a) ∙ rw (low_none, here)

      all : bits_from l a nd ≡ (q - a) ∷ rest.0
      all =
          let p : nd ≡ suc (q - a) + (nd - suc (q - a)) = omega (arith, F.from) in
          ap (bits_from l a) p ∙ rest.1 ∙ ap (◌++ rest.0) one

  pub first_none : a + nd ≤ q → FirstReached n r w i nd l₀ l 0
  first_none h = record { is = let p : nd ≡ q - a = omega (arith, F.upto) in sym (ap (λ (ds : List ℕ). or_else (first ds) 0) (ap₂ (bits_from l) (sym ea) p ∙ low_none)); row = I }

pub row_room : (n r w nd a : ℕ) (l l' : List ℕ) → Fits n r w l → length l' ≡ length l → a ≡ making n r w * 64 → nd ≤ w * 64 → a + nd ≤ length l' * 64
row_room n r w nd a l l' R s e h = omega arith

pub row_low : (m : Layout) (a : ℕ) → a ≡ making m.n m.r m.w * 64 → a ≤ 4194304
row_low m a e = omega (arith, m.small)

pub reached_by : (n r w i nd a m : ℕ) (l₀ l s : List ℕ) → a ≡ making n r w * 64 → m ≤ nd → take m s ≡ bits_from l a nd → Incoming n r w i l₀ l → Reached n r w i nd l₀ l s m
reached_by n r w i nd a m l₀ l s e h q I = record { few = h; set = rw e at q; row = I }

pub ruleset set_rules = (put_yes, put_no, row_room, row_low, reached_by, first_there, first_none)
