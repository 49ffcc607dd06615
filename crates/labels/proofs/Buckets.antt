-- Labels in buckets.
--   size_few, size_many, size_room, bucket_few, bucket_many, bucket_is    `size`, `bucket_of`, `bucket`
--   behind_none, behind_equal, behind_other                what is put behind a label
--   empty_next                                             the loop of `empty`
--   indexed_start, indexed_label, indexed_other            the buckets before the first line, after a label, after another line
--   lookup_start, lookup_found, lookup_next, lookup_end    the loop of `label_line`
-- Assumes nothing.
use Rattle.std.specs.Prelude.{Option, None, Some}
use Prim.Native.Nat.{ℕ, zero, suc, ◌+◌, ◌-◌, ◌%◌, ◌<◌, ◌≤◌}
use mathlib.Core.Path.{◌≡◌, refl, sym, ap, ◌∙◌}
use mathlib.Core.Logic.{⊎_elim}
use mathlib.Core.Bool.{Bool, true, false, cond, ◌&&◌}
use mathlib.Core.List.{List}
use native.Mathlib.Numerals.{add-one}
use native.Mathlib.Decide.{ℕ_discrete}
use native.Mathlib.Omega.{arith}
use lib.Dec.{ltb}
use borrow.Author.Tests.{lt-ltb, le-ltb, ltb-false}
use lib.ListN.{length, get_or, set, take, length-set}
use lib.Seq.{get_or-set_same, get_or-set_other, take_all}
use Rattle.definitions.specs.Lists.{find, last_position, ◌≟◌}
use Rattle.definitions.specs.Model.{Line, line, no_line, token}
use Rattle.definitions.specs.Statements.{is_label, label}
use Rattle.definitions.specs.FlowGraph.{label_line}
use Rattle.text.proofs.Texts.{≟_eq, ne_≟}
use Rattle.text.proofs.Loops.{last_found, last_next}
use Rattle.names.specs.Hash.{hash}
use Rattle.labels.specs.Buckets.{size, bucket, lookup, behind, Follows, Indexed}
use Rattle.blocks.specs.Entries.{linked}
use Rattle.blocks.proofs.Links.{get_set, linked_set, linked_fuel}

-- The bucket of a name

module _ (n : ℕ) where
  pub size_few : n < 1024 → size n ≡ 255
  unfolding size
  size_few h = rw (lt-ltb n 1024 h)

  pub size_many : 1024 ≤ n → size n ≡ 1023
  unfolding size
  size_many h = rw (le-ltb n 1024 h)

  -- there is room for the buckets and the multiplier
  pub size_room : 256 ≤ n → size n < n
  unfolding size
  size_room h = go (ltb n 1024) refl
    where
      go : (b : Bool) → ltb n 1024 ≡ b → cond b 255 1023 < n
      go true e = omega arith
      go false e = omega (arith, ltb-false n 1024 e)

module _ (n h : ℕ) where
  pub bucket_few : n < 1024 → h % 255 ≡ h % size n
  bucket_few g = rw (size_few n g)

  pub bucket_many : 1024 ≤ n → h % 1023 ≡ h % size n
  bucket_many g = rw (size_many n g)

bucket_low : (hs s : List ℕ) → bucket hs s < size (length hs)
unfolding bucket size
bucket_low hs s = go (ltb (length hs) 1024)
  where
    go : (b : Bool) → hash (get_or hs (cond b 255 1023) 0) s % cond b 255 1023 < cond b 255 1023
    go true = omega arith
    go false = omega arith

pub bucket_is : (hs s : List ℕ) (c h r : ℕ) → c ≡ size (length hs) → h ≡ hash (get_or hs c 0) s → r ≡ h % size (length hs) → 256 ≤ length hs
    → (r ≡ bucket hs s) × (r < size (length hs)) × (r < length hs)
unfolding bucket
bucket_is hs s c h r e g q room =
    let is : r ≡ bucket hs s = q ∙ rw (g, e) in
    let low : r < size (length hs) = rw is (bucket_low hs s) in
    (is, low, omega (arith, size_room (length hs) room))

-- The last of equal labels

abbrev named : List ℕ → Line → Bool
named s l = is_label l && (label l ≟ s)

label_at : (L : List Line) (i : ℕ) (s : List ℕ) → i < length L
    → label_line (take (i + 1) L) s ≡ cond (named s (line L i)) (Some i) (label_line (take i L) s)
unfolding label_line
label_at L i s h = go (named s (line L i)) refl
  where
    z : i + 1 - 1 ≡ i
    z = omega arith

    go : (b : Bool) → named s (line L i) ≡ b → last_position (named s) (take (i + 1) L) ≡ cond b (Some i) (last_position (named s) (take i L))
    go true e = sym (last_found (named s) L (i + 1) (last_position (named s) (take (i + 1) L)) refl no_line true (omega arith) (omega arith) (rw z (sym e)) refl) ∙ rw z
    go false e = last_next (named s) L (i + 1) (last_position (named s) (take (i + 1) L)) refl no_line false (omega arith) (omega arith) (rw z (sym e)) refl ∙ rw z

-- The labels of a bucket

module _ (L : List Line) (s : List ℕ) where
  module _ (ns : List ℕ) (p n : ℕ) (r : Option ℕ) (inv : r ≡ lookup L ns p p s) (low : (j : ℕ) → j < n → get_or ns j 0 ≤ j) (le : p ≤ n) (z : p ≡ 0 → ⊥)
      (b : Bool) (t : List ℕ) (eb : b ≡ (t ≟ s)) (et : t ≡ (token (line L (p - 1)) 0).text) where
    lookup_step : r ≡ cond b (Some (p - 1)) (lookup L ns (get_or ns (p - 1) 0) (get_or ns (p - 1) 0) s)
    unfolding lookup linked find
    lookup_step =
        let e : p ≡ suc (p - 1) = omega arith in
        let q = low (p - 1) (omega arith) in
        inv ∙ ap (λ (x : ℕ). lookup L ns x x s) e
        ∙ rw (eb, et) (ap (λ (hs : List ℕ). cond (label (line L (p - 1)) ≟ s) (Some (p - 1)) (find (λ h. label (line L h) ≟ s) hs))
        (linked_fuel ns (p - 1) (get_or ns (p - 1) 0) (get_or ns (p - 1) 0) q (omega arith) (λ j g. low j (omega arith))))

    pub lookup_found : b ≡ true → Some (p - 1) ≡ r
    lookup_found e = sym (lookup_step ∙ rw e)

    pub lookup_next : b ≡ false → r ≡ lookup L ns (get_or ns (p - 1) 0) (get_or ns (p - 1) 0) s
    lookup_next e = lookup_step ∙ rw e

pub lookup_end : (L : List Line) (s ns : List ℕ) (p : ℕ) (r : Option ℕ) → r ≡ lookup L ns p p s → p ≡ 0 → None ≡ r
unfolding lookup linked find
lookup_end L s ns p r inv e = sym (inv ∙ rw e)

-- What is put behind a label s

module _ (L : List Line) (ns s : List ℕ) (p : ℕ) where
  pub behind_none : p ≡ 0 → 0 ≡ behind L ns s p
  unfolding behind
  behind_none e = rw e

  module _ (z : p ≡ 0 → ⊥) (b : Bool) (t : List ℕ) (eb : b ≡ (t ≟ s)) (et : t ≡ (token (line L (p - 1)) 0).text) where
    behind_step : behind L ns s p ≡ cond b (get_or ns (p - 1) 0) p
    unfolding behind
    behind_step = let e : p ≡ suc (p - 1) = omega arith in ap (behind L ns s) e ∙ rw (eb, et, ← e)

    pub behind_equal : b ≡ true → get_or ns (p - 1) 0 ≡ behind L ns s p
    behind_equal e = sym (behind_step ∙ rw e)

    pub behind_other : b ≡ false → p ≡ behind L ns s p
    behind_other e = sym (behind_step ∙ rw e)

-- The buckets, line by line

pub empty_next : (hs : List ℕ) (k : ℕ) → ((b : ℕ) → b < k → get_or hs b 0 ≡ 0) → k < length hs → (b : ℕ) → b < k + 1 → get_or (set hs k 0) b 0 ≡ 0
empty_next hs k e h b g = get_set hs k b 0 h (λ v. v ≡ 0) (λ z. refl) (λ z. e b (omega arith))

-- a label in a bucket leaves every bucket's place
bucket_kept : (hs : List ℕ) (b x : ℕ) (s : List ℕ) → b < size (length hs) → bucket (set hs b x) s ≡ bucket hs s
unfolding bucket
bucket_kept hs b x s h = rw (length-set, get_or-set_other hs b (size (length hs)) x 0 (λ z. omega arith))

module _ (L : List Line) (hs ns : List ℕ) where
  pub indexed_start : (m c : ℕ) → c ≡ size (length hs) → ((b : ℕ) → b < size (length hs) → get_or hs b 0 ≡ 0) → Indexed L (set hs c m) ns 0
  unfolding lookup linked find label_line last_position
  indexed_start m c q e = record {
    below = λ b g. let h : b < size (length hs) = rw length-set at g in rw (get_or-set_other hs c b m 0 (λ z. omega arith), e b h) (omega arith);
    back = λ j g. absurd (omega arith);
    found = λ s. refl;
  }

  pub lookup_start : (n : ℕ) → Indexed L hs ns n → n ≡ length L → (s : List ℕ) (p : ℕ) → p ≡ get_or hs (bucket hs s) 0
      → (p ≤ n) × (label_line L s ≡ lookup L ns p p s)
  unfolding lookup
  lookup_start n I e s p q =
      let b : p ≤ n = rw q (I.below (bucket hs s) (bucket_low hs s)) in (
        b,
        ap (λ (M : List Line). label_line M s) (sym (take_all n L (omega arith))) ∙ sym (I.found s)
            ∙ rw (← q) (ap (find (λ h. label (line L h) ≟ s)) (linked_fuel ns n p p b (omega arith) (λ j g. I.back j (omega arith)))),
      )

  module _ (i : ℕ) (I : Indexed L hs ns i) (h : i < length L) (g : i < length ns) where
    walk : (v k p : ℕ) → p ≤ i → p ≤ k → linked (set ns i v) k p ≡ linked ns i p
    walk v k p b c =
        linked_set ns i v k p b (λ j q. I.back j (omega arith)) ∙ linked_fuel ns k i p c b (λ j q. I.back j (omega arith))

    -- a bucket that is left alone holds what it held
    kept : (v : ℕ) (s : List ℕ) → lookup L (set ns i v) (i + 1) (get_or hs (bucket hs s) 0) s ≡ label_line (take i L) s
    unfolding lookup
    kept v s =
        let b = I.below (bucket hs s) (bucket_low hs s) in
        ap (find (λ h. label (line L h) ≟ s)) (walk v (i + 1) (get_or hs (bucket hs s) 0) b (omega arith)) ∙ I.found s

    pub indexed_other : (t : Bool) → t ≡ is_label (line L i) → t ≡ false → Indexed L hs (set ns i 0) (i + 1)
    indexed_other t u v = record {
      below = λ b a. omega (arith, I.below b a);
      back = λ j q. get_set ns i j 0 g (λ v. v ≤ j) (λ z. omega arith) (λ z. I.back j (omega arith));
      found = λ s. kept 0 s ∙ sym (label_at L i s h ∙ rw (← u, v));
    }

    -- the entry behind a label x stands no later than the one before which x is put; but for x, the same is found from it on
    behind_low : (x : List ℕ) (p : ℕ) → p ≤ i → behind L ns x p ≤ p
    unfolding behind
    behind_low x zero b = omega arith
    behind_low x (suc j) b = go (label (line L j) ≟ x)
      where
        go : (t : Bool) → cond t (get_or ns j 0) (suc j) ≤ suc j
        go true = omega (arith, I.back j (omega arith))
        go false = omega arith

    behind_same : (x s : List ℕ) (p : ℕ) → p ≤ i → (x ≟ s) ≡ false → lookup L ns i (behind L ns x p) s ≡ lookup L ns i p s
    unfolding behind lookup linked find
    behind_same x s zero b e = refl
    behind_same x s (suc j) b e = go (label (line L j) ≟ x) refl
      where
        go : (t : Bool) → (label (line L j) ≟ x) ≡ t → lookup L ns i (cond t (get_or ns j 0) (suc j)) s ≡ lookup L ns i (suc j) s
        go true z =
            let w = I.back j (omega arith) in
            let k : i ≡ suc (i - 1) = omega arith in
            let o : (label (line L j) ≟ s) ≡ false = rw (≟_eq (label (line L j)) x z) e in
            sym (ap (λ (v : ℕ). lookup L ns v (suc j) s) k
            ∙ rw o (ap (find (λ h. label (line L h) ≟ s)) (linked_fuel ns (i - 1) i (get_or ns j 0) (omega arith) (omega arith) (λ a q. I.back a (omega arith)))))
        go false z = refl

    pub indexed_label : is_label (line L i) ≡ true → (b : ℕ) (x : List ℕ) → b ≡ bucket hs x → x ≡ label (line L i) → 256 ≤ length hs → (p : ℕ) → Follows L ns x (get_or hs b 0) p
        → Indexed L (set hs b (i + 1)) (set ns i p) (i + 1)
    unfolding lookup linked find
    indexed_label u b x q y m p r = record {
      below = λ x a. get_set hs b x (i + 1) inside (λ v. v ≤ i + 1) (λ z. omega arith) (λ z. omega (arith, I.below x (rw length-set at a)));
      back = λ j a. get_set ns i j p g (λ v. v ≤ j) (λ z. omega (arith, small)) (λ z. I.back j (omega arith));
      found = λ s. rw (bucket_kept hs b (i + 1) s low) (go s (ℕ_discrete (bucket hs s) b));
    }
      where
        low : b < size (length hs)
        low = rw q (bucket_low hs x)

        inside : b < length hs
        inside = omega (arith, low, size_room (length hs) m)

        small : p ≤ i
        small = let w = I.below b low in ⊎_elim (λ e. omega arith) (λ e. omega (arith, behind_low x (get_or hs b 0) w)) r

        -- the labels behind the new one
        rest : (s : List ℕ) → bucket hs s ≡ b → (x ≟ s) ≡ false → lookup L (set ns i p) i p s ≡ label_line (take i L) s
        rest s z e =
            ap (find (λ h. label (line L h) ≟ s)) (walk p i p small small)
            ∙ ⊎_elim (λ k. ap (λ (v : ℕ). lookup L ns i v s) k) (λ k. ap (λ (v : ℕ). lookup L ns i v s) k ∙ behind_same x s (get_or hs b 0) (I.below b low) e) r
            ∙ ap (λ (v : ℕ). lookup L ns i (get_or hs v 0) s) (sym z) ∙ I.found s

        front : (s : List ℕ) → bucket hs s ≡ b → (t : Bool) → (x ≟ s) ≡ t → cond t (Some i) (lookup L (set ns i p) i p s) ≡ cond t (Some i) (label_line (take i L) s)
        front s z true e = refl
        front s z false e = rest s z e

        go : (s : List ℕ) → Dec (bucket hs s ≡ b)
            → lookup L (set ns i p) (i + 1) (get_or (set hs b (i + 1)) (bucket hs s) 0) s ≡ label_line (take (i + 1) L) s
        go s (yes z) =
            let last : label_line (take (suc i) L) s ≡ cond (named s (line L i)) (Some i) (label_line (take i L) s) = rw (add-one i) at (label_at L i s h) in
            rw (z, get_or-set_same hs b (i + 1) 0 inside, add-one i, get_or-set_same ns i p 0 g)
            (rw y at (front s z (x ≟ s) refl)
            ∙ sym (last ∙ rw u))
        go s (no z) =
            rw (get_or-set_other hs b (bucket hs s) (i + 1) 0 z)
            (kept p s ∙ sym (label_at L i s h ∙ rw (u, ne_≟ (label (line L i)) s (λ e. z (sym (q ∙ ap (bucket hs) (y ∙ e)))))))

pub ruleset buckets = (size_few, size_many, bucket_few, bucket_many, behind_none, behind_equal, behind_other, lookup_found, lookup_next, lookup_end)
