-- Merging: definitions that reach one reading line get one representative. Over any edges, defining and reading lines.
--   Representatives rep    what is true of the list of representatives: that of a definition is at most the definition and is its own
--                          representative, and two definitions have the same exactly if a chain links them
--   merged                 merging at every read gives representatives
-- Assumes nothing.
use Prim.Native.Nat.{ℕ, ◌<◌, ◌≤◌}
use mathlib.Core.Path.{◌≡◌, refl, sym, ap, ◌∙◌}
use mathlib.Core.Logic.{◌⊎◌, inl, inr, ◌↔◌}
use mathlib.Core.Bool.{Bool, true, false, cond, false≢true}
use mathlib.Core.List.{List, [], ◌∷◌, map}
use native.Mathlib.Omega.{arith}
use lib.Dec.{eqb, leb}
use borrow.Author.Tests.{eqb-true, eq-eqb, leb-true, leb-false}
use lib.ListN.{get_or, get_or-map, get_or-eq_default}
use Rattle.definitions.specs.Lists.{any, fold, up_to, member}
use Rattle.definitions.specs.Reaching.{Reaches, Chain, itself, link as chain_link}
use Rattle.definitions.specs.Recover.{union, link}
use Rattle.theory.proofs.Bools.{lt_or_ge}
use Rattle.theory.proofs.ListLaws.{member_head, member_tail, member_cases, getD_range, length_range}
use Rattle.theory.proofs.Paths.{chain_trans, chain_sym}

-- One union: the web of hi goes to that of lo

-- the representative r, after that
swap : ℕ → ℕ → ℕ → ℕ
swap lo hi r = cond (eqb r hi) lo r

-- The representatives `new` are those of `old` after the union of lo's and hi's webs.
record Joined (lo hi : ℕ) (old new : List ℕ) : Type 0 where
  order : lo ≤ hi
  at : (x : ℕ) → get_or new x 0 ≡ swap lo hi (get_or old x 0)

joined_map : (lo hi : ℕ) (rep : List ℕ) → lo ≤ hi → Joined lo hi rep (map (λ r. cond (eqb r hi) lo r) rep)
unfolding swap
joined_map lo hi rep h = record {
  order = h;
  at = λ x. ap (get_or (map (swap lo hi) rep) x) (sym (entry (eqb 0 hi) refl)) ∙ get_or-map (swap lo hi) rep x 0;
}
  where
    entry : (b : Bool) → eqb 0 hi ≡ b → cond b lo 0 ≡ 0
    entry true e = let q = eqb-true 0 hi e in omega arith
    entry false e = refl

union_joined : (a b : ℕ) (rep : List ℕ)
    → Joined (get_or rep a 0) (get_or rep b 0) rep (union a b rep) ⊎ Joined (get_or rep b 0) (get_or rep a 0) rep (union a b rep)
union_joined a b rep = go (leb (get_or rep a 0) (get_or rep b 0)) refl
  where
    x : ℕ
    x = get_or rep a 0

    y : ℕ
    y = get_or rep b 0

    join : ℕ → ℕ → List ℕ
    join lo hi = map (λ r. cond (eqb r hi) lo r) rep

    go : (t : Bool) → leb x y ≡ t → Joined x y rep (cond t (join x y) (join y x)) ⊎ Joined y x rep (cond t (join x y) (join y x))
    go true e = inl (joined_map x y rep (leb-true x y e))
    go false e = inr (joined_map y x rep (let h = leb-false x y e in omega arith))

module _ {lo hi : ℕ} {old new : List ℕ} (j : Joined lo hi old new) where
  joined_keeps : (x y : ℕ) → get_or old x 0 ≡ get_or old y 0 → get_or new x 0 ≡ get_or new y 0
  joined_keeps x y e = j.at x ∙ ap (swap lo hi) e ∙ sym (j.at y)

  joined_lo : (x : ℕ) → get_or old x 0 ≡ lo → get_or new x 0 ≡ lo
  unfolding swap
  joined_lo x e = j.at x ∙ rw e (go (eqb lo hi))
    where
      go : (b : Bool) → cond b lo lo ≡ lo
      go true = refl
      go false = refl

  joined_hi : (x : ℕ) → get_or old x 0 ≡ hi → get_or new x 0 ≡ lo
  unfolding swap
  joined_hi x e = j.at x ∙ rw (e, eq-eqb hi hi refl)

union_keeps : (a b : ℕ) (rep : List ℕ) (x y : ℕ) → get_or rep x 0 ≡ get_or rep y 0 → get_or (union a b rep) x 0 ≡ get_or (union a b rep) y 0
union_keeps a b rep x y e = elim (union_joined a b rep) [ inl j ↦ joined_keeps j x y e | inr j ↦ joined_keeps j x y e ]

union_joins : (a b : ℕ) (rep : List ℕ) → get_or (union a b rep) a 0 ≡ get_or (union a b rep) b 0
union_joins a b rep = elim (union_joined a b rep) [
  | inl j ↦ joined_lo j a refl ∙ sym (joined_hi j b refl)
  | inr j ↦ joined_hi j a refl ∙ sym (joined_lo j b refl)
]

-- One set of definitions: neighbours are linked, so all are

link_keeps : (ds rep : List ℕ) (x y : ℕ) → get_or rep x 0 ≡ get_or rep y 0 → get_or (link rep ds) x 0 ≡ get_or (link rep ds) y 0
unfolding link
link_keeps [] rep x y e = e
link_keeps (d ∷ []) rep x y e = e
link_keeps (d ∷ (c ∷ ds)) rep x y e = link_keeps (c ∷ ds) (union d c rep) x y (union_keeps d c rep x y e)

link_head : (d : ℕ) (ds rep : List ℕ) (x : ℕ) → member x (d ∷ ds) ≡ true → get_or (link rep (d ∷ ds)) d 0 ≡ get_or (link rep (d ∷ ds)) x 0
unfolding any link
link_head d [] rep x m = elim (member_cases x d [] m) [
  | inl e ↦ ap (λ (z : ℕ). get_or rep z 0) (sym e)
  | inr e ↦ absurd (false≢true e)
]
link_head d (c ∷ ds) rep x m = elim (member_cases x d (c ∷ ds) m) [
  | inl e ↦ ap (λ (z : ℕ). get_or (link (union d c rep) (c ∷ ds)) z 0) (sym e)
  | inr e ↦ link_keeps (c ∷ ds) (union d c rep) d c (union_joins d c rep) ∙ link_head c ds (union d c rep) x e
]

link_joins : (ds rep : List ℕ) (x y : ℕ) → member x ds ≡ true → member y ds ≡ true → get_or (link rep ds) x 0 ≡ get_or (link rep ds) y 0
unfolding any
link_joins [] rep x y m m' = absurd (false≢true m)
link_joins (d ∷ ds) rep x y m m' = sym (link_head d ds rep x m) ∙ link_head d ds rep y m'

-- What is true of representatives

module _ (edge : ℕ → ℕ → Bool) (defines reads : ℕ → Bool) (n : ℕ) where
  pub record Representatives (rep : List ℕ) : Type 0 where
    pub twice : (x : ℕ) → get_or rep (get_or rep x 0) 0 ≡ get_or rep x 0
    pub below : (x : ℕ) → get_or rep x 0 ≤ x
    pub to_chain : (a b : ℕ) → a < n → b < n → get_or rep a 0 ≡ get_or rep b 0 → Chain edge defines reads a b
    pub of_chain : {a b : ℕ} → Chain edge defines reads a b → get_or rep a 0 ≡ get_or rep b 0

  -- the part of it that holds while reads are merged
  record Partial (rep : List ℕ) : Type 0 where
    twice : (x : ℕ) → get_or rep (get_or rep x 0) 0 ≡ get_or rep x 0
    below : (x : ℕ) → get_or rep x 0 ≤ x
    chained : (x : ℕ) → x < n → Chain edge defines reads x (get_or rep x 0)

  joined_partial : (lo hi : ℕ) (old new : List ℕ) → Joined lo hi old new → get_or old lo 0 ≡ lo → Chain edge defines reads hi lo
      → Partial old → Partial new
  unfolding swap
  joined_partial lo hi old new j l c p = record {
    twice = λ x. rw (j.at x) (two x (eqb (get_or old x 0) hi) refl);
    below = λ x. rw (j.at x) (less x (eqb (get_or old x 0) hi) refl);
    chained = λ x h. rw (j.at x) (chain x h (eqb (get_or old x 0) hi) refl);
  }
    where
      two : (x : ℕ) (b : Bool) → eqb (get_or old x 0) hi ≡ b → get_or new (cond b lo (get_or old x 0)) 0 ≡ cond b lo (get_or old x 0)
      two x true e = joined_lo j lo l
      two x false e = j.at (get_or old x 0) ∙ rw (p.twice x, e)

      less : (x : ℕ) (b : Bool) → eqb (get_or old x 0) hi ≡ b → cond b lo (get_or old x 0) ≤ x
      less x true e = omega (arith, j.order, p.below x, eqb-true (get_or old x 0) hi e)
      less x false e = p.below x

      chain : (x : ℕ) → x < n → (b : Bool) → eqb (get_or old x 0) hi ≡ b → Chain edge defines reads x (cond b lo (get_or old x 0))
      chain x h true e = chain_trans (rw (eqb-true (get_or old x 0) hi e) at (p.chained x h)) c
      chain x h false e = p.chained x h

  union_partial : (a b : ℕ) (rep : List ℕ) → a < n → b < n → Chain edge defines reads a b → Partial rep → Partial (union a b rep)
  union_partial a b rep ha hb c p =
      let ab : Chain edge defines reads (get_or rep a 0) (get_or rep b 0) =
      chain_trans (chain_sym (p.chained a ha)) (chain_trans c (p.chained b hb)) in
      elim (union_joined a b rep) [
        | inl j ↦ joined_partial (get_or rep a 0) (get_or rep b 0) rep (union a b rep) j (p.twice a) (chain_sym ab) p
        | inr j ↦ joined_partial (get_or rep b 0) (get_or rep a 0) rep (union a b rep) j (p.twice b) ab p
      ]

  link_partial : (ds rep : List ℕ) → ((x y : ℕ) → member x ds ≡ true → member y ds ≡ true → (x < n) × Chain edge defines reads x y)
      → Partial rep → Partial (link rep ds)
  unfolding link
  link_partial [] rep h p = p
  link_partial (d ∷ []) rep h p = p
  link_partial (d ∷ (c ∷ ds)) rep h p =
      let md = member_head d (c ∷ ds) in
      let mc = member_tail c d (c ∷ ds) (member_head c ds) in
      link_partial (c ∷ ds) (union d c rep)
      (λ x y m m'. h x y (member_tail x d (c ∷ ds) m) (member_tail y d (c ∷ ds) m'))
      (union_partial d c rep (h d c md mc).0 (h c d mc md).0 (h d c md mc).1 p)

  up_to_partial : Partial (up_to n)
  up_to_partial = record { twice = two; below = less; chained = λ x h. rw (own x h) itself }
    where
      own : (x : ℕ) → x < n → get_or (up_to n) x 0 ≡ x
      own x h = getD_range 0 n x 0 h ∙ omega arith

      past : (x : ℕ) → n ≤ x → get_or (up_to n) x 0 ≡ 0
      past x h = get_or-eq_default (up_to n) 0 (omega (arith, length_range 0 n))

      first : get_or (up_to n) 0 0 ≡ 0
      first = elim (lt_or_ge 0 n) [ inl h ↦ own 0 h | inr h ↦ past 0 h ]

      two : (x : ℕ) → get_or (up_to n) (get_or (up_to n) x 0) 0 ≡ get_or (up_to n) x 0
      two x = elim (lt_or_ge x n) [
        | inl h ↦ ap (λ (z : ℕ). get_or (up_to n) z 0) (own x h)
        | inr h ↦ ap (λ (z : ℕ). get_or (up_to n) z 0) (past x h) ∙ first ∙ sym (past x h)
      ]

      less : (x : ℕ) → get_or (up_to n) x 0 ≤ x
      less x = elim (lt_or_ge x n) [ inl h ↦ omega (arith, own x h) | inr h ↦ omega (arith, past x h) ]

-- All reads: reach i has the definitions that reach the reading line i

module _ (edge : ℕ → ℕ → Bool) (defines : ℕ → Bool) (n : ℕ) (reads : List ℕ) (reach : ℕ → List ℕ)
    (inside : (d i : ℕ) → Reaches edge defines d i → d < n)
    (reach_iff : (d i : ℕ) → member i reads ≡ true → (member d (reach i) ≡ true) ↔ Reaches edge defines d i) where
  abbrev merge : List ℕ → List ℕ → List ℕ
  merge rep is = fold (λ r i. link r (reach i)) rep is

  merge_keeps : (is rep : List ℕ) (x y : ℕ) → get_or rep x 0 ≡ get_or rep y 0 → get_or (merge rep is) x 0 ≡ get_or (merge rep is) y 0
  unfolding fold
  merge_keeps [] rep x y e = e
  merge_keeps (i ∷ is) rep x y e = merge_keeps is (link rep (reach i)) x y (link_keeps (reach i) rep x y e)

  merge_joins : (is rep : List ℕ) (i x y : ℕ) → member i is ≡ true → member x (reach i) ≡ true → member y (reach i) ≡ true
      → get_or (merge rep is) x 0 ≡ get_or (merge rep is) y 0
  unfolding any fold
  merge_joins [] rep i x y m mx my = absurd (false≢true m)
  merge_joins (j ∷ is) rep i x y m mx my = elim (member_cases i j is m) [
    | inl e ↦ merge_keeps is (link rep (reach j)) x y (link_joins (reach j) rep x y (rw e at mx) (rw e at my))
    | inr e ↦ merge_joins is (link rep (reach j)) i x y e mx my
  ]

  merge_partial : (is rep : List ℕ) → ((i : ℕ) → member i is ≡ true → member i reads ≡ true)
      → Partial edge defines (λ i. member i reads) n rep → Partial edge defines (λ i. member i reads) n (merge rep is)
  unfolding fold
  merge_partial [] rep h p = p
  merge_partial (i ∷ is) rep h p =
      let r = h i (member_head i is) in
      merge_partial is (link rep (reach i)) (λ j m. h j (member_tail j i is m))
      (link_partial edge defines (λ i. member i reads) n (reach i) rep
      (λ x y mx my. (inside x i ((reach_iff x i r).0 mx), chain_link i itself r ((reach_iff x i r).0 mx) ((reach_iff y i r).0 my))) p)

  pub merged : Representatives edge defines (λ i. member i reads) n (fold (λ r i. link r (reach i)) (up_to n) reads)
  merged = record {
    twice = p.twice;
    below = p.below;
    to_chain = λ a b ha hb e. chain_trans (p.chained a ha) (rw e (chain_sym (p.chained b hb)));
    of_chain = of_chain;
  }
    where
      p : Partial edge defines (λ i. member i reads) n (merge (up_to n) reads)
      p = merge_partial reads (up_to n) (λ i m. m) (up_to_partial edge defines (λ i. member i reads) n)

      of_chain : {a b : ℕ} → Chain edge defines (λ i. member i reads) a b
          → get_or (merge (up_to n) reads) a 0 ≡ get_or (merge (up_to n) reads) b 0
      of_chain itself = refl
      of_chain (chain_link {b = b} {c = c} i q r rb rc) =
          of_chain q ∙ merge_joins reads (up_to n) i b c r ((reach_iff b i r).1 rb) ((reach_iff c i r).1 rc)
