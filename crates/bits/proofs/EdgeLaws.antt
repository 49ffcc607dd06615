-- The two matrices of edges.
--   row_in, rows_apart               a row of a matrix is inside it; two rows do not meet
--   spanned-*                        the span of a row that is kept, and of an empty one
--   widen_by, noted                  the steps of `widen` and `note`
--   no_edges, added, line_small      the steps of `no_edges` and `add_edge`
--   between                          what a span says of its row
--   kept_edges, kept_agree           the matrices of equal words say the same
--   filter_like                      lists filtered by tests that agree on the members
--   preds_of_edges                   the predecessor lists of any edges that the matrix has
--   length_preds_of, preds_of_at     their number, and each of them
--   matrices_room                    the words of question 5 have room for the matrices
-- Assumes nothing.
use Prim.Native.Nat.{ℕ, zero, suc, ◌+◌, ◌-◌, ◌*◌, ◌/◌, ◌%◌, ◌<◌, ◌≤◌}
use mathlib.Core.Path.{◌≡◌, refl, sym, ap, ap₂, ◌∙◌}
use mathlib.Core.Logic.{◌≢◌, ◌⊎◌, inl, inr}
use mathlib.Core.Bool.{Bool, true, false, ◌&&◌, ◌||◌, or-false, and-true, and-false}
use mathlib.Core.List.{List, [], ◌∷◌, map}
use native.Mathlib.Omega.{arith}
use native.Mathlib.Decide.{ℕ_discrete}
use native.Mathlib.Nat.{mul-le-mul_left, mul-le-mul_right, suc-mul, mul-add}
use lib.Dec.{eqb}
use lib.ListN.{length, get_or, set, length-map}
use lib.Seq.{get_or-set_same, get_or-set_other}
use borrow.Author.Tests.{eq-eqb, ne_eqb}
use Rattle.definitions.specs.Lists.{filter, range, up_to, member}
use Rattle.definitions.specs.Questions.{space_words}
use Rattle.theory.proofs.Bools.{clash, not_so, or_left, or_right, lt_or_ge}
use Rattle.theory.proofs.ListLaws.{member_filter, filter_alike, member_range, getD_map_up_to, length_range}
use Rattle.bits.specs.Rows.{bit, Filled, Zero, WithBit}
use Rattle.bits.specs.Edges.{row_words, Matrices, edges, succs, span_low, Spanned, Agree, preds_of, Widened, Widen, Noted, Between, NoEdges, Added}
use Rattle.bits.specs.declared.Span.{Span}
use Rattle.bits.proofs.RowLaws.{same_bit}

-- Rows of a matrix

pub row_in : (i n r : ℕ) → i < n → i * r + r ≤ n * r
row_in i n r h = let p : suc i * r ≤ n * r = mul-le-mul_right r h in omega (arith, suc-mul i r)

pub rows_apart : (i j r : ℕ) → i ≢ j → (i * r + r ≤ j * r) ⊎ (j * r + r ≤ i * r)
rows_apart i j r h = elim (lt_or_ge i j) [ inl q ↦ inl (row_in i j r q) | inr q ↦ inr (row_in j i r (omega arith)) ]

-- Spans

module _ (n r u : ℕ) (l₀ l : List ℕ) (wide : n + 64 ≤ r * 64) where
  -- of equal rows
  spanned_kept : ((v : ℕ) → u ≤ v → v < u + r → get_or l v 0 ≡ get_or l₀ v 0) → Spanned n r l₀ u → Spanned n r l u
  spanned_kept kept S =
      let e = kept (u + r - 1) (omega arith) (omega arith) in
      record {
        order = rw e S.order;
        some = rw e S.some;
        within = rw e S.within;
        tight = rw e (λ h. same_bit l l₀ (u * 64 + span_low (get_or l₀ (u + r - 1) 0)) (kept ((u * 64 + span_low (get_or l₀ (u + r - 1) 0)) / 64) (omega arith) (omega (arith, S.some h, S.within))) ∙ S.tight h);
        inside = λ p h b. rw e (S.inside p h (sym (same_bit l l₀ (u * 64 + p) (kept ((u * 64 + p) / 64) (omega arith) (omega arith))) ∙ b));
      }

  spanned_none : get_or l (u + r - 1) 0 ≡ 0 → ((p : ℕ) → p < n → bit l (u * 64 + p) ≡ false) → Spanned n r l u
  spanned_none e none = record { order = rw e (omega arith); some = rw e (λ h. omega arith); within = rw e (omega arith); tight = rw e (λ h. absurd (omega arith)); inside = λ p h b. clash b (none p h) }

  pub noted : (p : ℕ) (l₁ : List ℕ) → p < n → WithBit l₀ l₁ (u * 64 + p) → Widen l₁ l (u + r - 1) p → Noted n r u p l₀ l
  noted p l₁ hp A B = record {
    bits = bits;
    spanned = λ S. (let W : Widened (get_or l₀ (u + r - 1) 0) p (get_or l (u + r - 1) 0) = rw (← same) B.word in record {
      order = omega (arith, W.new S.order);
      some = λ h. omega (arith, W.new S.order);
      within = W.within n hp S.within;
      tight = λ h. elim (ℕ_discrete (span_low (get_or l (u + r - 1) 0)) p) [
        | yes e ↦ rw e (bits p hp ∙ or_right (bit l₀ (u * 64 + p)) (eqb p p) (eq-eqb p p refl))
        | no e ↦ (let o = W.least e in let k = span_low (get_or l₀ (u + r - 1) 0) in rw o.0 (bits k (omega (arith, S.some o.1, S.within)) ∙ or_left (bit l₀ (u * 64 + k)) (eqb k p) (S.tight o.1)))
      ];
      inside = λ k h b. elim (ℕ_discrete k p) [
        | yes e ↦ rw e (W.new S.order)
        | no e ↦ (let s = S.inside k h (sym (or-false (bit l₀ (u * 64 + k))) ∙ ap (bit l₀ (u * 64 + k) ||◌) (sym (ne_eqb k p e)) ∙ sym (bits k h) ∙ b) in W.old k s.0 s.1)
      ];
    });
    outside = λ v h. B.others v (λ e. h (omega arith) (omega arith)) ∙ A.words v (λ e. h (omega arith) (omega arith));
  }
    where
      same : get_or l₁ (u + r - 1) 0 ≡ get_or l₀ (u + r - 1) 0
      same = A.words (u + r - 1) (λ e. omega arith)

      shift : (k : ℕ) → Dec (k ≡ p) → eqb (u * 64 + k) (u * 64 + p) ≡ eqb k p
      shift k (yes e) = eq-eqb (u * 64 + k) (u * 64 + p) (omega arith) ∙ sym (eq-eqb k p e)
      shift k (no e) = ne_eqb (u * 64 + k) (u * 64 + p) (λ q. e (omega arith)) ∙ sym (ne_eqb k p e)

      bits : (k : ℕ) → k < n → bit l (u * 64 + k) ≡ (bit l₀ (u * 64 + k) || eqb k p)
      bits k h =
          same_bit l l₁ (u * 64 + k) (B.others ((u * 64 + k) / 64) (λ e. omega arith))
          ∙ A.bits (u * 64 + k) ∙ ap (bit l₀ (u * 64 + k) ||◌) (shift k (ℕ_discrete k p))

pub between : (n r u s : ℕ) (l : List ℕ) (x : Span) → Spanned n r l u → s ≡ get_or l (u + r - 1) 0 → x.from ≡ u * 64 + s % 65536 → x.end ≡ u * 64 + s / 65536 → Between n l u x
between n r u s l x S e a b = record {
  low = omega arith;
  order = omega (arith, S.order);
  high = omega (arith, S.within);
  first = λ h. ap (bit l) (a ∙ ap (λ (v : ℕ). u * 64 + span_low v) e) ∙ S.tight (omega arith);
  below = λ p h g. not_so (bit l (u * 64 + p)) (λ t. omega (arith, S.inside p h t));
  above = λ p h g. not_so (bit l (u * 64 + p)) (λ t. omega (arith, S.inside p h t));
}

pub widen_by : (l : List ℕ) (v p x : ℕ) → v < length l → Widened (get_or l v 0) p x → Widen l (set l v x) v p
widen_by l v p x h W = record { word = rw (get_or-set_same l v x 0 h) W; others = λ u g. get_or-set_other l v u x 0 g }

-- The steps of the functions

pub no_edges : (n r : ℕ) (l₀ l : List ℕ) → n + 64 ≤ r * 64 → Filled l₀ l 0 (n * r + n * r) (λ k. false) → Zero l 0 (n * r + n * r) → NoEdges n r l₀ l
unfolding succs edges
no_edges n r l₀ l wide F Z = record {
  none = none;
  agree = record {
    both = λ i j hi hj. off ((n * r + i * r) * 64 + j) (omega (arith, row_in i n r hi)) ∙ sym (none i j hi hj);
    preds_in = λ i hi. spanned_none n r (i * r) l₀ l wide (Z (i * r + r - 1) (omega arith) (omega (arith, row_in i n r hi))) (λ p h. off (i * r * 64 + p) (omega (arith, row_in i n r hi)));
    succs_in = λ i hi. spanned_none n r (n * r + i * r) l₀ l wide (Z (n * r + i * r + r - 1) (omega arith) (omega (arith, row_in i n r hi)))
        (λ p h. off ((n * r + i * r) * 64 + p) (omega (arith, row_in i n r hi)));
  };
  kept = λ v h. F.outside v (λ x y. omega arith);
}
  where
    off : (a : ℕ) → a < (n * r + n * r) * 64 → bit l a ≡ false
    off a h = ap (bit l) (omega arith) ∙ F.inside a h

    none : (i j : ℕ) → i < n → j < n → edges n r l i j ≡ false
    none i j hi hj = off (j * r * 64 + i) (omega (arith, row_in j n r hj))

module _ (n r p q : ℕ) (l₀ l₁ l : List ℕ) (wide : n + 64 ≤ r * 64) (hp : p < n) (hq : q < n)
    (A : Noted n r (q * r) p l₀ l₁) (B : Noted n r (n * r + p * r) q l₁ l) where
  -- row j of the predecessors is not row p of the successors, nor is it row q of the predecessors where j is not q
  preds_second : (j v : ℕ) → j < n → v < j * r + r → get_or l v 0 ≡ get_or l₁ v 0
  preds_second j v hj h = B.outside v (λ x y. omega (arith, row_in j n r hj))

  preds_first : (j v : ℕ) → j ≢ q → j * r ≤ v → v < j * r + r → get_or l₁ v 0 ≡ get_or l₀ v 0
  preds_first j v g x y = A.outside v (λ a b. elim (rows_apart j q r g) [ inl s ↦ omega arith | inr s ↦ omega arith ])

  succs_first : (i v : ℕ) → n * r + i * r ≤ v → get_or l₁ v 0 ≡ get_or l₀ v 0
  succs_first i v x = A.outside v (λ a b. omega (arith, row_in q n r hq))

  succs_second : (i v : ℕ) → i ≢ p → n * r + i * r ≤ v → v < n * r + i * r + r → get_or l v 0 ≡ get_or l₁ v 0
  succs_second i v g x y = B.outside v (λ a b. elim (rows_apart i p r g) [ inl s ↦ omega arith | inr s ↦ omega arith ])

  edge : (i j : ℕ) → i < n → j < n → edges n r l i j ≡ (edges n r l₀ i j || (eqb i p && eqb j q))
  unfolding edges
  edge i j hi hj = same_bit l l₁ (j * r * 64 + i) (preds_second j ((j * r * 64 + i) / 64) hj (omega arith)) ∙ (elim (ℕ_discrete j q) [
    | yes e ↦ rw (e, eq-eqb q q refl) (A.bits i hi ∙ ap (bit l₀ (q * r * 64 + i) ||◌) (sym (and-true (eqb i p))))
    | no e ↦ rw (ne_eqb j q e) (same_bit l₁ l₀ (j * r * 64 + i) (preds_first j ((j * r * 64 + i) / 64) e (omega arith) (omega arith))
        ∙ sym (ap (bit l₀ (j * r * 64 + i) ||◌) (and-false (eqb i p)) ∙ or-false (bit l₀ (j * r * 64 + i))))
  ])

  succ : (i j : ℕ) → i < n → j < n → succs n r l i j ≡ (succs n r l₀ i j || (eqb i p && eqb j q))
  unfolding succs
  succ i j hi hj = elim (ℕ_discrete i p) [
    | yes e ↦ rw (e, eq-eqb p p refl) (B.bits j hj ∙ ap (◌|| eqb j q) (same_bit l₁ l₀ ((n * r + p * r) * 64 + j) (succs_first p (((n * r + p * r) * 64 + j) / 64) (omega arith))))
    | no e ↦ rw (ne_eqb i p e) (same_bit l l₁ ((n * r + i * r) * 64 + j) (succs_second i (((n * r + i * r) * 64 + j) / 64) e (omega arith) (omega arith))
        ∙ same_bit l₁ l₀ ((n * r + i * r) * 64 + j) (succs_first i (((n * r + i * r) * 64 + j) / 64) (omega arith)) ∙ sym (or-false (bit l₀ ((n * r + i * r) * 64 + j))))
  ]

  both_added : Added n r p q l₀ l
  both_added = record {
    edge = edge;
    agree = λ G. record {
      both = λ i j hi hj. succ i j hi hj ∙ ap (◌|| (eqb i p && eqb j q)) (G.both i j hi hj) ∙ sym (edge i j hi hj);
      preds_in = λ j hj. spanned_kept n r (j * r) l₁ l wide (λ v x y. preds_second j v hj y) (elim (ℕ_discrete j q) [
        | yes e ↦ rw e (A.spanned (G.preds_in q hq))
        | no e ↦ spanned_kept n r (j * r) l₀ l₁ wide (λ v x y. preds_first j v e x y) (G.preds_in j hj)
      ]);
      succs_in = λ i hi. (let first = spanned_kept n r (n * r + i * r) l₀ l₁ wide (λ v x y. succs_first i v x) (G.succs_in i hi) in elim (ℕ_discrete i p) [
        | yes e ↦ rw e (B.spanned (rw e at first))
        | no e ↦ spanned_kept n r (n * r + i * r) l₁ l wide (λ v x y. succs_second i v e x y) first
      ]);
    };
    kept = λ v h. B.outside v (λ x y. omega (arith, row_in p n r hp)) ∙ A.outside v (λ x y. omega (arith, row_in q n r hq));
  }

-- t and u are the rows of q and of p
pub added : (n r p q t u : ℕ) (l₀ l₁ l : List ℕ) → n + 64 ≤ r * 64 → p < n → q < n → t ≡ q * r → u ≡ p * r
    → Noted n r t p l₀ l₁ → Noted n r (n * r + u) q l₁ l → Added n r p q l₀ l
added n r p q t u l₀ l₁ l wide hp hq et eu A B = both_added n r p q l₀ l₁ l wide hp hq (rw et at A) (rw eu at B)

-- a line is a small number
pub line_small : (n r p : ℕ) → n + 64 ≤ r * 64 → n * r ≤ 65536 → p < n → p < 65536
line_small n r p wide h hp = let a : n * 1 ≤ n * r = mul-le-mul_left n (omega arith) in omega arith

-- Words that are kept

module _ (n r : ℕ) (l₀ l : List ℕ) (wide : n + 64 ≤ r * 64) (kept : (v : ℕ) → v < n * r + n * r → get_or l v 0 ≡ get_or l₀ v 0) where
  pub kept_edges : (i j : ℕ) → i < n → j < n → edges n r l i j ≡ edges n r l₀ i j
  unfolding edges
  kept_edges i j hi hj = same_bit l l₀ (j * r * 64 + i) (kept ((j * r * 64 + i) / 64) (omega (arith, row_in j n r hj)))

  pub kept_succs : (i j : ℕ) → i < n → j < n → succs n r l i j ≡ succs n r l₀ i j
  unfolding succs
  kept_succs i j hi hj = same_bit l l₀ ((n * r + i * r) * 64 + j) (kept (((n * r + i * r) * 64 + j) / 64) (omega (arith, row_in i n r hi)))

  pub kept_agree : Agree n r l₀ → Agree n r l
  kept_agree G = record {
    both = λ i j hi hj. kept_succs i j hi hj ∙ G.both i j hi hj ∙ sym (kept_edges i j hi hj);
    preds_in = λ i hi. spanned_kept n r (i * r) l₀ l wide (λ v x y. kept v (omega (arith, row_in i n r hi))) (G.preds_in i hi);
    succs_in = λ i hi. spanned_kept n r (n * r + i * r) l₀ l wide (λ v x y. kept v (omega (arith, row_in i n r hi))) (G.succs_in i hi);
  }

-- Predecessor lists

map_alike : {A : Type 0} (f g : ℕ → A) (a n : ℕ) → ((j : ℕ) → a ≤ j → j < a + n → f j ≡ g j) → map f (range a n) ≡ map g (range a n)
unfolding range
map_alike f g a zero h = refl
map_alike f g a (suc n) h = ap₂ ◌∷◌ (h a (omega arith) (omega arith)) (map_alike f g (suc a) n (λ j x y. h j (omega arith) (omega arith)))

pub filter_like : (p q : ℕ → Bool) (xs : List ℕ) → ((x : ℕ) → member x xs ≡ true → p x ≡ q x) → filter p xs ≡ filter q xs
filter_like p q xs h = filter_alike p q xs (λ x. member_filter p xs x ∙ go (member x xs) (h x) ∙ sym (member_filter q xs x))
  where
    go : {x : ℕ} (m : Bool) → (m ≡ true → p x ≡ q x) → (m && p x) ≡ (m && q x)
    go true e = e refl
    go false e = refl

pub preds_of_edges : (n r : ℕ) (l : List ℕ) (f : ℕ → ℕ → Bool) → ((i j : ℕ) → i < n → j < n → edges n r l i j ≡ f i j)
    → preds_of n r l ≡ map (λ j. filter (λ i. f i j) (up_to n)) (up_to n)
unfolding preds_of
preds_of_edges n r l f h = map_alike (λ j. filter (λ i. edges n r l i j) (up_to n)) (λ j. filter (λ i. f i j) (up_to n)) 0 n
    (λ j x y. filter_like (λ i. edges n r l i j) (λ i. f i j) (up_to n) (λ i m. h i j (omega (arith, member_range i 0 n m)) (omega arith)))

pub preds_of_kept : (n r : ℕ) (l₀ l : List ℕ) → ((i j : ℕ) → i < n → j < n → edges n r l i j ≡ edges n r l₀ i j) → preds_of n r l ≡ preds_of n r l₀
unfolding preds_of
preds_of_kept n r l₀ l h = preds_of_edges n r l (edges n r l₀) h

pub length_preds_of : (n r : ℕ) (l : List ℕ) → length (preds_of n r l) ≡ n
unfolding preds_of
length_preds_of n r l = length-map (up_to n) (λ j. filter (λ i. edges n r l i j) (up_to n)) ∙ length_range 0 n

pub preds_of_at : (n r : ℕ) (l : List ℕ) (j : ℕ) → j < n → get_or (preds_of n r l) j [] ≡ filter (λ i. edges n r l i j) (up_to n)
unfolding preds_of
preds_of_at n r l j h = getD_map_up_to (λ j. filter (λ i. edges n r l i j) (up_to n)) n j [] h

-- Room

pub matrices_room : (n : ℕ) (l : List ℕ) → n ≤ 1024 → space_words n ≤ length l → Matrices n (row_words n) l
matrices_room n l h room =
    let r = (n + 63) / 64 in
    let a : n * r ≤ n * 16 = mul-le-mul_left n (omega arith) in
    let b : n * (r + 1) ≡ n * r + n * 1 = mul-add n r 1 in
    record { wide = omega arith; room = omega arith; small = omega arith }

pub ruleset edge_rules = (line_small, added, no_edges, noted, between, widen_by)
