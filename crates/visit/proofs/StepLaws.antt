-- The steps of the functions that make one row and visit one line.
--   word_there, word_none              a word of a row with one bit
--   gather_start, -next, -end          the loop of `gather_word`: the word so far, with what is left to join, is what all predecessors have
--   come_entry, come_later             line 0, and any other line
--   make_own, make_coming              a line that defines, and one that does not
--   row_ready, row_next                the loop of `coming_row`
--   visiting-*, visit_made             the loop of `visit_line`
--   visit_word                         where a row is one word
--   ahead_by, back_none, back_by       the successors on one list
--   mark_both                          on both
--   preds_row, succs_row               the span of a row
--   succs_between, ahead_between       of the successors, before and after the first list is written
--   visit_agree                        the graph stays
--   step_changed, step_same            a visit with its marks
--   ahead_full                         where every line is on this sweep's list, none has to be put there
--   visit_full, step_full              a visit, a step leave every line on it
--   start_lists, turn_lists            the lists before and between sweeps
-- Assumes nothing.
use Prim.Native.Nat.{ℕ, zero, suc, ◌+◌, ◌-◌, ◌*◌, ◌/◌, ◌%◌, ◌^◌, ◌<◌, ◌≤◌}
use mathlib.Core.Path.{◌≡◌, refl, sym, ap, ap₂, ◌∙◌, fun_ext}
use mathlib.Core.Logic.{◌≢◌, ◌⊎◌, inl, inr}
use mathlib.Core.Bool.{Bool, true, false, cond, ◌&&◌, ◌||◌, or-false, or_assoc, true≢false}
use mathlib.Core.List.{List, []}
use native.Mathlib.Omega.{arith}
use native.Mathlib.Decide.{ℕ_discrete}
use native.Mathlib.Nat.{one-mul, mod-eq_of_lt}
use lib.Dec.{eqb, leb}
use lib.ListN.{length, get_or, set}
use lib.Pow.{pow-lt}
use lib.Bits.{bit_or}
use borrow.Author.Tests.{eq-eqb, ne_eqb, eqb-true, eqb-false, le-leb}
use Rattle.definitions.specs.Lists.{any, filter, range}
use Rattle.theory.proofs.Bools.{decided, clash, not_so, or_left, or_right, lt_or_ge}
use Rattle.bits.specs.Rows.{word_bit, bit, Away, Filled, joined, joined_low, copied, Put, Differs, First}
use Rattle.bits.specs.Edges.{edges, succs, Spanned, Agree, preds_of, Between}
use Rattle.bits.specs.declared.Span.{Span}
use Rattle.bits.proofs.Words.{zero_bit, or_bit, one_bit}
use Rattle.bits.proofs.RowLaws.{bit_in_word, same_bit, filled_off, fill_none, fill_next, fill_end, differ_none, differ_next}
use Rattle.bits.proofs.EdgeLaws.{row_in, rows_apart, kept_succs, kept_agree, preds_of_at}
use Rattle.visit.specs.Layout.{base, making, Fits, Room, outs, todo, next, Kept}
use Rattle.visit.specs.Steps.{Word, coming, given, Visit, Full, Ahead, Back, Marked, Step, Started, Turned}
use Rattle.visit.proofs.LayoutLaws.{room_same, outs_at, outs_past, outs_word, same_outs, same_preds}

-- One word of a row

pub word_there : (k d : ℕ) → d / 64 ≡ k → Word k (1 * 2 ^ (d % 64) % 18446744073709551616) (λ b. eqb b d)
word_there k d e = record { bits = λ b h. rw shifted (one_bit (d % 64) b ∙ place b h (ℕ_discrete b (d % 64))) }
  where
    shifted : 1 * 2 ^ (d % 64) % 18446744073709551616 ≡ 2 ^ (d % 64)
    shifted = rw (one-mul (2 ^ (d % 64))) (mod-eq_of_lt (pow-lt {j = 64} (omega arith)))

    place : (b : ℕ) → b < 64 → Dec (b ≡ d % 64) → eqb b (d % 64) ≡ eqb (k * 64 + b) d
    place b h (yes q) = eq-eqb b (d % 64) q ∙ sym (eq-eqb (k * 64 + b) d (omega arith))
    place b h (no q) = ne_eqb b (d % 64) q ∙ sym (ne_eqb (k * 64 + b) d (λ z. q (omega arith)))

pub word_none : (k d : ℕ) → (d / 64 ≡ k → ⊥) → Word k 0 (λ b. eqb b d)
word_none k d e = record { bits = λ b h. zero_bit b ∙ sym (ne_eqb (k * 64 + b) d (λ z. e (omega arith))) }

word_like : (k x : ℕ) (f g : ℕ → Bool) → Word k x f → ((b : ℕ) → f b ≡ g b) → Word k x g
word_like k x f g W h = record { bits = λ b q. W.bits b q ∙ h (k * 64 + b) }

-- What the predecessors have

filter_skip : (p : ℕ → Bool) (k m s : ℕ) → ((j : ℕ) → k ≤ j → j < k + m → p j ≡ false) → filter p (range k (m + s)) ≡ filter p (range (k + m) s)
unfolding filter range
filter_skip p k zero s h = let e : k ≡ k + 0 = omega arith in let f : 0 + s ≡ s = omega arith in rw (f, ← e)
filter_skip p k (suc m) s h =
    let e : suc m + s ≡ suc (m + s) = omega arith in
    let f : suc k + m ≡ k + suc m = omega arith in
    rw (e, h k (omega arith) (omega arith), ← f) (filter_skip p (suc k) m s (λ j x y. h j (omega arith) (omega arith)))

-- k is an edge, and the m numbers after it are none
any_next : (p f : ℕ → Bool) (k m s : ℕ) → p k ≡ true → ((j : ℕ) → suc k ≤ j → j < suc k + m → p j ≡ false)
    → any f (filter p (range k (suc (m + s)))) ≡ (f k || any f (filter p (range (suc k + m) s)))
unfolding any filter range
any_next p f k m s e h = rw (e, filter_skip p (suc k) m s h)

pub record Gathering (n r w i k : ℕ) (l : List ℕ) (a e y q : ℕ) : Type 0 where
  pub low : a ≤ q
  pub high : q ≤ e
  pub end : e ≤ a + n
  pub there : q < e → bit l q ≡ true
  pub left : (b : ℕ) → b < 64
      → (word_bit y b || any (outs n r w l (k * 64 + b)) (filter (λ p. edges n r l p i) (range (q - a) (a + n - q)))) ≡ any (outs n r w l (k * 64 + b)) (get_or (preds_of n r l) i [])

-- t is row i of the predecessors
module _ (n r w i k t : ℕ) (l : List ℕ) (et : t ≡ i * r) (hi : i < n) (hk : k < w) where
  edge_bit : (p : ℕ) → edges n r l p i ≡ bit l (t * 64 + p)
  unfolding edges
  edge_bit p = ap (bit l) (omega arith)

  pub gather_start : (x : Span) → Between n l t x → Gathering n r w i k l (t * 64) x.end 0 x.from
  gather_start x B = record {
    low = B.low;
    high = B.order;
    end = B.high;
    there = B.first;
    left = λ b h. rw (zero_bit b) (ap (any (outs n r w l (k * 64 + b))) (sym skip));
  }
    where
      none : (j : ℕ) → 0 ≤ j → j < 0 + (x.from - t * 64) → edges n r l j i ≡ false
      none j y z = let h : j < n = omega (arith, B.order, B.high) in edge_bit j ∙ B.below j h (omega (arith, B.low))

      skip : get_or (preds_of n r l) i [] ≡ filter (λ p. edges n r l p i) (range (x.from - t * 64) (t * 64 + n - x.from))
      skip =
          let e : n ≡ (x.from - t * 64) + (t * 64 + n - x.from) = omega (arith, B.low, B.order, B.high) in
          let f : 0 + (x.from - t * 64) ≡ x.from - t * 64 = omega arith in
          preds_of_at n r l i hi ∙ ap (λ (m : ℕ). filter (λ p. edges n r l p i) (range 0 m)) e
          ∙ filter_skip (λ p. edges n r l p i) 0 (x.from - t * 64) (t * 64 + n - x.from) none ∙ rw f

  gather_word : (e y q q' u : ℕ) → Gathering n r w i k l (t * 64) e y q → q < e → u ≡ (q - t * 64) * w → First l (q + 1) e q'
      → Gathering n r w i k l (t * 64) e (bit_or y (get_or l (base n r + k + u) 0)) q'
  gather_word e y q q' u G hq eu S = record {
    low = omega (arith, S.from, G.low);
    high = S.upto;
    end = G.end;
    there = S.there;
    left = left;
  }
    where
      p : ℕ
      p = q - t * 64

      hp : p < n
      hp = omega (arith, G.low, G.end)

      none : (j : ℕ) → suc p ≤ j → j < suc p + (q' - q - 1) → edges n r l j i ≡ false
      none j x y = edge_bit j ∙ S.none (t * 64 + j) (omega (arith, G.low)) (omega (arith, S.from, G.low))

      here : edges n r l p i ≡ true
      here = edge_bit p ∙ ap (bit l) (omega (arith, G.low)) ∙ G.there hq

      out : (b : ℕ) → b < 64 → word_bit (get_or l (base n r + k + u) 0) b ≡ outs n r w l (k * 64 + b) p
      out b hb =
          sym (bit_in_word l (base n r + k + u) b hb) ∙ ap (bit l) (let z : (base n r + k + u) * 64 + b ≡ (base n r + p * w) * 64 + (k * 64 + b) = omega (arith, eu) in z)
          ∙ sym (outs_at n r w l (k * 64 + b) p hp)

      left : (b : ℕ) → b < 64 → (word_bit (bit_or y (get_or l (base n r + k + u) 0)) b || any (outs n r w l (k * 64 + b)) (filter (λ p. edges n r l p i) (range (q' - t * 64) (t * 64 + n - q')))) ≡ any (outs n r w l (k * 64 + b)) (get_or (preds_of n r l) i [])
      left b hb =
          let f = outs n r w l (k * 64 + b) in
          let E : ℕ → Bool = λ p. edges n r l p i in
          let s : suc p + (q' - q - 1) ≡ q' - t * 64 = omega (arith, S.from, G.low) in
          let c : suc ((q' - q - 1) + (t * 64 + n - q')) ≡ t * 64 + n - q = omega (arith, S.from, S.upto, G.low, G.end) in
          let R = any f (filter E (range (q' - t * 64) (t * 64 + n - q'))) in
          let rest : any f (filter E (range p (t * 64 + n - q))) ≡ (f p || R) =
          ap (λ (m : ℕ). any f (filter E (range p m))) (sym c) ∙ any_next E f p (q' - q - 1) (t * 64 + n - q') here none ∙ ap (λ (m : ℕ). f p || any f (filter E (range m (t * 64 + n - q')))) s in
          ap (◌|| R) (or_bit y (get_or l (base n r + k + u) 0) b ∙ ap (word_bit y b ||◌) (out b hb))
          ∙ or_assoc (word_bit y b) (f p) R
          ∙ ap (word_bit y b ||◌) (sym rest) ∙ G.left b hb

  pub gather_next : (e y q q' u s : ℕ) → Gathering n r w i k l (t * 64) e y q → q < e → u ≡ (q - t * 64) * w → s ≡ base n r → First l (q + 1) e q'
      → Gathering n r w i k l (t * 64) e (bit_or y (get_or l (s + k + u) 0)) q'
  gather_next e y q q' u s G hq eu es S = rw es (gather_word e y q q' u G hq eu S)

  pub gather_end : (x : Span) (y q : ℕ) → Between n l t x → Gathering n r w i k l (t * 64) x.end y q → x.end ≤ q → Word k y (λ b. any (outs n r w l b) (get_or (preds_of n r l) i []))
  unfolding any filter range
  gather_end x y q B G h = record { bits = λ b hb. sym (or-false (word_bit y b)) ∙ ap (word_bit y b ||◌) (sym (none b)) ∙ G.left b hb }
    where
      off : (j : ℕ) → q - t * 64 ≤ j → j < q - t * 64 + (t * 64 + n - q) → edges n r l j i ≡ false
      off j y z = edge_bit j ∙ B.above j (omega (arith, G.low)) (omega (arith, G.low))

      none : (b : ℕ) → any (outs n r w l (k * 64 + b)) (filter (λ p. edges n r l p i) (range (q - t * 64) (t * 64 + n - q))) ≡ false
      none b = let z : t * 64 + n - q ≡ (t * 64 + n - q) + 0 = omega arith in
          ap (λ (m : ℕ). any (outs n r w l (k * 64 + b)) (filter (λ p. edges n r l p i) (range (q - t * 64) m))) z
          ∙ ap (any (outs n r w l (k * 64 + b))) (filter_skip (λ p. edges n r l p i) (q - t * 64) (t * 64 + n - q) 0 off)

-- What comes to a line, and what it is given

module _ (n r w i k x : ℕ) (l : List ℕ) where
  pub come_entry : i ≡ 0 → Word k x (λ b. eqb b 0) → Word k x (λ b. coming (preds_of n r l) b (outs n r w l b) i)
  come_entry e W = rw e W

  pub come_later : (i ≡ 0 → ⊥) → Word k x (λ b. any (outs n r w l b) (get_or (preds_of n r l) i [])) → Word k x (λ b. coming (preds_of n r l) b (outs n r w l b) i)
  come_later h W = word_like k x (λ b. any (outs n r w l b) (get_or (preds_of n r l) i [])) (λ b. coming (preds_of n r l) b (outs n r w l b) i) W (go i h)
    where
      go : (i : ℕ) → (i ≡ 0 → ⊥) → (b : ℕ) → any (outs n r w l b) (get_or (preds_of n r l) i []) ≡ coming (preds_of n r l) b (outs n r w l b) i
      go zero h b = absurd (h refl)
      go (suc i) h b = refl

  module _ (nums : List ℕ) where
    pub make_coming : get_or nums i 0 ≡ 0 → Word k x (λ b. coming (preds_of n r l) b (outs n r w l b) i) → Word k x (λ b. given (preds_of n r l) nums b (outs n r w l b) i)
    make_coming e W = rw e W

    pub make_own : (v : ℕ) → v ≡ get_or nums i 0 → (get_or nums i 0 ≡ 0 → ⊥) → Word k x (λ b. eqb b v) → Word k x (λ b. given (preds_of n r l) nums b (outs n r w l b) i)
    make_own v e h W = word_like k x (λ b. eqb b v) (λ b. given (preds_of n r l) nums b (outs n r w l b) i) W (λ b. rw (ne_eqb (get_or nums i 0) 0 h, e))

-- The loop of `coming_row`

module _ (n r w i k : ℕ) (l₀ l : List ℕ) (R : Room n r w l₀) (F : Filled l₀ l (making n r w) k (λ b. coming (preds_of n r l₀) b (outs n r w l₀ b) i)) (hk : k < w) where
  row_agree : Agree n r l₀ → Agree n r l
  row_agree A = kept_agree n r l₀ l R.wide (λ v h. F.outside v (λ x y. omega arith)) A

  pub row_ready : length l ≡ length l₀ → i < n → Agree n r l₀ → Fits n r w l × (i < n) × (k < w) × Agree n r l
  row_ready e hi A = ((room_same n r w l₀ l e R).room, hi, hk, row_agree A)

  pub row_next : (y t : ℕ) → t ≡ making n r w → length l ≡ length l₀ → Word k y (λ b. coming (preds_of n r l) b (outs n r w l b) i)
      → Filled l₀ (set l (t + k) y) (making n r w) (k + 1) (λ b. coming (preds_of n r l₀) b (outs n r w l₀ b) i)
  row_next y t et e W = rw et (fill_next l₀ l (making n r w) k y (λ b. coming (preds_of n r l₀) b (outs n r w l₀ b) i) F (omega (arith, R.room))
      (λ b h. W.bits b h ∙ ap₂ (λ (f : ℕ → Bool) (ps : List (List ℕ)). coming ps (k * 64 + b) f i)
      (same_outs n r w l₀ l (λ v x y. F.outside v (λ a b. omega arith)) (k * 64 + b) (omega arith))
      (same_preds n r l₀ l R.wide (λ v x. F.outside v (λ a b. omega arith)))))

-- A visit: the first k words are written

pub record Visiting (n r w i k : ℕ) (nums l₀ l : List ℕ) (t : Bool) : Type 0 where
  pub filled : Filled l₀ l (base n r + i * w) k (λ b. given (preds_of n r l₀) nums b (outs n r w l₀ b) i)
  pub differs : Differs l₀ (base n r + i * w) k (λ b. given (preds_of n r l₀) nums b (outs n r w l₀ b) i) t

pub visiting_start : (n r w i : ℕ) (nums l : List ℕ) → Visiting n r w i 0 nums l l false
visiting_start n r w i nums l = record { filled = fill_none l (base n r + i * w) _; differs = differ_none l (base n r + i * w) _ }

module _ (n r w i k : ℕ) (nums l₀ l : List ℕ) (t : Bool) (R : Room n r w l₀) (G : Visiting n r w i k nums l₀ l t) (hi : i < n) where
  pub visiting_ready : length l ≡ length l₀ → k < w → Agree n r l₀ → Fits n r w l × (i < n) × (k < w) × Agree n r l
  visiting_ready e hk A = ((room_same n r w l₀ l e R).room, hi, hk, kept_agree n r l₀ l R.wide (λ v h. G.filled.outside v (λ x y. omega arith)) A)

  pub visiting_next : (x u : ℕ) (l' : List ℕ) (c z : Bool) → length l ≡ length l₀ → k < w → u ≡ base n r + i * w → Word k x (λ b. given (preds_of n r l) nums b (outs n r w l b) i)
      → Put l l' (u + k) x c → z ≡ (c || t) → Visiting n r w i (k + 1) nums l₀ l' z
  visiting_next x u l' c z el hk eu W Q ez = record {
    filled = rw (Q.word, eu) (fill_next l₀ l (base n r + i * w) k x _ G.filled (omega (arith, row_in i n w hi, R.room)) bits);
    differs = differ_next l₀ l l' (base n r + i * w) k x _ t c z G.filled bits G.differs (rw eu at Q) ez;
  }
    where
      apart : (j : ℕ) → j < n → (b : ℕ) → b < 64 → Away (base n r + j * w + (k * 64 + b) / 64) (base n r + i * w) k
      apart j hj b hb = elim (ℕ_discrete i j) [
        | yes q ↦ rw q (λ x y. omega arith)
        | no q ↦ λ x y. elim (rows_apart i j w q) [ inl a ↦ omega arith | inr a ↦ omega arith ]
      ]

      bits : (b : ℕ) → b < 64 → word_bit x b ≡ given (preds_of n r l₀) nums (k * 64 + b) (outs n r w l₀ (k * 64 + b)) i
      bits b hb = W.bits b hb ∙ ap₂ (λ (f : ℕ → Bool) (ps : List (List ℕ)). given ps nums (k * 64 + b) f i)
          (outs_word n r w l₀ l (k * 64 + b) (λ j hj. G.filled.outside (base n r + j * w + (k * 64 + b) / 64) (apart j hj b hb)))
          (same_preds n r l₀ l R.wide (λ v x. G.filled.outside v (λ a b. omega arith)))

module _ (n r w i : ℕ) (nums l₀ l : List ℕ) (z : Bool) (hi : i < n) (G : Visiting n r w i w nums l₀ l z) where
  new : (b : ℕ) → b < w * 64 → outs n r w l b i ≡ given (preds_of n r l₀) nums b (outs n r w l₀ b) i
  new b h = outs_at n r w l b i hi ∙ G.filled.inside b h

  elsewhere : (b j : ℕ) → b < w * 64 → i ≢ j → (j < n) ⊎ (n ≤ j) → outs n r w l b j ≡ outs n r w l₀ b j
  elsewhere b j h g (inl q) =
      outs_at n r w l b j q
      ∙ filled_off l₀ l (base n r + i * w) w (λ b. given (preds_of n r l₀) nums b (outs n r w l₀ b) i) G.filled ((base n r + j * w) * 64 + b) (λ x y. elim (rows_apart i j w g) [ inl a ↦ omega arith | inr a ↦ omega arith ])
      ∙ sym (outs_at n r w l₀ b j q)
  elsewhere b j h g (inr q) = outs_past n r w l b j q ∙ sym (outs_past n r w l₀ b j q)

  visit_all : Visit n r w i nums l₀ l z
  visit_all = record {
    updated = record {
      cols = λ b h. fun_ext (λ j. go b h j (eqb i j) refl);
      same = λ e b h. new b h ∙ sym (G.differs.same e b h) ∙ sym (outs_at n r w l₀ b i hi);
      other = λ e. (let s = G.differs.other e in (s.0, s.1, λ q. s.2 (sym (outs_at n r w l₀ s.0 i hi) ∙ sym q ∙ new s.0 s.1)));
    };
    kept = λ v h. G.filled.outside v (λ x y. h (omega arith) (omega (arith, row_in i n w hi)));
  }
    where
      go : (b : ℕ) → b < w * 64 → (j : ℕ) (t : Bool) → eqb i j ≡ t → outs n r w l b j ≡ cond t (given (preds_of n r l₀) nums b (outs n r w l₀ b) i) (outs n r w l₀ b j)
      go b h j true e = rw (← eqb-true i j e) (new b h)
      go b h j false e = elsewhere b j h (eqb-false i j e) (lt_or_ge j n)

pub visit_made : (n r w i k : ℕ) (nums l₀ l : List ℕ) (z : Bool) → i < n → k ≤ w → w ≤ k → Visiting n r w i k nums l₀ l z → Visit n r w i nums l₀ l z
visit_made n r w i k nums l₀ l z hi h g G = let e : k ≡ w = omega arith in visit_all n r w i nums l₀ l z hi (rw e at G)

pub visit_word : (n r i x : ℕ) (nums l₀ l : List ℕ) (z : Bool) → i < n → Room n r 1 l₀ → Word 0 x (λ b. given (preds_of n r l₀) nums b (outs n r 1 l₀ b) i)
    → (u : ℕ) → u ≡ base n r → Put l₀ l (u + i) x z → Visit n r 1 i nums l₀ l z
visit_word n r i x nums l₀ l z hi R W u eu Q =
    let p : u + i ≡ base n r + i + 0 = omega arith in
    visit_all n r 1 i nums l₀ l z hi
    (visiting_next n r 1 i 0 nums l₀ l₀ false R (visiting_start n r 1 i nums l₀) hi x (base n r + i) l z z refl (omega arith) (omega arith) W (rw p at Q) (sym (or-false z)))

-- The lists of lines

or_none : (a b : Bool) → (a || b) ≡ false → (a ≡ false) × (b ≡ false)
or_none a b e = (not_so a (λ q. clash (or_left a b q) e), not_so b (λ q. clash (or_right a b q) e))

-- row i of the successors is at word `row`, and x has its bits
module _ (n r i row : ℕ) (l₀ l : List ℕ) (x : Span) (wide : n + 64 ≤ r * 64) (hi : i < n) (er : row ≡ n * r + i * r) (S : Between n l₀ (n * r + i * r) x) where
  abbrev word : ℕ
  word = x.from / 64

  B : Between n l₀ row x
  B = rw er S

  succ_bit : (j : ℕ) → succs n r l₀ i j ≡ bit l₀ (row * 64 + j)
  unfolding succs
  succ_bit j = ap (λ (v : ℕ). bit l₀ (v * 64 + j)) (sym er)

  ahead_at : Filled l₀ l (n * r + n * r + (word - row)) ((x.end + 63) / 64 - word) (joined l₀ (n * r + n * r + (word - row)) word) → Ahead n r i l₀ l
  unfolding todo
  ahead_at F = record {
    kept = λ v h. F.outside v (λ a b. h (omega arith) (omega (arith, B.low, B.order, B.high)));
    old = old;
    new = λ j h e. succ_bit j ∙ (elim (lt_or_ge (row * 64 + j) x.from) [
      | inl a ↦ B.below j h a
      | inr a ↦ elim (lt_or_ge (row * 64 + j) x.end) [
        | inl b ↦ ap (bit l₀) (omega (arith, B.low)) ∙ (both j (omega (arith, B.low)) (omega (arith, B.low)) e).1
        | inr b ↦ B.above j h b
      ]
    ]);
  }
    where
      both : (j : ℕ) → word * 64 ≤ row * 64 + j → row * 64 + j - word * 64 < ((x.end + 63) / 64 - word) * 64 → bit l ((n * r + n * r) * 64 + j) ≡ false
          → (bit l₀ ((n * r + n * r + (word - row)) * 64 + (row * 64 + j - word * 64)) ≡ false) × (bit l₀ (word * 64 + (row * 64 + j - word * 64)) ≡ false)
      both j a b e =
          let k = row * 64 + j - word * 64 in
          let p : (n * r + n * r + (word - row)) * 64 + k ≡ (n * r + n * r) * 64 + j = omega (arith, B.low) in
          or_none (bit l₀ ((n * r + n * r + (word - row)) * 64 + k)) (bit l₀ (word * 64 + k)) (sym (F.inside k b) ∙ ap (bit l) p ∙ e)

      old : (j : ℕ) → j < n → bit l ((n * r + n * r) * 64 + j) ≡ false → bit l₀ ((n * r + n * r) * 64 + j) ≡ false
      old j h e = elim (lt_or_ge (row * 64 + j) (word * 64)) [
        | inl a ↦ sym (filled_off l₀ l _ _ _ F ((n * r + n * r) * 64 + j) (λ y z. omega (arith, B.low))) ∙ e
        | inr a ↦ elim (lt_or_ge (row * 64 + j - word * 64) (((x.end + 63) / 64 - word) * 64)) [
          | inl b ↦ ap (bit l₀) (omega (arith, B.low)) ∙ (both j a b e).0
          | inr b ↦ sym (filled_off l₀ l _ _ _ F ((n * r + n * r) * 64 + j) (λ y z. omega (arith, B.low))) ∙ e
        ]
      ]

  pub ahead_by : (t : ℕ) → t ≡ n * r + n * r → Filled l₀ l (t + (word - row)) ((x.end + 63) / 64 - word) (joined l₀ (t + (word - row)) word) → Ahead n r i l₀ l
  ahead_by t e F = ahead_at (rw e at F)

  pub back_none : row * 64 + i < x.from → Back n r i l₀ l₀
  back_none g = record { kept = λ v h. refl; old = λ j h e. e; new = λ j h e. succ_bit j ∙ B.below j (omega arith) (omega arith) }

  back_at : x.from ≤ row * 64 + i
      → Filled l₀ l (n * r + n * r + r + (word - row)) ((row * 64 + i - word * 64) / 64 + 1) (joined_low l₀ (n * r + n * r + r + (word - row)) word (row * 64 + i - word * 64)) → Back n r i l₀ l
  unfolding next
  back_at g F = record {
    kept = λ v h. F.outside v (λ a b. h (omega arith) (omega (arith, B.low)));
    old = old;
    new = λ j h e. succ_bit j ∙ (elim (lt_or_ge (row * 64 + j) x.from) [
      | inl a ↦ B.below j (omega arith) a
      | inr a ↦ (let k = row * 64 + j - word * 64 in
          ap (bit l₀) (omega (arith, B.low))
          ∙ ap (◌&& bit l₀ (word * 64 + k)) (sym (le-leb k (row * 64 + i - word * 64) (omega (arith, B.low))))
          ∙ (both j (omega (arith, B.low)) (omega (arith, B.low)) e).1)
    ]);
  }
    where
      both : (j : ℕ) → word * 64 ≤ row * 64 + j → row * 64 + j - word * 64 < ((row * 64 + i - word * 64) / 64 + 1) * 64 → bit l ((n * r + n * r + r) * 64 + j) ≡ false
          → (bit l₀ ((n * r + n * r + r + (word - row)) * 64 + (row * 64 + j - word * 64)) ≡ false)
          × ((leb (row * 64 + j - word * 64) (row * 64 + i - word * 64) && bit l₀ (word * 64 + (row * 64 + j - word * 64))) ≡ false)
      both j a b e =
          let k = row * 64 + j - word * 64 in
          let p : (n * r + n * r + r + (word - row)) * 64 + k ≡ (n * r + n * r + r) * 64 + j = omega (arith, B.low) in
          or_none (bit l₀ ((n * r + n * r + r + (word - row)) * 64 + k)) (leb k (row * 64 + i - word * 64) && bit l₀ (word * 64 + k)) (sym (F.inside k b) ∙ ap (bit l) p ∙ e)

      old : (j : ℕ) → j < n → bit l ((n * r + n * r + r) * 64 + j) ≡ false → bit l₀ ((n * r + n * r + r) * 64 + j) ≡ false
      old j h e = elim (lt_or_ge (row * 64 + j) (word * 64)) [
        | inl a ↦ sym (filled_off l₀ l _ _ _ F ((n * r + n * r + r) * 64 + j) (λ y z. omega (arith, B.low))) ∙ e
        | inr a ↦ elim (lt_or_ge (row * 64 + j - word * 64) (((row * 64 + i - word * 64) / 64 + 1) * 64)) [
          | inl b ↦ ap (bit l₀) (omega (arith, B.low)) ∙ (both j a b e).0
          | inr b ↦ sym (filled_off l₀ l _ _ _ F ((n * r + n * r + r) * 64 + j) (λ y z. omega (arith, B.low))) ∙ e
        ]
      ]

  pub back_by : (t : ℕ) → t ≡ n * r + n * r + r → x.from ≤ row * 64 + i
      → Filled l₀ l (t + (word - row)) ((row * 64 + i - word * 64) / 64 + 1) (joined_low l₀ (t + (word - row)) word (row * 64 + i - word * 64)) → Back n r i l₀ l
  back_by t e g F = back_at g (rw e at F)

module _ (n r i : ℕ) (l₀ l₁ : List ℕ) (wide : n + 64 ≤ r * 64) (hi : i < n) (P : Ahead n r i l₀ l₁) where
  pub ahead_between : (x : Span) → Between n l₀ (n * r + i * r) x → Between n l₁ (n * r + i * r) x
  ahead_between x B = record {
    low = B.low;
    order = B.order;
    high = B.high;
    first = λ h. same x.from (omega (arith, B.high)) ∙ B.first h;
    below = λ p h g. same ((n * r + i * r) * 64 + p) (omega arith) ∙ B.below p h g;
    above = λ p h g. same ((n * r + i * r) * 64 + p) (omega arith) ∙ B.above p h g;
  }
    where
      same : (a : ℕ) → a < (n * r + i * r) * 64 + n → bit l₁ a ≡ bit l₀ a
      same a h = same_bit l₁ l₀ a (P.kept (a / 64) (λ y z. omega (arith, row_in i n r hi)))

  pub mark_both : (l : List ℕ) → Back n r i l₁ l → Marked n r i l₀ l
  unfolding todo next
  mark_both l Q = record {
    kept = λ v h. Q.kept v (λ x y. h (omega arith) (omega arith)) ∙ P.kept v (λ x y. h (omega arith) (omega arith));
    todo_old = λ j h e. P.old j h (sym (later j h) ∙ e);
    next_old = λ j h e. sym (before j h) ∙ Q.old j h e;
    todo_new = λ j g h e. P.new j h (sym (later j h) ∙ e);
    next_new = λ j h e. sym (kept_succs n r l₀ l₁ wide (λ v x. P.kept v (λ a b. omega arith)) i j hi (omega arith)) ∙ Q.new j h e;
  }
    where
      later : (j : ℕ) → j < n → bit l ((n * r + n * r) * 64 + j) ≡ bit l₁ ((n * r + n * r) * 64 + j)
      later j h = same_bit l l₁ ((n * r + n * r) * 64 + j) (Q.kept (((n * r + n * r) * 64 + j) / 64) (λ x y. omega arith))

      before : (j : ℕ) → j < n → bit l₁ ((n * r + n * r + r) * 64 + j) ≡ bit l₀ ((n * r + n * r + r) * 64 + j)
      before j h = same_bit l₁ l₀ ((n * r + n * r + r) * 64 + j) (P.kept (((n * r + n * r + r) * 64 + j) / 64) (λ x y. omega arith))

pub preds_row : (n r i u : ℕ) (l : List ℕ) → Agree n r l → i < n → u ≡ i * r → Spanned n r l u
preds_row n r i u l A hi e = rw e (A.preds_in i hi)

pub succs_row : (n r i u : ℕ) (l : List ℕ) → Agree n r l → i < n → u ≡ n * r + i * r → Spanned n r l u
succs_row n r i u l A hi e = rw e (A.succs_in i hi)

pub succs_between : (n r i u : ℕ) (l : List ℕ) (x : Span) → u ≡ n * r + i * r → Between n l u x → Between n l (n * r + i * r) x
succs_between n r i u l x e B = rw (← e) B

-- the lists are not where a visit writes
module _ (n r w i : ℕ) (nums l₀ l : List ℕ) (z : Bool) (wide : n + 64 ≤ r * 64) (Q : Visit n r w i nums l₀ l z) where
  visit_todo : (j : ℕ) → j < n → todo n r l j ≡ todo n r l₀ j
  unfolding todo
  visit_todo j h = same_bit l l₀ ((n * r + n * r) * 64 + j) (Q.kept (((n * r + n * r) * 64 + j) / 64) (λ x y. omega arith))

  visit_next : (j : ℕ) → j < n → next n r l j ≡ next n r l₀ j
  unfolding next
  visit_next j h = same_bit l l₀ ((n * r + n * r + r) * 64 + j) (Q.kept (((n * r + n * r + r) * 64 + j) / 64) (λ x y. omega arith))

  pub visit_agree : Agree n r l₀ → Agree n r l
  visit_agree A = kept_agree n r l₀ l wide (λ v h. Q.kept v (λ x y. omega arith)) A

  pub step_same : z ≡ false → Step n r w i nums l₀ l false
  unfolding Kept
  step_same e = record {
    updated = rw e at Q.updated;
    kept = λ v h. Q.kept v (λ x y. h (omega arith) (omega arith));
    todo_old = λ j h f. sym (visit_todo j h) ∙ f;
    next_old = λ j h f. sym (visit_next j h) ∙ f;
    todo_new = λ f. absurd (true≢false (sym f));
    next_new = λ f. absurd (true≢false (sym f));
  }

  pub step_changed : (l' : List ℕ) → i < n → z ≡ true → Marked n r i l l' → Step n r w i nums l₀ l' true
  unfolding Kept
  step_changed l' hi e M = record {
    updated = record {
      cols = λ b h. outs_kept b h ∙ Q.updated.cols b h;
      same = λ f. absurd (true≢false f);
      other = λ f. (let s = Q.updated.other e in (s.0, s.1, λ q. s.2 (sym (ap (λ (g : ℕ → Bool). g i) (outs_kept s.0 s.1)) ∙ q)));
    };
    kept = λ v h. M.kept v (λ x y. h (omega arith) (omega arith)) ∙ Q.kept v (λ x y. h (omega arith) (omega arith));
    todo_old = λ j h f. sym (visit_todo j h) ∙ M.todo_old j h f;
    next_old = λ j h f. sym (visit_next j h) ∙ M.next_old j h f;
    todo_new = λ f j g h x. sym (succs_kept j h) ∙ M.todo_new j g h x;
    next_new = λ f j h x. sym (succs_kept j (omega arith)) ∙ M.next_new j h x;
  }
    where
      outs_kept : (b : ℕ) → b < w * 64 → outs n r w l' b ≡ outs n r w l b
      outs_kept b h = same_outs n r w l l' (λ v x y. M.kept v (λ a b. omega arith)) b h

      succs_kept : (j : ℕ) → j < n → succs n r l i j ≡ succs n r l₀ i j
      succs_kept j h = kept_succs n r l₀ l wide (λ v x. Q.kept v (λ a b. omega arith)) i j hi h

  pub visit_full : Full n r l₀ → Full n r l
  visit_full F j h = visit_todo j h ∙ F j h

pub ahead_full : (n r i : ℕ) (l : List ℕ) → Full n r l → Ahead n r i l l
ahead_full n r i l F = record { kept = λ v h. refl; old = λ j h f. f; new = λ j h f. clash (F j h) f }

pub step_full : (n r w i : ℕ) (nums l₀ l : List ℕ) (z : Bool) → Step n r w i nums l₀ l z → Full n r l₀ → Full n r l
step_full n r w i nums l₀ l z P F j h = elim (decided (todo n r l j)) [ inl e ↦ e | inr e ↦ clash (F j h) (P.todo_old j h e) ]

-- Before the first sweep, and between sweeps

pub start_lists : (n r w : ℕ) (l₀ l₁ l : List ℕ) → n + 64 ≤ r * 64 → Filled l₀ l₁ (n * r + n * r + r) (r + n * w) (λ k. false) → Filled l₁ l (n * r + n * r) r (λ k. true) → Started n r w l₀ l
unfolding Kept todo
start_lists n r w l₀ l₁ l wide F G = record {
  kept = λ v q. G.outside v (λ x y. q x (omega arith)) ∙ F.outside v (λ x y. q (omega arith) (omega arith));
  empty = λ b q. same_outs n r w l₁ l (λ v x y. G.outside v (λ a b. omega arith)) b q ∙ fun_ext (λ j. none b q j (lt_or_ge j n));
  all = λ j q. G.inside j (omega arith);
}
  where
    none : (b : ℕ) → b < w * 64 → (j : ℕ) → (j < n) ⊎ (n ≤ j) → outs n r w l₁ b j ≡ false
    none b q j (inl x) = outs_at n r w l₁ b j x ∙ ap (bit l₁) (omega arith) ∙ F.inside ((r + j * w) * 64 + b) (omega (arith, row_in j n w x))
    none b q j (inr x) = outs_past n r w l₁ b j x

pub turn_lists : (n r : ℕ) (l₀ l₁ l : List ℕ) → n + 64 ≤ r * 64 → Filled l₀ l₁ (n * r + n * r) r (copied l₀ (n * r + n * r + r)) → Filled l₁ l (n * r + n * r + r) r (λ k. false) → Turned n r l₀ l
unfolding todo next
turn_lists n r l₀ l₁ l wide F G = record {
  kept = λ v h. G.outside v (λ x y. h (omega arith) (omega arith)) ∙ F.outside v (λ x y. h (omega arith) (omega arith));
  list = λ j h. filled_off l₁ l (n * r + n * r + r) r (λ k. false) G ((n * r + n * r) * 64 + j) (λ x y. omega arith) ∙ F.inside j (omega arith);
}

pub ruleset step_rules = (fill_none, fill_end, word_there, word_none, come_entry, come_later, make_coming, make_own, gather_start, gather_next, preds_row, succs_row, succs_between, ahead_full, ahead_by, back_none, back_by, mark_both, visiting_start, visit_made, step_same)
