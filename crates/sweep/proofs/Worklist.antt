-- A sweep that passes over the lines that are not on the list is the sweep over all lines: those lines would not change.
--   given_local               what a line is given depends on its predecessors alone
--   Sweeping                  a sweep before line k: the columns, whether they changed, and the lists
--   sweep_pass, sweep_skip    lines that are not on the list
--   sweep_visit               a line that is visited
--   swept_visit, swept_end    the same of the words; all lines are passed
--   work_start, work_next, work_end, work_agree        the loop of `sweep`
-- Assumes nothing.
use Prim.Native.Nat.{ℕ, zero, suc, ◌+◌, ◌-◌, ◌*◌, ◌<◌, ◌≤◌}
use mathlib.Core.Path.{◌≡◌, refl, sym, ap, ◌∙◌, fun_ext, subst}
use mathlib.Core.Logic.{◌≢◌, inl, inr}
use mathlib.Core.Bool.{Bool, true, false, cond, ◌&&◌, ◌||◌, and-false, or_comm, true≢false}
use mathlib.Core.List.{List, []}
use native.Mathlib.Omega.{arith}
use native.Mathlib.Decide.{ℕ_discrete}
use lib.Dec.{eqb}
use lib.ListN.{get_or}
use borrow.Author.Tests.{eq-eqb, ne_eqb}
use Rattle.definitions.specs.Lists.{up_to, member}
use Rattle.theory.proofs.Bools.{clash, eq_or_lt}
use Rattle.theory.proofs.ListLaws.{member_filter}
use Rattle.bits.specs.Rows.{bit, First}
use Rattle.bits.specs.Edges.{edges, succs, Agree, preds_of}
use Rattle.bits.proofs.EdgeLaws.{preds_of_at}
use Rattle.visit.specs.Layout.{outs, todo, next, Kept}
use Rattle.visit.specs.Steps.{coming, given, visit, visited, Stable, Step, Listed, Sweep}
use Rattle.visit.proofs.ListFacts.{any_alike}
use Rattle.visit.proofs.LayoutLaws.{kept_none, kept_then, kept_preds, kept_both}

module _ (preds : List (List ℕ)) (nums : List ℕ) where
  pub given_local : (b j : ℕ) (f g : ℕ → Bool) → ((p : ℕ) → member p (get_or preds j []) ≡ true → f p ≡ g p) → given preds nums b f j ≡ given preds nums b g j
  given_local b j f g h = ap (λ (t : Bool). cond (eqb (get_or nums j 0) 0) t (eqb b (get_or nums j 0))) (go j h)
    where
      go : (j : ℕ) → ((p : ℕ) → member p (get_or preds j []) ≡ true → f p ≡ g p) → coming preds b f j ≡ coming preds b g j
      go zero h = refl
      go (suc j) h = any_alike f g (get_or preds (suc j) []) h

  visit_here : (b i : ℕ) (f : ℕ → Bool) → visit preds nums b f i i ≡ given preds nums b f i
  visit_here b i f = rw (eq-eqb i i refl)

  visit_there : (b i j : ℕ) (f : ℕ → Bool) → i ≢ j → visit preds nums b f i j ≡ f j
  visit_there b i j f h = rw (ne_eqb i j h)

  visited_before : (b k j : ℕ) (f : ℕ → Bool) → k ≤ j → visited preds nums b k f j ≡ f j
  visited_before b zero j f h = refl
  visited_before b (suc k) j f h = visit_there b k j (visited preds nums b k f) (omega arith) ∙ visited_before b k j f (omega arith)

  module _ (n c : ℕ) where
    pub record Sweeping (S₀ S : ℕ → ℕ → Bool) (k : ℕ) (this later : ℕ → Bool) (z : Bool) : Type 0 where
      pub cols : (b : ℕ) → b < c → S b ≡ visited preds nums b k (S₀ b)
      pub same : z ≡ false → (b : ℕ) → b < c → S b ≡ S₀ b
      pub other : z ≡ true → (b : ℕ) × (b < c) × (j : ℕ) × (j < k) × (S b j ≢ S₀ b j)
      pub ahead : (j : ℕ) → k ≤ j → j < n → this j ≡ false → Stable preds nums c S j
      pub behind : (j : ℕ) → j < k → later j ≡ false → Stable preds nums c S j

    pub sweep_none : (S : ℕ → ℕ → Bool) (this later : ℕ → Bool) → ((j : ℕ) → j < n → this j ≡ false → Stable preds nums c S j) → Sweeping S S 0 this later false
    sweep_none S this later h = record {
      cols = λ b q. refl;
      same = λ e b q. refl;
      other = λ e. absurd (true≢false (sym e));
      ahead = λ j x y e. h j y e;
      behind = λ j x. absurd (omega arith);
    }

    sweep_pass : (S₀ S : ℕ → ℕ → Bool) (k : ℕ) (this later : ℕ → Bool) (z : Bool) → k < n → this k ≡ false → Sweeping S₀ S k this later z → Sweeping S₀ S (suc k) this later z
    sweep_pass S₀ S k this later z h e W = record {
      cols = λ b q. sym (still b q) ∙ ap (λ (f : ℕ → Bool). visit preds nums b f k) (W.cols b q);
      same = W.same;
      other = λ f. (let s = W.other f in (s.0, s.1, s.2, omega (arith, s.3), s.4));
      ahead = λ j x y g. W.ahead j (omega arith) y g;
      behind = λ j x g. elim (eq_or_lt x) [ inl q ↦ rw q (W.ahead k (omega arith) h e) | inr q ↦ W.behind j q g ];
    }
      where
        still : (b : ℕ) → b < c → visit preds nums b (S b) k ≡ S b
        still b q = fun_ext (λ j. elim (ℕ_discrete k j) [
          | yes x ↦ rw (← x) (visit_here b k (S b) ∙ sym (W.ahead k (omega arith) h e b q))
          | no x ↦ visit_there b k j (S b) x
        ])

    pub sweep_skip : (S₀ S : ℕ → ℕ → Bool) (k m : ℕ) (this later : ℕ → Bool) (z : Bool) → k + m ≤ n → ((j : ℕ) → k ≤ j → j < k + m → this j ≡ false)
        → Sweeping S₀ S k this later z → Sweeping S₀ S (k + m) this later z
    sweep_skip S₀ S k zero this later z h g W = let e : k + 0 ≡ k = omega arith in rw e W
    sweep_skip S₀ S k (suc m) this later z h g W =
        let e : k + suc m ≡ suc (k + m) = omega arith in
        rw e (sweep_pass S₀ S (k + m) this later z (omega arith) (g (k + m) (omega arith) (omega arith)) (sweep_skip S₀ S k m this later z (omega arith) (λ j x y. g j x (omega arith)) W))

    module _ (S S' : ℕ → ℕ → Bool) (i : ℕ) (vis : (b : ℕ) → b < c → S' b ≡ visit preds nums b (S b) i) where
      here : (b : ℕ) → b < c → S' b i ≡ given preds nums b (S b) i
      here b h = ap (λ (f : ℕ → Bool). f i) (vis b h) ∙ visit_here b i (S b)

      there : (b j : ℕ) → b < c → i ≢ j → S' b j ≡ S b j
      there b j h g = ap (λ (f : ℕ → Bool). f j) (vis b h) ∙ visit_there b i j (S b) g

      -- a line that i is no predecessor of is given the same
      alike : (j b : ℕ) → b < c → member i (get_or preds j []) ≡ false → given preds nums b (S b) j ≡ given preds nums b (S' b) j
      alike j b h e = given_local b j (S b) (S' b) (λ p m. sym (there b p h (λ x. clash m (rw (← x) e))))

      stays : (j : ℕ) → i ≢ j → member i (get_or preds j []) ≡ false → Stable preds nums c S j → Stable preds nums c S' j
      stays j g e s b h = there b j h g ∙ s b h ∙ alike j b h e

      settles : member i (get_or preds i []) ≡ false → Stable preds nums c S' i
      settles e b h = here b h ∙ alike i b h e

      module _ (unchanged : (b : ℕ) → b < c → S' b i ≡ S b i) where
        as_before : (b : ℕ) → b < c → S' b ≡ S b
        as_before b h = fun_ext (λ j. elim (ℕ_discrete i j) [ yes q ↦ rw (← q) (unchanged b h) | no q ↦ there b j h q ])

        stays_same : (j : ℕ) → Stable preds nums c S j → Stable preds nums c S' j
        stays_same j s b h = rw (as_before b h) (s b h)

        settles_same : Stable preds nums c S' i
        settles_same b h = here b h ∙ ap (λ (f : ℕ → Bool). given preds nums b f i) (sym (as_before b h))

    module _ (S₀ S S' : ℕ → ℕ → Bool) (k : ℕ) (this later this' later' : ℕ → Bool) (t y z : Bool) (hk : k < n)
        (vis : (b : ℕ) → b < c → S' b ≡ visit preds nums b (S b) k)
        (same : y ≡ false → (b : ℕ) → b < c → S' b k ≡ S b k) (other : y ≡ true → (b : ℕ) × (b < c) × (S' b k ≢ S b k))
        (this_old : (j : ℕ) → j < n → this' j ≡ false → this j ≡ false) (later_old : (j : ℕ) → j < n → later' j ≡ false → later j ≡ false)
        (this_new : y ≡ true → (j : ℕ) → k < j → j < n → this' j ≡ false → member k (get_or preds j []) ≡ false)
        (later_new : y ≡ true → (j : ℕ) → j ≤ k → later' j ≡ false → member k (get_or preds j []) ≡ false)
        (ez : z ≡ (y || t)) (W : Sweeping S₀ S k this later t) where
      cols : (b : ℕ) → b < c → S' b ≡ visited preds nums b (suc k) (S₀ b)
      cols b h = vis b h ∙ ap (λ (f : ℕ → Bool). visit preds nums b f k) (W.cols b h)

      -- line k is as it was before the sweep
      untouched : (b : ℕ) → b < c → S b k ≡ S₀ b k
      untouched b h = ap (λ (f : ℕ → Bool). f k) (W.cols b h) ∙ visited_before b k k (S₀ b) (omega arith)

      pub sweep_visit : Sweeping S₀ S' (suc k) this' later' z
      sweep_visit = go y refl
        where
          go : (q : Bool) → y ≡ q → Sweeping S₀ S' (suc k) this' later' z
          go true e = record {
            cols = cols;
            same = λ f. clash (ez ∙ rw e) f;
            other = λ f. (let s = other e in (s.0, s.1, k, omega arith, λ x. s.2 (x ∙ sym (untouched s.0 s.1))));
            ahead = λ j x h f. stays S S' k vis j (omega arith) (this_new e j x h f) (W.ahead j (omega arith) h (this_old j h f));
            behind = λ j x f. elim (eq_or_lt x) [
              | inl q ↦ rw q (settles S S' k vis (later_new e k (omega arith) (rw (← q) f)))
              | inr q ↦ stays S S' k vis j (omega arith) (later_new e j (omega arith) f) (W.behind j q (later_old j (omega arith) f))
            ];
          }
          go false e =
              let zt : z ≡ t = ez ∙ rw e in
              record {
                cols = cols;
                same = λ f b h. as_before S S' k vis (same e) b h ∙ W.same (sym zt ∙ f) b h;
                other = λ f. (let s = W.other (sym zt ∙ f) in (s.0, s.1, s.2, omega (arith, s.3), λ x. s.4 (sym (ap (λ (g : ℕ → Bool). g s.2) (as_before S S' k vis (same e) s.0 s.1)) ∙ x)));
                ahead = λ j x h f. stays_same S S' k vis (same e) j (W.ahead j (omega arith) h (this_old j h f));
                behind = λ j x f. elim (eq_or_lt x) [
                  | inl q ↦ rw q (settles_same S S' k vis (same e))
                  | inr q ↦ stays_same S S' k vis (same e) j (W.behind j q (later_old j (omega arith) f))
                ];
              }

-- The words l, where the sweep began with l₀ and is before line k

module _ (n r w : ℕ) (nums : List ℕ) where
  abbrev Swept : List ℕ → List ℕ → ℕ → Bool → Type 0
  Swept l₀ l k z = Sweeping (preds_of n r l₀) nums n (w * 64) (outs n r w l₀) (outs n r w l) k (todo n r l) (next n r l) z

  -- no edge leads from k to j
  no_edge : (l₀ l : List ℕ) (k j : ℕ) → n + 64 ≤ r * 64 → Agree n r l₀ → Kept n r w l₀ l → k < n → j < n → succs n r l k j ≡ false → member k (get_or (preds_of n r l₀) j []) ≡ false
  no_edge l₀ l k j wide A K hk hj e =
      ap (λ (ps : List (List ℕ)). member k (get_or ps j [])) (sym (kept_preds n r w l₀ l wide K)) ∙ ap (member k) (preds_of_at n r l j hj)
      ∙ member_filter (λ i. edges n r l i j) (up_to n) k ∙ ap (member k (up_to n) &&◌) (sym ((kept_both n r w l₀ l wide K A).both k j hk hj) ∙ e) ∙ and-false (member k (up_to n))

  swept_visit : (l₀ l l' : List ℕ) (k : ℕ) (t y z : Bool) → n + 64 ≤ r * 64 → Agree n r l₀ → Kept n r w l₀ l → k < n → Step n r w k nums l l' y → z ≡ (y || t)
      → Swept l₀ l k t → Swept l₀ l' (suc k) z
  swept_visit l₀ l l' k t y z wide A K hk P ez W =
      sweep_visit (preds_of n r l₀) nums n (w * 64) (outs n r w l₀) (outs n r w l) (outs n r w l') k (todo n r l) (next n r l) (todo n r l') (next n r l') t y z hk
      (λ b h. P.updated.cols b h ∙ ap (λ (ps : List (List ℕ)). visit ps nums b (outs n r w l b) k) (kept_preds n r w l₀ l wide K))
      P.updated.same P.updated.other P.todo_old P.next_old
      (λ e j x h f. no_edge l₀ l k j wide A K hk h (P.todo_new e j x h f)) (λ e j h f. no_edge l₀ l k j wide A K hk (omega (arith, hk)) (P.next_new e j h f))
      ez W

  swept_end : (l₀ l : List ℕ) (k : ℕ) (z : Bool) → n + 64 ≤ r * 64 → Kept n r w l₀ l → k ≡ n → Swept l₀ l k z → Sweep n r w nums l₀ l z
  unfolding Listed
  swept_end l₀ l k z wide K e W =
      let D = subst (λ (x : ℕ). Swept l₀ l x z) e W in
      record {
        cols = D.cols;
        kept = K;
        same = D.same;
        other = λ f. (let s = D.other f in (s.0, s.1, λ x. s.4 (ap (λ (g : ℕ → Bool). g s.2) x)));
        listed = λ j x f b g. rw (kept_preds n r w l₀ l wide K) (D.behind j x f b g);
      }

  -- The loop of `sweep`: the list stands at bit a on, up to bit e, and bit q is next

  pub record Working (l₀ l : List ℕ) (a e q : ℕ) (z : Bool) : Type 0 where
    pub low : a ≤ q
    pub high : q ≤ e
    pub kept : Kept n r w l₀ l
    pub sweeping : Swept l₀ l (q - a) z

  skip_to : (l₀ l : List ℕ) (a k q : ℕ) (z : Bool) → a ≡ (n * r + n * r) * 64 → k ≤ q → q ≤ n → ((j : ℕ) → a + k ≤ j → j < a + q → bit l j ≡ false)
      → Swept l₀ l k z → Swept l₀ l q z
  unfolding todo
  skip_to l₀ l a k q z ea h g none W =
      let e : k + (q - k) ≡ q = omega arith in
      subst (λ (x : ℕ). Swept l₀ l x z) e
      (sweep_skip (preds_of n r l₀) nums n (w * 64) (outs n r w l₀) (outs n r w l) k (q - k) (todo n r l) (next n r l) z (omega arith)
      (λ j x y. ap (bit l) (omega arith) ∙ none (a + j) (omega arith) (omega arith)) W)

  work_first : (l : List ℕ) (q : ℕ) → Listed n r w nums l (todo n r l) → First l ((n * r + n * r) * 64) ((n * r + n * r) * 64 + n) q
      → Working l l ((n * r + n * r) * 64) ((n * r + n * r) * 64 + n) q false
  unfolding Listed
  work_first l q L F = record {
    low = F.from;
    high = F.upto;
    kept = kept_none n r w l;
    sweeping = skip_to l l ((n * r + n * r) * 64) 0 (q - (n * r + n * r) * 64) false refl (omega arith) (omega (arith, F.upto)) (λ j x y. F.none j (omega arith) (omega (arith, F.from)))
        (sweep_none (preds_of n r l) nums n (w * 64) (outs n r w l) (todo n r l) (next n r l) L);
  }

  pub work_start : (l : List ℕ) (q a : ℕ) → a ≡ (n * r + n * r) * 64 → Listed n r w nums l (todo n r l) → First l a (a + n) q → Working l l a (a + n) q false
  work_start l q a e L F = rw e (work_first l q L (rw e at F))

  work_more : (l₀ l l' : List ℕ) (q q' : ℕ) (t y z : Bool) → n + 64 ≤ r * 64 → Agree n r l₀
      → Working l₀ l ((n * r + n * r) * 64) ((n * r + n * r) * 64 + n) q t → q < (n * r + n * r) * 64 + n
      → Step n r w (q - (n * r + n * r) * 64) nums l l' y → z ≡ (t || y) → First l' (q + 1) ((n * r + n * r) * 64 + n) q'
      → Working l₀ l' ((n * r + n * r) * 64) ((n * r + n * r) * 64 + n) q' z
  work_more l₀ l l' q q' t y z wide A W hq P ez F =
      let a = (n * r + n * r) * 64 in
      let k = q - a in
      record {
        low = omega (arith, F.from, W.low);
        high = F.upto;
        kept = kept_then n r w l₀ l l' W.kept P.kept;
        sweeping = skip_to l₀ l' a (suc k) (q' - a) z refl (omega (arith, F.from, W.low)) (omega (arith, F.upto)) (λ j x y. F.none j (omega (arith, W.low)) (omega (arith, F.from, W.low)))
            (swept_visit l₀ l l' k t y z wide A W.kept (omega (arith, W.low)) P (ez ∙ or_comm t y) W.sweeping);
      }

  pub work_next : (l₀ l l' : List ℕ) (q q' a : ℕ) (t y z : Bool) → a ≡ (n * r + n * r) * 64 → n + 64 ≤ r * 64 → Agree n r l₀ → Working l₀ l a (a + n) q t → q < a + n
      → Step n r w (q - a) nums l l' y → z ≡ (t || y) → First l' (q + 1) (a + n) q' → Working l₀ l' a (a + n) q' z
  work_next l₀ l l' q q' a t y z e wide A W hq P ez F = rw e (work_more l₀ l l' q q' t y z wide A (rw e at W) (rw e at hq) (rw e at P) ez (rw e at F))

  pub work_agree : (l₀ l : List ℕ) (a e q : ℕ) (z : Bool) → n + 64 ≤ r * 64 → Working l₀ l a e q z → Agree n r l₀ → Agree n r l
  work_agree l₀ l a e q z wide W A = kept_both n r w l₀ l wide W.kept A

  pub work_end : (l₀ l : List ℕ) (a q : ℕ) (z : Bool) → n + 64 ≤ r * 64 → Working l₀ l a (a + n) q z → a + n ≤ q → Sweep n r w nums l₀ l z
  work_end l₀ l a q z wide W h = swept_end l₀ l (q - a) z wide W.kept (omega (arith, W.high)) W.sweeping
