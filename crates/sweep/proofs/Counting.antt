-- The bit rows after each sweep hold the definition's sets, so the number of sweeps is the definition's.
--   given_leaves                        a visit gives a column what `OneDefinition.leaves` says of the definition with that number
--   swept_next                          so a sweep takes a column from `swept t` to `swept (suc t)`
--   sweep_moved, sweep_still            a column changes exactly if an outgoing set does
--   solve_start, solve_next             the sweeps of `solve`
--   solve_done, solve_over              the two ends of its loop
--   first-*                             its first sweep, before the loop
--   budget_enough                       with a budget of n + 1 sweeps the answer is their number
--   incoming_made                       the row in the making is the incoming set
--   incoming_kept, incoming_holds       the outgoing rows, the edges and all else are as they were
-- Assumes nothing.
use Prim.Native.Nat.{ℕ, zero, suc, ◌+◌, ◌*◌, ◌<◌, ◌≤◌}
use mathlib.Core.Path.{◌≡◌, refl, sym, ap, ap₂, ◌∙◌, fun_ext, subst}
use mathlib.Core.Logic.{◌≢◌, ◌⊎◌, inl, inr}
use mathlib.Core.Bool.{Bool, true, false, cond, ◌&&◌, or-false}
use mathlib.Core.List.{List, []}
use native.Mathlib.Omega.{arith}
use native.Mathlib.Numerals.{add-one}
use native.Mathlib.Decide.{ℕ_discrete}
use lib.Dec.{eqb}
use lib.ListN.{length, get_or}
use borrow.Author.Tests.{ne_eqb, le-leb, lt-leb}
use Rattle.definitions.specs.Lists.{any, up_to, member}
use Rattle.definitions.specs.Sweeps.{incoming, sweeps}
use Rattle.definitions.specs.Reaching.{is_definition}
use Rattle.theory.proofs.Bools.{clash, not_so, decided, lt_or_ge}
use Rattle.theory.proofs.ListLaws.{any_found, filter_passes, member_range}
use Rattle.theory.proofs.OneDefinition.{comes, leaves, lines, swept}
use Rattle.theory.proofs.Sweeping.{column, after, after_column, incoming_column, sweeps_count}
use Rattle.bits.specs.Rows.{Filled}
use Rattle.bits.specs.Edges.{edges, Agree, preds_of}
use Rattle.bits.proofs.EdgeLaws.{length_preds_of, preds_of_at}
use Rattle.visit.specs.Layout.{making, outs, todo, Kept}
use Rattle.visit.specs.Numbers.{defining_lines, line_of, Numbered}
use Rattle.visit.specs.Steps.{coming, given, visited, Listed, Sweep, Started, Turned}
use Rattle.std.specs.Prelude.{Option, Some, None}
use Rattle.sweep.specs.Solved.{Holds, Solved, Incoming}
use Rattle.visit.proofs.ListFacts.{any_alike}
use Rattle.visit.proofs.LayoutLaws.{same_outs, same_preds, kept_none, kept_then, kept_preds, kept_both}
use Rattle.sweep.proofs.Numbering.{line_at, line_at_line, defines_yes, defines_no, line_at_entry, line_at_definition, line_at_none, definition_number, line_at_own}
use Rattle.sweep.proofs.Sets.{swept_none, after_alike, sweeps_are, sweeps_more}

abbrev defines : ℕ → List ℕ → ℕ → Bool
defines n nums i = member i (defining_lines n nums)

any_none : (f : ℕ → Bool) (xs : List ℕ) → ((j : ℕ) → f j ≡ false) → any f xs ≡ false
any_none f xs h = not_so (any f xs) (λ e. let s = any_found f xs e in clash s.2 (h s.0))

-- Columns

module _ (n w : ℕ) (nums : List ℕ) (preds : List (List ℕ)) (N : Numbered n w nums) (pos : 0 < n) where
  -- the number b is not given, and bit b is nowhere
  abbrev Unused : ℕ → (ℕ → Bool) → Type 0
  Unused b f = length (defining_lines n nums) < b → (j : ℕ) → f j ≡ false

  later : (i : ℕ) → (get_or nums i 0 ≡ 0 → ⊥) → 0 < i
  later zero e = absurd (e N.entry)
  later (suc i) e = omega arith

  given_none : (b : ℕ) (f : ℕ → Bool) → length (defining_lines n nums) < b → ((j : ℕ) → f j ≡ false) → (i : ℕ) → i < n → given preds nums b f i ≡ false
  given_none b f u z i h = elim (ℕ_discrete (get_or nums i 0) 0) [
    | yes e ↦ rw e (none i)
    | no e ↦ rw (ne_eqb (get_or nums i 0) 0 e) (ne_eqb b (get_or nums i 0) (λ q. omega (arith, (N.number i (later i e) h e).0)))
  ]
    where
      none : (i : ℕ) → coming preds b f i ≡ false
      none zero = ne_eqb b 0 (omega arith)
      none (suc i) = any_none f (get_or preds (suc i) []) z

  given_leaves : (b : ℕ) (f : ℕ → Bool) → Unused b f → (i : ℕ) → i < n → given preds nums b f i ≡ leaves preds (defines n nums) (line_at n nums b) f i
  given_leaves b f u i h = elim (ℕ_discrete (get_or nums i 0) 0) [
    | yes e ↦ rw (e, defines_no n nums i e) (come i)
    | no e ↦ rw (ne_eqb (get_or nums i 0) 0 e, defines_yes n nums i (later i e) h e) (line_at_own n nums w N i (later i e) h e b)
  ]
    where
      come : (i : ℕ) → coming preds b f i ≡ comes preds (defines n nums) (line_at n nums b) f i
      come zero = line_at_entry n nums pos b
      come (suc i) = elim (lt_or_ge (length (defining_lines n nums)) b) [
        | inl q ↦ any_none f (get_or preds (suc i) []) (u q) ∙ sym (ap (◌&& any f (get_or preds (suc i) [])) (line_at_none n nums pos b q))
        | inr q ↦ sym (ap (◌&& any f (get_or preds (suc i) [])) (line_at_definition n nums b q))
      ]

  visited_none : (b : ℕ) (f : ℕ → Bool) → length (defining_lines n nums) < b → ((j : ℕ) → f j ≡ false) → (k : ℕ) → k ≤ n → (j : ℕ) → visited preds nums b k f j ≡ false
  visited_none b f u z zero h j = z j
  visited_none b f u z (suc k) h j = go (eqb k j) (visited_none b f u z k (omega arith))
    where
      go : (t : Bool) → ((j : ℕ) → visited preds nums b k f j ≡ false) → cond t (given preds nums b (visited preds nums b k f) k) (visited preds nums b k f j) ≡ false
      go true r = given_none b (visited preds nums b k f) u r k h
      go false r = r j

  visited_lines : (b : ℕ) (f : ℕ → Bool) → Unused b f → (k : ℕ) → k ≤ n → visited preds nums b k f ≡ lines preds (defines n nums) (line_at n nums b) k f
  visited_lines b f u zero h = refl
  visited_lines b f u (suc k) h =
      let r = visited_lines b f u k (omega arith) in
      fun_ext (λ j. ap₂ (λ (x y : Bool). cond (eqb k j) x y)
      (given_leaves b (visited preds nums b k f) (λ q. visited_none b f q (u q) k (omega arith)) k h ∙ ap (λ (g : ℕ → Bool). leaves preds (defines n nums) (line_at n nums b) g k) r)
      (ap (λ (g : ℕ → Bool). g j) r))

  swept_next : length preds ≡ n → (t b : ℕ)
      → visited preds nums b n (swept preds (defines n nums) (line_at n nums b) t) ≡ swept preds (defines n nums) (line_at n nums b) (suc t)
  swept_next e t b =
      visited_lines b (swept preds (defines n nums) (line_at n nums b) t) (λ q j. swept_none preds (defining_lines n nums) (line_at n nums b) t j (line_at_none n nums pos b q)) n (omega arith)
      ∙ ap (λ (m : ℕ). lines preds (defines n nums) (line_at n nums b) m (swept preds (defines n nums) (line_at n nums b) t)) (sym e)

  -- Changes

  sweep_moved : (t b : ℕ) → swept preds (defines n nums) (line_at n nums b) (suc t) ≢ swept preds (defines n nums) (line_at n nums b) t
      → after preds (defining_lines n nums) (suc t) ≢ after preds (defining_lines n nums) t
  sweep_moved t b h e =
      h (sym (after_column preds (defining_lines n nums) (suc t) (line_at n nums b)) ∙ ap (column (line_at n nums b)) e ∙ after_column preds (defining_lines n nums) t (line_at n nums b))

  sweep_still : (t : ℕ) → ((b : ℕ) → b < w * 64 → swept preds (defines n nums) (line_at n nums b) (suc t) ≡ swept preds (defines n nums) (line_at n nums b) t)
      → after preds (defining_lines n nums) (suc t) ≡ after preds (defining_lines n nums) t
  sweep_still t h = after_alike preds (defining_lines n nums) t
      (λ d j. ap (λ (f : ℕ → Bool). f j) (after_column preds (defining_lines n nums) (suc t) d) ∙ same d j (decided (is_definition (defines n nums) d))
      ∙ sym (ap (λ (f : ℕ → Bool). f j) (after_column preds (defining_lines n nums) t d)))
    where
      same : (d j : ℕ) → (is_definition (defines n nums) d ≡ true) ⊎ (is_definition (defines n nums) d ≡ false)
          → swept preds (defines n nums) d (suc t) j ≡ swept preds (defines n nums) d t j
      same d j (inl e) =
          let s = definition_number n nums d e in
          subst (λ (x : ℕ). swept preds (defines n nums) x (suc t) j ≡ swept preds (defines n nums) x t j) s.2 (ap (λ (f : ℕ → Bool). f j) (h s.0 (omega (arith, s.1, N.few))))
      same d j (inr e) = swept_none preds (defining_lines n nums) d (suc t) j e ∙ sym (swept_none preds (defining_lines n nums) d t j e)

-- The loop of `solve`: t sweeps are done, each of which changed something

module _ (n r w : ℕ) (nums : List ℕ) where
  abbrev sets : List ℕ → ℕ → List (List ℕ)
  sets l t = after (preds_of n r l) (defining_lines n nums) t

  abbrev col : List ℕ → ℕ → ℕ → ℕ → Bool
  col l b t = swept (preds_of n r l) (defines n nums) (line_at n nums b) t

  pub record Solving (l₀ l : List ℕ) (t : ℕ) : Type 0 where
    pub cols : (b : ℕ) → b < w * 64 → outs n r w l b ≡ col l₀ b t
    pub moving : (u : ℕ) → u < t → sets l₀ (suc u) ≢ sets l₀ u
    pub kept : Kept n r w l₀ l
    pub listed : Listed n r w nums l (todo n r l)

  solve_start : (l₀ l : List ℕ) → Started n r w l₀ l → Solving l l 0
  unfolding Listed
  solve_start l₀ l S = record { cols = S.empty; moving = λ u h. absurd (omega arith); kept = kept_none n r w l; listed = λ j h e. clash (S.all j h) e }

  -- the words where the loop begins, as the words where `solve` does
  solving_own : (l₀ l : List ℕ) (t : ℕ) → n + 64 ≤ r * 64 → Solving l₀ l t → Solving l l t
  solving_own l₀ l t wide P =
      let ps : preds_of n r l ≡ preds_of n r l₀ = kept_preds n r w l₀ l wide P.kept in
      record { cols = λ b h. rw ps (P.cols b h); moving = λ u h. rw ps (P.moving u h); kept = kept_none n r w l; listed = P.listed }

  pub agree_still : (lₑ l₀ l : List ℕ) (t : ℕ) → n + 64 ≤ r * 64 → Kept n r w lₑ l₀ → Solving l₀ l t → Agree n r lₑ → Agree n r l
  agree_still lₑ l₀ l t wide K P A = kept_both n r w lₑ l wide (kept_then n r w lₑ l₀ l K P.kept) A

  module _ (l₀ l l' : List ℕ) (t : ℕ) (z : Bool) (pos : 0 < n) (wide : n + 64 ≤ r * 64) (N : Numbered n w nums) (P : Solving l₀ l t) (Q : Sweep n r w nums l l' z) where
    swept_cols : (b : ℕ) → b < w * 64 → outs n r w l' b ≡ col l₀ b (suc t)
    swept_cols b h =
        Q.cols b h ∙ ap₂ (λ (ps : List (List ℕ)) (f : ℕ → Bool). visited ps nums b n f) (kept_preds n r w l₀ l wide P.kept) (P.cols b h)
        ∙ swept_next n w nums (preds_of n r l₀) N pos (length_preds_of n r l₀) t b

    moved : z ≡ true → sets l₀ (suc t) ≢ sets l₀ t
    moved e = let s = Q.other e in sweep_moved n w nums (preds_of n r l₀) N pos t s.0 (λ q. s.2 (swept_cols s.0 s.1 ∙ q ∙ sym (P.cols s.0 s.1)))

    still : z ≡ false → sets l₀ (suc t) ≡ sets l₀ t
    still e = sweep_still n w nums (preds_of n r l₀) N pos t (λ b h. sym (swept_cols b h) ∙ Q.same e b h ∙ P.cols b h)

    pub solve_next : (l'' : List ℕ) → z ≡ true → Turned n r l' l'' → Solving l₀ l'' (t + 1)
    unfolding Listed Kept
    solve_next l'' e T = rw (add-one t) (record {
      cols = λ b h. outs_kept b h ∙ swept_cols b h;
      moving = λ u h. elim (lt_or_ge u t) [ inl q ↦ P.moving u q | inr q ↦ (let x : u ≡ t = omega arith in rw x (moved e)) ];
      kept = λ v h. T.kept v (λ x y. h x (omega arith)) ∙ Q.kept v h ∙ P.kept v h;
      listed = λ j h f b g.
          ap (λ (c : ℕ → Bool). c j) (outs_kept b g) ∙ Q.listed j h (sym (T.list j h) ∙ f) b g
          ∙ ap₂ (λ (ps : List (List ℕ)) (c : ℕ → Bool). given ps nums b c j) (sym preds_kept) (sym (outs_kept b g));
    })
      where
        outs_kept : (b : ℕ) → b < w * 64 → outs n r w l'' b ≡ outs n r w l' b
        outs_kept b h = same_outs n r w l' l'' (λ v x y. T.kept v (λ a b. omega arith)) b h

        preds_kept : preds_of n r l'' ≡ preds_of n r l'
        preds_kept = same_preds n r l' l'' wide (λ v h. T.kept v (λ x y. omega arith))

    pub solve_done : (lₑ : List ℕ) (budget : ℕ) → Kept n r w lₑ l₀ → t < budget → z ≡ false → Solved n r w nums budget lₑ l' (Some (t + 1))
    solve_done lₑ budget K h e =
        let c = sweeps_are (preds_of n r l₀) (defining_lines n nums) t (still e) P.moving in
        let ps : preds_of n r l₀ ≡ preds_of n r lₑ = kept_preds n r w lₑ l₀ wide K in
        record {
          answers = rw (← ps, c.0, le-leb (suc t) budget h, add-one t);
          holds = λ q. rw (← ps, c.1) (record {
            rows = λ i b hi hb.
                ap (λ (f : ℕ → Bool). f i) (swept_cols b (omega (arith, N.few)) ∙ sym (after_column (preds_of n r l₀) (defining_lines n nums) (suc t) (line_at n nums b)))
                ∙ ap (λ (d : ℕ). member d (get_or (sets l₀ (suc t)) i [])) (line_at_line n nums b hb);
          });
          kept = kept_then n r w lₑ l l' (kept_then n r w lₑ l₀ l K P.kept) Q.kept;
        }

  pub solve_over : (lₑ l₀ l : List ℕ) (t budget : ℕ) → n + 64 ≤ r * 64 → Kept n r w lₑ l₀ → Solving l₀ l t → budget ≤ t → Solved n r w nums budget lₑ l None
  solve_over lₑ l₀ l t budget wide K P h =
      let c : t < (sweeps (preds_of n r lₑ) (defining_lines n nums)).count =
      rw (← kept_preds n r w lₑ l₀ wide K) (sweeps_more (preds_of n r l₀) (defining_lines n nums) t P.moving) in
      record {
        answers = rw (lt-leb (sweeps (preds_of n r lₑ) (defining_lines n nums)).count budget (omega arith));
        holds = λ q. absurd (omega arith);
        kept = kept_then n r w lₑ l₀ l K P.kept;
      }

  -- The first sweep

  pub first_listed : (lₑ l₀ : List ℕ) → Started n r w lₑ l₀ → Listed n r w nums l₀ (todo n r l₀)
  first_listed lₑ l₀ S = (solve_start lₑ l₀ S).listed

  pub first_turned : (lₑ l₀ l l' : List ℕ) (z : Bool) → 0 < n → n + 64 ≤ r * 64 → Numbered n w nums → Started n r w lₑ l₀ → Sweep n r w nums l₀ l z → z ≡ true → Turned n r l l'
      → Solving l' l' 1
  first_turned lₑ l₀ l l' z pos wide N S Q e T = solving_own l₀ l' 1 wide (solve_next l₀ l₀ l 0 z pos wide N (solve_start lₑ l₀ S) Q l' e T)

  pub first_done : (lₑ l₀ l : List ℕ) (z : Bool) (budget : ℕ) → 0 < n → n + 64 ≤ r * 64 → Numbered n w nums → Started n r w lₑ l₀ → Sweep n r w nums l₀ l z → z ≡ false → (budget ≡ 0 → ⊥)
      → Solved n r w nums budget lₑ l (Some 1)
  first_done lₑ l₀ l z budget pos wide N S Q e h = solve_done l₀ l₀ l 0 z pos wide N (solve_start lₑ l₀ S) Q lₑ budget S.kept (omega arith) e

  pub first_over : (lₑ l₀ : List ℕ) (budget : ℕ) → n + 64 ≤ r * 64 → Started n r w lₑ l₀ → budget ≡ 0 → Solved n r w nums budget lₑ l₀ None
  first_over lₑ l₀ budget wide S e = solve_over lₑ l₀ l₀ 0 budget wide S.kept (solve_start lₑ l₀ S) (omega arith)

  pub first_kept : (lₑ l₀ l l' : List ℕ) (z : Bool) → Started n r w lₑ l₀ → Sweep n r w nums l₀ l z → Turned n r l l' → Kept n r w lₑ l'
  unfolding Kept
  first_kept lₑ l₀ l l' z S Q T v h = T.kept v (λ x y. h x (omega arith)) ∙ Q.kept v h ∙ S.kept v h

  pub budget_enough : (budget : ℕ) (lₑ l : List ℕ) (a : Option ℕ) → Solved n r w nums budget lₑ l a → n + 1 ≤ budget
      → a ≡ Some (sweeps (preds_of n r lₑ) (defining_lines n nums)).count
  budget_enough budget lₑ l a S h =
      S.answers ∙ rw (le-leb (sweeps (preds_of n r lₑ) (defining_lines n nums)).count budget
      (omega (arith, (sweeps_count (preds_of n r lₑ) (defining_lines n nums)).1, length_preds_of n r lₑ)))

-- The incoming set of a line

pub incoming_made : (n r w i : ℕ) (l₀ l : List ℕ) → 0 < n → i < n
    → Filled l₀ l (making n r w) w (λ b. coming (preds_of n r l₀) b (outs n r w l₀ b) i) → Incoming n r w i l₀ l
unfolding any incoming
incoming_made n r w i l₀ l pos hi F = record {
  row = λ nums out N H b h. F.inside b (omega (arith, N.few)) ∙ made nums out H b h i hi;
  kept = F.outside;
}
  where
    inside : (i p : ℕ) → i < n → member p (get_or (preds_of n r l₀) i []) ≡ true → p < n
    inside i p h m = omega (arith, (member_range p 0 n (filter_passes (λ k. edges n r l₀ k i) (up_to n) p (rw (preds_of_at n r l₀ i h) at m)).0).1)

    made : (nums : List ℕ) (out : List (List ℕ)) → Holds n r w nums out l₀ → (b : ℕ) → b ≤ length (defining_lines n nums) → (i : ℕ) → i < n
        → coming (preds_of n r l₀) b (outs n r w l₀ b) i ≡ member (line_of n nums b) (incoming (preds_of n r l₀) (defining_lines n nums) out i)
    made nums out H b h zero q = line_at_entry n nums pos b ∙ ap (λ (d : ℕ). eqb d 0) (line_at_line n nums b h) ∙ sym (or-false (eqb (line_of n nums b) 0))
    made nums out H b h (suc i) q =
        any_alike (outs n r w l₀ b) (column (line_of n nums b) out) (get_or (preds_of n r l₀) (suc i) []) (λ p m. H.rows p b (inside (suc i) p q m) h)
        ∙ sym (incoming_column (preds_of n r l₀) (defining_lines n nums) out (suc i) (line_of n nums b)
        ∙ ap (◌&& any (column (line_of n nums b) out) (get_or (preds_of n r l₀) (suc i) []))
        (ap (is_definition (defines n nums)) (sym (line_at_line n nums b h)) ∙ line_at_definition n nums b h))

module _ (n r w i : ℕ) (l₀ l : List ℕ) (I : Incoming n r w i l₀ l) where
  pub incoming_kept : Kept n r w l₀ l
  unfolding Kept
  incoming_kept v h = I.kept v (λ x y. h (omega arith) (omega arith))

  pub incoming_holds : (nums : List ℕ) (out : List (List ℕ)) → Numbered n w nums → Holds n r w nums out l₀ → Holds n r w nums out l
  incoming_holds nums out N H = record {
    rows = λ j b hj hb.
        ap (λ (f : ℕ → Bool). f j) (same_outs n r w l₀ l (λ v x y. I.kept v (λ a b. omega arith)) b (omega (arith, N.few))) ∙ H.rows j b hj hb;
  }
