-- The sweeps of the definitions, over any predecessor lists and any list of defining lines.
--   after t, length_after            the outgoing sets after t sweeps, one for each line
--   column d out                     the lines that the definition d leaves, in the outgoing sets out
--   incoming_column, after_column    of one definition the sets say what `OneDefinition` says
--   after_stops                      after as many sweeps as there are lines a sweep changes no set
--   Ended                            how sweeps end: by one that changes nothing, the first such, at most one more than there are lines
--   sweeps_ended                     `sweeps` ends so: its fuel never ends it
--   sweeps_still, sweeps_count       in short: one more sweep changes nothing; how many there are
--   incoming_reaches                 at the end a definition is in the incoming set of a line exactly if it reaches the line
-- Assumes nothing.
use Prim.Native.Nat.{ℕ, zero, suc, ◌+◌, ◌<◌, ◌≤◌}
use mathlib.Core.Path.{◌≡◌, refl, sym, ap, ap₂, ◌∙◌, fun_ext}
use mathlib.Core.Logic.{◌≢◌, inl, inr, ◌↔◌}
use mathlib.Core.Bool.{Bool, true, false, cond, or-false, false≢true}
use mathlib.Core.List.{List, [], ◌∷◌}
use native.Mathlib.Omega.{arith}
use lib.Dec.{eqb}
use borrow.Author.Tests.{eqb-true, eqb-false}
use lib.ListN.{length, get_or, set, replicate, length-set, length-replicate}
use lib.Seq.{get_or-set_same, get_or-set_other, ext_get_or}
use Rattle.definitions.specs.Lists.{any, fold, range, up_to, member, ◌≟◌}
use Rattle.definitions.specs.Sweeps.{incoming, outgoing, sweep, same_sets, Swept, one_more, sweeps_from, sweeps}
use Rattle.definitions.specs.Reaching.{is_definition, Reaches}
use Rattle.theory.proofs.Bools.{clash, and_both, and_split, lt_or_ge, eq_or_lt}
use Rattle.theory.proofs.ListLaws.{replicate_default, member_filter, filter_alike, fold_up_to, ≟_true, ≟_self}
use Rattle.theory.proofs.Paths.{definition_cases, reaches_definition}
use Rattle.theory.proofs.OneDefinition.{enters, comes, leaves, visit, lines, swept, swept_sound, swept_stops, comes_iff}

-- `same_sets` decides equality

same_sets_true : (a b : List (List ℕ)) → same_sets a b ≡ true → a ≡ b
unfolding same_sets
same_sets_true [] [] e = refl
same_sets_true [] (y ∷ b) e = absurd (false≢true e)
same_sets_true (x ∷ a) [] e = absurd (false≢true e)
same_sets_true (x ∷ a) (y ∷ b) e =
    let r = and_split (x ≟ y) (same_sets a b) e in
    ap₂ (λ (s : List ℕ) (l : List (List ℕ)). s ∷ l) (≟_true x y r.0) (same_sets_true a b r.1)

same_sets_self : (a : List (List ℕ)) → same_sets a a ≡ true
unfolding same_sets
same_sets_self [] = refl
same_sets_self (x ∷ a) = and_both (≟_self x) (same_sets_self a)

-- the lines that the definition d leaves, in the outgoing sets out
abbrev pub column : ℕ → List (List ℕ) → ℕ → Bool
column d out j = member d (get_or out j [])

module _ (preds : List (List ℕ)) (defs : List ℕ) where
  abbrev pub defining : ℕ → Bool
  defining i = member i defs

  unfoldable pub after : ℕ → List (List ℕ)
  after zero = replicate (length preds) []
  after (suc t) = sweep preds defs (after t)

  -- One line, of one definition

  pub incoming_column : (out : List (List ℕ)) (i d : ℕ) → member d (incoming preds defs out i) ≡ comes preds defining d (column d out) i
  unfolding any incoming
  incoming_column out zero d = or-false (eqb d 0)
  incoming_column out (suc i) d = member_filter (λ d. any (λ p. member d (get_or out p [])) (get_or preds (suc i) [])) (0 ∷ defs) d

  outgoing_column : (out : List (List ℕ)) (i d : ℕ) → member d (outgoing preds defs out i) ≡ leaves preds defining d (column d out) i
  unfolding any outgoing
  outgoing_column out i d = go (member i defs)
    where
      go : (b : Bool)
          → any (eqb d) (cond b (i ∷ []) (incoming preds defs out i)) ≡ cond b (eqb d i) (comes preds defining d (column d out) i)
      go true = or-false (eqb d i)
      go false = incoming_column out i d

  -- the outgoing sets of one line are equal if their members are
  outgoing_alike : (o p : List (List ℕ)) (i : ℕ) → ((d : ℕ) → member d (outgoing preds defs o i) ≡ member d (outgoing preds defs p i))
      → outgoing preds defs o i ≡ outgoing preds defs p i
  unfolding outgoing incoming
  outgoing_alike o p i h = go i (member i defs) h
    where
      set_of : ℕ → Bool → List (List ℕ) → List ℕ
      set_of i b o = cond b (i ∷ []) (incoming preds defs o i)

      go : (i : ℕ) (b : Bool) → ((d : ℕ) → member d (set_of i b o) ≡ member d (set_of i b p)) → set_of i b o ≡ set_of i b p
      go i true h = refl
      go zero false h = refl
      go (suc i) false h = filter_alike _ _ (0 ∷ defs) h

  -- One sweep, line by line

  -- line i worked out anew, and the lines below k
  abbrev work : List (List ℕ) → ℕ → List (List ℕ)
  work out i = set out i (outgoing preds defs out i)

  done : ℕ → List (List ℕ) → List (List ℕ)
  done zero out = out
  done (suc k) out = work (done k out) k

  sweep_done : (out : List (List ℕ)) → sweep preds defs out ≡ done (length preds) out
  unfolding sweep done fold range
  sweep_done out = go (length preds)
    where
      go : (k : ℕ) → fold work out (up_to k) ≡ done k out
      go zero = refl
      go (suc k) = fold_up_to work out k ∙ ap (λ (o : List (List ℕ)). work o k) (go k)

  length_done : (k : ℕ) (out : List (List ℕ)) → length (done k out) ≡ length out
  unfolding done
  length_done zero out = refl
  length_done (suc k) out = length-set (done k out) k (outgoing preds defs (done k out) k) ∙ length_done k out

  pub length_after : (t : ℕ) → length (after t) ≡ length preds
  unfolding after
  length_after zero = length-replicate (length preds) []
  length_after (suc t) = rw sweep_done (length_done (length preds) (after t) ∙ length_after t)

  done_at : (m j : ℕ) (out : List (List ℕ)) → j < m → m ≤ length out → get_or (done m out) j [] ≡ outgoing preds defs (done j out) j
  unfolding done
  done_at zero j out h l = absurd (omega arith)
  done_at (suc m) j out h l = elim (eq_or_lt h) [
    | inl q ↦ rw q (get_or-set_same (done m out) m (outgoing preds defs (done m out) m) [] (omega (arith, length_done m out)))
    | inr q ↦ get_or-set_other (done m out) m j (outgoing preds defs (done m out) m) [] (omega arith) ∙ done_at m j out q (omega arith)
  ]

  work_column : (out : List (List ℕ)) (i d : ℕ) → i < length out → column d (work out i) ≡ visit preds defining d (column d out) i
  work_column out i d h = fun_ext (λ j. go j (eqb i j) refl)
    where
      go : (j : ℕ) (b : Bool) → eqb i j ≡ b → column d (work out i) j ≡ cond b (leaves preds defining d (column d out) i) (column d out j)
      go j true e = rw (← (eqb-true i j e), get_or-set_same out i (outgoing preds defs out i) [] h) (outgoing_column out i d)
      go j false e = ap (member d) (get_or-set_other out i j (outgoing preds defs out i) [] (λ q. eqb-false i j e (sym q)))

  done_column : (k : ℕ) (out : List (List ℕ)) (d : ℕ) → k ≤ length out → column d (done k out) ≡ lines preds defining d k (column d out)
  unfolding done
  done_column zero out d h = refl
  done_column (suc k) out d h =
      work_column (done k out) k d (omega (arith, length_done k out))
      ∙ ap (λ (f : ℕ → Bool). visit preds defining d f k) (done_column k out d (omega arith))

  pub after_column : (t d : ℕ) → column d (after t) ≡ swept preds defining d t
  unfolding any after
  after_column zero d = fun_ext (λ j. rw replicate_default)
  after_column (suc t) d =
      rw sweep_done (done_column (length preds) (after t) d (omega (arith, length_after t))
      ∙ ap (lines preds defining d (length preds)) (after_column t d))

  -- Sweeps that change no column change no set, from the second on

  after_at : (t j : ℕ) → j < length preds → get_or (after (suc t)) j [] ≡ outgoing preds defs (done j (after t)) j
  unfolding after
  after_at t j h = rw sweep_done (done_at (length preds) j (after t) h (omega (arith, length_after t)))

  pub after_stops : (t : ℕ) → length preds ≤ t → after (suc t) ≡ after t
  unfolding after sweep fold range
  after_stops zero h = let e : length preds ≡ 0 = omega arith in rw e
  after_stops (suc t) h =
      ext_get_or [] (after (suc (suc t))) (after (suc t)) (length_after (suc (suc t)) ∙ sym (length_after (suc t)))
      (λ j q. alike j (rw (length_after (suc (suc t))) at q))
    where
      columns : (d : ℕ) → column d (after (suc (suc t))) ≡ column d (after (suc t))
      columns d = after_column (suc (suc t)) d ∙ swept_stops preds defining d (suc t) h ∙ sym (after_column (suc t) d)

      alike : (j : ℕ) → j < length preds → get_or (after (suc (suc t))) j [] ≡ get_or (after (suc t)) j []
      alike j q =
          let new = after_at (suc t) j q in
          let old = after_at t j q in
          new ∙ outgoing_alike (done j (after (suc t))) (done j (after t)) j
          (λ d. sym (ap (member d) new) ∙ ap (λ (f : ℕ → Bool). f j) (columns d) ∙ ap (member d) old)
          ∙ sym old

  -- How sweeps end

  -- The sweep after `last` others changed nothing, every one before it did, and r has what they left.
  pub record Ended (r : Swept) : Type 0 where
    pub last : ℕ
    pub count_is : r.count ≡ suc last
    pub bound : last ≤ length preds
    pub out_is : r.out ≡ after (suc last)
    pub still : after (suc last) ≡ after last
    pub moving : (t : ℕ) → t < last → after (suc t) ≢ after t

  -- the same of sweeps of which t are done before
  abbrev EndedFrom : ℕ → Swept → Type 0
  EndedFrom t r =
      (last : ℕ) × (t + r.count ≡ suc last) × (last ≤ length preds) × (r.out ≡ after (suc last)) × (after (suc last) ≡ after last)
      × ((u : ℕ) → t ≤ u → u < last → after (suc u) ≢ after u)

  sweeps_from_ended : (k t : ℕ) → t + k ≡ suc (length preds) → t ≤ length preds → EndedFrom t (sweeps_from preds defs k (after t))
  unfolding sweeps_from after
  sweeps_from_ended zero t h l = absurd (omega arith)
  sweeps_from_ended (suc k) t h l = go (same_sets (after (suc t)) (after t)) refl (λ q. sweeps_from_ended k (suc t) (omega arith) q)
    where
      changed : same_sets (after (suc t)) (after t) ≡ false → after (suc t) ≢ after t
      changed e q = clash (rw q (same_sets_self (after t))) e

      early : same_sets (after (suc t)) (after t) ≡ false → suc t ≤ length preds
      early e = elim (lt_or_ge t (length preds)) [ inl q ↦ q | inr q ↦ absurd (changed e (after_stops t q)) ]

      go : (b : Bool) → same_sets (after (suc t)) (after t) ≡ b
          → (suc t ≤ length preds → EndedFrom (suc t) (sweeps_from preds defs k (after (suc t))))
          → EndedFrom t (elim b [
            | true ↦ record { out = after (suc t); count = 1 }
            | false ↦ one_more (sweeps_from preds defs k (after (suc t)))
          ])
      go true e rest = (t, omega arith, l, refl, same_sets_true (after (suc t)) (after t) e, λ u a b. absurd (omega arith))
      go false e rest =
          let r = rest (early e) in
          let first : (u : ℕ) → t ≤ u → u < r.0 → after (suc u) ≢ after u =
          λ u a b. elim (lt_or_ge t u) [
            | inl q ↦ r.5 u q b
            | inr q ↦ (let s : u ≡ t = omega arith in rw s (changed e))
          ] in
          (r.0, omega (arith, r.1), r.2, r.3, r.4, first)

  pub sweeps_ended : Ended (sweeps preds defs)
  unfolding sweeps after
  sweeps_ended =
      let r = sweeps_from_ended (suc (length preds)) 0 (omega arith) (omega arith) in
      record {
        last = r.0;
        count_is = omega (arith, r.1);
        bound = r.2;
        out_is = r.3;
        still = r.4;
        moving = λ t h. r.5 t (omega arith) h;
      }

  -- the last sweep changed nothing
  pub sweeps_still : sweep preds defs (sweeps preds defs).out ≡ (sweeps preds defs).out
  unfolding after
  sweeps_still = let e = sweeps_ended in rw e.out_is (ap (sweep preds defs) e.still)

  pub sweeps_count : (1 ≤ (sweeps preds defs).count) × ((sweeps preds defs).count ≤ suc (length preds))
  sweeps_count = let e = sweeps_ended in (omega (arith, e.count_is), omega (arith, e.count_is, e.bound))

  -- What the sets are at the end

  incoming_iff : (d i : ℕ) → d < length preds → 0 < i
      → (member d (incoming preds defs (sweeps preds defs).out i) ≡ true) ↔ Reaches (enters preds) defining d i
  unfolding after
  incoming_iff d i h p =
      let e = sweeps_ended in
      let l : ℕ = e.last in
      let still : lines preds defining d (length preds) (swept preds defining d (suc l)) ≡ swept preds defining d (suc l) =
      sym (after_column (suc (suc l)) d) ∙ ap (column d) (ap (sweep preds defs) e.still) ∙ after_column (suc l) d in
      rw (incoming_column (sweeps preds defs).out i d, e.out_is, after_column (suc l) d)
      (comes_iff preds defining d (swept preds defining d (suc l)) still (swept_sound preds defining d (suc l)) h i p)

  incoming_definition : (out : List (List ℕ)) (d i : ℕ) → 0 < i → member d (incoming preds defs out i) ≡ true
      → is_definition defining d ≡ true
  incoming_definition out d zero p e = absurd (omega arith)
  incoming_definition out d (suc i) p e =
      (and_split (is_definition defining d) (any (column d out) (get_or preds (suc i) [])) (sym (incoming_column out (suc i) d) ∙ e)).0

  -- for defining lines that have a predecessor list
  pub incoming_reaches : ((d : ℕ) → member d defs ≡ true → d < length preds) → (d i : ℕ) → 0 < i → i < length preds
      → (member d (incoming preds defs (sweeps preds defs).out i) ≡ true) ↔ Reaches (enters preds) defining d i
  incoming_reaches inside d i p h = (
    λ m. (incoming_iff d i (line_of (incoming_definition (sweeps preds defs).out d i p m)) p).0 m,
    λ r. (incoming_iff d i (line_of (reaches_definition r)) p).1 r,
  )
    where
      line_of : is_definition defining d ≡ true → d < length preds
      line_of s = elim (definition_cases defining d s) [ inl q ↦ omega arith | inr q ↦ inside d q ]
