-- The outgoing sets of the definitions are told apart by their members.
--   swept_none     what is no definition leaves no line
--   after_alike    a sweep that changes no member of a set changes no set
--   sweeps_are     the first sweep that changes nothing is the last: the number of sweeps, and the sets
--   sweeps_more    while every sweep changes something, there are more sweeps
-- Assumes nothing.
use Prim.Native.Nat.{ℕ, zero, suc, ◌<◌, ◌≤◌}
use mathlib.Core.Path.{◌≡◌, refl, sym, ap, ◌∙◌}
use mathlib.Core.Logic.{◌≢◌, inl, inr}
use mathlib.Core.Bool.{Bool, true, false, cond}
use mathlib.Core.List.{List, [], ◌∷◌}
use native.Mathlib.Omega.{arith}
use lib.ListN.{length, get_or, set, length-set}
use lib.Seq.{get_or-set_same, get_or-set_other, ext_get_or}
use Rattle.definitions.specs.Lists.{any, fold, range, up_to, member}
use Rattle.definitions.specs.Sweeps.{incoming, outgoing, sweep, sweeps}
use Rattle.definitions.specs.Reaching.{is_definition}
use Rattle.theory.proofs.Bools.{clash, not_so, lt_or_ge, eq_or_lt}
use Rattle.theory.proofs.ListLaws.{filter_alike, no_members, replicate_default, fold_up_to}
use Rattle.theory.proofs.Paths.{reaches_definition}
use Rattle.theory.proofs.OneDefinition.{swept, swept_sound}
use Rattle.theory.proofs.Sweeping.{column, after, length_after, sweeps_ended}

module _ (preds : List (List ℕ)) (defs : List ℕ) where
  pub swept_none : (d t j : ℕ) → is_definition (λ i. member i defs) d ≡ false → swept preds (λ i. member i defs) d t j ≡ false
  swept_none d t j e = not_so (swept preds (λ i. member i defs) d t j) (λ q. elim (swept_sound preds (λ i. member i defs) d t j q) [
    | inl x ↦ clash x.1 e
    | inr x ↦ clash (reaches_definition x.0) e
  ])

  outgoing_alike : (o p : List (List ℕ)) (i : ℕ) → ((d : ℕ) → member d (outgoing preds defs o i) ≡ member d (outgoing preds defs p i))
      → outgoing preds defs o i ≡ outgoing preds defs p i
  unfolding outgoing incoming
  outgoing_alike o p i h = go i (member i defs) h
    where
      go : (i : ℕ) (b : Bool) → ((d : ℕ) → member d (cond b (i ∷ []) (incoming preds defs o i)) ≡ member d (cond b (i ∷ []) (incoming preds defs p i)))
          → cond b (i ∷ []) (incoming preds defs o i) ≡ cond b (i ∷ []) (incoming preds defs p i)
      go i true h = refl
      go zero false h = refl
      go (suc i) false h = filter_alike _ _ (0 ∷ defs) h

  -- a sweep up to line k
  abbrev upto : ℕ → List (List ℕ) → List (List ℕ)
  upto k out = fold (λ o i. set o i (outgoing preds defs o i)) out (up_to k)

  upto_suc : (k : ℕ) (out : List (List ℕ)) → upto (suc k) out ≡ set (upto k out) k (outgoing preds defs (upto k out) k)
  upto_suc k out = fold_up_to (λ o i. set o i (outgoing preds defs o i)) out k

  length_upto : (k : ℕ) (out : List (List ℕ)) → length (upto k out) ≡ length out
  unfolding fold range
  length_upto zero out = refl
  length_upto (suc k) out = ap length (upto_suc k out) ∙ length-set (upto k out) k (outgoing preds defs (upto k out) k) ∙ length_upto k out

  -- a set that is worked out is outgoing of some sets
  upto_at : (k j : ℕ) (out : List (List ℕ)) → j < k → k ≤ length out → (o : List (List ℕ)) × (get_or (upto k out) j [] ≡ outgoing preds defs o j)
  upto_at zero j out h l = absurd (omega arith)
  upto_at (suc k) j out h l = elim (eq_or_lt h) [
    | inl q ↦ (upto k out, rw (q, upto_suc k out) (get_or-set_same (upto k out) k (outgoing preds defs (upto k out) k) [] (omega (arith, length_upto k out))))
    | inr q ↦ (let s = upto_at k j out q (omega arith) in
        (s.0, rw (upto_suc k out) (get_or-set_other (upto k out) k j (outgoing preds defs (upto k out) k) [] (omega arith) ∙ s.1)))
  ]

  after_at : (t j : ℕ) → j < length preds → (o : List (List ℕ)) × (get_or (after preds defs (suc t)) j [] ≡ outgoing preds defs o j)
  unfolding after sweep
  after_at t j h = upto_at (length preds) j (after preds defs t) h (omega (arith, length_after preds defs t))

  empty_row : (j : ℕ) → get_or (after preds defs 0) j [] ≡ []
  unfolding after
  empty_row j = replicate_default (length preds) j []

  no_member : (d : ℕ) → member d [] ≡ false
  unfolding any
  no_member d = refl

  pub after_alike : (t : ℕ) → ((d j : ℕ) → column d (after preds defs (suc t)) j ≡ column d (after preds defs t) j) → after preds defs (suc t) ≡ after preds defs t
  after_alike t h = ext_get_or [] (after preds defs (suc t)) (after preds defs t) (length_after preds defs (suc t) ∙ sym (length_after preds defs t))
      (λ j q. alike t h j (rw (length_after preds defs (suc t)) at q))
    where
      alike : (t : ℕ) → ((d j : ℕ) → column d (after preds defs (suc t)) j ≡ column d (after preds defs t) j) → (j : ℕ) → j < length preds → get_or (after preds defs (suc t)) j [] ≡ get_or (after preds defs t) j []
      alike zero h j q = no_members (get_or (after preds defs 1) j []) (λ d. h d j ∙ ap (member d) (empty_row j) ∙ no_member d) ∙ sym (empty_row j)
      alike (suc t) h j q =
          let x = after_at (suc t) j q in
          let y = after_at t j q in
          x.1 ∙ outgoing_alike x.0 y.0 j (λ d. ap (member d) (sym x.1) ∙ h d j ∙ ap (member d) y.1) ∙ sym y.1

  pub sweeps_are : (t : ℕ) → after preds defs (suc t) ≡ after preds defs t → ((u : ℕ) → u < t → after preds defs (suc u) ≢ after preds defs u)
      → ((sweeps preds defs).count ≡ suc t) × ((sweeps preds defs).out ≡ after preds defs (suc t))
  sweeps_are t still moving =
      let e = sweeps_ended preds defs in
      let last : e.last ≡ t = elim (lt_or_ge e.last t) [
        | inl q ↦ absurd (moving e.last q e.still)
        | inr q ↦ elim (lt_or_ge t e.last) [ inl x ↦ absurd (e.moving t x still) | inr x ↦ omega arith ]
      ] in
      (e.count_is ∙ ap suc last, e.out_is ∙ ap (λ (u : ℕ). after preds defs (suc u)) last)

  pub sweeps_more : (t : ℕ) → ((u : ℕ) → u < t → after preds defs (suc u) ≢ after preds defs u) → t < (sweeps preds defs).count
  sweeps_more t moving =
      let e = sweeps_ended preds defs in
      elim (lt_or_ge e.last t) [ inl q ↦ absurd (moving e.last q e.still) | inr q ↦ omega (arith, e.count_is) ]
