-- The sweeps of a listing are few: the public call's budget is never used up.
--   total_few         a listing of n lines needs at most n × (n + 1) sweeps
--   within_enough     with a budget of 4,294,967,295 sweeps the call is that without one
--   of_limits         with question 1's limits it is the web call
-- Assumes nothing.
use Rattle.std.specs.Prelude.{Option, None, Some}
use Prim.Native.Nat.{ℕ, suc, ◌+◌, ◌-◌, ◌*◌, ◌≤◌}
use mathlib.Core.Path.{◌≡◌, refl}
use mathlib.Core.Bool.{Bool, true, false, cond, not}
use mathlib.Core.List.{List, [], ◌∷◌, map}
use native.Mathlib.Omega.{arith}
use native.Mathlib.Nat.{suc-mul, mul-le-mul_right}
use borrow.Author.Tests.{le-leb, leb-true}
use lib.Dec.{leb}
use lib.ListN.{length, length-map}
use Rattle.definitions.specs.Lists.{◌>>=◌, require, or_else, filter, fold}
use Rattle.definitions.specs.Model.{Line}
use Rattle.definitions.specs.Columns.{listing}
use Rattle.definitions.specs.Questions.{Limits, limits, question_1}
use Rattle.definitions.specs.FlowGraph.{flow_graph}
use Rattle.definitions.specs.Recover.{def_lines, address_taken, webs_of, defined_families, recover, total_sweeps}
use Rattle.definitions.specs.Answers.{Answer, refused, Numbered, webs_refusal, webs}
use Rattle.definitions.specs.Calls.{Lent, Called, webs_written, web_call}
use Rattle.theory.proofs.ListLaws.{length_range}
use Rattle.theory.proofs.Sweeping.{sweeps_count}
use Rattle.theory.proofs.Graph.{predecessor_lists}
use Rattle.theory.proofs.Accepted.{all_webs}
use Rattle.model.proofs.Ands.{both}
use Rattle.model.proofs.Decode.{length_listing}
use Rattle.families.proofs.Numbered.{families_all, families_few}
use Rattle.questions.proofs.Refusing.{refusal_yes}
use Rattle.pseudo_ssa.proofs.Written.{accepted_webs, refused_webs}
use Rattle.pseudo_ssa.specs.Within.{web_refusal_within, web_call_of, within_budget, web_call_within}

module _ (L : List Line) (preds : List (List ℕ)) where
  family_few : (f : List ℕ) → (webs_of L preds f).sweeps ≤ suc (length preds)
  unfolding webs_of
  family_few f = (sweeps_count preds (def_lines L f)).1

  families_sum : (p : List ℕ → Bool) (fs : List (List ℕ)) (a : ℕ)
      → fold (λ n w. n + w.sweeps) a (map (webs_of L preds) (filter p fs)) ≤ a + length fs * suc (length preds)
  unfolding fold filter
  families_sum p [] a = omega arith
  families_sum p (f ∷ fs) a = rw suc-mul (go (p f) (families_sum p fs a) (families_sum p fs (a + (webs_of L preds f).sweeps)))
    where
      go : (b : Bool)
          → fold (λ n w. n + w.sweeps) a (map (webs_of L preds) (filter p fs)) ≤ a + length fs * suc (length preds)
          → fold (λ n w. n + w.sweeps) (a + (webs_of L preds f).sweeps) (map (webs_of L preds) (filter p fs)) ≤ a + (webs_of L preds f).sweeps + length fs * suc (length preds)
          → fold (λ n w. n + w.sweeps) a (map (webs_of L preds) (cond b (f ∷ filter p fs) (filter p fs))) ≤ a + (length fs * suc (length preds) + suc (length preds))
      go true r s = omega (arith, s, family_few f)
      go false r s = omega (arith, r)

-- A listing

families_few_all : (L : List Line) (n : ℕ) → length L ≡ suc n → length (defined_families L) ≤ n
families_few_all L n e = rw (← families_all L, e) (families_few L n)

module _ (L : List Line) (few : length L ≤ 1024) where
  pub total_few : total_sweeps (or_else (recover L) []) ≤ 4294967295
  unfolding recover fold
  total_few = go (leb 2 (length L)) refl (flow_graph L)
    where
      length_preds : (G : List (List ℕ)) → length (predecessor_lists L G) ≡ length L
      length_preds G = rw (length-map, length_range)

      go : (b : Bool) → leb 2 (length L) ≡ b → (o : Option (List (List ℕ)))
          → total_sweeps (or_else (require b >>= λ _. o >>= λ G. Some (all_webs L G)) []) ≤ 4294967295
      go false e o = omega arith
      go true e None = omega arith
      go true e (Some G) =
          let preds = predecessor_lists L G in
          let a = families_sum L preds (λ f. not (address_taken L f)) (defined_families L) 0 in
          let two = leb-true 2 (length L) e in
          let m = families_few_all L (length L - 1) (omega arith) in
          let h : length (defined_families L) * suc (length preds) ≤ 1024 * suc (length preds) = mul-le-mul_right (suc (length preds)) (omega (arith, m)) in
          omega (arith, a, h, length_preds G)

  budget_kept : within_budget 4294967295 (webs L) ≡ webs L
  unfolding within_budget
  budget_kept = go (webs_refusal L) refl
    where
      go : (o : Option ℕ) → webs_refusal L ≡ o → within_budget 4294967295 (webs L) ≡ webs L
      go (Some n) e = rw (refused_webs L n e)
      go None e = rw (accepted_webs L e, le-leb _ _ total_few)

pub within_enough : (m : Limits) (l t x : List ℕ) (o : Lent) → m.lines ≤ 1024 → web_call_within m 4294967295 l t x o ≡ web_call_of m l t x o
unfolding web_call_within web_call_of
within_enough m l t x o few = go (web_refusal_within m l t x o) refl
  where
    called_with : Option ℕ → Answer Numbered → Called ℕ
    called_with q a = elim q [ Some n ↦ record { answer = refused n; lent = o } | None ↦ webs_written a o ]

    go : (q : Option ℕ) → web_refusal_within m l t x o ≡ q → called_with q (within_budget 4294967295 (webs (listing l t x))) ≡ called_with q (webs (listing l t x))
    go (Some n) e = refl
    go None e =
        let y : question_1 m l t x ≡ true = (refusal_yes 1 _ _ e).0 in
        let h : length l ≤ m.lines = leb-true _ _ (both _ _ (both _ _ y).0).0 in
        rw (budget_kept (listing l t x) (rw (length_listing l t x) (omega arith)))

pub of_limits : (l t x : List ℕ) (o : Lent) → web_call_of limits l t x o ≡ web_call l t x o
unfolding web_call_of web_call
of_limits l t x o = refl
