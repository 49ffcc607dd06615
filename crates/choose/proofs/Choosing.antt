-- The chooser's cases, by the web call's equation, and the law that it gives what one of the two calls gives.
--   Early, Late              the web call refused by question 1 to 5, or by question 7 to 9
--   early, late              which, by its number
--   chosen_webs, chosen_early, chosen_splits    the chooser's answer in each case
--   equation_of, passed      what the code has at hand: the equation, and that the questions are answered yes
--   of_limits                with question 1's limits it is the chooser
--   as_webs, as_splits       what the chooser gives is, word for word, what that one of the two calls gives
-- Assumes nothing.
use Rattle.std.specs.Prelude.{Option, None, Some, Result, Ok, Err}
use Prim.Native.Nat.{ℕ, ◌≤◌, ◌<◌}
use mathlib.Core.Path.{◌≡◌, refl, sym, ap, ap₂, ◌∙◌}
use mathlib.Core.Logic.{◌⊎◌, inl, inr}
use mathlib.Core.Bool.{Bool, true, false, cond, not}
use mathlib.Core.List.{List, [], ◌∷◌}
use native.Mathlib.Omega.{arith}
use lib.Dec.{leb}
use lib.ListN.{length, length-replicate}
use Rattle.definitions.specs.Lists.{is_some}
use Rattle.definitions.specs.Model.{Line}
use Rattle.definitions.specs.Blocks.{blocks}
use Rattle.definitions.specs.FlowGraph.{gotos_lead}
use Rattle.definitions.specs.Columns.{listing}
use Rattle.definitions.specs.Questions.{Limits, limits, covers, refusal}
use Rattle.definitions.specs.Answers.{Answer, refused, accepted, Numbered, webs_refusal, webs, splits, Choice, chose_webs, chose_splits, choose}
use Rattle.definitions.specs.Calls.{Lent, Called, zeros, zero_lent, filled, written, webs_written, web_refusal, web_call, split_refusal, split_call, Chosen, by_webs, by_splits, chosen_written, choose_call}
use Rattle.model.proofs.Ands.{both}
use Rattle.questions.specs.Refusals.{number}
use Rattle.questions.specs.declared.Refusal.{Refusal}
use Rattle.pseudo_ssa.specs.Within.{web_refusal_within, web_call_of, web_call_within}
use Rattle.pseudo_ssa.specs.Answers.{lent, called as web_called}
use Rattle.pseudo_ssa.proofs.Asking.{asked}
use Rattle.pseudo_ssa.proofs.Budget.{within_enough}
use Rattle.choose.specs.declared.Choice.TheVariants.{ByWebs, BySplits}
use Rattle.choose.specs.Choices.{called, choose_call_of}

-- The numbers of refusals

refused_number : {A : Type 0} {n k : ℕ} → ◌≡◌ {A = Answer A} (refused n) (refused k) → n ≡ k
refused_number e = cc

accepted_sweeps : {s k : ℕ} → ◌≡◌ {A = Answer ℕ} (accepted s) (accepted k) → s ≡ k
accepted_sweeps e = cc

refused≢accepted : {A : Type 0} {n : ℕ} {a : A} → refused n ≡ accepted a → ⊥
refused≢accepted e = let z : ◌≡◌ {A = ℕ} 0 1 = cc in absurd (omega arith)

few : (a b c d e : Bool) (k : ℕ) → refusal ((1, a) ∷ (2, b) ∷ (3, c) ∷ (4, d) ∷ (5, e) ∷ []) ≡ Some k → k ≤ 5
unfolding refusal
few false b c d e k q = let z : 1 ≡ k = cc in omega arith
few true false c d e k q = let z : 2 ≡ k = cc in omega arith
few true true false d e k q = let z : 3 ≡ k = cc in omega arith
few true true true false e k q = let z : 4 ≡ k = cc in omega arith
few true true true true false k q = let z : 5 ≡ k = cc in omega arith
few true true true true true k q = let z : ◌≡◌ {A = ℕ} 0 1 = cc in absurd (omega arith)

four_yes : (a b c d e : Bool) → refusal ((1, a) ∷ (2, b) ∷ (3, c) ∷ (4, d) ∷ (5, e) ∷ []) ≡ None
    → refusal ((1, a) ∷ (2, b) ∷ (3, c) ∷ (4, d) ∷ []) ≡ None
unfolding refusal
four_yes false b c d e q = q
four_yes true false c d e q = q
four_yes true true false d e q = q
four_yes true true true false e q = q
four_yes true true true true e q = refl

webs_late : (L : List Line) (k : ℕ) → webs L ≡ refused k → 7 ≤ k
unfolding webs webs_refusal
webs_late L k = go (leb 2 (length L)) (is_some (blocks L)) (gotos_lead L) _
  where
    answered : Option ℕ → Numbered → Answer Numbered
    answered o N = elim o [ Some n ↦ refused n | None ↦ accepted N ]

    go : (two b g : Bool) (N : Numbered) → answered (cond (not two) (Some 7) (cond (not b) (Some 8) (cond (not g) (Some 9) None))) N ≡ refused k → 7 ≤ k
    go false b g N q = let z : 7 ≡ k = cc in omega arith
    go true false g N q = let z : 8 ≡ k = cc in omega arith
    go true true false N q = let z : 9 ≡ k = cc in omega arith
    go true true true N q = let z : ◌≡◌ {A = ℕ} 0 1 = cc in absurd (omega arith)

splits_chosen : (L : List Line) (n : ℕ) → webs L ≡ refused n → choose L ≡ chose_splits (splits L)
unfolding choose
splits_chosen L n e = rw (e, choose)

-- The web call refused

pub record Early (m : Limits) (l t x ns ms ws : List ℕ) (n : ℕ) (ns₁ ms₁ ws₁ : List ℕ) : Type 0 where
  pub asked : web_refusal_within m l t x (lent ns ms ws) ≡ Some n
  pub same : lent ns₁ ms₁ ws₁ ≡ lent ns ms ws

pub record Late (m : Limits) (l t x ns ms ws : List ℕ) (n : ℕ) (ns₁ ms₁ ws₁ : List ℕ) : Type 0 where
  pub asked : web_refusal_within m l t x (lent ns ms ws) ≡ None
  pub refused : webs (listing l t x) ≡ refused n
  pub zero : lent ns₁ ms₁ ws₁ ≡ zero_lent (lent ns ms ws)

module _ (m : Limits) (l t x ns ms ws : List ℕ) (r : Refusal) (ns₁ ms₁ ws₁ : List ℕ)
    (equation : web_called (Err r) ns₁ ms₁ ws₁ ≡ web_call_of m l t x (lent ns ms ws)) where
  abbrev n : ℕ
  n = number r

  either : Early m l t x ns ms ws n ns₁ ms₁ ws₁ ⊎ Late m l t x ns ms ws n ns₁ ms₁ ws₁
  unfolding web_call_of webs_written
  either = asked (web_refusal_within m l t x (lent ns ms ws)) refl equation
    where
      o : Lent
      o = lent ns ms ws

      called_with : Option ℕ → Called ℕ
      called_with q = elim q [ Some k ↦ record { answer = refused k; lent = o } | None ↦ webs_written (webs (listing l t x)) o ]

      worked : (a : Answer Numbered) → webs (listing l t x) ≡ a → web_refusal_within m l t x o ≡ None → web_called (Err r) ns₁ ms₁ ws₁ ≡ webs_written a o
          → Early m l t x ns ms ws n ns₁ ms₁ ws₁ ⊎ Late m l t x ns ms ws n ns₁ ms₁ ws₁
      worked (refused k) w q e =
          let z : n ≡ k = refused_number (ap (λ (c : Called ℕ). c.answer) e) in
          inr (record { asked = q; refused = w ∙ ap refused (sym z); zero = ap (λ (c : Called ℕ). c.lent) e })
      worked (accepted r) w q e = absurd (refused≢accepted (ap (λ (c : Called ℕ). c.answer) e))

      asked : (q : Option ℕ) → web_refusal_within m l t x o ≡ q → web_called (Err r) ns₁ ms₁ ws₁ ≡ called_with q
          → Early m l t x ns ms ws n ns₁ ms₁ ws₁ ⊎ Late m l t x ns ms ws n ns₁ ms₁ ws₁
      asked (Some k) q e =
          let z : n ≡ k = refused_number (ap (λ (c : Called ℕ). c.answer) e) in
          inl (record { asked = q ∙ ap Some (sym z); same = ap (λ (c : Called ℕ). c.lent) e })
      asked None q e = worked (webs (listing l t x)) refl q e

  pub early : n < 7 → Early m l t x ns ms ws n ns₁ ms₁ ws₁
  early h = go either
    where
      go : Early m l t x ns ms ws n ns₁ ms₁ ws₁ ⊎ Late m l t x ns ms ws n ns₁ ms₁ ws₁ → Early m l t x ns ms ws n ns₁ ms₁ ws₁
      go (inl a) = a
      go (inr b) = absurd (omega (arith, webs_late (listing l t x) n b.refused))

  pub late : 7 ≤ n → Late m l t x ns ms ws n ns₁ ms₁ ws₁
  late h = go either
    where
      go : Early m l t x ns ms ws n ns₁ ms₁ ws₁ ⊎ Late m l t x ns ms ws n ns₁ ms₁ ws₁ → Late m l t x ns ms ws n ns₁ ms₁ ws₁
      go (inl a) = absurd (omega (arith, few _ _ _ _ _ n a.asked))
      go (inr b) = b

-- The chooser's answers

same_length : (s z : List ℕ) → z ≡ zeros s → length z ≡ length s
same_length s z e = rw e (length-replicate (length s) 0)

filled_same : (r a b : List ℕ) → length a ≡ length b → filled r a ≡ filled r b
filled_same r a b e = rw e

module _ (m : Limits) (l t x ns ms ws : List ℕ) where
  abbrev o : Lent
  o = lent ns ms ws

  abbrev L : List Line
  L = listing l t x

  pub chosen_webs : (s : ℕ) (ns₁ ms₁ ws₁ : List ℕ) → web_called (Ok s) ns₁ ms₁ ws₁ ≡ web_call_of m l t x (lent ns ms ws)
      → called (Ok (ByWebs s)) ns₁ ms₁ ws₁ ≡ choose_call_of m l t x (lent ns ms ws)
  unfolding web_call_of choose_call_of webs_written chosen_written choose
  chosen_webs s ns₁ ms₁ ws₁ = asked (web_refusal_within m l t x o) refl
    where
      web_called_with : Option ℕ → Called ℕ
      web_called_with q = elim q [ Some k ↦ record { answer = refused k; lent = o } | None ↦ webs_written (webs L) o ]

      chosen_of : Answer Numbered → Choice
      chosen_of a = elim a [ refused n ↦ chose_splits (splits L) | accepted r ↦ chose_webs r ]

      called_with : Option ℕ → Called Chosen
      called_with q = elim q [ Some k ↦ record { answer = refused k; lent = o } | None ↦ chosen_written (chosen_of (webs L)) o ]

      worked : (a : Answer Numbered) → web_called (Ok s) ns₁ ms₁ ws₁ ≡ webs_written a o → called (Ok (ByWebs s)) ns₁ ms₁ ws₁ ≡ chosen_written (chosen_of a) o
      worked (refused k) e = absurd (refused≢accepted (ap (λ (c : Called ℕ). c.answer) (sym e)))
      worked (accepted r) e =
          let z : s ≡ r.sweeps = accepted_sweeps (ap (λ (c : Called ℕ). c.answer) e) in
          let w : lent ns₁ ms₁ ws₁ ≡ written r o = ap (λ (c : Called ℕ). c.lent) e in
          ap₂ (λ (i : ℕ) (v : Lent). record { answer = accepted (by_webs i); lent = v }) z w

      asked : (q : Option ℕ) → web_refusal_within m l t x o ≡ q → web_called (Ok s) ns₁ ms₁ ws₁ ≡ web_called_with q
          → called (Ok (ByWebs s)) ns₁ ms₁ ws₁ ≡ called_with q
      asked (Some k) q e = absurd (refused≢accepted (ap (λ (c : Called ℕ). c.answer) (sym e)))
      asked None q e = worked (webs L) e

  pub chosen_early : (r : Refusal) (ns₁ ms₁ ws₁ : List ℕ) → Early m l t x ns ms ws (number r) ns₁ ms₁ ws₁
      → called (Err r) ns₁ ms₁ ws₁ ≡ choose_call_of m l t x (lent ns ms ws)
  unfolding choose_call_of
  chosen_early r ns₁ ms₁ ws₁ E = rw (E.asked, choose_call_of) (ap (λ (v : Lent). record { answer = refused (number r); lent = v }) E.same)

  pub chosen_splits : (n : ℕ) (ns₁ ms₁ ws₁ ns₂ ms₂ : List ℕ) → Late m l t x ns ms ws n ns₁ ms₁ ws₁
      → ns₂ ≡ filled (splits (listing l t x)).numbers ns₁ → ms₂ ≡ filled (splits (listing l t x)).marks ms₁
      → called (Ok BySplits) ns₂ ms₂ ws₁ ≡ choose_call_of m l t x (lent ns ms ws)
  unfolding choose_call_of chosen_written
  chosen_splits n ns₁ ms₁ ws₁ ns₂ ms₂ E u v =
      let z = E.zero in
      let a : ns₂ ≡ filled (splits L).numbers ns = u ∙ filled_same (splits L).numbers ns₁ ns (same_length ns ns₁ (ap (λ (v : Lent). v.numbers) z)) in
      let b : ms₂ ≡ filled (splits L).marks ms = v ∙ filled_same (splits L).marks ms₁ ms (same_length ms ms₁ (ap (λ (v : Lent). v.marks) z)) in
      let c : ws₁ ≡ zeros ws = ap (λ (v : Lent). v.space) z in
      rw (E.asked, choose_call_of) (rw (splits_chosen L n E.refused, a, b, c))

-- What the code has at hand

pub equation_of : (m : Limits) → m.lines ≤ 1024 → (l t x ns ms ws ns₁ ms₁ ws₁ : List ℕ) (a : Result ℕ Refusal)
    → web_called a ns₁ ms₁ ws₁ ≡ web_call_within m 4294967295 l t x (lent ns ms ws) → web_called a ns₁ ms₁ ws₁ ≡ web_call_of m l t x (lent ns ms ws)
equation_of m few_lines l t x ns ms ws ns₁ ms₁ ws₁ a equation = equation ∙ within_enough m l t x (lent ns ms ws) few_lines

pub passed : (m : Limits) (l t x ns ms ws : List ℕ) (n : ℕ) (ns₁ ms₁ ws₁ : List ℕ) → Late m l t x ns ms ws n ns₁ ms₁ ws₁ → m.lines ≤ 1024 → m.tokens ≤ 16384
    → (length l ≤ 1024) × (covers 512 0 l (length t) ≡ true) × (length t ≤ length ns₁) × (length t ≤ length ms₁)
passed m l t x ns ms ws n ns₁ ms₁ ws₁ E hl ht =
    let A = asked m l t x ns ms ws (sym E.asked) hl ht in
    let a = same_length ns ns₁ (ap (λ (v : Lent). v.numbers) E.zero) in
    let b = same_length ms ms₁ (ap (λ (v : Lent). v.marks) E.zero) in
    (A.lines, (both _ _ (both _ _ A.formed).0).0, omega (arith, A.numbers_room, a), omega (arith, A.marks_room, b))

pub of_limits : (l t x : List ℕ) (o : Lent) → choose_call_of limits l t x o ≡ choose_call l t x o
unfolding choose_call_of choose_call
of_limits l t x o = refl

-- What the chooser gives is what one of the two calls gives

module _ (l t x : List ℕ) (o : Lent) where
  pub as_webs : (s : ℕ) → (choose_call l t x o).answer ≡ accepted (by_webs s) → web_call l t x o ≡ record { answer = accepted s; lent = (choose_call l t x o).lent }
  unfolding choose_call web_call webs_written chosen_written choose
  as_webs s = asked (web_refusal l t x o)
    where
      chosen_of : Answer Numbered → Choice
      chosen_of a = elim a [ refused n ↦ chose_splits (splits (listing l t x)) | accepted r ↦ chose_webs r ]

      chosen_with : Option ℕ → Called Chosen
      chosen_with q = elim q [ Some k ↦ record { answer = refused k; lent = o } | None ↦ chosen_written (chosen_of (webs (listing l t x))) o ]

      called_with : Option ℕ → Called ℕ
      called_with q = elim q [ Some k ↦ record { answer = refused k; lent = o } | None ↦ webs_written (webs (listing l t x)) o ]

      worked : (a : Answer Numbered) → (chosen_written (chosen_of a) o).answer ≡ accepted (by_webs s)
          → webs_written a o ≡ record { answer = accepted s; lent = (chosen_written (chosen_of a) o).lent }
      worked (refused k) e = let z : ◌≡◌ {A = ℕ} 0 1 = cc in absurd (omega arith)
      worked (accepted r) e = let z : r.sweeps ≡ s = cc in ap (λ (i : ℕ). record { answer = accepted i; lent = written r o }) z

      asked : (q : Option ℕ) → (chosen_with q).answer ≡ accepted (by_webs s) → called_with q ≡ record { answer = accepted s; lent = (chosen_with q).lent }
      asked (Some k) e = absurd (refused≢accepted e)
      asked None e = worked (webs (listing l t x)) e

  pub as_splits : (choose_call l t x o).answer ≡ accepted by_splits → split_call l t x o ≡ record { answer = accepted tt; lent = (choose_call l t x o).lent }
  unfolding choose_call split_call chosen_written choose
  as_splits = asked (web_refusal l t x o) refl
    where
      chosen_of : Answer Numbered → Choice
      chosen_of a = elim a [ refused n ↦ chose_splits (splits (listing l t x)) | accepted r ↦ chose_webs r ]

      chosen_with : Option ℕ → Called Chosen
      chosen_with q = elim q [ Some k ↦ record { answer = refused k; lent = o } | None ↦ chosen_written (chosen_of (webs (listing l t x))) o ]

      split_with : Option ℕ → Called (Unit {0})
      split_with q = elim q [ Some k ↦ record { answer = refused k; lent = o } | None ↦ record { answer = accepted tt; lent = written (splits (listing l t x)) o } ]

      worked : (a : Answer Numbered) → (chosen_written (chosen_of a) o).answer ≡ accepted by_splits
          → (chosen_written (chosen_of a) o).lent ≡ written (splits (listing l t x)) o
      worked (refused k) e = refl
      worked (accepted r) e = let z : ◌≡◌ {A = ℕ} 0 1 = cc in absurd (omega arith)

      asked : (q : Option ℕ) → web_refusal l t x o ≡ q → (chosen_with q).answer ≡ accepted by_splits
          → split_with (split_refusal l t x o) ≡ record { answer = accepted tt; lent = (chosen_with q).lent }
      asked (Some k) q e = absurd (refused≢accepted e)
      asked None q e =
          rw (four_yes _ _ _ _ _ q) (ap (λ (v : Lent). record { answer = accepted tt; lent = v }) (sym (worked (webs (listing l t x)) e)))
