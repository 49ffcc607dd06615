-- The web call's answer and lent words are the definition's, case by case.
--   zeroed_filled            zeros behind the first words of a slice
--   written_refused          questions 7 to 9
--   written_done, written_over    webs within the budget, and beyond it
--   numbered_done, numbered_over, answered_7, answered_flow    the same, by what the code's calls leave
--   ready                    the flow graph is drawn
--   part_length              the lent part of an output
--   space_swapped            what the working space held at first does not matter
--   within_answered, within_refused    questions 1 to 5
-- Assumes nothing.
use Rattle.std.specs.Prelude.{Option, None, Some, Ok, Err}
use Prim.Native.Nat.{ℕ, ◌≤◌, ◌<◌}
use mathlib.Core.Path.{◌≡◌, refl, sym, ap, ◌∙◌}
use mathlib.Core.Bool.{Bool, true, false}
use mathlib.Core.List.{List, [], ◌++◌}
use native.Mathlib.Omega.{arith}
use native.Mathlib.Numerals.{unary_clauses}
use borrow.Author.Tests.{leb-true, lt-leb}
use lib.Dec.{leb}
use lib.ListN.{length, take, drop, length-append, length-take, length-drop}
use lib.Seq.{take-append_seam}
use Rattle.definitions.specs.Lists.{or_else}
use Rattle.definitions.specs.Model.{Line}
use Rattle.definitions.specs.Columns.{listing}
use Rattle.definitions.specs.Questions.{Limits}
use Rattle.definitions.specs.Recover.{recover}
use Rattle.definitions.specs.Answers.{Answer, refused, accepted, Numbered, numbered_webs, webs_refusal, webs}
use Rattle.definitions.specs.Calls.{zeros, filled, webs_written}
use Rattle.bits.specs.Edges.{row_words}
use Rattle.text.specs.Zeroed.{zeroed}
use Rattle.questions.specs.Refusals.{number}
use Rattle.questions.specs.declared.Refusal.{Refusal}
use Rattle.questions.specs.declared.Refusal.TheVariants.{TooShort, OverBudget}
use Rattle.model.proofs.Decode.{length_listing}
use Rattle.sweep.specs.Solved.{answer as recovered}
use Rattle.webs.specs.Steps.{AllDone}
use Rattle.flow.specs.Graph.{Graph, flow_refusal}
use Rattle.flow.proofs.Graphs.{webs_refusal_flow, graph_predecessors}
use Rattle.pseudo_ssa.specs.Asked.{Asked, Ready}
use Rattle.pseudo_ssa.specs.Within.{web_refusal_within, within_budget, web_call_within}
use Rattle.pseudo_ssa.specs.Answers.{lent, called}

-- The words p in front of a slice, and zeros behind them

module _ (k : ℕ) (p old : List ℕ) (size : length p ≡ length (take k old)) (room : k ≤ length old) where
  part_size : length p ≡ k
  part_size = size ∙ rw length-take (omega arith)

  pub whole_length : length (p ++ drop k old) ≡ length old
  whole_length = rw (length-append, length-drop) (omega (arith, part_size))

  front : take k (p ++ drop k old) ≡ p
  front = ap (λ i. take i (p ++ drop k old)) (sym part_size) ∙ take-append_seam p (drop k old)

  pub zeroed_filled : zeroed k (p ++ drop k old) ≡ filled p old
  zeroed_filled = rw (front, whole_length, part_size)

pub zeroed_zeros : (ws old : List ℕ) → length ws ≡ length old → zeroed 0 ws ≡ zeros old
zeroed_zeros ws old e = simp unary_clauses (rw e)

-- The cases

over≢done : {s : ℕ} → None ≡ Some s → ⊥
over≢done e = let z : ◌≡◌ {A = ℕ} 0 1 = cc in absurd (omega arith)

done_sweeps : {s c : ℕ} → Some s ≡ Some c → s ≡ c
done_sweeps e = cc

done_within : (b s c : ℕ) → Some s ≡ recovered b c → c ≤ b
done_within b s c e = go (leb c b) refl
  where
    go : (t : Bool) → leb c b ≡ t → c ≤ b
    go true f = leb-true c b f
    go false f = let z : None ≡ Some s = sym (e ∙ rw f) in absurd (over≢done z)

pub accepted_webs : (L : List Line) → webs_refusal L ≡ None → webs L ≡ accepted (numbered_webs L (or_else (recover L) []))
unfolding webs
accepted_webs L e = rw (e, webs)

pub refused_webs : (L : List Line) (n : ℕ) → webs_refusal L ≡ Some n → webs L ≡ refused n
unfolding webs
refused_webs L n e = rw (e, webs)

module _ (L : List Line) (b : ℕ) (ns ms ws ns₁ ms₁ ws₁ : List ℕ) where
  pub written_refused : (r : Refusal) → webs_refusal L ≡ Some (number r) → ns₁ ≡ zeros ns → ms₁ ≡ zeros ms → ws₁ ≡ zeros ws
      → called (Err r) ns₁ ms₁ ws₁ ≡ webs_written (within_budget b (webs L)) (lent ns ms ws)
  unfolding within_budget webs_written
  written_refused r e p q u = rw (refused_webs L (number r) e, p, q, u)

  module _ (N : Numbered) (yes : webs L ≡ accepted N) where
    pub written_done : (s : ℕ) → Some s ≡ recovered b N.sweeps → ns₁ ≡ filled N.numbers ns → ms₁ ≡ filled N.marks ms → ws₁ ≡ zeros ws
        → called (Ok s) ns₁ ms₁ ws₁ ≡ webs_written (within_budget b (webs L)) (lent ns ms ws)
    unfolding within_budget webs_written
    written_done s e p q u = go (leb N.sweeps b) refl
      where
        go : (t : Bool) → leb N.sweeps b ≡ t → called (Ok s) ns₁ ms₁ ws₁ ≡ webs_written (within_budget b (webs L)) (lent ns ms ws)
        go true f = let z : Some s ≡ Some N.sweeps = e ∙ rw f in rw (yes, f, p, q, u, done_sweeps z)
        go false f = let z : None ≡ Some s = sym (e ∙ rw f) in absurd (over≢done z)

    pub written_over : None ≡ recovered b N.sweeps → ns₁ ≡ zeros ns → ms₁ ≡ zeros ms → ws₁ ≡ zeros ws
        → called (Err OverBudget) ns₁ ms₁ ws₁ ≡ webs_written (within_budget b (webs L)) (lent ns ms ws)
    unfolding within_budget webs_written
    written_over e p q u = go (leb N.sweeps b) refl
      where
        go : (t : Bool) → leb N.sweeps b ≡ t → called (Err OverBudget) ns₁ ms₁ ws₁ ≡ webs_written (within_budget b (webs L)) (lent ns ms ws)
        go false f = rw (yes, f, p, q, u)
        go true f = let z : None ≡ Some N.sweeps = e ∙ rw f in absurd (over≢done z)

-- The same, by what the code's calls leave

module _ (l t x ns ms ws : List ℕ) (r b : ℕ) (R : Ready l t x ns ms ws r) where
  abbrev pub answer : Numbered
  answer = numbered_webs (listing l t x) (or_else (recover (listing l t x)) [])

  module _ (p q ws₀ ns₁ ms₁ ws₁ : List ℕ) (lp : length p ≡ length (take (length t) ns)) (lq : length q ≡ length (take (length t) ms)) (lw : length ws₀ ≡ length ws)
      (w : ws₁ ≡ zeroed 0 ws₀) where
    pub numbered_done : (a : Option ℕ) (s : ℕ) → AllDone b answer p q a → a ≡ Some s
        → ns₁ ≡ zeroed (length t) (p ++ drop (length t) ns) → ms₁ ≡ zeroed (length t) (q ++ drop (length t) ms)
        → called (Ok s) ns₁ ms₁ ws₁ ≡ webs_written (within_budget b (webs (listing l t x))) (lent ns ms ws)
    numbered_done a s D g u v =
        let e : Some s ≡ recovered b answer.sweeps = sym g ∙ D.answers in
        let within = done_within b s answer.sweeps e in
        written_done (listing l t x) b ns ms ws ns₁ ms₁ ws₁ answer (accepted_webs (listing l t x) R.accepted) s e
        (u ∙ zeroed_filled (length t) p ns lp R.asked.numbers_room ∙ rw (D.numbers within))
        (v ∙ zeroed_filled (length t) q ms lq R.asked.marks_room ∙ rw (D.marks within))
        (w ∙ zeroed_zeros ws₀ ws lw)

    pub numbered_over : (a : Option ℕ) → AllDone b answer p q a → a ≡ None
        → ns₁ ≡ zeroed 0 (p ++ drop (length t) ns) → ms₁ ≡ zeroed 0 (q ++ drop (length t) ms)
        → called (Err OverBudget) ns₁ ms₁ ws₁ ≡ webs_written (within_budget b (webs (listing l t x))) (lent ns ms ws)
    numbered_over a D g u v =
        let e : None ≡ recovered b answer.sweeps = sym g ∙ D.answers in
        written_over (listing l t x) b ns ms ws ns₁ ms₁ ws₁ answer (accepted_webs (listing l t x) R.accepted) e
        (u ∙ zeroed_zeros (p ++ drop (length t) ns) ns (whole_length (length t) p ns lp R.asked.numbers_room))
        (v ∙ zeroed_zeros (q ++ drop (length t) ms) ms (whole_length (length t) q ms lq R.asked.marks_room))
        (w ∙ zeroed_zeros ws₀ ws lw)

-- The listing is accepted or refused

module _ (l t x ns ms ws ws₀ ns₁ ms₁ ws₁ : List ℕ) (b : ℕ) (lw : length ws₀ ≡ length ws)
    (u : ns₁ ≡ zeroed 0 ns) (v : ms₁ ≡ zeroed 0 ms) (w : ws₁ ≡ zeroed 0 ws₀) where
  pub answered_7 : length l < 2 → called (Err TooShort) ns₁ ms₁ ws₁ ≡ webs_written (within_budget b (webs (listing l t x))) (lent ns ms ws)
  unfolding webs_refusal
  answered_7 h =
      written_refused (listing l t x) b ns ms ws ns₁ ms₁ ws₁ TooShort (rw (length_listing l t x, lt-leb 2 (length l) h)) (u ∙ zeroed_zeros ns ns refl) (v ∙ zeroed_zeros ms ms refl) (w ∙ zeroed_zeros ws₀ ws lw)

  pub answered_flow : (r : Refusal) → 2 ≤ length l → Some (number r) ≡ flow_refusal (listing l t x)
      → called (Err r) ns₁ ms₁ ws₁ ≡ webs_written (within_budget b (webs (listing l t x))) (lent ns ms ws)
  answered_flow r h e =
      written_refused (listing l t x) b ns ms ws ns₁ ms₁ ws₁ r
      (webs_refusal_flow (listing l t x) (rw (length_listing l t x) h) ∙ sym e) (u ∙ zeroed_zeros ns ns refl) (v ∙ zeroed_zeros ms ms refl) (w ∙ zeroed_zeros ws₀ ws lw)

-- The flow graph is drawn

pub ready : (l t x ns ms ws ws₀ : List ℕ) (r : ℕ) → Asked l t x ns ms ws → length ws₀ ≡ length ws → 2 ≤ length l → r ≡ row_words (length l)
    → None ≡ flow_refusal (listing l t x) → Graph (listing l t x) (length l) r ws ws₀
    → Ready l t x ns ms ws₀ r
ready l t x ns ms ws ws₀ r A lw two row e G = record {
  asked = record {
    lines = A.lines;
    tokens = A.tokens;
    formed = A.formed;
    numbers_room = A.numbers_room;
    marks_room = A.marks_room;
    space_room = omega (arith, A.space_room);
  };
  row = row;
  two = two;
  accepted = webs_refusal_flow (listing l t x) (rw (length_listing l t x) two) ∙ sym e;
  drawn = record {
    graph = G.graph;
    flow = G.flow;
    preds = graph_predecessors (listing l t x) (length l) r ws ws₀ G (length_listing l t x) ∙ rw (length_listing l t x);
    agree = G.agree;
  };
}

-- One entry a token of the outputs is lent

pub part_length : (k : ℕ) (s : List ℕ) → k ≤ length s → length (take k s) ≡ k
part_length k s h = rw length-take (omega arith)

-- What the working space held at first does not matter

pub space_swapped : (a : Answer Numbered) (ns ms ws ws₀ : List ℕ) → length ws₀ ≡ length ws → webs_written a (lent ns ms ws₀) ≡ webs_written a (lent ns ms ws)
unfolding webs_written
space_swapped (refused n) ns ms ws ws₀ e = rw e
space_swapped (accepted r) ns ms ws ws₀ e = rw e

-- Questions 1 to 5

module _ (m : Limits) (b : ℕ) (l t x ns ms ws : List ℕ) where
  pub within_answered : None ≡ web_refusal_within m l t x (lent ns ms ws) → webs_written (within_budget b (webs (listing l t x))) (lent ns ms ws) ≡ web_call_within m b l t x (lent ns ms ws)
  unfolding web_call_within
  within_answered e = rw (← e, web_call_within)

  pub within_refused : (r : Refusal) → Some (number r) ≡ web_refusal_within m l t x (lent ns ms ws) → called (Err r) ns ms ws ≡ web_call_within m b l t x (lent ns ms ws)
  unfolding web_call_within
  within_refused r e = rw (← e, web_call_within)
