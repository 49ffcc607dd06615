-- The loop of `blocks`.
--   Reading L es ps cs p i     the columns stand for what the definition has at line i, and what is left to read is the rest of L
--   closed_below               the innermost opener stands before the line that closes
--   reading_start, reading_next, reading_fail, reading_end
-- Assumes nothing.
use Rattle.std.specs.Prelude.{Option, None, Some}
use Prim.Native.Nat.{ℕ, ◌+◌, ◌<◌, ◌≤◌}
use mathlib.Core.Logic.{inl, inr}
use mathlib.Core.Path.{◌≡◌, refl, sym, ◌∙◌}
use mathlib.Core.Bool.{Bool, true, false, cond}
use mathlib.Core.List.{List, []}
use native.Mathlib.Numerals.{add-one}
use native.Mathlib.Decide.{dec_lt}
use native.Mathlib.Omega.{arith}
use lib.Dec.{eqb, ltb}
use lib.ListN.{length, set, get_or, drop, replicate, length-replicate, get_or-replicate, get_or-eq_default}
use Rattle.definitions.specs.Lists.{◌>>=◌, require, is_some, ◌≟◌}
use Rattle.definitions.specs.Model.{Line, line, no_line}
use Rattle.definitions.specs.Blocks.{Braces, braces, Blocks, Open, close, enter, blocks_from, blocks}
use Rattle.text.proofs.Parts.{drop_step, drop_end}
use Rattle.blocks.specs.Structure.{blocks_of, Ended, Enclosed, Matched}
use Rattle.blocks.specs.Stack.{bottom, Held, Closing, Closed}
use Rattle.blocks.proofs.Stacks.{stack_test, entered}

pub closed_below : (i k : ℕ) (o : Open) (es ps cs : List ℕ) (r : Option ℕ) (q : ℕ) → Closed i k o es ps cs r → r ≡ Some q → q ≤ i
closed_below i k o es ps cs r q C e = let D : Closing i k 0 o es ps cs q = rw e at C in D.held.below

beginning : List Line → Open
beginning L = record { stack = []; ends = replicate (length L) None; enclosing = [] }

pub record Reading (L : List Line) (es ps cs : List ℕ) (p i : ℕ) : Type 0 where
  pub at : Open
  pub left : blocks L ≡ (blocks_from i (drop i L) at >>= λ o. require (o.stack ≟ []) >>= λ _. Some (record { ends = o.ends; enclosing = o.enclosing }))
  pub size : length at.ends ≡ length L
  pub held : Held es ps cs p i at

pub reading_start : (L : List Line) (es ps cs : List ℕ) → Reading L es ps cs 0 0
unfolding blocks beginning
reading_start L es ps cs = record {
  at = beginning L;
  left = refl;
  size = length-replicate (length L) None;
  held = record {
    stack = bottom;
    below = omega arith;
    ended = λ j g. absurd (omega arith);
    later = λ j g. absurd (omega arith);
    unended = λ j g. empty j (dec_lt j (length L));
    inward = λ j g. absurd (omega arith);
    lines = refl;
    around = λ j h g. absurd (omega arith);
  };
}
  where
    empty : (j : ℕ) → Dec (j < length L) → ◌≡◌ {A = Option ℕ} (get_or (replicate (length L) None) j None) None
    empty j (yes h) = get_or-replicate (length L) j None None h
    empty j (no h) = get_or-eq_default (replicate (length L) None) None (rw length-replicate (omega arith))

module _ (L : List Line) (es ps cs : List ℕ) (p i : ℕ) (R : Reading L es ps cs p i) where
  module _ (h : i < length L) (b : Braces) (eb : b ≡ braces (line L i)) (es₁ cs₁ : List ℕ) (r : Option ℕ)
      (closed : (o : Open) → Held es ps cs p i o → i < length o.ends → Closed i b.closes o es₁ ps cs₁ r) where
    here : Closed i b.closes R.at es₁ ps cs₁ r
    here = closed R.at R.held (omega (arith, R.size))

    step : blocks L ≡ ((close i b.closes R.at >>= λ o. blocks_from (i + 1) (drop (i + 1) L) (enter i b.opens o)) >>= λ o. require (o.stack ≟ []) >>= λ _. Some (record { ends = o.ends; enclosing = o.enclosing }))
    unfolding blocks_from
    step = R.left ∙ rw (drop_step no_line L i h, eb, add-one i)

    pub reading_fail : (es' ps' : List ℕ) → r ≡ None → Matched L es' ps' false
    reading_fail es' ps' q =
        let e : blocks L ≡ None = step ∙ rw (rw q at here) in
        record { answer = rw e; ends = λ z. absurd (omega (arith, bad z)); parents = λ z. absurd (omega (arith, bad z)) }
      where
        bad : false ≡ true → ◌≡◌ {A = ℕ} 0 1
        bad z = cc

    pub reading_next : (q : ℕ) → r ≡ Some q → i < length es₁ → i < length ps → i < length cs₁
        → (es₂ ps₂ cs₂ : List ℕ) (t : ℕ) → es₂ ≡ set es₁ i 0 → ps₂ ≡ set ps i q → cs₂ ≡ set cs₁ i b.opens → t ≡ cond (ltb 0 b.opens) (i + 1) q
        → Reading L es₂ ps₂ cs₂ t (i + 1)
    unfolding close
    reading_next q e he hp hc es₂ ps₂ cs₂ t ee ep ec et =
        let C : Closing i b.closes 0 R.at es₁ ps cs₁ q = rw e at here in
        rw (ee, ep, ec, et) (record {
          at = enter i b.opens C.now;
          left = step ∙ rw C.left;
          size = C.size ∙ R.size;
          held = entered es₁ ps cs₁ q i b.opens C.now C.held he hp hc;
        })

  pub reading_end : i ≤ length L → length L ≤ i → Matched L es ps (eqb p 0)
  unfolding blocks_from blocks_of
  reading_end le ge = record { answer = answer; ends = λ z. rw (whole z) ends; parents = λ z. rw (whole z) parents }
    where
      found : Blocks
      found = record { ends = R.at.ends; enclosing = R.at.enclosing }

      all : blocks L ≡ (require (R.at.stack ≟ []) >>= λ _. Some found)
      all = R.left ∙ rw (drop_end L i ge)

      same : eqb p 0 ≡ (R.at.stack ≟ [])
      same = stack_test ps cs p R.at.stack R.held.stack

      answer : eqb p 0 ≡ is_some (blocks L)
      answer = rw (all, same) (go (R.at.stack ≟ []))
        where
          go : (t : Bool) → t ≡ is_some (require t >>= λ _. Some found)
          go true = refl
          go false = refl

      whole : eqb p 0 ≡ true → blocks L ≡ Some found
      whole z = all ∙ rw (sym same ∙ z)

      ends : Ended L found es
      ends = record { ended = λ j g. R.held.ended j (omega arith); later = λ j g z. rw (← R.size) (elim (R.held.later j (omega arith)) [ inl w ↦ absurd (z w) | inr w ↦ w ]) }

      parents : Enclosed L found ps
      parents = record { inward = λ j g. R.held.inward j (omega arith); around = λ j x g. R.held.around j x (omega arith) }
