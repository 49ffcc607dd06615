-- A loop that appends, and the tokens of a condition.
--   Left, left_start, left_next, left_end    what is left to append
--   run_split, run_none                      the tokens of a condition, one after the other
--   condition_nothing, condition_run, condition_inside, cut_added    what they are
--   run_goes, run_ends                       the loop over them
-- Assumes nothing.
use Rattle.std.specs.Prelude.{Option, Some, None}
use mathlib.Core.Path.{◌≡◌, sym, ap, subst, ◌∙◌}
use mathlib.Core.Bool.{Bool}
use mathlib.Core.List.{List, [], ◌∷◌, ◌++◌}
use Prim.Native.Nat.{ℕ, ◌+◌, ◌≤◌, ◌<◌}
use native.Mathlib.Omega.{arith}
use lib.ListN.{length}
use Rattle.definitions.specs.Lists.{filter, or_else, ascii}
use Rattle.definitions.specs.Model.{Token, Line, tok, token}
use Rattle.definitions.specs.Condition.{condition}
use Rattle.condition.specs.Conditions.{conditional, Bounds, Within}
use Rattle.condition.specs.declared.Cut.{Cut}
use Rattle.pseudo_types.specs.Cuts.{cut_token, cut_run}
use Rattle.pseudo_types.proofs.CutRuns.{cut_is_run, run_first, run_end}
use Rattle.write.specs.declared.Writer.{Writer}
use Rattle.append.specs.Adds.{Adding, whole}
use Rattle.append.proofs.Appends.{adds_none, adds_more, adds_as, whole_append}

pub record Left (m : Bool) (all : List Token) (out : Writer) (us : List Token) (out' : Writer) : Type 0 where
  pub left : (out'' : Writer) → Adding m us out' out'' → Adding m all out out''

module _ {m : Bool} {all : List Token} {out : Writer} where
  pub left_start : Left m all out all out
  left_start = record { left = λ out'' a. a }

  module _ {us : List Token} {out' : Writer} (r : Left m all out us out') where
    pub left_next : {out'' : Writer} (vs ws : List Token) → us ≡ vs ++ ws → Adding m vs out' out'' → Left m all out ws out''
    left_next vs ws e a = record { left = λ o b. r.left o (adds_as (sym e) (adds_more vs ws a b)) }

    pub left_end : us ≡ [] → Adding m all out out'
    left_end e = r.left out' (adds_as (sym e) adds_none)

-- The tokens of a condition

module _ (l : Line) (k n j : ℕ) where
  pub run_split : j < length l.tokens → whole (cut_run l k n j) ≡ whole (cut_token l k n j ∷ []) ++ whole (cut_run l k n (j + 1))
  run_split h = ap whole (run_first l k n j h) ∙ whole_append (cut_token l k n j ∷ []) (cut_run l k n (j + 1))

  pub run_none : length l.tokens ≤ j → whole (cut_run l k n j) ≡ []
  unfolding filter
  run_none h = ap whole (run_end l k n j h)

-- The condition of a line
module _ (l : Line) (a : Option Cut) (p : conditional l a ≡ condition l (ascii "if")) where
  pub condition_nothing : a ≡ None → or_else (condition l (ascii "if")) [] ≡ []
  condition_nothing e = rw (← p, e)

  module _ (u : Cut) (e : a ≡ Some u) (w : Within l a) where
    bounds : Bounds l u.keyword u.end
    bounds = subst (Within l) e w

    pub condition_run : whole (cut_run l u.keyword u.end (u.keyword + 1)) ≡ or_else (condition l (ascii "if")) []
    condition_run = sym (cut_is_run l u.keyword u.end bounds.opened) ∙ rw (← p, e)

    pub condition_inside : u.keyword < length l.tokens
    condition_inside = let b = bounds.opened in omega arith

pub cut_added : (l : Line) (k n j z : ℕ) (s : List ℕ) → s ≡ (cut_token l k n j).text → z ≡ (token l j).kind → whole (tok s z ∷ []) ≡ whole (cut_token l k n j ∷ [])
unfolding cut_token
cut_added l k n j z s p q = rw (p, q)

module _ {m : Bool} (l : Line) (k n from j : ℕ) {out out' : Writer}
    (r : Left m (whole (cut_run l k n from)) out (whole (cut_run l k n j)) out') (z : ℕ) (q : z ≡ length l.tokens) where
  pub run_goes : {out'' : Writer} → j < z → Adding m (whole (cut_token l k n j ∷ [])) out' out''
      → Left m (whole (cut_run l k n from)) out (whole (cut_run l k n (j + 1))) out''
  run_goes h a = left_next r _ _ (run_split l k n j (omega arith)) a

  pub run_ends : z ≤ j → Adding m (whole (cut_run l k n from)) out out'
  run_ends h = left_end r (run_none l k n j (omega arith))
