-- Rules for the needs of `starts`: its loop.
--   starting_start, starting_next, starting_end     the lines before line i are done
-- Assumes nothing.
use Rattle.std.specs.Prelude.{Option, None}
use Prim.Native.Nat.{ℕ, zero, suc, ◌+◌, ◌<◌, ◌≤◌, max}
use mathlib.Core.Path.{◌≡◌, refl, sym, ap, ◌∙◌}
use mathlib.Core.Logic.{inl, inr}
use mathlib.Core.Bool.{Bool, true, false, cond, ◌&&◌, ◌||◌, not, and-false}
use mathlib.Core.List.{List}
use native.Mathlib.Nat.{zero-add}
use native.Mathlib.Numerals.{add-one}
use native.Mathlib.Omega.{arith}
use borrow.Author.Tests.{le-leb, lt-leb, lt-ltb, le-ltb}
use lib.Dec.{eqb, leb, ltb}
use lib.ListN.{length, get_or, set}
use lib.Seq.{get_or-set_same, get_or-set_other}
use Rattle.definitions.specs.Lists.{any, range, up_to}
use Rattle.definitions.specs.Model.{Line, line}
use Rattle.definitions.specs.Columns.{listing}
use Rattle.definitions.specs.Recover.{defined_families}
use Rattle.definitions.specs.SplitPoints.{all_jumps, crosses}
use Rattle.theory.proofs.Bools.{lt_or_ge, eq_or_lt}
use Rattle.model.proofs.Decode.{length_listing}
use Rattle.families.specs.Families.{Defs, defined_at, place_defined}
use Rattle.families.proofs.Lists.{any_snoc, range_snoc}
use Rattle.crossings.specs.Crossed.{crossed}
use Rattle.crossings.proofs.Joins.{leb_max}
use Rattle.splits.specs.Starts.{start_at, start_place, Starts, Starting}

ltb_not : (a b : ℕ) → ltb a b ≡ not (leb b a)
ltb_not a b = elim (lt_or_ge a b) [
  | inl h ↦ lt-ltb a b h ∙ sym (ap not (lt-leb b a h))
  | inr h ↦ le-ltb a b h ∙ sym (ap not (le-leb b a h))
]

pub starting_start : (L : List Line) (far ds : List ℕ) → Defs L ds → Starting L far 0 0 ds
unfolding any range
starting_start L far ds D = record {
  done = λ j h. absurd (omega arith);
  left = λ j h g. D.at j g;
  reached = λ k h. lt-leb k 0 h;
}

module _ (l t x far : List ℕ) (i reach : ℕ) (ds : List ℕ) (S : Starting (listing l t x) far i reach ds) where
  -- the place of line i
  start_is : ((k : ℕ) → crossed far k ≡ any (crosses k) (all_jumps (listing l t x))) → i < length l → (v : ℕ)
      → v ≡ cond (eqb (line (listing l t x) i).indent 1 && ltb reach i) (get_or ds i 0) 0 → v ≡ start_place (listing l t x) i
  unfolding start_at crossed
  start_is C h v e = e ∙ ap (λ (d : ℕ). cond (eqb (line (listing l t x) i).indent 1 && ltb reach i) d 0) (S.left i (omega arith) (omega (arith, length_listing l t x))) ∙ go i refl
    where
      fs : List (List ℕ)
      fs = defined_families (listing l t x)

      none_at : (b : Bool) → place_defined fs (cond {A = Option (List ℕ)} b None None) ≡ 0
      none_at true = refl
      none_at false = refl

      pick : (b : Bool) (o : Option (List ℕ)) → cond b (place_defined fs o) 0 ≡ place_defined fs (cond b o None)
      pick true o = refl
      pick false o = refl

      test : (j : ℕ) → Bool
      test j = eqb (line (listing l t x) j).indent 1

      go : (j : ℕ) → j ≡ i → cond (test i && ltb reach i) (place_defined fs (defined_at (listing l t x) i)) 0 ≡ start_place (listing l t x) i
      go zero z = unfold defined_at in rw (← z, le-ltb reach 0 (omega arith), and-false (test 0)) (sym (none_at (test 0 && not (any (crosses 0) (all_jumps (listing l t x))))))
      go (suc j) z =
          let a : ltb reach i ≡ not (any (crosses i) (all_jumps (listing l t x))) = ltb_not reach i ∙ ap not (S.reached i (omega arith) ∙ C i) in
          rw a (pick (test i && not (any (crosses i) (all_jumps (listing l t x)))) (defined_at (listing l t x) i))

  pub starting_next : ((k : ℕ) → crossed far k ≡ any (crosses k) (all_jumps (listing l t x))) → i < length l → i < length ds → (v r m : ℕ)
      → v ≡ cond (eqb (line (listing l t x) i).indent 1 && ltb reach i) (get_or ds i 0) 0 → r ≡ get_or far i 0 → m ≡ max reach r
      → Starting (listing l t x) far (i + 1) m (set ds i v)
  starting_next C h b v r m e p q = record {
    done = λ j g. elim (eq_or_lt {j = j} {m = i} (omega arith)) [
      | inl z ↦ rw z (get_or-set_same ds i v 0 b ∙ start_is C h v e)
      | inr z ↦ get_or-set_other ds i j v 0 (λ y. omega arith) ∙ S.done j z
    ];
    left = λ j g k. get_or-set_other ds i j v 0 (λ y. omega arith) ∙ S.left j (omega arith) k;
    reached = λ k g.
        ap (leb k) q ∙ leb_max k reach r ∙ ap (◌|| leb k r) (S.reached k g) ∙ ap (λ (y : ℕ). any (λ a. leb k (get_or far a 0)) (up_to i) || leb k y) p
        ∙ ap (λ (y : ℕ). any (λ a. leb k (get_or far a 0)) (up_to i) || leb k (get_or far y 0)) (sym (zero-add i))
        ∙ sym (any_snoc (λ a. leb k (get_or far a 0)) (up_to i) (0 + i))
        ∙ ap (any (λ a. leb k (get_or far a 0))) (sym (range_snoc 0 i) ∙ ap up_to (sym (add-one i)));
  }

  pub starting_end : length l ≤ i → Starts (listing l t x) ds
  starting_end h = record { at = λ j g. S.done j (omega (arith, length_listing l t x)) }

pub ruleset start_rules = (starting_start, starting_next, starting_end)
