-- Rules for `steps`.
--   known_chain, reads_below                `family_free`: the tokens are chained, the reading lines are lines
--   free_done, free_over                    its answers
--   taken_done                              a family whose address is taken
-- Assumes nothing.
use Prim.Native.Nat.{ℕ, ◌-◌, ◌<◌, ◌≤◌}
use mathlib.Core.Path.{◌≡◌, refl, sym, ap, ◌∙◌}
use mathlib.Core.Logic.{inl, inr}
use mathlib.Core.Bool.{Bool, true, false, cond, ◌&&◌}
use mathlib.Core.List.{List}
use native.Mathlib.Omega.{arith}
use lib.Dec.{eqb}
use borrow.Author.Tests.{le-leb}
use lib.ListN.{length, get_or}
use Rattle.definitions.specs.Lists.{any, ◌≟◌}
use Rattle.definitions.specs.Model.{Line}
use Rattle.definitions.specs.Columns.{listing}
use Rattle.definitions.specs.Recover.{read_lines, address_taken, defined_families, key}
use Rattle.definitions.specs.Demand3.{defines_at}
use Rattle.text.specs.Zeroed.{zeroed}
use Rattle.theory.proofs.ListLaws.{replicate_default}
use Rattle.theory.proofs.FamilyWebs.{read_line_inside}
use Rattle.bits.specs.Edges.{preds_of}
use Rattle.visit.proofs.ListFacts.{getD_member}
use Rattle.sweep.specs.Solved.{answer}
use Rattle.std.specs.Prelude.{Option, Some, None}
use Rattle.model.proofs.Decode.{length_listing}
use Rattle.families.specs.Tokens.{family_name}
use Rattle.families.proofs.Finding.{unique_families, place_here}
use Rattle.families.proofs.Numbered.{place_cases}
use Rattle.chains.specs.Chains.{Chain}
use Rattle.walks.specs.Known.{Known}
use Rattle.walks.specs.Lines.{Written}
use Rattle.webs.specs.Progress.{webs_over, family_sweeps}
use Rattle.numbering.specs.Lines.{Below, LineNumbers, FamilyLines}
use Rattle.family_tokens.specs.Writes.{Writes}
use Rattle.webs.specs.Steps.{State, FamilyDone}
use Rattle.webs.proofs.Progress.{key_none}
use Rattle.numbering.proofs.LineRules.{answer_over}
use Rattle.webs.proofs.Family.{family_count, family_keys}
use Rattle.webs.proofs.Next.{chain_by, numbers_next, marks_next, marks_taken}

-- What is known of family k

module _ (l t x table first ds : List ℕ) (count r k : ℕ) (K : Known l t x table first ds count) (h : k < count) (space₀ ns₀ ms₀ : List ℕ) (S : State l t x r k space₀ ns₀ ms₀) where
  abbrev L : List Line
  L = listing l t x

  abbrev f : List ℕ
  f = family_name L k

  abbrev preds : List (List ℕ)
  preds = preds_of (length l) r space₀

  inside : k < length (defined_families L)
  inside = omega (arith, K.finds.all)

  pos : 0 < length L
  pos = omega (arith, length_listing l t x, K.some)

  has : any (λ g. g ≟ f) (defined_families L) ≡ true
  has = elim (place_cases (defined_families L) f) [
    | inl p ↦ absurd (omega (arith, p.0, place_here (defined_families L) f k (unique_families L) inside refl))
    | inr p ↦ p.4
  ]

  pub known_chain : Chain l t x k ns₀ first
  known_chain = chain_by l t x K.bounds preds k inside ns₀ first S.numbers (K.heads k h)

  pub reads_below : (is : List ℕ) → is ≡ read_lines L f → Below (length l) is
  reads_below is e = record {
    at = λ j b. omega (arith, length_listing l t x, (read_line_inside L f (get_or is j 0) (rw e (getD_member (read_lines L f) j 0 (rw e at b)))).1);
  }

  -- `family_free`

  module _ (free : address_taken L f ≡ false) (budget : ℕ) (space is own read : List ℕ) (a : Option ℕ) (reads : is ≡ read_lines L f)
      (F : FamilyLines (length l) r k ds budget space₀ space is own read a) where
    sweeps_are : a ≡ answer budget (family_sweeps L preds f)
    sweeps_are = F.solved.answers ∙ ap (answer budget) (family_count L ds K.defs k inside free (length l) r budget space₀ space is own read a (sym (length_listing l t x)) F)

    numbers_at : family_sweeps L preds f ≤ budget → LineNumbers (length l) r F.w F.nums space₀ space is own read
    numbers_at q = F.solved.done (rw (family_count L ds K.defs k inside free (length l) r budget space₀ space is own read a (sym (length_listing l t x)) F) q)

    pub free_done : (s : ℕ) (ns ms : List ℕ) → a ≡ Some s → Writes l t x k ds own read ns₀ ns ms₀ ms → FamilyDone l t x r k budget space₀ space ns ms (Some s)
    free_done s ns ms e W = record {
      answers = sym e ∙ sweeps_are;
      preds = λ q. (numbers_at q).preds;
      state = λ q. record {
        agree = (numbers_at q).swept.agree;
        numbers = rw (numbers_at q).preds
            (numbers_next l t x K.bounds preds k inside ds own read K.defs
            (family_keys L ds K.defs k inside free (length l) r budget space₀ space is own read a (sym (length_listing l t x)) F pos reads has (numbers_at q))
            ns₀ ns S.numbers W.numbers);
        marks = rw (numbers_at q).preds (marks_next l t x K.bounds preds k inside ds K.defs has free ms₀ ms S.marks W.marks);
      };
    }

    pub free_over : (ns ms : List ℕ) → a ≡ None → FamilyDone l t x r k budget space₀ space ns ms None
    free_over ns ms e = record {
      answers = sym e ∙ sweeps_are;
      preds = λ q. absurd (answer_over _ budget (sym sweeps_are ∙ e) q);
      state = λ q. absurd (answer_over _ budget (sym sweeps_are ∙ e) q);
    }

  -- a family whose address is taken

  pub taken_done : address_taken L f ≡ true → (budget : ℕ) (own read ns : List ℕ) → Written l t x k ds (zeroed 0 own) (zeroed 0 read) ns₀ ns
      → FamilyDone l t x r k budget space₀ space₀ ns ms₀ (Some 0)
  unfolding family_sweeps
  taken_done taken budget own read ns e = record {
    answers = rw (taken, le-leb 0 budget (omega arith));
    preds = λ q. refl;
    state = λ q. record {
      agree = S.agree;
      numbers = numbers_next l t x K.bounds preds k inside ds (zeroed 0 own) (zeroed 0 read) K.defs zeros ns₀ ns S.numbers e;
      marks = marks_taken l t x K.bounds preds k inside taken ms₀ S.marks;
    };
  }
    where
      both : (b : Bool) → cond {A = ℕ} b 0 0 ≡ 0
      both true = refl
      both false = refl

      zeros : (i j : ℕ) → cond (defines_at L f i && eqb j 0) (get_or (zeroed 0 own) i 0) (get_or (zeroed 0 read) i 0) ≡ key (webs_over L preds) f i j
      zeros i j = rw (replicate_default {A = ℕ} (length own - 0) i 0, replicate_default {A = ℕ} (length read - 0) i 0) (both (defines_at L f i && eqb j 0)) ∙ sym (key_none L preds f (inr taken) i j)
