-- The webs of one family of a listing, over any graph whose predecessor lists are at hand.
--   def_line_inside, read_line_inside, definition_inside    defining and reading lines, and definitions, are lines of the listing
--   family_lawful                                           `webs_of` gives lawful webs: all of `Numbering` holds of them
-- Assumes nothing.
use Prim.Native.Nat.{ℕ, ◌-◌, ◌<◌}
use mathlib.Core.Path.{◌≡◌}
use mathlib.Core.Logic.{inl, inr, ◌↔◌}
use mathlib.Core.Bool.{Bool, true}
use mathlib.Core.List.{List, []}
use native.Mathlib.Omega.{arith}
use lib.ListN.{length, get_or}
use Rattle.definitions.specs.Lists.{range, member}
use Rattle.definitions.specs.Model.{Line, line}
use Rattle.definitions.specs.Sweeps.{incoming, sweeps}
use Rattle.definitions.specs.Reaching.{is_definition, Reaches}
use Rattle.definitions.specs.Recover.{is_def_of, is_read_of, def_lines, read_lines, webs_of}
use Rattle.definitions.specs.Demand3.{defines_at, reads_at}
use Rattle.theory.proofs.ListLaws.{filter_passes, member_range, getD_map_up_to}
use Rattle.theory.proofs.Paths.{definition_cases, reaches_definition}
use Rattle.theory.proofs.OneDefinition.{enters}
use Rattle.theory.proofs.Sweeping.{incoming_reaches}
use Rattle.theory.proofs.Merging.{merged}
use Rattle.theory.proofs.Ranks.{rising_range, rising_filter}
use Rattle.theory.proofs.Numbering.{Lawful}

-- Lines of the listing

pub def_line_inside : (L : List Line) (f : List ℕ) (i : ℕ) → defines_at L f i ≡ true
    → (0 < i) × (i < length L) × (is_def_of f (line L i) ≡ true)
def_line_inside L f i e =
    let r = filter_passes (λ i. is_def_of f (line L i)) (range 1 (length L - 1)) i e in
    let b = member_range i 1 (length L - 1) r.0 in
    (omega arith, omega arith, r.1)

pub read_line_inside : (L : List Line) (f : List ℕ) (i : ℕ) → reads_at L f i ≡ true
    → (0 < i) × (i < length L) × (is_read_of f (line L i) ≡ true)
read_line_inside L f i e =
    let r = filter_passes (λ i. is_read_of f (line L i)) (range 1 (length L - 1)) i e in
    let b = member_range i 1 (length L - 1) r.0 in
    (omega arith, omega arith, r.1)

pub definition_inside : (L : List Line) (f : List ℕ) (d : ℕ) → 0 < length L → is_definition (defines_at L f) d ≡ true → d < length L
definition_inside L f d p e = elim (definition_cases (defines_at L f) d e) [
  | inl h ↦ omega arith
  | inr h ↦ (def_line_inside L f d h).1
]

module _ (L : List Line) (preds : List (List ℕ)) (edge : ℕ → ℕ → Bool) (size : length preds ≡ length L) (agree : enters preds ≡ edge)
    (lines : 0 < length L) (f : List ℕ) where
  abbrev family_reach : ℕ → List ℕ
  family_reach i = get_or (webs_of L preds f).reaching i []

  reach_iff : (d i : ℕ) → reads_at L f i ≡ true → (member d (family_reach i) ≡ true) ↔ Reaches edge (defines_at L f) d i
  unfolding webs_of
  reach_iff d i r =
      let b = read_line_inside L f i r in
      rw (getD_map_up_to (incoming preds (def_lines L f) (sweeps preds (def_lines L f)).out) (length L) i [] b.1, ← agree)
      (incoming_reaches preds (def_lines L f) (λ d m. rw size (def_line_inside L f d m).1) d i b.0 (rw size b.1))

  pub family_lawful : Lawful edge (reads_at L f) (webs_of L preds f)
  unfolding webs_of
  family_lawful = record {
    lines = length L;
    inside = λ d. definition_inside L f d lines;
    rising = (omega arith, rising_filter (λ i. is_def_of f (line L i)) 1 (range 1 (length L - 1)) (rising_range 1 (length L - 1)));
    representatives = merged edge (defines_at L f) (length L) (read_lines L f) family_reach
        (λ d i q. definition_inside L f d lines (reaches_definition q)) reach_iff;
    reaching_iff = reach_iff;
  }
