-- One family after the other: the number and the mark of a token before and after its family is done.
--   webs_for_over           the webs of a family among all
--   key_of                  the number of a token of a family
--   number_start, -next, -end             numbers, when no family is done, one more, all
--   mark_start, -next, -new, -end         marks
-- Assumes nothing.
use Rattle.std.specs.Prelude.{Option, None, Some}
use Prim.Native.Nat.{ℕ, suc, ◌+◌, ◌<◌, ◌≤◌}
use mathlib.Core.Path.{◌≡◌, refl, sym, ap, ◌∙◌, fun_ext}
use mathlib.Core.Logic.{◌⊎◌, inl, inr}
use mathlib.Core.Bool.{Bool, true, false, cond, ◌&&◌, ◌||◌, not, and-false}
use mathlib.Core.List.{List, [], ◌∷◌, map}
use native.Mathlib.Omega.{arith}
use lib.Dec.{eqb, leb}
use borrow.Author.Tests.{eqb-true, eq-eqb, ne_eqb, le-leb, lt-leb}
use lib.ListN.{length}
use Rattle.definitions.specs.Lists.{any, filter, find, member, ◌≟◌}
use Rattle.definitions.specs.Model.{Line}
use Rattle.definitions.specs.Columns.{listing}
use Rattle.definitions.specs.Recover.{Webs, webs_of, webs_for, address_taken, defined_families, key, is_def, web_number, read_number}
use Rattle.definitions.specs.Demand3.{defines_at, reads_at}
use Rattle.definitions.specs.Answers.{mark}
use Rattle.theory.proofs.Bools.{lt_or_ge}
use Rattle.theory.proofs.ListLaws.{any_filter, ≟_true}
use Rattle.families.specs.Families.{place}
use Rattle.families.specs.Tokens.{family_name}
use Rattle.families.proofs.Numbered.{place_cases}
use Rattle.chains.specs.Chains.{waiting}
use Rattle.chains.proofs.FamilyPlaces.{place_is, place_most}
use Rattle.webs.specs.Progress.{webs_over, waiting_at, number_after, mark_after}

-- The webs of a family among all

abbrev is : List ℕ → List ℕ → Bool
is f g = g ≟ f

abbrev has_webs : List Line → List ℕ → Bool
has_webs L f = any (is f) (defined_families L) && not (address_taken L f)

webs_for_map : (L : List Line) (preds : List (List ℕ)) (f : List ℕ) (fs : List (List ℕ))
    → webs_for (map (webs_of L preds) fs) f ≡ cond (any (is f) fs) (Some (webs_of L preds f)) None
unfolding find any webs_of
webs_for_map L preds f [] = refl
webs_for_map L preds f (g ∷ gs) = go (g ≟ f) refl (webs_for_map L preds f gs)
  where
    go : (b : Bool) → g ≟ f ≡ b → webs_for (map (webs_of L preds) gs) f ≡ cond (any (is f) gs) (Some (webs_of L preds f)) None
        → cond b (Some (webs_of L preds g)) (webs_for (map (webs_of L preds) gs) f)
        ≡ cond (b || any (is f) gs) (Some (webs_of L preds f)) None
    go true q e = ap (λ (h : List ℕ). Some (webs_of L preds h)) (≟_true g f q)
    go false q e = e

pub webs_for_over : (L : List Line) (preds : List (List ℕ)) (f : List ℕ)
    → webs_for (webs_over L preds) f ≡ cond (has_webs L f) (Some (webs_of L preds f)) None
webs_for_over L preds f =
    webs_for_map L preds f (filter (λ f. not (address_taken L f)) (defined_families L))
    ∙ ap (λ (b : Bool). cond b (Some (webs_of L preds f)) None)
    (any_filter (is f) (λ f. not (address_taken L f)) f (λ g q. sym (≟_true g f q)) (defined_families L))

module _ (L : List Line) (preds : List (List ℕ)) (f : List ℕ) where
  abbrev key_in : Option Webs → ℕ → ℕ → ℕ
  key_in o i j = elim o [
    | None ↦ 0
    | Some w ↦ cond (eqb j 0 && member i w.defs) (web_number w i) (cond (member i w.reads) (read_number w i) 0)
  ]

  key_found : (i j : ℕ) → key (webs_over L preds) f i j ≡ key_in (cond (has_webs L f) (Some (webs_of L preds f)) None) i j
  unfolding key
  key_found i j = ap (λ (o : Option Webs). key_in o i j) (webs_for_over L preds f)

  abbrev def_in : Option Webs → ℕ → Bool
  def_in o i = elim o [ None ↦ false | Some w ↦ member i w.defs ]

  def_found : (i : ℕ) → is_def (webs_over L preds) f i ≡ def_in (cond (has_webs L f) (Some (webs_of L preds f)) None) i
  unfolding is_def
  def_found i = ap (λ (o : Option Webs). def_in o i) (webs_for_over L preds f)

  -- a family that has no definition, or whose address is taken
  none_has : (any (is f) (defined_families L) ≡ false) ⊎ (address_taken L f ≡ true) → has_webs L f ≡ false
  none_has (inl e) = rw e
  none_has (inr e) = rw e (and-false (any (is f) (defined_families L)))

  pub key_none : (any (is f) (defined_families L) ≡ false) ⊎ (address_taken L f ≡ true) → (i j : ℕ) → key (webs_over L preds) f i j ≡ 0
  key_none e i j = key_found i j ∙ rw (none_has e)

  pub def_none : (any (is f) (defined_families L) ≡ false) ⊎ (address_taken L f ≡ true) → (i : ℕ) → is_def (webs_over L preds) f i ≡ false
  def_none e i = def_found i ∙ rw (none_has e)

  module _ (d : any (is f) (defined_families L) ≡ true) (a : address_taken L f ≡ false) where
    has : has_webs L f ≡ true
    has = rw (d, a)

    pub key_of : (i j : ℕ) → key (webs_over L preds) f i j
        ≡ cond (eqb j 0 && defines_at L f i) (web_number (webs_of L preds f) i) (cond (reads_at L f i) (read_number (webs_of L preds f) i) 0)
    unfolding webs_of
    key_of i j = key_found i j ∙ rw has

    pub def_of : (i : ℕ) → is_def (webs_over L preds) f i ≡ defines_at L f i
    unfolding webs_of
    def_of i = def_found i ∙ rw has

-- what is a up to place k, and b behind, with one place more
one_more : (p k a b : ℕ) → cond (leb p (k + 1)) a b ≡ cond (eqb p (k + 1)) a (cond (leb p k) a b)
one_more p k a b = elim (lt_or_ge k p) [
  | inr q ↦ rw (le-leb p (k + 1) (omega arith), ne_eqb p (k + 1) (λ z. omega arith), le-leb p k q)
  | inl q ↦ elim (lt_or_ge (k + 1) p) [
    | inl s ↦ rw (lt-leb p (k + 1) s, ne_eqb p (k + 1) (λ z. omega arith), lt-leb p k q)
    | inr s ↦ (let z : p ≡ k + 1 = omega arith in rw (le-leb p (k + 1) s, eq-eqb p (k + 1) z))
  ]
]

module _ (l t x : List ℕ) (preds : List (List ℕ)) where
  abbrev L : List Line
  L = listing l t x

  abbrev ws : List Webs
  ws = webs_over L preds

  abbrev fs : List (List ℕ)
  fs = defined_families L

  -- Numbers

  pub number_start : number_after l t x ws 0 ≡ waiting_at l t x
  unfolding number_after waiting
  number_start = fun_ext (λ f. fun_ext (λ i. fun_ext (λ j. elim (place_cases fs f) [
    | inl p ↦ rw p.0 (key_none L preds f (inl p.1) i j)
    | inr p ↦ rw (p.1, lt-leb (suc p.0) 0 (omega arith))
  ])))

  pub number_end : (k : ℕ) → length fs ≤ k → number_after l t x ws k ≡ key ws
  unfolding number_after
  number_end k h = fun_ext (λ f. fun_ext (λ i. fun_ext (λ j. rw (le-leb (place fs f) k (omega (arith, place_most fs f))))))

  module _ (k : ℕ) (h : k < length fs) (g : List ℕ) (i j : ℕ) where
    pub number_next : number_after l t x ws (k + 1) g i j ≡ cond (g ≟ family_name L k) (key ws g i j) (number_after l t x ws k g i j)
    unfolding number_after
    number_next = rw (← (place_is L k h g)) (one_more (place fs g) k (key ws g i j) (waiting_at l t x g i j))

  -- Marks

  pub mark_start : mark_after L ws 0 ≡ (λ f i j. 0)
  unfolding mark_after
  mark_start = fun_ext (λ f. fun_ext (λ i. fun_ext (λ j. elim (place_cases fs f) [
    | inl p ↦ rw (p.0, def_none L preds f (inl p.1) i, and-false (eqb j 0))
    | inr p ↦ rw (p.1, lt-leb (suc p.0) 0 (omega arith))
  ])))

  pub mark_end : (k : ℕ) → length fs ≤ k → mark_after L ws k ≡ (λ f i j. mark (eqb j 0 && is_def ws f i))
  unfolding mark_after
  mark_end k h = fun_ext (λ f. fun_ext (λ i. fun_ext (λ j. rw (le-leb (place fs f) k (omega (arith, place_most fs f))))))

  module _ (k : ℕ) (h : k < length fs) (g : List ℕ) (i j : ℕ) where
    -- the family that is next has no mark yet
    pub mark_next : mark_after L ws (k + 1) g i j ≡ cond (g ≟ family_name L k) (mark (eqb j 0 && is_def ws g i)) (mark_after L ws k g i j)
    unfolding mark_after
    mark_next = rw (← (place_is L k h g)) (one_more (place fs g) k (mark (eqb j 0 && is_def ws g i)) 0)

    pub mark_new : (g ≟ family_name L k) ≡ true → mark_after L ws k g i j ≡ 0
    unfolding mark_after
    mark_new e = let q = eqb-true (place fs g) (k + 1) (place_is L k h g ∙ e) in rw (lt-leb (place fs g) k (omega arith))
