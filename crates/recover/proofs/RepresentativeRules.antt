-- Rules for the needs of `representatives`.
--   alone_next, alone_end                 the loop of `alone`
--   rep_of, least_one, least_next, least_end      the loop of `least`
--   mark_at, mark_past                    one mark
--   marks_start, marks_next, marks_end    the loop of `mark_all`
--   merged_yes, merged_no, merged_past    one representative
--   merge_next                            the loop of `merge`
--   alike_by                              `is_same`
--   link_few, link_same, link_some       `link`
--   starts_yes, starts_no, ranks_start, ranks_next, ranks_count     `starts` and the loop of `ranks`
-- Assumes nothing.
use Prim.Native.Nat.{ℕ, ◌+◌, ◌-◌, ◌<◌, ◌≤◌, min}
use mathlib.Core.Path.{◌≡◌, refl, sym, ap, ap₂, ◌∙◌}
use mathlib.Core.Logic.{inl, inr}
use mathlib.Core.Bool.{Bool, true, false, cond, ◌||◌}
use mathlib.Core.List.{List, [], ◌∷◌, ◌++◌, map}
use native.Mathlib.Numerals.{add-one}
use native.Mathlib.Nat.{zero-add}
use native.Mathlib.Omega.{arith}
use lib.Dec.{eqb}
use borrow.Author.Tests.{eq-eqb, ne_eqb, eqb-true, eqb-false}
use lib.ListN.{length, get_or, set, take, drop, length-set, length-replicate, get_or-replicate, get_or-eq_default}
use lib.Seq.{take-suc, take_all, set_out, get_or-set_same, get_or-set_other}
use Rattle.definitions.specs.Lists.{any, all, fold, up_to, member}
use Rattle.definitions.specs.Recover.{link}
use Rattle.theory.proofs.Bools.{and_split, or_left, or_right, clash}
use Rattle.theory.proofs.ListLaws.{any_found, any_here, member_cases, getD_range, length_range}
use Rattle.text.specs.Zeroed.{zeroed}
use Rattle.text.proofs.Parts.{drop_step, drop_end}
use Rattle.text.proofs.Fills.{filled, fill_next, fill_end}
use Rattle.recover.specs.Numbers.{touched, Least, Within, alike, marked, merged, earlier}
use Rattle.families.proofs.Lists.{any_snoc, member_snoc, map_within, fill_start, fill_rest}
use Rattle.visit.proofs.ListFacts.{getD_member}
use Rattle.recover.proofs.Linking.{map_own, link_merged}
use Rattle.recover.proofs.Ranks.{earlier_zero, earlier_next}

-- `alone`

abbrev own : ℕ → ℕ
own x = x

unfoldable pub counting : List ℕ → ℕ → List ℕ
counting d i = filled own (up_to (length d)) d i

pub alone_start : (d : List ℕ) → d ≡ counting d 0
unfolding counting
alone_start d = fill_start own (up_to (length d)) d

module _ (d o : List ℕ) (i : ℕ) (inv : o ≡ counting d i) where
  pub alone_next : (v : ℕ) → i < length o → length o ≡ length d → v ≡ i → set o i v ≡ counting d (i + 1)
  unfolding counting
  alone_next v h s e =
      fill_next own (up_to (length d)) d o i (length d) (sym (length_range 0 (length d))) inv refl 0 v (omega arith)
      (e ∙ sym (getD_range 0 (length d) i 0 (omega arith) ∙ zero-add i))

  pub alone_end : length o ≤ i → length o ≡ length d → o ≡ up_to (length d)
  unfolding counting
  alone_end h s = fill_end own (up_to (length d)) d o i (length d) (sym (length_range 0 (length d))) inv refl (omega arith) ∙ map_own own (up_to (length d)) (λ x. refl)

-- `least`

least_snoc : (rep ds : List ℕ) (m x : ℕ) → Least rep ds m → Least rep (ds ++ (x ∷ [])) (min m (get_or rep x 0))
unfolding touched
least_snoc rep ds m x l = record {
  among = any_snoc (λ d. eqb (min m (get_or rep x 0)) (get_or rep d 0)) ds x ∙ go (eqb (min m (get_or rep x 0)) m) refl;
  below = λ d q. elim (member_snoc d x ds q) [ inl h ↦ omega (arith, l.below d h) | inr h ↦ rw h (omega arith) ];
}
  where
    go : (b : Bool) → eqb (min m (get_or rep x 0)) m ≡ b
        → (any (λ d. eqb (min m (get_or rep x 0)) (get_or rep d 0)) ds || eqb (min m (get_or rep x 0)) (get_or rep x 0)) ≡ true
    go true e = rw (eqb-true (min m (get_or rep x 0)) m e) (or_left (touched rep ds m) (eqb m (get_or rep x 0)) l.among)
    go false e = or_right (any (λ d. eqb (min m (get_or rep x 0)) (get_or rep d 0)) ds) _ (eq-eqb (min m (get_or rep x 0)) (get_or rep x 0) (let n = eqb-false (min m (get_or rep x 0)) m e in omega arith))

module _ (rep ds : List ℕ) where
  pub least_one : (m : ℕ) → 0 < length ds → m ≡ get_or rep (get_or ds 0 0) 0 → Least rep (take 1 ds) m
  unfolding touched any
  least_one m h q = go ds h q
    where
      go : (ds : List ℕ) → 0 < length ds → m ≡ get_or rep (get_or ds 0 0) 0 → Least rep (take 1 ds) m
      go [] h q = absurd (omega arith)
      go (d ∷ ds) h q = record {
        among = or_left (eqb m (get_or rep d 0)) false (eq-eqb m (get_or rep d 0) q);
        below = λ x s. elim (member_snoc x d [] s) [ inl t ↦ clash t refl | inr t ↦ omega (arith, ap (λ (y : ℕ). get_or rep y 0) t) ];
      }

  module _ (m k : ℕ) (l : Least rep (take k ds) m) where
    pub least_next : (v r : ℕ) → k < length ds → v ≡ get_or rep (get_or ds k 0) 0 → r ≡ min m v → Least rep (take (k + 1) ds) r
    least_next v r h q s = rw (add-one, take-suc ds k 0 h, s, q) (least_snoc rep (take k ds) m (get_or ds k 0) l)

    pub least_end : length ds ≤ k → Least rep ds m
    least_end h = rw (take_all k ds h) at l

-- `mark` and `mark_all`

module _ (marks : List ℕ) (k r : ℕ) (e : k ≡ r) where
  pub mark_at : set marks k 1 ≡ set marks r 1
  mark_at = rw e

  pub mark_past : length marks ≤ k → marks ≡ set marks r 1
  mark_past h = sym (set_out marks r 1 (omega arith))

module _ (rep ds marks₀ : List ℕ) where
  pub marks_start : marked rep marks₀ (drop 0 ds) ≡ marked rep marks₀ ds
  marks_start = refl

  module _ (marks : List ℕ) (k : ℕ) (inv : marked rep marks (drop k ds) ≡ marked rep marks₀ ds) where
    pub marks_next : (next : List ℕ) (v : ℕ) → k < length ds → v ≡ get_or rep (get_or ds k 0) 0 → next ≡ set marks v 1
        → marked rep next (drop (k + 1) ds) ≡ marked rep marks₀ ds
    unfolding marked fold
    marks_next next v h q s = rw (s, q) (rw (drop_step 0 ds k h) at inv)

    pub marks_end : length ds ≤ k → marks ≡ marked rep marks₀ ds
    unfolding marked fold
    marks_end h = rw (drop_end ds k h) at inv

-- `merged` and `merge`

module _ (marks : List ℕ) (m k r : ℕ) (e : k ≡ r) where
  pub merged_yes : get_or marks k 0 ≡ 1 → m ≡ merged m marks r
  unfolding merged
  merged_yes h = rw (← e, eq-eqb (get_or marks k 0) 1 h)

  pub merged_no : (get_or marks k 0 ≡ 1 → ⊥) → r ≡ merged m marks r
  unfolding merged
  merged_no h = rw (ne_eqb (get_or marks r 0) 1 (rw e at h))

  pub merged_past : length marks ≤ k → r ≡ merged m marks r
  unfolding merged
  merged_past h = rw (get_or-eq_default marks 0 {n = r} (omega arith))

module _ (marks d o : List ℕ) (m i : ℕ) (inv : o ≡ filled (merged m marks) d d i) where
  pub merge_next : (v : ℕ) → i < length o → length o ≡ length d → v ≡ merged m marks (get_or o i 0) → set o i v ≡ filled (merged m marks) d d (i + 1)
  merge_next v h s e =
      fill_next (merged m marks) d d o i (length d) refl inv refl 0 v (omega arith)
      (e ∙ ap (merged m marks) (fill_rest (merged m marks) d d o i inv (omega arith)))

  pub merge_end : length o ≤ i → length o ≡ length d → o ≡ map (merged m marks) d
  merge_end h s = fill_end (merged m marks) d d o i (length d) refl inv refl (omega arith)

-- `link`

marked_at : (rep ds marks : List ℕ) (r : ℕ) → r < length marks → ((d : ℕ) → get_or rep d 0 < length marks)
    → get_or (marked rep marks ds) r 0 ≡ cond (touched rep ds r) 1 (get_or marks r 0)
unfolding marked fold touched any
marked_at rep [] marks r h w = refl
marked_at rep (d ∷ ds) marks r h w =
    marked_at rep ds (set marks (get_or rep d 0) 1) r (rw length-set h) (λ x. rw length-set (w x)) ∙ go (eqb r (get_or rep d 0)) refl (any (λ x. eqb r (get_or rep x 0)) ds)
  where
    go : (b : Bool) → eqb r (get_or rep d 0) ≡ b → (t : Bool) → cond t 1 (get_or (set marks (get_or rep d 0) 1) r 0) ≡ cond (b || t) 1 (get_or marks r 0)
    go true e true = refl
    go true e false = ap (λ (k : ℕ). get_or (set marks (get_or rep d 0) 1) k 0) (eqb-true r (get_or rep d 0) e) ∙ get_or-set_same marks (get_or rep d 0) 1 0 (w d)
    go false e true = refl
    go false e false = get_or-set_other marks (get_or rep d 0) r 1 0 (eqb-false r (get_or rep d 0) e)

pub link_few : (rep ds : List ℕ) → length ds < 2 → rep ≡ link rep ds
unfolding link
link_few rep [] h = refl
link_few rep (d ∷ []) h = refl
link_few rep (d ∷ (e ∷ ds)) h = absurd (omega arith)

pub alike_by : (rep ds : List ℕ) (k a b : ℕ) → a ≡ get_or rep (get_or ds k 0) 0 → b ≡ get_or rep (get_or ds 0 0) 0 → eqb a b ≡ alike rep ds (get_or ds k 0)
alike_by rep ds k a b p q = ap₂ eqb p q

all_at : (f : ℕ → Bool) (xs : List ℕ) (x : ℕ) → all f xs ≡ true → member x xs ≡ true → f x ≡ true
unfolding all any
all_at f [] x e h = clash h refl
all_at f (y ∷ xs) x e h = elim (member_cases x y xs h) [
  | inl q ↦ rw q (and_split (f y) (all f xs) e).0
  | inr q ↦ all_at f xs x (and_split (f y) (all f xs) e).1 q
]

-- definitions of one representative are linked already
pub link_same : (rep ds : List ℕ) (b : Bool) → 2 ≤ length ds → b ≡ all (alike rep ds) ds → b ≡ true → rep ≡ link rep ds
unfolding touched
link_same rep ds b z e t = sym (link_merged ds rep m least ∙ map_own (λ r. cond (touched rep ds r) m r) rep (λ r. kept r (touched rep ds r) refl))
  where
    m : ℕ
    m = get_or rep (get_or ds 0 0) 0

    same : (d : ℕ) → member d ds ≡ true → get_or rep d 0 ≡ m
    same d h = eqb-true (get_or rep d 0) m (all_at (alike rep ds) ds d (sym e ∙ t) h)

    least : Least rep ds m
    least = record {
      among = any_here (λ d. eqb m (get_or rep d 0)) ds (get_or ds 0 0) (getD_member ds 0 0 (omega arith)) (eq-eqb m m refl);
      below = λ d h. omega (arith, same d h);
    }

    only : (r : ℕ) → touched rep ds r ≡ true → r ≡ m
    only r h = let s = any_found (λ d. eqb r (get_or rep d 0)) ds h in eqb-true r (get_or rep s.0 0) s.2 ∙ same s.0 s.1

    kept : (r : ℕ) (b : Bool) → touched rep ds r ≡ b → cond b m r ≡ r
    kept r true h = sym (only r h)
    kept r false h = refl

module _ (rep ds marks : List ℕ) (w : Within (length marks) rep) where
  pub link_some : (zeros now last : List ℕ) (m : ℕ) → zeros ≡ zeroed 0 marks → now ≡ marked rep zeros ds → Least rep ds m → last ≡ map (merged m now) rep → last ≡ link rep ds
  unfolding merged
  link_some zeros now last m z n l e =
      e ∙ rw (n, z) (map_within (merged m (marked rep (zeroed 0 marks) ds)) (λ r. cond (touched rep ds r) m r) (length marks) same rep (λ d h. w.at d))
      ∙ sym (link_merged ds rep m l)
    where
      size : length (zeroed 0 marks) ≡ length marks
      size = length-replicate (length marks - 0) 0 ∙ omega arith

      same : (r : ℕ) → r < length marks → merged m (marked rep (zeroed 0 marks) ds) r ≡ cond (touched rep ds r) m r
      same r h = rw (marked_at rep ds (zeroed 0 marks) r (omega (arith, size)) (λ d. rw size (w.at d)), get_or-replicate {A = ℕ} (length marks - 0) r 0 0 (omega arith)) (go (touched rep ds r))
        where
          go : (b : Bool) → cond (eqb (cond b 1 0) 1) m r ≡ cond b m r
          go true = refl
          go false = refl

-- `starts` and `ranks`

pub rep_of : (rep ds : List ℕ) (k a v : ℕ) → a ≡ get_or ds k 0 → v ≡ get_or rep a 0 → v ≡ get_or rep (get_or ds k 0) 0
rep_of rep ds k a v p r = rw (← p) r

module _ (rep : List ℕ) (d k : ℕ) (p : k ≡ get_or rep d 0) where
  pub starts_yes : k ≡ d → ◌≡◌ {A = ℕ} 1 (cond (eqb (get_or rep d 0) d) 1 0)
  starts_yes e = rw (eq-eqb (get_or rep d 0) d (sym p ∙ e))

  pub starts_no : (k ≡ d → ⊥) → ◌≡◌ {A = ℕ} 0 (cond (eqb (get_or rep d 0) d) 1 0)
  starts_no e = rw (ne_eqb (get_or rep d 0) d (λ s. e (p ∙ s)))

unfoldable pub ranked : List ℕ → List ℕ → ℕ → List ℕ
ranked rep rank i = filled (earlier rep) (up_to (length rep)) rank i

pub ranks_start : (rep rank : List ℕ) → rank ≡ ranked rep rank 0
unfolding ranked
ranks_start rep rank = fill_start (earlier rep) (up_to (length rep)) rank

pub ranks_none : (rep : List ℕ) → 0 ≡ earlier rep 0
ranks_none rep = sym (earlier_zero rep)

module _ (rep d o : List ℕ) (i count : ℕ) (same : length d ≡ length rep) where
  pub ranks_next : (v : ℕ) → o ≡ ranked rep d i → count ≡ earlier rep i → i < length o → length o ≡ length d → v ≡ count → set o i v ≡ ranked rep d (i + 1)
  unfolding ranked
  ranks_next v inv c h s e =
      fill_next (earlier rep) (up_to (length rep)) d o i (length rep) (sym (length_range 0 (length rep))) inv same 0 v (omega arith)
      (e ∙ c ∙ ap (earlier rep) (sym (getD_range 0 (length rep) i 0 (omega arith) ∙ zero-add i)))

  pub ranks_count : (v : ℕ) → count ≡ earlier rep i → i < length o → length o ≡ length d → v ≡ cond (eqb (get_or rep i 0) i) 1 0 → count + v ≡ earlier rep (i + 1)
  ranks_count v c h s e = rw (c, e) (sym (earlier_next rep i (omega arith)))

  pub ranks_end : o ≡ ranked rep d i → length o ≤ i → length o ≡ length d → o ≡ map (earlier rep) (up_to (length rep))
  unfolding ranked
  ranks_end inv h s = fill_end (earlier rep) (up_to (length rep)) d o i (length rep) (sym (length_range 0 (length rep))) inv same (omega arith)

pub ruleset representative_rules = (alone_start, alone_next, alone_end, rep_of, least_one, least_next, least_end, mark_at, mark_past, marks_start, marks_next, marks_end, merged_yes, merged_no, merged_past, fill_start, merge_next, merge_end, link_few, alike_by, link_same, link_some, starts_yes, starts_no, ranks_start, ranks_none, ranks_next, ranks_count, ranks_end)
