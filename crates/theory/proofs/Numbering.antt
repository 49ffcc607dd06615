-- Web numbers, over any edges.
--   Lawful edge reads w   the webs w are those of the edges and the reading lines, in their representatives and reaching lists
--   definition_of w d     d is the entry or a defining line of w
--   rep_of w d            the representative of the definition d
--   first_of              the representative of a definition is the first definition of its web
--   is_first_iff          a definition is its own representative exactly if it is the first of its web
--   number_iff            two definitions have one number exactly if a chain links them
--   number_entry          the entry's number is 0
--   number_order          numbers go by the first definition of each web
--   number_bound          there are at most as many numbers beside 0 as definitions beside the entry
--   number_used           every number below a used number is used
--   read_number_reaches   a read has the number of every definition that reaches it
--   read_number_none      a read that nothing reaches has number 0
-- `web_number w d` itself counts the definitions that are their own representative and come before d's, so it is how many webs have their
-- first definition before the first definition of d's web.
-- Assumes nothing.
use Prim.Native.Nat.{ℕ, ◌<◌, ◌≤◌}
use mathlib.Core.Path.{◌≡◌, refl, sym, ap, ◌∙◌}
use mathlib.Core.Logic.{inl, inr, ◌↔◌}
use mathlib.Core.Bool.{Bool, true, false, ◌&&◌, and-false}
use mathlib.Core.List.{List, [], ◌∷◌}
use native.Mathlib.Omega.{arith}
use lib.Dec.{eqb, ltb}
use borrow.Author.Tests.{eqb-true, eq-eqb, ltb-true, lt-ltb, le-ltb}
use lib.ListN.{length, get_or}
use Rattle.definitions.specs.Lists.{any, member, or_else, first}
use Rattle.definitions.specs.Reaching.{is_definition, Reaches, Chain, itself, link}
use Rattle.definitions.specs.Recover.{Webs, web_number, read_number}
use Rattle.theory.proofs.Bools.{not_so, clash, and_both, and_split, lt_or_ge}
use Rattle.theory.proofs.ListLaws.{member_head, no_members, count_lt, count_all, count_none}
use Rattle.theory.proofs.Paths.{reaches_definition, chain_definition}
use Rattle.theory.proofs.Merging.{Representatives}
use Rattle.theory.proofs.Ranks.{Rising, rank_used}

abbrev pub definition_of : Webs → ℕ → Bool
definition_of w d = is_definition (λ i. member i w.defs) d

abbrev pub rep_of : Webs → ℕ → ℕ
rep_of w d = get_or w.rep d 0

-- What numbering needs of the webs of one family: definitions that are lines below `lines`, in rising order, their representatives, and what
-- reaches each reading line.
pub record Lawful (edge : ℕ → ℕ → Bool) (reads : ℕ → Bool) (w : Webs) : Type 0 where
  pub lines : ℕ
  pub inside : (d : ℕ) → definition_of w d ≡ true → d < lines
  pub rising : Rising 0 (0 ∷ w.defs)
  pub representatives : Representatives edge (λ i. member i w.defs) reads lines w.rep
  pub reaching_iff : (d i : ℕ) → reads i ≡ true → (member d (get_or w.reaching i []) ≡ true) ↔ Reaches edge (λ i. member i w.defs) d i

module _ {edge : ℕ → ℕ → Bool} {reads : ℕ → Bool} {w : Webs} (W : Lawful edge reads w) where
  abbrev Linked : ℕ → ℕ → Type 0
  Linked a b = Chain edge (λ i. member i w.defs) reads a b

  R : Representatives edge (λ i. member i w.defs) reads W.lines w.rep
  R = W.representatives

  -- The first definition of a web

  pub first_of : (d : ℕ) → definition_of w d ≡ true
      → Linked d (rep_of w d) × (definition_of w (rep_of w d) ≡ true) × ((e : ℕ) → Linked d e → rep_of w d ≤ e)
  first_of d s =
      let h = W.inside d s in
      let c : Linked d (rep_of w d) = R.to_chain d (rep_of w d) h (omega (arith, R.below d)) (sym (R.twice d)) in
      (c, chain_definition c s, λ e q. rw (R.of_chain q) (R.below e))

  pub is_first_iff : (d : ℕ) → definition_of w d ≡ true → (rep_of w d ≡ d) ↔ ((e : ℕ) → Linked d e → d ≤ e)
  is_first_iff d s = (λ q e c. omega (arith, (first_of d s).2 e c), λ h. omega (arith, h (rep_of w d) (first_of d s).0, R.below d))

  -- Numbers of definitions

  abbrev starts : ℕ → Bool
  starts x = eqb (rep_of w x) x

  -- the webs that start before x
  abbrev earlier : ℕ → ℕ → Bool
  earlier x y = starts y && ltb y x

  not_earlier : (x : ℕ) → earlier x x ≡ false
  not_earlier x = ap (starts x &&◌) (le-ltb x x (omega arith)) ∙ and-false (starts x)

  pub number_order : (a b : ℕ) → definition_of w a ≡ true → rep_of w a < rep_of w b → web_number w a < web_number w b
  unfolding any web_number
  number_order a b s h =
      count_lt (earlier (rep_of w a)) (earlier (rep_of w b)) (0 ∷ w.defs) (rep_of w a)
      more (first_of a s).1 (not_earlier (rep_of w a)) (and_both (eq-eqb _ _ (R.twice a)) (lt-ltb _ _ h))
    where
      more : (x : ℕ) → earlier (rep_of w a) x ≡ true → earlier (rep_of w b) x ≡ true
      more x e =
          let r = and_split (starts x) (ltb x (rep_of w a)) e in
          and_both r.0 (lt-ltb x (rep_of w b) (let q = ltb-true x (rep_of w a) r.1 in omega arith))

  pub number_bound : (d : ℕ) → definition_of w d ≡ true → web_number w d ≤ length w.defs
  unfolding any web_number
  number_bound d s =
      let h = count_lt (earlier (rep_of w d)) (λ x. true) (0 ∷ w.defs) (rep_of w d)
      (λ x e. refl) (first_of d s).1 (not_earlier (rep_of w d)) refl in
      omega (arith, count_all (λ x. true) (0 ∷ w.defs))

  number_rep : (a b : ℕ) → definition_of w a ≡ true → definition_of w b ≡ true → web_number w a ≡ web_number w b → rep_of w a ≡ rep_of w b
  number_rep a b sa sb e = elim (lt_or_ge (rep_of w a) (rep_of w b)) [
    | inl q ↦ absurd (omega (arith, number_order a b sa q))
    | inr q ↦ elim (lt_or_ge (rep_of w b) (rep_of w a)) [
      | inl p ↦ absurd (omega (arith, number_order b a sb p))
      | inr p ↦ omega arith
    ]
  ]

  rep_number : (a b : ℕ) → rep_of w a ≡ rep_of w b → web_number w a ≡ web_number w b
  unfolding web_number
  rep_number a b e = rw e

  pub number_iff : (a b : ℕ) → definition_of w a ≡ true → definition_of w b ≡ true → (web_number w a ≡ web_number w b) ↔ Linked a b
  number_iff a b sa sb =
      (λ e. R.to_chain a b (W.inside a sa) (W.inside b sb) (number_rep a b sa sb e), λ c. rep_number a b (R.of_chain c))

  pub number_entry : web_number w 0 ≡ 0
  unfolding web_number
  number_entry =
      let z : rep_of w 0 ≡ 0 = omega (arith, R.below 0) in
      rw z (count_none (earlier 0) (0 ∷ w.defs) (λ x. ap (starts x &&◌) (le-ltb x 0 (omega arith)) ∙ and-false (starts x)))

  pub number_used : (d m : ℕ) → m < web_number w d → (e : ℕ) × (definition_of w e ≡ true) × (web_number w e ≡ m)
  unfolding any web_number
  number_used d m h =
      let r = rank_used starts 0 (0 ∷ w.defs) W.rising (rep_of w d) m h in
      (r.0, r.1, rw (eqb-true (rep_of w r.0) r.0 r.2) r.3)

  -- Numbers of reads

  pub read_number_reaches : (i d : ℕ) → reads i ≡ true → Reaches edge (λ i. member i w.defs) d i → read_number w i ≡ web_number w d
  unfolding any
  read_number_reaches i d read r = go (get_or w.reaching i []) refl
    where
      go : (ds : List ℕ) → get_or w.reaching i [] ≡ ds → web_number w (or_else (first ds) 0) ≡ web_number w d
      go [] e = clash (rw e at ((W.reaching_iff d i read).1 r)) refl
      go (c ∷ ds) e =
          let rc = (W.reaching_iff c i read).0 (rw e (member_head c ds)) in
          (number_iff c d (reaches_definition rc) (reaches_definition r)).1 (link i itself read rc r)

  pub read_number_none : (i : ℕ) → reads i ≡ true → ((d : ℕ) → ¬ Reaches edge (λ i. member i w.defs) d i) → read_number w i ≡ 0
  read_number_none i read h =
      rw (no_members (get_or w.reaching i []) (λ d. not_so _ (λ m. h d ((W.reaching_iff d i read).0 m)))) number_entry
