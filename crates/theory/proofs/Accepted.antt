-- What the web call answers of a listing that it accepts.
--   accepted_lines, accepted_flow     it has two lines or more, and a flow graph
--   all_webs L G                      the webs of every family that has a definition and is not address_taken
--   has_webs L f                      the family f is one of those
--   accepted_numbers                  the answered numbers are those that `key` gives, token by token
--   number_family, number_other       the number at a token that has a family, and at one that has none
--   number_of L G f d                 the number of the definition d of the family f; 0 of a family that has no webs
--   key_taken                         `key` gives 0 everywhere to a family whose address is taken
--   key_definition, key_read          what `key` gives at a definition, and at a read, is the number of what reaches it
--   number_of_entry, number_of_iff    the entry's number is 0; equal numbers are chains
-- Assumes nothing.
use Rattle.std.specs.Prelude.{Option, None, Some}
use Prim.Native.Nat.{ℕ, ◌<◌, ◌≤◌}
use mathlib.Core.Path.{◌≡◌, refl, sym, ap, ◌∙◌}
use mathlib.Core.Logic.{inl, inr, ◌↔◌}
use mathlib.Core.Bool.{Bool, true, false, cond, ◌&&◌, ◌||◌, not, and-false}
use mathlib.Core.List.{List, [], ◌∷◌, map}
use native.Mathlib.Omega.{arith}
use lib.Dec.{eqb, leb}
use borrow.Author.Tests.{leb-true}
use lib.ListN.{length}
use Rattle.definitions.specs.Lists.{◌>>=◌, require, is_some, or_else, to_list, any, filter, find, concat, up_to, member, ◌≟◌}
use Rattle.definitions.specs.Model.{Line, line}
use Rattle.definitions.specs.Family.{Family, fam_of}
use Rattle.definitions.specs.Statements.{defines}
use Rattle.definitions.specs.Blocks.{Blocks, blocks}
use Rattle.definitions.specs.FlowGraph.{successors, flow_graph, steps, gotos_lead}
use Rattle.definitions.specs.Reaching.{is_definition, Reaches, Chain, itself}
use Rattle.definitions.specs.Recover.{from_line_1, is_def_of, address_taken, Webs, webs_of, distinct, defined_families, recover, web_number, read_number, webs_for, key}
use Rattle.definitions.specs.Answers.{Answer, refused, accepted, Numbered, no_family, per_token, numbered_webs, webs_refusal, webs}
use Rattle.definitions.specs.Runs.{number_at}
use Rattle.definitions.specs.Demand3.{defines_at, reads_at}
use Rattle.theory.proofs.Bools.{clash, not_so, and_both, or_left}
use Rattle.theory.proofs.ListLaws.{any_filter, any_concat, filter_passes, ≟_true, ≟_self}
use Rattle.theory.proofs.Paths.{definition_cases}
use Rattle.theory.proofs.Graph.{predecessor_lists, predecessors_length, predecessors_enter}
use Rattle.theory.proofs.Numbering.{Lawful, number_iff, number_entry, read_number_reaches}
use Rattle.theory.proofs.FamilyWebs.{family_lawful}
use Rattle.theory.proofs.Tokens.{token_at, number_of_family, number_of_other}

-- The answer

not_refused : (L : List Line) (r : Numbered) → webs L ≡ accepted r
    → (webs_refusal L ≡ None) × (r ≡ numbered_webs L (or_else (recover L) []))
unfolding webs
not_refused L r e = go (webs_refusal L) refl e
  where
    answer : Option ℕ → Answer Numbered
    answer o = elim o [ Some n ↦ refused n | None ↦ accepted (numbered_webs L (or_else (recover L) [])) ]

    go : (o : Option ℕ) → webs_refusal L ≡ o → answer o ≡ accepted r
        → (webs_refusal L ≡ None) × (r ≡ numbered_webs L (or_else (recover L) []))
    go (Some n) q e = let z : ◌≡◌ {A = ℕ} 0 1 = cc in absurd (omega arith)
    go None q e = (q, cc)

questions : (L : List Line) → webs_refusal L ≡ None → (leb 2 (length L) ≡ true) × ((G : List (List ℕ)) × (flow_graph L ≡ Some G))
unfolding webs_refusal flow_graph
questions L e = go (leb 2 (length L)) (blocks L) (gotos_lead L) e
  where
    go : (two : Bool) (o : Option Blocks) (g : Bool)
        → cond {A = Option ℕ} (not two) (Some 7) (cond (not (is_some o)) (Some 8) (cond (not g) (Some 9) None)) ≡ None
        → (two ≡ true) × ((G : List (List ℕ)) × ((o >>= λ b. require g >>= λ _. Some (map (successors L b) (up_to (length L)))) ≡ Some G))
    go false o g e = let z : ◌≡◌ {A = ℕ} 0 1 = cc in absurd (omega arith)
    go true None g e = let z : ◌≡◌ {A = ℕ} 0 1 = cc in absurd (omega arith)
    go true (Some b) false e = let z : ◌≡◌ {A = ℕ} 0 1 = cc in absurd (omega arith)
    go true (Some b) true e = (refl, (map (successors L b) (up_to (length L)), refl))

pub accepted_flow : (L : List Line) (r : Numbered) → webs L ≡ accepted r → (G : List (List ℕ)) × (flow_graph L ≡ Some G)
accepted_flow L r e = (questions L (not_refused L r e).0).1

pub accepted_lines : (L : List Line) (r : Numbered) → webs L ≡ accepted r → 2 ≤ length L
accepted_lines L r e = leb-true 2 (length L) (questions L (not_refused L r e).0).0

abbrev pub all_webs : List Line → List (List ℕ) → List Webs
all_webs L G = map (webs_of L (predecessor_lists L G)) (filter (λ f. not (address_taken L f)) (defined_families L))

recover_all : (L : List Line) (G : List (List ℕ)) → leb 2 (length L) ≡ true → flow_graph L ≡ Some G → recover L ≡ Some (all_webs L G)
unfolding recover
recover_all L G two flow = rw (two, flow)

pub accepted_numbers : (L : List Line) (G : List (List ℕ)) (r : Numbered) → webs L ≡ accepted r → flow_graph L ≡ Some G
    → r.numbers ≡ per_token no_family (key (all_webs L G)) L
accepted_numbers L G r e flow =
    let a = not_refused L r e in
    ap (λ (r : Numbered). r.numbers) a.1
    ∙ ap (λ (o : Option (List Webs)). per_token no_family (key (or_else o [])) L) (recover_all L G (questions L a.0).0 flow)

module _ (L : List Line) (G : List (List ℕ)) (r : Numbered) (e : webs L ≡ accepted r) (flow : flow_graph L ≡ Some G) where
  pub number_family : (i k : ℕ) (x : Family) → fam_of (token_at L i k) ≡ Some x
      → number_at L r.numbers i k ≡ key (all_webs L G) x.name i k
  number_family i k x q = rw (accepted_numbers L G r e flow) (number_of_family no_family (key (all_webs L G)) L i k x q)

  pub number_other : (i k : ℕ) → i < length L → k < length (line L i).tokens → fam_of (token_at L i k) ≡ None
      → number_at L r.numbers i k ≡ 4294967295
  number_other i k h g q = rw (accepted_numbers L G r e flow) (number_of_other no_family (key (all_webs L G)) L i k h g q)

-- The webs of one family among all

abbrev is_text : List ℕ → List ℕ → Bool
is_text f g = g ≟ f

abbrev pub has_webs : List Line → List ℕ → Bool
has_webs L f = any (is_text f) (defined_families L) && not (address_taken L f)

webs_for_map : (L : List Line) (preds : List (List ℕ)) (f : List ℕ) (fs : List (List ℕ))
    → webs_for (map (webs_of L preds) fs) f ≡ cond (any (is_text f) fs) (Some (webs_of L preds f)) None
unfolding find any webs_of
webs_for_map L preds f [] = refl
webs_for_map L preds f (g ∷ gs) = go (g ≟ f) refl (webs_for_map L preds f gs)
  where
    go : (b : Bool) → g ≟ f ≡ b → webs_for (map (webs_of L preds) gs) f ≡ cond (any (is_text f) gs) (Some (webs_of L preds f)) None
        → cond b (Some (webs_of L preds g)) (webs_for (map (webs_of L preds) gs) f)
        ≡ cond (b || any (is_text f) gs) (Some (webs_of L preds f)) None
    go true q e = ap (λ (h : List ℕ). Some (webs_of L preds h)) (≟_true g f q)
    go false q e = e

webs_for_all : (L : List Line) (G : List (List ℕ)) (f : List ℕ)
    → webs_for (all_webs L G) f ≡ cond (has_webs L f) (Some (webs_of L (predecessor_lists L G) f)) None
webs_for_all L G f =
    webs_for_map L (predecessor_lists L G) f (filter (λ f. not (address_taken L f)) (defined_families L))
    ∙ ap (λ (b : Bool). cond b (Some (webs_of L (predecessor_lists L G) f)) None)
    (any_filter (is_text f) (λ f. not (address_taken L f)) f (λ g q. sym (≟_true g f q)) (defined_families L))

distinct_has : (f : List ℕ) (fs : List (List ℕ)) → any (is_text f) fs ≡ true → any (is_text f) (distinct fs) ≡ true
unfolding any distinct
distinct_has f [] e = e
distinct_has f (g ∷ gs) e = go (g ≟ f) refl e (distinct_has f gs)
  where
    other : g ≟ f ≡ false → not (f ≟ g) ≡ true
    other q = ap not (not_so (f ≟ g) (λ s. clash (rw (≟_true f g s) (≟_self g)) q))

    go : (b : Bool) → g ≟ f ≡ b → (b || any (is_text f) gs) ≡ true → (any (is_text f) gs ≡ true → any (is_text f) (distinct gs) ≡ true)
        → (b || any (is_text f) (filter (λ h. not (h ≟ g)) (distinct gs))) ≡ true
    go true q e rest = refl
    go false q e rest =
        any_filter (is_text f) (λ h. not (h ≟ g)) f (λ h s. sym (≟_true h f s)) (distinct gs) ∙ and_both (rest e) (other q)

-- a family that a line defines is one that has a definition
defined_has : (L : List Line) (f : List ℕ) (i : ℕ) → defines_at L f i ≡ true → any (is_text f) (defined_families L) ≡ true
unfolding any
defined_has L f i e =
    let r = filter_passes (λ i. is_def_of f (line L i)) (from_line_1 L) i e in
    distinct_has f (concat (map (λ i. to_list (defines (line L i))) (from_line_1 L)))
    (any_concat (is_text f) (λ i. to_list (defines (line L i))) (from_line_1 L) i r.0 (go (defines (line L i)) r.1))
  where
    go : (o : Option (List ℕ)) → (elim o [ None ↦ false | Some g ↦ g ≟ f ]) ≡ true → any (is_text f) (to_list o) ≡ true
    go None e = e
    go (Some g) e = or_left (g ≟ f) false e

-- The numbers of one family

module _ (L : List Line) (G : List (List ℕ)) (two : 2 ≤ length L) (flow : flow_graph L ≡ Some G) (f : List ℕ) where
  abbrev family_webs : Webs
  family_webs = webs_of L (predecessor_lists L G) f

  lawful : Lawful (steps G) (reads_at L f) family_webs
  lawful = family_lawful L (predecessor_lists L G) (steps G) (predecessors_length L G flow) (predecessors_enter L G flow) (omega arith) f

  abbrev pub number_of : ℕ → ℕ
  number_of d = cond (has_webs L f) (web_number family_webs d) 0

  abbrev key_of : Option Webs → ℕ → ℕ → ℕ
  key_of o i k = elim o [
    | None ↦ 0
    | Some w ↦ cond (eqb k 0 && member i w.defs) (web_number w i) (cond (member i w.reads) (read_number w i) 0)
  ]

  key_found : (i k : ℕ) → key (all_webs L G) f i k ≡ key_of (cond (has_webs L f) (Some family_webs) None) i k
  unfolding key
  key_found i k = ap (λ (o : Option Webs). key_of o i k) (webs_for_all L G f)

  pub key_taken : (i k : ℕ) → address_taken L f ≡ true → key (all_webs L G) f i k ≡ 0
  key_taken i k taken =
      key_found i k ∙ ap (λ (b : Bool). key_of (cond b (Some family_webs) None) i k)
      (ap (λ (b : Bool). any (is_text f) (defined_families L) && not b) taken ∙ and-false (any (is_text f) (defined_families L)))

  pub key_definition : (i : ℕ) → defines_at L f i ≡ true → key (all_webs L G) f i 0 ≡ number_of i
  unfolding webs_of
  key_definition i e = key_found i 0 ∙ go (has_webs L f)
    where
      go : (b : Bool) → key_of (cond b (Some family_webs) None) i 0 ≡ cond b (web_number family_webs i) 0
      go true = rw e
      go false = refl

  pub key_read : (i k d : ℕ) → reads_at L f i ≡ true → (eqb k 0 && defines_at L f i) ≡ false → Reaches (steps G) (defines_at L f) d i
      → key (all_webs L G) f i k ≡ number_of d
  unfolding webs_of
  key_read i k d r free q = key_found i k ∙ go (has_webs L f)
    where
      go : (b : Bool) → key_of (cond b (Some family_webs) None) i k ≡ cond b (web_number family_webs d) 0
      go true = rw (free, r) (read_number_reaches lawful i d r q)
      go false = refl

  pub number_of_entry : number_of 0 ≡ 0
  number_of_entry = go (has_webs L f)
    where
      go : (b : Bool) → cond b (web_number family_webs 0) 0 ≡ 0
      go true = number_entry lawful
      go false = refl

  pub number_of_iff : (a b : ℕ) → address_taken L f ≡ false
      → is_definition (defines_at L f) a ≡ true → is_definition (defines_at L f) b ≡ true
      → (number_of a ≡ number_of b) ↔ Chain (steps G) (defines_at L f) (reads_at L f) a b
  unfolding webs_of
  number_of_iff a b kept sa sb = go (has_webs L f) refl
    where
      entry : has_webs L f ≡ false → (d : ℕ) → is_definition (defines_at L f) d ≡ true → d ≡ 0
      entry q d s = elim (definition_cases (defines_at L f) d s) [
        | inl h ↦ h
        | inr h ↦ clash (and_both (defined_has L f d h) (ap not kept)) q
      ]

      go : (c : Bool) → has_webs L f ≡ c
          → (cond c (web_number family_webs a) 0 ≡ cond c (web_number family_webs b) 0) ↔ Chain (steps G) (defines_at L f) (reads_at L f) a b
      go true q = number_iff lawful a b sa sb
      go false q = (λ _. rw (entry q a sa, entry q b sb) itself, λ _. refl)
