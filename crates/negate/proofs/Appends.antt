-- The negated condition appended, merged, to the open line.
--   flipped_arm, flipped_nothing       what a comparison is flipped to, by its number
--   adds_flipped                       a token with a comparison flipped, in three pieces
--   adds_whole, adds_other, adds_here  a token of the condition, by the answer and its place
--   tokens_start, tokens_next          the loop over them
--   adds_flip, adds_around             the negation, by the answer
-- Assumes nothing.
use Rattle.std.specs.Prelude.{Option, None, Some}
use mathlib.Core.Path.{◌≡◌, refl, sym, ap, ap₂, ◌∙◌}
use mathlib.Core.Bool.{true}
use mathlib.Core.List.{List, [], ◌∷◌, ◌++◌, map, append_assoc}
use Prim.Native.Nat.{ℕ, zero, suc, ◌+◌}
use native.Mathlib.Nat.{sub-zero, add-zero, zero-add, add-suc, suc-add}
use native.Mathlib.Numerals.{add-one}
use native.Mathlib.Omega.{arith}
use borrow.Author.Tests.{eq-eqb, ne_eqb}
use lib.ListN.{length, take, drop, length-append}
use lib.Seq.{drop-drop}
use Rattle.definitions.specs.Lists.{filter, range, part, ascii}
use Rattle.definitions.specs.Model.{Token, Line, tok, Punct}
use Rattle.definitions.specs.Statements.{merge}
use Rattle.definitions.specs.Condition.{flip, Comparison}
use Rattle.text.proofs.Parts.{part_tail}
use Rattle.write.specs.State.{add_bytes, end_merged, add_merged}
use Rattle.write.specs.Holds.{text_lent, tokens_lent, open_lent, Writes}
use Rattle.write.specs.declared.Writer.{Writer}
use Rattle.write.proofs.Steps.{text_alone, tokens_alone, in_turn}
use Rattle.write.proofs.Merging.{merge_snoc}
use Rattle.negate.specs.Comparisons.{named, op_width, found_of, flipped, negated_token, negation}
use Rattle.negate.specs.Tests.{test_token, test_from, test_tokens}
use Rattle.negate.specs.declared.comparison.Comparison.{Comparison as Which}
use Rattle.negate.specs.declared.comparison.Found.{Found as Place}
use Rattle.append.specs.Adds.{opened, Adding, whole}
use Rattle.append.proofs.Appends.{adds_none, adds_as, adds_more, adds_merged, adds_merge, whole_append, whole_some}
use Rattle.negate.proofs.Scanning.{named_long}
use Rattle.negate.proofs.Negations.{map_same}

-- A flipped comparison

module _ {o o1 : Writer} (w : Which) where
  pub flipped_arm : (v : Which) → w ≡ v → Writes text_lent (add_bytes (flipped v)) o o1 → Writes text_lent (add_bytes (flipped w)) o o1
  flipped_arm v e h = rw e h

flip_pieces : (s : List ℕ) (k : ℕ) (f : Place) → tok (take f.byte s ++ (flipped f.which ++ drop (op_width f.which) (drop f.byte s))) k ≡ flip (found_of f) (tok s k)
flip_pieces s k f = ap (λ (u : List ℕ). tok (take f.byte s ++ (flipped f.which ++ u)) k) (drop-drop (op_width f.which) f.byte s)

module _ {o o1 o2 o3 o4 : Writer} where
  three_pieces : (A B C : List ℕ) (k : ℕ) → Writes text_lent (add_bytes A) o o1 → Writes text_lent (add_bytes B) o1 o2
      → Writes text_lent (add_bytes C) o2 o3 → Writes tokens_lent (end_merged k) o3 o4 → Adding true (tok (A ++ (B ++ C)) k ∷ []) o o4
  three_pieces A B C k f g h e =
      let w = in_turn (text_alone f) (in_turn (text_alone g) (in_turn (text_alone h) (tokens_alone e))) in
      record {
        same = w.same;
        kept = w.kept;
        adds = λ c M ts q. rw (merge_snoc ts (tok (A ++ (B ++ C)) k), ← append_assoc A B C) (w.holds c (opened M (merge ts)) q);
      }

  module _ (s : List ℕ) (k : ℕ) (f : Place) (A R C : List ℕ) where
    pub adds_flipped : A ≡ part 0 f.byte s → R ≡ part f.byte (length s) s → (v : ℕ) → v ≡ op_width f.which → C ≡ part v (length R) R
        → Writes text_lent (add_bytes A) o o1 → Writes text_lent (add_bytes (flipped f.which)) o1 o2 → Writes text_lent (add_bytes C) o2 o3
        → Writes tokens_lent (end_merged k) o3 o4 → Adding true (flip (found_of f) (tok s k) ∷ []) o o4
    adds_flipped a r v d q e₁ g h e =
        let x : A ≡ take f.byte s = a ∙ rw (sub-zero f.byte) in
        let y : C ≡ drop (op_width f.which) (drop f.byte s) = q ∙ part_tail R v ∙ rw (d, r, part_tail s f.byte) in
        adds_as (ap (λ (t : Token). t ∷ []) (ap₂ (λ (u z : List ℕ). tok (u ++ (flipped f.which ++ z)) k) x y ∙ flip_pieces s k f)) (three_pieces A (flipped f.which) C k e₁ g h e)

-- The tokens of the condition

map_snoc : {A B : Type 0} (f : A → B) (xs : List A) (x : A) → map f (xs ++ (x ∷ [])) ≡ map f xs ++ (f x ∷ [])
map_snoc f [] x = refl
map_snoc f (y ∷ xs) x = rw (map_snoc f xs x)

range_more : (a n : ℕ) → range a (suc n) ≡ range a n ++ ((a + n) ∷ [])
unfolding range
range_more a zero = rw (add-zero a)
range_more a (suc n) = rw (add-suc a n, ← suc-add a n) (ap (λ (ks : List ℕ). a ∷ ks) (range_more (suc a) n))

range_snoc : (k : ℕ) → range 0 (k + 1) ≡ range 0 k ++ (k ∷ [])
range_snoc k = rw add-one (range_more 0 k ∙ rw (zero-add k))

flip_filled : (f : Place) (t : Token) → length (flip (found_of f) t).text ≡ 0 → ⊥
flip_filled f t e =
    let y : Comparison = named f.which in
    let u : List ℕ = drop (f.byte + length y.op) t.text in
    omega (arith, length-append (take f.byte t.text) (y.flipped ++ u), length-append y.flipped u, (named_long f.which).1)

module _ (l : Line) (m k : ℕ) (r : Option Place) (s : List ℕ) (e : s ≡ (test_token l m k).text) (n : ℕ) (d : n ≡ (test_token l m k).kind) where
  token_is : tok s n ≡ test_token l m k
  token_is = ap₂ tok e d

  pub adds_whole : {o o1 : Writer} → r ≡ None → Adding true (whole (tok s n ∷ [])) o o1 → Adding true (whole (negated_token l m r k ∷ [])) o o1
  unfolding negated_token
  adds_whole q a = rw q (rw token_is at a)

  module _ (f : Place) (q : r ≡ Some f) where
    pub adds_other : {o o1 : Writer} → (k ≡ f.place → ⊥) → Adding true (whole (tok s n ∷ [])) o o1 → Adding true (whole (negated_token l m r k ∷ [])) o o1
    unfolding negated_token
    adds_other g a = rw (q, ne_eqb k f.place g) (rw token_is at a)

    pub adds_here : {o o1 : Writer} → k ≡ f.place → Adding true (flip (found_of f) (tok s n) ∷ []) o o1 → Adding true (whole (negated_token l m r k ∷ [])) o o1
    unfolding negated_token
    adds_here g a =
        let t : Token = flip (found_of f) (tok s n) in
        let x : negated_token l m r k ≡ t = rw (q, eq-eqb k f.place g, ← token_is) in
        adds_as (ap (λ (y : Token). whole (y ∷ [])) (sym x)) (adds_as (sym (whole_some t.text t.kind (flip_filled f (tok s n)))) a)

-- the loop over them
module _ (l : Line) (m : ℕ) (r : Option Place) where
  pub tokens_start : {o : Writer} → Adding true (whole (map (negated_token l m r) (range 0 0))) o o
  unfolding range filter
  tokens_start = adds_none

  pub tokens_next : {o o1 o2 : Writer} (k : ℕ) → Adding true (whole (map (negated_token l m r) (range 0 k))) o o1
      → Adding true (whole (negated_token l m r k ∷ [])) o1 o2 → Adding true (whole (map (negated_token l m r) (range 0 (k + 1)))) o o2
  tokens_next k a b =
      adds_as (sym (whole_append (map (negated_token l m r) (range 0 k)) (negated_token l m r k ∷ []))
      ∙ ap whole (sym (map_snoc (negated_token l m r) (range 0 k) k ∙ refl) ∙ ap (map (negated_token l m r)) (sym (range_snoc k))))
      (adds_more (whole (map (negated_token l m r) (range 0 k))) (whole (negated_token l m r k ∷ [])) a b)

-- The negation, by the answer
module _ (l : Line) (m : ℕ) (r : Option Place) where
  pub adds_flip : {o o1 : Writer} (f : Place) → r ≡ Some f → Adding true (whole (map (negated_token l m r) (range 0 m))) o o1 → Adding true (negation l m r) o o1
  unfolding negation
  adds_flip f q a = rw q (rw q at a)

  pub adds_around : {o o1 o2 o3 : Writer} → r ≡ None → Writes open_lent (add_merged (ascii "!(") Punct) o o1
      → Adding true (whole (map (negated_token l m r) (range 0 m))) o1 o2 → Writes open_lent (add_merged (ascii ")") Punct) o2 o3 → Adding true (negation l m r) o o3
  unfolding negation negated_token test_from
  adds_around q f a g =
      let k : List Token = whole (test_tokens l m) in
      let e : whole (map (negated_token l m r) (range 0 m)) ≡ k =
      ap whole (map_same (negated_token l m r) (test_token l m) (λ j. rw q) (range 0 m) ∙ ap (λ (j : ℕ). map (test_token l m) (range 0 j)) (sym (sub-zero m))) in
      rw q
      (adds_merge (tok (ascii "!(") Punct ∷ (k ++ (tok (ascii ")") Punct ∷ [])))
      (adds_more (tok (ascii "!(") Punct ∷ []) (k ++ (tok (ascii ")") Punct ∷ [])) (adds_merged (ascii "!(") Punct refl f)
      (adds_more k (tok (ascii ")") Punct ∷ []) (adds_as e a) (adds_merged (ascii ")") Punct refl g))))
