-- Laws of `merge` when a token is added behind.
--   merge_snoc          merging with one token more is `merge_last` of what is merged
--   end_view            a list that is not empty has a last element
--   last_snoc           it is `last`
--   merge_last_snoc     `merge_last` behind it is `glue`
--   length_merge_last, text_merge_last    `merge_last` drops no token before and no byte
--   glue_joins, glue_apart    by whether the two join
--   joins_kind          two tokens that join are of one kind
--   joins_same, joins_never, joins_other    a kind that joins its like; one that joins none
-- Assumes nothing.
use Rattle.std.specs.Prelude.{Some}
use mathlib.Core.Path.{◌≡◌, refl, sym, ap, ◌∙◌}
use mathlib.Core.Bool.{Bool, true, false, ◌&&◌, ◌||◌, and-true, and-false}
use mathlib.Core.List.{List, [], ◌∷◌, ◌++◌, append-nil, append_assoc}
use Prim.Native.Nat.{ℕ, ◌≤◌}
use native.Mathlib.Omega.{arith}
use borrow.Author.Tests.{eqb-true, ne_eqb}
use lib.Dec.{eqb}
use lib.ListN.{length}
use Rattle.definitions.specs.Lists.{last}
use Rattle.definitions.specs.Model.{Token, tok, text, Punct, Text}
use Rattle.definitions.specs.Statements.{joins, glue, merge}
use Rattle.write.specs.State.{merge_last, kinds_join}

-- The last of a list

pub end_view : {A : Type 0} (t : A) (ts : List A) → (rs : List A) × (u : A) × ((t ∷ ts) ≡ rs ++ (u ∷ []))
end_view t [] = ([], t, refl)
end_view t (u ∷ ts) = let r = end_view u ts in (t ∷ r.0, r.1, ap (λ (l : List _). t ∷ l) r.2)

pub last_snoc : {A : Type 0} (ts : List A) (u : A) → last (ts ++ (u ∷ [])) ≡ Some u
unfolding last
last_snoc [] u = refl
last_snoc (t ∷ []) u = refl
last_snoc (t ∷ (v ∷ ts)) u = last_snoc (v ∷ ts) u

-- Joining

module _ (t u : Token) (us : List Token) where
  pub glue_joins : joins t u ≡ true → glue t (u ∷ us) ≡ tok (t.text ++ u.text) t.kind ∷ us
  unfolding glue
  glue_joins e = rw e

  pub glue_apart : joins t u ≡ false → glue t (u ∷ us) ≡ t ∷ (u ∷ us)
  unfolding glue
  glue_apart e = rw e

pub joins_kind : (t u : Token) → joins t u ≡ true → t.kind ≡ u.kind
joins_kind t u e = go (eqb t.kind u.kind) refl e
  where
    go : (b : Bool) → eqb t.kind u.kind ≡ b → (b && (eqb u.kind Punct || eqb u.kind Text)) ≡ true → t.kind ≡ u.kind
    go true k f = eqb-true t.kind u.kind k
    go false k f = cc

-- One token behind

pub merge_last_snoc : (ts : List Token) (t u : Token) → merge_last (ts ++ (t ∷ [])) u ≡ ts ++ glue t (u ∷ [])
unfolding merge_last
merge_last_snoc [] t u = refl
merge_last_snoc (s ∷ []) t u = refl
merge_last_snoc (s ∷ (v ∷ ts)) t u = ap (λ (l : List Token). s ∷ l) (merge_last_snoc (v ∷ ts) t u)

pub length_merge_last : (ts : List Token) (u : Token) → length ts ≤ length (merge_last ts u)
unfolding merge_last
length_merge_last [] u = omega arith
length_merge_last (t ∷ []) u = go (joins t u) refl
  where
    go : (b : Bool) → joins t u ≡ b → 1 ≤ length (glue t (u ∷ []))
    go true e = rw (glue_joins t u [] e) (omega arith)
    go false e = rw (glue_apart t u [] e) (omega arith)
length_merge_last (t ∷ (v ∷ ts)) u = omega (arith, length_merge_last (v ∷ ts) u)

pub text_merge_last : (ts : List Token) (u : Token) → text (merge_last ts u) ≡ text ts ++ u.text
unfolding merge_last text
text_merge_last [] u = append-nil u.text
text_merge_last (t ∷ []) u = go (joins t u) refl
  where
    go : (b : Bool) → joins t u ≡ b → text (glue t (u ∷ [])) ≡ (t.text ++ []) ++ u.text
    go true e = rw (glue_joins t u [] e) (simp append-nil)
    go false e = rw (glue_apart t u [] e) (simp append-nil)
text_merge_last (t ∷ (v ∷ ts)) u =
    ap (λ (b : List ℕ). t.text ++ b) (text_merge_last (v ∷ ts) u) ∙ sym (append_assoc t.text (v.text ++ text ts) u.text)

module _ (j k : ℕ) where
  pub joins_same : (v : ℕ) → k ≡ v → (eqb v Punct || eqb v Text) ≡ true → eqb j k ≡ kinds_join j k
  joins_same v e f = rw (e, f) (sym (and-true (eqb j v)))

  pub joins_never : (v : ℕ) → k ≡ v → (eqb v Punct || eqb v Text) ≡ false → false ≡ kinds_join j k
  joins_never v e f = rw (e, f) (sym (and-false (eqb j v)))

  pub joins_other : (k ≡ 0 → ⊥) → (k ≡ 6 → ⊥) → false ≡ kinds_join j k
  joins_other f g = rw (ne_eqb k 0 f, ne_eqb k 6 g) (sym (and-false (eqb j k)))

-- one token before another, with a third behind
glue_one : (t v u : Token) → glue t (glue v (u ∷ [])) ≡ merge_last (glue t (v ∷ [])) u
unfolding merge_last
glue_one t v u = go (joins t v) refl (joins v u) refl
  where
    go : (a : Bool) → joins t v ≡ a → (b : Bool) → joins v u ≡ b → glue t (glue v (u ∷ [])) ≡ merge_last (glue t (v ∷ [])) u
    go true p true q =
        let k = joins_kind t v p in
        let w = tok (t.text ++ v.text) t.kind in
        let r : joins w u ≡ true = rw k q in
        rw (glue_joins v u [] q, glue_joins t v [] p, glue_joins t (tok (v.text ++ u.text) v.kind) [] p, glue_joins w u [] r, append_assoc)
    go true p false q =
        let k = joins_kind t v p in
        let w = tok (t.text ++ v.text) t.kind in
        let r : joins w u ≡ false = rw k q in
        rw (glue_apart v u [] q, glue_joins t v (u ∷ []) p, glue_joins t v [] p, glue_apart w u [] r)
    go false p true q =
        rw (glue_joins v u [] q, glue_apart t v [] p, glue_apart t (tok (v.text ++ u.text) v.kind) [] p, glue_joins v u [] q)
    go false p false q = rw (glue_apart v u [] q, glue_apart t v (u ∷ []) p, glue_apart t v [] p, glue_apart v u [] q)

glue_last : (t : Token) (ts : List Token) (u : Token) → glue t (merge_last ts u) ≡ merge_last (glue t ts) u
unfolding merge_last
glue_last t [] u = unfold glue in refl
glue_last t (v ∷ []) u = glue_one t v u
glue_last t (v ∷ (w ∷ ts)) u = go (joins t v) refl
  where
    go : (b : Bool) → joins t v ≡ b → glue t (merge_last (v ∷ (w ∷ ts)) u) ≡ merge_last (glue t (v ∷ (w ∷ ts))) u
    go true e = rw (glue_joins t v (merge_last (w ∷ ts) u) e, glue_joins t v (w ∷ ts) e)
    go false e = rw (glue_apart t v (merge_last (w ∷ ts) u) e, glue_apart t v (w ∷ ts) e)

pub merge_snoc : (ts : List Token) (u : Token) → merge (ts ++ (u ∷ [])) ≡ merge_last (merge ts) u
unfolding merge
merge_snoc [] u = unfold glue merge_last in refl
merge_snoc (t ∷ ts) u = rw (merge_snoc ts u) (glue_last t (merge ts) u)

pub ruleset joining = (joins_same, joins_never, joins_other)
