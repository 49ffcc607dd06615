-- Laws of what is appended to the open line.
--   adds_none, adds_more, adds_four, adds_as     nothing; one after the other; another name for it
--   adds_token, adds_merged            a token, as it is or merged
--   adds_merge                         what is merged before it is appended
--   whole_append, whole_some           the tokens that are not empty
--   adds_empty, adds_filled            a token, unless it is empty
-- Assumes nothing.
use mathlib.Core.Path.{◌≡◌, refl, sym, ap, ◌∙◌}
use mathlib.Core.Bool.{Bool, true, false, not, cond}
use mathlib.Core.List.{List, [], ◌∷◌, ◌++◌, append-nil, append_assoc}
use Prim.Native.Nat.{ℕ}
use native.Mathlib.Omega.{arith}
use lib.ListN.{length}
use Rattle.definitions.specs.Lists.{filter, ◌≟◌}
use Rattle.definitions.specs.Model.{Token, tok}
use Rattle.definitions.specs.Statements.{is_empty, joins, glue, merge}
use Rattle.definitions.specs.Calls.{Columns}
use Rattle.write.specs.State.{add_token, add_merged}
use Rattle.write.specs.Holds.{open_lent, Writes}
use Rattle.write.specs.declared.Writer.{Writer}
use Rattle.write.proofs.Steps.{same_self, same_more}
use Rattle.write.proofs.Merging.{merge_snoc, glue_joins, glue_apart, joins_kind}
use Rattle.append.specs.Adds.{opened, Adding, whole}

-- Merging what is merged

glue_glue : (t u : Token) (us : List Token) → joins t u ≡ true → glue t (glue u us) ≡ glue (tok (t.text ++ u.text) t.kind) us
glue_glue t u [] e = unfold glue in rw e
glue_glue t u (v ∷ us) e = go (joins u v) refl
  where
    go : (b : Bool) → joins u v ≡ b → glue t (glue u (v ∷ us)) ≡ glue (tok (t.text ++ u.text) t.kind) (v ∷ us)
    go true q =
        let k = joins_kind t u e in
        let r : joins (tok (t.text ++ u.text) t.kind) v ≡ true = rw k q in
        rw (glue_joins u v us q, glue_joins t (tok (u.text ++ v.text) u.kind) us e, glue_joins (tok (t.text ++ u.text) t.kind) v us r, append_assoc)
    go false q =
        let k = joins_kind t u e in
        let r : joins (tok (t.text ++ u.text) t.kind) v ≡ false = rw k q in
        rw (glue_apart u v us q, glue_joins t u (v ∷ us) e, glue_apart (tok (t.text ++ u.text) t.kind) v us r)

merge_glue : (t : Token) (us : List Token) → merge (glue t us) ≡ glue t (merge us)
unfolding merge
merge_glue t [] = unfold glue in refl
merge_glue t (u ∷ us) = go (joins t u) refl
  where
    go : (b : Bool) → joins t u ≡ b → merge (glue t (u ∷ us)) ≡ glue t (glue u (merge us))
    go true e = rw (glue_joins t u us e) (sym (glue_glue t u (merge us) e))
    go false e = rw (glue_apart t u us e)

merge_merge : (ts : List Token) → merge (merge ts) ≡ merge ts
unfolding merge
merge_merge [] = refl
merge_merge (t ∷ ts) = merge_glue t (merge ts) ∙ ap (glue t) (merge_merge ts)

merge_behind : (ts us : List Token) → merge (ts ++ merge us) ≡ merge (ts ++ us)
unfolding merge
merge_behind [] us = merge_merge us
merge_behind (t ∷ ts) us = ap (glue t) (merge_behind ts us)

-- Appending

pub adds_none : {m : Bool} {w : Writer} → Adding m [] w w
adds_none {w = w} = record { same = same_self w; kept = refl; adds = λ o M ts h. rw (append-nil ts) h }

module _ {m : Bool} {w w₁ : Writer} where
  pub adds_as : {us vs : List Token} → us ≡ vs → Adding m us w w₁ → Adding m vs w w₁
  adds_as e h = rw e at h

  pub adds_more : {w₂ : Writer} (us vs : List Token) → Adding m us w w₁ → Adding m vs w₁ w₂ → Adding m (us ++ vs) w w₂
  adds_more {w₂} us vs a b = record {
    same = same_more a.same b.same;
    kept = b.kept ∙ ap (λ (o : Columns). open_lent o w₂) a.kept;
    adds = λ o M ts h. rw (← append_assoc ts us vs) (b.adds o M (ts ++ us) (a.adds o M ts h));
  }

module _ {m : Bool} {w w₁ w₂ w₃ w₄ : Writer} (us vs ws xs : List Token) where
  pub adds_four : Adding m us w w₁ → Adding m vs w₁ w₂ → Adding m ws w₂ w₃ → Adding m xs w₃ w₄ → Adding m (us ++ (vs ++ (ws ++ xs))) w w₄
  adds_four a b d e = adds_more us (vs ++ (ws ++ xs)) a (adds_more vs (ws ++ xs) b (adds_more ws xs d e))

module _ {w w₁ : Writer} where
  pub adds_merge : (us : List Token) → Adding true us w w₁ → Adding true (merge us) w w₁
  adds_merge us a = record { same = a.same; kept = a.kept; adds = λ o M ts h. rw (merge_behind ts us) (a.adds o M ts h) }

  module _ (s : List ℕ) (k : ℕ) where
    pub adds_token : {m : Bool} → m ≡ false → Writes open_lent (add_token s k) w w₁ → Adding m (tok s k ∷ []) w w₁
    adds_token e h = rw e (record { same = h.same; kept = h.kept; adds = λ o M ts z. h.holds o (opened M ts) z })

    pub adds_merged : {m : Bool} → m ≡ true → Writes open_lent (add_merged s k) w w₁ → Adding m (tok s k ∷ []) w w₁
    adds_merged e h = rw e (record { same = h.same; kept = h.kept; adds = λ o M ts z. rw (merge_snoc ts (tok s k)) (h.holds o (opened M (merge ts)) z) })

-- Empty tokens

pub whole_append : (ts us : List Token) → whole (ts ++ us) ≡ whole ts ++ whole us
unfolding filter
whole_append [] us = refl
whole_append (t ∷ ts) us = go (not (is_empty t)) (whole_append ts us)
  where
    go : (b : Bool) → whole (ts ++ us) ≡ whole ts ++ whole us → cond b (t ∷ whole (ts ++ us)) (whole (ts ++ us)) ≡ cond b (t ∷ whole ts) (whole ts) ++ whole us
    go true e = ap (λ vs. t ∷ vs) e
    go false e = e

module _ (s : List ℕ) (k : ℕ) where
  pub whole_some : (length s ≡ 0 → ⊥) → whole (tok s k ∷ []) ≡ tok s k ∷ []
  unfolding filter ◌≟◌
  whole_some n = go s n
    where
      go : (s : List ℕ) → (length s ≡ 0 → ⊥) → whole (tok s k ∷ []) ≡ tok s k ∷ []
      go [] n = absurd (n refl)
      go (b ∷ s) n = refl

  pub adds_empty : {m : Bool} {w : Writer} → length s ≡ 0 → Adding m (whole (tok s k ∷ [])) w w
  unfolding filter ◌≟◌
  adds_empty h = adds_as (go s h) adds_none
    where
      go : (u : List ℕ) → length u ≡ 0 → [] ≡ whole (tok u k ∷ [])
      go [] e = refl
      go (b ∷ u) e = absurd (omega arith)

  pub adds_filled : {m : Bool} {w w₁ : Writer} → (length s ≡ 0 → ⊥) → Adding m (tok s k ∷ []) w w₁ → Adding m (whole (tok s k ∷ [])) w w₁
  adds_filled h a = adds_as (sym (whole_some h)) a
