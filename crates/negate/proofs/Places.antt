-- Empty tokens do not count: a scan of all tokens finds the comparison that a scan without the empty ones finds, at another place.
--   kept_place U p        the place among the tokens that are not empty
--   moved m f, relabelled m r    a comparison, and what is seen, with the places of m
--   scan_kept             the scan without the empty tokens
--   kept_change           a change of one token that is not empty, and does not become so
-- Assumes nothing.
use Rattle.std.specs.Prelude.{Option, None, Some}
use Rattle.std.specs.Option.{option_map}
use mathlib.Core.Path.{◌≡◌, refl, sym, ap, ◌∙◌}
use mathlib.Core.Bool.{Bool, true, false, not, cond, ◌&&◌, ◌||◌}
use mathlib.Core.List.{List, [], ◌∷◌, ◌++◌, append_assoc}
use Prim.Native.Nat.{ℕ, zero, suc, ◌+◌, ◌-◌}
use native.Mathlib.Nat.{add-zero}
use native.Mathlib.Numerals.{add-one}
use lib.Dec.{eqb}
use lib.ListN.{length, get_or, take, drop, length-append}
use lib.Seq.{take_at}
use Rattle.definitions.specs.Lists.{◌≟◌, filter, count, on_first, on_part, starts_with, ascii}
use Rattle.definitions.specs.Model.{Token, no_token, Punct, Keyword}
use Rattle.definitions.specs.Statements.{is_empty}
use Rattle.definitions.specs.Condition.{Comparison, Found, Seen, nothing_seen, at_depth_0, add_found, see_logical, comparison_at, see_bracket, scan_text, scan_token, scan}
use Rattle.loop_theory.proofs.Cases.{true_false, ≟_true}
use Rattle.loop_theory.proofs.Places.{on_part_one}
use Rattle.append.specs.Adds.{whole}
use Rattle.append.proofs.Appends.{whole_append}
use Rattle.negate.specs.Comparisons.{found_in}

-- What is seen, with other places

abbrev pub moved : (ℕ → ℕ) → Found → Found
moved m f = record { place = m f.place; pos = f.pos; comparison = f.comparison }

unfoldable pub relabelled : (ℕ → ℕ) → Seen → Seen
relabelled m r = record { opened = r.opened; closed = r.closed; count = r.count; found = option_map (moved m) r.found }

module _ (m : ℕ → ℕ) where
  logical_moved : (s : List ℕ) (r : Seen) → see_logical s (relabelled m r) ≡ relabelled m (see_logical s r)
  unfolding see_logical relabelled
  logical_moved s r = go (at_depth_0 r && (starts_with (ascii " && ") s || starts_with (ascii " || ") s))
    where
      go : (b : Bool) → cond b (record { opened = r.opened; closed = r.closed; count = r.count + 2; found = option_map (moved m) r.found }) (relabelled m r)
          ≡ relabelled m (cond b (record { opened = r.opened; closed = r.closed; count = r.count + 2; found = r.found }) r)
      go true = refl
      go false = refl

  bracket_moved : (c : ℕ) (r : Seen) → see_bracket c (relabelled m r) ≡ relabelled m (see_bracket c r)
  unfolding see_bracket relabelled
  bracket_moved c r = go (eqb c 40) (eqb c 41)
    where
      go : (a b : Bool) → cond a (record { opened = r.opened + 1; closed = r.closed + 0; count = r.count; found = option_map (moved m) r.found })
          (cond b (record { opened = r.opened + 0; closed = r.closed + 1; count = r.count; found = option_map (moved m) r.found }) (relabelled m r))
          ≡ relabelled m (cond a (record { opened = r.opened + 1; closed = r.closed + 0; count = r.count; found = r.found })
          (cond b (record { opened = r.opened + 0; closed = r.closed + 1; count = r.count; found = r.found }) r))
      go true b = refl
      go false true = refl
      go false false = refl

  text_moved : (p pos skip : ℕ) (s : List ℕ) (r : Seen) → scan_text (m p) pos skip s (relabelled m r) ≡ relabelled m (scan_text p pos skip s r)
  unfolding scan_text relabelled
  text_moved p pos skip [] r = refl
  text_moved p pos (suc skip) (c ∷ s) r = text_moved p (suc pos) skip s r
  text_moved p pos zero (c ∷ s) r = go (λ k q. text_moved p (suc pos) k s q) (comparison_at (c ∷ s) r)
    where
      go : ((k : ℕ) (q : Seen) → scan_text (m p) (suc pos) k s (relabelled m q) ≡ relabelled m (scan_text p (suc pos) k s q)) → (o : Option Comparison)
          → elim o [
            | Some o ↦ scan_text (m p) (suc pos) (length o.op - 1) s (add_found (found_in (m p) pos o) (see_logical (c ∷ s) (relabelled m r)))
            | None ↦ scan_text (m p) (suc pos) zero s (see_bracket c (see_logical (c ∷ s) (relabelled m r)))
          ]
          ≡ relabelled m (elim o [
            | Some o ↦ scan_text p (suc pos) (length o.op - 1) s (add_found (found_in p pos o) (see_logical (c ∷ s) r))
            | None ↦ scan_text p (suc pos) zero s (see_bracket c (see_logical (c ∷ s) r))
          ])
      go later (Some o) =
          ap (λ (x : Seen). scan_text (m p) (suc pos) (length o.op - 1) s (add_found (found_in (m p) pos o) x)) (logical_moved (c ∷ s) r)
          ∙ later (length o.op - 1) (add_found (found_in p pos o) (see_logical (c ∷ s) r))
      go later None =
          ap (λ (x : Seen). scan_text (m p) (suc pos) zero s (see_bracket c x)) (logical_moved (c ∷ s) r)
          ∙ (ap (λ (x : Seen). scan_text (m p) (suc pos) zero s x) (bracket_moved c (see_logical (c ∷ s) r))
          ∙ later zero (see_bracket c (see_logical (c ∷ s) r)))

  token_moved : (p : ℕ) (t : Token) (r : Seen) → scan_token (m p) t (relabelled m r) ≡ relabelled m (scan_token p t r)
  unfolding scan_token relabelled
  token_moved p t r = go (eqb t.kind Punct) (eqb t.kind Keyword)
    where
      go : (a b : Bool) → cond a (scan_text (m p) 0 0 t.text (relabelled m r))
          (cond b (record { opened = r.opened + count (eqb 40) t.text; closed = r.closed + count (eqb 41) t.text; count = r.count; found = option_map (moved m) r.found }) (relabelled m r))
          ≡ relabelled m (cond a (scan_text p 0 0 t.text r)
          (cond b (record { opened = r.opened + count (eqb 40) t.text; closed = r.closed + count (eqb 41) t.text; count = r.count; found = r.found }) r))
      go true b = text_moved p 0 0 t.text r
      go false true = refl
      go false false = refl

-- Two lists of tokens, the second without some empty ones, the places of the second being m of those of the first

data Tracks (m : ℕ → ℕ) : ℕ → ℕ → List Token → List Token → Type 0 where
  end : {p q : ℕ} → Tracks m p q [] []
  same : {p q : ℕ} {t : Token} {ts us : List Token} → m p ≡ q → Tracks m (suc p) (suc q) ts us → Tracks m p q (t ∷ ts) (t ∷ us)
  left : {p q : ℕ} {t : Token} {ts us : List Token} → t.text ≡ [] → Tracks m (suc p) q ts us → Tracks m p q (t ∷ ts) us

empty_passed : (p : ℕ) (t : Token) (r : Seen) → t.text ≡ [] → scan_token p t r ≡ r
unfolding scan_token scan_text filter
empty_passed p t r e = rw e (go (eqb t.kind Punct) (eqb t.kind Keyword))
  where
    go : (a b : Bool) → cond a r (cond b (record { opened = r.opened + 0; closed = r.closed + 0; count = r.count; found = r.found }) r) ≡ r
    go true b = refl
    go false true = rw (add-zero r.opened, add-zero r.closed)
    go false false = refl

scan_tracked : (m : ℕ → ℕ) {p q : ℕ} {ts us : List Token} (r : Seen) → Tracks m p q ts us → scan q us (relabelled m r) ≡ relabelled m (scan p ts r)
unfolding scan
scan_tracked m r end = refl
scan_tracked m r (same {p} {q} {t} {ts} {us} e k) =
    ap (λ (x : Seen). scan (suc q) us x) (ap (λ (n : ℕ). scan_token n t (relabelled m r)) (sym e) ∙ token_moved m p t r)
    ∙ scan_tracked m (scan_token p t r) k
scan_tracked m r (left {p} {q} {t} {ts} {us} e k) =
    scan_tracked m r k ∙ ap (λ (x : Seen). relabelled m (scan (suc p) ts x)) (sym (empty_passed p t r e))

unfoldable pub kept_place : List Token → ℕ → ℕ
kept_place U p = length (whole (take p U))

module _ (U : List Token) where
  tracks : (P S : List Token) → P ++ S ≡ U → Tracks (kept_place U) (length P) (length (whole P)) S (whole S)
  unfolding filter kept_place
  tracks P [] e = end
  tracks P (t ∷ S) e = go (not (is_empty t)) refl (tracks (P ++ (t ∷ [])) S (append_assoc P (t ∷ []) S ∙ e))
    where
      more : length (P ++ (t ∷ [])) ≡ suc (length P)
      more = length-append P (t ∷ []) ∙ add-one (length P)

      go : (b : Bool) → not (is_empty t) ≡ b → Tracks (kept_place U) (length (P ++ (t ∷ []))) (length (whole (P ++ (t ∷ [])))) S (whole S)
          → Tracks (kept_place U) (length P) (length (whole P)) (t ∷ S) (cond b (t ∷ whole S) (whole S))
      go true f k =
          let n : length (whole (P ++ (t ∷ []))) ≡ suc (length (whole P)) =
          ap length (whole_append P (t ∷ []) ∙ ap (λ (b : Bool). whole P ++ cond b (t ∷ []) []) f) ∙ length-append (whole P) (t ∷ []) ∙ add-one (length (whole P)) in
          same (ap (λ (x : List Token). length (whole (take (length P) x))) (sym e) ∙ ap (λ (x : List Token). length (whole x)) (take_at P (t ∷ S) (length P) refl))
          (rw (more, n) at k)
      go false f k =
          let n : length (whole (P ++ (t ∷ []))) ≡ length (whole P) =
          ap length (whole_append P (t ∷ []) ∙ ap (λ (b : Bool). whole P ++ cond b (t ∷ []) []) f) ∙ length-append (whole P) [] ∙ add-zero (length (whole P)) in
          left (emptied f) (rw (more, n) at k)
        where
          emptied : not (is_empty t) ≡ false → t.text ≡ []
          emptied q = by (is_empty t) refl q
            where
              by : (x : Bool) → is_empty t ≡ x → not x ≡ false → t.text ≡ []
              by true p q = ≟_true t.text [] p
              by false p q = true_false {b = true} refl q

  pub scan_kept : scan 0 (whole U) nothing_seen ≡ relabelled (kept_place U) (scan 0 U nothing_seen)
  unfolding relabelled filter
  scan_kept = scan_tracked (kept_place U) nothing_seen (tracks [] U refl)

-- One token changed

kept_one : (f : Token → Token) (U : List Token) (p : ℕ) → not (is_empty (get_or U p no_token)) ≡ true → not (is_empty (f (get_or U p no_token))) ≡ true
    → whole (take p U ++ on_first f (drop p U)) ≡ take (kept_place U p) (whole U) ++ on_first f (drop (kept_place U p) (whole U))
unfolding filter kept_place on_first ◌≟◌
kept_one f [] p g h = true_false {b = false} g refl
kept_one f (t ∷ U) zero g h = rw (g, h)
kept_one f (t ∷ U) (suc p) g h = go (not (is_empty t)) (kept_one f U p g h)
  where
    go : (b : Bool)
        → whole (take p U ++ on_first f (drop p U)) ≡ take (kept_place U p) (whole U) ++ on_first f (drop (kept_place U p) (whole U))
        → cond b (t ∷ whole (take p U ++ on_first f (drop p U))) (whole (take p U ++ on_first f (drop p U)))
        ≡ take (length (cond b (t ∷ whole (take p U)) (whole (take p U)))) (cond b (t ∷ whole U) (whole U))
        ++ on_first f (drop (length (cond b (t ∷ whole (take p U)) (whole (take p U)))) (cond b (t ∷ whole U) (whole U)))
    go true e = ap (λ (x : List Token). t ∷ x) e
    go false e = e

pub kept_change : (f : Token → Token) (U : List Token) (p : ℕ) → not (is_empty (get_or U p no_token)) ≡ true → not (is_empty (f (get_or U p no_token))) ≡ true
    → whole (on_part p (p + 1) f U) ≡ on_part (kept_place U p) (kept_place U p + 1) f (whole U)
kept_change f U p g h = ap whole (on_part_one f p U) ∙ kept_one f U p g h ∙ sym (on_part_one f (kept_place U p) (whole U))
