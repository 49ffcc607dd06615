-- Calls, as rules for `search`.
--   callee_from, callee_start, -found, -next, -end    a pass over tokens for the first callee
--   line_callee_found, -next, -end    the same by the tokens' places among all, the loop of `call_at`
-- Assumes nothing.
use Rattle.std.specs.Prelude.{Option, None, Some}
use Rattle.std.specs.Option.{option_map}
use mathlib.Core.Path.{◌≡◌, refl, sym, ap, ◌∙◌}
use mathlib.Core.Bool.{Bool, true, false, cond}
use mathlib.Core.List.{List, [], ◌∷◌}
use Prim.Native.Nat.{ℕ, ◌+◌, ◌-◌, ◌≤◌, ◌<◌}
use native.Mathlib.Nat.{add-zero, zero-add}
use native.Mathlib.Omega.{arith}
use lib.ListN.{length, get_or, drop, length-drop}
use Rattle.definitions.specs.Model.{Token, line, no_token}
use Rattle.definitions.specs.Columns.{token_list, listing}
use Rattle.definitions.specs.Statements.{is_callee, callee}
use Rattle.model.specs.Places.{line_start, line_end}
use Rattle.model.proofs.Decode.{line_length, line_token}
use Rattle.text.proofs.Parts.{drop_step}

-- The place of the first callee, from place j - 1 on
unfoldable pub callee_from : List Token → ℕ → Option ℕ
callee_from ts j = option_map ((j - 1) +◌) (callee (drop (j - 1) ts))

module _ (ts : List Token) where
  pub callee_start : callee ts ≡ callee_from ts 1
  unfolding callee_from
  callee_start = go (callee ts)
    where
      go : (o : Option ℕ) → o ≡ option_map (0 +◌) o
      go None = refl
      go (Some k) = ap Some (sym (zero-add k))

  module _ (r : Option ℕ) (j n : ℕ) (e : n ≡ length ts) (inv : r ≡ callee_from ts j) (g : 0 < j) where
    callee_step : j < n
        → r ≡ option_map ((j - 1) +◌) (cond (is_callee (get_or ts (j - 1) no_token) (get_or ts j no_token)) (Some 0) (option_map (1 +◌) (callee (drop j ts))))
    unfolding callee callee_from
    callee_step h =
        let a : j - 1 < length ts = omega arith in
        let b : j < length ts = omega arith in
        let z : j - 1 + 1 ≡ j = omega arith in
        inv ∙ rw (drop_step no_token ts (j - 1) a, z, drop_step no_token ts j b)

    module _ (b : Bool) (h : j < n) (q : b ≡ is_callee (get_or ts (j - 1) no_token) (get_or ts j no_token)) where
      pub callee_found : b ≡ true → Some (j - 1) ≡ r
      callee_found f = sym (callee_step h ∙ rw (← q, f) (ap Some (add-zero (j - 1))))

      pub callee_next : b ≡ false → r ≡ callee_from ts (j + 1)
      unfolding callee_from
      callee_next f = let z : j + 1 - 1 ≡ j = omega arith in callee_step h ∙ rw (← q, f, z) (later (callee (drop j ts)))
        where
          later : (o : Option ℕ) → option_map ((j - 1) +◌) (option_map (1 +◌) o) ≡ option_map (j +◌) o
          later None = refl
          later (Some k) = ap Some (omega arith)

    pub callee_end : n ≤ j → None ≡ r
    unfolding callee callee_from
    callee_end h = sym (inv ∙ short (drop (j - 1) ts) (omega (arith, length-drop (j - 1) ts)))
      where
        short : (us : List Token) → length us ≤ 1 → option_map ((j - 1) +◌) (callee us) ≡ None
        short [] q = refl
        short (u ∷ []) q = refl
        short (u ∷ (v ∷ us)) q = absurd (omega arith)

-- The tokens of line i by their places among all, s that of its first, n of them
module _ (l t x : List ℕ) (i s e n : ℕ) (a : s ≡ line_start l i) (d : e ≡ line_end l t i) (c : n ≡ e - s) where
  many : n ≡ length (line (listing l t x) i).tokens
  many = omega (arith, line_length l t x i)

  module _ (r : Option ℕ) (j : ℕ) (inv : r ≡ callee_from (line (listing l t x) i).tokens j) (g : 0 < j) where
    module _ (b : Bool) (h : j < n) (q : b ≡ is_callee (get_or (token_list t x) (s + (j - 1)) no_token) (get_or (token_list t x) (s + j) no_token)) where
      here : b ≡ is_callee (get_or (line (listing l t x) i).tokens (j - 1) no_token) (get_or (line (listing l t x) i).tokens j no_token)
      here =
          let u : j - 1 < line_end l t i - line_start l i = omega arith in
          let v : j < line_end l t i - line_start l i = omega arith in
          rw (line_token l t x i (j - 1) u, line_token l t x i j v, ← a) q

      pub line_callee_found : b ≡ true → Some (j - 1) ≡ r
      line_callee_found = callee_found (line (listing l t x) i).tokens r j n many inv g b h here

      pub line_callee_next : b ≡ false → r ≡ callee_from (line (listing l t x) i).tokens (j + 1)
      line_callee_next = callee_next (line (listing l t x) i).tokens r j n many inv g b h here

    pub line_callee_end : n ≤ j → None ≡ r
    line_callee_end = callee_end (line (listing l t x) i).tokens r j n many inv g

pub ruleset callees = (callee_start, callee_found, callee_next, callee_end)

pub ruleset line_callees = (callee_start, line_callee_found, line_callee_next, line_callee_end)
