-- The tokens of a condition as a run, and their loop, as rules for `search`.
--   cut_is_run                        a condition is the run of its tokens, empty ones dropped
--   run_first, run_end                a run from place j on
--   filter_any                        what empty tokens do not pass, a condition passes as its run does
--   empty_names                       an empty token names nothing
--   cut_names_at                      what is looked up of a part, said of the token that has that text
--   cut_at                            where a token is cut
--   run_found, run_next, run_over     the loop of `names_from`
--   names_of                          the families that a condition names
-- Assumes nothing.
use Rattle.std.specs.Prelude.{Option, None, Some}
use mathlib.Core.Path.{◌≡◌, refl, sym, ap, subst, ◌∙◌}
use mathlib.Core.Bool.{Bool, true, false, not, cond, ◌||◌}
use mathlib.Core.List.{List, [], ◌∷◌}
use Prim.Native.Nat.{ℕ, zero, suc, ◌+◌, ◌-◌, ◌≤◌, ◌<◌}
use native.Mathlib.Omega.{arith}
use native.Mathlib.Numerals.{add-one}
use native.Mathlib.Nat.{sub-zero}
use borrow.Author.Tests.{eq-eqb, ne_eqb}
use lib.Dec.{eqb}
use lib.ListN.{length, drop, get_or, length-drop, drop_of_length-le}
use lib.Seq.{drop-cons, take_all}
use Rattle.definitions.specs.Lists.{part, range, filter, any, position, on_first, on_last, or_else, ◌≟◌, starts_with, ascii}
use Rattle.definitions.specs.Model.{Token, Line, tok, no_token, token}
use Rattle.definitions.specs.Family.{Family, family, fam_of, names, legacy, legacy_family, other_family}
use Rattle.definitions.specs.Statements.{is_empty}
use Rattle.definitions.specs.Condition.{cut_front, cut_end, cut, condition}
use Rattle.text.proofs.Texts.{≟_eq}
use Rattle.family.specs.Register.{names_family}
use Rattle.condition.specs.Conditions.{conditional, Bounds, Within}
use Rattle.condition.specs.declared.Cut.{Cut}
use Rattle.pseudo_types.specs.Cuts.{front, back, cut_token, cut_run}

module _ (l : Line) (k n : ℕ) where
  pub run_end : (j : ℕ) → length l.tokens ≤ j → cut_run l k n j ≡ []
  unfolding cut_run range
  run_end j h = let z : length l.tokens - j ≡ 0 = omega arith in rw z

  pub run_first : (j : ℕ) → j < length l.tokens → cut_run l k n j ≡ cut_token l k n j ∷ cut_run l k n (j + 1)
  unfolding cut_run range
  run_first j h = let z : length l.tokens - j ≡ suc (length l.tokens - (j + 1)) = omega arith in rw (z, add-one)

  -- One token: only one of the condition, its first of several, its last of several, another

  only : k + 1 + 1 ≡ length l.tokens → cut_token l k n (k + 1) ≡ cut_end n (cut_front 2 (token l (k + 1)))
  unfolding cut_token
  only e =
      let s = (token l (k + 1)).text in
      let d = length-drop 2 s in
      let z : length s - n - 2 ≡ length (drop 2 s) - n = omega arith in
      rw (eq-eqb (k + 1) (k + 1) refl, eq-eqb (k + 1 + 1) (length l.tokens) e, z)

  first : k + 1 + 1 < length l.tokens → cut_token l k n (k + 1) ≡ cut_front 2 (token l (k + 1))
  unfolding cut_token
  first h =
      let s = (token l (k + 1)).text in
      rw (eq-eqb (k + 1) (k + 1) refl, ne_eqb (k + 1 + 1) (length l.tokens) (λ q. omega arith))
      (ap (λ (u : List ℕ). tok u (token l (k + 1)).kind) (take_all (length s - 0 - 2) (drop 2 s) (omega (arith, length-drop 2 s))))

  module _ (j : ℕ) (h : k + 1 < j) where
    last_token : j + 1 ≡ length l.tokens → cut_token l k n j ≡ cut_end n (token l j)
    unfolding cut_token
    last_token e = rw (ne_eqb j (k + 1) (λ q. omega arith), eq-eqb (j + 1) (length l.tokens) e, sub-zero)

    inner : j + 1 < length l.tokens → cut_token l k n j ≡ token l j
    unfolding cut_token
    inner g =
        rw (ne_eqb j (k + 1) (λ q. omega arith), ne_eqb (j + 1) (length l.tokens) (λ q. omega arith))
        (ap (λ (u : List ℕ). tok u (token l j).kind) (take_all (length (token l j).text - 0 - 0) (token l j).text (omega arith)))

  -- The tokens behind the first of the condition: only the last is cut.
  behind : (m j : ℕ) → length l.tokens - j ≡ m → k + 1 < j → cut_run l k n j ≡ on_last (cut_end n) (drop j l.tokens)
  unfolding on_last
  behind zero j e h = run_end j (omega arith) ∙ rw (drop_of_length-le l.tokens (let z : length l.tokens ≤ j = omega arith in z))
  behind (suc zero) j e h =
      let i : j < length l.tokens = omega arith in
      let y : length l.tokens ≤ suc j = omega arith in
      run_first j i ∙ rw (run_end (j + 1) (omega arith), drop-cons l.tokens j no_token i, drop_of_length-le l.tokens y) (ap (λ (t : Token). t ∷ []) (last_token j h (omega arith)))
  behind (suc (suc m)) j e h =
      let i : j < length l.tokens = omega arith in
      let o : suc j < length l.tokens = omega arith in
      run_first j i
      ∙ rw (behind (suc m) (j + 1) (omega arith) (omega arith), drop-cons l.tokens j no_token i, add-one, drop-cons l.tokens (suc j) no_token o)
      (ap (λ (t : Token). t ∷ on_last (cut_end n) (get_or l.tokens (suc j) no_token ∷ drop (suc (suc j)) l.tokens)) (inner j h (omega arith)))

  from_first : (m : ℕ) → length l.tokens - (k + 1) ≡ suc m → cut_run l k n (k + 1) ≡ on_last (cut_end n) (on_first (cut_front 2) (drop (k + 1) l.tokens))
  unfolding on_last on_first
  from_first zero e =
      let i : k + 1 < length l.tokens = omega arith in
      let y : length l.tokens ≤ suc (k + 1) = omega arith in
      run_first (k + 1) i
      ∙ rw (run_end (k + 1 + 1) (omega arith), drop-cons l.tokens (k + 1) no_token i, drop_of_length-le l.tokens y) (ap (λ (t : Token). t ∷ []) (only (omega arith)))
  from_first (suc m) e =
      let i : k + 1 < length l.tokens = omega arith in
      let o : suc (k + 1) < length l.tokens = omega arith in
      run_first (k + 1) i
      ∙ rw (behind (suc m) (k + 1 + 1) (omega arith) (omega arith), drop-cons l.tokens (k + 1) no_token i, add-one (k + 1), drop-cons l.tokens (suc (k + 1)) no_token o)
      (ap (λ (t : Token). t ∷ on_last (cut_end n) (get_or l.tokens (suc (k + 1)) no_token ∷ drop (suc (suc (k + 1))) l.tokens)) (first (omega arith)))

  pub cut_is_run : k + 1 < length l.tokens → cut 2 n (drop (k + 1) l.tokens) ≡ filter (λ t. not (is_empty t)) (cut_run l k n (k + 1))
  cut_is_run h = sym (ap (filter (λ t. not (is_empty t))) (from_first (length l.tokens - (k + 1) - 1) (omega arith)))

-- Empty tokens

pub filter_any : (p : Token → Bool) → ((t : Token) → is_empty t ≡ true → p t ≡ false) → (ts : List Token)
    → any p (filter (λ t. not (is_empty t)) ts) ≡ any p ts
unfolding any filter
filter_any p h [] = refl
filter_any p h (t ∷ ts) = go (is_empty t) refl (filter_any p h ts)
  where
    go : (b : Bool) → is_empty t ≡ b → any p (filter (λ t. not (is_empty t)) ts) ≡ any p ts
        → any p (cond (not b) (t ∷ filter (λ t. not (is_empty t)) ts) (filter (λ t. not (is_empty t)) ts)) ≡ (p t || any p ts)
    go true e r = rw (h t e) r
    go false e r = ap (λ b. p t || b) r

nil_family : family [] ≡ None
unfolding family legacy_family legacy other_family ◌≟◌ starts_with position
nil_family = refl

no_family : (t : Token) → t.text ≡ [] → fam_of t ≡ None
unfolding fam_of
no_family t e = rw (e, nil_family) (go (eqb t.kind 1))
  where
    go : (b : Bool) → cond {A = Option Family} b None None ≡ None
    go true = refl
    go false = refl

pub empty_names : (o : Option Family) (t : Token) → is_empty t ≡ true → names_family o t ≡ false
unfolding names
empty_names None t e = refl
empty_names (Some f) t e = rw (no_family t (≟_eq t.text [] e), names)

-- Where a token is cut

pub cut_at : (l : Line) (k e j m a b : ℕ) (r s : List ℕ) → r ≡ part a b s → a ≡ front k j → b ≡ length s - back m e j → s ≡ (token l j).text
    → m ≡ length l.tokens → r ≡ (cut_token l k e j).text
unfolding cut_token
cut_at l k e j m a b r s d p q u c = d ∙ rw (p, q, c, u)

-- Names

pub cut_names_at : (l : Line) (k n j z : ℕ) (s : List ℕ) (o : Option Family) (y : Bool) → z ≡ (token l j).kind → s ≡ (cut_token l k n j).text
    → y ≡ names_family o (tok s z) → y ≡ names_family o (cut_token l k n j)
unfolding cut_token
cut_names_at l k n j z s o y d q e = rw (q, d) at e

module _ (p : Token → Bool) (l : Line) (k n j m : ℕ) (c : m ≡ length l.tokens) (r : Bool) (inv : r ≡ any p (cut_run l k n j)) where
  run_step : j < m → r ≡ (p (cut_token l k n j) || any p (cut_run l k n (j + 1)))
  unfolding any
  run_step h = inv ∙ rw (run_first l k n j (let z : j < length l.tokens = omega arith in z))

  module _ (b : Bool) (h : j < m) (q : b ≡ p (cut_token l k n j)) where
    pub run_found : b ≡ true → true ≡ r
    run_found f = sym (run_step h ∙ rw (← q, f))

    pub run_next : b ≡ false → r ≡ any p (cut_run l k n (j + 1))
    run_next f = run_step h ∙ rw (← q, f)

  pub run_over : m ≤ j → false ≡ r
  unfolding any
  run_over h = sym (inv ∙ rw (run_end l k n j (let z : length l.tokens ≤ j = omega arith in z)))

pub ruleset cut_names = (run_found, run_next, run_over)

module _ (l : Line) (o : Option Family) (a : Option Cut) (p : conditional l a ≡ condition l (ascii "if")) where
  pub names_nothing : a ≡ None → false ≡ any (names_family o) (or_else (condition l (ascii "if")) [])
  unfolding any
  names_nothing e = rw (← p, e)

  module _ (u : Cut) (e : a ≡ Some u) (w : Within l a) where
    bounds : Bounds l u.keyword u.end
    bounds = subst (Within l) e w

    pub names_is : (r : Bool) → r ≡ any (names_family o) (cut_run l u.keyword u.end (u.keyword + 1)) → r ≡ any (names_family o) (or_else (condition l (ascii "if")) [])
    names_is r q =
        q
        ∙ (sym (filter_any (names_family o) (empty_names o) (cut_run l u.keyword u.end (u.keyword + 1)))
        ∙ (ap (any (names_family o)) (sym (cut_is_run l u.keyword u.end bounds.opened)) ∙ rw (← p, e)))

    pub names_past : (m : ℕ) (r : Bool) → m ≡ length l.tokens → m ≤ u.keyword → r ≡ any (names_family o) (or_else (condition l (ascii "if")) [])
    names_past m r c h = let b = bounds.opened in absurd (omega arith)

pub ruleset names_of = (names_nothing, names_is, names_past)
