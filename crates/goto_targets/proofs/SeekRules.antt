-- The search over runs of tokens, as rules for `search`.
--   goto_is                                  the keyword goto
--   step_goto, step_on, step_symbol, step_wait, step_found    one token
--   tokens_next, tokens_end                  the first n tokens of a line
--   line_none, line_fits, line_last          a line whose last token loses its last code point
--   token_empty, token_full                  a token of a leading test
--   test_next, test_end                      a leading test
-- Assumes nothing.
use mathlib.Core.Path.{◌≡◌, refl, sym, ap, ◌∙◌}
use mathlib.Core.Bool.{Bool, true, false, not, cond}
use mathlib.Core.List.{List, [], ◌∷◌, ◌++◌}
use Prim.Native.Nat.{ℕ, ◌+◌, ◌-◌, ◌≤◌, ◌<◌}
use native.Mathlib.Nat.{sub-zero}
use native.Mathlib.Omega.{arith}
use borrow.Author.Tests.{eq-eqb, ne_eqb}
use lib.ListN.{length, get_or, take}
use Rattle.std.specs.Borrow.{Bor}
use Rattle.definitions.specs.Lists.{part, filter, on_last, ◌≟◌, ascii}
use Rattle.definitions.specs.Model.{Token, Line, tok, no_token}
use Rattle.definitions.specs.Statements.{is_kw}
use Rattle.definitions.specs.ToFor.{popped, pop}
use Rattle.text.proofs.Parts.{part_step, part_none}
use Rattle.negate.specs.Tests.{test, test_count, test_token, test_from}
use Rattle.append.specs.Adds.{whole}
use Rattle.negate.proofs.TestTokens.{test_first, test_past, test_is}
use Rattle.goto_targets.specs.Seek.{Seek, Seek.waiting, Seek.found, step, seek, told}
use Rattle.goto_targets.specs.declared.seeking.State.{State}
use Rattle.goto_targets.specs.declared.seeking.State.TheVariants.{Looking, Waiting, Found}
use Rattle.goto_targets.proofs.SeekLaws.{seek_append, popped_end}

-- One token

pub goto_is : (k : ℕ) (x : List ℕ) (b : Bool) → k ≡ 3 → b ≡ (x ≟ ascii "goto") → b ≡ is_kw (ascii "goto") (tok x k)
goto_is k x b d h = rw (eq-eqb k 3 d) h

module _ (s : State) (k : ℕ) (x : Bor (List ℕ)) where
  module _ (e : s ≡ Looking) (b : Bool) (q : b ≡ is_kw (ascii "goto") (tok x.now k)) where
    pub step_goto : b ≡ true → waiting ≡ step (told s) (tok x.now k)
    unfolding step
    step_goto f = rw (e, ← q, f)

    pub step_on : b ≡ false → told s ≡ step (told s) (tok x.now k)
    unfolding step
    step_on f = rw (e, ← q, f)

  pub step_symbol : s ≡ Waiting → k ≡ 4 → found x.now ≡ step (told s) (tok x.now k)
  unfolding step
  step_symbol e f = rw (e, eq-eqb k 4 f)

  pub step_wait : s ≡ Waiting → (k ≡ 4 → ⊥) → told s ≡ step (told s) (tok x.now k)
  unfolding step
  step_wait e f = rw (e, ne_eqb k 4 f)

  pub step_found : (y : Bor (List ℕ)) → s ≡ Found y → told s ≡ step (told s) (tok x.now k)
  unfolding step
  step_found y e = rw e

pub ruleset steps = (goto_is, step_goto, step_on, step_symbol, step_wait, step_found)

-- The tokens of a line

module _ (s : Seek) (ts : List Token) (n : ℕ) where
  module _ (r : Seek) (j : ℕ) (inv : seek s (part 0 n ts) ≡ seek r (part j n ts)) where
    pub tokens_next : n ≤ length ts → j < n → (x : List ℕ) → x ≡ (get_or ts j no_token).text → (k : ℕ) → k ≡ (get_or ts j no_token).kind → (r' : Seek) → r' ≡ step r (tok x k)
        → seek s (part 0 n ts) ≡ seek r' (part (j + 1) n ts)
    unfolding seek
    tokens_next fit lt x e k f r' q =
        inv ∙ ap (seek r) (part_step no_token ts j n lt fit) ∙ ap (λ y. seek y (part (j + 1) n ts)) (sym (q ∙ rw (e, f)))

    pub tokens_end : n ≤ j → r ≡ seek s (part 0 n ts)
    unfolding seek
    tokens_end ge = sym (inv ∙ ap (seek r) (part_none ts j n ge))

pub ruleset runs = (tokens_next, tokens_end)

-- A line whose last token loses its last code point

module _ (s : Seek) (ts : List Token) (n : ℕ) (c : n ≡ length ts) where
  pub line_none : n ≡ 0 → s ≡ seek s (popped ts)
  line_none e = go ts (sym c ∙ e)
    where
      go : (us : List Token) → length us ≡ 0 → s ≡ seek s (popped us)
      go [] e = unfold seek on_last in refl
      go (u ∷ us) e = absurd (omega arith)

  pub line_fits : n - 1 ≤ length ts
  line_fits = omega arith

  pub line_last : (n ≡ 0 → ⊥) → (r : Seek) → r ≡ seek s (part 0 (n - 1) ts) → (x : List ℕ) → x ≡ (get_or ts (n - 1) no_token).text → (k : ℕ) → k ≡ (get_or ts (n - 1) no_token).kind
      → (e : ℕ) → take e x ≡ pop x → (u : List ℕ) → u ≡ part 0 e x → (y : Seek) → y ≡ step r (tok u k) → y ≡ seek s (popped ts)
  unfolding seek
  line_last f r q x g k h e p u v y z =
      let t = get_or ts (n - 1) no_token in
      let cut : u ≡ pop t.text = v ∙ ap (λ m. take m x) (sub-zero e) ∙ p ∙ ap pop g in
      let front : part 0 (n - 1) ts ≡ take (n - 1) ts = ap (λ m. take m ts) (sub-zero (n - 1)) in
      z ∙ rw (cut, h, q, front) (sym (ap (seek s) (popped_end ts n c f) ∙ seek_append s (take (n - 1) ts) (tok (pop t.text) t.kind ∷ [])))

pub ruleset ends = (line_none, line_fits, line_last)

-- A leading test

module _ (s : Seek) (l : Line) (m k : ℕ) (x : List ℕ) (e : x ≡ (test_token l m k).text) where
  pub token_empty : length x ≡ 0 → s ≡ seek s (whole (test_token l m k ∷ []))
  token_empty z = go (test_token l m k) (ap length (sym e) ∙ z)
    where
      none_of : (k : ℕ) → s ≡ seek s (whole (tok [] k ∷ []))
      none_of k = unfold seek filter ◌≟◌ in refl

      go : (t : Token) → length t.text ≡ 0 → s ≡ seek s (whole (t ∷ []))
      go t z = by t.text t.kind z
        where
          by : (y : List ℕ) (k : ℕ) → length y ≡ 0 → s ≡ seek s (whole (tok y k ∷ []))
          by [] k z = none_of k
          by (b ∷ y) k z = absurd (omega arith)

  pub token_full : (length x ≡ 0 → ⊥) → (z : ℕ) → z ≡ (test_token l m k).kind → (r : Seek) → r ≡ step s (tok x z) → r ≡ seek s (whole (test_token l m k ∷ []))
  token_full h z d r q =
      q ∙ rw (e, d) (go (test_token l m k) (λ z. h (ap length e ∙ z)))
    where
      some_of : (b : ℕ) (y : List ℕ) (k : ℕ) → step s (tok (b ∷ y) k) ≡ seek s (whole (tok (b ∷ y) k ∷ []))
      some_of b y k = unfold seek filter ◌≟◌ in refl

      go : (t : Token) → (length t.text ≡ 0 → ⊥) → step s t ≡ seek s (whole (t ∷ []))
      go t h = by t.text t.kind h
        where
          by : (y : List ℕ) (k : ℕ) → (length y ≡ 0 → ⊥) → step s (tok y k) ≡ seek s (whole (tok y k ∷ []))
          by [] k h = absurd (h refl)
          by (b ∷ y) k h = some_of b y k

pub ruleset parts = (token_empty, token_full)

whole_cons : (t : Token) (ts : List Token) → whole (t ∷ ts) ≡ whole (t ∷ []) ++ whole ts
unfolding filter
whole_cons t ts = go (t.text ≟ [])
  where
    go : (b : Bool) → cond (not b) (t ∷ whole ts) (whole ts) ≡ cond (not b) (t ∷ []) [] ++ whole ts
    go true = refl
    go false = refl

module _ (s : Seek) (l : Line) (m : ℕ) where
  module _ (r : Seek) (k : ℕ) (inv : seek s (whole (test_from l m 0)) ≡ seek r (whole (test_from l m k))) where
    pub test_next : k < m → (r' : Seek) → r' ≡ seek r (whole (test_token l m k ∷ [])) → seek s (whole (test_from l m 0)) ≡ seek r' (whole (test_from l m (k + 1)))
    test_next lt r' q =
        inv ∙ ap (λ ts. seek r (whole ts)) (test_first l m k lt) ∙ ap (seek r) (whole_cons (test_token l m k) (test_from l m (k + 1)))
        ∙ seek_append r (whole (test_token l m k ∷ [])) (whole (test_from l m (k + 1))) ∙ ap (λ y. seek y (whole (test_from l m (k + 1)))) (sym q)

    pub test_end : (g : ℕ) → m ≡ test_count l g → m ≤ k → r ≡ seek s (test l g)
    unfolding seek filter
    test_end g c ge = sym (ap (seek s) (sym (test_is l g)) ∙ rw (← c) inv ∙ ap (λ ts. seek r (whole ts)) (test_past l m k ge))

pub ruleset tests = (test_next, test_end)

pub ruleset seeking = (steps, runs, ends, parts, tests)
