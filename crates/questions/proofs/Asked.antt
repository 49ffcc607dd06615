-- What the functions of `questions` show at their returns and in their loops, as rules for `search`.
--   rising_start, rising_next, rising_end          the loop of `never_falls`
--   covers_empty, covers_last, covers_falls        `covers`
--   kinds_next, kinds_end                          the loop of `are_kinds`
--   rises_of                                       the ends in two words
--   kind_of                                        the kind in a word
--   utf8_of, tokens_length                         question 3 of a token
--   asked                                          the rules
-- Assumes nothing.
use mathlib.Core.Path.{◌≡◌, refl, sym, ◌∙◌}
use mathlib.Core.Bool.{Bool, true, false, ◌&&◌, and_assoc, and-true}
use mathlib.Core.List.{List, [], ◌∷◌}
use Prim.Native.Nat.{ℕ, ◌+◌, ◌-◌, ◌/◌, ◌%◌, ◌≤◌, ◌<◌}
use native.Mathlib.Omega.{arith}
use borrow.Author.Tests.{le-leb}
use lib.Dec.{eqb, leb}
use lib.ListN.{length, get_or, drop}
use Rattle.definitions.specs.Lists.{all}
use Rattle.definitions.specs.Model.{Token}
use Rattle.definitions.specs.Columns.{token_list}
use Rattle.definitions.specs.Utf8.{is_utf8}
use Rattle.definitions.specs.Questions.{covers}
use Rattle.text.proofs.Parts.{drop_step, drop_end}
use Rattle.model.proofs.Decode.{length_tokens}

-- The loop of `never_falls`: it has come to word i, ok is the answer for the words before it

pub record Rising (by : ℕ) (ws : List ℕ) (i : ℕ) (ok : Bool) : Type 0 where
  pub at : (n : ℕ) → covers by 0 ws n ≡ (ok && covers by (get_or ws (i - 1) 0 / by) (drop i ws) n)

pub rising_start : (by : ℕ) (ws : List ℕ) → 0 < length ws → Rising by ws 1 true
unfolding covers
rising_start by [] h = absurd (omega arith)
rising_start by (w ∷ ws) h = record { at = λ n. rw (le-leb 0 (w / by) (omega arith)) }

module _ (by : ℕ) (ws : List ℕ) (i : ℕ) (ok : Bool) (R : Rising by ws i ok) where
  pub rising_next : (b o : Bool) → i < length ws → b ≡ leb (get_or ws (i - 1) 0 / by) (get_or ws i 0 / by) → o ≡ (ok && b) → Rising by ws (i + 1) o
  unfolding covers
  rising_next b o h q e = record {
    at = λ n.
        let z : i + 1 - 1 ≡ i = omega arith in
        let step : covers by (get_or ws (i - 1) 0 / by) (drop i ws) n ≡ (b && covers by (get_or ws i 0 / by) (drop (i + 1) ws) n) = rw (drop_step 0 ws i h, q) in
        R.at n ∙ rw (step, z, e) (sym (and_assoc ok b (covers by (get_or ws i 0 / by) (drop (i + 1) ws) n)));
  }

  pub rising_end : i ≤ length ws → length ws ≤ i → (n : ℕ) → covers by 0 ws n ≡ (ok && eqb (get_or ws (length ws - 1) 0 / by) n)
  unfolding covers
  rising_end g h n = let z : i ≡ length ws = omega arith in R.at n ∙ rw (drop_end ws i h, z)

-- `covers`

module _ (by : ℕ) (ws : List ℕ) (n : ℕ) where
  pub covers_empty : length ws ≡ 0 → eqb 0 n ≡ covers by 0 ws n
  covers_empty e = go ws e
    where
      go : (ws : List ℕ) → length ws ≡ 0 → eqb 0 n ≡ covers by 0 ws n
      go [] e = unfold covers in refl
      go (w ∷ ws) e = absurd (omega arith)

  module _ (b : Bool) (q : (n : ℕ) → covers by 0 ws n ≡ (b && eqb (get_or ws (length ws - 1) 0 / by) n)) where
    pub covers_last : (w : ℕ) → b ≡ true → w ≡ get_or ws (length ws - 1) 0 → eqb (w / by) n ≡ covers by 0 ws n
    covers_last w f e = sym (q n ∙ rw (f, e))

    pub covers_falls : b ≡ false → false ≡ covers by 0 ws n
    covers_falls f = sym (q n ∙ rw f)

-- The loop of `are_kinds`

module _ (p : ℕ → Bool) (ws : List ℕ) (k : ℕ) (r ok : Bool) (inv : r ≡ (ok && all p (drop k ws))) where
  pub kinds_next : (b o : Bool) → k < length ws → b ≡ p (get_or ws k 0) → o ≡ (ok && b) → r ≡ (o && all p (drop (k + 1) ws))
  unfolding all
  kinds_next b o h q e = inv ∙ rw (drop_step 0 ws k h, ← q, e) (sym (and_assoc ok b (all p (drop (k + 1) ws))))

  pub kinds_end : length ws ≤ k → ok ≡ r
  unfolding all
  kinds_end h = sym (inv ∙ rw (drop_end ws k h) (and-true ok))

pub rises_of : (by a b x y : ℕ) → x ≡ a → y ≡ b → leb (x / by) (y / by) ≡ leb (a / by) (b / by)
rises_of by a b x y p q = rw (p, q)

pub kind_of : (w a : ℕ) → w ≡ a → leb (w % 256) 7 ≡ leb (a % 256) 7
kind_of w a e = rw e

-- Question 3 asks of a text what `is_utf8` says of the token that has it

pub utf8_of : (b : Bool) (s : List ℕ) (k : Token) → b ≡ is_utf8 s → s ≡ k.text → b ≡ is_utf8 k.text
utf8_of b s k e q = e ∙ rw q

pub tokens_length : (t x : List ℕ) → length t ≡ length (token_list t x)
tokens_length t x = sym (length_tokens t x)

pub ruleset asked = (rising_start, rising_next, rising_end, covers_empty, covers_last, covers_falls, kinds_next, kinds_end, rises_of, kind_of, utf8_of, tokens_length)
