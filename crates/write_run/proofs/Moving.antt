-- A run of tokens moved from one text to another.
--   moved_next, moved_end     one word more is moved; all are
--   starts_rise               tokens start one behind the other
--   run_words                 the words of the tokens of a run, behind so many bytes
-- Assumes nothing.
use mathlib.Core.Path.{◌≡◌, refl, sym, ap₂, ◌∙◌}
use native.Mathlib.Numerals.{add-one}
use mathlib.Core.Bool.{true}
use mathlib.Core.List.{List, [], ◌∷◌, ◌++◌, map}
use Prim.Native.Nat.{ℕ, zero, suc, ◌+◌, ◌-◌, ◌*◌, ◌/◌, ◌≤◌, ◌<◌}
use native.Mathlib.Omega.{arith}
use lib.ListN.{length, take, get_or, set, length-map}
use Rattle.definitions.specs.Lists.{part}
use Rattle.definitions.specs.Model.{Token, no_token}
use Rattle.definitions.specs.Columns.{token_list, token_words_from}
use Rattle.definitions.specs.Questions.{covers}
use Rattle.text.proofs.Parts.{part_step, part_none, length_part}
use Rattle.model.specs.Places.{token_start, start_from}
use Rattle.model.proofs.Decode.{token_at, length_tokens}
use Rattle.model.proofs.Formed.{token_order, token_within}
use Rattle.write.specs.Holds.{Filled}
use Rattle.write.proofs.Words.{copied_next, copied_end}
use Rattle.write_run.specs.Runs.{moved}

map_at : (f : ℕ → ℕ) (l : List ℕ) (j : ℕ) → j < length l → get_or (map f l) j 0 ≡ f (get_or l j 0)
map_at f [] j h = absurd (omega arith)
map_at f (x ∷ l) zero h = refl
map_at f (x ∷ l) (suc j) h = map_at f l j (omega arith)

module _ (ws run : List ℕ) (a b j n : ℕ) (xs : List ℕ) (f : Filled (ws ++ take j (map (moved a b) run)) (n + j) xs) where
  pub moved_next : (v : ℕ) → v ≡ moved a b (get_or run j 0) → j < length run → n + j < length xs
      → Filled (ws ++ take (j + 1) (map (moved a b) run)) (n + (j + 1)) (set xs (n + j) v)
  moved_next v e h g =
      rw (e ∙ sym (map_at (moved a b) run j h)) (copied_next ws (map (moved a b) run) j n xs f (rw (length-map run (moved a b)) h) g)

  pub moved_end : j ≤ length run → length run ≤ j → Filled (ws ++ map (moved a b) run) (n + length run) xs
  moved_end h g =
      let e = length-map run (moved a b) in
      rw (← e) (copied_end ws (map (moved a b) run) j n xs f (rw e h) (rw e g))

-- The words of a run

words_cons : (n : ℕ) (u : Token) (us : List Token) (w : ℕ) {ws : List ℕ} → (n + length u.text) * 256 + u.kind ≡ w
    → token_words_from (n + length u.text) us ≡ ws → token_words_from n (u ∷ us) ≡ w ∷ ws
unfolding token_words_from
words_cons n u us w e f = ap₂ (λ (w : ℕ) (ws : List ℕ). w ∷ ws) e f

-- tokens start one behind the other
pub starts_rise : (t x : List ℕ) → covers 256 0 t (length x) ≡ true → (n f : ℕ) → f + n ≤ length t → token_start t f ≤ token_start t (f + n)
starts_rise t x ok zero f h =
    let e : f + 0 ≡ f = omega arith in
    rw e (omega arith)
starts_rise t x ok (suc n) f h =
    let e : f + suc n ≡ suc (f + n) = omega arith in
    rw e (go (starts_rise t x ok n f (omega arith)) (token_order t x ok (f + n) (omega arith)))
  where
    go : token_start t f ≤ token_start t (f + n) → token_start t (f + n) ≤ get_or t (f + n) 0 / 256 → token_start t f ≤ token_start t (suc (f + n))
    go p q = unfold start_from in omega arith

module _ (t x : List ℕ) (ok : covers 256 0 t (length x) ≡ true) (a b : ℕ) where
  token_length : (f : ℕ) → f < length t → length (get_or (token_list t x) f no_token).text ≡ get_or t f 0 / 256 - token_start t f
  token_length f h =
      rw (token_at t x f) (omega (arith, length_part x (token_start t f) (get_or t f 0 / 256), token_order t x ok f h, token_within t x ok f h))

  pub run_words : (n f e : ℕ) → f + n ≡ e → e ≤ length t → a ≤ token_start t f
      → token_words_from (token_start t f - a + b) (part f e (token_list t x)) ≡ map (moved a b) (part f e t)
  run_words zero f e s h g = rw (part_none (token_list t x) f e (omega arith), part_none t f e (omega arith)) (unfold token_words_from in refl)
  run_words (suc n) f e s h g =
      let i : f < length t = omega arith in
      let o : token_start t f ≤ get_or t f 0 / 256 = token_order t x ok f i in
      let q : token_start t (f + 1) ≡ get_or t f 0 / 256 = rw add-one (unfold start_from in refl) in
      let z : token_start t f - a + b + length (get_or (token_list t x) f no_token).text ≡ token_start t (f + 1) - a + b = omega (arith, token_length f i) in
      let y : token_start t f - a + b + length (get_or (token_list t x) f no_token).text ≡ get_or t f 0 / 256 - a + b = omega (arith, token_length f i) in
      rw (part_step no_token (token_list t x) f e (omega arith) (rw (length_tokens t x) h), part_step 0 t f e (omega arith) h)
      (words_cons _ _ _ _ (rw (y, token_at t x f)) (rw z (run_words n (f + 1) e (omega arith) h (omega arith))))
