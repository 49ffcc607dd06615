-- Rules for the needs of the strings.
--   plain_start, plain_next, plain_then      bytes that are written as they stand: none, one more, a block more
--   letters, marked, alone                   one byte
--   run_put, run_byte, run_next, run_none    a run of them, one of them, and what is left behind it
-- Assumes nothing.
use Prim.Native.Nat.{ℕ, ◌-◌, ◌/◌, ◌%◌, ◌≤◌, ◌<◌}
use mathlib.Core.Path.{◌≡◌, refl, sym, ap, ◌∙◌}
use mathlib.Core.Bool.{Bool, true, ◌&&◌, ◌||◌, not}
use mathlib.Core.List.{List, [], ◌∷◌, ◌++◌, append_assoc}
use native.Mathlib.Omega.{arith}
use borrow.Author.Tests.{ne_eqb, leb-true, lt-ltb, le-ltb, not-true}
use lib.Dec.{eqb, leb}
use lib.ListN.{length, take, length-append}
use Rattle.std.proofs.Math.Seq.{take-append_seam}
use Rattle.loop_theory.proofs.Cases.{and_split}
use Rattle.json_definitions.specs.Writer.{hex_letter, escaped, characters_text}
use Rattle.json_append.specs.Appended.{Plain, Wrote, Begun}
use Rattle.json_append.specs.declared.writer.Writer.{Writer}
use Rattle.json_append.proofs.Appends.{wrote_as, wrote_2, begun_next}

-- Bytes that are written as they stand

plain_byte : (c : ℕ) → (not (eqb c 34) && (not (eqb c 92) && leb 32 c)) ≡ true → escaped c ≡ c ∷ []
unfolding escaped
plain_byte c e =
    let p = and_split (not (eqb c 34)) _ e in
    let q = and_split (not (eqb c 92)) _ p.1 in
    rw (not-true (eqb c 34) p.0, not-true (eqb c 92) q.0, le-ltb c 32 (leb-true 32 c q.1))

pub plain_start : (s : List ℕ) → Plain s s
plain_start s = record { front = []; cut = refl; same = refl }

pub plain_then : (s t r : List ℕ) → Plain s t → Plain t r → Plain s r
plain_then s t r f g =
    record {
      front = f.front ++ g.front;
      cut = f.cut ∙ rw g.cut (sym (append_assoc f.front g.front r));
      same = f.same ∙ rw g.same (sym (append_assoc f.front g.front (characters_text r)));
    }

pub plain_next : (s rest : List ℕ) (c : ℕ) (t : List ℕ) (b : Bool) → Plain s rest → rest ≡ c ∷ t → b ≡ (not (eqb c 34) && (not (eqb c 92) && leb 32 c)) → b ≡ true → Plain s t
unfolding characters_text
plain_next s rest c t b f q e h =
    plain_then s rest t f (record { front = c ∷ []; cut = q; same = rw (q, plain_byte c (sym e ∙ h)) })

-- One byte

pub letters : (c a b : ℕ) → a ≡ hex_letter (c / 16) → b ≡ hex_letter (c % 16) → c < 32 → (92 ∷ 117 ∷ 48 ∷ 48 ∷ []) ++ (a ∷ b ∷ []) ≡ escaped c
unfolding escaped
letters c a b p q h = rw (p, q, ne_eqb c 34 (λ e. omega arith), ne_eqb c 92 (λ e. omega arith), lt-ltb c 32 h)

pub marked : (c : ℕ) (b : Bool) → b ≡ (eqb c 34 || eqb c 92) → b ≡ true → 92 ∷ c ∷ [] ≡ escaped c
unfolding escaped
marked c b e h = rw (← e, h)

pub alone : (c : ℕ) → (c ≡ 34 → ⊥) → (c ≡ 92 → ⊥) → 32 ≤ c → c ∷ [] ≡ escaped c
unfolding escaped
alone c p q h = rw (ne_eqb c 34 p, ne_eqb c 92 q, le-ltb c 32 h)

-- Runs

pub run_put : (w w' : Writer) (s rest : List ℕ) → Plain s rest → Wrote w (take (length s - length rest) s) w' → Begun w (characters_text s) w' (characters_text rest)
run_put w w' s rest p f =
    let n = ap length p.cut in
    let k : length s - length rest ≡ length p.front = omega (arith, length-append p.front rest, n) in
    let front : take (length s - length rest) s ≡ p.front = ap (λ m. take m s) k ∙ ap (take (length p.front)) p.cut ∙ take-append_seam p.front rest in
    record { done = p.front; written = wrote_as w (take (length s - length rest) s) p.front w' front f; whole = sym p.same }

pub run_next : (c : ℕ) (s t : List ℕ) → s ≡ c ∷ t → escaped c ++ characters_text t ≡ characters_text s
unfolding characters_text
run_next c s t q = rw q

pub run_byte : (w : Writer) (t : List ℕ) (m : Writer) (s : List ℕ) (c : ℕ) (r : List ℕ) (b : Bool) (w' : Writer) → Begun w t m (characters_text s) → s ≡ c ∷ r
    → b ≡ (not (eqb c 34) && (not (eqb c 92) && leb 32 c)) → b ≡ true → Wrote m (c ∷ []) w' → Begun w t w' (characters_text r)
run_byte w t m s c r b w' g q e h f =
    let one : (c ∷ []) ++ characters_text r ≡ characters_text s = ap (λ (u : List ℕ). u ++ characters_text r) (sym (plain_byte c (sym e ∙ h))) ∙ run_next c s r q in
    begun_next w t m (characters_text s) g (c ∷ []) w' f (characters_text r) one

pub run_none : (s : List ℕ) → length s ≡ 0 → characters_text s ≡ []
unfolding characters_text
run_none [] h = refl
run_none (c ∷ s) h = absurd (omega arith)

pub ruleset strings = (wrote_as, wrote_2, plain_start, plain_then, plain_next, letters, marked, alone, run_put)
