-- Rules for the needs of the sizes: each premise is a field of what a need is handed.
--   tokens_next, heads_next, heads_end                  the loops of the sums over tokens and lines
--   digits_sized                                        the digits of a number
--   address_known, address_null                         an address, and none
--   kind_sized, other_sized                             a token of a kind, and of none
--   ends_none, ends_some                                an array without elements, and with them
--   head_sized                                          a line without its tokens' texts
-- Assumes nothing.
use Rattle.std.specs.Prelude.{Some, None, Option, IfSome, IfNone, unwrap_or}
use Prim.Native.Nat.{ℕ, zero, suc, ◌+◌, ◌*◌, ◌/◌, ◌^◌, ◌≤◌, ◌<◌}
use mathlib.Core.Path.{◌≡◌, refl, ap, ◌∙◌}
use mathlib.Core.List.{List}
use Rattle.std.proofs.Math.Nat.{pow-succ'}
use native.Mathlib.Omega.{arith}
use lib.ListN.{length, get_or, length-append}
use Rattle.definitions.specs.Model.{Line, line, no_token, no_line}
use Rattle.definitions.specs.Columns.{token_list}
use Rattle.model.proofs.Decode.{length_tokens}
use Rattle.json_definitions.specs.Writer.{decimal, kind_text, address_text}
use Rattle.json_append.specs.Sizes.{total, Sized}
use Rattle.json_append.proofs.Sums.{Counted, counted_start, counted_next, counted_end}
use Rattle.json_append.proofs.ValueRules.{one_digit, more_digits, no_kind}
use Rattle.json_write.specs.Answers.{lines_of, head_text}
use Rattle.json_write.specs.Sizes.{ends, token_size, head_size}
use Rattle.json_write.proofs.LineRules.{length_lines}

-- The loops of sums

-- a token's size is that of its kind
pub tokens_next : (t x : List ℕ) (n k v r : ℕ) → Counted token_size 24 (token_list t x) n k → k < length t → v ≡ (get_or (token_list t x) k no_token).kind → Sized (14 + length (kind_text v)) 24 r
    → Counted token_size 24 (token_list t x) (n + r) (k + 1)
tokens_next t x n k v r g h e s = counted_next token_size 24 (token_list t x) n k g no_token r (rw length_tokens h) (rw e at s)

module _ (l a t x : List ℕ) (same : length a ≡ length l) (n i : ℕ) (g : Counted head_size 75 (lines_of l a t x) n i) where
  pub heads_next : (r : ℕ) → i < length l → Sized (head_size (line (lines_of l a t x) i)) 75 r → Counted head_size 75 (lines_of l a t x) (n + r) (i + 1)
  heads_next r h s = counted_next head_size 75 (lines_of l a t x) n i g no_line r (rw (length_lines l a t x same) h) s

  pub heads_end : length l ≤ i → n ≡ total head_size (lines_of l a t x)
  heads_end h = counted_end head_size 75 (lines_of l a t x) n i g (rw (length_lines l a t x same) h)

-- Numbers

digits_long : (d n : ℕ) → 10 ^ d ≤ n → n < 10 * 10 ^ d → length (decimal n) ≡ d + 1
digits_long zero n l h = let e = ap length (one_digit n (omega arith)) in omega arith
digits_long (suc d) n l h =
    let p : 10 ^ suc d ≡ 10 * 10 ^ d = pow-succ' 10 d in
    let e = ap length (more_digits n (omega (arith, p, pow-pos d))) in
    let f = digits_long d (n / 10) (omega (arith, p)) (omega (arith, p)) in
    omega (arith, simp length-append at e)
  where
    pow-pos : (d : ℕ) → 1 ≤ 10 ^ d
    pow-pos zero = omega arith
    pow-pos (suc d) = let e : 10 ^ suc d ≡ 10 * 10 ^ d = pow-succ' 10 d in let k = pow-pos d in omega arith

pub digits_sized : (n : ℕ) (o : Option ℕ) (d : ℕ) → IfNone o (n ≡ 0) → IfSome o (λ k. 10 ^ k ≤ n) → IfSome o (λ k. n < 10 * 10 ^ k) → IfSome o (λ k. k < 20) → d ≡ unwrap_or o 0
    → Sized (length (decimal n)) 20 (d + 1)
digits_sized n None d z l h m e = let o = ap length (one_digit n (omega arith)) in record { is = omega arith; most = omega arith }
digits_sized n (Some k) d z l h m e = let o = digits_long k n l h in record { is = omega arith; most = omega arith }

module _ (a : Option ℕ) where
  pub address_known : (v r : ℕ) → a ≡ Some v → Sized (length (decimal v)) 20 r → Sized (length (address_text a)) 20 r
  unfolding address_text
  address_known v r q s = rw q s

  pub address_null : a ≡ None → Sized (length (address_text a)) 20 4
  unfolding address_text
  address_null q = rw q (record { is = refl; most = omega arith })

-- Tokens and arrays

module _ (k : ℕ) where
  pub kind_sized : (n r : ℕ) → k ≡ n → r ≡ 14 + length (kind_text n) → length (kind_text n) ≤ 10 → Sized (14 + length (kind_text k)) 24 r
  kind_sized n r q e h = rw q (record { is = e; most = omega arith })

  pub other_sized : (k ≡ 0 → ⊥) → (k ≡ 1 → ⊥) → (k ≡ 2 → ⊥) → (k ≡ 3 → ⊥) → (k ≡ 4 → ⊥) → (k ≡ 5 → ⊥) → (k ≡ 6 → ⊥) → (k ≡ 7 → ⊥) → Sized (14 + length (kind_text k)) 24 14
  other_sized n₀ n₁ n₂ n₃ n₄ n₅ n₆ n₇ = rw (← no_kind k n₀ n₁ n₂ n₃ n₄ n₅ n₆ n₇) (record { is = refl; most = omega arith })

pub ends_none : (n : ℕ) → n ≡ 0 → Sized (ends n) 2 2
unfolding ends
ends_none n e = rw e (record { is = refl; most = omega arith })

pub ends_some : (n : ℕ) → (n ≡ 0 → ⊥) → Sized (ends n) 2 1
unfolding ends
ends_some zero e = absurd (e refl)
ends_some (suc n) e = record { is = refl; most = omega arith }

pub head_sized : (l : Line) (o : Option ℕ) (i n a d e : ℕ) → o ≡ l.address → Sized (length (address_text o)) 20 a → i ≡ l.indent → Sized (length (decimal i)) 20 d
    → n ≡ length l.tokens → Sized (ends n) 2 e → Sized (head_size l) 75 (33 + a + d + e)
unfolding head_size head_text
head_sized l o i n a d e p sa q sd r se =
    let ea : a ≡ length (address_text l.address) = sa.is ∙ rw p in
    let ed : d ≡ length (decimal l.indent) = sd.is ∙ rw q in
    let ee : e ≡ ends (length l.tokens) = se.is ∙ rw r in
    let ma = sa.most in let md = sd.most in let me = se.most in
    record { is = simp length-append (omega arith); most = omega arith }

pub ruleset sizes = (counted_start, address_known, address_null, kind_sized, other_sized, ends_none, ends_some)
