-- What the bits of a mask say, as rules for `search`: ms has the masks of L, and r the answer for line i.
--   mask_goto, mask_else, mask_loop, mask_do, mask_switch, mask_leaves, mask_continue, mask_case
-- Assumes nothing.
use Prim.Native.Nat.{ℕ, ◌*◌, ◌/◌, ◌%◌, ◌^◌}
use mathlib.Core.Path.{◌≡◌, refl, sym, ap, ◌∙◌, fun_ext}
use mathlib.Core.Logic.{◌⊎◌, inl, inr}
use mathlib.Core.Bool.{Bool, true, false, cond, not, ◌&&◌, ◌||◌, or-false, or_assoc}
use mathlib.Core.List.{List, [], ◌∷◌}
use native.Mathlib.Nat.{zero-mul, one-mul}
use native.Mathlib.Decide.{dec_lt}
use native.Mathlib.Omega.{arith}
use borrow.Author.Tests.{ne_eqb}
use lib.Pow.{pow_pos}
use lib.Bits.{bit_and, bit_or}
use Rattle.std.proofs.lemmas.Nat.Bits.{and_pow}
use lib.Dec.{eqb}
use lib.ListN.{get_or}
use Rattle.definitions.specs.Lists.{any, fold, ◌≟◌, ascii}
use Rattle.definitions.specs.Model.{Token, Line, line, Keyword}
use Rattle.definitions.specs.Statements.{has_kw}
use Rattle.definitions.specs.FlowGraph.{is_loop, is_switch}
use Rattle.bits.specs.Rows.{word_bit}
use Rattle.bits.proofs.Words.{or_bit}
use Rattle.text.proofs.Texts.{≟_eq}
use Rattle.line_keywords.specs.Masks.{class, key, with_key, mask, Masks}

-- Bits

-- a bit of a mask is one of some token
fold_bit : (k m : ℕ) (ts : List Token) → word_bit (fold with_key m ts) k ≡ (word_bit m k || any (λ t. word_bit (key t) k) ts)
unfolding fold any
fold_bit k m [] = sym (or-false (word_bit m k))
fold_bit k m (t ∷ ts) = fold_bit k (bit_or m (key t)) ts ∙ ap (◌|| any (λ t. word_bit (key t) k) ts) (or_bit m (key t) k) ∙ or_assoc (word_bit m k) (word_bit (key t) k) (any (λ t. word_bit (key t) k) ts)

-- The keywords by their bits

abbrev bits : ℕ → List Bool
bits m = word_bit m 1 ∷ (word_bit m 2 ∷ (word_bit m 3 ∷ (word_bit m 4 ∷ (word_bit m 5 ∷ (word_bit m 6 ∷ (word_bit m 0 ∷ (word_bit m 7 ∷ [])))))))

abbrev tests : List ℕ → List Bool
tests s =
    (s ≟ ascii "goto") ∷ ((s ≟ ascii "else") ∷ (((s ≟ ascii "while") || (s ≟ ascii "for") || (s ≟ ascii "do"))
    ∷ ((s ≟ ascii "switch") ∷ (((s ≟ ascii "break") || (s ≟ ascii "continue")) ∷ (((s ≟ ascii "case") || (s ≟ ascii "default"))
    ∷ ((s ≟ ascii "do") ∷ ((s ≟ ascii "continue") ∷ [])))))))

by_test : (s w : List ℕ) (a b : ℕ) → bits a ≡ tests w → ((s ≟ w) ≡ false → bits b ≡ tests s) → bits (cond (s ≟ w) a b) ≡ tests s
by_test s w a b p q = go (s ≟ w) refl
  where
    go : (t : Bool) → (s ≟ w) ≡ t → bits (cond t a b) ≡ tests s
    go true e = rw (≟_eq s w e) p
    go false e = q e

class_bits : (s : List ℕ) → bits (class s) ≡ tests s
unfolding class ◌≟◌ word_bit
class_bits s =
    by_test s (ascii "goto") 2 _ refl (λ g.
    by_test s (ascii "else") 4 _ refl (λ e.
    by_test s (ascii "while") 8 _ refl (λ w.
    by_test s (ascii "for") 8 _ refl (λ f.
    by_test s (ascii "do") 9 _ refl (λ d.
    by_test s (ascii "default") 64 _ refl (λ t.
    by_test s (ascii "switch") 16 _ refl (λ z.
    by_test s (ascii "break") 32 _ refl (λ b.
    by_test s (ascii "continue") 160 _ refl (λ c.
    by_test s (ascii "case") 64 0 refl (λ k.
    rw (g, e, w, f, d, t, z, b, c, k) refl))))))))))

-- The questions

abbrev is_keyword : Token → Bool
is_keyword t = eqb t.kind Keyword

-- the test f of a keyword's text is bit k
module _ (k : ℕ) (f : List ℕ → Bool) (z : word_bit 0 k ≡ false) (law : (s : List ℕ) → word_bit (class s) k ≡ f s) where
  mask_bit : (l : Line) → word_bit (mask l) k ≡ any (λ t. is_keyword t && f t.text) l.tokens
  unfolding mask
  mask_bit l = fold_bit k 0 l.tokens ∙ rw z (ap (λ (p : Token → Bool). any p l.tokens) (fun_ext (λ t. go (is_keyword t) t.text)))
    where
      go : (b : Bool) (s : List ℕ) → word_bit (cond b (class s) 0) k ≡ (b && f s)
      go true s = law s
      go false s = z

any_or : (f g : List ℕ → Bool) (ts : List Token)
    → any (λ t. is_keyword t && (f t.text || g t.text)) ts ≡ (any (λ t. is_keyword t && f t.text) ts || any (λ t. is_keyword t && g t.text) ts)
unfolding any
any_or f g [] = refl
any_or f g (t ∷ ts) =
    ap ((is_keyword t && (f t.text || g t.text)) ||◌) (any_or f g ts)
    ∙ swap (is_keyword t) (f t.text) (g t.text) (any (λ t. is_keyword t && f t.text) ts) (any (λ t. is_keyword t && g t.text) ts)
  where
    swap : (k a b c d : Bool) → ((k && (a || b)) || (c || d)) ≡ (((k && a) || c) || ((k && b) || d))
    swap false a b c d = refl
    swap true true b c d = refl
    swap true false true true d = refl
    swap true false true false d = refl
    swap true false false c d = refl

-- the test that a byte and a power of two have a bit in common
common : (m k : ℕ) → not (eqb (bit_and m (2 ^ k)) 0) ≡ word_bit m k
unfolding word_bit
common m k = rw (and_pow m k) (go (elim (dec_lt (m / 2 ^ k % 2) 1) [ yes h ↦ inl (omega arith) | no h ↦ inr (omega arith) ]))
  where
    go : (m / 2 ^ k % 2 ≡ 0) ⊎ (m / 2 ^ k % 2 ≡ 1) → not (eqb (m / 2 ^ k % 2 * 2 ^ k) 0) ≡ eqb (m / 2 ^ k % 2) 1
    go (inl q) = rw (q, zero-mul (2 ^ k))
    go (inr q) = rw (q, one-mul (2 ^ k), ne_eqb (2 ^ k) 0 (λ z. omega (arith, pow_pos k)))

module _ (L : List Line) (ms : List ℕ) (M : Masks L ms) (i : ℕ) (r : Bool) where
  asked : (k : ℕ) (f : List ℕ → Bool) → word_bit 0 k ≡ false → ((s : List ℕ) → word_bit (class s) k ≡ f s)
      → r ≡ not (eqb (bit_and (get_or ms i 0) (2 ^ k)) 0) → r ≡ any (λ t. is_keyword t && f t.text) (line L i).tokens
  asked k f z law e = e ∙ common (get_or ms i 0) k ∙ rw (M.at i) (mask_bit k f z law (line L i))

  pub mask_goto : r ≡ not (eqb (bit_and (get_or ms i 0) 2) 0) → r ≡ has_kw (line L i) (ascii "goto")
  unfolding word_bit has_kw
  mask_goto = asked 1 (◌≟ ascii "goto") refl (λ s. ap (λ (bs : List Bool). get_or bs 0 false) (class_bits s))

  pub mask_else : r ≡ not (eqb (bit_and (get_or ms i 0) 4) 0) → r ≡ has_kw (line L i) (ascii "else")
  unfolding word_bit has_kw
  mask_else = asked 2 (◌≟ ascii "else") refl (λ s. ap (λ (bs : List Bool). get_or bs 1 false) (class_bits s))

  pub mask_loop : r ≡ not (eqb (bit_and (get_or ms i 0) 8) 0) → r ≡ is_loop (line L i)
  unfolding word_bit has_kw
  mask_loop e =
      asked 3 (λ s. (s ≟ ascii "while") || (s ≟ ascii "for") || (s ≟ ascii "do")) refl (λ s. ap (λ (bs : List Bool). get_or bs 2 false) (class_bits s)) e
      ∙ any_or (λ s. (s ≟ ascii "while") || (s ≟ ascii "for")) (◌≟ ascii "do") (line L i).tokens
      ∙ ap (◌|| has_kw (line L i) (ascii "do")) (any_or (◌≟ ascii "while") (◌≟ ascii "for") (line L i).tokens)

  pub mask_do : r ≡ not (eqb (bit_and (get_or ms i 0) 1) 0) → r ≡ has_kw (line L i) (ascii "do")
  unfolding word_bit has_kw
  mask_do = asked 0 (◌≟ ascii "do") refl (λ s. ap (λ (bs : List Bool). get_or bs 6 false) (class_bits s))

  pub mask_switch : r ≡ not (eqb (bit_and (get_or ms i 0) 16) 0) → r ≡ is_switch (line L i)
  unfolding word_bit has_kw
  mask_switch = asked 4 (◌≟ ascii "switch") refl (λ s. ap (λ (bs : List Bool). get_or bs 3 false) (class_bits s))

  pub mask_leaves : r ≡ not (eqb (bit_and (get_or ms i 0) 32) 0) → r ≡ (has_kw (line L i) (ascii "break") || has_kw (line L i) (ascii "continue"))
  unfolding word_bit has_kw
  mask_leaves e =
      asked 5 (λ s. (s ≟ ascii "break") || (s ≟ ascii "continue")) refl (λ s. ap (λ (bs : List Bool). get_or bs 4 false) (class_bits s)) e
      ∙ any_or (◌≟ ascii "break") (◌≟ ascii "continue") (line L i).tokens

  pub mask_continue : r ≡ not (eqb (bit_and (get_or ms i 0) 128) 0) → r ≡ has_kw (line L i) (ascii "continue")
  unfolding word_bit has_kw
  mask_continue = asked 7 (◌≟ ascii "continue") refl (λ s. ap (λ (bs : List Bool). get_or bs 7 false) (class_bits s))

  pub mask_case : r ≡ not (eqb (bit_and (get_or ms i 0) 64) 0) → r ≡ (has_kw (line L i) (ascii "case") || has_kw (line L i) (ascii "default"))
  unfolding word_bit has_kw
  mask_case e =
      asked 6 (λ s. (s ≟ ascii "case") || (s ≟ ascii "default")) refl (λ s. ap (λ (bs : List Bool). get_or bs 5 false) (class_bits s)) e
      ∙ any_or (◌≟ ascii "case") (◌≟ ascii "default") (line L i).tokens

pub ruleset asking = (mask_goto, mask_else, mask_loop, mask_do, mask_switch, mask_leaves, mask_continue, mask_case)
