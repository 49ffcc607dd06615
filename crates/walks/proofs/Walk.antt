-- Walking the chain of one family.
--   line_of_word, next_of_word     what the word of a token says
--   place_inside_lines             the line of a place is a line
--   stands_head, stands_next       from the first place to the next ones
--   before_head, between           no token of the family stands before the first, or between two
--   walk_less, walk_shorter        the next place is behind, and fewer places are left
-- Assumes nothing.
use Prim.Native.Nat.{ℕ, ◌+◌, ◌-◌, ◌/◌, ◌%◌, ◌<◌, ◌≤◌}
use mathlib.Core.Path.{◌≡◌, ap, ◌∙◌}
use mathlib.Core.Bool.{false}
use mathlib.Core.List.{List}
use native.Mathlib.Omega.{arith}
use lib.Arith.{digits_div, digits_mod}
use lib.ListN.{length, get_or}
use Rattle.definitions.specs.Model.{Token, no_token}
use Rattle.definitions.specs.Family.{names}
use Rattle.definitions.specs.Columns.{token_list, listing}
use Rattle.model.proofs.Decode.{length_tokens}
use Rattle.families.specs.Tokens.{family_name}
use Rattle.chains.specs.Chains.{next_place, place_line, chain_word, Bounds, Chain}
use Rattle.walks.specs.Lines.{Stands}
use Rattle.chains.proofs.NextPlace.{next_above, next_most, next_named, next_skips}
use Rattle.chains.proofs.Places.{token_place, place_line_is}

pub place_inside_lines : (l t x : List ℕ) → Bounds l t → (p : ℕ) → p < length t → place_line l p < length l
place_inside_lines l t x B p h =
    let w = token_place l t x B.ok p h in
    rw (w.4, place_line_is l t x B.ok w.0 w.1 w.2 w.3) w.2

module _ (l t x : List ℕ) (k : ℕ) (ns first : List ℕ) (C : Chain l t x k ns first) where
  abbrev f : List ℕ
  f = family_name (listing l t x) k

  abbrev ts : List Token
  ts = token_list t x

  module _ (p : ℕ) (S : Stands l t x k p) (h : p < length t) where
    abbrev after : ℕ
    after = next_place f ts (p + 1)

    after_most : after ≤ length t
    after_most = omega (arith, next_most f ts (p + 1) (omega (arith, length_tokens t x)), length_tokens t x)

    pub line_of_word : (v : ℕ) → v ≡ get_or ns p 0 / 32768 % 65536 → v ≡ place_line l p
    unfolding chain_word
    line_of_word v e =
        let low : 65536 + place_line l p < 131072 = omega (arith, place_inside_lines l t x C.bounds p h, C.bounds.lines) in
        e ∙ ap (λ (w : ℕ). w / 32768 % 65536) (C.words p h (S.named h))
        ∙ ap (λ (w : ℕ). w % 65536) (digits_div (65536 + place_line l p) (omega (arith, after_most, C.bounds.tokens)))
        ∙ ap (λ (w : ℕ). w % 65536) (omega arith)
        ∙ digits_mod 1 (omega arith)

    pub next_of_word : (v : ℕ) → v ≡ get_or ns p 0 % 32768 → v ≡ after
    unfolding chain_word
    next_of_word v e = e ∙ ap (λ (w : ℕ). w % 32768) (C.words p h (S.named h)) ∙ digits_mod (65536 + place_line l p) (omega (arith, after_most, C.bounds.tokens))

  stands_at : (a : ℕ) → a ≤ length t → Stands l t x k (next_place f ts a)
  stands_at a h = record {
    inside = omega (arith, next_most f ts a (omega (arith, length_tokens t x)), length_tokens t x);
    named = λ b. next_named f ts a (omega (arith, length_tokens t x));
  }

  pub stands_head : (p : ℕ) → p ≡ get_or first k 0 → Stands l t x k p
  stands_head p e = rw (e ∙ C.head) (stands_at 0 (omega arith))

  -- no token of the family stands before its first
  pub before_head : (p : ℕ) → p ≡ get_or first k 0 → (q : ℕ) → q < p → names f (get_or ts q no_token) ≡ false
  before_head p e q h = next_skips f ts 0 q (omega arith) (omega (arith, C.head))

  module _ (p : ℕ) (S : Stands l t x k p) (h : p < length t) (v : ℕ) (e : v ≡ get_or ns p 0 % 32768) where
    pub stands_next : Stands l t x k v
    stands_next = rw (next_of_word p S h v e) (stands_at (p + 1) (omega arith))

    pub walk_less : p < v
    walk_less = omega (arith, next_of_word p S h v e, next_above f ts (p + 1))

    -- no token of the family stands between
    pub between : (q : ℕ) → p < q → q < v → names f (get_or ts q no_token) ≡ false
    between q a b = next_skips f ts (p + 1) q (omega arith) (omega (arith, next_of_word p S h v e))

    pub walk_shorter : length t - v < length t - p
    walk_shorter = omega (arith, walk_less)
