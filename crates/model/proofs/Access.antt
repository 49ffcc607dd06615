-- What the functions of `columns` show at their returns, as rules for `search`: each premise is a field of what a need is handed.
--   start_first, start_later               where a piece starts
--   word_kind, word_text, word_indent      a token's kind and text, a line's indent, by the words
--   count_some, count_none                 how many tokens a line has
--   kind_none, kind_past, kind_here        the kind of a token of a line
--   text_none, text_past, text_here        its text
--   word_past                              no word past the end
--   address_line_past, address_past, address_here, address_missing    the address of a line
--   access                                 the rules
-- Assumes nothing.
use Rattle.std.specs.Prelude.{None, Some}
use mathlib.Core.Path.{◌≡◌, sym, ap}
use mathlib.Core.List.{List, []}
use Prim.Native.Nat.{ℕ, ◌+◌, ◌-◌, ◌/◌, ◌%◌, ◌≤◌, ◌<◌}
use native.Mathlib.Omega.{arith}
use borrow.Author.Tests.{eq-eqb, ne_eqb}
use lib.ListN.{length, get_or, get_or-eq_default}
use Rattle.definitions.specs.Lists.{part}
use Rattle.definitions.specs.Model.{Line, no_token, no_line, token, line}
use Rattle.definitions.specs.Columns.{token_list, listing, with_addresses}
use Rattle.model.specs.Places.{start_from, token_start, line_start, line_end}
use Rattle.model.proofs.Decode.{start_zero, start_pred, token_at, line_at, line_length, line_token, length_listing, length_addresses, address_at}

module _ (ws : List ℕ) (by k : ℕ) where
  pub start_first : k ≡ 0 → 0 ≡ start_from by 0 ws k
  start_first e = rw (e, start_zero)

  pub start_later : (w : ℕ) → w ≡ get_or ws (k - 1) 0 → (k ≡ 0 → ⊥) → w / by ≡ start_from by 0 ws k
  start_later w e h = rw e (start_pred by 0 ws k h)

-- Tokens among all tokens

module _ (t x : List ℕ) (k w : ℕ) (q : w ≡ get_or t k 0) where
  pub word_kind : w % 256 ≡ (get_or (token_list t x) k no_token).kind
  word_kind = rw (token_at t x k, q)

  pub word_text : (r : List ℕ) (a : ℕ) → r ≡ part a (w / 256) x → a ≡ token_start t k → r ≡ (get_or (token_list t x) k no_token).text
  word_text r a e p = rw (token_at t x k, ← p, ← q) e

-- Lines

module _ (l t x : List ℕ) (i : ℕ) where
  pub word_indent : (w : ℕ) → w ≡ get_or l i 0 → w % 256 ≡ (line (listing l t x) i).indent
  word_indent w q = rw (line_at l t x i, q)

  module _ (s e : ℕ) (p : s ≡ line_start l i) (q : e ≡ line_end l t i) where
    count : length (line (listing l t x) i).tokens ≡ e - s
    count = rw (p, q) (line_length l t x i)

    pub count_some : s < e → e - s ≡ length (line (listing l t x) i).tokens
    count_some h = sym count

    pub count_none : e ≤ s → 0 ≡ length (line (listing l t x) i).tokens
    count_none h = omega (arith, count)

    module _ (j : ℕ) where
      past : e - s ≤ j → token (line (listing l t x) i) j ≡ no_token
      past h = get_or-eq_default (line (listing l t x) i).tokens no_token (rw count h)

      here : j < e - s → token (line (listing l t x) i) j ≡ get_or (token_list t x) (s + j) no_token
      here h = rw p (line_token l t x i j (omega arith))

      pub kind_none : e ≤ s → 0 ≡ (token (line (listing l t x) i) j).kind
      kind_none h = rw (past (omega arith))

      pub kind_past : e - s ≤ j → 0 ≡ (token (line (listing l t x) i) j).kind
      kind_past h = rw (past h)

      pub kind_here : (r : ℕ) → j < e - s → r ≡ (get_or (token_list t x) (s + j) no_token).kind → r ≡ (token (line (listing l t x) i) j).kind
      kind_here r h w = rw (here h) w

      pub text_none : e ≤ s → [] ≡ (token (line (listing l t x) i) j).text
      text_none h = rw (past (omega arith))

      pub text_past : e - s ≤ j → [] ≡ (token (line (listing l t x) i) j).text
      text_past h = rw (past h)

      pub text_here : (r : List ℕ) → j < e - s → r ≡ (get_or (token_list t x) (s + j) no_token).text → r ≡ (token (line (listing l t x) i) j).text
      text_here r h w = rw (here h) w

-- Addresses

pub word_past : (ws : List ℕ) (k : ℕ) → length ws ≤ k → 0 ≡ get_or ws k 0
word_past ws k h = sym (get_or-eq_default ws 0 h)

module _ (l a t x : List ℕ) (i : ℕ) where
  address_none : length (with_addresses l a (listing l t x)) ≤ i → None ≡ (line (with_addresses l a (listing l t x)) i).address
  address_none h = sym (ap (λ (m : Line). m.address) (get_or-eq_default (with_addresses l a (listing l t x)) no_line h))

  pub address_line_past : length l ≤ i → None ≡ (line (with_addresses l a (listing l t x)) i).address
  address_line_past h = address_none (omega (arith, length_addresses l a (listing l t x), length_listing l t x))

  pub address_past : length a ≤ i → None ≡ (line (with_addresses l a (listing l t x)) i).address
  address_past h = address_none (omega (arith, length_addresses l a (listing l t x), length_listing l t x))

  module _ (w : ℕ) (q : w ≡ get_or l i 0) (h : i < length l) (k : i < length a) where
    pub address_here : (v : ℕ) → v ≡ get_or a i 0 → w / 256 % 2 ≡ 1 → Some v ≡ (line (with_addresses l a (listing l t x)) i).address
    address_here v e f =
        rw (e, address_at l a (listing l t x) i h k (rw length_listing h), ← q, eq-eqb (w / 256 % 2) 1 f)

    pub address_missing : (w / 256 % 2 ≡ 1 → ⊥) → None ≡ (line (with_addresses l a (listing l t x)) i).address
    address_missing f =
        rw (address_at l a (listing l t x) i h k (rw length_listing h), ← q, ne_eqb (w / 256 % 2) 1 f)

pub ruleset access = (start_first, start_later, word_kind, word_text, word_indent, count_some, count_none, kind_none, kind_past, kind_here, text_none, text_past, text_here, word_past, address_line_past, address_past, address_here, address_missing)
