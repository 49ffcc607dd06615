-- The columns that the writer accepts stand for a listing that JSON text can hold.
--   is_word v           the number v has 64 bits
--   listing_formed      for columns that pass questions 2 and 3
-- Assumes nothing.
use Rattle.std.specs.Prelude.{None, Some}
use Prim.Native.Nat.{ℕ, ◌-◌, ◌/◌, ◌%◌, ◌^◌}
use mathlib.Core.Path.{◌≡◌, refl}
use mathlib.Core.Bool.{Bool, true, false, cond, ◌&&◌}
use mathlib.Core.List.{List, [], ◌∷◌}
use native.Mathlib.Omega.{arith}
use borrow.Author.Tests.{le-leb}
use lib.Dec.{eqb, leb}
use lib.ListN.{drop}
use Rattle.definitions.specs.Lists.{all, part}
use Rattle.definitions.specs.Utf8.{is_utf8}
use Rattle.definitions.specs.Model.{Token, Line}
use Rattle.definitions.specs.Columns.{pieces, token_of, line_of, token_list, listing, address_of, with_addresses}
use Rattle.loop_theory.proofs.AnyAll.{both, all_nil, all_and, all_cons, all_halves}
use Rattle.json_definitions.specs.Listings.{is_token, is_address, is_line, is_listing}

abbrev pub is_word : ℕ → Bool
is_word v = leb v (2 ^ 64 - 1)

tokens_formed : (s : ℕ) (t x : List ℕ) → all (λ w. leb (w % 256) 7) t ≡ true → all (λ k. is_utf8 k.text) (pieces 256 token_of s t x) ≡ true
    → all is_token (pieces 256 token_of s t x) ≡ true
unfolding pieces
tokens_formed s [] x k u = all_nil is_token
tokens_formed s (w ∷ t) x k u =
    let p = all_cons (λ w. leb (w % 256) 7) w t k in
    let q = all_cons (λ (m : Token). is_utf8 m.text) (token_of w (part s (w / 256) x)) (pieces 256 token_of (w / 256) t x) u in
    all_and is_token (token_of w (part s (w / 256) x)) (pieces 256 token_of (w / 256) t x) (one p.0 q.0) (tokens_formed (w / 256) t x p.1 q.1)
  where
    one : leb (w % 256) 7 ≡ true → is_utf8 (part s (w / 256) x) ≡ true → is_token (token_of w (part s (w / 256) x)) ≡ true
    one h g = unfold is_token in both h g

-- a line whose indent and tokens are within their bounds
abbrev is_body : Line → Bool
is_body l = leb l.indent 255 && all is_token l.tokens

part_formed : (a e : ℕ) (ts : List Token) → all is_token ts ≡ true → all is_token (part a e ts) ≡ true
part_formed a e ts h = (all_halves is_token (e - a) (drop a ts) (all_halves is_token a ts h).1).0

bodies_formed : (s : ℕ) (l : List ℕ) (ts : List Token) → all is_token ts ≡ true → all is_body (pieces 512 line_of s l ts) ≡ true
unfolding pieces
bodies_formed s [] ts h = all_nil is_body
bodies_formed s (w ∷ l) ts h =
    all_and is_body (line_of w (part s (w / 512) ts)) (pieces 512 line_of (w / 512) l ts) (both (le-leb (w % 256) 255 (omega arith)) (part_formed s (w / 512) ts h)) (bodies_formed (w / 512) l ts h)

address_formed : (w v : ℕ) → is_word v ≡ true → is_address (address_of w v) ≡ true
address_formed w v h = go (eqb (w / 256 % 2) 1)
  where
    go : (b : Bool) → is_address (cond b (Some v) None) ≡ true
    go true = unfold is_address in h
    go false = unfold is_address in refl

lines_formed : (l a : List ℕ) (L : List Line) → all is_word a ≡ true → all is_body L ≡ true → is_listing (with_addresses l a L) ≡ true
unfolding with_addresses
lines_formed [] a L h k = all_nil is_line
lines_formed (w ∷ l) [] L h k = all_nil is_line
lines_formed (w ∷ l) (v ∷ a) [] h k = all_nil is_line
lines_formed (w ∷ l) (v ∷ a) (m ∷ L) h k =
    let p = all_cons is_word v a h in
    let q = all_cons is_body m L k in
    all_and is_line _ (with_addresses l a L) (one p.0 q.0) (lines_formed l a L p.1 q.1)
  where
    one : is_word v ≡ true → is_body m ≡ true → is_line (record { address = address_of w v; indent = m.indent; tokens = m.tokens }) ≡ true
    one h g = unfold is_line in both (address_formed w v h) g

pub listing_formed : (l a t x : List ℕ) → all is_word a ≡ true → all (λ w. leb (w % 256) 7) t ≡ true → all (λ k. is_utf8 k.text) (token_list t x) ≡ true
    → is_listing (with_addresses l a (listing l t x)) ≡ true
listing_formed l a t x h k u = lines_formed l a (listing l t x) h (bodies_formed 0 l (token_list t x) (tokens_formed 0 t x k u))
