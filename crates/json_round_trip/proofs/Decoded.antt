-- The columns of a listing stand for it.
--   words_formed    its address words have 64 bits
--   listing_back    the columns' listing is the listing they were made of
-- Assumes nothing.
use Rattle.std.specs.Prelude.{if◌then◌else◌, Option, None, Some}
use Prim.Native.Nat.{ℕ, ◌+◌, ◌*◌, ◌-◌, ◌/◌, ◌%◌, ◌≤◌}
use mathlib.Core.Path.{◌≡◌, refl, ap, ◌∙◌}
use mathlib.Core.Bool.{true}
use mathlib.Core.Logic.{◌⊎◌, inl, inr}
use mathlib.Core.List.{List, [], ◌∷◌, ◌++◌, map, append_assoc, append-nil}
use native.Mathlib.Omega.{arith}
use borrow.Author.Tests.{leb-true}
use lib.Dec.{leb}
use lib.ListN.{length, length-append}
use lib.Seq.{take_at, drop_at}
use Rattle.definitions.specs.Lists.{all, part, concat, is_some, or_else}
use Rattle.definitions.specs.Utf8.{is_utf8}
use Rattle.definitions.specs.Model.{Token, Line, tok, pseudo_line, text}
use Rattle.definitions.specs.Columns.{pieces, token_of, line_of, token_list, listing, address_of, with_addresses, token_words_from, line_words_from, all_tokens, line_words, address_words, token_words, text_bytes}
use Rattle.loop_theory.proofs.Cases.{and_split}
use Rattle.loop_theory.proofs.AnyAll.{all_nil, all_and, all_cons, all_append}
use Rattle.json_definitions.specs.Listings.{is_token, is_address, is_line, is_listing}
use Rattle.json_round_trip.proofs.Columns.{is_word}

-- What is within its bounds

kind_small : (t : Token) → is_token t ≡ true → t.kind ≤ 7
unfolding is_token
kind_small t h = leb-true t.kind 7 (and_split (leb t.kind 7) (is_utf8 t.text) h).0

module _ (l : Line) (h : is_line l ≡ true) where
  line_address : is_address l.address ≡ true
  unfolding is_line
  line_address = (and_split (is_address l.address) _ h).0

  indent_small : l.indent ≤ 255
  unfolding is_line
  indent_small = leb-true l.indent 255 (and_split (leb l.indent 255) _ (and_split (is_address l.address) _ h).1).0

  tokens_are : all is_token l.tokens ≡ true
  unfolding is_line
  tokens_are = (and_split (leb l.indent 255) _ (and_split (is_address l.address) _ h).1).1

all_tokens_are : (L : List Line) → is_listing L ≡ true → all is_token (all_tokens L) ≡ true
unfolding concat
all_tokens_are [] h = all_nil is_token
all_tokens_are (l ∷ L) h = let p = all_cons is_line l L h in all_append is_token l.tokens (all_tokens L) (tokens_are l p.0) (all_tokens_are L p.1)

address_word : (a : Option ℕ) → is_address a ≡ true → is_word (or_else a 0) ≡ true
unfolding is_address
address_word None h = refl
address_word (Some v) h = h

pub words_formed : (L : List Line) → is_listing L ≡ true → all is_word (address_words L) ≡ true
words_formed [] h = all_nil is_word
words_formed (l ∷ L) h = let p = all_cons is_line l L h in all_and is_word (or_else l.address 0) (address_words L) (address_word l.address (line_address l p.0)) (words_formed L p.1)

-- A piece that stands between others

between : {A : Type 0} (P u R : List A) (s e : ℕ) → length P ≡ s → e ≡ s + length u → part s e (P ++ (u ++ R)) ≡ u
between P u R s e h q =
    let z : length u ≡ e - s = omega arith in
    rw (drop_at P (u ++ R) s h) (take_at u R (e - s) z)

-- Tokens

tokens_back : (P : List ℕ) (ts : List Token) (R : List ℕ) (s : ℕ) → length P ≡ s → all is_token ts ≡ true → pieces 256 token_of s (token_words_from s ts) (P ++ (text ts ++ R)) ≡ ts
unfolding pieces token_words_from text
tokens_back P [] R s h k = refl
tokens_back P (t ∷ ts) R s h k = step (kind_small t p.0) (tokens_back (P ++ t.text) ts R (s + length t.text) (length-append P t.text ∙ ap (λ (n : ℕ). n + length t.text) h) p.1)
  where
    p : (is_token t ≡ true) × (all is_token ts ≡ true)
    p = all_cons is_token t ts k

    w : ℕ
    w = (s + length t.text) * 256 + t.kind

    step : t.kind ≤ 7 → pieces 256 token_of (s + length t.text) (token_words_from (s + length t.text) ts) ((P ++ t.text) ++ (text ts ++ R)) ≡ ts
        → tok (part s (w / 256) (P ++ ((t.text ++ text ts) ++ R))) (w % 256) ∷ pieces 256 token_of (w / 256) (token_words_from (s + length t.text) ts) (P ++ ((t.text ++ text ts) ++ R)) ≡ t ∷ ts
    step g ih =
        let a : w / 256 ≡ s + length t.text = omega arith in
        let b : w % 256 ≡ t.kind = omega arith in
        let c : part s (s + length t.text) (P ++ (t.text ++ (text ts ++ R))) ≡ t.text = between P t.text (text ts ++ R) s (s + length t.text) h refl in
        rw (a, b, append_assoc t.text (text ts) R, c) (ap (λ (r : List Token). t ∷ r) (rw (append_assoc P t.text (text ts ++ R)) at ih))

-- Lines

abbrev bare : Line → Line
bare l = pseudo_line None l.indent l.tokens

abbrev flag : Option ℕ → ℕ
flag a = if is_some a then 256 else 0

flags : (a : Option ℕ) → (flag a ≡ 0) ⊎ (flag a ≡ 256)
flags None = inl refl
flags (Some v) = inr refl

lines_back : (P : List Token) (L : List Line) (R : List Token) (s : ℕ) → length P ≡ s → is_listing L ≡ true → pieces 512 line_of s (line_words_from s L) (P ++ (all_tokens L ++ R)) ≡ map bare L
unfolding pieces line_words_from concat
lines_back P [] R s h k = refl
lines_back P (l ∷ L) R s h k =
    step (flag l.address) (flags l.address) (indent_small l p.0)
    (lines_back (P ++ l.tokens) L R (s + length l.tokens) (length-append P l.tokens ∙ ap (λ (n : ℕ). n + length l.tokens) h) p.1)
  where
    p : (is_line l ≡ true) × (is_listing L ≡ true)
    p = all_cons is_line l L k

    step : (f : ℕ) → (f ≡ 0) ⊎ (f ≡ 256) → l.indent ≤ 255
        → pieces 512 line_of (s + length l.tokens) (line_words_from (s + length l.tokens) L) ((P ++ l.tokens) ++ (all_tokens L ++ R)) ≡ map bare L
        → pseudo_line None (((s + length l.tokens) * 512 + f + l.indent) % 256) (part s (((s + length l.tokens) * 512 + f + l.indent) / 512) (P ++ ((l.tokens ++ all_tokens L) ++ R)))
        ∷ pieces 512 line_of (((s + length l.tokens) * 512 + f + l.indent) / 512) (line_words_from (s + length l.tokens) L) (P ++ ((l.tokens ++ all_tokens L) ++ R)) ≡ bare l ∷ map bare L
    step f q g ih =
        let a : ((s + length l.tokens) * 512 + f + l.indent) / 512 ≡ s + length l.tokens = elim q [ inl z ↦ omega arith | inr z ↦ omega arith ] in
        let b : ((s + length l.tokens) * 512 + f + l.indent) % 256 ≡ l.indent = elim q [ inl z ↦ omega arith | inr z ↦ omega arith ] in
        let c : part s (s + length l.tokens) (P ++ (l.tokens ++ (all_tokens L ++ R))) ≡ l.tokens = between P l.tokens (all_tokens L ++ R) s (s + length l.tokens) h refl in
        rw (a, b, append_assoc l.tokens (all_tokens L) R, c) (ap (λ (r : List Line). bare l ∷ r) (rw (append_assoc P l.tokens (all_tokens L ++ R)) at ih))

address_back : (a : Option ℕ) (e i : ℕ) → i ≤ 255 → address_of (e * 512 + (if is_some a then 256 else 0) + i) (or_else a 0) ≡ a
address_back None e i h = let z : (e * 512 + 0 + i) / 256 % 2 ≡ 0 = omega arith in rw z
address_back (Some v) e i h = let z : (e * 512 + 256 + i) / 256 % 2 ≡ 1 = omega arith in rw z

addresses_back : (s : ℕ) (L : List Line) → is_listing L ≡ true → with_addresses (line_words_from s L) (address_words L) (map bare L) ≡ L
unfolding with_addresses line_words_from
addresses_back s [] h = refl
addresses_back s (l ∷ L) h =
    let p = all_cons is_line l L h in
    step (address_back l.address (s + length l.tokens) l.indent (indent_small l p.0)) (addresses_back (s + length l.tokens) L p.1)
  where
    step : address_of ((s + length l.tokens) * 512 + (if is_some l.address then 256 else 0) + l.indent) (or_else l.address 0) ≡ l.address
        → with_addresses (line_words_from (s + length l.tokens) L) (address_words L) (map bare L) ≡ L
        → pseudo_line (address_of ((s + length l.tokens) * 512 + (if is_some l.address then 256 else 0) + l.indent) (or_else l.address 0)) l.indent l.tokens
        ∷ with_addresses (line_words_from (s + length l.tokens) L) (address_words L) (map bare L) ≡ l ∷ L
    step q r = rw (q, r)

pub listing_back : (L : List Line) → is_listing L ≡ true → with_addresses (line_words L) (address_words L) (listing (line_words L) (token_words L) (text_bytes L)) ≡ L
listing_back L h =
    let t : token_list (token_words L) (text_bytes L) ≡ all_tokens L = rw append-nil at (tokens_back [] (all_tokens L) [] 0 refl (all_tokens_are L h)) in
    let l : pieces 512 line_of 0 (line_words L) (all_tokens L) ≡ map bare L = rw append-nil at (lines_back [] L [] 0 refl h) in
    rw (t, l) (addresses_back 0 L h)
