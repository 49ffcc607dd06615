-- The reader turns the writer's text into the listing that it came from.
--   round_trip L    for every listing L that JSON text can hold
-- Assumes nothing.
use Rattle.std.specs.Prelude.{Option, None, Some}
use Prim.Native.Nat.{ℕ, zero, suc, ◌-◌, ◌^◌, ◌≤◌, ◌<◌, zero-le}
use mathlib.Core.Path.{◌≡◌, refl}
use mathlib.Core.Bool.{Bool, true, ◌&&◌}
use mathlib.Core.List.{List, [], ◌∷◌, ◌++◌, append_assoc, append-nil}
use native.Mathlib.Omega.{arith}
use borrow.Author.Tests.{leb-true}
use lib.Dec.{leb}
use lib.ListN.{length, length-append}
use Rattle.definitions.specs.Lists.{ascii, all}
use Rattle.definitions.specs.Utf8.{is_utf8}
use Rattle.definitions.specs.Model.{Token, Line}
use Rattle.loop_theory.proofs.Cases.{and_split}
use Rattle.json_definitions.specs.Parser.{got, Parser, after, or_try, literal, skip_white_space, lexeme, array, elements}
use Rattle.json_definitions.specs.Reader.{kind, one_of, address, member, token_kind, token, head, line_indent, line, read, ended, is_empty}
use Rattle.json_definitions.specs.Writer.{kind_text, string_text, address_text, decimal, elements_text, array_text, token_text, line_text, write}
use Rattle.json_definitions.specs.Listings.{is_token, is_address, is_line, is_listing}
use Rattle.json_theory.proofs.Numbers.{number_read, number_no_lexeme}
use Rattle.json_theory.proofs.Strings.{string_read}

-- an array whose elements are read, and start with "{"
module _ {A : Type 0} (p : Parser A) (w : A → List ℕ) (ok : A → Bool)
    (reads : (x : A) → ok x ≡ true → (r : List ℕ) → p (w x ++ r) ≡ got x r)
    (opens : (x : A) (r : List ℕ) → lexeme (93 ∷ []) (w x ++ r) ≡ None) where
  count : (xs : List A) → length xs ≤ length (elements_text w xs)
  unfolding elements_text
  count [] = zero-le
  count (x ∷ xs) = rw (length-append (w x) (elements_text w xs)) (omega (arith, count xs))

  elements_read : (xs : List A) → all ok xs ≡ true → (n : ℕ) (r : List ℕ) → length xs < n → elements p n (elements_text w xs ++ r) ≡ got xs r
  unfolding elements elements_text all or_try after lexeme literal skip_white_space
  elements_read [] h zero r l = absurd (omega arith)
  elements_read [] h (suc n) r l = refl
  elements_read (x ∷ xs) h zero r l = absurd (omega arith)
  elements_read (x ∷ xs) h (suc n) r l =
      rw (
        append_assoc (w x) (elements_text w xs) r,
        reads x (and_split (ok x) (all ok xs) h).0 (elements_text w xs ++ r),
        elements_read xs (and_split (ok x) (all ok xs) h).1 n r (omega arith),
      )

  pub array_read : (xs : List A) → all ok xs ≡ true → (r : List ℕ) → array p (array_text w xs ++ r) ≡ got xs r
  unfolding array array_text all after or_try
  array_read [] h r = unfold lexeme literal skip_white_space in refl
  array_read (x ∷ xs) h r =
      let o : lexeme (91 ∷ []) (91 ∷ ((w x ++ elements_text w xs) ++ r)) ≡ got tt ((w x ++ elements_text w xs) ++ r) = unfold lexeme literal skip_white_space in refl in
      rw (
        o,
        append_assoc (w x) (elements_text w xs) r,
        opens x (elements_text w xs ++ r),
        reads x (and_split (ok x) (all ok xs) h).0 (elements_text w xs ++ r),
        elements_read xs (and_split (ok x) (all ok xs) h).1 (suc (length (elements_text w xs ++ r))) r (rw length-append (omega (arith, count xs))),
      )

kind_read : (k : ℕ) (r : List ℕ) → k ≤ 7 → kind (kind_text k ++ r) ≡ got k r
unfolding kind kind_text one_of lexeme literal skip_white_space or_try after
kind_read zero r h = refl
kind_read (suc zero) r h = refl
kind_read (suc (suc zero)) r h = refl
kind_read (suc (suc (suc zero))) r h = refl
kind_read (suc (suc (suc (suc zero)))) r h = refl
kind_read (suc (suc (suc (suc (suc zero))))) r h = refl
kind_read (suc (suc (suc (suc (suc (suc zero)))))) r h = refl
kind_read (suc (suc (suc (suc (suc (suc (suc zero))))))) r h = refl
kind_read (suc (suc (suc (suc (suc (suc (suc (suc k)))))))) r h = absurd (omega arith)

-- an address, before the comma
address_read : (a : Option ℕ) (r : List ℕ) → is_address a ≡ true → address (address_text a ++ (44 ∷ r)) ≡ got a (44 ∷ r)
unfolding address address_text is_address or_try after
address_read None r h = unfold lexeme literal skip_white_space in refl
address_read (Some v) r h =
    rw (number_no_lexeme 110 v (ascii "ull") (44 ∷ r) (omega arith), number_read (2 ^ 64 - 1) v 44 r (leb-true v (2 ^ 64 - 1) h) refl)

token_read : (t : Token) → is_token t ≡ true → (r : List ℕ) → token (token_text t ++ r) ≡ got t r
unfolding token token_kind member token_text is_token lexeme literal skip_white_space after
token_read t h r =
    rw (
      append_assoc (string_text t.text),
      string_read t.text _ (and_split (leb t.kind 7) (is_utf8 t.text) h).1,
      append_assoc (kind_text t.kind),
      kind_read t.kind _ (leb-true t.kind 7 (and_split (leb t.kind 7) (is_utf8 t.text) h).0),
    )

token_opens : (t : Token) (r : List ℕ) → lexeme (93 ∷ []) (token_text t ++ r) ≡ None
unfolding token_text lexeme literal skip_white_space
token_opens t r = refl

line_read : (l : Line) → is_line l ≡ true → (r : List ℕ) → line (line_text l ++ r) ≡ got l r
unfolding line head line_indent member line_text is_line lexeme literal skip_white_space after
line_read l h r =
    let h₁ : (leb l.indent 255 && all is_token l.tokens) ≡ true = (and_split (is_address l.address) _ h).1 in
    rw (
      append_assoc (address_text l.address),
      address_read l.address _ (and_split (is_address l.address) _ h).0,
      append_assoc (decimal l.indent),
      number_read 255 l.indent 44 _ (leb-true l.indent 255 (and_split (leb l.indent 255) _ h₁).0) refl,
      append_assoc (array_text token_text l.tokens),
      array_read token token_text is_token token_read token_opens l.tokens (and_split (leb l.indent 255) _ h₁).1,
    )

line_opens : (l : Line) (r : List ℕ) → lexeme (93 ∷ []) (line_text l ++ r) ≡ None
unfolding line_text lexeme literal skip_white_space
line_opens l r = refl

pub round_trip : (L : List Line) → is_listing L ≡ true → read (write L) ≡ Some L
unfolding read write ended is_empty skip_white_space
round_trip L h = rw (← append-nil (array_text line_text L), array_read line line_text is_line line_read line_opens L h [])
