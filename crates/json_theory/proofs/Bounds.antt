-- What the numbers of an answer are below.
--   hex_digit_below, hex_4_below           hexadecimal digits
--   one_of_below, token_kind_below         kinds
--   whole_number_below, head_below         whole numbers, indents
-- Assumes nothing.
use Rattle.std.specs.Prelude.{Option, None, Some}
use Prim.Native.Nat.{ℕ, suc, ◌+◌, ◌*◌, ◌-◌, ◌≤◌, ◌<◌}
use mathlib.Core.Path.{◌≡◌, refl, ap}
use mathlib.Core.Bool.{Bool, true, false, cond}
use mathlib.Core.List.{List, [], ◌∷◌}
use native.Mathlib.Omega.{arith}
use borrow.Author.Tests.{leb-true, ltb-true}
use lib.Dec.{eqb, leb, ltb}
use lib.ListN.{length}
use Rattle.definitions.specs.Lists.{ascii}
use Rattle.json_definitions.specs.Parser.{Got, got, pure, after, or_try, lexeme, skip_white_space}
use Rattle.json_definitions.specs.Strings.{hex_value, hex_digit, hex_4}
use Rattle.json_definitions.specs.Reader.{is_digit, digits, at_most, whole_number, number, address, one_of, kind, kinds, member, token_kind, line_indent, Head, head}
use Rattle.json_theory.proofs.Results.{never, same_got, after_some}

pub hex_digit_below : (t : List ℕ) (g : Got ℕ) → hex_digit t ≡ Some g → g.value < 16
unfolding hex_digit
hex_digit_below [] g e = never g e
hex_digit_below (c ∷ t) g e = go (ltb (hex_value c) 16) refl e
  where
    go : (b : Bool) → ltb (hex_value c) 16 ≡ b → cond b (got (hex_value c) t) None ≡ Some g → g.value < 16
    go true q e = let z : record { value = hex_value c; rest = t } ≡ g = cc in rw (← z) (ltb-true (hex_value c) 16 q)
    go false q e = never g e

same_value : (a b : Got ℕ) → Some a ≡ Some b → a.value ≡ b.value
same_value a b e = let q : a ≡ b = cc in ap (λ (x : Got ℕ). x.value) q

pub hex_4_below : (t : List ℕ) (g : Got ℕ) → hex_4 t ≡ Some g → g.value < 65536
unfolding hex_4
hex_4_below t g e =
    let a = after_some (hex_digit t) _ g e in
    let b = after_some (hex_digit a.0.rest) _ g a.2 in
    let c = after_some (hex_digit b.0.rest) _ g b.2 in
    let d = after_some (hex_digit c.0.rest) _ g c.2 in
    let v : a.0.value * 4096 + b.0.value * 256 + c.0.value * 16 + d.0.value ≡ g.value = same_value (record { value = a.0.value * 4096 + b.0.value * 256 + c.0.value * 16 + d.0.value; rest = d.0.rest }) g d.2 in
    let a' : a.0.value < 16 = hex_digit_below t a.0 a.1 in
    let b' : b.0.value < 16 = hex_digit_below a.0.rest b.0 b.1 in
    let c' : c.0.value < 16 = hex_digit_below b.0.rest c.0 c.1 in
    let d' : d.0.value < 16 = hex_digit_below c.0.rest d.0 d.1 in
    omega arith

pub one_of_below : (k m : ℕ) (ws : List (List ℕ)) → k + length ws ≤ m → (s : List ℕ) (g : Got ℕ) → one_of k ws s ≡ Some g → g.value < m
unfolding one_of
one_of_below k m [] h s g e = never g e
one_of_below k m (w ∷ ws) h s g e = go (lexeme w s) e (one_of_below (suc k) m ws (omega arith) s g)
  where
    go : (o : Option (Got (Unit {0}))) → or_try (after o (λ _. pure k)) (one_of (suc k) ws) s ≡ Some g → (one_of (suc k) ws s ≡ Some g → g.value < m) → g.value < m
    go None e ih = ih (unfold or_try after in e)
    go (Some h') e ih = let q : got k h'.rest ≡ Some g = unfold or_try after in e in let v = ap (λ (x : Got ℕ). x.value) (same_got _ g q) in omega arith

pub token_kind_below : (t : List ℕ) (g : Got ℕ) → token_kind t ≡ Some g → g.value ≤ 7
unfolding token_kind
token_kind_below t g e =
    let a = after_some (member (ascii ",") (ascii "\"k\"") t) _ g e in
    let b = after_some (kind a.0.rest) _ g a.2 in
    let c = after_some (lexeme (ascii "}") b.0.rest) _ g b.2 in
    let v = ap (λ (y : Got ℕ). y.value) (same_got _ g c.2) in
    let h : b.0.value < 8 = unfold kind in one_of_below 0 8 kinds (omega arith) a.0.rest b.0 b.1 in
    omega arith

pub whole_number_below : (m : ℕ) (s : List ℕ) (g : Got ℕ) → whole_number m s ≡ Some g → g.value ≤ m
unfolding whole_number at_most
whole_number_below m [] g e = never g e
whole_number_below m (c ∷ s) g e = go (eqb c 48) (is_digit c) (leb (digits (c - 48) s).value m) refl e
  where
    go : (a b d : Bool) → leb (digits (c - 48) s).value m ≡ d → cond a (got 0 s) (cond b (cond d (Some (digits (c - 48) s)) None) None) ≡ Some g → g.value ≤ m
    go true b d h e = let z = ap (λ (y : Got ℕ). y.value) (same_got _ g e) in omega arith
    go false true true h e = let z = ap (λ (y : Got ℕ). y.value) (same_got _ g e) in let k = leb-true (digits (c - 48) s).value m h in omega arith
    go false true false h e = never g e
    go false false d h e = never g e

indent_below : (t : List ℕ) (g : Got ℕ) → line_indent t ≡ Some g → g.value ≤ 255
unfolding line_indent
indent_below t g e =
    let a = after_some (member (ascii ",") (ascii "\"indent\"") t) _ g e in
    let b = after_some (number 255 a.0.rest) _ g a.2 in
    let c = after_some (member (ascii ",") (ascii "\"tokens\"") b.0.rest) _ g b.2 in
    let v = ap (λ (y : Got ℕ). y.value) (same_got _ g c.2) in
    let h : b.0.value ≤ 255 = unfold number in whole_number_below 255 (skip_white_space a.0.rest) b.0 b.1 in
    omega arith

pub head_below : (t : List ℕ) (g : Got Head) → head t ≡ Some g → g.value.indent ≤ 255
unfolding head
head_below t g e =
    let a = after_some (member (ascii "{") (ascii "\"address\"") t) _ g e in
    let b = after_some (address a.0.rest) _ g a.2 in
    let c = after_some (line_indent b.0.rest) _ g b.2 in
    let v = ap (λ (y : Got Head). y.value.indent) (same_got _ g c.2) in
    let h = indent_below b.0.rest c.0 c.1 in
    omega arith
