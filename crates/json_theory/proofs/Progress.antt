-- A parser leaves no more than it was given, and `character` less: the bounds in the definition are never met.
--   character_rest     less is left behind a character
--   literal_rest, lexeme_rest, token_rest, line_rest, array_rest    no more is left behind the others
-- Assumes nothing.
use Rattle.std.specs.Prelude.{Option, None, Some}
use Prim.Native.Nat.{ℕ, zero, suc, ◌+◌, ◌*◌, ◌-◌, ◌^◌, ◌≤◌, ◌<◌}
use native.Mathlib.Nat.{le_refl}
use mathlib.Core.Path.{◌≡◌, ap}
use mathlib.Core.Bool.{Bool, true, false, cond}
use mathlib.Core.List.{List, [], ◌∷◌, ◌++◌}
use native.Mathlib.Omega.{arith}
use lib.ListN.{length}
use lib.Dec.{eqb, leb, ltb}
use Rattle.definitions.specs.Lists.{ascii}
use Rattle.definitions.specs.Utf8.{Range, within, following}
use Rattle.definitions.specs.Model.{Token, Line, tok, pseudo_line}
use Rattle.json_definitions.specs.Parser.{Got, got, Parser, pure, after, ◌>>=◌, ◌>>◌, literal, skip_white_space, is_white_space, lexeme, elements, array}
use Rattle.json_definitions.specs.Strings.{in_ranges, code_point, unescaped, character, escape, short_escape, code_unit, low_surrogate, hex_4, hex_digit, hex_value, encode, characters, string}
use Rattle.json_definitions.specs.Reader.{member, one_of, kind, kinds, token_kind, token, Head, head, line_indent, address, number, whole_number, digits, at_most, is_digit, line}
use Rattle.json_theory.specs.Steps.{elements_from, items}
use Rattle.json_theory.proofs.Results.{never, same_got, after_some, or_some, either, rest_of}

-- Strings

in_ranges_rest : (rs : List Range) (s : List ℕ) (g : Got (List ℕ)) → in_ranges rs s ≡ Some g → length g.rest ≤ length s
unfolding in_ranges
in_ranges_rest [] s g e = let z = rest_of [] s g e in omega arith
in_ranges_rest (r ∷ rs) [] g e = never g e
in_ranges_rest (r ∷ rs) (b ∷ s) g e =
    either (within r.low r.high b) (after (in_ranges rs s) (λ bs. pure (b ∷ bs))) None g (length g.rest ≤ suc (length s))
    (λ q. let a = after_some (in_ranges rs s) _ g q in let h = in_ranges_rest rs s a.0 a.1 in let z = rest_of (b ∷ a.0.value) a.0.rest g a.2 in omega arith)
    (λ q. never g q) e

code_point_rest : (a : ℕ) (s : List ℕ) (g : Got (List ℕ)) → code_point (a ∷ s) ≡ Some g → length g.rest ≤ length s
unfolding code_point
code_point_rest a s g e = go (following a) e
  where
    go : (o : Option (List Range)) → elim o [ None ↦ None | Some rs ↦ after (in_ranges rs s) (λ bs. pure (a ∷ bs)) ] ≡ Some g → length g.rest ≤ length s
    go None e = never g e
    go (Some rs) e = let b = after_some (in_ranges rs s) _ g e in let h = in_ranges_rest rs s b.0 b.1 in let z = rest_of (a ∷ b.0.value) b.0.rest g b.2 in omega arith

hex_digit_rest : (s : List ℕ) (g : Got ℕ) → hex_digit s ≡ Some g → length g.rest ≤ length s
unfolding hex_digit
hex_digit_rest [] g e = never g e
hex_digit_rest (c ∷ s) g e = either (ltb (hex_value c) 16) (got (hex_value c) s) None g (length g.rest ≤ suc (length s)) (λ q. let z = rest_of (hex_value c) s g q in omega arith) (λ q. never g q) e

hex_4_rest : (s : List ℕ) (g : Got ℕ) → hex_4 s ≡ Some g → length g.rest ≤ length s
unfolding hex_4
hex_4_rest s g e =
    let a = after_some (hex_digit s) _ g e in
    let b = after_some (hex_digit a.0.rest) _ g a.2 in
    let c = after_some (hex_digit b.0.rest) _ g b.2 in
    let d = after_some (hex_digit c.0.rest) _ g c.2 in
    let a' = hex_digit_rest s a.0 a.1 in
    let b' = hex_digit_rest a.0.rest b.0 b.1 in
    let c' = hex_digit_rest b.0.rest c.0 c.1 in
    let d' = hex_digit_rest c.0.rest d.0 d.1 in
    let q = ap (λ (x : Got ℕ). length x.rest) (same_got _ g d.2) in
    omega arith

pub literal_rest : (w s : List ℕ) (g : Got (Unit {0})) → literal w s ≡ Some g → length g.rest + length w ≤ length s
unfolding literal
literal_rest [] s g e = let q = ap (λ (x : Got (Unit {0})). length x.rest) (same_got _ g e) in omega arith
literal_rest (a ∷ w) [] g e = never g e
literal_rest (a ∷ w) (c ∷ s) g e = go (eqb c a) e (λ q. literal_rest w s g q)
  where
    go : (b : Bool) → cond b (literal w s) None ≡ Some g → (literal w s ≡ Some g → length g.rest + length w ≤ length s) → length g.rest + suc (length w) ≤ suc (length s)
    go true e ih = omega (arith, ih e)
    go false e ih = never g e

code_unit_rest : (u : ℕ) (s : List ℕ) (g : Got (List ℕ)) → code_unit u s ≡ Some g → length g.rest ≤ length s
unfolding code_unit
code_unit_rest u s g e = either (within 55296 57343 u) (cond (leb u 56319) ((literal (92 ∷ 117 ∷ []) >> (hex_4 >>= low_surrogate u)) s) None) (got (encode u) s) g (length g.rest ≤ length s) (λ q. either (leb u 56319) ((literal (92 ∷ 117 ∷ []) >> (hex_4 >>= low_surrogate u)) s) None g (length g.rest ≤ length s) pair (λ q. never g q) q) (λ q. let z = ap (λ (x : Got (List ℕ)). length x.rest) (same_got _ g q) in omega arith) e
  where
    pair : (literal (92 ∷ 117 ∷ []) >> (hex_4 >>= low_surrogate u)) s ≡ Some g → length g.rest ≤ length s
    pair q =
        let a = after_some (literal (92 ∷ 117 ∷ []) s) _ g q in
        let b = after_some (hex_4 a.0.rest) _ g a.2 in
        let a' = literal_rest (92 ∷ 117 ∷ []) s a.0 a.1 in
        let b' = hex_4_rest a.0.rest b.0 b.1 in
        let c' : length g.rest ≤ length b.0.rest = unfold low_surrogate in either (within 0xdc00 0xdfff b.0.value) (got (encode (0x10000 + (u - 0xd800) * 1024 + (b.0.value - 0xdc00))) b.0.rest) None g (length g.rest ≤ length b.0.rest) (λ q. let z = rest_of _ b.0.rest g q in omega arith) (λ q. never g q) b.2 in
        omega arith

escape_rest : (s : List ℕ) (g : Got (List ℕ)) → escape s ≡ Some g → length g.rest ≤ length s
unfolding escape
escape_rest [] g e = never g e
escape_rest (c ∷ s) g e = either (eqb c 117) ((hex_4 >>= code_unit) s) (cond (eqb (short_escape c) 0) None (got (short_escape c ∷ []) s)) g (length g.rest ≤ suc (length s)) long (λ q. either (eqb (short_escape c) 0) None (got (short_escape c ∷ []) s) g (length g.rest ≤ suc (length s)) (λ q. never g q) (λ q. let z = ap (λ (x : Got (List ℕ)). length x.rest) (same_got _ g q) in omega arith) q) e
  where
    long : (hex_4 >>= code_unit) s ≡ Some g → length g.rest ≤ suc (length s)
    long q =
        let a = after_some (hex_4 s) _ g q in
        let a' = hex_4_rest s a.0 a.1 in
        let b' = code_unit_rest a.0.value a.0.rest g a.2 in
        omega arith

pub character_rest : (s : List ℕ) (g : Got (List ℕ)) → character s ≡ Some g → length g.rest < length s
unfolding character unescaped
character_rest [] g e = never g e
character_rest (c ∷ s) g e =
    let h : length g.rest ≤ length s = either (eqb c 92) (escape s) (cond (ltb c 32) None (code_point (c ∷ s))) g (length g.rest ≤ length s) (escape_rest s g) (λ q. either (ltb c 32) None (code_point (c ∷ s)) g (length g.rest ≤ length s) (λ q. never g q) (code_point_rest c s g) q) e in
    omega arith

-- Tokens and lines

skip_white_space_rest : (s : List ℕ) → length (skip_white_space s) ≤ length s
unfolding skip_white_space
skip_white_space_rest [] = le_refl 0
skip_white_space_rest (c ∷ s) = go (is_white_space c) (skip_white_space_rest s)
  where
    go : (b : Bool) → length (skip_white_space s) ≤ length s → length (cond b (skip_white_space s) (c ∷ s)) ≤ suc (length s)
    go true h = omega arith
    go false h = le_refl (suc (length s))

pub lexeme_rest : (w s : List ℕ) (g : Got (Unit {0})) → lexeme w s ≡ Some g → length g.rest + length w ≤ length s
unfolding lexeme
lexeme_rest w s g e = let a = literal_rest w (skip_white_space s) g e in let b = skip_white_space_rest s in omega arith

characters_rest : (n : ℕ) (s : List ℕ) (g : Got (List ℕ)) → characters n s ≡ Some g → length g.rest ≤ length s
unfolding characters
characters_rest zero s g e = never g e
characters_rest (suc n) s g e =
    or_some (after (literal (34 ∷ []) s) (λ _. pure [])) (character >>= (λ u. characters n >>= (λ us. pure (u ++ us)))) s g (length g.rest ≤ length s)
    (λ q. let a = after_some (literal (34 ∷ []) s) _ g q in let b = literal_rest (34 ∷ []) s a.0 a.1 in let c = rest_of [] a.0.rest g a.2 in omega arith)
    (λ q. let a = after_some (character s) _ g q in let b = after_some (characters n a.0.rest) _ g a.2 in let a' = character_rest s a.0 a.1 in
    let b' = characters_rest n a.0.rest b.0 b.1 in let c = rest_of (a.0.value ++ b.0.value) b.0.rest g b.2 in omega arith)
    e

string_rest : (s : List ℕ) (g : Got (List ℕ)) → string s ≡ Some g → length g.rest ≤ length s
unfolding string
string_rest s g e = let a = after_some (lexeme (34 ∷ []) s) _ g e in let b = lexeme_rest (34 ∷ []) s a.0 a.1 in let c = characters_rest (length a.0.rest) a.0.rest g a.2 in omega arith

one_of_rest : (k : ℕ) (ws : List (List ℕ)) (s : List ℕ) (g : Got ℕ) → one_of k ws s ≡ Some g → length g.rest ≤ length s
unfolding one_of
one_of_rest k [] s g e = never g e
one_of_rest k (w ∷ ws) s g e =
    or_some (after (lexeme w s) (λ _. pure k)) (one_of (suc k) ws) s g (length g.rest ≤ length s)
    (λ q. let a = after_some (lexeme w s) _ g q in let b = lexeme_rest w s a.0 a.1 in let c = rest_of k a.0.rest g a.2 in omega arith)
    (λ q. one_of_rest (suc k) ws s g q) e

member_rest : (c w s : List ℕ) (g : Got (Unit {0})) → member c w s ≡ Some g → length g.rest ≤ length s
unfolding member
member_rest c w s g e =
    let a = after_some (lexeme c s) _ g e in
    let b = after_some (lexeme w a.0.rest) _ g a.2 in
    let x = lexeme_rest c s a.0 a.1 in
    let y = lexeme_rest w a.0.rest b.0 b.1 in
    let z = lexeme_rest (ascii ":") b.0.rest g b.2 in
    omega arith

token_kind_rest : (s : List ℕ) (g : Got ℕ) → token_kind s ≡ Some g → length g.rest ≤ length s
unfolding token_kind
token_kind_rest s g e =
    let c = after_some (member (ascii ",") (ascii "\"k\"") s) _ g e in
    let d = after_some (kind c.0.rest) _ g c.2 in
    let f = after_some (lexeme (ascii "}") d.0.rest) _ g d.2 in
    let c' = member_rest (ascii ",") (ascii "\"k\"") s c.0 c.1 in
    let d' : length d.0.rest ≤ length c.0.rest = unfold kind in one_of_rest 0 kinds c.0.rest d.0 d.1 in
    let f' = lexeme_rest (ascii "}") d.0.rest f.0 f.1 in
    let z = rest_of d.0.value f.0.rest g f.2 in
    omega arith

pub token_rest : (s : List ℕ) (g : Got Token) → token s ≡ Some g → length g.rest ≤ length s
unfolding token
token_rest s g e =
    let a = after_some (member (ascii "{") (ascii "\"t\"") s) _ g e in
    let b = after_some (string a.0.rest) _ g a.2 in
    let c = after_some (token_kind b.0.rest) _ g b.2 in
    let a' = member_rest (ascii "{") (ascii "\"t\"") s a.0 a.1 in
    let b' = string_rest a.0.rest b.0 b.1 in
    let c' = token_kind_rest b.0.rest c.0 c.1 in
    let z = rest_of (tok b.0.value c.0.value) c.0.rest g c.2 in
    omega arith

digits_rest : (s : List ℕ) (v : ℕ) → length (digits v s).rest ≤ length s
unfolding digits
digits_rest [] v = le_refl 0
digits_rest (c ∷ s) v = go (is_digit c) (digits_rest s (v * 10 + (c - 48)))
  where
    go : (b : Bool) → length (digits (v * 10 + (c - 48)) s).rest ≤ length s → length (cond b (digits (v * 10 + (c - 48)) s) (record { value = v; rest = c ∷ s })).rest ≤ suc (length s)
    go true h = omega arith
    go false h = le_refl (suc (length s))

whole_number_rest : (m : ℕ) (s : List ℕ) (g : Got ℕ) → whole_number m s ≡ Some g → length g.rest ≤ length s
unfolding whole_number at_most
whole_number_rest m [] g e = never g e
whole_number_rest m (c ∷ s) g e =
    either (eqb c 48) (got 0 s) (cond (is_digit c) (at_most m (digits (c - 48) s)) None) g (length g.rest ≤ suc (length s)) (λ q. let z = rest_of 0 s g q in omega arith)
    (λ q. either (is_digit c) (at_most m (digits (c - 48) s)) None g (length g.rest ≤ suc (length s)) (λ q. much q) (λ q. never g q) q) e
  where
    much : at_most m (digits (c - 48) s) ≡ Some g → length g.rest ≤ suc (length s)
    much q = either (leb (digits (c - 48) s).value m) (Some (digits (c - 48) s)) None g (length g.rest ≤ suc (length s)) (λ q. let z = ap (λ (y : Got ℕ). length y.rest) (same_got _ g q) in let d = digits_rest s (c - 48) in omega arith) (λ q. never g q) q

number_rest : (m : ℕ) (s : List ℕ) (g : Got ℕ) → number m s ≡ Some g → length g.rest ≤ length s
unfolding number
number_rest m s g e = let a = whole_number_rest m (skip_white_space s) g e in let b = skip_white_space_rest s in omega arith

address_rest : (s : List ℕ) (g : Got (Option ℕ)) → address s ≡ Some g → length g.rest ≤ length s
unfolding address
address_rest s g e =
    or_some (after (lexeme (ascii "null") s) (λ _. pure None)) (number (2 ^ 64 - 1) >>= (λ v. pure (Some v))) s g (length g.rest ≤ length s)
    (λ q. let a = after_some (lexeme (ascii "null") s) _ g q in let b = lexeme_rest (ascii "null") s a.0 a.1 in let c = rest_of None a.0.rest g a.2 in omega arith)
    (λ q. let a = after_some (number (2 ^ 64 - 1) s) _ g q in let b = number_rest (2 ^ 64 - 1) s a.0 a.1 in let c = rest_of (Some a.0.value) a.0.rest g a.2 in omega arith) e

line_indent_rest : (s : List ℕ) (g : Got ℕ) → line_indent s ≡ Some g → length g.rest ≤ length s
unfolding line_indent
line_indent_rest s g e =
    let c = after_some (member (ascii ",") (ascii "\"indent\"") s) _ g e in
    let d = after_some (number 255 c.0.rest) _ g c.2 in
    let f = after_some (member (ascii ",") (ascii "\"tokens\"") d.0.rest) _ g d.2 in
    let c' = member_rest (ascii ",") (ascii "\"indent\"") s c.0 c.1 in
    let d' = number_rest 255 c.0.rest d.0 d.1 in
    let f' = member_rest (ascii ",") (ascii "\"tokens\"") d.0.rest f.0 f.1 in
    let z = rest_of d.0.value f.0.rest g f.2 in
    omega arith

head_rest : (s : List ℕ) (g : Got Head) → head s ≡ Some g → length g.rest ≤ length s
unfolding head
head_rest s g e =
    let a = after_some (member (ascii "{") (ascii "\"address\"") s) _ g e in
    let b = after_some (address a.0.rest) _ g a.2 in
    let c = after_some (line_indent b.0.rest) _ g b.2 in
    let a' = member_rest (ascii "{") (ascii "\"address\"") s a.0 a.1 in
    let b' = address_rest a.0.rest b.0 b.1 in
    let c' = line_indent_rest b.0.rest c.0 c.1 in
    let z = rest_of (record { address = b.0.value; indent = c.0.value }) c.0.rest g c.2 in
    omega arith

module _ {A : Type 0} (p : Parser A) (shorter : (s : List ℕ) (g : Got A) → p s ≡ Some g → length g.rest ≤ length s) where
  elements_rest : (n : ℕ) (s : List ℕ) (g : Got (List A)) → elements p n s ≡ Some g → length g.rest ≤ length s
  unfolding elements
  elements_rest zero s g e = never g e
  elements_rest (suc n) s g e =
      or_some (after (lexeme (93 ∷ []) s) (λ _. pure [])) (lexeme (44 ∷ []) >> (p >>= (λ x. elements p n >>= (λ xs. pure (x ∷ xs))))) s g (length g.rest ≤ length s)
      (λ q. let a = after_some (lexeme (93 ∷ []) s) _ g q in let b = lexeme_rest (93 ∷ []) s a.0 a.1 in let c = rest_of [] a.0.rest g a.2 in omega arith)
      (λ q. let a = after_some (lexeme (44 ∷ []) s) _ g q in let b = after_some (p a.0.rest) _ g a.2 in let c = after_some (elements p n b.0.rest) _ g b.2 in
      let a' = lexeme_rest (44 ∷ []) s a.0 a.1 in let b' = shorter a.0.rest b.0 b.1 in let c' = elements_rest n b.0.rest c.0 c.1 in
      let z = rest_of (b.0.value ∷ c.0.value) c.0.rest g c.2 in omega arith) e

  items_rest : (s : List ℕ) (g : Got (List A)) → items p s ≡ Some g → length g.rest ≤ length s
  unfolding items elements_from
  items_rest s g e =
      let b = after_some (p s) _ g e in
      let c = after_some (elements p (suc (length b.0.rest)) b.0.rest) _ g b.2 in
      let b' = shorter s b.0 b.1 in
      let c' = elements_rest (suc (length b.0.rest)) b.0.rest c.0 c.1 in
      let z = rest_of (b.0.value ∷ c.0.value) c.0.rest g c.2 in
      omega arith

  pub array_rest : (s : List ℕ) (g : Got (List A)) → array p s ≡ Some g → length g.rest ≤ length s
  unfolding array items elements_from
  array_rest s g e =
      let a = after_some (lexeme (91 ∷ []) s) _ g e in
      let a' = lexeme_rest (91 ∷ []) s a.0 a.1 in
      let t = a.0.rest in
      let h : length g.rest ≤ length t =
      or_some (after (lexeme (93 ∷ []) t) (λ _. pure [])) (items p) t g (length g.rest ≤ length t)
      (λ q. let b = after_some (lexeme (93 ∷ []) t) _ g q in let b' = lexeme_rest (93 ∷ []) t b.0 b.1 in let c = rest_of [] b.0.rest g b.2 in omega arith)
      (λ q. items_rest t g q) a.2 in
      omega arith

pub line_rest : (s : List ℕ) (g : Got Line) → line s ≡ Some g → length g.rest ≤ length s
unfolding line
line_rest s g e =
    let a = after_some (head s) _ g e in
    let b = after_some (array token a.0.rest) _ g a.2 in
    let c = after_some (lexeme (ascii "}") b.0.rest) _ g b.2 in
    let a' = head_rest s a.0 a.1 in
    let b' = array_rest token token_rest a.0.rest b.0 b.1 in
    let c' = lexeme_rest (ascii "}") b.0.rest c.0 c.1 in
    let z = rest_of (pseudo_line a.0.value.address a.0.value.indent b.0.value) c.0.rest g c.2 in
    omega arith
