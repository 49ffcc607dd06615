-- What is read is a listing that JSON text can hold.
--   encode_utf8       the bytes of a code point are UTF-8
--   string_formed     a string is read as UTF-8
--   read_formed       what `read` gives is a listing: kinds, UTF-8, indents and addresses are within their bounds
-- Assumes nothing.
use Rattle.std.specs.Prelude.{Option, None, Some}
use Prim.Native.Nat.{ℕ, zero, suc, ◌+◌, ◌*◌, ◌-◌, ◌/◌, ◌%◌, ◌^◌, ◌≤◌, ◌<◌}
use mathlib.Core.Path.{◌≡◌, refl, ap}
use mathlib.Core.Bool.{Bool, true, false, cond, ◌&&◌, true≢false}
use mathlib.Core.List.{List, [], ◌∷◌, ◌++◌}
use native.Mathlib.Omega.{arith}
use borrow.Author.Tests.{ne_eqb, eqb-true, le-leb, lt-leb, leb-true, leb-false, ltb-true, ltb-false}
use lib.Dec.{eqb, leb, ltb}
use lib.ListN.{length}
use Rattle.definitions.specs.Lists.{ascii, all}
use Rattle.definitions.specs.Utf8.{Range, within, following, utf8_after, is_utf8}
use Rattle.definitions.specs.Model.{Token, Line, tok, pseudo_line}
use Rattle.text.specs.CodePoint.{low, high}
use Rattle.text.proofs.CodePoints.{following_1, following_2, following_3, following_4}
use Rattle.loop_theory.proofs.Cases.{and_split}
use Rattle.loop_theory.proofs.AnyAll.{both, all_nil, all_and}
use Rattle.loop_theory.proofs.Utf8Laws.{utf8_append}
use Rattle.json_definitions.specs.Parser.{Got, got, Parser, pure, after, ◌>>=◌, ◌>>◌, literal, lexeme, skip_white_space, elements, array}
use Rattle.json_definitions.specs.Strings.{encode, in_ranges, code_point, unescaped, hex_4, low_surrogate, code_unit, short_escape, escape, character, characters, string}
use Rattle.json_definitions.specs.Reader.{number, address, token_kind, token, member, line_indent, Head, head, line, is_empty, ended, read}
use Rattle.json_definitions.specs.Listings.{is_token, is_address, is_line, is_listing}
use Rattle.json_theory.proofs.Results.{never, same_got, after_some, or_some, either}
use Rattle.json_theory.proofs.Bounds.{hex_4_below, token_kind_below, whole_number_below, head_below}

value_is : {A : Type 0} (v : A) (x : List ℕ) (g : Got A) → got v x ≡ Some g → v ≡ g.value
value_is {A} v x g e = ap (λ (y : Got A). y.value) (same_got _ g e)

-- Code points

low_utf8 : (u : ℕ) → u < 0x80 → is_utf8 (u ∷ []) ≡ true
unfolding utf8_after
low_utf8 u h = rw (following_1 u h, utf8_after)

two : (a b : ℕ) → 0xc2 ≤ a → a < 0xe0 → 0x80 ≤ b → b ≤ 0xbf → is_utf8 (a ∷ b ∷ []) ≡ true
unfolding utf8_after
two a b p q r s = rw (following_2 a p q, utf8_after) (rw (le-leb 0x80 b r, le-leb b 0xbf s))

three : (a b c : ℕ) → 0xe0 ≤ a → a < 0xf0 → low a ≤ b → b ≤ high a → 0x80 ≤ c → c ≤ 0xbf → is_utf8 (a ∷ b ∷ c ∷ []) ≡ true
unfolding utf8_after
three a b c p q r s v w = rw (following_3 a (low a) (high a) refl refl p q, utf8_after) (rw (le-leb (low a) b r, le-leb b (high a) s, le-leb 0x80 c v, le-leb c 0xbf w))

four : (a b c d : ℕ) → 0xf0 ≤ a → a < 0xf5 → low a ≤ b → b ≤ high a → 0x80 ≤ c → c ≤ 0xbf → 0x80 ≤ d → d ≤ 0xbf → is_utf8 (a ∷ b ∷ c ∷ d ∷ []) ≡ true
unfolding utf8_after
four a b c d p q r s v w y z =
    rw (following_4 a (low a) (high a) refl refl p q, utf8_after) (rw (le-leb (low a) b r, le-leb b (high a) s, le-leb 0x80 c v, le-leb c 0xbf w, le-leb 0x80 d y, le-leb d 0xbf z))

low_three : (u : ℕ) → 0x800 ≤ u → u < 0x10000 → low (0xe0 + u / 4096) ≤ 0x80 + u / 64 % 64
low_three u h k = go (eqb (0xe0 + u / 4096) 0xe0) refl
  where
    go : (b : Bool) → eqb (0xe0 + u / 4096) 0xe0 ≡ b → cond b 0xa0 (cond (eqb (0xe0 + u / 4096) 0xf0) 0x90 0x80) ≤ 0x80 + u / 64 % 64
    go true e = let z = eqb-true (0xe0 + u / 4096) 0xe0 e in omega arith
    go false e = rw (ne_eqb (0xe0 + u / 4096) 0xf0 (λ q. omega arith)) (omega arith)

high_three : (u : ℕ) → u < 0x10000 → within 0xd800 0xdfff u ≡ false → 0x80 + u / 64 % 64 ≤ high (0xe0 + u / 4096)
high_three u k s = go (eqb (0xe0 + u / 4096) 0xed) refl (leb 0xd800 u) refl (leb u 0xdfff) refl s
  where
    go : (b : Bool) → eqb (0xe0 + u / 4096) 0xed ≡ b → (p : Bool) → leb 0xd800 u ≡ p → (q : Bool) → leb u 0xdfff ≡ q → (p && q) ≡ false
        → 0x80 + u / 64 % 64 ≤ cond b 0x9f (cond (eqb (0xe0 + u / 4096) 0xf4) 0x8f 0xbf)
    go true e true f true g h = absurd (true≢false h)
    go true e true f false g h = let z = eqb-true (0xe0 + u / 4096) 0xed e in let y = leb-false u 0xdfff g in omega arith
    go true e false f q g h = let z = eqb-true (0xe0 + u / 4096) 0xed e in let y = leb-false 0xd800 u f in omega arith
    go false e p f q g h = rw (ne_eqb (0xe0 + u / 4096) 0xf4 (λ r. omega arith)) (omega arith)

low_four : (u : ℕ) → 0x10000 ≤ u → u < 0x110000 → low (0xf0 + u / 262144) ≤ 0x80 + u / 4096 % 64
low_four u h k = rw (ne_eqb (0xf0 + u / 262144) 0xe0 (λ q. omega arith)) (go (eqb (0xf0 + u / 262144) 0xf0) refl)
  where
    go : (b : Bool) → eqb (0xf0 + u / 262144) 0xf0 ≡ b → cond b 0x90 0x80 ≤ 0x80 + u / 4096 % 64
    go true e = let z = eqb-true (0xf0 + u / 262144) 0xf0 e in omega arith
    go false e = omega arith

high_four : (u : ℕ) → u < 0x110000 → 0x80 + u / 4096 % 64 ≤ high (0xf0 + u / 262144)
high_four u k = rw (ne_eqb (0xf0 + u / 262144) 0xed (λ q. omega arith)) (go (eqb (0xf0 + u / 262144) 0xf4) refl)
  where
    go : (b : Bool) → eqb (0xf0 + u / 262144) 0xf4 ≡ b → 0x80 + u / 4096 % 64 ≤ cond b 0x8f 0xbf
    go true e = let z = eqb-true (0xf0 + u / 262144) 0xf4 e in omega arith
    go false e = omega arith

pub encode_utf8 : (u : ℕ) → u < 0x110000 → within 0xd800 0xdfff u ≡ false → is_utf8 (encode u) ≡ true
encode_utf8 u h s = go (ltb u 0x80) refl (ltb u 0x800) refl (ltb u 0x10000) refl
  where
    go : (p : Bool) → ltb u 0x80 ≡ p → (q : Bool) → ltb u 0x800 ≡ q → (r : Bool) → ltb u 0x10000 ≡ r → is_utf8 (encode u) ≡ true
    go true e q f r g = unfold encode in rw e (low_utf8 u (ltb-true u 0x80 e))
    go false e true f r g =
        let a = ltb-false u 0x80 e in let b = ltb-true u 0x800 f in
        unfold encode in rw (e, f) (two (0xc0 + u / 64) (0x80 + u % 64) (omega arith) (omega arith) (omega arith) (omega arith))
    go false e false f true g =
        let a = ltb-false u 0x800 f in let b = ltb-true u 0x10000 g in
        unfold encode in rw (e, f, g) (three (0xe0 + u / 4096) (0x80 + u / 64 % 64) (0x80 + u % 64) (omega arith) (omega arith) (low_three u a b) (high_three u b s) (omega arith) (omega arith))
    go false e false f false g =
        let a = ltb-false u 0x10000 g in
        unfold encode in rw (e, f, g)
        (four (0xf0 + u / 262144) (0x80 + u / 4096 % 64) (0x80 + u / 64 % 64) (0x80 + u % 64) (omega arith) (omega arith) (low_four u a h) (high_four u h) (omega arith) (omega arith) (omega arith) (omega arith))

-- Characters

ranges_formed : (rs : List Range) (s : List ℕ) (g : Got (List ℕ)) → in_ranges rs s ≡ Some g → utf8_after rs g.value ≡ true
unfolding in_ranges
ranges_formed [] s g e = rw (← value_is [] s g e) (unfold utf8_after in refl)
ranges_formed (r ∷ rs) [] g e = never g e
ranges_formed (r ∷ rs) (b ∷ s) g e = go (within r.low r.high b) refl e (ranges_formed rs s)
  where
    go : (y : Bool) → within r.low r.high b ≡ y → cond y (after (in_ranges rs s) (λ bs. pure (b ∷ bs))) None ≡ Some g
        → ((k : Got (List ℕ)) → in_ranges rs s ≡ Some k → utf8_after rs k.value ≡ true) → utf8_after (r ∷ rs) g.value ≡ true
    go true f e ih =
        let a = after_some (in_ranges rs s) _ g e in
        rw (← value_is (b ∷ a.0.value) a.0.rest g a.2) (unfold utf8_after in both f (ih a.0 a.1))
    go false f e ih = never g e

code_point_formed : (a : ℕ) (s : List ℕ) (g : Got (List ℕ)) → code_point (a ∷ s) ≡ Some g → is_utf8 g.value ≡ true
unfolding code_point
code_point_formed a s g e = go (following a) refl e
  where
    go : (o : Option (List Range)) → following a ≡ o → elim o [ None ↦ None | Some rs ↦ after (in_ranges rs s) (λ bs. pure (a ∷ bs)) ] ≡ Some g → is_utf8 g.value ≡ true
    go None f e = never g e
    go (Some rs) f e =
        let b = after_some (in_ranges rs s) _ g e in
        rw (← value_is (a ∷ b.0.value) b.0.rest g b.2) (unfold utf8_after in rw (f, utf8_after) (ranges_formed rs s b.0 b.1))

short_formed : (c : ℕ) → is_utf8 (short_escape c ∷ []) ≡ true
unfolding short_escape utf8_after following
short_formed c =
    pick (eqb c 0x22) 0x22 _ refl (pick (eqb c 0x5c) 0x5c _ refl (pick (eqb c 0x2f) 0x2f _ refl (pick (eqb c 0x62) 0x08 _ refl
    (pick (eqb c 0x66) 0x0c _ refl (pick (eqb c 0x6e) 0x0a _ refl (pick (eqb c 0x72) 0x0d _ refl (pick (eqb c 0x74) 0x09 0 refl refl)))))))
  where
    pick : (b : Bool) (x y : ℕ) → is_utf8 (x ∷ []) ≡ true → is_utf8 (y ∷ []) ≡ true → is_utf8 (cond b x y ∷ []) ≡ true
    pick true x y h k = h
    pick false x y h k = k

abbrev paired : ℕ → ℕ → ℕ
paired u w = 0x10000 + (u - 0xd800) * 1024 + (w - 0xdc00)

surrogate_formed : (u w : ℕ) (x : List ℕ) (g : Got (List ℕ)) → 0xd800 ≤ u → u ≤ 0xdbff → low_surrogate u w x ≡ Some g → is_utf8 g.value ≡ true
unfolding low_surrogate
surrogate_formed u w x g h k e = go (leb 0xdc00 w) refl (leb w 0xdfff) refl e
  where
    go : (p : Bool) → leb 0xdc00 w ≡ p → (q : Bool) → leb w 0xdfff ≡ q → cond (p && q) (got (encode (paired u w)) x) None ≡ Some g → is_utf8 g.value ≡ true
    go true p true q e =
        let a = leb-true 0xdc00 w p in let b = leb-true w 0xdfff q in
        rw (← value_is (encode (paired u w)) x g e) (encode_utf8 (paired u w) (omega arith) (rw (le-leb 0xd800 (paired u w) (omega arith), lt-leb (paired u w) 0xdfff (omega arith))))
    go true p false q e = never g e
    go false p q r e = never g e

unit_formed : (u : ℕ) (x : List ℕ) (g : Got (List ℕ)) → u < 65536 → code_unit u x ≡ Some g → is_utf8 g.value ≡ true
unfolding code_unit
unit_formed u x g h e = go (within 0xd800 0xdfff u) refl (leb u 0xdbff) refl e
  where
    go : (p : Bool) → within 0xd800 0xdfff u ≡ p → (q : Bool) → leb u 0xdbff ≡ q
        → cond p (cond q ((literal (92 ∷ 117 ∷ []) >> (hex_4 >>= low_surrogate u)) x) None) (got (encode u) x) ≡ Some g → is_utf8 g.value ≡ true
    go true p true q e =
        let a = after_some (literal (92 ∷ 117 ∷ []) x) _ g e in
        let b = after_some (hex_4 a.0.rest) _ g a.2 in
        surrogate_formed u b.0.value b.0.rest g (leb-true 0xd800 u (and_split (leb 0xd800 u) (leb u 0xdfff) p).0) (leb-true u 0xdbff q) b.2
    go true p false q e = never g e
    go false p q r e = rw (← value_is (encode u) x g e) (encode_utf8 u (omega arith) p)

escape_formed : (s : List ℕ) (g : Got (List ℕ)) → escape s ≡ Some g → is_utf8 g.value ≡ true
unfolding escape
escape_formed [] g e = never g e
escape_formed (c ∷ s) g e =
    either (eqb c 0x75) ((hex_4 >>= code_unit) s) (cond (eqb (short_escape c) 0) None (got (short_escape c ∷ []) s)) g (is_utf8 g.value ≡ true)
    (λ q. let a = after_some (hex_4 s) _ g q in unit_formed a.0.value a.0.rest g (hex_4_below s a.0 a.1) a.2)
    (λ q. either (eqb (short_escape c) 0) None (got (short_escape c ∷ []) s) g (is_utf8 g.value ≡ true) (λ r. never g r) (λ r. rw (← value_is (short_escape c ∷ []) s g r) (short_formed c)) q) e

character_formed : (s : List ℕ) (g : Got (List ℕ)) → character s ≡ Some g → is_utf8 g.value ≡ true
unfolding character unescaped
character_formed [] g e = never g e
character_formed (c ∷ s) g e =
    either (eqb c 0x5c) (escape s) (cond (ltb c 0x20) None (code_point (c ∷ s))) g (is_utf8 g.value ≡ true) (escape_formed s g)
    (λ q. either (ltb c 0x20) None (code_point (c ∷ s)) g (is_utf8 g.value ≡ true) (λ r. never g r) (code_point_formed c s g) q) e

characters_formed : (n : ℕ) (s : List ℕ) (g : Got (List ℕ)) → characters n s ≡ Some g → is_utf8 g.value ≡ true
unfolding characters
characters_formed zero s g e = never g e
characters_formed (suc n) s g e =
    or_some (after (literal (34 ∷ []) s) (λ _. pure [])) (character >>= (λ u. characters n >>= (λ us. pure (u ++ us)))) s g (is_utf8 g.value ≡ true)
    (λ q. let a = after_some (literal (34 ∷ []) s) _ g q in rw (← value_is [] a.0.rest g a.2) (unfold utf8_after in refl))
    (λ q. let a = after_some (character s) _ g q in let b = after_some (characters n a.0.rest) _ g a.2 in
    rw (← value_is (a.0.value ++ b.0.value) b.0.rest g b.2) (utf8_append a.0.value b.0.value (character_formed s a.0 a.1) (characters_formed n a.0.rest b.0 b.1)))
    e

pub string_formed : (s : List ℕ) (g : Got (List ℕ)) → string s ≡ Some g → is_utf8 g.value ≡ true
unfolding string
string_formed s g e = let a = after_some (lexeme (34 ∷ []) s) _ g e in characters_formed (length a.0.rest) a.0.rest g a.2

-- Tokens and lines

token_formed : (s : List ℕ) (g : Got Token) → token s ≡ Some g → is_token g.value ≡ true
unfolding token
token_formed s g e =
    let a = after_some (member (ascii "{") (ascii "\"t\"") s) _ g e in
    let b = after_some (string a.0.rest) _ g a.2 in
    let c = after_some (token_kind b.0.rest) _ g b.2 in
    rw (← value_is (tok b.0.value c.0.value) c.0.rest g c.2)
    (unfold is_token in both (le-leb c.0.value 7 (token_kind_below b.0.rest c.0 c.1)) (string_formed a.0.rest b.0 b.1))

address_formed : (s : List ℕ) (g : Got (Option ℕ)) → address s ≡ Some g → is_address g.value ≡ true
unfolding address
address_formed s g e =
    or_some (after (lexeme (ascii "null") s) (λ _. pure None)) (number (2 ^ 64 - 1) >>= (λ v. pure (Some v))) s g (is_address g.value ≡ true)
    (λ q. let a = after_some (lexeme (ascii "null") s) _ g q in rw (← value_is None a.0.rest g a.2) (unfold is_address in refl))
    (λ q. let a = after_some (number (2 ^ 64 - 1) s) _ g q in
    let h : a.0.value ≤ 2 ^ 64 - 1 = unfold number in whole_number_below (2 ^ 64 - 1) (skip_white_space s) a.0 a.1 in
    rw (← value_is (Some a.0.value) a.0.rest g a.2) (unfold is_address in le-leb a.0.value (2 ^ 64 - 1) h)) e

module _ {A : Type 0} (p : Parser A) (ok : A → Bool) (formed : (s : List ℕ) (g : Got A) → p s ≡ Some g → ok g.value ≡ true) where
  elements_formed : (n : ℕ) (s : List ℕ) (g : Got (List A)) → elements p n s ≡ Some g → all ok g.value ≡ true
  unfolding elements
  elements_formed zero s g e = never g e
  elements_formed (suc n) s g e =
      or_some (after (lexeme (93 ∷ []) s) (λ _. pure [])) (lexeme (44 ∷ []) >> (p >>= (λ x. elements p n >>= (λ xs. pure (x ∷ xs))))) s g (all ok g.value ≡ true)
      (λ q. let a = after_some (lexeme (93 ∷ []) s) _ g q in rw (← value_is [] a.0.rest g a.2) (all_nil ok))
      (λ q. let a = after_some (lexeme (44 ∷ []) s) _ g q in let b = after_some (p a.0.rest) _ g a.2 in let c = after_some (elements p n b.0.rest) _ g b.2 in
      rw (← value_is (b.0.value ∷ c.0.value) c.0.rest g c.2) (all_and ok b.0.value c.0.value (formed a.0.rest b.0 b.1) (elements_formed n b.0.rest c.0 c.1))) e

  array_formed : (s : List ℕ) (g : Got (List A)) → array p s ≡ Some g → all ok g.value ≡ true
  unfolding array
  array_formed s g e =
      let a = after_some (lexeme (91 ∷ []) s) _ g e in
      let t = a.0.rest in
      or_some (after (lexeme (93 ∷ []) t) (λ _. pure [])) (p >>= (λ x. (λ u. elements p (suc (length u)) u) >>= (λ xs. pure (x ∷ xs)))) t g (all ok g.value ≡ true)
      (λ q. let b = after_some (lexeme (93 ∷ []) t) _ g q in rw (← value_is [] b.0.rest g b.2) (all_nil ok))
      (λ q. let b = after_some (p t) _ g q in let c = after_some (elements p (suc (length b.0.rest)) b.0.rest) _ g b.2 in
      rw (← value_is (b.0.value ∷ c.0.value) c.0.rest g c.2) (all_and ok b.0.value c.0.value (formed t b.0 b.1) (elements_formed (suc (length b.0.rest)) b.0.rest c.0 c.1))) a.2

head_formed : (s : List ℕ) (g : Got Head) → head s ≡ Some g → is_address g.value.address ≡ true
unfolding head
head_formed s g e =
    let a = after_some (member (ascii "{") (ascii "\"address\"") s) _ g e in
    let b = after_some (address a.0.rest) _ g a.2 in
    let c = after_some (line_indent b.0.rest) _ g b.2 in
    rw (← value_is (record { address = b.0.value; indent = c.0.value }) c.0.rest g c.2) (address_formed a.0.rest b.0 b.1)

line_formed : (s : List ℕ) (g : Got Line) → line s ≡ Some g → is_line g.value ≡ true
unfolding line
line_formed s g e =
    let a = after_some (head s) _ g e in
    let b = after_some (array token a.0.rest) _ g a.2 in
    let c = after_some (lexeme (ascii "}") b.0.rest) _ g b.2 in
    rw (← value_is (pseudo_line a.0.value.address a.0.value.indent b.0.value) c.0.rest g c.2)
    (unfold is_line in both (head_formed s a.0 a.1) (both (le-leb a.0.value.indent 255 (head_below s a.0 a.1)) (array_formed token is_token token_formed a.0.rest b.0 b.1)))

pub read_formed : (s : List ℕ) (L : List Line) → read s ≡ Some L → is_listing L ≡ true
unfolding read ended
read_formed s L e = go (array line s) refl e
  where
    go : (o : Option (Got (List Line))) → array line s ≡ o → ended o ≡ Some L → is_listing L ≡ true
    go None f e = let z : ◌≡◌ {A = ℕ} 0 1 = cc in absurd (omega arith)
    go (Some g) f e = test (is_empty (skip_white_space g.rest)) e
      where
        test : (b : Bool) → cond b (Some g.value) None ≡ Some L → is_listing L ≡ true
        test true e = let z : g.value ≡ L = cc in rw (← z) (array_formed line is_line line_formed s g f)
        test false e = let z : ◌≡◌ {A = ℕ} 0 1 = cc in absurd (omega arith)
