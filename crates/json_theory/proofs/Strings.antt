-- The reader reads the writer's strings.
--   characters_append    the text of characters put one after the other
--   low_point            a code point below 128 is one byte
--   string_read          the string of a UTF-8 text is read as that text
-- Assumes nothing.
use Rattle.std.specs.Prelude.{Option, None, Some}
use Prim.Native.Nat.{ℕ, zero, suc, ◌+◌, ◌*◌, ◌/◌, ◌%◌, ◌≤◌, ◌<◌, zero-le}
use mathlib.Core.Path.{◌≡◌, refl, ap, ◌∙◌}
use mathlib.Core.Bool.{Bool, true, false, ◌||◌, cond, false≢true}
use mathlib.Core.List.{List, [], ◌∷◌, ◌++◌, append_assoc}
use native.Mathlib.Omega.{arith}
use borrow.Author.Tests.{ne_eqb, le-leb, lt-leb, lt-ltb, le-ltb, leb-true, ltb-true, ltb-false, eqb-true}
use lib.Dec.{eqb, leb, ltb}
use lib.ListN.{length, length-append}
use Rattle.definitions.specs.Lists.{all}
use Rattle.definitions.specs.Utf8.{Range, within, following, utf8_after, is_utf8}
use Rattle.loop_theory.proofs.Cases.{and_split}
use Rattle.json_definitions.specs.Parser.{got, pure, after, or_try, literal, skip_white_space, lexeme}
use Rattle.json_definitions.specs.Strings.{encode, in_ranges, code_point, unescaped, character, escape, short_escape, code_unit, hex_4, hex_digit, hex_value, characters, string}
use Rattle.json_definitions.specs.Writer.{hex_letter, escaped, characters_text, string_text}

pub characters_append : (a b : List ℕ) → characters_text (a ++ b) ≡ characters_text a ++ characters_text b
unfolding characters_text
characters_append [] b = refl
characters_append (c ∷ a) b = rw (characters_append a b, append_assoc)

pub plain : (c : ℕ) → 128 ≤ c → escaped c ≡ c ∷ []
unfolding escaped
plain c h = rw (ne_eqb c 34 (λ e. omega arith), ne_eqb c 92 (λ e. omega arith), le-ltb c 32 (omega arith))

-- hexadecimal digits
pub hex_value_digit : (d : ℕ) → d < 16 → hex_value (hex_letter d) ≡ d
unfolding hex_value hex_letter
hex_value_digit d h = go (ltb d 10) refl
  where
    go : (b : Bool) → ltb d 10 ≡ b → hex_value (hex_letter d) ≡ d
    go true e =
        let k : d < 10 = ltb-true d 10 e in
        rw (e, le-leb 48 (48 + d) (omega arith), le-leb (48 + d) 57 (omega arith)) (omega arith)
    go false e =
        let k : 10 ≤ d = ltb-false d 10 e in
        rw (e, le-leb 48 (87 + d) (omega arith), lt-leb (87 + d) 57 (omega arith), le-leb 97 (87 + d) (omega arith), le-leb (87 + d) 102 (omega arith)) (omega arith)

pub hex_digit_reads : (d : ℕ) (x : List ℕ) → d < 16 → hex_digit (hex_letter d ∷ x) ≡ got d x
unfolding hex_digit
hex_digit_reads d x h = rw (hex_value_digit d h, lt-ltb d 16 h)

pub control : (c : ℕ) (x : List ℕ) → c < 32 → character (92 ∷ 117 ∷ 48 ∷ 48 ∷ hex_letter (c / 16) ∷ hex_letter (c % 16) ∷ x) ≡ got (c ∷ []) x
unfolding character escape hex_4 after code_unit encode hex_letter
control c x h =
    let a : hex_digit (48 ∷ 48 ∷ hex_letter (c / 16) ∷ hex_letter (c % 16) ∷ x) ≡ got 0 (48 ∷ hex_letter (c / 16) ∷ hex_letter (c % 16) ∷ x) = hex_digit_reads 0 _ (omega arith) in
    let b : hex_digit (48 ∷ hex_letter (c / 16) ∷ hex_letter (c % 16) ∷ x) ≡ got 0 (hex_letter (c / 16) ∷ hex_letter (c % 16) ∷ x) = hex_digit_reads 0 _ (omega arith) in
    let v : 0 * 4096 + 0 * 256 + c / 16 * 16 + c % 16 ≡ c = omega arith in
    rw (a, b, hex_digit_reads (c / 16) (hex_letter (c % 16) ∷ x) (omega arith), hex_digit_reads (c % 16) x (omega arith), v, lt-leb 55296 c (omega arith), lt-ltb c 128 (omega arith))

-- Code points

-- the bytes that follow a leading byte are high
abbrev high : List Range → Bool
high rs = all (λ r. leb 128 r.low) rs

abbrev high? : Option (List Range) → Bool
high? None = true
high? (Some rs) = high rs

choice_high : (b : Bool) (rs : List Range) (o : Option (List Range)) → high rs ≡ true → high? o ≡ true → high? (cond b (Some rs) o) ≡ true
choice_high true rs o h k = h
choice_high false rs o h k = k

following_high : (a : ℕ) → high? (following a) ≡ true
unfolding following all
following_high a =
    choice_high (leb a 0x7f) _ _ refl (choice_high (within 0xc2 0xdf a) _ _ refl (choice_high (eqb a 0xe0) _ _ refl
    (choice_high (within 0xe1 0xec a) _ _ refl (choice_high (eqb a 0xed) _ _ refl (choice_high (within 0xee 0xef a) _ _ refl
    (choice_high (eqb a 0xf0) _ _ refl (choice_high (within 0xf1 0xf3 a) _ _ refl (choice_high (eqb a 0xf4) _ _ refl refl))))))))

-- bytes of the ranges, that the reader reads where the writer wrote them, and UTF-8 behind them
record Tail (rs : List Range) (t : List ℕ) : Type 0 where
  front : List ℕ
  back : List ℕ
  splits : t ≡ front ++ back
  reads : (x : List ℕ) → in_ranges rs (characters_text front ++ x) ≡ got front x
  rest : is_utf8 back ≡ true

tail_step : (r : Range) (rs : List Range) (b : ℕ) (t : List ℕ) → 128 ≤ b → within r.low r.high b ≡ true → Tail rs t → Tail (r ∷ rs) (b ∷ t)
unfolding in_ranges characters_text
tail_step r rs b t h e s =
    record {
      front = b ∷ s.front;
      back = s.back;
      splits = ap (λ (l : List ℕ). b ∷ l) s.splits;
      reads = λ x. rw (plain b h, e, s.reads x) (unfold after in refl);
      rest = s.rest;
    }

tail : (rs : List Range) (t : List ℕ) → high rs ≡ true → utf8_after rs t ≡ true → Tail rs t
unfolding all utf8_after
tail [] t h e = record { front = []; back = t; splits = refl; reads = λ x. (unfold in_ranges characters_text in refl); rest = e }
tail (r ∷ rs) [] h e = absurd (false≢true e)
tail (r ∷ rs) (b ∷ t) h e =
    let g = and_split (leb 128 r.low) (high rs) h in
    let k = and_split (within r.low r.high b) (utf8_after rs t) e in
    let m : 128 ≤ b = omega (arith, leb-true 128 r.low g.0, leb-true r.low b (and_split (leb r.low b) (leb b r.high) k.0).0) in
    tail_step r rs b t m k.0 (tail rs t g.1 k.1)

-- the text t starts with a code point, which the reader reads where the writer wrote it, and goes on in UTF-8
record Piece (t : List ℕ) : Type 0 where
  front : List ℕ
  back : List ℕ
  splits : t ≡ front ++ back
  some_bytes : 0 < length front
  reads : (x : List ℕ) → character (characters_text front ++ x) ≡ got front x
  no_quote : (x : List ℕ) → literal (34 ∷ []) (characters_text front ++ x) ≡ None
  rest : is_utf8 back ≡ true

code_point_by : (a : ℕ) (s : List ℕ) (rs : List Range) → following a ≡ Some rs → code_point (a ∷ s) ≡ after (in_ranges rs s) (λ bs. pure (a ∷ bs))
unfolding code_point
code_point_by a s rs e = rw (e, code_point)

following_low : (a : ℕ) → a < 128 → following a ≡ Some []
unfolding following
following_low a h = rw (le-leb a 0x7f (omega arith))

pub low_point : (a : ℕ) (s : List ℕ) → a < 128 → code_point (a ∷ s) ≡ got (a ∷ []) s
low_point a s h = rw (code_point_by a s [] (following_low a h)) (unfold in_ranges after in refl)

low_piece : (a : ℕ) (s : List ℕ) → a < 128 → is_utf8 s ≡ true → Piece (a ∷ s)
unfolding characters_text character unescaped literal escaped escape short_escape code_point in_ranges after
low_piece a s h k = go (eqb a 34) refl (eqb a 92) refl (ltb a 32) refl
  where
    go : (p : Bool) → eqb a 34 ≡ p → (q : Bool) → eqb a 92 ≡ q → (l : Bool) → ltb a 32 ≡ l → Piece (a ∷ s)
    go true e q f l g = record { front = a ∷ []; back = s; splits = refl; some_bytes = omega arith; reads = λ x. let z : a ≡ 34 = eqb-true a 34 e in rw z; no_quote = λ x. rw e; rest = k }
    go false e true f l g = record { front = a ∷ []; back = s; splits = refl; some_bytes = omega arith; reads = λ x. let z : a ≡ 92 = eqb-true a 92 f in rw z; no_quote = λ x. rw (e, f); rest = k }
    go false e false f true g = record { front = a ∷ []; back = s; splits = refl; some_bytes = omega arith; reads = λ x. rw (e, f, g) (control a x (ltb-true a 32 g)); no_quote = λ x. rw (e, f, g); rest = k }
    go false e false f false g = record { front = a ∷ []; back = s; splits = refl; some_bytes = omega arith; reads = λ x. rw (e, f, g, f, g, low_point a x h); no_quote = λ x. rw (e, f, g, e); rest = k }

high_piece : (a : ℕ) (s : List ℕ) (rs : List Range) → 128 ≤ a → following a ≡ Some rs → Tail rs s → Piece (a ∷ s)
unfolding characters_text character unescaped code_point literal
high_piece a s rs h e t =
    record {
      front = a ∷ t.front;
      back = t.back;
      splits = ap (λ (l : List ℕ). a ∷ l) t.splits;
      some_bytes = omega arith;
      reads = λ x. rw (plain a h, ne_eqb a 92 (λ z. omega arith), le-ltb a 32 (omega arith), code_point_by a (characters_text t.front ++ x) rs e, t.reads x) (unfold after in refl);
      no_quote = λ x. rw (plain a h, ne_eqb a 34 (λ z. omega arith));
      rest = t.rest;
    }

piece : (a : ℕ) (s : List ℕ) → is_utf8 (a ∷ s) ≡ true → Piece (a ∷ s)
unfolding utf8_after
piece a s e = go (following a) refl (ltb a 128) refl (following_high a) e
  where
    go : (o : Option (List Range)) → following a ≡ o → (b : Bool) → ltb a 128 ≡ b → high? o ≡ true → elim o [ None ↦ false | Some rs ↦ utf8_after rs s ] ≡ true → Piece (a ∷ s)
    go None f b l h e = absurd (false≢true e)
    go (Some rs) f true l h e =
        let k : a < 128 = ltb-true a 128 l in
        let z : rs ≡ [] = let q = following_low a k in cc in
        low_piece a s k (rw z at e)
    go (Some rs) f false l h e = high_piece a s rs (ltb-false a 128 l) f (tail rs s h e)

-- one code point more
characters_step : (t r : List ℕ) (n : ℕ) (p : Piece t) → characters n (characters_text p.back ++ (34 ∷ r)) ≡ got p.back r → characters (suc n) (characters_text t ++ (34 ∷ r)) ≡ got t r
unfolding characters or_try after
characters_step t r n p e =
    let y = characters_text p.back ++ (34 ∷ r) in
    rw (p.splits, characters_append p.front p.back, append_assoc (characters_text p.front) (characters_text p.back) (34 ∷ r), p.no_quote y, p.reads y, e)

characters_read : (n : ℕ) (t : List ℕ) → is_utf8 t ≡ true → (r : List ℕ) → length t < n → characters n (characters_text t ++ (34 ∷ r)) ≡ got t r
characters_read zero t e r h = absurd (omega arith)
characters_read (suc n) [] e r h = unfold characters or_try after literal characters_text in refl
characters_read (suc n) (a ∷ t) e r h =
    let p = piece a t e in
    let l : suc (length t) ≡ length p.front + length p.back = ap length p.splits ∙ length-append p.front p.back in
    let b = p.some_bytes in
    characters_step (a ∷ t) r n p (characters_read n p.back p.rest r (omega arith))

-- the writer makes a text no shorter
escaped_some : (c : ℕ) → 1 ≤ length (escaped c)
unfolding escaped
escaped_some c = go (eqb c 34 || eqb c 92) (ltb c 32)
  where
    go : (p q : Bool) → 1 ≤ length (cond p (92 ∷ c ∷ []) (cond q (92 ∷ 117 ∷ 48 ∷ 48 ∷ hex_letter (c / 16) ∷ hex_letter (c % 16) ∷ []) (c ∷ [])))
    go true q = omega arith
    go false true = omega arith
    go false false = omega arith

characters_longer : (t : List ℕ) → length t ≤ length (characters_text t)
unfolding characters_text
characters_longer [] = zero-le
characters_longer (c ∷ t) = rw (length-append (escaped c) (characters_text t)) (omega (arith, characters_longer t, escaped_some c))

-- a string that the writer wrote
pub string_read : (t r : List ℕ) → is_utf8 t ≡ true → string (string_text t ++ r) ≡ got t r
unfolding string string_text lexeme skip_white_space literal after
string_read t r h =
    rw (append_assoc (characters_text t) (34 ∷ []) r)
    (characters_read (length (characters_text t ++ (34 ∷ r))) t h r (rw length-append (omega (arith, characters_longer t))))
