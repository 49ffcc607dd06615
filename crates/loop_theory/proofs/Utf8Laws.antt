-- UTF-8 texts put together and taken apart.
--   ascii_utf8       an ASCII text is UTF-8
--   utf8_append      two UTF-8 texts, one after the other, are UTF-8
--   utf8_around      what stands before and behind an ASCII text in a UTF-8 text is UTF-8
--   utf8_pop         so is a UTF-8 text without its last code point
-- Assumes nothing.
use Rattle.std.specs.Prelude.{Option, None, Some}
use Prim.Native.Nat.{ℕ, ◌≤◌, ◌<◌}
use mathlib.Core.Path.{◌≡◌, refl, sym, ap, subst, ◌∙◌}
use mathlib.Core.Bool.{Bool, true, false, ◌&&◌}
use mathlib.Core.List.{List, [], ◌∷◌, ◌++◌, reverse, append_assoc, reverse-cons, reverse-append, reverse-reverse}
use native.Mathlib.Omega.{arith}
use lib.Dec.{eqb, leb, ltb}
use borrow.Author.Tests.{eqb-true, leb-true, ltb-true, lt-ltb, le-leb, lt-leb, le-ltb}
use lib.ListN.{length}
use Rattle.definitions.specs.Lists.{all}
use Rattle.definitions.specs.ToFor.{pop_reversed, pop}
use Rattle.definitions.specs.Utf8.{Range, within, following, utf8_after, is_utf8}
use Rattle.loop_theory.proofs.Cases.{true_false, none_some, some_same, and_split, if_has, IfSome}
use Rattle.loop_theory.proofs.AnyAll.{both, all_cons, all_and, all_nil, all_append}
use Rattle.loop_theory.proofs.Ascii.{is_ascii}

-- Bytes

-- a byte that goes on with a code point
abbrev continues : ℕ → Bool
continues b = leb 128 b && ltb b 192

-- the bytes of a range go on
abbrev in_tail : Range → Bool
in_tail r = leb 128 r.low && ltb r.high 192

low_leads : (b : ℕ) → b < 128 → continues b ≡ false
low_leads b h = rw (lt-leb 128 b h)

high_leads : (b : ℕ) → 192 ≤ b → continues b ≡ false
high_leads b h = rw (le-leb 128 b (omega arith), le-ltb b 192 h)

within_leads : (low high b : ℕ) → 192 ≤ low → within low high b ≡ true → continues b ≡ false
within_leads low high b h e = high_leads b (let s = leb-true low b (and_split (leb low b) (leb b high) e).0 in omega arith)

in_range_continues : (r : Range) (b : ℕ) → in_tail r ≡ true → within r.low r.high b ≡ true → continues b ≡ true
in_range_continues r b t e =
    let s = and_split (leb 128 r.low) (ltb r.high 192) t in
    let u = and_split (leb r.low b) (leb b r.high) e in
    both (le-leb 128 b (omega (arith, leb-true 128 r.low s.0, leb-true r.low b u.0)))
    (lt-ltb b 192 (omega (arith, ltb-true r.high 192 s.1, leb-true b r.high u.1)))

-- a byte that something follows leads, and what follows goes on
abbrev Followed : ℕ → List Range → Type 0
Followed b rs = (continues b ≡ false) × (all in_tail rs ≡ true)

following_tail : (b : ℕ) → IfSome (Followed b) (following b)
unfolding following all
following_tail b =
    if_has (IfSome (Followed b)) (leb b 0x7f) (λ h. answers (low_leads b (let s = leb-true b 127 h in omega arith)) [] refl) λ _.
    if_has (IfSome (Followed b)) (within 0xc2 0xdf b) (λ h. answers (within_leads 0xc2 0xdf b (omega arith) h) _ refl) λ _.
    if_has (IfSome (Followed b)) (eqb b 0xe0) (λ h. answers (high_leads b (let s = eqb-true b 0xe0 h in omega arith)) _ refl) λ _.
    if_has (IfSome (Followed b)) (within 0xe1 0xec b) (λ h. answers (within_leads 0xe1 0xec b (omega arith) h) _ refl) λ _.
    if_has (IfSome (Followed b)) (eqb b 0xed) (λ h. answers (high_leads b (let s = eqb-true b 0xed h in omega arith)) _ refl) λ _.
    if_has (IfSome (Followed b)) (within 0xee 0xef b) (λ h. answers (within_leads 0xee 0xef b (omega arith) h) _ refl) λ _.
    if_has (IfSome (Followed b)) (eqb b 0xf0) (λ h. answers (high_leads b (let s = eqb-true b 0xf0 h in omega arith)) _ refl) λ _.
    if_has (IfSome (Followed b)) (within 0xf1 0xf3 b) (λ h. answers (within_leads 0xf1 0xf3 b (omega arith) h) _ refl) λ _.
    if_has (IfSome (Followed b)) (eqb b 0xf4) (λ h. answers (high_leads b (let s = eqb-true b 0xf4 h in omega arith)) _ refl) λ _.
    λ rs e. none_some e
  where
    answers : continues b ≡ false → (rs : List Range) → all in_tail rs ≡ true → IfSome (Followed b) (Some rs)
    answers h rs t us e = (h, subst (λ vs. all in_tail vs ≡ true) (some_same e) t)

-- Texts

ascii_leads : (b : ℕ) → is_ascii b ≡ true → following b ≡ Some []
unfolding following
ascii_leads b h = rw (le-leb b 127 (let s = ltb-true b 128 h in omega arith))

-- a text begins with a leading byte
led : (b : ℕ) (s : List ℕ) → is_utf8 (b ∷ s) ≡ true → (rs : List Range) × (following b ≡ Some rs) × (utf8_after rs s ≡ true)
unfolding utf8_after
led b s e = go (following b) refl e
  where
    go : (o : Option (List Range)) → following b ≡ o → elim o [ None ↦ false | Some rs ↦ utf8_after rs s ] ≡ true
        → (rs : List Range) × (following b ≡ Some rs) × (utf8_after rs s ≡ true)
    go None q e = true_false e refl
    go (Some rs) q e = (rs, q, e)

leads : (b : ℕ) (s : List ℕ) (rs : List Range) → following b ≡ Some rs → is_utf8 (b ∷ s) ≡ utf8_after rs s
unfolding utf8_after
leads b s rs e = rw (e, utf8_after)

pub ascii_utf8 : (s : List ℕ) → all is_ascii s ≡ true → is_utf8 s ≡ true
unfolding utf8_after
ascii_utf8 [] h = refl
ascii_utf8 (b ∷ s) h = let a = all_cons is_ascii b s h in leads b s [] (ascii_leads b a.0) ∙ ascii_utf8 s a.1

utf8_after_append : (rs : List Range) (s u : List ℕ) → utf8_after rs s ≡ true → is_utf8 u ≡ true → utf8_after rs (s ++ u) ≡ true
unfolding utf8_after
utf8_after_append [] [] u h k = k
utf8_after_append (r ∷ rs) [] u h k = true_false h refl
utf8_after_append [] (b ∷ s) u h k = let l = led b s h in leads b (s ++ u) l.0 l.1 ∙ utf8_after_append l.0 s u l.2 k
utf8_after_append (r ∷ rs) (b ∷ s) u h k =
    let a = and_split (within r.low r.high b) (utf8_after rs s) h in
    both a.0 (utf8_after_append rs s u a.1 k)

pub utf8_append : (s u : List ℕ) → is_utf8 s ≡ true → is_utf8 u ≡ true → is_utf8 (s ++ u) ≡ true
utf8_append = utf8_after_append []

behind_ascii : (w u : List ℕ) → all is_ascii w ≡ true → is_utf8 (w ++ u) ≡ true → is_utf8 u ≡ true
behind_ascii [] u h e = e
behind_ascii (b ∷ w) u h e =
    let a = all_cons is_ascii b w h in
    behind_ascii w u a.1 (sym (leads b (w ++ u) [] (ascii_leads b a.0)) ∙ e)

utf8_after_around : (rs : List Range) (s : List ℕ) (b : ℕ) (u : List ℕ) → all in_tail rs ≡ true → is_ascii b ≡ true
    → utf8_after rs (s ++ (b ∷ u)) ≡ true → (utf8_after rs s ≡ true) × (is_utf8 (b ∷ u) ≡ true)
unfolding utf8_after
utf8_after_around [] [] b u t a e = (refl, e)
utf8_after_around (r ∷ rs) [] b u t a e =
    let h = and_split (within r.low r.high b) (utf8_after rs u) e in
    true_false (in_range_continues r b (all_cons in_tail r rs t).0 h.0) (low_leads b (ltb-true b 128 a))
utf8_after_around [] (c ∷ s) b u t a e =
    let l = led c (s ++ (b ∷ u)) e in
    let r = utf8_after_around l.0 s b u (following_tail c l.0 l.1).1 a l.2 in
    (leads c s l.0 l.1 ∙ r.0, r.1)
utf8_after_around (r ∷ rs) (c ∷ s) b u t a e =
    let h = and_split (within r.low r.high c) (utf8_after rs (s ++ (b ∷ u))) e in
    let i = utf8_after_around rs s b u (all_cons in_tail r rs t).1 a h.1 in
    (both h.0 i.0, i.1)

pub utf8_around : (s w u : List ℕ) → all is_ascii w ≡ true → 1 ≤ length w → is_utf8 (s ++ (w ++ u)) ≡ true → (is_utf8 s ≡ true) × (is_utf8 u ≡ true)
unfolding all
utf8_around s [] u a n e = absurd (omega arith)
utf8_around s (b ∷ w) u a n e =
    let r = utf8_after_around [] s b (w ++ u) refl (all_cons is_ascii b w a).0 e in
    (r.0, behind_ascii (b ∷ w) u a r.1)

-- The last code point

all_reversed : (p : ℕ → Bool) (xs : List ℕ) → all p xs ≡ true → all p (reverse xs) ≡ true
all_reversed p [] h = h
all_reversed p (x ∷ xs) h =
    let a = all_cons p x xs h in
    rw reverse-cons (all_append p (reverse xs) (x ∷ []) (all_reversed p xs a.1) (all_and p x [] a.0 (all_nil p)))

pop_point : (t : List ℕ) (b : ℕ) (w : List ℕ) → continues b ≡ false → all continues w ≡ true → pop (t ++ (b ∷ w)) ≡ t
unfolding pop_reversed
pop_point t b w lead goes =
    let turned : reverse (t ++ (b ∷ w)) ≡ reverse w ++ (b ∷ reverse t) =
    reverse-append t (b ∷ w) ∙ (ap (λ u. u ++ reverse t) (reverse-cons b w) ∙ append_assoc (reverse w) (b ∷ []) (reverse t)) in
    ap (λ u. reverse (pop_reversed u)) turned
    ∙ (ap reverse (stripped (reverse w) (all_reversed continues w goes)) ∙ reverse-reverse t)
  where
    stripped : (x : List ℕ) → all continues x ≡ true → pop_reversed (x ++ (b ∷ reverse t)) ≡ reverse t
    stripped [] h = rw lead
    stripped (c ∷ x) h = let a = all_cons continues c x h in rw a.0 (stripped x a.1)

-- what is left of a code point, or a text and a code point behind it
data LastPoint (rs : List Range) (s : List ℕ) : Type 0 where
  rest : all continues s ≡ true → LastPoint rs s
  point : (t : List ℕ) (b : ℕ) (w : List ℕ) → utf8_after rs t ≡ true → continues b ≡ false → all continues w ≡ true
      → s ≡ t ++ (b ∷ w) → LastPoint rs s

last_point : (rs : List Range) (s : List ℕ) → all in_tail rs ≡ true → utf8_after rs s ≡ true → LastPoint rs s
unfolding utf8_after
last_point rs [] t e = rest (all_nil continues)
last_point [] (b ∷ s) t e =
    let l = led b s e in
    let f = following_tail b l.0 l.1 in
    elim (last_point l.0 s f.1 l.2) [
      | rest goes ↦ point [] b s refl f.0 goes refl
      | point u c w h lead goes q ↦ point (b ∷ u) c w (leads b u l.0 l.1 ∙ h) lead goes (ap (λ v. b ∷ v) q)
    ]
last_point (r ∷ rs) (b ∷ s) t e =
    let a = all_cons in_tail r rs t in
    let i = and_split (within r.low r.high b) (utf8_after rs s) e in
    elim (last_point rs s a.1 i.1) [
      | rest goes ↦ rest (all_and continues b s (in_range_continues r b a.0 i.0) goes)
      | point u c w h lead goes q ↦ point (b ∷ u) c w (both i.0 h) lead goes (ap (λ v. b ∷ v) q)
    ]

pub utf8_pop : (s : List ℕ) → is_utf8 s ≡ true → is_utf8 (pop s) ≡ true
unfolding pop_reversed utf8_after
utf8_pop [] e = e
utf8_pop (b ∷ s) e = elim (last_point [] (b ∷ s) (all_nil in_tail) e) [
  | rest goes ↦ let l = led b s e in true_false (all_cons continues b s goes).0 (following_tail b l.0 l.1).0
  | point t c w h lead goes q ↦ ap (λ u. is_utf8 (pop u)) q ∙ (ap is_utf8 (pop_point t c w lead goes) ∙ h)
]
