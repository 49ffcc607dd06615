-- Leading tests, as rules for `search`.
--   test_none, test_shut, test_open, test_is      what stands between `if` and `break`
--   kept_no, kept_other, kept_without, kept_with  a line as it is
--   broken_nothing, broken_no, broken_other, broken_with    a line that was cut
--   tested_kept, tested_continued, tested_broken, tested_closed    a piece, by its form
-- Assumes nothing.
use Rattle.std.specs.Prelude.{Option, None, Some}
use Rattle.std.specs.Option.{option_map}
use mathlib.Core.Path.{◌≡◌, refl, sym, ap, ap₂, ◌∙◌}
use mathlib.Core.Bool.{Bool, true, false, cond, and-true, and-false}
use mathlib.Core.List.{List, [], ◌∷◌, ◌++◌}
use Prim.Native.Nat.{ℕ, zero, suc, ◌+◌, ◌-◌, ◌≤◌, ◌<◌}
use native.Mathlib.Nat.{not-suc-le-zero, le_of_suc-le-suc, sub-zero, zero-add}
use native.Mathlib.Decide.{dec_le}
use native.Mathlib.Omega.{arith}
use borrow.Author.Tests.{eq-eqb, ne_eqb, le-leb, lt-leb}
use lib.Dec.{eqb, leb}
use lib.ListN.{length, get_or, take, drop, length-append, length-drop}
use lib.Seq.{take-append-le, drop-append-le, drop-append-add, length-take-le}
use Rattle.definitions.specs.Lists.{◌>>=◌, require, position, first, last, part, on_first, ◌≟◌, starts_with, ends_with, ascii}
use Rattle.definitions.specs.Model.{Token, Line, tok, pseudo_line, token, line, no_token, text, Keyword, Punct}
use Rattle.definitions.specs.Statements.{is_kw}
use Rattle.definitions.specs.Condition.{cut_front, cut, negate_cond}
use Rattle.definitions.specs.RecoverGotoLoops.{leading_test}
use Rattle.text.proofs.Parts.{part_get, part_none, part_tail, part_part, length_part}
use Rattle.negate.specs.Tests.{test, test_count}
use Rattle.negate.proofs.TestTokens.{at_first, length_first}
use Rattle.pieces.specs.Pieces.{piece, origin, cut_place, jumped, text_before, Says}
use Rattle.pieces.specs.declared.piece.Piece.TheVariants.{Kept, Continued, Broken, Closed}
use Rattle.pieces.specs.Leading.{leading, test_at, tested, first_of}
use Rattle.pieces.proofs.Forms.{kept_piece, continued_piece, broken_piece, closed_piece, place_within}
use Rattle.pieces.proofs.Backs.{text_append, split}

-- Between `if` and `break`

module _ {A : Type 0} (d : A) where
  first_is : (xs : List A) → 1 ≤ length xs → first xs ≡ Some (get_or xs 0 d)
  first_is [] h = absurd (not-suc-le-zero h)
  first_is (x ∷ xs) h = refl

  last_is : (xs : List A) → 1 ≤ length xs → last xs ≡ Some (get_or xs (length xs - 1) d)
  unfolding last
  last_is [] h = absurd (not-suc-le-zero h)
  last_is (x ∷ []) h = refl
  last_is (x ∷ (y ∷ xs)) h = last_is (y ∷ xs) (omega arith) ∙ ap (λ k. Some (get_or (x ∷ (y ∷ xs)) k d)) more
    where
      more : suc (suc (length xs) - 1) ≡ suc (suc (length xs)) - 1
      more = omega arith

module _ (l : Line) (g m : ℕ) (c : m ≡ test_count l g) where
  count : length (part 1 g l.tokens) ≡ m
  count = length_part l.tokens 1 g ∙ omega arith

  pub test_none : m ≡ 0 → None ≡ test_at l.tokens g
  unfolding test_at
  test_none e = go (part 1 g l.tokens) (count ∙ e)
    where
      go : (xs : List Token) → length xs ≡ 0 → None ≡ (first xs >>= λ opening. require (starts_with (ascii " (") opening.text) >>= λ _. last (on_first (cut_front 2) xs) >>= λ end.
          require (ends_with (ascii ") ") end.text) >>= λ _. Some (negate_cond (cut 2 2 xs)))
      go [] e = refl
      go (x ∷ xs) e = absurd (omega arith)

  module _ (some_tokens : m ≡ 0 → ⊥) (b : Bool) (s : List ℕ) (q : s ≡ (token l 1).text) (e : b ≡ starts_with (ascii " (") s) where
    opening : first (part 1 g l.tokens) ≡ Some (token l 1)
    opening = first_is no_token (part 1 g l.tokens) (omega (arith, count)) ∙ ap Some (part_get no_token l.tokens 1 g 0 (omega (arith, count)))

    pub test_shut : b ≡ false → None ≡ test_at l.tokens g
    unfolding test_at
    test_shut f = rw (opening, ← q, ← e, f)

    module _ (f : b ≡ true) (u v : List ℕ) (k : ℕ) (w : u ≡ (token l m).text) (n : k ≡ cond (eqb m 1) 2 0) (x : v ≡ part k (length u) u)
        (y : Bool) (z : y ≡ ends_with (ascii ") ") v) where
      ending : (t : Token) × (last (on_first (cut_front 2) (part 1 g l.tokens)) ≡ Some t) × (t.text ≡ v)
      ending =
          (get_or xs (length xs - 1) no_token, last_is no_token xs (omega (arith, size)), ap (λ (t : Token). t.text) is ∙ go (dec_le m 1))
        where
          xs : List Token
          xs = on_first (cut_front 2) (part 1 g l.tokens)

          size : length (on_first (cut_front 2) (part 1 g l.tokens)) ≡ m
          size = length_first (cut_front 2) (part 1 g l.tokens) ∙ count

          place : length (on_first (cut_front 2) (part 1 g l.tokens)) - 1 ≡ m - 1
          place = omega (arith, size)

          last_token : get_or (part 1 g l.tokens) (m - 1) no_token ≡ token l m
          last_token =
              let z : 1 + (m - 1) ≡ m = omega arith in
              part_get no_token l.tokens 1 g (m - 1) (omega (arith, count)) ∙ rw z

          is : get_or (on_first (cut_front 2) (part 1 g l.tokens)) (length (on_first (cut_front 2) (part 1 g l.tokens)) - 1) no_token
              ≡ cond (eqb (m - 1) 0) (cut_front 2 (token l m)) (token l m)
          is = rw place (at_first no_token (cut_front 2) (part 1 g l.tokens) (m - 1) (omega (arith, count)) ∙ rw last_token)

          go : Dec (m ≤ 1) → (cond (eqb (m - 1) 0) (cut_front 2 (token l m)) (token l m)).text ≡ v
          go (yes h) = rw (eq-eqb (m - 1) 0 (omega arith)) (sym (x ∙ rw (n, eq-eqb m 1 (omega arith)) (part_tail u 2 ∙ ap (drop 2) w)))
          go (no h) = rw (ne_eqb (m - 1) 0 (λ r. omega arith)) (sym (x ∙ rw (n, ne_eqb m 1 (λ r. omega arith)) (part_tail u 0 ∙ w)))

      pub test_open : y ≡ false → None ≡ test_at l.tokens g
      unfolding test_at
      test_open h = rw (opening, ← q, ← e, f, ending.1, ending.2, ← z, h)

      pub test_is : y ≡ true → Some (negate_cond (test l g)) ≡ test_at l.tokens g
      unfolding test_at
      test_is h = rw (opening, ← q, ← e, f, ending.1, ending.2, ← z, h)

pub ruleset tests = (test_none, test_shut, test_open, test_is)

-- A line as it is

module _ (l : Line) (b : Bool) (e : b ≡ is_kw (ascii "if") (token l 0)) where
  pub kept_no : b ≡ false → None ≡ tested l.tokens
  unfolding tested
  kept_no f = rw (← e, f)

  module _ (f : b ≡ true) (s : List ℕ) (q : s ≡ text (drop 0 l.tokens)) (x : Bool) (y : x ≡ ends_with (ascii ") break;") s) where
    pub kept_other : x ≡ false → None ≡ tested l.tokens
    unfolding tested
    kept_other g = rw (← e, f, ← q, ← y, g)

    module _ (g : x ≡ true) (p : Option ℕ) (w : p ≡ position (is_kw (ascii "break")) l.tokens) where
      pub kept_without : p ≡ None → None ≡ tested l.tokens
      unfolding tested
      kept_without h = rw (← e, f, ← q, ← y, g, ← w, h)

      pub kept_with : (k : ℕ) (o : Option (List Token)) → p ≡ Some k → o ≡ test_at l.tokens k → o ≡ tested l.tokens
      unfolding tested
      kept_with k o h z = z ∙ sym (rw (← e, f, ← q, ← y, g, ← w, h))

pub ruleset keeps = (kept_no, kept_other, kept_without, kept_with)

-- A line that was cut

pub first_nothing : (f : Option ℕ) (n : ℕ) → f ≡ None → n ≡ first_of f n
first_nothing f n e = rw e

pub first_before : (f : Option ℕ) (k n : ℕ) → f ≡ Some k → k < n → k ≡ first_of f n
first_before f k n e h = rw e (omega arith)

pub first_behind : (f : Option ℕ) (k n : ℕ) → f ≡ Some k → n ≤ k → n ≡ first_of f n
first_behind f k n e h = rw e (omega arith)

pub ruleset firsts = (first_nothing, first_before, first_behind)

abbrev behind : List Token
behind = tok (ascii "break") Keyword ∷ tok (ascii ";") Punct ∷ []

break_at : (ts : List Token) (n : ℕ) → n ≤ length ts
    → position (is_kw (ascii "break")) (take n ts ++ behind) ≡ Some (first_of (position (is_kw (ascii "break")) ts) n)
unfolding position ◌≟◌
break_at [] zero h = refl
break_at [] (suc n) h = absurd (not-suc-le-zero h)
break_at (t ∷ ts) zero h = ap Some (go (is_kw (ascii "break") t) (position (is_kw (ascii "break")) ts))
  where
    go : (b : Bool) (o : Option ℕ) → 0 ≡ first_of (cond b (Some 0) (option_map suc o)) 0
    go true o = omega arith
    go false None = refl
    go false (Some k) = omega arith
break_at (t ∷ ts) (suc n) h = rw (break_at ts n (le_of_suc-le-suc h)) (go (is_kw (ascii "break") t) (position (is_kw (ascii "break")) ts))
  where
    go : (b : Bool) (o : Option ℕ) → cond b (Some 0) (Some (suc (first_of o n))) ≡ Some (first_of (cond b (Some 0) (option_map suc o)) (suc n))
    go true o = ap Some (omega arith)
    go false None = refl
    go false (Some k) = ap Some (omega arith)

ends_cut : (s : List ℕ) → ends_with (ascii ") break;") (s ++ ascii "break;") ≡ ends_with (ascii ") ") s
ends_cut s = go (dec_le 2 (length s))
  where
    n : length (s ++ ascii "break;") ≡ length s + 6
    n = length-append s (ascii "break;")

    go : Dec (2 ≤ length s) → ends_with (ascii ") break;") (s ++ ascii "break;") ≡ ends_with (ascii ") ") s
    go (yes h) =
        let d : length (s ++ ascii "break;") - 8 ≡ length s - 2 = omega (arith, n) in
        let k : length (drop (length s - 2) s) ≡ 2 = length-drop (length s - 2) s ∙ omega arith in
        rw (le-leb 8 (length (s ++ ascii "break;")) (omega (arith, n)), le-leb 2 (length s) h, d, drop-append-le (length s - 2) s (ascii "break;") (omega arith))
        (split (drop (length s - 2) s) (ascii "break;") (ascii ") break;") (omega (arith, k)) ∙ rw k (unfold ◌≟◌ in and-true (drop (length s - 2) s ≟ ascii ") ")))
    go (no h) = rw (lt-leb 8 (length (s ++ ascii "break;")) (omega (arith, n)), lt-leb 2 (length s) (omega arith))

part_cut : (ts : List Token) (n g : ℕ) → g ≤ n → n ≤ length ts → part 1 g (take n ts ++ behind) ≡ part 1 g ts
part_cut ts n g h k = go (dec_le g 1)
  where
    taken : part 0 n ts ≡ take n ts
    taken = rw (sub-zero n)

    size : length (take n ts) ≡ n
    size = length-take-le n ts k

    go : Dec (g ≤ 1) → part 1 g (take n ts ++ behind) ≡ part 1 g ts
    go (yes q) = part_none (take n ts ++ behind) 1 g q ∙ sym (part_none ts 1 g q)
    go (no q) =
        ap (take (g - 1)) (drop-append-le 1 (take n ts) behind (omega (arith, size)))
        ∙ take-append-le (g - 1) (drop 1 (take n ts)) behind (omega (arith, size, length-drop 1 (take n ts)))
        ∙ ap (part 1 g) (sym taken) ∙ part_part ts 1 g 0 n (omega arith)
        ∙ ap₂ (λ a b. part a b ts) (zero-add 1) (zero-add g)

start_cut : (ts : List Token) (k : ℕ) → k ≤ length ts → (k ≡ 0 → ⊥) → get_or (take k ts ++ behind) 0 no_token ≡ get_or ts 0 no_token
start_cut ts zero h f = absurd (f refl)
start_cut [] (suc k) h f = absurd (not-suc-le-zero h)
start_cut (t ∷ ts) (suc k) h f = refl

first_within : (o : Option ℕ) (n : ℕ) → first_of o n ≤ n
first_within None n = omega arith
first_within (Some k) n = omega arith

test_same : (ts us : List Token) (g : ℕ) → part 1 g ts ≡ part 1 g us → test_at ts g ≡ test_at us g
unfolding test_at
test_same ts us g e = rw e

module _ (l : Line) (n : ℕ) (c : n ≡ cut_place l) where
  within : n ≤ length l.tokens
  unfolding cut_place
  within = omega (arith, place_within (is_kw (ascii "goto")) l.tokens)

  pub broken_nothing : n ≡ 0 → None ≡ tested (jumped (ascii "break") l)
  unfolding tested ◌≟◌
  broken_nothing e = let z : cut_place l ≡ 0 = sym c ∙ e in rw z

  module _ (h : n ≡ 0 → ⊥) (b : Bool) (e : b ≡ is_kw (ascii "if") (token l 0)) where
    head : is_kw (ascii "if") (get_or (jumped (ascii "break") l) 0 no_token) ≡ b
    head = ap (is_kw (ascii "if")) (start_cut l.tokens (cut_place l) (omega (arith, within)) (λ q. h (c ∙ q))) ∙ sym e

    pub broken_no : b ≡ false → None ≡ tested (jumped (ascii "break") l)
    unfolding tested
    broken_no f = rw (head, f)

    module _ (f : b ≡ true) (s : List ℕ) (q : s ≡ text_before l n) (x : Bool) (y : x ≡ ends_with (ascii ") ") s) where
      ends : ends_with (ascii ") break;") (text (jumped (ascii "break") l)) ≡ x
      unfolding text
      ends = ap (ends_with (ascii ") break;")) (text_append (take (cut_place l) l.tokens) behind) ∙ ends_cut (text (take (cut_place l) l.tokens)) ∙ rw (← c, ← q) (sym y)

      pub broken_other : x ≡ false → None ≡ tested (jumped (ascii "break") l)
      unfolding tested
      broken_other g = rw (head, f, ends, g)

      pub broken_with : x ≡ true → (p : Option ℕ) (k : ℕ) (o : Option (List Token)) → p ≡ position (is_kw (ascii "break")) l.tokens → k ≡ first_of p n
          → o ≡ test_at l.tokens k → o ≡ tested (jumped (ascii "break") l)
      unfolding tested
      broken_with g p k o w z d =
          let j : k ≡ first_of (position (is_kw (ascii "break")) l.tokens) (cut_place l) = z ∙ ap₂ first_of w c in
          let a : cut_place l ≤ length l.tokens = omega (arith, within) in
          let b : k ≤ cut_place l = omega (arith, first_within (position (is_kw (ascii "break")) l.tokens) (cut_place l)) in
          d ∙ sym (rw (head, f, ends, g, break_at l.tokens (cut_place l) a, ← j) (test_same (jumped (ascii "break") l) l.tokens k (part_cut l.tokens (cut_place l) k b a)))

pub ruleset breaks = (broken_nothing, broken_no, broken_other, broken_with)

-- A piece, by its form

leading_is : (ts : List Token) → leading_test (pseudo_line None 1 ts) 0 ≡ tested ts
unfolding leading_test tested test_at
leading_is ts = refl

no_break : (s : List ℕ) → ends_with (ascii ") break;") (s ++ ascii "continue;") ≡ false
unfolding ◌≟◌
no_break s =
    let n : length (s ++ ascii "continue;") ≡ length s + 9 = length-append s (ascii "continue;") in
    let d : length (s ++ ascii "continue;") - 8 ≡ length s + 1 = omega (arith, n) in
    rw (d, drop-append-add s (ascii "continue;") 1) (and-false (leb 8 (length (s ++ ascii "continue;"))))

continued_no : (l : Line) → None ≡ tested (jumped (ascii "continue") l)
unfolding tested text
continued_no l =
    let s = text (take (cut_place l) l.tokens) in
    let e : ends_with (ascii ") break;") (text (jumped (ascii "continue") l)) ≡ false =
    ap (ends_with (ascii ") break;")) (text_append (take (cut_place l) l.tokens) (tok (ascii "continue") Keyword ∷ tok (ascii ";") Punct ∷ [])) ∙ no_break s in
    rw (e, and-false (is_kw (ascii "if") (get_or (jumped (ascii "continue") l) 0 no_token)))

closed_no : None ≡ tested (tok (ascii "}") Punct ∷ [])
unfolding tested ◌≟◌
closed_no = refl

module _ (C : List Line) (p i : ℕ) where
  pub tested_kept : Says p (Kept i) → (r : Option ℕ) → leading (line C i) r ≡ tested (line C i).tokens → leading (origin C p) r ≡ leading_test (piece C p) 0
  tested_kept s r d = rw s.line at d ∙ ap tested (sym (kept_piece C p s.form)) ∙ sym (leading_is (piece C p).tokens)

  pub tested_broken : Says p (Broken i) → (r : Option ℕ) → leading (line C i) r ≡ tested (jumped (ascii "break") (line C i)) → leading (origin C p) r ≡ leading_test (piece C p) 0
  tested_broken s r d = rw s.line at d ∙ ap tested (sym (broken_piece C p s.form)) ∙ sym (leading_is (piece C p).tokens)

  pub tested_continued : Says p (Continued i) → None ≡ leading_test (piece C p) 0
  tested_continued s = continued_no (origin C p) ∙ ap tested (sym (continued_piece C p s.form)) ∙ sym (leading_is (piece C p).tokens)

  pub tested_closed : Says p (Closed i) → None ≡ leading_test (piece C p) 0
  tested_closed s = closed_no ∙ ap tested (sym (closed_piece C p s.form)) ∙ sym (leading_is (piece C p).tokens)

pub ruleset leads = (tested_kept, tested_continued, tested_broken, tested_closed)

pub ruleset leading_rules = (tests, keeps, firsts, breaks, leads)
