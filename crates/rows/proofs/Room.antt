-- How long the rows of a listing are at most: 28 bytes for each token, and its text.
--   name_short         the name of a token's family is at most 3 bytes longer than its text
--   rows_short         the rows of a listing within question 1 of which question 2 is answered yes
--   refused_short      a refusal, of any number of at most 20 digits
-- Assumes nothing.
use Rattle.std.specs.Prelude.{Option, None, Some}
use Prim.Native.Nat.{ℕ, zero, suc, ◌+◌, ◌*◌, ◌-◌, ◌/◌, ◌%◌, ◌≤◌, ◌<◌}
use mathlib.Core.Path.{◌≡◌}
use mathlib.Core.Bool.{true, ◌&&◌}
use mathlib.Core.List.{List, [], ◌∷◌, ◌++◌, map}
use native.Mathlib.Nat.{add-zero}
use native.Mathlib.Omega.{arith}
use borrow.Author.Tests.{ltb-false, leb-true}
use mir.Val.{Fits}
use mir.Syntax.{w32}
use lib.Dec.{eqb, ltb, leb}
use lib.ListN.{length, drop, get_or, length-append, length-take, length-drop}
use Rattle.definitions.specs.Lists.{◌>>=◌, part, concat, range, ascii, position, starts_with, ◌≟◌}
use Rattle.definitions.specs.Model.{Token, tok, no_token, Register}
use Rattle.definitions.specs.Columns.{token_list}
use Rattle.definitions.specs.Family.{Family, legacy, legacy_family, digits, suffix_width, is_high, is_numbered, other_family, family, fam_of}
use Rattle.definitions.specs.Questions.{covers}
use Rattle.loop_theory.proofs.Cases.{if_has, case_has, and_split}
use Rattle.loop_theory.proofs.Places.{take_while_shorter}
use Rattle.definitions.specs.Answers.{no_family}
use Rattle.model.specs.Places.{start_from, token_start, line_start, line_end}
use Rattle.model.proofs.Decode.{token_at}
use Rattle.model.proofs.Formed.{formed_lines, formed_tokens, line_order, line_within, token_order, token_within}
use Rattle.text.proofs.Parts.{length_part}
use Rattle.json_definitions.specs.Writer.{digits_of, decimal}
use Rattle.json_append.proofs.ValueRules.{decimal_short}
use Rattle.rows.specs.Rows.{name_of, number_text, place_text, mark_text, web_text, row_text, token_row, row_at, line_rows, all_rows, refused_text, Short}

-- Digits

digits_one : (f n : ℕ) → n < 10 → length (digits_of f n) ≤ 1
unfolding digits_of
digits_one zero n h = omega arith
digits_one (suc f) n h = if_has (λ (ds : List ℕ). length ds ≤ 1) (ltb n 10) (λ _. omega arith) (λ e. absurd (omega (arith, ltb-false n 10 e)))

digits_more : (m d : ℕ) → ((f n : ℕ) → n < m → length (digits_of f n) ≤ d) → (f n : ℕ) → n < 10 * m → length (digits_of f n) ≤ suc d
unfolding digits_of
digits_more m d short zero n h = omega arith
digits_more m d short (suc f) n h =
    let front = short f (n / 10) (omega arith) in
    if_has (λ (ds : List ℕ). length ds ≤ suc d) (ltb n 10) (λ _. omega arith) (λ _. rw length-append (omega arith))

digits_10 : (f n : ℕ) → n < 10000000000 → length (digits_of f n) ≤ 10
digits_10 =
    digits_more 1000000000 9 (digits_more 100000000 8 (digits_more 10000000 7 (digits_more 1000000 6 (digits_more 100000 5
    (digits_more 10000 4 (digits_more 1000 3 (digits_more 100 2 (digits_more 10 1 digits_one))))))))

digits_20 : (f n : ℕ) → n < 100000000000000000000 → length (digits_of f n) ≤ 20
digits_20 =
    digits_more 10000000000000000000 19 (digits_more 1000000000000000000 18 (digits_more 100000000000000000 17 (digits_more 10000000000000000 16
    (digits_more 1000000000000000 15 (digits_more 100000000000000 14 (digits_more 10000000000000 13 (digits_more 1000000000000 12
    (digits_more 100000000000 11 (digits_more 10000000000 10 digits_10)))))))))

-- Names

-- the family's name, if there is one, is no longer than n
abbrev Named : ℕ → Option Family → Type 0
Named n o = length (name_of o) ≤ n

table_short : (row : List (List ℕ)) (others : List (List (List ℕ))) (s : List ℕ) → length (get_or row 0 []) ≤ 3 → Named 3 (legacy_family others s)
    → Named 3 (legacy_family (row ∷ others) s)
unfolding legacy_family
table_short row others s h k = case_has (Named 3) (position (s ≟◌) row) k (λ c e. h)

legacy_short : (s : List ℕ) → Named 3 (legacy_family legacy s)
unfolding legacy
legacy_short s =
    table_short _ _ s three (table_short _ _ s three (table_short _ _ s three (table_short _ _ s three
    (table_short _ _ s three (table_short _ _ s three (table_short _ _ s three (table_short _ _ s three no_row)))))))
  where
    three : 3 ≤ 3
    three = omega arith

    no_row : Named 3 (legacy_family [] s)
    no_row = unfold legacy_family in omega arith

width_short : (n : ℕ) (name : List ℕ) → length name ≤ n → (o : Option ℕ) → Named n (o >>= (λ w. Some (record { name = name; width = w })))
width_short n name h None = omega arith
width_short n name h (Some w) = h

other_short : (s : List ℕ) → Named (length s + 3) (other_family s)
unfolding other_family
other_short s =
    if_has (Named (length s + 3)) (is_high s) (λ _. simp (length-append, length-take) (omega arith))
    (λ _. if_has (Named (length s + 3)) (is_numbered s) (λ _. width_short (length s + 3) (ascii "r" ++ digits (drop 1 s)) numbered (suffix_width (drop (1 + length (digits (drop 1 s))) s)))
    (λ _. if_has (Named (length s + 3)) (starts_with (ascii "var_") s) (λ _. omega arith) (λ _. omega arith)))
  where
    numbered : length (ascii "r" ++ digits (drop 1 s)) ≤ length s + 3
    numbered = rw length-append (omega (arith, take_while_shorter (λ c. leb 48 c && leb c 57) (drop 1 s), length-drop 1 s))

pub name_short : (t : Token) → Named (length t.text + 3) (fam_of t)
unfolding fam_of family
name_short t =
    if_has (Named (length t.text + 3)) (eqb t.kind Register) (λ _. go (legacy_family legacy t.text) (legacy_short t.text)) (λ _. omega arith)
  where
    go : (o : Option Family) → Named 3 o → Named (length t.text + 3) (elim o [ Some f ↦ Some f | None ↦ other_family t.text ])
    go None h = other_short t.text
    go (Some f) h = omega arith

-- Rows

mark_short : (d : ℕ) → length (mark_text d) ≤ 3
mark_short d = if_has (λ (s : List ℕ). length s ≤ 3) (eqb d 1) (λ _. omega arith) (λ _. omega arith)

row_short : (i j w d : ℕ) (f : List ℕ) → i < 10000 → j < 100000 → w < 10000000000 → length (row_text i j f w d) ≤ length f + 25
unfolding row_text place_text web_text number_text
row_short i j w d f a b c =
    simp length-append (omega (arith, decimal_short 4 i (omega arith) a (omega arith), decimal_short 5 j (omega arith) b (omega arith), decimal_short 10 w (omega arith) c (omega arith), mark_short d))

-- what is written of the places from a on, n of them, if p grows by what is written of each
run_short : (f : ℕ → List ℕ) (p : ℕ → ℕ) (n a : ℕ) → ((k : ℕ) → a ≤ k → k < a + n → length (f k) + p k ≤ p (suc k))
    → length (concat (map f (range a n))) + p a ≤ p (a + n)
unfolding concat range
run_short f p zero a grows = rw add-zero (omega arith)
run_short f p (suc n) a grows =
    let here = grows a (omega arith) (omega arith) in
    let later = run_short f p n (suc a) (λ k h g. grows k (omega arith) (omega arith)) in
    let z : suc a + n ≡ a + suc n = omega arith in
    let later' : length (concat (map f (range (suc a) n))) + p (suc a) ≤ p (a + suc n) = rw z at later in
    rw length-append (omega arith)

module _ (l t x numbers marks : List ℕ) (few : length l ≤ 1024) (short : length t ≤ 16384)
    (lines_cover : covers 512 0 l (length t) ≡ true) (tokens_cover : covers 256 0 t (length x) ≡ true)
    (words : (k : ℕ) → get_or numbers k 0 < 4294967296) where
  -- what the first k tokens may take
  taken : ℕ → ℕ
  taken k = 28 * k + token_start t k

  token_short : (i k : ℕ) → i < length l → k < length t → length (row_at l t x numbers marks i k) + taken k ≤ taken (suc k)
  unfolding row_at token_row taken start_from
  token_short i k h g =
      let ordered = token_order t x tokens_cover k g in
      let named : length (name_of (fam_of (get_or (token_list t x) k no_token))) ≤ get_or t k 0 / 256 - token_start t k + 3 =
      rw (token_at t x k) (omega (arith, name_short (tok (part (token_start t k) (get_or t k 0 / 256) x) (get_or t k 0 % 256)), length_part x (token_start t k) (get_or t k 0 / 256))) in
      let written = row_short i (k - line_start l i) (get_or numbers k 0) (get_or marks k 0) (name_of (fam_of (get_or (token_list t x) k no_token))) (omega arith) (omega arith) (omega (arith, words k)) in
      if_has (λ (s : List ℕ). length s + (28 * k + token_start t k) ≤ 28 * suc k + get_or t k 0 / 256) (eqb (get_or numbers k 0) no_family) (λ _. omega arith) (λ _. omega arith)

  line_short : (i : ℕ) → i < length l → length (line_rows l t x numbers marks i) + taken (line_start l i) ≤ taken (line_start l (suc i))
  unfolding line_rows start_from
  line_short i h =
      let ordered = line_order l t lines_cover i h in
      let within = line_within l t lines_cover i h in
      let n : line_end l t i - line_start l i ≡ get_or l i 0 / 512 - line_start l i = omega arith in
      let e : line_start l i + (get_or l i 0 / 512 - line_start l i) ≡ get_or l i 0 / 512 = omega arith in
      let run = run_short (row_at l t x numbers marks i) taken (get_or l i 0 / 512 - line_start l i) (line_start l i) (λ k a b. token_short i k h (omega arith)) in
      rw n (rw e at run)

  token_most : (k : ℕ) → k ≤ length t → token_start t k ≤ length x
  unfolding start_from
  token_most zero h = omega arith
  token_most (suc k) h = token_within t x tokens_cover k (omega arith)

  line_most : (i : ℕ) → i ≤ length l → line_start l i ≤ length t
  unfolding start_from
  line_most zero h = omega arith
  line_most (suc i) h = line_within l t lines_cover i (omega arith)

  covered_short : length (all_rows l t x numbers marks) ≤ 28 * length t + length x
  unfolding all_rows taken
  covered_short =
      let n : length l - 0 ≡ length l = omega arith in
      let run = run_short (line_rows l t x numbers marks) (λ i. taken (line_start l i)) (length l) 0 (λ i a b. line_short i (omega arith)) in
      let end = line_most (0 + length l) (omega arith) in
      rw n (omega (arith, run, end, token_most (line_start l (0 + length l)) end))

pub rows_short : (l t x numbers marks : List ℕ) → ((k : ℕ) → Fits w32 (get_or numbers k 0)) → Short l t x (all_rows l t x numbers marks)
rows_short l t x numbers marks words one two =
    let few = (and_split (leb (length l) 1024 && leb (length t) 16384) (leb (length x) 262144) one).0 in
    let sizes = and_split (leb (length l) 1024) (leb (length t) 16384) few in
    covered_short l t x numbers marks (leb-true (length l) 1024 sizes.0) (leb-true (length t) 16384 sizes.1) (formed_lines l t x two) (formed_tokens l t x two)
    (λ k. omega (arith, words k))

pub refused_short : (n : ℕ) → n < 100000000000000000000 → length (refused_text n) ≤ 29
unfolding refused_text decimal
refused_short n h = simp length-append (omega (arith, digits_20 n n h))
