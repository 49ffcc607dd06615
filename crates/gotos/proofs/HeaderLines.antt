-- Headers are neither labels nor back edges, as rules for `search`; a word without a header is its piece.
--   no_header_line       a word without a header
--   header_first         a header starts with a keyword
--   header_end           and ends with `{`
--   labels, insides, backs    the rules
-- Assumes nothing.
use mathlib.Core.Path.{◌≡◌, refl, sym, ap, ap₂, ◌∙◌}
use mathlib.Core.Bool.{Bool, true, false, cond, ◌&&◌, ◌||◌, and-false}
use mathlib.Core.List.{List, [], ◌∷◌, ◌++◌, append_assoc}
use Prim.Native.Nat.{ℕ, zero, suc, ◌+◌, ◌≤◌, ◌<◌}
use native.Mathlib.Omega.{arith}
use borrow.Author.Tests.{eq-eqb, ne_eqb, eqb-true, lt-ltb, le-ltb}
use lib.Dec.{eqb, ltb}
use lib.ListN.{length, get_or, length-append}
use lib.Seq.{get_or-append-add}
use Rattle.definitions.specs.Lists.{◌≟◌, ascii}
use Rattle.definitions.specs.Model.{Token, Line, tok, token, no_token, text, Keyword, Symbol, Punct, Text}
use Rattle.definitions.specs.Statements.{is_label, joins, glue, merge}
use Rattle.definitions.specs.ToFor.{for_head, popped}
use Rattle.definitions.specs.Passes.{while_head}
use Rattle.definitions.specs.RecoverGotoLoops.{in_block, is_back}
use Rattle.text.proofs.Texts.{ne_≟}
use Rattle.plan.specs.Plan.{Test, Test.guard, Test.always, Test.leading, Header, Header.while_over, Header.for_over, Piece, piece_of, piece_tokens, test_tokens, while_tokens, header_tokens, header_of, planned, plan_of, indent_at, header_at, piece_at, test_at, initialiser_at, step_at, line_of}
use Rattle.pieces.specs.Pieces.{piece, piece_text}

-- Merging keeps a keyword in front, and the text.

glue_keyword : (s : List ℕ) (us : List Token) → glue (tok s Keyword) us ≡ tok s Keyword ∷ us
unfolding glue
glue_keyword s [] = refl
glue_keyword s (u ∷ us) = rw (apart u.kind)
  where
    apart : (k : ℕ) → (eqb Keyword k && (eqb k Punct || eqb k Text)) ≡ false
    apart k = go (eqb Keyword k) refl
      where
        go : (b : Bool) → eqb Keyword k ≡ b → (b && (eqb k Punct || eqb k Text)) ≡ false
        go true e = let z : k ≡ 3 = sym (eqb-true Keyword k e) in rw z
        go false e = refl

glue_text : (t : Token) (us : List Token) → text (glue t us) ≡ t.text ++ text us
unfolding glue text
glue_text t [] = refl
glue_text t (u ∷ us) = go (joins t u)
  where
    go : (b : Bool) → text (cond b (tok (t.text ++ u.text) t.kind ∷ us) (t ∷ (u ∷ us))) ≡ t.text ++ (u.text ++ text us)
    go true = append_assoc t.text u.text (text us)
    go false = refl

merge_text : (ts : List Token) → text (merge ts) ≡ text ts
unfolding merge text
merge_text [] = refl
merge_text (t ∷ ts) = glue_text t (merge ts) ∙ ap (λ s. t.text ++ s) (merge_text ts)

-- What a header is

module _ (t a z : Piece) where
  -- what holds of every header
  module _ (P : Header → Type 0) (wh : (T : Test) → P (while_over T)) (fr : (T : Test) → P (for_over T a z)) where
    some_of : (h : ℕ) → (h ≡ 0 → ⊥) → P (header_of h t a z)
    unfolding header_of
    some_of zero e = absurd (e refl)
    some_of (suc zero) e = wh guard
    some_of (suc (suc zero)) e = wh always
    some_of (suc (suc (suc zero))) e = wh (leading t)
    some_of (suc (suc (suc (suc zero)))) e = fr guard
    some_of (suc (suc (suc (suc (suc zero))))) e = fr guard
    some_of (suc (suc (suc (suc (suc (suc zero)))))) e = fr always
    some_of (suc (suc (suc (suc (suc (suc (suc h))))))) e = fr (leading t)

-- A header starts with a keyword.

starts_keyword : List Token → Type 0
starts_keyword ts = eqb (get_or ts 0 no_token).kind Symbol ≡ false

merged_keyword : (s : List ℕ) (ts : List Token) → starts_keyword (merge (tok s Keyword ∷ ts))
unfolding starts_keyword merge
merged_keyword s ts = rw (glue_keyword s (merge ts))

module _ (S : List Line) (p t a z : Piece) (h : ℕ) (e : h ≡ 0 → ⊥) where
  header_first : starts_keyword (header_tokens S p (header_of h t a z))
  unfolding header_tokens while_tokens
  header_first = some_of t a z (λ H. starts_keyword (header_tokens S p H)) wh (λ T. merged_keyword (ascii "for") _) h e
    where
      wh : (T : Test) → starts_keyword (while_tokens S p T)
      wh guard = unfold starts_keyword in refl
      wh always = merged_keyword (ascii "while") _
      wh (leading q) = merged_keyword (ascii "while") _

-- and ends with `{`.

record Ends (ts : List Token) : Type 0 where
  front : List ℕ
  is : text ts ≡ front ++ ascii ") {"

text_append : (ts us : List Token) → text (ts ++ us) ≡ text ts ++ text us
unfolding text
text_append [] us = refl
text_append (t ∷ ts) us = ap (λ s. t.text ++ s) (text_append ts us) ∙ sym (append_assoc t.text (text ts) (text us))

ends_append : (ts us : List Token) → Ends us → Ends (ts ++ us)
ends_append ts us u = record { front = text ts ++ u.front; is = text_append ts us ∙ ap (λ s. text ts ++ s) u.is ∙ sym (append_assoc (text ts) u.front (ascii ") {")) }

ends_last : Ends (tok (ascii ") {") Punct ∷ [])
ends_last = record { front = []; is = unfold text in refl }

ends_merge : (ts : List Token) → Ends ts → Ends (merge ts)
ends_merge ts u = record { front = u.front; is = merge_text ts ∙ u.is }

ends_while : (c : List Token) → Ends (while_head c)
ends_while c = ends_append (tok (ascii "while") Keyword ∷ tok (ascii " (") Punct ∷ c) (tok (ascii ") {") Punct ∷ []) ends_last

module _ (S : List Line) (p t a z : Piece) (h : ℕ) (e : h ≡ 0 → ⊥) where
  header_end : Ends (header_tokens S p (header_of h t a z))
  unfolding header_tokens while_tokens
  header_end = some_of t a z (λ H. Ends (header_tokens S p H)) wh fr h e
    where
      wh : (T : Test) → Ends (while_tokens S p T)
      wh guard = ends_while (test_tokens S p guard)
      wh always = ends_merge (while_head (test_tokens S p always)) (ends_while (test_tokens S p always))
      wh (leading q) = ends_merge (while_head (test_tokens S p (leading q))) (ends_while (test_tokens S p (leading q)))

      fr : (T : Test) → Ends (for_head (piece_tokens S a) (test_tokens S p T) (piece_tokens S z))
      fr T =
          let A : List Token = tok (ascii "for") Keyword ∷ tok (ascii " (") Punct ∷ popped (piece_tokens S a) in
          let B : List Token = tok (ascii "; ") Punct ∷ test_tokens S p T in
          let D : List Token = tok (ascii "; ") Punct ∷ popped (piece_tokens S z) in
          ends_merge (((A ++ B) ++ D) ++ (tok (ascii ") {") Punct ∷ [])) (ends_append ((A ++ B) ++ D) (tok (ascii ") {") Punct ∷ []) ends_last)

never_back : (X h : List ℕ) → ((X ++ ascii ") {") ≟ (ascii "goto " ++ (h ++ ascii ";"))) ≡ false
never_back X h = ne_≟ (X ++ ascii ") {") (ascii "goto " ++ (h ++ ascii ";")) (λ q. clash q)
  where
    clash : X ++ ascii ") {" ≡ ascii "goto " ++ (h ++ ascii ";") → ⊥
    clash q =
        let Y : List ℕ = ascii "goto " ++ h in
        let r : X ++ ascii ") {" ≡ Y ++ ascii ";" = q ∙ sym (append_assoc (ascii "goto ") h (ascii ";")) in
        let n : length X + 2 ≡ length Y + 0 = omega (arith, ap length r, length-append X (ascii ") {"), length-append Y (ascii ";")) in
        let z : ◌≡◌ {A = ℕ} 123 59 = sym (get_or-append-add X (ascii ") {") 2 0) ∙ ap₂ (λ (s : List ℕ) (k : ℕ). get_or s k 0) r n ∙ get_or-append-add Y (ascii ";") 0 0 in
        omega arith

-- A word

module _ (C : List Line) (w h : ℕ) (q : h ≡ header_at w) where
  tokens_of : (line_of C w).tokens ≡ header_tokens C (piece_of (piece_at w)) (header_of h (piece_of (test_at w)) (piece_of (initialiser_at w)) (piece_of (step_at w)))
  unfolding planned plan_of
  tokens_of = rw q

  pub no_header_line : h ≡ 0 → (line_of C w).tokens ≡ (piece C (piece_at w)).tokens
  unfolding header_tokens header_of
  no_header_line e = tokens_of ∙ rw e

  pub label_piece : h ≡ 0 → (p : ℕ) (r : Bool) → p ≡ piece_at w → r ≡ is_label (piece C p) → r ≡ is_label (line_of C w)
  unfolding is_label
  label_piece e p r d f = rw (no_header_line e, ← d) f

  pub label_header : (h ≡ 0 → ⊥) → false ≡ is_label (line_of C w)
  unfolding is_label starts_keyword
  label_header e =
      let f : eqb (token (line_of C w) 0).kind Symbol ≡ false =
      ap (λ ts. eqb (get_or ts 0 no_token).kind Symbol) tokens_of ∙ header_first C (piece_of (piece_at w)) (piece_of (test_at w)) (piece_of (initialiser_at w)) (piece_of (step_at w)) h e in
      rw f (sym (and-false (eqb (length (line_of C w).tokens) 2 && ((token (line_of C w) 1).text ≟ ascii ":"))))

  module _ (g : List ℕ) (d i : ℕ) (k : i ≡ indent_at w) where
    module _ (f : i ≡ d) where
      at_indent : is_back g d (line_of C w) ≡ (text (line_of C w).tokens ≟ (ascii "goto " ++ (g ++ ascii ";")))
      at_indent =
          let e : eqb (line_of C w).indent d ≡ true = indent_is ∙ eq-eqb i d f in
          rw e
        where
          indent_is : eqb (line_of C w).indent d ≡ eqb i d
          indent_is = unfold planned plan_of in rw k

      pub back_piece : h ≡ 0 → (p : ℕ) (r : Bool) → p ≡ piece_at w → r ≡ (piece_text C p ≟ (ascii "goto " ++ (g ++ ascii ";"))) → r ≡ is_back g d (line_of C w)
      back_piece e p r x y = y ∙ sym (at_indent ∙ ap (λ ts. text ts ≟ (ascii "goto " ++ (g ++ ascii ";"))) (no_header_line e ∙ rw (← x)))

      pub back_header : (h ≡ 0 → ⊥) → false ≡ is_back g d (line_of C w)
      back_header e =
          let u = header_end C (piece_of (piece_at w)) (piece_of (test_at w)) (piece_of (initialiser_at w)) (piece_of (step_at w)) h e in
          sym (at_indent ∙ ap (λ s. s ≟ (ascii "goto " ++ (g ++ ascii ";"))) (ap text tokens_of ∙ u.is) ∙ never_back u.front g)

pub back_other : (C : List Line) (w : ℕ) (g : List ℕ) (d i : ℕ) → i ≡ indent_at w → (i ≡ d → ⊥) → false ≡ is_back g d (line_of C w)
unfolding planned plan_of
back_other C w g d i k f = rw (← k, ne_eqb i d f)

pub ruleset labels = (label_piece, label_header)

pub ruleset backs = (back_other, back_piece, back_header)

module _ (C : List Line) (w ind i : ℕ) (k : i ≡ indent_at w) where
  pub inside_deeper : ind < i → true ≡ in_block ind (line_of C w)
  unfolding planned plan_of
  inside_deeper f = rw (← k, lt-ltb ind i f)

  module _ (f : i ≤ ind) where
    pub inside_other : (i ≡ ind → ⊥) → false ≡ in_block ind (line_of C w)
    unfolding planned plan_of
    inside_other g = rw (← k, le-ltb ind i f, ne_eqb i ind g)

    pub inside_label : i ≡ ind → (r : Bool) → r ≡ is_label (line_of C w) → r ≡ in_block ind (line_of C w)
    inside_label g r x =
        let a : ltb ind (line_of C w).indent ≡ false = above ∙ le-ltb ind i f in
        let b : eqb (line_of C w).indent ind ≡ true = level ∙ eq-eqb i ind g in
        x ∙ sym (rw (a, b))
      where
        above : ltb ind (line_of C w).indent ≡ ltb ind i
        above = unfold planned plan_of in rw k

        level : eqb (line_of C w).indent ind ≡ eqb i ind
        level = unfold planned plan_of in rw k

pub ruleset insides = (inside_deeper, inside_other, inside_label)

pub ruleset lines = (labels, backs, insides)
