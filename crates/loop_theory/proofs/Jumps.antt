-- Labels, gotos, and the lines that `jump` rewrites.
--   no_goto                  a line without the keyword goto leads nowhere
--   label_has_no_goto, jump_line_has_no_goto
--                            a label and a rewritten line have none
--   label_tokens             the two tokens of a label
--   Leading l, leading       a line that leads somewhere: what stands before its goto, the goto, and at least one token behind
--   jump_line_no_label       a rewritten line is no label
--   JumpWord kw, jump_has    what holds of a line, and of it rewritten with `continue` or `break`, holds of what jump makes of it
-- Assumes nothing.
use Rattle.std.specs.Prelude.{Option, None, Some}
use Prim.Native.Nat.{ℕ, suc, ◌+◌, ◌≤◌}
use mathlib.Core.Path.{◌≡◌, refl, ap, ◌∙◌}
use mathlib.Core.Bool.{Bool, true, false, cond, ◌&&◌, not, and-false}
use mathlib.Core.List.{List, [], ◌∷◌, ◌++◌}
use native.Mathlib.Omega.{arith}
use native.Mathlib.Numerals.{add-one}
use lib.Dec.{eqb}
use borrow.Author.Tests.{eqb-true}
use lib.ListN.{length, drop, get_or, length-append}
use Rattle.definitions.specs.Lists.{◌>>=◌, any, all, position, find, take_while, ◌≟◌, ascii}
use Rattle.definitions.specs.Model.{Token, Line, tok, token, no_token, Keyword, Symbol, Punct}
use Rattle.definitions.specs.Statements.{is_kw, has_kw, is_label, first_symbol, goto_target}
use Rattle.definitions.specs.RecoverGotoLoops.{goes_to, jump_line, jump}
use Rattle.loop_theory.proofs.Cases.{true_false, true_unless, false_unless, and_split, or_split, ≟_true, if_has}
use Rattle.loop_theory.proofs.Places.{position_splits}
use Rattle.loop_theory.proofs.AnyAll.{none_append}
use Rattle.loop_theory.proofs.Ascii.{is_ascii}

-- Lines without a goto

no_position : {A : Type 0} (p : A → Bool) (xs : List A) → any p xs ≡ false → position p xs ≡ None
unfolding any position
no_position p [] e = refl
no_position p (x ∷ xs) e =
    let s = or_split (p x) (any p xs) e in
    rw (s.0, no_position p xs s.1)

pub no_goto : (q : List ℕ → Bool) (l : Line) → has_kw l (ascii "goto") ≡ false → goes_to q l ≡ false
unfolding has_kw goes_to goto_target
no_goto q l e = rw (no_position (is_kw (ascii "goto")) l.tokens e, goes_to, goto_target)

pub label_tokens : (l : Line) → is_label l ≡ true → (a : Token) × (b : Token) × (l.tokens ≡ a ∷ b ∷ []) × (a.kind ≡ Symbol) × (b.text ≡ ascii ":")
unfolding is_label
label_tokens l e =
    let s = and_split (eqb (length l.tokens) 2 && ((token l 1).text ≟ ascii ":")) (eqb (token l 0).kind Symbol) e in
    let r = and_split (eqb (length l.tokens) 2) ((token l 1).text ≟ ascii ":") s.0 in
    go l.tokens (eqb-true (length l.tokens) 2 r.0) (eqb-true (token l 0).kind Symbol s.1) (≟_true (token l 1).text (ascii ":") r.1)
  where
    go : (ts : List Token) → length ts ≡ 2 → (get_or ts 0 no_token).kind ≡ Symbol → (get_or ts 1 no_token).text ≡ ascii ":"
        → (a : Token) × (b : Token) × (ts ≡ a ∷ b ∷ []) × (a.kind ≡ Symbol) × (b.text ≡ ascii ":")
    go [] e p q = absurd (omega arith)
    go (a ∷ []) e p q = absurd (omega arith)
    go (a ∷ (b ∷ [])) e p q = (a, b, refl, p, q)
    go (a ∷ (b ∷ (c ∷ ts))) e p q = absurd (omega arith)

pub label_has_no_goto : (l : Line) → is_label l ≡ true → has_kw l (ascii "goto") ≡ false
unfolding has_kw any ◌≟◌
label_has_no_goto l e = let t = label_tokens l e in ap (any (is_kw (ascii "goto"))) t.2 ∙ rw (t.3, t.4, and-false (eqb t.1.kind Keyword))

-- what stands before the first goto of a line has none
none_before : {A : Type 0} (p : A → Bool) (xs : List A) → any p (take_while (λ x. not (p x)) xs) ≡ false
unfolding any take_while
none_before p [] = refl
none_before p (x ∷ xs) = go (p x) refl (none_before p xs)
  where
    go : (b : Bool) → p x ≡ b → any p (take_while (λ x. not (p x)) xs) ≡ false → any p (cond (not b) (x ∷ take_while (λ x. not (p x)) xs) []) ≡ false
    go true e r = refl
    go false e r = rw (e, r)

pub jump_line_has_no_goto : (kw : List ℕ) (l : Line) → is_kw (ascii "goto") (tok kw Keyword) ≡ false → has_kw (jump_line kw l) (ascii "goto") ≡ false
unfolding has_kw any
jump_line_has_no_goto kw l e =
    none_append (is_kw (ascii "goto")) (take_while (λ t. not (is_kw (ascii "goto") t)) l.tokens) (tok kw Keyword ∷ tok (ascii ";") Punct ∷ [])
    (none_before (is_kw (ascii "goto")) l.tokens) (rw e)

-- A line that leads somewhere: what stands before its goto, the goto, and at least one token behind.

abbrev pub before_goto : Line → List Token
before_goto l = take_while (λ t. not (is_kw (ascii "goto") t)) l.tokens

pub record Leading (l : Line) : Type 0 where
  pub goto : Token
  pub target : Token
  pub rest : List Token
  pub is_goto : goto.text ≡ ascii "goto"
  pub whole : l.tokens ≡ before_goto l ++ (goto ∷ (target ∷ rest))
  pub has : has_kw l (ascii "goto") ≡ true

pub leading : (q : List ℕ → Bool) (l : Line) → goes_to q l ≡ true → Leading l
unfolding goes_to goto_target first_symbol find
leading q l goes = at_goto (position (is_kw (ascii "goto")) l.tokens) refl goes
  where
    behind : (goto : Token) → is_kw (ascii "goto") goto ≡ true → (us : List Token) → l.tokens ≡ before_goto l ++ (goto ∷ us)
        → elim (first_symbol us) [ None ↦ false | Some t ↦ q t ] ≡ true → Leading l
    behind goto is [] w e = true_false e refl
    behind goto is (target ∷ rest) w e = record {
      goto = goto;
      target = target;
      rest = rest;
      is_goto = ≟_true goto.text (ascii "goto") (and_split (eqb goto.kind Keyword) (goto.text ≟ ascii "goto") is).1;
      whole = w;
      has = true_unless (has_kw l (ascii "goto")) (λ gone. true_false goes (no_goto q l gone));
    }

    at_goto : (o : Option ℕ) → position (is_kw (ascii "goto")) l.tokens ≡ o
        → elim (o >>= λ g. first_symbol (drop (g + 1) l.tokens)) [ None ↦ false | Some t ↦ q t ] ≡ true → Leading l
    at_goto None p e = true_false e refl
    at_goto (Some g) p e =
        let s = position_splits (is_kw (ascii "goto")) l.tokens g p in
        behind s.0 s.1 (drop (suc g) l.tokens) s.2 (rw add-one at e)

pub jump_line_no_label : (kw : List ℕ) (l : Line) → is_label (jump_line kw l) ≡ false
jump_line_no_label kw l =
    false_unless (is_label (jump_line kw l)) (λ is. let t = label_tokens (jump_line kw l) is in go (before_goto l) t.0 t.1 t.2 t.4)
  where
    go : (ts : List Token) (a b : Token) → ts ++ (tok kw Keyword ∷ tok (ascii ";") Punct ∷ []) ≡ a ∷ b ∷ [] → b.text ≡ ascii ":"
        → is_label (jump_line kw l) ≡ false
    go [] a b e colon =
        let semicolon : tok (ascii ";") Punct ≡ b = cc in
        absurd (omega (arith, ap (λ s. get_or s 0 0) (ap (λ (t : Token). t.text) semicolon ∙ colon)))
    go (t ∷ ts) a b e colon = absurd (omega (arith, ap length e, length-append ts (tok kw Keyword ∷ tok (ascii ";") Punct ∷ [])))

-- The keywords that take a goto's place

pub record JumpWord (kw : List ℕ) : Type 0 where
  pub other : is_kw (ascii "goto") (tok kw Keyword) ≡ false
  pub short : length kw ≤ 8
  pub plain : all is_ascii kw ≡ true

pub jump_has : (P : Line → Type 0) (name : List ℕ) (exit : Option (List ℕ)) (l : Line)
    → ((kw : List ℕ) → JumpWord kw → (q : List ℕ → Bool) → goes_to q l ≡ true → P (jump_line kw l)) → (goes_to (λ t. t ≟ name) l ≡ false → P l)
    → P (jump name exit l)
unfolding jump ◌≟◌ all
jump_has P name exit l rewritten left =
    let back : List ℕ → Bool = λ t. t ≟ name in
    let out : List ℕ → Bool = λ t. elim exit [ None ↦ false | Some e ↦ t ≟ e ] in
    if_has P (goes_to back l) (rewritten (ascii "continue") (record { other = refl; short = omega arith; plain = refl }) back) λ elsewhere.
    if_has P (goes_to out l) (rewritten (ascii "break") (record { other = refl; short = omega arith; plain = refl }) out) λ _. left elsewhere
