-- Initialisers, as rules for `search`.
--   init_lines        a line as it is
--   cut_lines         a line that was cut at its first goto, by its tests
--   init_pieces       a piece, by its form
-- Assumes nothing.
use Rattle.std.specs.Prelude.{Option, None, Some}
use Rattle.std.specs.Option.{option_map}
use mathlib.Core.Path.{◌≡◌, refl, sym, ap, ◌∙◌}
use mathlib.Core.Bool.{Bool, true, false, ◌&&◌, ◌||◌, not, cond, and-false, and_assoc, or-false, or_assoc}
use mathlib.Core.List.{List, [], ◌∷◌, ◌++◌, append-nil, append_assoc}
use Prim.Native.Nat.{ℕ, zero, suc, ◌+◌, ◌-◌, ◌≤◌, ◌<◌}
use native.Mathlib.Nat.{not-suc-le-zero, le_of_suc-le-suc}
use native.Mathlib.Omega.{arith}
use borrow.Author.Tests.{eq-eqb, ne_eqb, le-leb, lt-leb, lt-ltb, le-ltb}
use lib.Dec.{eqb, leb, ltb}
use lib.ListN.{length, get_or, take, drop, length-append}
use lib.Seq.{get_or-take, length-take-le, take_at}
use Rattle.definitions.specs.Lists.{◌>>=◌, require, is_some, any, last, ◌≟◌, starts_with, ascii}
use Rattle.definitions.specs.Model.{Token, Line, tok, pseudo_line, token, line, no_token, Register, Keyword, Symbol, Punct}
use Rattle.definitions.specs.Statements.{Assignment, is_kw, is_callee, callee, call_at, assignment, unless_empty, is_empty, without_semicolon}
use Rattle.definitions.specs.Family.{Family, fam_of, names}
use Rattle.text.proofs.Loops.{any_found, any_next, any_end}
use Rattle.loop_theory.proofs.Cases.{true_false}
use Rattle.family.specs.Register.{names_family}
use Rattle.assignment.specs.Assignments.{side, assigned}
use Rattle.assignment.specs.declared.Side.{Side}
use Rattle.plan.specs.ForLoop.{inits, passes}
use Rattle.pieces.specs.Pieces.{piece, origin, cut_place, jumped, comes_before, Says}
use Rattle.pieces.specs.declared.piece.Piece.TheVariants.{Kept, Continued, Broken, Closed}
use Rattle.pieces.specs.Initial.{cut_from, cut_assigns, calls_next, cut_calls, cut_inits, cut_passes}
use Rattle.pieces.proofs.Forms.{ltb_suc, place_within, kept_piece, continued_piece, broken_piece, closed_piece}

-- A line as it is

module _ (p : Token → Bool) (l : Line) (a : Option Side) (e : assigned l a ≡ assignment l) where
  pub inits_none : a ≡ None → false ≡ inits p l
  unfolding inits
  inits_none q = rw (← e, q, inits)

  pub passes_none : a ≡ None → false ≡ passes p l
  unfolding passes
  passes_none q = rw (← e, q, passes)

  module _ (u : Side) (q : a ≡ Some u) (b : Bool) (n : b ≡ p (token l 0)) where
    pub inits_other : b ≡ false → false ≡ inits p l
    unfolding inits
    inits_other f = rw (← e, q, inits, ← n, f)

    module _ (f : b ≡ true) (c : Bool) (m : c ≡ any p (side l u.from u.to)) where
      pub inits_reads : c ≡ true → false ≡ inits p l
      unfolding inits
      inits_reads g = rw (← e, q, inits, ← n, f, ← m, g)

      pub inits_is : c ≡ false → true ≡ inits p l
      unfolding inits
      inits_is g = rw (← e, q, inits, ← n, f, ← m, g)

    pub passes_own : b ≡ true → false ≡ passes p l
    unfolding passes
    passes_own f = rw (← e, q, passes, ← n, f)

    module _ (f : b ≡ false) (c : Bool) (m : c ≡ any p l.tokens) where
      pub passes_names : c ≡ true → false ≡ passes p l
      unfolding passes
      passes_names g = rw (← e, q, passes, ← n, f, ← m, g)

      module _ (g : c ≡ false) (o : Option ℕ) (uc : o ≡ call_at l) where
        pub passes_calls : (k : ℕ) → o ≡ Some k → false ≡ passes p l
        unfolding passes
        passes_calls k t = rw (← e, q, passes, ← n, f, ← m, g, ← uc, t)

        pub passes_is : o ≡ None → true ≡ passes p l
        unfolding passes
        passes_is t = rw (← e, q, passes, ← n, f, ← m, g, ← uc, t)

pub ruleset init_lines = (inits_none, inits_other, inits_reads, inits_is, passes_none, passes_own, passes_names, passes_calls, passes_is)

-- A line that was cut, by its tests

within : (l : Line) → cut_place l ≤ length l.tokens
unfolding cut_place
within l = place_within (is_kw (ascii "goto")) l.tokens

module _ (p : Token → Bool) (l : Line) (n a : ℕ) (c : n ≡ cut_place l) (r : Bool) (inv : r ≡ any p (cut_from l a)) where
  size : n ≡ length (take (cut_place l) l.tokens)
  size = c ∙ sym (length-take-le (cut_place l) l.tokens (within l))

  module _ (b : Bool) (h : a < n) (q : b ≡ p (token l a)) where
    there : b ≡ p (get_or (take (cut_place l) l.tokens) a no_token)
    there = q ∙ ap p (sym (get_or-take (cut_place l) l.tokens a no_token (omega arith)))

    pub names_found : b ≡ true → true ≡ r
    names_found f = any_found p (take (cut_place l) l.tokens) a n size r inv no_token b h there f

    pub names_next : b ≡ false → r ≡ any p (cut_from l (a + 1))
    names_next f = any_next p (take (cut_place l) l.tokens) a n size r inv no_token b h there f

  pub names_end : n ≤ a → false ≡ r
  names_end h = any_end p (take (cut_place l) l.tokens) a n size r inv h

pub ruleset cut_tokens = (names_found, names_next, names_end)

module _ (l : Line) (n : ℕ) (c : n ≡ cut_place l) where
  pub assigns_short : n < 2 → false ≡ cut_assigns l
  unfolding cut_assigns
  assigns_short h = rw (← c, lt-leb 2 n h)

  module _ (h : 2 ≤ n) (k : ℕ) (q : k ≡ (token l 0).kind) where
    pub assigns_other : (k ≡ 1 → ⊥) → false ≡ cut_assigns l
    unfolding cut_assigns
    assigns_other f = rw (← c, le-leb 2 n h, ← q, ne_eqb k 1 f)

    module _ (f : k ≡ 1) (j : ℕ) (w : j ≡ (token l 1).kind) where
      pub assigns_no : (j ≡ 6 → ⊥) → false ≡ cut_assigns l
      unfolding cut_assigns
      assigns_no g = rw (← c, le-leb 2 n h, ← q, eq-eqb k 1 f, ← w, ne_eqb j 6 g)

      pub assigns_by : j ≡ 6 → (s : List ℕ) (r : Bool) → s ≡ (token l 1).text → r ≡ starts_with (ascii " = ") s → r ≡ cut_assigns l
      unfolding cut_assigns
      assigns_by g s r x y = rw (← c, le-leb 2 n h, ← q, eq-eqb k 1 f, ← w, eq-eqb j 6 g, ← x) y

module _ (p : Token → Bool) (l : Line) (a : Bool) (e : a ≡ cut_assigns l) where
  pub cut_inits_none : a ≡ false → false ≡ cut_inits p l
  unfolding cut_inits
  cut_inits_none f = rw (← e, f)

  pub cut_passes_none : a ≡ false → false ≡ cut_passes p l
  unfolding cut_passes
  cut_passes_none f = rw (← e, f)

  module _ (f : a ≡ true) where
    module _ (b : Bool) (q : b ≡ p (token l 0)) where
      pub cut_inits_other : b ≡ false → false ≡ cut_inits p l
      unfolding cut_inits
      cut_inits_other g = rw (← e, f, ← q, g)

      module _ (g : b ≡ true) (c : Bool) (w : c ≡ any p (cut_from l 2)) where
        pub cut_inits_reads : c ≡ true → false ≡ cut_inits p l
        unfolding cut_inits
        cut_inits_reads h = rw (← e, f, ← q, g, ← w, h)

        pub cut_inits_is : c ≡ false → true ≡ cut_inits p l
        unfolding cut_inits
        cut_inits_is h = rw (← e, f, ← q, g, ← w, h)

    module _ (c : Bool) (w : c ≡ any p (cut_from l 0)) where
      pub cut_passes_names : c ≡ true → false ≡ cut_passes p l
      unfolding cut_passes
      cut_passes_names h = rw (← e, f, ← w, h)

      module _ (h : c ≡ false) (b : Bool) (x : b ≡ cut_calls l) where
        pub cut_passes_calls : b ≡ true → false ≡ cut_passes p l
        unfolding cut_passes
        cut_passes_calls g = rw (← e, f, ← w, h, ← x, g)

        pub cut_passes_is : b ≡ false → true ≡ cut_passes p l
        unfolding cut_passes
        cut_passes_is g = rw (← e, f, ← w, h, ← x, g)

before_zero : (o : Option ℕ) → comes_before o 0 ≡ false
before_zero None = refl
before_zero (Some k) = le-ltb k 0 (omega arith)

module _ (l : Line) (n : ℕ) (c : n ≡ cut_place l) where
  pub calls_empty : n ≡ 0 → false ≡ cut_calls l
  unfolding cut_calls
  calls_empty e =
      let z : cut_place l ≡ 0 = sym c ∙ e in
      let y : 0 - 1 ≡ 0 = omega arith in
      rw (z, y, before_zero (call_at l), le-ltb 0 0 (omega arith))

  module _ (h : n ≡ 0 → ⊥) (o : Option ℕ) (b : Bool) (u : o ≡ call_at l) (x : b ≡ comes_before o (n - 1)) where
    pub calls_before : b ≡ true → true ≡ cut_calls l
    unfolding cut_calls
    calls_before f = rw (← c, ← u, ← x, f)

    module _ (f : b ≡ false) (k : ℕ) (q : k ≡ (token l (n - 1)).kind) where
      pub calls_other : (k ≡ 3 → ⊥) → false ≡ cut_calls l
      unfolding cut_calls
      calls_other g = rw (← c, ← u, ← x, f, lt-ltb 0 n (omega arith), ← q, ne_eqb k 3 g)

      pub calls_last : k ≡ 3 → (s : List ℕ) (r : Bool) → s ≡ (token l (n - 1)).text → r ≡ starts_with (ascii "((void") s → r ≡ cut_calls l
      unfolding cut_calls
      calls_last g s r y z = rw (← c, ← u, ← x, f, lt-ltb 0 n (omega arith), ← q, eq-eqb k 3 g, ← y) z

pub ruleset cut_callees = (calls_empty, calls_before, calls_other, calls_last)

pub ruleset cut_lines = (assigns_short, assigns_other, assigns_no, assigns_by, cut_inits_none, cut_inits_other, cut_inits_reads, cut_inits_is, cut_passes_none, cut_passes_names, cut_passes_calls, cut_passes_is)

-- What the two tokens behind do to an assignment

module _ (kw : List ℕ) where
  abbrev ending : List Token
  ending = tok kw Keyword ∷ tok (ascii ";") Punct ∷ []

last_snoc : (ts : List Token) (u : Token) → last (ts ++ (u ∷ [])) ≡ Some u
unfolding last
last_snoc [] u = refl
last_snoc (t ∷ []) u = refl
last_snoc (t ∷ (v ∷ ts)) u = last_snoc (v ∷ ts) u

without : (ts : List Token) → without_semicolon (ts ++ (tok (ascii ";") Punct ∷ [])) ≡ Some ts
unfolding without_semicolon ◌≟◌
without ts =
    let n : length (ts ++ (tok (ascii ";") Punct ∷ [])) ≡ length ts + 1 = length-append ts (tok (ascii ";") Punct ∷ []) in
    let k : length ts ≡ length (ts ++ (tok (ascii ";") Punct ∷ [])) - 1 = omega arith in
    rw (last_snoc ts (tok (ascii ";") Punct), take_at ts (tok (ascii ";") Punct ∷ []) (length (ts ++ (tok (ascii ";") Punct ∷ [])) - 1) k, append-nil ts)

starts : List Token → Bool
starts ts = eqb (get_or ts 0 no_token).kind Register && (eqb (get_or ts 1 no_token).kind Punct && starts_with (ascii " = ") (get_or ts 1 no_token).text)

taken : List ℕ → List Token → ℕ → Assignment
taken kw ts n = record { lhs = get_or ts 0 no_token; expr = unless_empty (tok (drop 3 (get_or ts 1 no_token).text) Punct) ++ (drop 2 (take n ts) ++ (tok kw Keyword ∷ [])) }

cut_assignment : (kw : List ℕ) (a : Option ℕ) (i : ℕ) (ts : List Token) (n : ℕ) → n ≤ length ts
    → assignment (pseudo_line a i (take n ts ++ ending kw)) ≡ cond (leb 2 n && starts ts) (Some (taken kw ts n)) None
unfolding assignment starts taken
cut_assignment kw a i ts zero h = refl
cut_assignment kw a i [] (suc n) h = absurd (not-suc-le-zero h)
cut_assignment kw a i (t ∷ ts) (suc zero) h = rw (and-false (eqb t.kind Register))
cut_assignment kw a i (t ∷ []) (suc (suc n)) h = absurd (omega arith)
cut_assignment kw a i (t ∷ (u ∷ ts)) (suc (suc n)) h =
    let U = unless_empty (tok (drop 3 u.text) Punct) in
    let D = take n ts in
    let e : U ++ (D ++ ending kw) ≡ (U ++ (D ++ (tok kw Keyword ∷ []))) ++ (tok (ascii ";") Punct ∷ []) =
    ap (λ x. U ++ x) (sym (append_assoc D (tok kw Keyword ∷ []) (tok (ascii ";") Punct ∷ []))) ∙ sym (append_assoc U (D ++ (tok kw Keyword ∷ [])) (tok (ascii ";") Punct ∷ [])) in
    let m : 1 ≤ length (U ++ (D ++ (tok kw Keyword ∷ []))) = omega (arith, length-append U (D ++ (tok kw Keyword ∷ [])), length-append D (tok kw Keyword ∷ [])) in
    rw (le-leb 2 (suc (suc (length (D ++ ending kw)))) (omega arith), le-leb 2 (suc (suc n)) (omega arith), e, without (U ++ (D ++ (tok kw Keyword ∷ []))), le-leb 1 (length (U ++ (D ++ (tok kw Keyword ∷ [])))) m)
    (go (eqb t.kind Register) (eqb u.kind Punct) (starts_with (ascii " = ") u.text) (record { lhs = t; expr = U ++ (D ++ (tok kw Keyword ∷ [])) }))
  where
    go : (x y z : Bool) (r : Assignment) → (require ((x && y) && z) >>= λ _. Some r) ≡ cond (x && (y && z)) (Some r) None
    go true true true r = refl
    go true true false r = refl
    go true false z r = refl
    go false y z r = refl

-- what is called
cut_callee : (kw : List ℕ) → starts_with (ascii "((void") kw ≡ false → (ts : List Token) (n : ℕ) → n ≤ length ts
    → is_some (callee (take n ts ++ ending kw)) ≡ (comes_before (callee ts) (n - 1) || (ltb 0 n && calls_next (get_or ts (n - 1) no_token)))
unfolding callee
cut_callee kw w ts zero h =
    let y : 0 - 1 ≡ 0 = omega arith in
    rw (w, y, before_zero (callee ts), le-ltb 0 0 (omega arith))
cut_callee kw w [] (suc n) h = absurd (not-suc-le-zero h)
cut_callee kw w (t ∷ ts) (suc zero) h =
    let y : 1 - 1 ≡ 0 = omega arith in
    rw (w, y, before_zero (callee (t ∷ ts)), and-false (eqb t.kind Symbol)) (go (eqb t.kind Keyword && starts_with (ascii "((void") t.text))
  where
    go : (b : Bool) → is_some {A = ℕ} (cond b (Some 0) None) ≡ b
    go true = refl
    go false = refl
cut_callee kw w (t ∷ []) (suc (suc n)) h = absurd (omega arith)
cut_callee kw w (t ∷ (u ∷ ts)) (suc (suc n)) h =
    let z : suc (suc n) - 1 ≡ suc n = omega arith in
    let y : suc n - 1 ≡ n = omega arith in
    rw (z, lt-ltb 0 (suc (suc n)) (omega arith))
    (go (is_callee t u) (callee (u ∷ (take n ts ++ ending kw))) (callee (u ∷ ts)) (rw (y, lt-ltb 0 (suc n) (omega arith)) at (cut_callee kw w (u ∷ ts) (suc n) (le_of_suc-le-suc h))))
  where
    go : (b : Bool) (o v : Option ℕ) → is_some o ≡ (comes_before v n || calls_next (get_or (u ∷ ts) n no_token))
        → is_some (cond b (Some 0) (option_map (1 +◌) o)) ≡ (comes_before (cond b (Some 0) (option_map (1 +◌) v)) (suc n) || calls_next (get_or (u ∷ ts) n no_token))
    go true o v e = rw (lt-ltb 0 (suc n) (omega arith))
    go false None None e = e
    go false None (Some k) e = let z : 1 + k ≡ suc k = omega arith in e ∙ rw (ltb_suc k n, z)
    go false (Some j) None e = e
    go false (Some j) (Some k) e = let z : 1 + k ≡ suc k = omega arith in e ∙ rw (ltb_suc k n, z)

any_append : (p : Token → Bool) (ts us : List Token) → any p (ts ++ us) ≡ (any p ts || any p us)
unfolding any
any_append p [] us = refl
any_append p (t ∷ ts) us = rw (any_append p ts us) (sym (or_assoc (p t) (any p ts) (any p us)))

-- `passes` by the assignment
unfoldable passes_of : (Token → Bool) → Line → Option Assignment → Bool
passes_of p m None = false
passes_of p m (Some r) = not (p r.lhs) && (not (any p m.tokens) && not (is_some (call_at m)))

passes_by : (p : Token → Bool) (m : Line) (o : Option Assignment) → assignment m ≡ o → passes p m ≡ passes_of p m o
unfolding passes passes_of
passes_by p m None e = rw (e, passes)
passes_by p m (Some r) e = rw (e, passes)

-- a line that names nothing does not name it in front
own : (p : Token → Bool) (n : ℕ) (ts : List Token) → leb 2 n ≡ true → n ≤ length ts → (not (p (get_or ts 0 no_token)) && not (any p (take n ts))) ≡ not (any p (take n ts))
unfolding any
own p zero ts e h = true_false {b = false} e refl
own p (suc n) [] e h = absurd (not-suc-le-zero h)
own p (suc n) (t ∷ ts) e h = by (p t) (any p (take n ts))
  where
    by : (x y : Bool) → (not x && not (x || y)) ≡ not (x || y)
    by true y = refl
    by false y = refl

module _ (p : Token → Bool) (kw : List ℕ) (plain : (s : List ℕ) (k : ℕ) → eqb k Register ≡ false → p (tok s k) ≡ false) where
  none_first : (s : List ℕ) → any p (unless_empty (tok s Punct)) ≡ false
  unfolding any
  none_first s = go (is_empty (tok s Punct))
    where
      go : (b : Bool) → any p (cond b [] (tok s Punct ∷ [])) ≡ false
      go true = refl
      go false = rw (plain s Punct refl)

  right_side : (ts : List Token) (n : ℕ) → any p (taken kw ts n).expr ≡ any p (drop 2 (take n ts))
  unfolding taken any
  right_side ts n =
      any_append p (unless_empty (tok (drop 3 (get_or ts 1 no_token).text) Punct)) (drop 2 (take n ts) ++ (tok kw Keyword ∷ []))
      ∙ rw (none_first (drop 3 (get_or ts 1 no_token).text), any_append p (drop 2 (take n ts)) (tok kw Keyword ∷ []), plain kw Keyword refl)
      (or-false (any p (drop 2 (take n ts))))

  all_tokens : (ts : List Token) → any p (ts ++ ending kw) ≡ any p ts
  unfolding any
  all_tokens ts = any_append p ts (ending kw) ∙ rw (plain kw Keyword refl, plain (ascii ";") Punct refl) (or-false (any p ts))

  module _ (a : Option ℕ) (i : ℕ) (l : Line) where
    cut_inits_jumped : inits p (pseudo_line a i (jumped kw l)) ≡ cut_inits p l
    unfolding inits cut_inits cut_assigns starts
    cut_inits_jumped =
        rw (cut_assignment kw a i l.tokens (cut_place l) (within l), inits) (go (leb 2 (cut_place l) && starts l.tokens))
      where
        go : (b : Bool) → ◌≡◌ {A = Bool} (elim (cond b (Some (taken kw l.tokens (cut_place l))) None) [ None ↦ false | Some r ↦ p r.lhs && not (any p r.expr) ])
            (b && (p (token l 0) && not (any p (drop 2 (take (cut_place l) l.tokens)))))
        go true = unfold taken in ap (λ x. p (token l 0) && not x) (right_side l.tokens (cut_place l))
        go false = refl

    -- what is left calls
    left_calls : Bool
    left_calls = comes_before (callee l.tokens) (cut_place l - 1) || (ltb 0 (cut_place l) && calls_next (token l (cut_place l - 1)))

    cut_passes_jumped : starts_with (ascii "((void") kw ≡ false → passes p (pseudo_line a i (jumped kw l)) ≡ cut_passes p l
    unfolding cut_passes cut_assigns cut_calls starts left_calls
    cut_passes_jumped w =
        passes_by p (pseudo_line a i (jumped kw l)) (cond (leb 2 (cut_place l) && starts l.tokens) (Some (taken kw l.tokens (cut_place l))) None)
        (cut_assignment kw a i l.tokens (cut_place l) (within l))
        ∙ go (leb 2 (cut_place l)) (starts l.tokens) refl (all_tokens (take (cut_place l) l.tokens)) (cut_callee kw w l.tokens (cut_place l) (within l))
      where
        go : (b s : Bool) → leb 2 (cut_place l) ≡ b → any p (jumped kw l) ≡ any p (take (cut_place l) l.tokens) → is_some (callee (jumped kw l)) ≡ left_calls
            → passes_of p (pseudo_line a i (jumped kw l)) (cond (b && s) (Some (taken kw l.tokens (cut_place l))) None)
            ≡ ((b && s) && (not (any p (take (cut_place l) l.tokens)) && not left_calls))
        go true true e x y =
            unfold passes_of taken in
            rw (x, y)
            (sym (and_assoc (not (p (token l 0))) (not (any p (take (cut_place l) l.tokens))) (not left_calls))
            ∙ ap (λ z. z && not left_calls) (own p (cut_place l) l.tokens e (within l)))
        go true false e x y = unfold passes_of in refl
        go false s e x y = unfold passes_of in refl

names_plain : (o : Option Family) (s : List ℕ) (k : ℕ) → eqb k Register ≡ false → names_family o (tok s k) ≡ false
names_plain None s k e = refl
names_plain (Some f) s k e = named (fam_of (tok s k)) (unfold fam_of in rw e) refl
  where
    named : (o : Option Family) → fam_of (tok s k) ≡ None → fam_of (tok s k) ≡ o → names f.name (tok s k) ≡ false
    named o q r = unfold names in rw (q, names)

module _ (o : Option Family) (C : List Line) (q i : ℕ) where
  pub inits_kept : Says q (Kept i) → (r : Bool) → r ≡ inits (names_family o) (line C i) → r ≡ inits (names_family o) (piece C q)
  unfolding inits assignment
  inits_kept s r d = rw (kept_piece C q s.form, ← s.line) d

  pub inits_continued : Says q (Continued i) → (r : Bool) → r ≡ cut_inits (names_family o) (line C i) → r ≡ inits (names_family o) (piece C q)
  inits_continued s r d =
      rw s.line at d ∙ sym (cut_inits_jumped (names_family o) (ascii "continue") (names_plain o) None 1 (origin C q))
      ∙ ap (λ ts. inits (names_family o) (pseudo_line None 1 ts)) (sym (continued_piece C q s.form))

  pub inits_broken : Says q (Broken i) → (r : Bool) → r ≡ cut_inits (names_family o) (line C i) → r ≡ inits (names_family o) (piece C q)
  inits_broken s r d =
      rw s.line at d ∙ sym (cut_inits_jumped (names_family o) (ascii "break") (names_plain o) None 1 (origin C q))
      ∙ ap (λ ts. inits (names_family o) (pseudo_line None 1 ts)) (sym (broken_piece C q s.form))

  pub inits_closed : Says q (Closed i) → false ≡ inits (names_family o) (piece C q)
  unfolding inits assignment
  inits_closed s = rw (closed_piece C q s.form)

  pub passes_kept : Says q (Kept i) → (r : Bool) → r ≡ passes (names_family o) (line C i) → r ≡ passes (names_family o) (piece C q)
  unfolding passes assignment
  passes_kept s r d = rw (kept_piece C q s.form, ← s.line) d

  pub passes_continued : Says q (Continued i) → (r : Bool) → r ≡ cut_passes (names_family o) (line C i) → r ≡ passes (names_family o) (piece C q)
  passes_continued s r d =
      rw s.line at d ∙ sym (cut_passes_jumped (names_family o) (ascii "continue") (names_plain o) None 1 (origin C q) (unfold starts_with in refl))
      ∙ ap (λ ts. passes (names_family o) (pseudo_line None 1 ts)) (sym (continued_piece C q s.form))

  pub passes_broken : Says q (Broken i) → (r : Bool) → r ≡ cut_passes (names_family o) (line C i) → r ≡ passes (names_family o) (piece C q)
  passes_broken s r d =
      rw s.line at d ∙ sym (cut_passes_jumped (names_family o) (ascii "break") (names_plain o) None 1 (origin C q) (unfold starts_with in refl))
      ∙ ap (λ ts. passes (names_family o) (pseudo_line None 1 ts)) (sym (broken_piece C q s.form))

  pub passes_closed : Says q (Closed i) → false ≡ passes (names_family o) (piece C q)
  unfolding passes assignment
  passes_closed s = rw (closed_piece C q s.form)

pub ruleset init_pieces = (inits_kept, inits_continued, inits_broken, inits_closed, passes_kept, passes_continued, passes_broken, passes_closed)

pub ruleset initial = (init_lines, cut_tokens, cut_callees, cut_lines, init_pieces)
