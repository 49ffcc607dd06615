-- `for_loop` by its parts, and the condition of a while header read again.
--   init_is               `init_from` is `initialiser`
--   for_none, for_parts   `for_loop` where there is no end of the body; else by its tests and its initialiser
--   whole c               no token of the condition c is empty
--   condition_whole       no token of a condition that was read is empty
--   while_condition       the condition of a while header that is not merged is the one that it was made of
-- Assumes nothing.
use Rattle.std.specs.Prelude.{Option, None, Some, slice_get}
use Prim.Native.Nat.{ℕ, zero, suc, ◌+◌, ◌-◌, ◌<◌}
use mathlib.Core.Path.{◌≡◌, refl, sym, ap, subst, ◌∙◌}
use mathlib.Core.Bool.{Bool, true, false, cond, ◌&&◌, ◌||◌, not}
use mathlib.Core.List.{List, [], ◌∷◌, ◌++◌, append-nil}
use borrow.Author.Tests.{lt-ltb}
use lib.Dec.{eqb}
use lib.ListN.{drop, get_or}
use Rattle.definitions.specs.Lists.{◌>>=◌, require, is_some, or_else, any, position, position_from, first, last, filter, part, on_first, on_last, ◌≟◌, starts_with, ascii}
use Rattle.definitions.specs.Model.{Token, Line, tok, no_token, pseudo_line, line, token, Keyword, Punct}
use Rattle.definitions.specs.Family.{Family, fam_of, names}
use Rattle.definitions.specs.Statements.{Assignment, is_kw, is_empty, call_at, assignment}
use Rattle.definitions.specs.Condition.{cut_front, cut_end, closing, condition}
use Rattle.definitions.specs.ToFor.{initialiser, for_loop}
use Rattle.definitions.specs.Passes.{while_head}
use Rattle.family.specs.Register.{names_family}
use Rattle.loop_theory.proofs.Cases.{IfSome, do_has, some_same}
use Rattle.plan.specs.ForLoop.{inits, passes, init_from, ends, has_continue, closed_body, steps_body, for_tests, for_made}

-- The initialiser

module _ (v : List ℕ) where
  looked : (o : Option Assignment) (l : Line) (e : assignment l ≡ o) (b : Bool) (k : ℕ) (earlier : Option ℕ)
      → cond (b && inits (names v) l) (Some k) (cond (b && passes (names v) l) earlier None)
      ≡ (o >>= λ a. require b >>= λ _.
      cond (names v a.lhs) (cond (any (names v) a.expr) None (Some k))
      (cond (any (names v) l.tokens || is_some (call_at l)) None earlier))
  unfolding inits passes
  looked None l e true k earlier = rw (e, inits, passes)
  looked None l e false k earlier = refl
  looked (Some a) l e false k earlier = refl
  looked (Some a) l e true k earlier = rw (e, inits, passes) (go (names v a.lhs) (any (names v) a.expr) (any (names v) l.tokens) (is_some (call_at l)))
    where
      go : (x y t u : Bool) → cond (x && not y) (Some k) (cond (not x && (not t && not u)) earlier None)
          ≡ cond x (cond y None (Some k)) (cond (t || u) None earlier)
      go true true t u = refl
      go true false t u = refl
      go false y true u = refl
      go false y false true = refl
      go false y false false = refl

  pub init_is : (L : List Line) (ind n k : ℕ) → init_from (names v) L ind n k ≡ initialiser L ind v n k
  unfolding init_from initialiser
  init_is L ind zero k = refl
  init_is L ind (suc n) zero = refl
  init_is L ind (suc n) (suc k) =
      ap (λ o. cond (eqb (line L k).indent ind && inits (names v) (line L k)) (Some k) (cond (eqb (line L k).indent ind && passes (names v) (line L k)) o None)) (init_is L ind n k)
      ∙ looked (assignment (line L k)) (line L k) refl (eqb (line L k).indent ind) k (initialiser L ind v n k)

-- The parts

any_none : (c : List Token) → any (names_family None) c ≡ false
unfolding any
any_none [] = refl
any_none (t ∷ c) = any_none c

first_family : {X : Type 0} (ts : List Token) (f : Family → Option X) → (first ts >>= λ t. fam_of t >>= f) ≡ (fam_of (get_or ts 0 no_token) >>= f)
unfolding fam_of
first_family [] f = refl
first_family (t ∷ ts) f = refl

module _ {X : Type 0} (L : List Line) (ind w : ℕ) (c : List Token) (D : Bool) (K : ℕ → Option X) where
  tests : (o : Option Family) (A B : Bool)
      → (require A >>= λ _. o >>= λ v. require B >>= λ _. require (any (names v.name) c && D) >>= λ _. initialiser L ind v.name 4 w >>= K)
      ≡ (cond (A && (B && (any (names_family o) c && D))) (init_from (names_family o) L ind 4 w) None >>= K)
  tests o false B = refl
  tests None true false = refl
  tests None true true = rw (any_none c)
  tests (Some v) true false = refl
  tests (Some v) true true = go (any (names v.name) c) D
    where
      go : (x y : Bool) → (require (x && y) >>= λ _. initialiser L ind v.name 4 w >>= K) ≡ (cond (x && y) (init_from (names v.name) L ind 4 w) None >>= K)
      go true true = ap (◌>>= K) (sym (init_is v.name L ind 4 w))
      go true false = refl
      go false y = refl

module _ (L : List Line) (w : ℕ) (c : List Token) (h : 0 < w) (q : condition (line L w) (ascii "while") ≡ Some c) where
  pub for_none : position_from (w + 1) (ends (line L w).indent) L ≡ None → for_loop L w ≡ None
  unfolding for_loop
  for_none e = rw (lt-ltb 0 w h, q, e)

  pub for_parts : (e : ℕ) → position_from (w + 1) (ends (line L w).indent) L ≡ Some e
      → for_loop L w
      ≡ (let p = names_family (fam_of (token (line L (e - 1)) 0)) in
      cond (for_tests L w e c p) (init_from p L (line L w).indent 4 w) None >>= λ k. Some (for_made L w e k c))
  unfolding for_loop
  for_parts e f =
      let step = line L (e - 1) in
      let K : ℕ → Option (List Line) = λ k. Some (for_made L w e k c) in
      let D = not (any has_continue (part (w + 1) e L)) in
      rw (lt-ltb 0 w h, q, f)
      (ap (λ o. require (closed_body L w e) >>= λ _. o)
      (first_family step.tokens (λ v. require (steps_body L w e) >>= λ _. require (any (names v.name) c && D) >>= λ _. initialiser L (line L w).indent v.name 4 w >>= K))
      ∙ tests L (line L w).indent w c D K (fam_of (token step 0)) (closed_body L w e) (steps_body L w e))

-- The condition of a header, read again

abbrev pub whole : List Token → Type 0
whole c = filter (λ t. not (is_empty t)) c ≡ c

module _ {A : Type 0} where
  last_snoc : (x : A) (xs : List A) (y : A) → last (x ∷ (xs ++ (y ∷ []))) ≡ Some y
  unfolding last
  last_snoc x [] y = refl
  last_snoc x (z ∷ xs) y = last_snoc z xs y

  on_last_snoc : (f : A → A) (x : A) (xs : List A) (y : A) → on_last f (x ∷ (xs ++ (y ∷ []))) ≡ x ∷ (xs ++ (f y ∷ []))
  unfolding on_last
  on_last_snoc f x [] y = refl
  on_last_snoc f x (z ∷ xs) y = ap (λ ys. x ∷ ys) (on_last_snoc f z xs y)

  filter_append : (p : A → Bool) (xs ys : List A) → filter p (xs ++ ys) ≡ filter p xs ++ filter p ys
  unfolding filter
  filter_append p [] ys = refl
  filter_append p (x ∷ xs) ys = rw (filter_append p xs ys) (go (p x))
    where
      go : (b : Bool) → cond b (x ∷ (filter p xs ++ filter p ys)) (filter p xs ++ filter p ys) ≡ cond b (x ∷ filter p xs) (filter p xs) ++ filter p ys
      go true = refl
      go false = refl

  filter_twice : (p : A → Bool) (xs : List A) → filter p (filter p xs) ≡ filter p xs
  unfolding filter
  filter_twice p [] = refl
  filter_twice p (x ∷ xs) = go (p x) refl (filter_twice p xs)
    where
      go : (b : Bool) → p x ≡ b → filter p (filter p xs) ≡ filter p xs → filter p (cond b (x ∷ filter p xs) (filter p xs)) ≡ cond b (x ∷ filter p xs) (filter p xs)
      go true e r = rw (e, r)
      go false e r = r

pub condition_whole : (l : Line) (kw : List ℕ) → IfSome whole (condition l kw)
unfolding condition
condition_whole l kw =
    do_has whole (position (is_kw kw) l.tokens) λ k _.
    do_has whole (slice_get l.tokens (k + 1)) λ opening _.
    do_has whole (last l.tokens) λ end _.
    do_has whole (require (starts_with (ascii " (") opening.text)) λ _ _.
    do_has whole (closing end.text) λ n _ c e.
    subst whole (some_same e) (filter_twice (λ t. not (is_empty t)) (on_last (cut_end n) (on_first (cut_front 2) (drop (k + 1) l.tokens))))

-- or there is none
pub or_whole : (o : Option (List Token)) → IfSome whole o → whole (or_else o [])
unfolding filter
or_whole None h = refl
or_whole (Some c) h = h c refl

pub while_condition : (a : Option ℕ) (i : ℕ) (c : List Token) → whole c → condition (pseudo_line a i (while_head c)) (ascii "while") ≡ Some c
unfolding condition position ◌≟◌ starts_with closing on_first filter
while_condition a i c h =
    let open_token = tok (ascii " (") Punct in
    let End_token = tok (ascii ") {") Punct in
    rw (last_snoc (tok (ascii "while") Keyword) (open_token ∷ c) End_token)
    (ap Some (ap (filter (λ t. not (is_empty t))) (on_last_snoc (cut_end 3) (cut_front 2 open_token) c End_token)
    ∙ (filter_append (λ t. not (is_empty t)) c (tok [] Punct ∷ []) ∙ (ap (λ ts. ts ++ []) h ∙ append-nil c))))
