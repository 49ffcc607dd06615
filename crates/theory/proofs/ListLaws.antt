-- Laws of the lists that the definitions are written in.
--   member_head, member_tail, member_cases, no_members    the members of `x ∷ xs`; a list without members is empty
--   any_found, any_here                                   some member passes; and the other way
--   any_filter, member_filter, filter_passes              the members of a filtered list
--   filter_alike                                          lists filtered from one list are equal if their members are
--   replicate_default                                     an element of a list of equals, or beyond it
--   count_lt, count_all, count_none                       more pass a weaker test; at most all; none
--   member_range, range_member, getD_range, length_range  the numbers of a range
--   getD_map_up_to                                        element i of a list made by `map f (up_to n)`
--   fold_up_to                                            a fold over 0 .. k ends with k
--   any_concat, concat_at                                 an element of lists put one after the other
--   ≟_true, ≟_self                                      `==` decides equality
-- Assumes nothing.
use Prim.Native.Nat.{ℕ, zero, suc, ◌+◌, ◌<◌, ◌≤◌}
use mathlib.Core.Path.{◌≡◌, refl, sym, ap, ap₂, ◌∙◌}
use mathlib.Core.Logic.{◌⊎◌, inl, inr}
use mathlib.Core.Bool.{Bool, true, false, cond, ◌&&◌, ◌||◌, and-false, or_assoc, false≢true}
use mathlib.Core.List.{List, [], ◌∷◌, ◌++◌, map}
use native.Mathlib.Omega.{arith}
use native.Mathlib.Nat.{add-zero, zero-add, add_assoc}
use lib.Dec.{eqb}
use borrow.Author.Tests.{eqb-true, eq-eqb}
use lib.ListN.{length, get_or, take, replicate, length-append, get_or-append}
use lib.Seq.{get_or-append-add}
use Rattle.definitions.specs.Lists.{any, filter, count, fold, range, up_to, member, concat, ◌≟◌}
use Rattle.theory.proofs.Bools.{clash, and_both, and_split, or_left, or_right, or_cases, lt_or_ge}

-- Members

pub member_head : (x : ℕ) (xs : List ℕ) → member x (x ∷ xs) ≡ true
unfolding any
member_head x xs = or_left (eqb x x) (member x xs) (eq-eqb x x refl)

pub member_tail : (x y : ℕ) (xs : List ℕ) → member x xs ≡ true → member x (y ∷ xs) ≡ true
unfolding any
member_tail x y xs m = or_right (eqb x y) (member x xs) m

pub member_cases : (x y : ℕ) (xs : List ℕ) → member x (y ∷ xs) ≡ true → (x ≡ y) ⊎ (member x xs ≡ true)
unfolding any
member_cases x y xs m = elim (or_cases (eqb x y) (member x xs) m) [ inl e ↦ inl (eqb-true x y e) | inr e ↦ inr e ]

pub no_members : (xs : List ℕ) → ((x : ℕ) → member x xs ≡ false) → xs ≡ []
no_members [] h = refl
no_members (x ∷ xs) h = clash (member_head x xs) (h x)

pub any_found : (f : ℕ → Bool) (xs : List ℕ) → any f xs ≡ true → (x : ℕ) × (member x xs ≡ true) × (f x ≡ true)
unfolding any
any_found f [] e = absurd (false≢true e)
any_found f (x ∷ xs) e = elim (or_cases (f x) (any f xs) e) [
  | inl h ↦ (x, member_head x xs, h)
  | inr h ↦ let r = any_found f xs h in (r.0, member_tail r.0 x xs r.1, r.2)
]

pub any_here : (f : ℕ → Bool) (xs : List ℕ) (x : ℕ) → member x xs ≡ true → f x ≡ true → any f xs ≡ true
unfolding any
any_here f [] x m e = absurd (false≢true m)
any_here f (y ∷ ys) x m e = elim (member_cases x y ys m) [
  | inl h ↦ or_left (f y) (any f ys) (rw h at e)
  | inr h ↦ or_right (f y) (any f ys) (any_here f ys x h e)
]

-- t looks for x: what passes t is x
pub any_filter : {A : Type 0} (t p : A → Bool) (x : A) → ((y : A) → t y ≡ true → x ≡ y)
    → (xs : List A) → any t (filter p xs) ≡ (any t xs && p x)
unfolding any filter
any_filter t p x only [] = refl
any_filter t p x only (y ∷ ys) = go (p y) (t y) refl refl (any_filter t p x only ys)
  where
    go : (a b : Bool) → p y ≡ a → t y ≡ b → any t (filter p ys) ≡ (any t ys && p x)
        → any t (cond a (y ∷ filter p ys) (filter p ys)) ≡ ((b || any t ys) && p x)
    go true true ea eb e = rw (eb, only y eb, ea)
    go false true ea eb e = e ∙ rw (only y eb, ea) (and-false (any t ys))
    go true false ea eb e = rw eb e
    go false false ea eb e = e

pub member_filter : (p : ℕ → Bool) (xs : List ℕ) (x : ℕ) → member x (filter p xs) ≡ (member x xs && p x)
member_filter p xs x = any_filter (eqb x) p x (eqb-true x) xs

pub filter_passes : (p : ℕ → Bool) (xs : List ℕ) (x : ℕ) → member x (filter p xs) ≡ true → (member x xs ≡ true) × (p x ≡ true)
filter_passes p xs x e = and_split (member x xs) (p x) (sym (member_filter p xs x) ∙ e)

filter_cong : (p q : ℕ → Bool) (xs : List ℕ) → ((x : ℕ) → member x xs ≡ true → p x ≡ q x) → filter p xs ≡ filter q xs
unfolding filter
filter_cong p q [] h = refl
filter_cong p q (x ∷ xs) h =
    ap₂ (λ (b : Bool) (rest : List ℕ). cond b (x ∷ rest) rest) (h x (member_head x xs))
    (filter_cong p q xs (λ y m. h y (member_tail y x xs m)))

pub filter_alike : (p q : ℕ → Bool) (xs : List ℕ) → ((x : ℕ) → member x (filter p xs) ≡ member x (filter q xs)) → filter p xs ≡ filter q xs
filter_alike p q xs h = filter_cong p q xs (λ x m. sym (passes p x m) ∙ h x ∙ passes q x m)
  where
    passes : (f : ℕ → Bool) (x : ℕ) → member x xs ≡ true → member x (filter f xs) ≡ f x
    passes f x m = member_filter f xs x ∙ rw m

pub replicate_default : {A : Type 0} (n j : ℕ) (a : A) → get_or (replicate n a) j a ≡ a
replicate_default zero j a = refl
replicate_default (suc n) zero a = refl
replicate_default (suc n) (suc j) a = replicate_default n j a

-- Counting

count_le : (p q : ℕ → Bool) (xs : List ℕ) → ((x : ℕ) → p x ≡ true → q x ≡ true) → count p xs ≤ count q xs
unfolding filter
count_le p q [] h = omega arith
count_le p q (x ∷ xs) h = go (p x) (q x) (h x) (count_le p q xs h)
  where
    go : (a b : Bool) → (a ≡ true → b ≡ true) → count p xs ≤ count q xs
        → length (cond a (x ∷ filter p xs) (filter p xs)) ≤ length (cond b (x ∷ filter q xs) (filter q xs))
    go true true k r = omega arith
    go true false k r = absurd (false≢true (k refl))
    go false true k r = omega arith
    go false false k r = r

pub count_lt : (p q : ℕ → Bool) (xs : List ℕ) (z : ℕ) → ((x : ℕ) → p x ≡ true → q x ≡ true)
    → member z xs ≡ true → p z ≡ false → q z ≡ true → count p xs < count q xs
unfolding any filter
count_lt p q [] z h m n y = absurd (false≢true m)
count_lt p q (x ∷ xs) z h m n y = elim (member_cases z x xs m) [
  | inl e ↦ rw (rw e at n, rw e at y) (omega (arith, count_le p q xs h))
  | inr m' ↦ go (p x) (q x) (h x) (count_lt p q xs z h m' n y)
]
  where
    go : (a b : Bool) → (a ≡ true → b ≡ true) → count p xs < count q xs
        → length (cond a (x ∷ filter p xs) (filter p xs)) < length (cond b (x ∷ filter q xs) (filter q xs))
    go true true k r = omega arith
    go true false k r = absurd (false≢true (k refl))
    go false true k r = omega arith
    go false false k r = r

pub count_all : (p : ℕ → Bool) (xs : List ℕ) → count p xs ≤ length xs
unfolding filter
count_all p [] = omega arith
count_all p (x ∷ xs) = go (p x) (count_all p xs)
  where
    go : (b : Bool) → count p xs ≤ length xs → length (cond b (x ∷ filter p xs) (filter p xs)) ≤ suc (length xs)
    go true r = omega arith
    go false r = omega arith

pub count_none : (p : ℕ → Bool) (xs : List ℕ) → ((x : ℕ) → p x ≡ false) → count p xs ≡ 0
unfolding filter
count_none p [] h = refl
count_none p (x ∷ xs) h = rw (h x) (count_none p xs h)

-- Ranges

pub member_range : (x a n : ℕ) → (member x (range a n) ≡ true) → (a ≤ x) × (x < a + n)
unfolding any range
member_range x a zero e = absurd (false≢true e)
member_range x a (suc n) e = elim (member_cases x a (range (suc a) n) e) [
  | inl h ↦ (omega arith, omega arith)
  | inr h ↦ (let r = member_range x (suc a) n h in (omega arith, omega arith))
]

pub range_member : (x a n : ℕ) → a ≤ x → x < a + n → member x (range a n) ≡ true
unfolding any range
range_member x a zero l h = absurd (omega arith)
range_member x a (suc n) l h = elim (lt_or_ge a x) [
  | inl q ↦ member_tail x a (range (suc a) n) (range_member x (suc a) n q (omega arith))
  | inr q ↦ or_left (eqb x a) (member x (range (suc a) n)) (eq-eqb x a (omega arith))
]

pub getD_range : (a n i d : ℕ) → i < n → get_or (range a n) i d ≡ a + i
unfolding range
getD_range a zero i d h = absurd (omega arith)
getD_range a (suc n) zero d h = sym (add-zero a)
getD_range a (suc n) (suc i) d h = getD_range (suc a) n i d (omega arith) ∙ omega arith

pub length_range : (a n : ℕ) → length (range a n) ≡ n
unfolding range
length_range a zero = refl
length_range a (suc n) = ap suc (length_range (suc a) n)

pub getD_map_up_to : {A : Type 0} (f : ℕ → A) (n i : ℕ) (d : A) → i < n → get_or (map f (up_to n)) i d ≡ f i
unfolding range
getD_map_up_to f n i d h = go 0 n i h ∙ ap f (zero-add i)
  where
    go : (a n i : ℕ) → i < n → get_or (map f (range a n)) i d ≡ f (a + i)
    go a zero i h = absurd (omega arith)
    go a (suc n) zero h = ap f (sym (add-zero a))
    go a (suc n) (suc i) h = go (suc a) n i (omega arith) ∙ ap f (omega arith)

pub fold_up_to : {B : Type 0} (f : B → ℕ → B) (b : B) (k : ℕ) → fold f b (up_to (suc k)) ≡ f (fold f b (up_to k)) k
unfolding fold range
fold_up_to f b k = go b 0 k ∙ ap (f (fold f b (up_to k))) (zero-add k)
  where
    go : (b : _) (a k : ℕ) → fold f b (range a (suc k)) ≡ f (fold f b (range a k)) (a + k)
    go b a zero = ap (f b) (sym (add-zero a))
    go b a (suc k) = go (f b a) (suc a) k ∙ ap (f (fold f b (range a (suc k)))) (omega arith)

-- Lists one after the other

any_append : {A : Type 0} (t : A → Bool) (xs ys : List A) → any t (xs ++ ys) ≡ (any t xs || any t ys)
unfolding any
any_append t [] ys = refl
any_append t (x ∷ xs) ys = ap (t x ||◌) (any_append t xs ys) ∙ sym (or_assoc (t x) (any t xs) (any t ys))

pub any_concat : {A : Type 0} (t : A → Bool) (g : ℕ → List A) (is : List ℕ) (i : ℕ) → member i is ≡ true → any t (g i) ≡ true
    → any t (concat (map g is)) ≡ true
unfolding any concat
any_concat t g [] i m e = absurd (false≢true m)
any_concat t g (j ∷ is) i m e = any_append t (g j) (concat (map g is)) ∙ (elim (member_cases i j is m) [
  | inl q ↦ or_left (any t (g j)) (any t (concat (map g is))) (rw q at e)
  | inr q ↦ or_right (any t (g j)) (any t (concat (map g is))) (any_concat t g is i q e)
])

pub concat_at : {A : Type 0} (xss : List (List A)) (i k : ℕ) (d : A) → k < length (get_or xss i [])
    → get_or (concat xss) (length (concat (take i xss)) + k) d ≡ get_or (get_or xss i []) k d
unfolding concat
concat_at [] i k d h = absurd (omega arith)
concat_at (xs ∷ xss) zero k d h = ap (λ (j : ℕ). get_or (xs ++ concat xss) j d) (zero-add k) ∙ get_or-append xs (concat xss) d k h
concat_at (xs ∷ xss) (suc i) k d h =
    ap (λ (j : ℕ). get_or (xs ++ concat xss) j d)
    (ap (◌+ k) (length-append xs (concat (take i xss))) ∙ add_assoc (length xs) (length (concat (take i xss))) k)
    ∙ get_or-append-add xs (concat xss) (length (concat (take i xss)) + k) d ∙ concat_at xss i k d h

-- Texts

pub ≟_true : (s t : List ℕ) → s ≟ t ≡ true → s ≡ t
unfolding ◌≟◌
≟_true [] [] e = refl
≟_true [] (b ∷ t) e = absurd (false≢true e)
≟_true (a ∷ s) [] e = absurd (false≢true e)
≟_true (a ∷ s) (b ∷ t) e =
    let r = and_split (eqb a b) (s ≟ t) e in
    ap₂ (λ (x : ℕ) (l : List ℕ). x ∷ l) (eqb-true a b r.0) (≟_true s t r.1)

pub ≟_self : (s : List ℕ) → s ≟ s ≡ true
unfolding ◌≟◌
≟_self [] = refl
≟_self (a ∷ s) = and_both (eq-eqb a a refl) (≟_self s)
