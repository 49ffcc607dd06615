-- Lists, options and byte texts: the few general words that the definitions are written in.
--   do x ← o; ..                    goes on with what o holds, and is none where o is none: Rust's `?`
--   require b                       none where b is false
--   any p xs, all p xs              p holds of some element, of every element
--   count p xs                      how many elements p holds of
--   filter p xs, take_while p xs    the elements that p holds of, up to the first that it does not hold of
--   position p xs, find p xs        the first that p holds of: its place, and itself
--   position_from k p xs            the place of the first from place k on that p holds of
--   last_position p xs              the place of the last that p holds of
--   first xs, last xs               the first and the last element
--   part a e xs                     the elements from place a up to, not with, place e
--   remove k xs, insert k x xs      without the element at place k; with x before it
--   on_first f xs, on_last f xs     with f of the first or of the last element in its place
--   on_part a e f xs                with f of each element of the part in its place
--   concat xss                      the lists one after the other
--   to_list o                       what the option holds, as a list of at most one
--   fold f b xs                     f of b and the first element, then of that and the second, and so on
--   range a n, up_to n              a, a + 1, .., n of them; 0, 1, .., n - 1
--   member x xs                     the number x is in the list
--   s ≟ t                           the same bytes
--   starts_with p s, ends_with p s  the text s starts, ends with p
--   contains b s                    the byte b stands in s
--   ascii "goto"                    the bytes of an ASCII text
-- Assumes nothing.
use Rattle.std.specs.Option.{option_map}
use Rattle.std.specs.Prelude.{if◌then◌else◌, ℕ, zero, suc, ◌+◌, ◌-◌, Bool, true, false, ◌&&◌, ◌||◌, List, [], ◌∷◌, ◌++◌, map, eqb, leb, length, take, drop, Option, None, Some, slice_get}
use Prim.Native.Char.{code}
use Prim.Native.String.{String}
use Prim.Native.String as S

-- Choices and options

infixl 1 ◌>>=◌
abbrev pub ◌>>=◌ : {A B : Type 0} → Option A → (A → Option B) → Option B
None >>= f = None
Some a >>= f = f a

abbrev pub require : Bool → Option (Unit {0})
require true = Some tt
require false = None

abbrev pub is_some : {A : Type 0} → Option A → Bool
is_some None = false
is_some (Some a) = true

abbrev pub or_else : {A : Type 0} → Option A → A → A
or_else None a = a
or_else (Some x) a = x

-- Lists

unfoldable pub any : {A : Type 0} → (A → Bool) → List A → Bool
any p [] = false
any p (x ∷ xs) = p x || any p xs

unfoldable pub all : {A : Type 0} → (A → Bool) → List A → Bool
all p [] = true
all p (x ∷ xs) = p x && all p xs

unfoldable pub filter : {A : Type 0} → (A → Bool) → List A → List A
filter p [] = []
filter p (x ∷ xs) = let rest = filter p xs in if p x then x ∷ rest else rest

abbrev pub count : {A : Type 0} → (A → Bool) → List A → ℕ
count p xs = length (filter p xs)

unfoldable pub take_while : {A : Type 0} → (A → Bool) → List A → List A
take_while p [] = []
take_while p (x ∷ xs) = let rest = take_while p xs in if p x then x ∷ rest else []

unfoldable pub position : {A : Type 0} → (A → Bool) → List A → Option ℕ
position p [] = None
position p (x ∷ xs) = let later = option_map suc (position p xs) in if p x then Some 0 else later

abbrev pub position_from : {A : Type 0} → ℕ → (A → Bool) → List A → Option ℕ
position_from k p xs = option_map (k +◌) (position p (drop k xs))

unfoldable pub last_position : {A : Type 0} → (A → Bool) → List A → Option ℕ
last_position p [] = None
last_position p (x ∷ xs) = elim (last_position p xs) [ Some k ↦ Some (suc k) | None ↦ (if p x then Some 0 else None) ]

unfoldable pub find : {A : Type 0} → (A → Bool) → List A → Option A
find p [] = None
find p (x ∷ xs) = let later = find p xs in if p x then Some x else later

abbrev pub first : {A : Type 0} → List A → Option A
first xs = slice_get xs 0

unfoldable pub last : {A : Type 0} → List A → Option A
last [] = None
last (x ∷ []) = Some x
last (x ∷ (y ∷ xs)) = last (y ∷ xs)

abbrev pub part : {A : Type 0} → ℕ → ℕ → List A → List A
part a e xs = take (e - a) (drop a xs)

abbrev pub remove : {A : Type 0} → ℕ → List A → List A
remove k xs = take k xs ++ drop (k + 1) xs

abbrev pub insert : {A : Type 0} → ℕ → A → List A → List A
insert k x xs = take k xs ++ (x ∷ drop k xs)

unfoldable pub on_first : {A : Type 0} → (A → A) → List A → List A
on_first f [] = []
on_first f (x ∷ xs) = f x ∷ xs

unfoldable pub on_last : {A : Type 0} → (A → A) → List A → List A
on_last f [] = []
on_last f (x ∷ []) = f x ∷ []
on_last f (x ∷ (y ∷ xs)) = x ∷ on_last f (y ∷ xs)

abbrev pub on_part : {A : Type 0} → ℕ → ℕ → (A → A) → List A → List A
on_part a e f xs = take a xs ++ (map f (part a e xs) ++ drop e xs)

unfoldable pub concat : {A : Type 0} → List (List A) → List A
concat [] = []
concat (xs ∷ xss) = xs ++ concat xss

abbrev pub to_list : {A : Type 0} → Option A → List A
to_list None = []
to_list (Some a) = a ∷ []

unfoldable pub fold : {A B : Type 0} → (B → A → B) → B → List A → B
fold f b [] = b
fold f b (x ∷ xs) = fold f (f b x) xs

-- Numbers

unfoldable pub range : ℕ → ℕ → List ℕ
range a zero = []
range a (suc n) = a ∷ range (suc a) n

abbrev pub up_to : ℕ → List ℕ
up_to n = range 0 n

abbrev pub member : ℕ → List ℕ → Bool
member x xs = any (eqb x) xs

-- Texts

infix 40 ◌≟◌
unfoldable pub ◌≟◌ : List ℕ → List ℕ → Bool
[] ≟ [] = true
[] ≟ (b ∷ t) = false
(a ∷ s) ≟ [] = false
(a ∷ s) ≟ (b ∷ t) = eqb a b && (s ≟ t)

unfoldable pub starts_with : List ℕ → List ℕ → Bool
starts_with [] s = true
starts_with (a ∷ p) [] = false
starts_with (a ∷ p) (b ∷ s) = eqb a b && starts_with p s

abbrev pub ends_with : List ℕ → List ℕ → Bool
ends_with p s = leb (length p) (length s) && (drop (length s - length p) s ≟ p)

abbrev pub contains : ℕ → List ℕ → Bool
contains b s = member b s

abbrev pub ascii : String → List ℕ
ascii S.[] = []
ascii (S.◌∷◌ c s) = code c ∷ ascii s
