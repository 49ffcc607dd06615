-- A parser takes a text and gives a value with the rest of the text, or nothing. To be read beside RFC 8259, section 2.
--   Got A, Parser A       a value and the text that is left; what gives one
--   pure a, do ..         the value a and the whole text; one parser after another
--   or_try o q            what o gave, or what the parser q gives where o gave nothing
--   skip_white_space s    the text s behind the white space that it starts with
--   literal w             the bytes w
--   lexeme w              white space, then the bytes w
--   array p               "[", what p gives, as often as it stands there, with "," between, and "]"
-- Assumes nothing.
use Rattle.std.specs.Prelude.{if◌then◌else◌, ℕ, zero, suc, Bool, ◌||◌, List, [], ◌∷◌, eqb, length, Option, None, Some}
use Rattle.definitions.specs.Lists.{ascii}

pub record Got (A : Type 0) : Type 0 where
  pub value : A
  pub rest : List ℕ

abbrev pub Parser : Type 0 → Type 0
Parser A = List ℕ → Option (Got A)

abbrev pub got : {A : Type 0} → A → List ℕ → Option (Got A)
got a rest = Some (record { value = a; rest = rest })

abbrev pub pure : {A : Type 0} → A → Parser A
pure a s = got a s

unfoldable pub after : {A B : Type 0} → Option (Got A) → (A → Parser B) → Option (Got B)
after None f = None
after (Some g) f = f g.value g.rest

infixl 20 ◌>>=◌
infixl 20 ◌>>◌
abbrev pub ◌>>=◌ : {A B : Type 0} → Parser A → (A → Parser B) → Parser B
◌>>=◌ p f s = after (p s) f

abbrev pub ◌>>◌ : {A B : Type 0} → Parser A → Parser B → Parser B
◌>>◌ p q s = after (p s) (λ _. q)

unfoldable pub or_try : {A : Type 0} → Option (Got A) → Parser A → Parser A
or_try None q s = q s
or_try (Some g) q s = Some g

-- blank, tab, line feed, carriage return
abbrev pub is_white_space : ℕ → Bool
is_white_space c = eqb c 0x20 || (eqb c 0x09 || (eqb c 0x0a || eqb c 0x0d))

unfoldable pub skip_white_space : List ℕ → List ℕ
skip_white_space [] = []
skip_white_space (c ∷ s) = let rest = skip_white_space s in if is_white_space c then rest else c ∷ s

unfoldable pub literal : List ℕ → Parser (Unit {0})
literal [] s = got tt s
literal (a ∷ w) [] = None
literal (a ∷ w) (c ∷ s) = let rest = literal w s in if eqb c a then rest else None

unfoldable pub lexeme : List ℕ → Parser (Unit {0})
lexeme w s = literal w (skip_white_space s)

-- "," and an element, again and again, and "]"; each takes a byte at least, so a bound of the text's length is never met
unfoldable pub elements : {A : Type 0} → Parser A → ℕ → Parser (List A)
elements p zero s = None
elements p (suc n) s =
    or_try (after (lexeme (ascii "]") s) (λ _. pure []))
    (lexeme (ascii ",") >> (p >>= (λ x. elements p n >>= (λ xs. pure (x ∷ xs))))) s

unfoldable pub array : {A : Type 0} → Parser A → Parser (List A)
array p s =
    after (lexeme (ascii "[") s)
    (λ _ r. or_try (after (lexeme (ascii "]") r) (λ _. pure []))
    (p >>= (λ x. (λ t. elements p (suc (length t)) t) >>= (λ xs. pure (x ∷ xs)))) r)
