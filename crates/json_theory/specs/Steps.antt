-- The repeated parts of the reader's definition, without the bounds on how often.
--   up_to_quote        the characters of a string, up to and with its quote
--   prepend u o        the bytes u before what o gave
--   separator          "," (true) or "]" (false) behind an element
--   elements_from p    what stands behind an element: "]", or "," and more elements
--   items p            an element and what stands behind it
-- Assumes nothing.
use Rattle.std.specs.Prelude.{ℕ, suc, Bool, true, false, List, ◌∷◌, ◌++◌, length, Option}
use Rattle.definitions.specs.Lists.{ascii}
use Rattle.json_definitions.specs.Parser.{Got, Parser, pure, after, or_try, ◌>>=◌, lexeme, elements}
use Rattle.json_definitions.specs.Strings.{characters}

unfoldable pub up_to_quote : Parser (List ℕ)
up_to_quote s = characters (length s) s

unfoldable pub prepend : List ℕ → Option (Got (List ℕ)) → Option (Got (List ℕ))
prepend u o = after o (λ us. pure (u ++ us))

unfoldable pub separator : Parser Bool
separator s = or_try (after (lexeme (ascii "]") s) (λ _. pure false)) (λ _. after (lexeme (ascii ",") s) (λ _. pure true)) s

unfoldable pub elements_from : {A : Type 0} → Parser A → Parser (List A)
elements_from p t = elements p (suc (length t)) t

unfoldable pub items : {A : Type 0} → Parser A → Parser (List A)
items p = p >>= (λ x. elements_from p >>= (λ xs. pure (x ∷ xs)))
