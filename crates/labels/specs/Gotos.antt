-- Where gotos lead, among tokens us from one place up to, not with, place e.
--   symbol_at us o       the text of the token at the place o, if there is one
--   targets_at us o e    the first symbols behind the goto at the place o and behind those after it, none where there is no such goto
--   goto_line L us k e   the line of the label that the first symbol from place k on names
-- Assumes nothing.
use Rattle.std.specs.Prelude.{ℕ, ◌+◌, List, [], ◌∷◌, get_or, Option, None, Some}
use Rattle.definitions.specs.Lists.{◌>>=◌, part}
use Rattle.definitions.specs.Model.{Token, Line, no_token}
use Rattle.definitions.specs.Statements.{first_symbol, targets}
use Rattle.definitions.specs.FlowGraph.{label_line}

unfoldable pub symbol_at : List Token → Option ℕ → Option (List ℕ)
symbol_at us None = None
symbol_at us (Some k) = Some (get_or us k no_token).text

unfoldable pub targets_at : List Token → Option ℕ → ℕ → List (Option (List ℕ))
targets_at us None e = []
targets_at us (Some k) e = first_symbol (part (k + 1) e us) ∷ targets (part (k + 1) e us)

abbrev pub goto_line : List Line → List Token → ℕ → ℕ → Option ℕ
goto_line L us k e = first_symbol (part k e us) >>= label_line L
