-- What the answers of the code stand for, where a definition of json_definitions gives a value and the rest of the text.
--   address_of, separator_of, head_of
--   token_of t from r        a token whose bytes stand in the text t from place `from` on
--   limited_token room o     what o gave, if its text has at most `room` bytes
--   token_rest t             a token behind its text t
-- Assumes nothing.
use Rattle.std.specs.Prelude.{if◌then◌else◌, ℕ, Bool, true, false, List, leb, length, Option, None, Some}
use Rattle.std.specs.Borrow.{Bor}
use Rattle.definitions.specs.Lists.{part}
use Rattle.definitions.specs.Model.{Token, tok}
use Rattle.json_definitions.specs.Parser.{Got, Parser, pure, ◌>>=◌}
use Rattle.json_definitions.specs.Reader.{token_kind, Head}
use Rattle.json_scan.specs.Answers.{found_of}
use Rattle.json_lines.specs.declared.members.Sep.{Sep}
use Rattle.json_lines.specs.declared.members.Sep.TheVariants.{More, Close}
use Rattle.json_lines.specs.declared.lines.Top.{Top}
use Rattle.json_lines.specs.declared.tokens.Packed.{Packed}

abbrev pub address_of : Option (Option ℕ × Bor (List ℕ)) → Option (Got (Option ℕ))
address_of r = found_of (λ a. a) r

abbrev pub is_more : Sep → Bool
is_more More = true
is_more Close = false

abbrev pub separator_of : Option (Sep × Bor (List ℕ)) → Option (Got Bool)
separator_of r = found_of is_more r

abbrev pub head_of : Option (Top × Bor (List ℕ)) → Option (Got Head)
head_of r = found_of (λ t. record { address = t.address; indent = t.indent }) r

abbrev pub token_of : List ℕ → ℕ → Option (Packed × Bor (List ℕ)) → Option (Got Token)
token_of t from r = found_of (λ k. tok (part from k.end t) k.kind) r

unfoldable pub limited_token : ℕ → Option (Got Token) → Option (Got Token)
limited_token room None = None
limited_token room (Some g) = if leb (length g.value.text) room then Some g else None

unfoldable pub token_rest : List ℕ → Parser Token
token_rest t = token_kind >>= (λ k. pure (tok t k))
