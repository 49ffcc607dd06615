-- A listing that is being written: the lines that are done, the tokens of the open line, the bytes of the open token.
--   done M               the lines M, nothing open
--   add_bytes b          the bytes b behind those of the open token
--   end_token k          the open token's bytes made a token of kind k
--   add_token b k        a token, where no byte is open
--   merge_last ts u      the tokens ts and u, u joined to the last of them where `joins` says so
--   end_merged k         the open token's bytes made a token of kind k by `merge_last`
--   add_merged b k       a token by `merge_last`, where no byte is open
--   end_line a i         the open line's tokens made a line with address a and indent i
--   kinds_join j k       a token of kind k joins one of kind j before it
--   last_kind ts         the kind of the last token, 256 where there is none
--   written_tokens s     all tokens, the open line's behind those of the lines
--   written_bytes s      all bytes, the open token's behind those of the tokens
-- Assumes nothing.
use Rattle.std.specs.Option.{option_map}
use Rattle.std.specs.Prelude.{ℕ, Bool, List, [], ◌∷◌, ◌++◌, Option}
use Rattle.definitions.specs.Lists.{or_else, last}
use Rattle.definitions.specs.Model.{Token, Line, tok, pseudo_line, text}
use Rattle.definitions.specs.Columns.{all_tokens}
use Rattle.definitions.specs.Statements.{joins, glue}

pub record State : Type 0 where
  pub lines : List Line
  pub tokens : List Token
  pub bytes : List ℕ

abbrev pub done : List Line → State
done M = record { lines = M; tokens = []; bytes = [] }

-- Steps

abbrev pub add_bytes : List ℕ → State → State
add_bytes b s = record { lines = s.lines; tokens = s.tokens; bytes = s.bytes ++ b }

abbrev pub end_token : ℕ → State → State
end_token k s = record { lines = s.lines; tokens = s.tokens ++ (tok s.bytes k ∷ []); bytes = [] }

abbrev pub add_token : List ℕ → ℕ → State → State
add_token b k s = end_token k (add_bytes b s)

unfoldable pub merge_last : List Token → Token → List Token
merge_last [] u = u ∷ []
merge_last (t ∷ []) u = glue t (u ∷ [])
merge_last (t ∷ (v ∷ ts)) u = t ∷ merge_last (v ∷ ts) u

abbrev pub end_merged : ℕ → State → State
end_merged k s = record { lines = s.lines; tokens = merge_last s.tokens (tok s.bytes k); bytes = [] }

abbrev pub add_merged : List ℕ → ℕ → State → State
add_merged b k s = end_merged k (add_bytes b s)

abbrev pub end_line : Option ℕ → ℕ → State → State
end_line a i s = record { lines = s.lines ++ (pseudo_line a i s.tokens ∷ []); tokens = []; bytes = s.bytes }

-- What a cursor carries

abbrev pub kinds_join : ℕ → ℕ → Bool
kinds_join j k = joins (tok [] j) (tok [] k)

abbrev pub last_kind : List Token → ℕ
last_kind ts = or_else (option_map (λ t. t.kind) (last ts)) 256

-- What is written

abbrev pub written_tokens : State → List Token
written_tokens s = all_tokens s.lines ++ s.tokens

abbrev pub written_bytes : State → List ℕ
written_bytes s = text (written_tokens s) ++ s.bytes
