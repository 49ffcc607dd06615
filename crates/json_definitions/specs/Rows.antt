-- The definitions of the reader and the writer, open to computation. proofs/RowsHold has the texts on which they are computed.
-- Assumes nothing.
use Rattle.std.specs.Prelude.{ℕ, List, Option}
use Rattle.definitions.specs.Lists.{concat, all}
use Rattle.definitions.specs.Model.{Line, text}
use Rattle.definitions.specs.Utf8.{following, utf8_after}
use Rattle.definitions.specs.Columns.{pieces, with_addresses, line_words_from, token_words_from}
use Rattle.definitions.specs.Questions.{covers, refusal}
use Rattle.definitions.specs.Calls.{Columns, Passed, passed}
use Rattle.json_definitions.specs.Parser.{after, or_try, skip_white_space, literal, lexeme, elements, array}
use Rattle.json_definitions.specs.Strings.{encode, in_ranges, code_point, unescaped, hex_value, hex_digit, hex_4, low_surrogate, code_unit, short_escape, escape, character, characters, string}
use Rattle.json_definitions.specs.Reader.{digits, at_most, whole_number, number, address, one_of, kind, member, token_kind, token, line_indent, head, line, is_empty, ended, read}
use Rattle.json_definitions.specs.Writer.{digits_of, decimal, hex_letter, escaped, characters_text, string_text, kind_text, address_text, elements_text, array_text, token_text, line_text, write}
use Rattle.json_definitions.specs.JsonCalls.{fitting, read_call, Written, write_call}

-- the definitions open to computation
unfoldable pub read_computed : List ℕ → Option (List Line)
unfolding following after or_try skip_white_space literal lexeme elements array encode in_ranges code_point unescaped hex_value hex_digit hex_4 low_surrogate code_unit short_escape escape character characters string digits at_most whole_number number address one_of kind member token_kind token line_indent head line is_empty ended read
read_computed s = read s

unfoldable pub write_computed : List Line → List ℕ
unfolding digits_of decimal hex_letter escaped characters_text string_text kind_text address_text elements_text array_text token_text line_text write
write_computed L = write L

unfoldable pub read_call_computed : List ℕ → Columns → Passed
unfolding read_computed fitting passed concat text line_words_from token_words_from read_call following after or_try skip_white_space literal lexeme elements array encode in_ranges code_point unescaped hex_value hex_digit hex_4 low_surrogate code_unit short_escape escape character characters string digits at_most whole_number number address one_of kind member token_kind token line_indent head line is_empty ended read
read_call_computed s out = read_call s out

unfoldable pub write_call_computed : Columns → List ℕ → Written
unfolding refusal covers all pieces with_addresses utf8_after following digits_of decimal hex_letter escaped characters_text string_text kind_text address_text elements_text array_text token_text line_text write write_call
write_call_computed c out = write_call c out
