-- The web program as a function from its input to its output.
--   room, web_room         what it lends to the reader: 64 lines, 1,024 tokens, 8,192 bytes; and to the web call
--   webs_text l t x c      what it prints of the web call's answer c on the columns l, t, x
--   columns_text l t x     what it prints of the listing in these columns
--   read_text p            what it prints of the reader's answer p
--   program s              what it prints on the input s: at most 32,768 bytes are taken
-- Assumes nothing.
use Rattle.std.specs.Prelude.{if◌then◌else◌, ℕ, List, ltb, length, replicate, take}
use Rattle.definitions.specs.Answers.{refused, accepted}
use Rattle.definitions.specs.Calls.{Columns, Passed, Lent, Called, web_call}
use Rattle.json_definitions.specs.JsonCalls.{read_call}
use Rattle.rows.specs.Rows.{all_rows, refused_text}

abbrev pub room : Columns
room = record { lines = replicate 64 0; addresses = replicate 64 0; tokens = replicate 1024 0; text = replicate 8192 0 }

abbrev pub web_room : Lent
web_room = record { numbers = replicate 1024 0; marks = replicate 1024 0; space = replicate 832 0 }

unfoldable pub webs_text : List ℕ → List ℕ → List ℕ → Called ℕ → List ℕ
webs_text l t x c = elim c.answer [ refused n ↦ refused_text n | accepted sweeps ↦ all_rows l t x c.lent.numbers c.lent.marks ]

unfoldable pub columns_text : List ℕ → List ℕ → List ℕ → List ℕ
columns_text l t x = webs_text l t x (web_call l t x web_room)

unfoldable pub read_text : Passed → List ℕ
read_text p = elim p.answer [
  | refused n ↦ refused_text n
  | accepted n ↦ columns_text (take n.lines p.out.lines) (take n.tokens p.out.tokens) (take n.text p.out.text)
]

unfoldable pub program : List ℕ → List ℕ
program s = if ltb 32768 (length s) then refused_text 10 else read_text (read_call s room)
