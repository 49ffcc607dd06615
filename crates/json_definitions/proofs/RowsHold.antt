-- JSON texts and the listings that they are read as, refused texts, and written texts, by computation. They stand here, and not in specs/, so
-- that a wrong definition is refused as a proof that no longer holds.
--   taken, misshapen, misnumbered, misspelt, written    the rows
--   read_called, write_called                           the calls on small columns
-- Assumes nothing.
use Rattle.std.specs.Prelude.{ℕ, ◌≡◌, refl, List, [], ◌∷◌, ◌++◌, map, replicate, Option, None, Some}
use Rattle.definitions.specs.Lists.{ascii}
use Rattle.definitions.specs.Model.{Line, tok, pseudo_line, Text, Punct, Prefix}
use Rattle.definitions.specs.Answers.{refused as refused_with, accepted}
use Rattle.definitions.specs.Calls.{Columns}
use Rattle.json_definitions.specs.Rows.{read_computed, write_computed, read_call_computed, write_call_computed}

abbrev one : Line
one = pseudo_line None 1 (tok (ascii "}") Punct ∷ [])

-- a text of one line with one token, whose string is s
abbrev holding : List ℕ → List ℕ
holding s = ascii "[{\"address\":18446744073709551615,\"indent\":255,\"tokens\":[{\"t\":\"" ++ (s ++ ascii "\",\"k\":\"text\"}]}]")

abbrev held : List ℕ → Option (List Line)
held s = Some (pseudo_line (Some 18446744073709551615) 255 (tok s Text ∷ []) ∷ [])

-- Texts that are read

taken : map read_computed
    (ascii "[{\"address\":null,\"indent\":1,\"tokens\":[{\"t\":\"}\",\"k\":\"punct\"}]}]"
    ∷ ascii "[]"
    ∷ ascii " \t[ ] "
    ∷ (ascii "[ { \"address\" : null , \"indent\" : 1 , \"tokens\" :" ++ (9 ∷ 10 ∷ 13 ∷ ascii " [ { \"t\" : \"}\" , \"k\" : \"punct\" } ] } ] "))
    ∷ ascii "[{\"address\":0,\"indent\":0,\"tokens\":[]},{\"address\":null,\"indent\":1,\"tokens\":[{\"t\":\"}\",\"k\":\"punct\"},{\"t\":\"\",\"k\":\"prefix\"}]}]"
    ∷ holding (ascii "a")
    ∷ holding (ascii "\\\"\\\\\\/\\b\\f\\n\\r\\t\\u0041\\u00e9\\u20AC\\uD83D\\uDE00")
    ∷ holding (195 ∷ 169 ∷ 226 ∷ 130 ∷ 172 ∷ 240 ∷ 159 ∷ 152 ∷ 128 ∷ []) ∷ [])
    ≡ Some (one ∷ [])
    ∷ Some []
    ∷ Some []
    ∷ Some (one ∷ [])
    ∷ Some (pseudo_line (Some 0) 0 [] ∷ pseudo_line None 1 (tok (ascii "}") Punct ∷ tok [] Prefix ∷ []) ∷ [])
    ∷ held (ascii "a")
    ∷ held (34 ∷ 92 ∷ 47 ∷ 8 ∷ 12 ∷ 10 ∷ 13 ∷ 9 ∷ 65 ∷ 195 ∷ 169 ∷ 226 ∷ 130 ∷ 172 ∷ 240 ∷ 159 ∷ 152 ∷ 128 ∷ [])
    ∷ held (195 ∷ 169 ∷ 226 ∷ 130 ∷ 172 ∷ 240 ∷ 159 ∷ 152 ∷ 128 ∷ []) ∷ []
unfolding read_computed
taken = refl

-- Texts that are refused

-- not the shape: nothing, cut short, text behind the array, an empty object, commas, members missing, doubled, in another order
misshapen : map read_computed
    (map ascii
    ("" ∷ "[" ∷ "null" ∷ "[{}]" ∷ "[,]"
    ∷ "[{\"address\":null,\"indent\":1,\"tokens\":[{\"t\":\"}\",\"k\":\"punct\"}]}]x"
    ∷ "[{\"address\":null,\"indent\":1,\"tokens\":[{\"t\":\"}\",\"k\":\"punct\"}]}][]"
    ∷ "[{\"address\":null,\"indent\":1,\"tokens\":[{\"t\":\"}\",\"k\":\"punct\"}]},]"
    ∷ "[{\"indent\":1,\"tokens\":[]}]"
    ∷ "[{\"address\":null,\"address\":null,\"indent\":1,\"tokens\":[]}]"
    ∷ "[{\"indent\":1,\"address\":null,\"tokens\":[]}]"
    ∷ "[{\"address\":null,\"indent\":1,\"tokens\":[{\"k\":\"punct\",\"t\":\"}\"}]}]"
    ∷ "[{\"address\":null,\"indent\":1,\"tokens\":[{\"t\":\"}\"}]}]"
    ∷ "[{\"address\":null,\"indent\":1,\"tokens\":[{\"t\":\"}\",\"k\":\"Punct\"}]}]"
    ∷ "[{\"address\":null,\"indent\":1,\"tokens\":[{\"t\":\"}\",\"k\":\"p\\u0075nct\"}]}]"
    ∷ "[{\"\\u0061ddress\":null,\"indent\":1,\"tokens\":[]}]" ∷ []))
    ≡ replicate 16 None
unfolding read_computed
misshapen = refl

-- numbers that are not whole, not in range, or have a leading zero
misnumbered : map read_computed
    (map ascii
    ("[{\"address\":01,\"indent\":1,\"tokens\":[]}]"
    ∷ "[{\"address\":18446744073709551616,\"indent\":1,\"tokens\":[]}]"
    ∷ "[{\"address\":-1,\"indent\":1,\"tokens\":[]}]"
    ∷ "[{\"address\":1.0,\"indent\":1,\"tokens\":[]}]"
    ∷ "[{\"address\":1e0,\"indent\":1,\"tokens\":[]}]"
    ∷ "[{\"address\":\"1\",\"indent\":1,\"tokens\":[]}]"
    ∷ "[{\"address\":null,\"indent\":256,\"tokens\":[]}]"
    ∷ "[{\"address\":null,\"indent\":00,\"tokens\":[]}]" ∷ []))
    ≡ replicate 8 None
unfolding read_computed
misnumbered = refl

-- strings: lone surrogates, wrong escapes, raw control codes, and bytes that are not UTF-8
misspelt : map (λ s. read_computed (holding s))
    (ascii "\\uD83D" ∷ ascii "\\uDE00" ∷ ascii "\\uD83D\\u0041" ∷ ascii "\\uD83D\\uD83D" ∷ ascii "\\u00g0" ∷ ascii "\\x" ∷ ascii "\\"
    ∷ (10 ∷ []) ∷ (31 ∷ []) ∷ (128 ∷ []) ∷ (192 ∷ 128 ∷ []) ∷ (194 ∷ []) ∷ (224 ∷ 128 ∷ 128 ∷ []) ∷ (237 ∷ 160 ∷ 128 ∷ [])
    ∷ (244 ∷ 144 ∷ 128 ∷ 128 ∷ []) ∷ (240 ∷ 143 ∷ 128 ∷ 128 ∷ []) ∷ (255 ∷ []) ∷ [])
    ≡ replicate 17 None
unfolding read_computed
misspelt = refl

-- Written texts

written : map write_computed
    ([]
    ∷ (one ∷ [])
    ∷ (pseudo_line (Some 18446744073709551615) 255 (tok (34 ∷ 92 ∷ 0 ∷ 31 ∷ 127 ∷ 195 ∷ 169 ∷ []) Text ∷ tok [] Prefix ∷ []) ∷ pseudo_line (Some 0) 0 [] ∷ []) ∷ [])
    ≡ ascii "[]"
    ∷ ascii "[{\"address\":null,\"indent\":1,\"tokens\":[{\"t\":\"}\",\"k\":\"punct\"}]}]"
    ∷ (ascii "[{\"address\":18446744073709551615,\"indent\":255,\"tokens\":[{\"t\":\"\\\"\\\\\\u0000\\u001f"
    ++ ((127 ∷ 195 ∷ 169 ∷ []) ++ ascii "\",\"k\":\"text\"},{\"t\":\"\",\"k\":\"prefix\"}]},{\"address\":0,\"indent\":0,\"tokens\":[]}]")) ∷ []
unfolding write_computed
written = refl

-- The calls

abbrev columns : List ℕ → List ℕ → List ℕ → List ℕ → Columns
columns l a t x = record { lines = l; addresses = a; tokens = t; text = x }

-- accepted, packed and zero behind; one byte of text too few; text behind the array
read_called : map (read_call_computed (ascii "[{\"address\":7,\"indent\":1,\"tokens\":[{\"t\":\"}\",\"k\":\"punct\"}]}]"))
    (columns (9 ∷ 9 ∷ []) (9 ∷ 9 ∷ []) (9 ∷ []) (9 ∷ 9 ∷ []) ∷ columns (9 ∷ []) (9 ∷ []) (9 ∷ []) [] ∷ [])
    ≡ record { answer = accepted (record { lines = 1; tokens = 1; text = 1 }); out = columns (769 ∷ 0 ∷ []) (7 ∷ 0 ∷ []) (262 ∷ []) (125 ∷ 0 ∷ []) }
    ∷ record { answer = refused_with 10; out = columns (0 ∷ []) (0 ∷ []) (0 ∷ []) [] } ∷ []
unfolding read_call_computed
read_called = refl

-- accepted; one byte too few; kind 8
write_called : map (λ (a : Columns × List ℕ). write_call_computed a.0 a.1)
    ((columns (769 ∷ []) (7 ∷ []) (262 ∷ []) (125 ∷ []), replicate 61 9) ∷ (columns (769 ∷ []) (7 ∷ []) (262 ∷ []) (125 ∷ []), replicate 2 9)
    ∷ (columns (769 ∷ []) (7 ∷ []) (264 ∷ []) (125 ∷ []), 9 ∷ []) ∷ [])
    ≡ record { answer = accepted 59; out = ascii "[{\"address\":7,\"indent\":1,\"tokens\":[{\"t\":\"}\",\"k\":\"punct\"}]}]" ++ (0 ∷ 0 ∷ []) }
    ∷ record { answer = refused_with 4; out = 9 ∷ 9 ∷ [] }
    ∷ record { answer = refused_with 2; out = 9 ∷ [] } ∷ []
unfolding write_call_computed
write_called = refl
