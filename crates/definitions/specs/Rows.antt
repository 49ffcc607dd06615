-- Document 01's listings 1 to 10 and its four traps, as rows of one list under one theorem, `rows_hold` of proofs/RowsHold: each row has a
-- listing, a call and its answer.
--   Row, rows             the rows
--   shown c L             what the call c answers of the listing L, web numbers as the web program prints them
-- Assumes nothing.
use Rattle.std.specs.Prelude.{if◌then◌else◌, ℕ, ◌+◌, List, [], ◌∷◌, ◌++◌, map, eqb, length, get_or, take, None, Some}
use Prim.Native.String.{String}
use Rattle.definitions.specs.Lists.{concat, up_to, ascii}
use Rattle.definitions.specs.Model.{Token, Line, tok, pseudo_line, token, line, Register, Number, Keyword, Symbol, Punct}
use Rattle.definitions.specs.Family.{fam_of}
use Rattle.definitions.specs.Columns.{all_tokens}
use Rattle.definitions.specs.Answers.{Numbered}
use Rattle.definitions.specs.Computed.{Call, loops_call, goto_loops_call, webs_call, Result, refused, rewritten, by_webs, by_splits, answer}

-- Answers as the web program prints them: a row `line token family#web D|U` for each token with a family.

pub data Use : Type 0 where
  D U : Use

pub record Occurrence : Type 0 where
  pub line : ℕ
  pub place : ℕ
  pub family : List ℕ
  pub number : ℕ
  pub mark : Use

pub data Shown : Type 0 where
  refused_with : ℕ → Shown
  lines : List Line → Shown
  numbers : List Occurrence → Shown

abbrev pub occurrence : ℕ → ℕ → List ℕ → ℕ → ℕ → Occurrence
occurrence i k f number byte = record { line = i; place = k; family = f; number = number; mark = if eqb byte 1 then D else U }

-- token k of line i with its number and mark, where it has a family
abbrev pub occurrence_at : List Line → Numbered → ℕ → ℕ → List Occurrence
occurrence_at L r i k =
    let n = length (all_tokens (take i L)) + k in
    elim (fam_of (token (line L i) k)) [ None ↦ [] | Some f ↦ occurrence i k f.name (get_or r.numbers n 0) (get_or r.marks n 0) ∷ [] ]

abbrev pub occurrences : List Line → Numbered → List Occurrence
occurrences L r = concat (map (λ i. concat (map (occurrence_at L r i) (up_to (length (line L i).tokens)))) (up_to (length L)))

unfoldable pub show : List Line → Result → Shown
show L (refused n) = refused_with n
show L (rewritten M) = lines M
show L (by_webs r) = numbers (occurrences L r)
show L (by_splits r) = numbers (occurrences L r)

unfoldable pub shown : Call → List Line → Shown
unfolding answer show
shown c L = show L (answer c L)

-- Notation

abbrev kw : String → Token
kw s = tok (ascii s) Keyword

abbrev reg : String → Token
reg s = tok (ascii s) Register

abbrev num : String → Token
num s = tok (ascii s) Number

abbrev sym : String → Token
sym s = tok (ascii s) Symbol

abbrev p : String → Token
p s = tok (ascii s) Punct

abbrev at : ℕ → List Token → Line
at indent ts = pseudo_line None indent ts

-- `r = n;`
abbrev set : String → String → List Token
set r n = reg r ∷ p " = " ∷ num n ∷ p ";" ∷ []

-- `g(r);`
abbrev call : String → List Token
call r = sym "g" ∷ p "(" ∷ reg r ∷ p ");" ∷ []

-- `g();`
abbrev call_g : List Token
call_g = sym "g" ∷ p "();" ∷ []

abbrev goto : String → List Token
goto s = kw "goto" ∷ p " " ∷ sym s ∷ p ";" ∷ []

abbrev label : String → List Token
label s = sym s ∷ p ":" ∷ []

abbrev brace : List Token
brace = p "}" ∷ []

abbrev return : List Token
return = kw "return" ∷ p ";" ∷ []

-- `int f()`, `{`, the body, `}`
abbrev function : List Line → List Line
function body = at 0 (kw "int" ∷ p " " ∷ sym "f" ∷ p "()" ∷ []) ∷ at 0 (p "{" ∷ []) ∷ (body ++ (at 0 brace ∷ []))

abbrev o : ℕ → ℕ → String → ℕ → Use → Occurrence
o i k f n u = record { line = i; place = k; family = ascii f; number = n; mark = u }

-- The listings

-- 4 and 5: `rcx = 0;`, lines between, and the loop over rcx, guarded and as rebuilt

abbrev guarded_loop : List Line
guarded_loop =
    at 1 (kw "if" ∷ p " (" ∷ reg "rcx" ∷ p " < " ∷ num "4" ∷ p ") {" ∷ [])
    ∷ at 2 (kw "do" ∷ p " {" ∷ [])
    ∷ at 3 (call "rcx")
    ∷ at 3 (reg "rcx" ∷ p "++;" ∷ [])
    ∷ at 2 (p "} " ∷ kw "while" ∷ p " (" ∷ reg "rcx" ∷ p " < " ∷ num "4" ∷ p ");" ∷ [])
    ∷ at 1 brace
    ∷ []

abbrev for_loop : List Line
for_loop =
    at 1 (kw "for" ∷ p " (" ∷ reg "rcx" ∷ p " = " ∷ num "0" ∷ p "; " ∷ reg "rcx" ∷ p " < " ∷ num "4" ∷ p "; " ∷ reg "rcx" ∷ p "++) {" ∷ [])
    ∷ at 2 (call "rcx")
    ∷ at 1 brace
    ∷ []

abbrev while_loop : List Line
while_loop =
    at 1 (kw "while" ∷ p " (" ∷ reg "rcx" ∷ p " < " ∷ num "4" ∷ p ") {" ∷ [])
    ∷ at 2 (call "rcx")
    ∷ at 2 (reg "rcx" ∷ p "++;" ∷ [])
    ∷ at 1 brace
    ∷ []

abbrev init : Line
init = at 1 (set "rcx" "0")

abbrev three_between : List Line
three_between = at 1 (set "rax" "1") ∷ at 1 (set "rbx" "2") ∷ at 1 (set "rdx" "3") ∷ []

abbrev four_between : List Line
four_between = at 1 (set "rsi" "4") ∷ three_between

-- 6: a label and goto loop with a leading test
abbrev goto_loop : List Line
goto_loop =
    at 1 (label "L1")
    ∷ at 2 (kw "if" ∷ p " (" ∷ reg "rax" ∷ p " == " ∷ num "0" ∷ p ") " ∷ goto "L2")
    ∷ at 2 call_g
    ∷ at 2 (goto "L1")
    ∷ at 1 (label "L2")
    ∷ at 2 return
    ∷ []

-- 7: a label with one line after it, and a label directly before its own goto

abbrev one_line_after : List Line
one_line_after = at 1 (label "L1") ∷ at 2 (goto "L1") ∷ []

abbrev own_goto : List Line
own_goto = at 1 (label "L1") ∷ at 2 (goto "L1") ∷ at 1 return ∷ []

pub record Row : Type 0 where
  pub call : Call
  pub listing : List Line
  pub answer : Shown

abbrev row : Call → List Line → Shown → Row
row c L a = record { call = c; listing = L; answer = a }

abbrev pub rows : List Row
rows =
    -- 1: a register that is set twice has two webs
    row webs_call
    (function (at 1 (set "rax" "1") ∷ at 1 (call "rax") ∷ at 1 (set "rax" "2") ∷ at 1 (kw "return" ∷ p " " ∷ reg "rax" ∷ p ";" ∷ []) ∷ []))
    (numbers (o 2 0 "rax" 1 D ∷ o 3 2 "rax" 1 U ∷ o 4 0 "rax" 2 D ∷ o 5 2 "rax" 2 U ∷ []))
    -- 2: what both branches set is one web
    ∷ row webs_call
    (function (
    at 1 (kw "if" ∷ p " (" ∷ reg "rbx" ∷ p ") {" ∷ []) ∷ at 2 (set "rax" "1") ∷ at 1 (p "} " ∷ kw "else" ∷ p " {" ∷ []) ∷ at 2 (set "rax" "2")
    ∷ at 1 brace ∷ at 1 (kw "return" ∷ p " " ∷ reg "rax" ∷ p ";" ∷ []) ∷ []))
    (numbers (o 2 2 "rbx" 0 U ∷ o 3 0 "rax" 1 D ∷ o 5 0 "rax" 1 D ∷ o 7 2 "rax" 1 U ∷ []))
    -- 3: no edge arrives at the else line, so nothing reaches its rcx
    ∷ row webs_call
    (function (
    at 1 (set "rcx" "1") ∷ at 1 (kw "if" ∷ p " (" ∷ reg "rax" ∷ p ") {" ∷ []) ∷ at 2 call_g
    ∷ at 1 (p "} " ∷ kw "else" ∷ p " " ∷ kw "if" ∷ p " (" ∷ reg "rcx" ∷ p ") {" ∷ []) ∷ at 2 call_g ∷ at 1 brace ∷ []))
    (numbers (o 2 0 "rcx" 1 D ∷ o 3 2 "rax" 0 U ∷ o 5 5 "rcx" 0 U ∷ []))
    -- 4: a guarded do-while with initialiser and step is a for
    ∷ row loops_call (init ∷ guarded_loop) (lines for_loop)
    -- 5: the initialiser 4 lines up, and 5 lines up
    ∷ row loops_call (init ∷ (three_between ++ guarded_loop)) (lines (three_between ++ for_loop))
    ∷ row loops_call (init ∷ (four_between ++ guarded_loop)) (lines (init ∷ (four_between ++ while_loop)))
    -- 6: the leading test becomes the negated condition
    ∷ row goto_loops_call goto_loop
    (lines (
    at 2 (kw "while" ∷ p " (" ∷ reg "rax" ∷ p " != " ∷ num "0" ∷ p ") {" ∷ []) ∷ at 3 call_g ∷ at 2 brace ∷ at 1 (label "L2") ∷ at 2 return ∷ []))
    -- 7: unchanged
    ∷ row goto_loops_call one_line_after (lines one_line_after)
    ∷ row goto_loops_call own_goto (lines own_goto)
    -- 8: a label at indent 255 with two lines after
    ∷ row goto_loops_call (at 255 (label "L1") ∷ at 1 call_g ∷ at 1 call_g ∷ []) (refused_with 6)
    -- 9: eax = 1; defines, ax = 1; and rax = rax + 1; do not
    ∷ row webs_call
    (function (at 1 (set "eax" "1") ∷ at 1 (set "ax" "1") ∷ at 1 (reg "rax" ∷ p " = " ∷ reg "rax" ∷ p " + " ∷ num "1" ∷ p ";" ∷ []) ∷ []))
    (numbers (o 2 0 "rax" 1 D ∷ o 3 0 "rax" 1 U ∷ o 4 0 "rax" 1 U ∷ o 4 2 "rax" 1 U ∷ []))
    -- 10: one line; a brace that does not match
    ∷ row webs_call (at 0 (p "}" ∷ []) ∷ []) (refused_with 7)
    ∷ row webs_call (at 0 (kw "int" ∷ p " " ∷ sym "f" ∷ p "()" ∷ []) ∷ at 0 brace ∷ []) (refused_with 8)
    -- Trap: a read that three definitions reach links all three, and not only the first two. (Only two linked: webs 1, 1, 2.)
    ∷ row webs_call
    (function (
    at 1 (set "rax" "1") ∷ at 1 (kw "if" ∷ p " (" ∷ reg "rbx" ∷ p ") {" ∷ []) ∷ at 2 (set "rax" "2") ∷ at 1 brace
    ∷ at 1 (kw "if" ∷ p " (" ∷ reg "rcx" ∷ p ") {" ∷ []) ∷ at 2 (set "rax" "3") ∷ at 1 brace ∷ at 1 (call "rax") ∷ []))
    (numbers (o 2 0 "rax" 1 D ∷ o 3 2 "rbx" 0 U ∷ o 4 0 "rax" 1 D ∷ o 6 2 "rcx" 0 U ∷ o 7 0 "rax" 1 D ∷ o 9 2 "rax" 1 U ∷ []))
    -- Trap: a value does not come round through line 0. (Come round, the definition would reach the read: web 0 and not 1.)
    ∷ row webs_call (at 0 (label "L1") ∷ at 1 (call "rax") ∷ at 1 (set "rax" "1") ∷ at 1 (goto "L1") ∷ [])
    (numbers (o 1 2 "rax" 0 U ∷ o 2 0 "rax" 1 D ∷ []))
    -- Trap: no edge leads from the end of a branch into `} else {`. (With it the definition would reach the other branch: web 0 and not 1.)
    ∷ row webs_call
    (function (
    at 1 (kw "if" ∷ p " (" ∷ reg "rbx" ∷ p ") {" ∷ []) ∷ at 2 (set "rax" "1") ∷ at 1 (p "} " ∷ kw "else" ∷ p " {" ∷ []) ∷ at 2 (call "rax")
    ∷ at 1 brace ∷ []))
    (numbers (o 2 2 "rbx" 0 U ∷ o 3 0 "rax" 1 D ∷ o 5 2 "rax" 0 U ∷ []))
    -- Trap: of two equal labels the last counts. (By the first, the definition would reach the read on line 2: web 0 and not 1.)
    ∷ row webs_call
    (at 0 (kw "int" ∷ p " " ∷ sym "f" ∷ p "()" ∷ []) ∷ at 0 (label "L1") ∷ at 1 (call "rax") ∷ at 1 (set "rax" "1") ∷ at 1 (goto "L1") ∷ at 0 (label "L1")
    ∷ at 1 return ∷ [])
    (numbers (o 2 2 "rax" 0 U ∷ o 3 0 "rax" 1 D ∷ []))
    ∷ []
