-- The picture of a listing of four lines, computed by the checker.
--   loop, loop_numbers     the listing and its web numbers
--   web_numbers r          the numbers that the web call answers
--   loop_picture           its picture
--   loop_webs              the web call answers these numbers
--   example                the definition gives this picture
-- Assumes nothing.
use Rattle.std.specs.Prelude.{ℕ, ◌≡◌, refl, List, [], ◌∷◌, ◌++◌, None}
use Rattle.definitions.specs.Model.{text, Line, tok, pseudo_line, Text, Register, Keyword, Symbol, Punct}
use Rattle.definitions.specs.Answers.{no_family}
use Rattle.definitions.specs.Computed.{Result, refused, rewritten, by_webs, by_splits, webs_call, answer}
use Rattle.definitions.specs.Blocks.{close, brace, braces, blocks_from, blocks}
use Rattle.definitions.specs.Family.{legacy, legacy_family, suffix_width, other_family, family, fam_of}
use Rattle.definitions.specs.FlowGraph.{chain_end, falls, past_end, loops_back, cases, leaves, label_line, jumps, gotos_lead, successors, flow_graph}
use Rattle.definitions.specs.Lists.{fold, any, all, filter, take_while, position, last_position, find, concat, range, ◌≟◌, starts_with, ascii}
use Rattle.definitions.specs.Statements.{has_kw, is_label, first_symbol, targets}
use Rattle.json_definitions.specs.Writer.{digits_of, decimal}
use Rattle.dot.specs.Dot.{character, characters, digit, hue, font, blanks, below, web_text, has_web, same_web, first_of, appears, before, token_text, line_text, sum, greatest, token_cells, cells, node_head, number_cell, text_cell, node_start, node_text, start, width, node, arrow, down, aside, edge, edges, drawn, dot_text}

abbrev pub loop : List Line
loop =
    pseudo_line None 0 (tok (ascii "f(") Punct ∷ tok (ascii "rdi") Register ∷ tok (ascii ")") Punct ∷ [])
    ∷ pseudo_line None 0 (tok (ascii "L1") Symbol ∷ tok (ascii ":") Punct ∷ [])
    ∷ pseudo_line None 1 (tok (ascii "rax") Register ∷ tok (ascii " = ") Punct ∷ tok (ascii "rdi") Register ∷ tok (ascii " < 8;") Punct ∷ [])
    ∷ pseudo_line None 1 (tok (ascii "goto") Keyword ∷ tok (ascii " ") Text ∷ tok (ascii "L1") Symbol ∷ tok (ascii ";") Punct ∷ [])
    ∷ []

abbrev pub web_numbers : Result → List ℕ
web_numbers (refused n) = []
web_numbers (rewritten L) = []
web_numbers (by_webs r) = r.numbers
web_numbers (by_splits r) = []

abbrev pub loop_numbers : List ℕ
loop_numbers =
    no_family ∷ 0 ∷ no_family
    ∷ no_family ∷ no_family
    ∷ 1 ∷ no_family ∷ 0 ∷ no_family
    ∷ no_family ∷ no_family ∷ no_family ∷ no_family ∷ []

abbrev pub loop_picture : List ℕ
loop_picture =
    ascii "digraph flow {\n"
    ++ ascii "  ranksep=0.1\n"
    ++ ascii "  nodesep=0.15\n"
    ++ ascii "  node [shape=box margin=0 height=0 color=gray80 fontname=Courier fontsize=10]\n"
    ++ ascii "  edge [color=gray30 arrowsize=0.5]\n"
    ++ ascii "  0 [label=<<table border=\"0\"><tr><td align=\"right\" width=\"24\"><font color=\"gray50\">0</font></td><td align=\"left\" width=\"154\">f(<font color=\"0.00000 0.9 0.6\">rdi<sub><font point-size=\"8\">0</font></sub></font>)</td></tr></table>>]\n"
    ++ ascii "  1 [label=<<table border=\"0\"><tr><td align=\"right\" width=\"24\"><font color=\"gray50\">1</font></td><td align=\"left\" width=\"154\">L1:</td></tr></table>>]\n"
    ++ ascii "  2 [label=<<table border=\"0\"><tr><td align=\"right\" width=\"24\"><font color=\"gray50\">2</font></td><td align=\"left\" width=\"154\">&nbsp;&nbsp;&nbsp;&nbsp;<font color=\"0.61803 0.9 0.6\">rax<sub><font point-size=\"8\">1</font></sub></font>&nbsp;=&nbsp;<font color=\"0.00000 0.9 0.6\">rdi<sub><font point-size=\"8\">0</font></sub></font>&nbsp;&lt;&nbsp;8;</td></tr></table>>]\n"
    ++ ascii "  3 [label=<<table border=\"0\"><tr><td align=\"right\" width=\"24\"><font color=\"gray50\">3</font></td><td align=\"left\" width=\"154\">&nbsp;&nbsp;&nbsp;&nbsp;goto&nbsp;L1;</td></tr></table>>]\n"
    ++ ascii "  0 -> 1 [weight=9]\n"
    ++ ascii "  1 -> 2 [weight=9]\n"
    ++ ascii "  2 -> 3 [weight=9]\n"
    ++ ascii "  3:w -> 1:w [penwidth=2]\n"
    ++ ascii "}\n"

pub loop_webs : web_numbers (answer webs_call loop) ≡ loop_numbers
unfolding answer
loop_webs = refl

pub example : dot_text loop loop_numbers ≡ loop_picture
unfolding fold text close any all filter take_while position last_position find concat range ◌≟◌ starts_with legacy legacy_family suffix_width other_family family fam_of has_kw is_label first_symbol targets brace braces blocks_from blocks chain_end falls past_end loops_back cases leaves label_line jumps gotos_lead successors flow_graph digits_of decimal character characters digit hue font blanks below web_text has_web same_web first_of appears before token_text line_text sum greatest token_cells cells node_head number_cell text_cell node_start node_text start width node arrow down aside edge edges drawn dot_text
example = refl
