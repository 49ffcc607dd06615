-- The calls by name, so that a row can hold one, and their answers with every definition open to computation.
--   Call, Result     a call of a listing, and what it can answer
--   answer c L       what the call c answers of the listing L; `unfolding answer` lets the checker compute it
-- Assumes nothing.
use Rattle.std.specs.Prelude.{ℕ, List}
use Rattle.definitions.specs.Lists.{any, all, filter, take_while, position, last_position, find, last, on_first, on_last, concat, fold, range, ◌≟◌, starts_with}
use Rattle.definitions.specs.Model.{Line, text}
use Rattle.definitions.specs.Family.{legacy, legacy_family, suffix_width, other_family, family, fam_of, names}
use Rattle.definitions.specs.Statements.{has_kw, is_label, callee, without_semicolon, assignment, glue, merge, first_symbol, goto_target, targets, defines}
use Rattle.definitions.specs.Condition.{closing, condition, comparisons, see_logical, see_bracket, scan_text, scan_token, scan, only_comparison, negate_cond}
use Rattle.definitions.specs.ToFor.{initialiser, pop_reversed, for_loop, to_for}
use Rattle.definitions.specs.Passes.{turns}
use Rattle.definitions.specs.RecoverLoops.{guarded, rebuilt, close_at, close, loop_turn}
use Rattle.definitions.specs.RecoverGotoLoops.{goes_to, jump, leading_test, headed, rewritten as rewritten_turn, looped, goto_turn}
use Rattle.definitions.specs.Blocks.{brace, braces, close as close_blocks, blocks_from, blocks}
use Rattle.definitions.specs.FlowGraph.{chain_end, falls, past_end, loops_back, cases, leaves, label_line, jumps, gotos_lead, successors, flow_graph, predecessors}
use Rattle.definitions.specs.Sweeps.{incoming, outgoing, sweep, same_sets, sweeps_from, sweeps}
use Rattle.definitions.specs.Recover.{takes_address, link, webs_of, distinct, recover, web_number, is_def, key}
use Rattle.definitions.specs.SplitPoints.{all_jumps, split_points}
use Rattle.definitions.specs.Answers.{Answer, refused as refuses, accepted, Numbered, per_token, webs_refusal, webs, splits, Choice, chose_webs, chose_splits, choose, loops, goto_loops}

pub data Call : Type 0 where
  loops_call goto_loops_call webs_call splits_call choose_call : Call

pub data Result : Type 0 where
  refused : ℕ → Result
  rewritten : List Line → Result
  by_webs : Numbered → Result
  by_splits : Numbered → Result

abbrev pub pass_result : Answer (List Line) → Result
pass_result (refuses n) = refused n
pass_result (accepted L) = rewritten L

abbrev pub webs_result : Answer Numbered → Result
webs_result (refuses n) = refused n
webs_result (accepted r) = by_webs r

abbrev pub choice_result : Choice → Result
choice_result (chose_webs r) = by_webs r
choice_result (chose_splits r) = by_splits r

unfoldable pub answer : Call → List Line → Result
unfolding any all filter take_while position last_position find last on_first on_last concat fold range ◌≟◌ starts_with text legacy legacy_family suffix_width other_family family fam_of names has_kw is_label callee without_semicolon assignment glue merge first_symbol goto_target targets defines closing condition comparisons see_logical see_bracket scan_text scan_token scan only_comparison negate_cond initialiser pop_reversed for_loop to_for turns guarded rebuilt close_at close loop_turn goes_to jump leading_test headed rewritten_turn looped goto_turn brace braces close_blocks blocks_from blocks chain_end falls past_end loops_back cases leaves label_line jumps gotos_lead successors flow_graph predecessors incoming outgoing sweep same_sets sweeps_from sweeps takes_address link webs_of distinct recover web_number is_def key all_jumps split_points per_token webs_refusal webs splits choose
answer loops_call L = pass_result (loops L)
answer goto_loops_call L = pass_result (goto_loops L)
answer webs_call L = webs_result (webs L)
answer splits_call L = by_splits (splits L)
answer choose_call L = choice_result (choose L)
