-- `labels::gotos::Labels::goto_line` meets its contract. Assumes nothing.
use mathlib.Core.Path.{◌∙◌}
use Rattle.definitions.specs.FlowGraph.{label_line}
use Rattle.model.specs.Listings.{listing_of, tokens_of}
use Rattle.labels.proofs.Leads.{line_some, line_none}
use Rattle.labels.proofs.Labels.goto_line.Goals as goal

pub returns : goal.returns
returns c = let K = c.args.self.now.code in
    line_some (tokens_of K) _ _ (label_line (listing_of K)) c.next_symbol.ensures c.in_ok-k.k _ _ c.in_ok-k.was c.token_text.ensures c.label_line.ensures

pub returns-in_err-k : goal.returns-in_err-k
returns-in_err-k c = let K = c.args.self.now.code in
    c.from_residual.ensures ∙ line_none (tokens_of K) _ _ (label_line (listing_of K)) c.next_symbol.ensures c.in_err-k.was
