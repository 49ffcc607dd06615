-- `flow::graph::flow_graph_in` meets its contract. Assumes nothing.
use mathlib.Core.Path.{ap, ◌∙◌}
use lib.ListN.{length}
use Rattle.definitions.specs.Lists.{is_some}
use Rattle.model.specs.Listings.{listing_of}
use Rattle.model.proofs.Decode.{length_listing}
use Rattle.line_keywords.specs.declared.Keywords.{Keywords}
use Rattle.flow.proofs.Graphs.{graph_drawn}
use Rattle.flow.proofs.graph.flow_graph_in.Goals as goal

pub returns-clause-fact : goal.returns-clause-fact
returns-clause-fact g c = let K = c.args.code.now in
    let e = ap (λ (k : Keywords). k.code) c.in-Some.ensures.same ∙ c.new-keywords.ensures in
    λ z. graph_drawn (listing_of K) (length K.lines.now) c.args.r _ _ _ (length_listing K.lines.now K.tokens.now K.text.now)
    _ (rw c.new-keywords.ensures at c.new.ensures.matched) (ap is_some c.in-Some.is) _ (rw e at c.draw.ensures.value) c.if-not-draw.false
    c.no_edges.ensures (rw e at (c.draw.ensures.fact c.if-not-draw.false))
