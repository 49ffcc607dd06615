-- `line_steps::steps::cases` meets its contract. Assumes nothing.
use lib.ListN.{length}
use Rattle.model.specs.Listings.{listing_of}
use Rattle.blocks.specs.Structure.{blocks_of}
use Rattle.line_steps.proofs.Edges.{cases_some, cases_other}
use Rattle.line_steps.proofs.steps.cases.Goals as goal

pub returns-then-is_switch : goal.returns-then-is_switch
returns-then-is_switch c = let K = c.args.blocks.now.keywords in
    let L = listing_of K.code in
    cases_some L (blocks_of L) c.args.h c.end.result c.end.ensures.value (length K.code.lines.now) c.args.r c.is_switch.result c.is_switch.ensures c.in-Some.e c.in-Some.is _ _ c.if-is_switch.true c.case_steps.ensures

pub returns-else-is_switch : goal.returns-else-is_switch
returns-else-is_switch c = let K = c.args.blocks.now.keywords in
    let L = listing_of K.code in
    cases_other L (blocks_of L) c.args.h c.end.result c.end.ensures.value (length K.code.lines.now) c.args.r c.is_switch.result c.is_switch.ensures c.in-Some.e c.in-Some.is _ c.if-is_switch.false
