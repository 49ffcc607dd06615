use Prim.Native.Nat.{◌+◌}
use mathlib.Core.Path.{refl, ◌∙◌}
use mathlib.Core.Bool.{false≢true}
use native.Mathlib.Omega.{arith}
use borrow.Author.Rules.{rules}
use lib.ListN.{length}
use Rattle.definitions.specs.FlowGraph.{successors}
use Rattle.definitions.specs.Lists.{member}
use Rattle.model.specs.Listings.{listing_of}
use Rattle.model.proofs.Decode.{length_listing}
use Rattle.line_steps.specs.Drawing.{rest, line_edges}
use Rattle.blocks.specs.Structure.{blocks_of}
use Rattle.flow.proofs.Graphs.{rest_next, rest_end, rest_all, lines_leading}
use Rattle.line_steps.proofs.Drawings.{matrices_kept, drawn_as, drawing_start, drawing_next, drawing_end}
use Rattle.flow.proofs.graph.draw.Goals as goal

pub loop-i-init : goal.loop-i-init
loop-i-init c = let a = c.args in
    let K = a.blocks.now.keywords.code in
    let L = listing_of K in
    (search rules, refl, search (lines_leading, rules), drawing_start (length K.lines.now) a.r a.space.now (rest L (blocks_of L) 0))

pub line_steps-requires : goal.line_steps-requires
line_steps-requires c = let a = c.args in
    let K = a.blocks.now.keywords.code in
    record { matrices = (matrices_kept (length K.lines.now) a.r a.space.now c.loop-i.space c.requires.matrices c.loop-i.invariant.1, search rules); same = c.requires.same }

pub loop-i-preserved : goal.loop-i-preserved
loop-i-preserved c = let a = c.args in
    let K = a.blocks.now.keywords.code in
    let l = c.loop-i in
    let L = listing_of K in
    let E = c.line_steps.ensures.fact c.if-not-line_steps.false in (
      search rules,
      c.line_steps.auto.space ∙ l.invariant.1,
      search (lines_leading, rules),
      drawing_next (length K.lines.now) a.r a.space.now (rest L (blocks_of L) 0) l.space (rest L (blocks_of L) l.i) l.invariant.3 _ (line_edges L (blocks_of L) l.i) (rest L (blocks_of L) (l.i + 1)) E
          (λ p q hp hq. rest_next L (blocks_of L) l.i p q),
    )

pub returns-then-not-line_steps : goal.returns-then-not-line_steps
returns-then-not-line_steps c = record { value = search (lines_leading, rules); fact = λ z. absurd (false≢true z) }

pub returns : goal.returns
returns c = let a = c.args in
    let K = a.blocks.now.keywords.code in
    let l = c.loop-i in
    let L = listing_of K in
    let n = length_listing K.lines.now K.tokens.now K.text.now in record {
      value = search (lines_leading, rules);
      fact = λ z. drawn_as (length K.lines.now) a.r a.space.now l.space (rest L (blocks_of L) 0) (λ i j. member j (successors L (blocks_of L) i))
          (drawing_end (length K.lines.now) a.r a.space.now (rest L (blocks_of L) 0) l.space (rest L (blocks_of L) l.i) l.invariant.3 (λ p q hp hq. rest_end L (blocks_of L) (length K.lines.now) l.i p q (omega (arith, c.loop-i-test.false)) hp hq))
          (λ p q hp hq. rest_all L (blocks_of L) p q (omega arith));
    }
