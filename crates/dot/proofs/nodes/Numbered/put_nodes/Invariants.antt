-- The lines from i on are not written yet.
use lib.ListN.{length}
use Rattle.json_append.specs.Appended.{Begun}
use Rattle.rows.specs.Rows.{rows}
use Rattle.dot.specs.Held.{node_at}
use Rattle.dot.proofs.nodes.Numbered.put_nodes.Given as goal

abbrev pub invariant-loop-i : goal.invariant-loop-i
invariant-loop-i l =
    let c = l.self.code.now in
    let node = node_at c.lines.now c.tokens.now c.text.now l.self.numbers.now l.w in
    Begun l.initial.to (rows node 0 (length c.lines.now)) l.to (rows node l.i (length c.lines.now))
