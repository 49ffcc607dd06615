-- `bits::add_edge` meets its contract. Assumes nothing.
use Rattle.bits.proofs.EdgeLaws.{line_small}
use native.Mathlib.Omega.{arith}
use borrow.Author.Rules.{rules}
use Rattle.bits.proofs.add_edge.Goals as goal

pub note-requires : goal.note-requires
note-requires c = (search rules, search rules, search rules, search (line_small, rules), omega arith)

pub note-requires-2 : goal.note-requires-2
note-requires-2 c = (search rules, search rules, search rules, search (line_small, rules), omega arith)
