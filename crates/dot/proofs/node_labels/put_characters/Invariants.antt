-- What is left is not written yet.
use lib.ListN.{drop}
use Rattle.json_append.specs.Appended.{Begun}
use Rattle.dot.specs.Dot.{characters}
use Rattle.dot.proofs.node_labels.put_characters.Given as goal

abbrev pub invariant-loop-c : goal.invariant-loop-c
invariant-loop-c l = Begun l.initial.to (characters l.s) l.to (characters (drop l.c-index l.s))
