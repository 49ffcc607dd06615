use Rattle.loops.proofs.WordRules.{init_places}
use borrow.Author.Rules.{rules}
use Rattle.loops.proofs.for_loops.initialiser.Goals as goal

pub loop-k-init : goal.loop-k-init
loop-k-init c = search (init_places, rules)

pub bounds-plan-k : goal.bounds-plan-k
bounds-plan-k c = search (init_places, rules)

pub before_at-requires : goal.before_at-requires
before_at-requires c = search (init_places, rules)

pub returns-in-Init : goal.returns-in-Init
returns-in-Init c = search (init_places, rules)

pub loop-k-preserved : goal.loop-k-preserved
loop-k-preserved c = search (init_places, rules)

pub returns-in-Other : goal.returns-in-Other
returns-in-Other c = search (init_places, rules)

pub returns : goal.returns
returns c = search (init_places, rules)
