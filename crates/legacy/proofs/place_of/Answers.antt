-- `legacy::place_of` meets its contract. The entries are right, as is computed. Assumes nothing.
use Rattle.definitions.specs.Lists.{◌≟◌, all, range, concat}
use Rattle.definitions.specs.Family.{legacy}
use Rattle.legacy.specs.Table.{all_names, hash}
use Rattle.legacy.proofs.Table.{place_start, place_least, place_only}
use borrow.Author.Rules.{rules}
use Rattle.legacy.proofs.place_of.Goals as goal

pub overflow_sub-result : goal.overflow_sub-result
unfolding all range
overflow_sub-result c = search (place_start, rules)

pub returns : goal.returns
unfolding all range ◌≟◌ concat legacy all_names hash
returns c = (search (place_least, rules), λ q g f. search (place_only, rules))
