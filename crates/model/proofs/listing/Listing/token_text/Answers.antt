-- `model::listing::Listing::token_text` meets its contract. A token's text is the part from its start to its end. Assumes nothing.
use borrow.Author.Rules.{rules}
use Rattle.model.proofs.Access.{access}
use Rattle.model.proofs.listing.Listing.token_text.Goals as goal

pub returns : goal.returns
returns c = search (access, rules)
