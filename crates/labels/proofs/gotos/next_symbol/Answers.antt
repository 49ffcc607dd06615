use borrow.Author.Rules.{rules}
use Rattle.labels.proofs.Leads.{symbol_found}
use Rattle.labels.proofs.gotos.next_symbol.Goals as goal

pub returns-then-is_symbol : goal.returns-then-is_symbol
returns-then-is_symbol c = search (symbol_found, rules)
