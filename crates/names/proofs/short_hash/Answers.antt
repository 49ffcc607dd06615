-- `names::short_hash` meets its contract. The name is one step.
-- Assumes nothing.
use Rattle.names.proofs.Hashing.{hashing}
use Rattle.std.proofs.Common.{rules}
use Rattle.names.proofs.short_hash.Goals as goal

pub returns : goal.returns
returns c = search (hashing, rules)
