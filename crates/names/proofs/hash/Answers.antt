-- `names::hash` meets its contract.
-- Assumes nothing.
use Rattle.names.proofs.Hashing.{hashing}
use Rattle.std.proofs.Common.{rules}
use Rattle.names.proofs.hash.Goals as goal

pub returns : goal.returns
returns c = search (hashing, rules)
