-- `walks::reads::list_lines` meets its contract. The lines before line i are listed.
-- Assumes nothing.
use mathlib.Core.Path.{◌≡◌}
use Prim.Native.Nat.{◌≤◌, ◌<◌}
use lib.ListN.{length, take}
use Rattle.definitions.specs.Lists.{any}
use Rattle.definitions.specs.Model.{line}
use Rattle.definitions.specs.Family.{names}
use Rattle.definitions.specs.Columns.{listing}
use Rattle.definitions.specs.Recover.{read_tokens}
use Rattle.families.specs.Tokens.{family_name}
use Rattle.walks.proofs.Seen.{passing}
use Rattle.walks.proofs.reads.list_lines.Given as goal

abbrev pub invariant-loop-i : goal.invariant-loop-i
invariant-loop-i l = (1 ≤ l.i) × (l.i ≤ length l.code.lines.now) × (l.m < l.i) × (length l.reads ≡ length l.initial.reads) × (take l.m l.reads ≡ passing (λ q. any (names (family_name (listing l.code.lines.now l.code.tokens.now l.code.text.now) l.k)) (read_tokens (line (listing l.code.lines.now l.code.tokens.now l.code.text.now) q))) l.i)
