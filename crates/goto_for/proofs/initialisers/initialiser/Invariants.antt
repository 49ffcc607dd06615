-- `goto_for::initialisers::initialiser` meets its contract. The answer is what is left to look for before place k.
-- Assumes nothing.
use mathlib.Core.Path.{◌≡◌}
use Prim.Native.Nat.{◌-◌}
use Rattle.definitions.specs.Columns.{listing}
use Rattle.family.specs.Register.{family_of, names_family}
use Rattle.goto_for.specs.Words.{init_words}
use Rattle.goto_for.proofs.initialisers.initialiser.Given as goal

abbrev pub invariant-loop-k : goal.invariant-loop-k
invariant-loop-k l = init_words (listing l.code.lines.now l.code.tokens.now l.code.text.now) (names_family (family_of l.s l.r)) l.plan l.ind 4 l.w ≡ init_words (listing l.code.lines.now l.code.tokens.now l.code.text.now) (names_family (family_of l.s l.r)) l.plan l.ind (4 - (l.w - l.k)) l.k
