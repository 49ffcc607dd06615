-- `negate::comparison::only_comparison` meets its contract. The scan of all tokens finds what the scan without the empty ones finds.
-- Assumes nothing.
use Rattle.negate.proofs.Negations.{negation_one, negation_other}
use Rattle.model.proofs.Decode.{line_short}
use native.Mathlib.Omega.{arith}
use Rattle.negate.proofs.comparison.only_comparison.Goals as goal

pub scan-r-requires : goal.scan-r-requires
scan-r-requires c = let a = c.args in
    omega (arith, c.test_count-m.ensures, line_short a.code.now.lines.now a.code.now.tokens.now a.code.now.text.now a.i (a.code.now.lines_fit a.i))

pub returns-then-r-eq1 : goal.returns-then-r-eq1
returns-then-r-eq1 c = negation_one _ c.args.g _ c.scan-r.result c.test_count-m.ensures c.scan-r.ensures c.if-r-eq1.true

pub returns-else-r-eq1 : goal.returns-else-r-eq1
returns-else-r-eq1 c = negation_other _ c.args.g _ c.scan-r.result c.test_count-m.ensures c.scan-r.ensures c.if-r-eq1.false
