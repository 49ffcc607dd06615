-- `pass_call::call` meets its contract. The questions, then the pass.
-- Assumes nothing.
use borrow.Author.Rules.{rules}
use native.Mathlib.Omega.{arith}
use mathlib.Core.Path.{sym}
use Rattle.definitions.specs.Answers.{rewritten}
use Rattle.write.specs.Holds.{columns, columns_of}
use Rattle.pass_call.proofs.Calling.{few_lines, refusal_is}
use Rattle.pass_call.proofs.call.Goals as goal

pub returns-in_err-asked-clause-passed : goal.returns-in_err-asked-clause-passed
returns-in_err-asked-clause-passed g c =
    let a = c.args in
    let C = columns a.code.now.lines.now a.addresses.now a.code.now.tokens.now a.code.now.text.now in
    let O = columns_of a.out.now in
    let e = refusal_is (λ L. rewritten (g.P.Pass.made L)) C O _ c.in_err-asked.ensures.result_value in
    search rules

pub passed_in-requires-else-code-le64-clause-lines_in_bounds : goal.passed_in-requires-else-code-le64-clause-lines_in_bounds
passed_in-requires-else-code-le64-clause-lines_in_bounds g c =
    let a = c.args in
    let C = columns a.code.now.lines.now a.addresses.now a.code.now.tokens.now a.code.now.text.now in
    let O = columns_of a.out.now in
    (few_lines C O (sym c.in_ok-asked.ensures.result_value), omega arith)
