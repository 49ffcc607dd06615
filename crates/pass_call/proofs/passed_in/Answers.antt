-- `pass_call::passed_in` meets its contract. Planned, then written or zeroed.
-- Assumes nothing.
use lib.ListN.{length-replicate}
use Rattle.plan.proofs.Sources.{columns_source}
use Rattle.write.specs.Holds.{columns, columns_of}
use Rattle.pass_call.specs.Answers.{source}
use Rattle.pass_call.proofs.Calling.{asked_all, few_lines, plan_overflows, plan_accepts, made_lines, writable}
use Rattle.pass_call.proofs.passed_in.Goals as goal

pub plan-requires : goal.plan-requires
plan-requires g c =
    let a = c.args in
    let C = columns a.code.now.lines.now a.addresses.now a.code.now.tokens.now a.code.now.text.now in
    let O = columns_of a.out.now in
    (few_lines C O c.requires.yes, rw length-replicate c.requires.lines_in_bounds.0, (asked_all C O c.requires.yes).2)

pub returns-in_default : goal.returns-in_default
returns-in_default g c =
    let a = c.args in
    let C = columns a.code.now.lines.now a.addresses.now a.code.now.tokens.now a.code.now.text.now in
    let O = columns_of a.out.now in
    let planned = c.plan.ensures.planned (source C) (columns_source _ _ _ _ (asked_all C O c.requires.yes).1) in
    let z = c.zero_all.ensures in
    record { same = z.same; passed = plan_overflows g.P.Pass.made C O c.requires.yes _ _ planned c.in_default.is _ z.columns }

pub written-requires-clause-fact : goal.written-requires-clause-fact
written-requires-clause-fact g c =
    let a = c.args in
    let C = columns a.code.now.lines.now a.addresses.now a.code.now.tokens.now a.code.now.text.now in
    let O = columns_of a.out.now in
    let planned = c.plan.ensures.planned (source C) (columns_source _ _ _ _ (asked_all C O c.requires.yes).1) in
    writable C O _ c.requires.yes (g.met.P.Pass.fits (source C) _ (made_lines _ _ _ _ planned c.in-Ok.is))

pub returns : goal.returns
returns g c =
    let a = c.args in
    let C = columns a.code.now.lines.now a.addresses.now a.code.now.tokens.now a.code.now.text.now in
    let O = columns_of a.out.now in
    let planned = c.plan.ensures.planned (source C) (columns_source _ _ _ _ (asked_all C O c.requires.yes).1) in
    let z = c.written.ensures in
    record { same = z.same; passed = plan_accepts g.P.Pass.made C O c.requires.yes _ _ planned _ c.in-Ok.is _ z.passed }
