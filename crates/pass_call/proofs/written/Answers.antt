-- `pass_call::written` meets its contract. Written, then zeroed behind.
-- Assumes nothing.
use Rattle.pass_call.proofs.Calling.{asked_all, written_is}
use Rattle.write.specs.Holds.{columns, columns_of}
use Rattle.pass_call.proofs.written.Goals as goal

pub emit-requires : goal.emit-requires
emit-requires c =
    let a = c.args in
    let p = c.requires in
    let q = asked_all (columns a.code.now.lines.now a.addresses.now a.code.now.tokens.now a.code.now.text.now) (columns_of a.out.now) p.fact.asked in
    record { plan_value = (p.sound, q.1); text_value = q.2 }

pub returns : goal.returns
returns c =
    let a = c.args in
    written_is (columns a.code.now.lines.now a.addresses.now a.code.now.tokens.now a.code.now.text.now) _ c.requires.fact c.emit.ensures c.finish.ensures
