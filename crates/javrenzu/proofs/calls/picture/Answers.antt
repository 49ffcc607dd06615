-- `javrenzu::calls::picture` meets its contract.
-- Assumes nothing.
use Rattle.javrenzu.proofs.Rules.{picture_long}
use Rattle.javrenzu.proofs.calls.picture.Goals as goal

pub returns-else-e-le4194304 : goal.returns-else-e-le4194304
returns-else-e-le4194304 c = picture_long _ _ _ _ _ _ _ c.requires.in_bounds c.put_dot-e.ensures c.if-e-le4194304.false
