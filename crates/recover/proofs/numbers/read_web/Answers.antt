-- `recover::numbers::read_web` meets its contract. By its calls. Assumes nothing.
use Rattle.recover.proofs.LinkReads.{read_by}
use Rattle.recover.proofs.numbers.read_web.Goals as goal

pub returns : goal.returns
returns c = read_by _ _ _ _ _ _ _ c.requires.0 c.requires.2 _ _ _ c.first_reaching.auto.space c.first_reaching.ensures c.web_of.ensures
