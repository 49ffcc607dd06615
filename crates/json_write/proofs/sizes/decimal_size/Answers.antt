use Rattle.json_write.proofs.SizeRules.{digits_sized}
use Rattle.json_write.proofs.sizes.decimal_size.Goals as goal

pub returns : goal.returns
returns c = let o = c.checked_ilog10.ensures in digits_sized _ _ _ o.none o.power_le o.next_power_gt o.bound c.unwrap_or.ensures
