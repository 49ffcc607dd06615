-- `pass_call::zero_all` meets its contract. Four columns.
-- Assumes nothing.
use mathlib.Core.Path.{refl}
use Rattle.pass_call.proofs.Calling.{zeros_are}
use Rattle.pass_call.proofs.zero_all.Goals as goal

pub returns : goal.returns
returns c =
    let w = c.args.out.now in
    record {
      same = record {
        lines = refl;
        addresses = refl;
        tokens = refl;
        text = refl;
        lines_length = c.zero.auto.words;
        addresses_length = c.zero-2.auto.words;
        tokens_length = c.zero-3.auto.words;
        text_length = c.zero-4.auto.words;
      };
      columns = zeros_are w.lines.now w.addresses.now w.tokens.now w.text.now _ _ _ _ c.zero.ensures c.zero-2.ensures c.zero-3.ensures c.zero-4.ensures;
    }
