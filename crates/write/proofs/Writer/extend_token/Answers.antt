-- `write::Writer::extend_token` meets its contract. The last word has another end, or there is none, or no room for it.
-- Assumes nothing.
use mathlib.Core.Path.{refl}
use native.Mathlib.Omega.{arith}
use borrow.Author.Rules.{rules}
use lib.ListN.{length-set}
use Rattle.write.proofs.Steps.{same_self, extension_none, extension_passed, extension_full, token_extended}
use Rattle.write.proofs.Writer.extend_token.Goals as goal

pub returns-then-k-eq0 : goal.returns-then-k-eq0
returns-then-k-eq0 c = record {
  same = same_self _;
  kept = refl;
  written = refl;
  holds = λ o s j. elim c.then-k-eq0.branch [
    | goal.then-k-eq0-via-then-k-eq0 w ↦ extension_none _ _ _ _ _ _ c.requires s j w.if-k-eq0.true
    | goal.then-k-eq0-via-else-k-eq0+then-self-k w ↦ extension_passed _ _ _ _ _ _ c.requires s j (omega (arith, w.if-self-k.true))
    | goal.then-k-eq0-via-else-k-eq0+else-self-k+then-end-ge-MOST_BYTES w ↦ extension_full _ _ _ _ _ _ c.requires s j w.if-end-ge-MOST_BYTES.true
  ];
}

pub returns : goal.returns
returns c = record {
  same = search (length-set, rules);
  kept = refl;
  written = refl;
  holds = λ o s j. token_extended _ _ _ _ _ _ c.requires s j;
}
