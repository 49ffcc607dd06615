-- `splits::tokens::write_lines` meets its contract. Assumes nothing.
use Prim.Native.Nat.{◌<◌, ◌≤◌}
use mathlib.Core.Path.{refl, ap, ◌∙◌}
use native.Mathlib.Omega.{arith}
use lib.ListN.{length}
use Rattle.definitions.specs.Recover.{defined_families}
use Rattle.model.specs.Listings.{listing_of, tokens_of}
use Rattle.model.specs.Places.{line_start, line_end}
use Rattle.model.proofs.Decode.{length_tokens}
use Rattle.splits.specs.Tokens.{token_mark, over}
use Rattle.splits.proofs.WriteRules.{number_at, mark_at, tallied_start, tallied_fits, tallied_next, number_tallied, written_start, written_next, written_end}
use Rattle.splits.proofs.tokens.write_lines.Goals as goal

pub loop-i-init : goal.loop-i-init
loop-i-init c = let a = c.args in
    let p = c.requires in
    let code = a.lookup.now.code in
    let fs = defined_families (listing_of code) in (
      refl,
      tallied_start a.starts.now a.counts.now p.by_index.2,
      written_start code.lines.now code.tokens.now p.tokens_value.0 (number_at fs a.starts.now) (tokens_of code) a.numbers.now,
      written_start code.lines.now code.tokens.now p.tokens_value.0 (mark_at fs a.starts.now) (tokens_of code) a.marks.now,
      refl,
      refl,
    )

pub overflow_add-counts : goal.overflow_add-counts
overflow_add-counts c = let l = c.loop-i in
    tallied_fits c.args.starts.now l.i l.counts l.invariant.1 _ (omega (arith, c.loop-i-test.true, c.requires.tokens_value.1))

pub loop-i-preserved : goal.loop-i-preserved
loop-i-preserved c = let a = c.args in
    let p = c.requires in
    let l = c.loop-i in
    let w = c.write_line.ensures in
    let code = a.lookup.now.code in
    let fs = defined_families (listing_of code) in
    let us = tokens_of code in
    let n = length_tokens code.tokens.now code.text.now in
    let d = c.number-d in
    let low : d.result < length l.counts = omega (arith, d.ensures, p.by_index.0 l.i c.loop-i-test.true, p.by_index.1) in
    let T = tallied_next a.starts.now l.i l.counts l.invariant.1 d.result d.ensures _ low refl in
    let numbers = rw l.invariant.0 at w.numbers_after in
    let marks = rw l.invariant.0 at w.marks_after in (
      w.kept.0 ∙ l.invariant.0,
      T,
      written_next code.lines.now code.tokens.now p.tokens_value.0 (number_at fs a.starts.now) us a.numbers.now l.i l.numbers l.invariant.2 c.loop-i-test.true n _ (numbers ∙ ap (λ f. over (line_start code.lines.now l.i) (line_end code.lines.now code.tokens.now l.i) f us l.numbers) (number_tallied fs a.starts.now l.i _ T)),
      written_next code.lines.now code.tokens.now p.tokens_value.0 (mark_at fs a.starts.now) us a.marks.now l.i l.marks l.invariant.3 c.loop-i-test.true n _ (marks ∙ ap (λ d. over (line_start code.lines.now l.i) (line_end code.lines.now code.tokens.now l.i) (token_mark fs d) us l.marks) d.ensures),
      w.kept.1 ∙ l.invariant.4,
      w.kept.2 ∙ l.invariant.5,
    )

pub returns : goal.returns
returns c = let a = c.args in
    let p = c.requires.tokens_value in
    let l = c.loop-i in
    let code = a.lookup.now.code in
    let fs = defined_families (listing_of code) in
    let us = tokens_of code in
    let z : l.i ≤ length code.lines.now = omega arith in record {
      numbers_after = written_end code.lines.now code.tokens.now p.0 (number_at fs a.starts.now) us a.numbers.now l.i l.numbers l.invariant.2 z c.loop-i-test.false p.2;
      marks_after = written_end code.lines.now code.tokens.now p.0 (mark_at fs a.starts.now) us a.marks.now l.i l.marks l.invariant.3 z c.loop-i-test.false p.3;
      kept = (l.invariant.0, l.invariant.4, l.invariant.5);
    }
