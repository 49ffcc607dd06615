use native.Mathlib.Omega.{arith}
use Rattle.json_lines.specs.InColumns.{line_read}
use Rattle.json_listing.specs.InColumns.{listing_read}
use Rattle.json_listing.proofs.LoopRules.{start, full, no_line, pack_n, no_sep, closes, goes_on}
use Rattle.json_listing.proofs.lines_from.Goals as goal

pub loop-k-init : goal.loop-k-init
loop-k-init c = start _ _ _ _ _ c.requires.0 c.requires.1

pub returns-in_err-row : goal.returns-in_err-row
unfolding line_read listing_read
returns-in_err-row c = rw c.from_residual.ensures (no_line _ _ _ _ _ _ _ _ _ _ _ _ _ c.loop-k.invariant c.in_err-row.ensures)

pub line_word-requires : goal.line_word-requires
unfolding line_read
line_word-requires c = (pack_n _ _ _ _ _ _ _ _ _ _ _ _ _ c.loop-k.invariant _ _ _ _ _ _ _ c.in_ok-row.ensures, c.in_ok-row.ensures.small)

pub returns-in_err-sep : goal.returns-in_err-sep
unfolding line_read listing_read
returns-in_err-sep c =
    rw c.from_residual-in_err-sep.ensures (no_sep _ _ _ _ _ _ _ _ _ _ _ _ _ c.loop-k.invariant _ _ _ _ _ _ _ c.in_ok-row.ensures c.in_err-sep.ensures)

pub returns-in-Close : goal.returns-in-Close
unfolding line_read listing_read
returns-in-Close c =
    let long_ln = c.loop-k.invariant.long_ln in
    let long_ad = c.loop-k.invariant.long_ad in
    closes _ _ _ _ _ _ _ _ _ _ _ _ _ c.loop-k.invariant _ _ _ _ _ _ _ c.in_ok-row.ensures _ c.line_word.ensures
    c.line.auto.tokens c.line.auto.text (omega arith) (omega arith) _ (rw c.in-Close.is at c.in_ok-sep.ensures)

pub loop-k-preserved : goal.loop-k-preserved
unfolding line_read
loop-k-preserved c =
    let long_ln = c.loop-k.invariant.long_ln in
    let long_ad = c.loop-k.invariant.long_ad in
    goes_on _ _ _ _ _ _ _ _ _ _ _ _ _ c.loop-k.invariant _ _ _ _ _ _ _ c.in_ok-row.ensures _ c.line_word.ensures
    c.line.auto.tokens c.line.auto.text (omega arith) (omega arith) _ (rw c.in-More.is at c.in_ok-sep.ensures)

pub returns : goal.returns
unfolding listing_read
returns c =
    let long_ln = c.loop-k.invariant.long_ln in
    let long_ad = c.loop-k.invariant.long_ad in
    full _ _ _ _ _ _ _ _ _ _ _ _ _ c.loop-k.invariant (omega (arith, c.min-k-end.ensures))
