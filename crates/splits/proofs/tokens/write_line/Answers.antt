-- `splits::tokens::write_line` meets its contract. Assumes nothing.
use Prim.Native.Nat.{◌≤◌}
use mathlib.Core.Path.{◌∙◌}
use native.Mathlib.Omega.{arith}
use lib.ListN.{length, get_or}
use Rattle.definitions.specs.Model.{no_token}
use Rattle.definitions.specs.Recover.{defined_families}
use Rattle.model.specs.Listings.{listing_of, tokens_of}
use Rattle.model.proofs.Decode.{length_tokens}
use Rattle.splits.specs.Tokens.{token_number, token_mark}
use Rattle.splits.proofs.WriteRules.{number_by, mark_by, over_next, over_done, line_order_by, line_by}
use Rattle.splits.proofs.tokens.write_line.Goals as goal

pub loop-k-preserved : goal.loop-k-preserved
loop-k-preserved c = let a = c.args in
    let p = c.requires in
    let l = c.loop-k in
    let code = a.lookup.now.code in
    let fs = defined_families (listing_of code) in
    let us = tokens_of code in
    let f = c.line_start-from.result in
    let t = c.line_end-to.result in
    let place = c.token_place-c.ensures.value in
    let n : t ≤ length us = omega (arith, length_tokens code.tokens.now code.text.now, c.line_end-to.ensures) in (
      c.token_place-c.ensures.kept.0 ∙ l.invariant.0,
      over_next no_token (token_number fs (λ p. get_or a.counts.now p 0)) f us a.numbers.now l.k l.numbers l.invariant.1 (omega arith) t _ c.loop-k-test.true n (omega (arith, n, length_tokens code.tokens.now code.text.now, p.2))
          (number_by l.lookup.code code l.invariant.0 l.k _ place _ _ c.number_of.ensures),
      over_next no_token (token_mark fs a.d) f us a.marks.now l.k l.marks l.invariant.2 (omega arith) t _ c.loop-k-test.true n (omega (arith, n, length_tokens code.tokens.now code.text.now, p.3))
          (mark_by l.lookup.code code l.invariant.0 l.k _ place _ _ c.mark_of.ensures),
      c.token_place-c.ensures.kept.1 ∙ l.invariant.3,
      c.token_place-c.ensures.kept.2 ∙ l.invariant.4,
    )

pub returns : goal.returns
returns c = let a = c.args in
    let l = c.loop-k in
    let code = a.lookup.now.code in
    let fs = defined_families (listing_of code) in
    let us = tokens_of code in
    let s = c.line_start-from in
    let e = c.line_end-to in
    let ordered = line_order_by code.lines.now code.tokens.now a.i _ _ s.ensures e.ensures c.requires.0 c.requires.1 in record {
      numbers_after = line_by code.lines.now code.tokens.now a.i s.result e.result s.ensures e.ensures (token_number fs (λ p. get_or a.counts.now p 0)) us a.numbers.now _
          (over_done no_token (token_number fs (λ p. get_or a.counts.now p 0)) s.result us a.numbers.now l.k l.numbers l.invariant.1 (omega arith) e.result (omega (arith, ordered)) c.loop-k-test.false);
      marks_after = line_by code.lines.now code.tokens.now a.i s.result e.result s.ensures e.ensures (token_mark fs a.d) us a.marks.now _
          (over_done no_token (token_mark fs a.d) s.result us a.marks.now l.k l.marks l.invariant.2 (omega arith) e.result (omega (arith, ordered)) c.loop-k-test.false);
      kept = (l.invariant.0, l.invariant.3, l.invariant.4);
    }
