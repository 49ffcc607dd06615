use Prim.Native.Nat.{ℕ, ◌-◌}
use mathlib.Core.Path.{sym, ap}
use native.Mathlib.Omega.{arith}
use lib.ListN.{length, get_or}
use Rattle.model.specs.Listings.{listing_of}
use Rattle.model.proofs.Decode.{length_listing}
use Rattle.labels.proofs.Buckets.{lookup_start, lookup_found, lookup_next, lookup_end}
use Rattle.labels.proofs.Labels.label_line.Goals as goal

pub loop-p-init : goal.loop-p-init
loop-p-init c = let a = c.args in
    rw c.from-p.ensures (lookup_start (listing_of a.self.now.code) a.self.now.heads.now a.self.now.nexts.now (length a.self.now.code.lines.now) a.self.now.indexed
    (sym (length_listing a.self.now.code.lines.now a.self.now.code.tokens.now a.self.now.code.text.now)) a.s.now _ (ap (λ (b : ℕ). get_or a.self.now.heads.now b 0) c.bucket-b.ensures.0))

pub returns-then-equal : goal.returns-then-equal
returns-then-equal c = let a = c.args in
    lookup_found (listing_of a.self.now.code) a.s.now a.self.now.nexts.now c.loop-p.p (length a.self.now.code.lines.now) _ c.loop-p.invariant.1
    a.self.now.indexed.back c.loop-p.invariant.0 c.loop-p-test.true c.equal.result _ c.equal.ensures c.text_at.ensures c.if-equal.true

pub loop-p-smaller : goal.loop-p-smaller
loop-p-smaller c = let q = c.args.self.now.indexed.back (c.loop-p.p - 1) (omega arith) in omega arith

pub loop-p-preserved : goal.loop-p-preserved
loop-p-preserved c = let a = c.args in
    let q = c.args.self.now.indexed.back (c.loop-p.p - 1) (omega arith) in rw c.from-p-in-loop-p.ensures (
      omega arith,
      lookup_next (listing_of a.self.now.code) a.s.now a.self.now.nexts.now c.loop-p.p (length a.self.now.code.lines.now) _ c.loop-p.invariant.1
          a.self.now.indexed.back c.loop-p.invariant.0 c.loop-p-test.true c.equal.result _ c.equal.ensures c.text_at.ensures c.if-equal.false,
    )

pub returns : goal.returns
returns c = let a = c.args in
    lookup_end (listing_of a.self.now.code) a.s.now a.self.now.nexts.now c.loop-p.p _ c.loop-p.invariant.1 c.loop-p-test.false
