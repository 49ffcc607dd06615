-- `write_run::add_run` meets its contract.
-- Assumes nothing.
use native.Mathlib.Omega.{arith}
use lib.ListN.{length-take, length-drop}
use Rattle.write_run.proofs.Running.{run_start, run_within, run_words_full, run_words_short, run_ends_passed, run_ends_full, run_added}
use mathlib.Core.Path.{refl, ap, ◌∙◌}
use borrow.Author.Rules.{rules}
use Rattle.definitions.specs.Calls.{Columns}
use Rattle.write.specs.Holds.{columns}
use Rattle.write.proofs.Steps.{same_self}
use Rattle.write_run.proofs.add_run.Goals as goal

pub returns-then-out-k : goal.returns-then-out-k
returns-then-out-k c =
    let a = c.args in
    record {
      same = same_self _;
      kept = refl;
      runs = λ o. elim c.then-out-k.branch [
        | goal.then-out-k-via-then-out-k w ↦ run_words_full a.code.now.tokens.now a.code.now.text.now c.requires.2 a.from a.to c.requires.0 c.requires.1 _ _ _ _ _ w.if-out-k.true
        | goal.then-out-k-via-else-out-k+then-out-k-2 w ↦ run_words_short a.code.now.tokens.now a.code.now.text.now c.requires.2 a.from a.to c.requires.0 c.requires.1 _ _ _ _ _ w.if-out-k-2.true
      ];
    }

pub returns-then-b-ge-MOST_BYTES : goal.returns-then-b-ge-MOST_BYTES
returns-then-b-ge-MOST_BYTES c =
    let a = c.args in
    record {
      same = same_self _;
      kept = refl;
      runs = λ o. elim c.then-b-ge-MOST_BYTES.branch [
        | goal.then-b-ge-MOST_BYTES-via-then-b-ge-MOST_BYTES w ↦ run_ends_passed a.code.now.tokens.now a.code.now.text.now c.requires.2 a.from a.to c.requires.0 c.requires.1 _ _ _ _ _ w.if-b-ge-MOST_BYTES.true
        | goal.then-b-ge-MOST_BYTES-via-else-b-ge-MOST_BYTES+then-b-e w ↦ run_ends_full a.code.now.tokens.now a.code.now.text.now c.requires.2 a.from a.to c.requires.0 c.requires.1 _ _ _ _ _ _ _ c.token_start-a.ensures c.token_start-e.ensures w.if-b-ge-MOST_BYTES.false w.if-b-e.true
      ];
    }

pub overflow_sub-e : goal.overflow_sub-e
overflow_sub-e c = let a = c.args in
    omega (arith, run_start a.code.now.tokens.now a.code.now.text.now c.requires.2 a.from a.to c.requires.0 c.requires.1, c.token_start-a.ensures, c.token_start-e.ensures)

pub move_words-requires : goal.move_words-requires
move_words-requires c = let a = c.args in
    let p = c.token_start-a.ensures in
    let q = c.token_start-e.ensures in record { run_in_bounds = simp (length-take, length-drop) (omega arith); by_index = λ j h. rw p (run_within a.code.now.tokens.now a.code.now.text.now c.requires.2 a.from a.to c.requires.0 c.requires.1 a.out.now.written.text j (search rules) (rw (← p, ← q) (search rules)) h) }

pub returns : goal.returns
returns c =
    let a = c.args in
    let w = c.add_bytes.ensures.same in
    record {
      same = record {
        lines = w.lines;
        addresses = w.addresses;
        tokens = w.tokens;
        text = w.text;
        lines_length = omega (arith, w.lines_length);
        addresses_length = omega (arith, w.addresses_length);
        tokens_length = c.move_words.auto.words ∙ w.tokens_length;
        text_length = w.text_length;
      };
      kept = ap (λ (o : Columns). columns o.lines o.addresses c.move_words.new.words c.add_bytes.new.self.text.now) c.add_bytes.ensures.kept;
      runs = λ o. run_added a.code.now.tokens.now a.code.now.text.now c.requires.2 a.from a.to c.requires.0 c.requires.1 o _ _ _ _ _ _ _
          c.token_start-a.ensures c.token_start-e.ensures c.move_words.auto.words c.part.ensures c.word.ensures c.add_bytes.ensures c.move_words.ensures;
    }
