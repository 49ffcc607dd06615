-- Rules for the needs of the functions that answer.
--   refused_printed                a refusal has room
--   webs_accepted, webs_refused    the web call's answers
--   read_accepted, read_refused    the reader's
--   program_long                   an input that is too long
-- Assumes nothing.
use Prim.Native.Nat.{ℕ, ◌≤◌, ◌<◌}
use mathlib.Core.Path.{◌≡◌}
use mathlib.Core.List.{List}
use native.Mathlib.Omega.{arith}
use borrow.Author.Tests.{lt-ltb, le-ltb}
use lib.ListN.{length, take}
use Rattle.definitions.specs.Answers.{accepted}
use Rattle.definitions.specs.Calls.{web_call}
use Rattle.json_definitions.specs.JsonCalls.{read_call}
use Rattle.questions.specs.Refusals.{number}
use Rattle.questions.specs.declared.Refusal.{Refusal}
use Rattle.pseudo_ssa.specs.Answers.{called}
use Rattle.std.specs.Prelude.{Some, None, Result, Ok, Err}
use Rattle.json_listing.specs.declared.Counts.{Counts}
use Rattle.json_read.specs.Answers as reader
use Rattle.json_append.specs.Appended.{Appended}
use Rattle.rows.specs.Rows.{all_rows, refused_text, Short, Printed}
use Rattle.rows.proofs.Accepted.{web_asked, printed}
use Rattle.webs_main.specs.Program.{room, web_room, webs_text, columns_text, read_text, program}

pub refused_printed : (n m : ℕ) (out out' : List ℕ) (e : ℕ) → n ≡ m → Appended out 0 (refused_text n) out' e → length (refused_text n) ≤ 29 → 36864 ≤ length out
    → Printed (refused_text m) out' e
refused_printed n m out out' e q f h k = rw (← q) (printed (refused_text n) out out' e f (omega arith))

module _ (out' : List ℕ) (e : ℕ) where
  module _ (l t x numbers marks space : List ℕ) (a : Result ℕ Refusal) (answer : called a numbers marks space ≡ web_call l t x web_room) where
    pub webs_accepted : (out : List ℕ) (sweeps : ℕ) → a ≡ Ok sweeps → 36864 ≤ length out → length t ≤ 1024 → length x ≤ 8192
        → Appended out 0 (all_rows l t x numbers marks) out' e → Short l t x (all_rows l t x numbers marks) → Printed (columns_text l t x) out' e
    unfolding columns_text webs_text
    webs_accepted out sweeps q room few short f s =
        let y : (web_call l t x web_room).answer ≡ accepted sweeps = rw (← answer, q) in
        let asked = web_asked l t x web_room sweeps y in
        rw (← answer, q) (printed (all_rows l t x numbers marks) out out' e f (omega (arith, s asked.0 asked.1)))

    pub webs_refused : (r : Refusal) → a ≡ Err r → Printed (refused_text (number r)) out' e → Printed (columns_text l t x) out' e
    unfolding columns_text webs_text
    webs_refused r q f = rw (← answer, q) f

  module _ (s : List ℕ) where
    pub program_long : 32768 < length s → Printed (refused_text 10) out' e → Printed (program s) out' e
    unfolding program
    program_long h f = rw (lt-ltb 32768 (length s) h) f

    module _ (short : length s ≤ 32768) (l a t x : List ℕ) where
      pub read_accepted : (n : Counts) (l' t' x' : List ℕ) → reader.called (Some n) l a t x ≡ read_call s room → l' ≡ take n.lines l → t' ≡ take n.tokens t → x' ≡ take n.text x
          → Printed (columns_text l' t' x') out' e → Printed (program s) out' e
      unfolding program read_text
      read_accepted n l' t' x' q u v w f = rw (le-ltb 32768 (length s) short, ← q, ← u, ← v, ← w) f

      pub read_refused : reader.called None l a t x ≡ read_call s room → Printed (refused_text 10) out' e → Printed (program s) out' e
      unfolding program read_text
      read_refused q f = rw (le-ltb 32768 (length s) short, ← q) f
