-- The room that questions 1 and 4 ask for a loop pass is room for what the writer writes.
--   listing_room          a listing has room in the columns where each of its columns has
--   pass_room_suffices    a listing that is within `pass_room` has room, where the questions are answered yes
-- Assumes nothing.
use mathlib.Core.Path.{◌≡◌}
use mathlib.Core.Bool.{true, ◌&&◌}
use mathlib.Core.List.{List, append-nil}
use Prim.Native.Nat.{◌≤◌, ◌<◌}
use native.Mathlib.Omega.{arith}
use borrow.Author.Tests.{leb-true}
use lib.Dec.{leb}
use lib.ListN.{length}
use Rattle.definitions.specs.Model.{Line}
use Rattle.definitions.specs.Columns.{all_tokens, text_bytes}
use Rattle.definitions.specs.Questions.{Limits, limits, question_1, pass_room}
use Rattle.definitions.specs.Calls.{Columns, has_room}
use Rattle.model.proofs.Ands.{both}
use Rattle.write.specs.State.{done}
use Rattle.write.specs.Holds.{Room}

module _ (M : List Line) (out : Columns) where
  pub listing_room : length M ≤ length out.lines → length M ≤ length out.addresses → length (all_tokens M) ≤ length out.tokens
      → length (text_bytes M) ≤ length out.text → length (all_tokens M) < 8388608 → length (text_bytes M) < 16777216 → Room (done M) out
  listing_room l a t x few short =
      record {
        lines = l;
        addresses = a;
        tokens = rw append-nil t;
        text = simp append-nil x;
        token_ends = simp append-nil short;
        line_ends = rw append-nil few;
      }

  module _ (c : Columns) where
    abbrev room : Limits
    room = pass_room (length c.lines) (length c.tokens) (length c.text)

    pub pass_room_suffices : question_1 limits c.lines c.tokens c.text ≡ true → has_room c out ≡ true
        → length M ≤ room.lines → length (all_tokens M) ≤ room.tokens → length (text_bytes M) ≤ room.text → Room (done M) out
    pass_room_suffices small enough l t x =
        let p = both (leb (length c.lines) 1024 && leb (length c.tokens) 16384) (leb (length c.text) 262144) small in
        let q = both (leb (length c.lines) 1024) (leb (length c.tokens) 16384) p.0 in
        let n = leb-true (length c.lines) 1024 q.0 in
        let k = leb-true (length c.tokens) 16384 q.1 in
        let b = leb-true (length c.text) 262144 p.1 in
        let d = both (leb room.lines (length out.lines) && leb room.lines (length out.addresses) && leb room.tokens (length out.tokens)) (leb room.text (length out.text)) enough in
        let e = both (leb room.lines (length out.lines) && leb room.lines (length out.addresses)) (leb room.tokens (length out.tokens)) d.0 in
        let f = both (leb room.lines (length out.lines)) (leb room.lines (length out.addresses)) e.0 in
        let fl = leb-true room.lines (length out.lines) f.0 in
        let fa = leb-true room.lines (length out.addresses) f.1 in
        let ft = leb-true room.tokens (length out.tokens) e.1 in
        let fx = leb-true room.text (length out.text) d.1 in
        listing_room (omega arith) (omega arith) (omega arith) (omega arith) (omega arith) (omega arith)
