-- Rules for the needs of the functions that answer.
--   rows_taken                                    rows have room
--   webs_said, webs_refused, splits_said, splits_refused, chose_webs, chose_splits, choose_refused    the calls that number tokens
--   picture_ready, picture_said, picture_long     a picture, where it has room and where not
--   dot_passing, dot_said, dot_refused              what the web call answers of it
--   json_said, json_refused                       the writer
--   pass_left, pass_refused                       what a pass leaves and answers
--   room_filled, read_said, read_refused          the reader
-- Assumes nothing.
use Prim.Native.Nat.{ℕ, ◌≤◌, ◌<◌}
use mathlib.Core.Path.{◌≡◌}
use mathlib.Core.List.{List}
use native.Mathlib.Omega.{arith}
use borrow.Author.Tests.{leb-true, le-leb, lt-leb}
use lib.Dec.{leb}
use lib.ListN.{length, take}
use mathlib.Core.Bool.{◌&&◌}
use Rattle.definitions.specs.Model.{Line}
use Rattle.definitions.specs.Columns.{listing}
use Rattle.definitions.specs.Answers.{Answer, accepted}
use Rattle.definitions.specs.Calls.{Columns, by_webs, by_splits, pass_call, web_call, split_call, choose_call}
use Rattle.model.proofs.Ands.{both}
use Rattle.model.proofs.Formed.{formed_lines}
use Rattle.write.specs.Holds.{columns}
use Rattle.json_definitions.specs.JsonCalls.{read_call, write_call}
use Rattle.json_append.specs.Appended.{Appended}
use Rattle.pseudo_ssa.specs.Answers.{lent, called as web_called}
use Rattle.splits.specs.Call.{lent as split_lent, called as split_called}
use Rattle.choose.specs.declared.Choice.{Choice}
use Rattle.choose.specs.declared.Choice.TheVariants as chosen
use Rattle.choose.specs.Choices.{called as choose_called}
use Rattle.json_write.specs.Answers.{written as json_written}
use Rattle.std.specs.Prelude.{Some, None, Ok, Err}
use Rattle.questions.specs.declared.Limits.{Limits as Most}
use Rattle.questions.specs.declared.Refusal.{Refusal}
use Rattle.questions.specs.declared.Refusal.TheVariants.{NoRoom, NotJson}
use Rattle.json_listing.specs.declared.Counts.{Counts}
use Rattle.json_read.specs.Answers.{called as read_called}
use Rattle.pass_call.specs.Answers.{passed_with}
use Rattle.rows.specs.Rows.{all_rows, Short}
use Rattle.rows.proofs.Accepted.{Asked, web_asked, split_asked, choose_asked, printed}
use Rattle.dot.specs.Dot.{dot_text}
use Rattle.dot.specs.Held.{Ready}
use Rattle.javrenzu.specs.Room.{zeros, token_zeros, text_zeros, mark_zeros, space_zeros, room, lent_room, split_room, pass_room}
use Rattle.javrenzu.specs.declared.calls.Said.TheVariants.{Text, ByWebs, BySplits}
use Rattle.javrenzu.specs.declared.command_words.Word.{Word}
use Rattle.javrenzu.specs.Command.{told, rows_of, webs_answer, splits_answer, choose_answer, Passing, within, picture_of, dot_answer, written_text, json_answer, after, word_answer, read_answer, answer}

-- Rows

module _ (l t x numbers marks out out' : List ℕ) (e : ℕ) (wide : 720896 ≤ length out) (f : Appended out 0 (all_rows l t x numbers marks) out' e)
    (s : Short l t x (all_rows l t x numbers marks)) where
  rows_taken : Asked l t x → take e out' ≡ all_rows l t x numbers marks
  rows_taken asked =
      let few = both (leb (length l) 1024 && leb (length t) 16384) (leb (length x) 262144) asked.0 in
      let some = both (leb (length l) 1024) (leb (length t) 16384) few.0 in
      let n = leb-true (length t) 16384 some.1 in
      let m = leb-true (length x) 262144 few.1 in
      let k = s asked.0 asked.1 in
      (printed (all_rows l t x numbers marks) out out' e f (omega arith)).bytes

  module _ (ns ms : List ℕ) (zero_numbers : ns ≡ token_zeros) (zero_marks : ms ≡ mark_zeros) where
    pub splits_said : split_called (Ok tt) numbers marks ≡ split_call l t x (split_lent ns ms) → told (Ok (Text e)) out' ≡ splits_answer l t x
    unfolding splits_answer rows_of
    splits_said q =
        let z : split_called (Ok tt) numbers marks ≡ split_call l t x split_room = rw (zero_numbers, zero_marks) at q in
        let y : (split_call l t x split_room).answer ≡ accepted tt = rw (← z) in
        rw (← z, rows_taken (split_asked l t x split_room tt y))

    module _ (ws space : List ℕ) (zero_space : ws ≡ space_zeros) where
      pub webs_said : (sweeps : ℕ) → web_called (Ok sweeps) numbers marks space ≡ web_call l t x (lent ns ms ws) → told (Ok (Text e)) out' ≡ webs_answer l t x
      unfolding webs_answer rows_of
      webs_said sweeps q =
          let z : web_called (Ok sweeps) numbers marks space ≡ web_call l t x lent_room = rw (zero_numbers, zero_marks, zero_space) at q in
          let y : (web_call l t x lent_room).answer ≡ accepted sweeps = rw (← z) in
          rw (← z, rows_taken (web_asked l t x lent_room sweeps y))

      module _ (a : Choice) (q : choose_called (Ok a) numbers marks space ≡ choose_call l t x (lent ns ms ws)) where
        pub chose_webs : (sweeps : ℕ) → a ≡ chosen.ByWebs sweeps → told (Ok (ByWebs e)) out' ≡ choose_answer l t x
        unfolding choose_answer rows_of
        chose_webs sweeps h =
            let z : choose_called (Ok a) numbers marks space ≡ choose_call l t x lent_room = rw (zero_numbers, zero_marks, zero_space) at q in
            let y : (choose_call l t x lent_room).answer ≡ accepted (by_webs sweeps) = rw (← z, h) in
            rw (← z, h, rows_taken (choose_asked l t x lent_room (by_webs sweeps) y))

        pub chose_splits : a ≡ chosen.BySplits → told (Ok (BySplits e)) out' ≡ choose_answer l t x
        unfolding choose_answer rows_of
        chose_splits h =
            let z : choose_called (Ok a) numbers marks space ≡ choose_call l t x lent_room = rw (zero_numbers, zero_marks, zero_space) at q in
            let y : (choose_call l t x lent_room).answer ≡ accepted by_splits = rw (← z, h) in
            rw (← z, h, rows_taken (choose_asked l t x lent_room by_splits y))

module _ (l t x numbers marks ns ms out : List ℕ) (zero_numbers : ns ≡ token_zeros) (zero_marks : ms ≡ mark_zeros) (n : Refusal) where
  pub splits_refused : split_called (Err n) numbers marks ≡ split_call l t x (split_lent ns ms) → told (Err n) out ≡ splits_answer l t x
  unfolding splits_answer rows_of
  splits_refused q = let z : split_called (Err n) numbers marks ≡ split_call l t x split_room = rw (zero_numbers, zero_marks) at q in rw (← z)

  module _ (ws space : List ℕ) (zero_space : ws ≡ space_zeros) where
    pub webs_refused : web_called (Err n) numbers marks space ≡ web_call l t x (lent ns ms ws) → told (Err n) out ≡ webs_answer l t x
    unfolding webs_answer rows_of
    webs_refused q = let z : web_called (Err n) numbers marks space ≡ web_call l t x lent_room = rw (zero_numbers, zero_marks, zero_space) at q in rw (← z)

    pub choose_refused : choose_called (Err n) numbers marks space ≡ choose_call l t x (lent ns ms ws) → told (Err n) out ≡ choose_answer l t x
    unfolding choose_answer rows_of
    choose_refused q = let z : choose_called (Err n) numbers marks space ≡ choose_call l t x lent_room = rw (zero_numbers, zero_marks, zero_space) at q in rw (← z)

-- Pictures

module _ (l t x numbers : List ℕ) where
  pub picture_ready : (space ranks : List ℕ) → Passing l t x → 34816 ≤ length space → 16384 ≡ length ranks → Ready l t x space ranks
  picture_ready space ranks passing wide long =
      let few = both (leb (length l) 1024 && leb (length t) 16384) (leb (length x) 262144) passing.small in
      let some = both (leb (length l) 1024) (leb (length t) 16384) few.0 in
      let n = leb-true (length t) 16384 some.1 in
      record {
        few = leb-true (length l) 1024 some.0;
        short = n;
        bytes = leb-true (length x) 262144 few.1;
        cover = formed_lines l t x passing.formed;
        wide = wide;
        room = omega arith;
      }

  module _ (out out' : List ℕ) (e : ℕ) (wide : 4194304 ≤ length out) (f : Appended out 0 (dot_text (listing l t x) numbers) out' e) where
    pub picture_said : e ≤ 4194304 → told (Ok (Text e)) out' ≡ within (dot_text (listing l t x) numbers)
    unfolding within
    picture_said h =
        let end = f.end in
        let n : length (dot_text (listing l t x) numbers) ≤ 4194304 = omega arith in
        rw (le-leb (length (dot_text (listing l t x) numbers)) 4194304 n, (printed (dot_text (listing l t x) numbers) out out' e f (omega arith)).bytes)

    pub picture_long : 4194304 < e → told (Err NoRoom) out' ≡ within (dot_text (listing l t x) numbers)
    unfolding within
    picture_long h =
        let end = f.end in
        let n : 4194304 < length (dot_text (listing l t x) numbers) = omega arith in
        rw (lt-leb (length (dot_text (listing l t x) numbers)) 4194304 n)

pub ruleset pictures = (picture_ready, picture_said)

pub dot_passing : (l t x numbers marks ns ms ws space : List ℕ) (sweeps : ℕ) → web_called (Ok sweeps) numbers marks space ≡ web_call l t x (lent ns ms ws) → Passing l t x
dot_passing l t x numbers marks ns ms ws space sweeps q =
    let y : (web_call l t x (lent ns ms ws)).answer ≡ accepted sweeps = rw (← q) in
    let asked = web_asked l t x (lent ns ms ws) sweeps y in
    record { small = asked.0; formed = asked.1 }

module _ (l t x numbers marks ns ms ws space : List ℕ) (zero_numbers : ns ≡ token_zeros) (zero_marks : ms ≡ mark_zeros) (zero_space : ws ≡ space_zeros) where
  pub dot_said : (sweeps : ℕ) (v : Answer (List ℕ)) → web_called (Ok sweeps) numbers marks space ≡ web_call l t x (lent ns ms ws)
      → v ≡ within (dot_text (listing l t x) numbers) → v ≡ dot_answer l t x
  unfolding dot_answer picture_of
  dot_said sweeps v q f =
      let z : web_called (Ok sweeps) numbers marks space ≡ web_call l t x lent_room = rw (zero_numbers, zero_marks, zero_space) at q in
      rw (← z) f

  pub dot_refused : (n : Refusal) (out : List ℕ) → web_called (Err n) numbers marks space ≡ web_call l t x (lent ns ms ws) → told (Err n) out ≡ dot_answer l t x
  unfolding dot_answer picture_of
  dot_refused n out q = let z : web_called (Err n) numbers marks space ≡ web_call l t x lent_room = rw (zero_numbers, zero_marks, zero_space) at q in rw (← z)

-- JSON

module _ (c : Columns) (out out' : List ℕ) where
  pub json_said : (n : ℕ) → json_written (Ok n) out' ≡ write_call c out → told (Ok (Text n)) out' ≡ json_answer out c
  unfolding written_text
  json_said n q = rw (← q)

  pub json_refused : (n : Refusal) → json_written (Err n) out' ≡ write_call c out → told (Err n) out' ≡ json_answer out c
  unfolding written_text
  json_refused n q = rw (← q)

-- Passes

module _ (f : Columns → Answer (List ℕ)) (P : List Line → Answer (List Line)) (c given : Columns) (room : given ≡ pass_room) (l a t x : List ℕ) where
  pub pass_left : (n : Most) (l' a' t' x' : List ℕ) (v : Answer (List ℕ)) → passed_with (Ok n) (columns l a t x) ≡ pass_call P c given
      → l' ≡ take n.lines l → a' ≡ take n.lines a → t' ≡ take n.tokens t → x' ≡ take n.text x → v ≡ f (columns l' a' t' x') → v ≡ after f (pass_call P c pass_room)
  unfolding after
  pass_left n l' a' t' x' v q i j y z e = rw (← room, ← q, ← i, ← j, ← y, ← z) e

  pub pass_refused : (n : Refusal) (out : List ℕ) → passed_with (Err n) (columns l a t x) ≡ pass_call P c given → told (Err n) out ≡ after f (pass_call P c pass_room)
  unfolding after
  pass_refused n out q = rw (← room, ← q)

-- The reader

pub room_filled : (l a t x : List ℕ) → l ≡ zeros 1024 0 → a ≡ zeros 1024 0 → t ≡ token_zeros → x ≡ text_zeros → columns l a t x ≡ room
room_filled l a t x i j y z = rw (i, j, y, z)

module _ (w : Word) (out : List ℕ) (n : ℕ) (given : Columns) (filled : given ≡ room) (s l a t x : List ℕ) (part : s ≡ take n out) where
  pub read_said : (k : Counts) (l' a' t' x' : List ℕ) (v : Answer (List ℕ)) → read_called (Some k) l a t x ≡ read_call s given
      → l' ≡ take k.lines l → a' ≡ take k.lines a → t' ≡ take k.tokens t → x' ≡ take k.text x → v ≡ word_answer w out (columns l' a' t' x') → v ≡ answer w out n
  unfolding read_answer
  read_said k l' a' t' x' v q i j y z e = rw (← filled, ← part, ← q, ← i, ← j, ← y, ← z) e

  pub read_refused : (out' : List ℕ) → read_called None l a t x ≡ read_call s given → told (Err NotJson) out' ≡ answer w out n
  unfolding read_answer
  read_refused out' q = rw (← filled, ← part, ← q)
