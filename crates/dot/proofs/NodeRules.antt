-- Rules for the needs of the functions that write nodes.
--   token_plain, token_web                    a token without a web, and with one
--   line_is                                   the text
-- Assumes nothing.
use Prim.Native.Nat.{ℕ, ◌+◌, ◌*◌, ◌/◌, ◌%◌, ◌<◌}
use mathlib.Core.Path.{◌≡◌, ◌∙◌}
use mathlib.Core.Bool.{Bool, true, false}
use mathlib.Core.List.{List, ◌++◌}
use native.Mathlib.Omega.{arith}
use lib.ListN.{get_or}
use Rattle.definitions.specs.Model.{Token, no_token, line}
use Rattle.definitions.specs.Columns.{token_list, listing}
use Rattle.model.specs.Places.{line_start, line_end}
use Rattle.json_append.specs.Appended.{Wrote}
use Rattle.json_append.specs.declared.writer.Writer.{Writer}
use Rattle.json_append.proofs.Appends.{wrote_as, begun_start}
use Rattle.rows.specs.Rows.{rows}
use Rattle.rows.proofs.RowRules.{rows_next}
use Rattle.dot.specs.Dot.{characters, web_text, has_web, first_of, before, token_text, blanks, line_text}
use Rattle.dot.specs.Held.{Ranked, line_at}

module _ (T : List Token) (N : List ℕ) (k : ℕ) (y : Bool) (web : y ≡ has_web N k) (s : List ℕ) (text : s ≡ (get_or T k no_token).text)
    (v v' : Writer) where
  pub token_plain : y ≡ false → Wrote v (characters s) v' → Wrote v (token_text T N k) v'
  unfolding token_text
  token_plain h f = rw (← web, h, ← text) f

  pub token_web : y ≡ true → (n : ℕ) (ranks : List ℕ) → Ranked T N n ranks → k < n → (p c w : ℕ) → p ≡ get_or ranks k 0 → c ≡ get_or ranks (p / 32768) 0 → w ≡ get_or N k 0
      → Wrote v (web_text (c % 32768) s w) v' → Wrote v (token_text T N k) v'
  unfolding token_text
  token_web h n ranks r g p c w q i j f =
      let small = r.small in
      let low = r.low k g in
      let most = r.few k g in
      let rank = q ∙ r.rank k g in
      let first : p / 32768 ≡ first_of T N k = omega arith in
      let there : c ≡ first_of T N (first_of T N k) * 32768 + before T N (first_of T N k) = i ∙ rw first (r.rank (first_of T N k) (omega arith)) in
      let fewer = r.few (first_of T N k) (omega arith) in
      let z : c % 32768 ≡ before T N (first_of T N k) = omega arith in
      rw (← web, h, ← text, ← z, ← j) f

pub line_is : (l t x N : List ℕ) (i d : ℕ) → d ≡ (line (listing l t x) i).indent → blanks d ++ rows (token_text (token_list t x) N) (line_start l i) (line_end l t i) ≡ line_at l t x N i
unfolding line_at line_text
line_is l t x N i d q = rw q

pub ruleset nodes = (wrote_as, begun_start, rows_next)
