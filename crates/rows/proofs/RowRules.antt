-- Rules for the needs of the functions that write rows.
--   row_name_put, name_legacy, name_behind, name_numbered, name_var, name_nothing    a family's name
--   mark_def, mark_use                           a row's last word
--   row_is                                       the pieces of a row
--   token_none, token_some                       a token without a family, and with one
--   rows_step, rows_none, rows_next, rows_end    a loop over places
--   line_is, all_is                              the rows of a line, of the listing
-- Assumes nothing.
use Rattle.std.specs.Prelude.{Option, None, Some}
use Prim.Native.Nat.{ℕ, zero, suc, ◌+◌, ◌*◌, ◌-◌, ◌≤◌, ◌<◌}
use mathlib.Core.Path.{◌≡◌, refl, ◌∙◌}
use mathlib.Core.List.{List, [], ◌++◌}
use native.Mathlib.Numerals.{add-one}
use native.Mathlib.Omega.{arith}
use borrow.Author.Tests.{eq-eqb, ne_eqb, lt-ltb, le-ltb}
use lib.ListN.{length, get_or}
use Rattle.definitions.specs.Lists.{ascii, part, concat, range}
use Rattle.definitions.specs.Model.{Token, tok, no_token}
use Rattle.definitions.specs.Columns.{token_list}
use Rattle.definitions.specs.Family.{legacy, fam_of}
use Rattle.legacy.specs.Table.{row_name}
use Rattle.family.specs.Register.{family_of}
use Rattle.family.specs.declared.Register.{Register}
use Rattle.family.specs.declared.Register.TheVariants.{Legacy, Numbered, Var}
use Rattle.model.specs.Places.{line_start, line_end}
use Rattle.json_append.specs.Appended.{Wrote, Begun}
use Rattle.json_append.specs.declared.writer.Writer.{Writer}
use Rattle.json_append.proofs.Appends.{wrote_nothing, wrote_as, wrote_2, wrote_3, begun_start, begun_next, begun_end}
use Rattle.rows.specs.Rows.{name_of, place_text, mark_text, web_text, row_text, token_row, rows, row_at, line_rows, all_rows}

-- Names

row_names : (i : ℕ) → i < 8 → part (3 * i) (3 * i + 3) (ascii "raxrbxrcxrdxrsirdirbprsp") ≡ row_name i
unfolding legacy
row_names zero h = refl
row_names (suc zero) h = refl
row_names (suc (suc zero)) h = refl
row_names (suc (suc (suc zero))) h = refl
row_names (suc (suc (suc (suc zero)))) h = refl
row_names (suc (suc (suc (suc (suc zero))))) h = refl
row_names (suc (suc (suc (suc (suc (suc zero)))))) h = refl
row_names (suc (suc (suc (suc (suc (suc (suc zero))))))) h = refl
row_names (suc (suc (suc (suc (suc (suc (suc (suc i)))))))) h = absurd (omega arith)

module _ (w w' : Writer) where
  pub row_name_put : (i : ℕ) (p : List ℕ) → i < 8 → p ≡ part (3 * i) (3 * i + 3) (ascii "raxrbxrcxrdxrsirdirbprsp") → Wrote w p w' → Wrote w (row_name i) w'
  row_name_put i p h q f = wrote_as w p (row_name i) w' (q ∙ row_names i h) f

  module _ (s : List ℕ) (r : Option Register) where
    pub name_legacy : (i n : ℕ) → r ≡ Some (Legacy i n) → i < 8 → Wrote w (row_name i) w' → Wrote w (name_of (family_of s r)) w'
    name_legacy i n q h f = rw (q, lt-ltb i 8 h) f

    pub name_behind : (i n : ℕ) → r ≡ Some (Legacy i n) → 8 ≤ i → Wrote w [] w' → Wrote w (name_of (family_of s r)) w'
    name_behind i n q h f = rw (q, le-ltb i 8 h) f

    pub name_numbered : (n m : ℕ) (p : List ℕ) → r ≡ Some (Numbered n m) → p ≡ part 0 n s → Wrote w p w' → Wrote w (name_of (family_of s r)) w'
    name_numbered n m p q h f = wrote_as w p (name_of (family_of s r)) w' (rw q h) f

    pub name_var : r ≡ Some Var → Wrote w s w' → Wrote w (name_of (family_of s r)) w'
    name_var q f = rw q f

    pub name_nothing : r ≡ None → Wrote w [] w' → Wrote w (name_of (family_of s r)) w'
    name_nothing q f = rw q f

pub ruleset names = (row_name_put, name_legacy, name_behind, name_numbered, name_var, name_nothing, wrote_nothing)

-- Marks

pub mark_def : (d : ℕ) → d ≡ 1 → ascii " D\n" ≡ mark_text d
mark_def d h = rw (eq-eqb d 1 h)

pub mark_use : (d : ℕ) → (d ≡ 1 → ⊥) → ascii " U\n" ≡ mark_text d
mark_use d h = rw (ne_eqb d 1 h)

-- The pieces of a row

pub row_is : (T : Token) (s : List ℕ) (kind : ℕ) (r : Option Register) (i j w d : ℕ) → s ≡ T.text → kind ≡ T.kind → family_of s r ≡ fam_of (tok s kind)
    → place_text i j (name_of (family_of s r)) ++ web_text w d ≡ row_text i j (name_of (fam_of T)) w d
unfolding row_text
row_is T s kind r i j w d p q h = rw (h, p, q)

-- Tokens

module _ (l t x numbers marks : List ℕ) (i k w : ℕ) (number : w ≡ get_or numbers k 0) where
  pub token_none : w ≡ 4294967295 → [] ≡ row_at l t x numbers marks i k
  unfolding row_at token_row
  token_none h = rw (← number, eq-eqb w 4294967295 h)

  pub token_some : (w ≡ 4294967295 → ⊥) → (s d : ℕ) → s ≡ line_start l i → d ≡ get_or marks k 0
      → row_text i (k - s) (name_of (fam_of (get_or (token_list t x) k no_token))) w d ≡ row_at l t x numbers marks i k
  unfolding row_at token_row
  token_some h s d p q = rw (← number, ne_eqb w 4294967295 h, ← p, ← q)

-- Rows of the places from k up to e

pub rows_step : (f : ℕ → List ℕ) (k e : ℕ) → k < e → f k ++ rows f (k + 1) e ≡ rows f k e
unfolding concat range
rows_step f k e h = let z : e - k ≡ suc (e - (k + 1)) = omega arith in rw (z, add-one)

pub rows_none : (f : ℕ → List ℕ) (k e : ℕ) → e ≤ k → rows f k e ≡ []
unfolding concat range
rows_none f k e h = let z : e - k ≡ 0 = omega arith in rw z

-- a loop over the places, each of which is written
module _ (f : ℕ → List ℕ) (k e : ℕ) (w₀ : Writer) (t : List ℕ) (w : Writer) (g : Begun w₀ t w (rows f k e)) where
  pub rows_next : k < e → (w' : Writer) → Wrote w (f k) w' → Begun w₀ t w' (rows f (k + 1) e)
  rows_next h w' v = begun_next w₀ t w (rows f k e) g (f k) w' v (rows f (k + 1) e) (rows_step f k e h)

  pub rows_end : e ≤ k → Wrote w₀ t w
  rows_end h = begun_end w₀ t w (rows f k e) g (rows_none f k e h)

pub line_is : (l t x numbers marks : List ℕ) (i e : ℕ) → e ≡ line_end l t i → rows (row_at l t x numbers marks i) (line_start l i) e ≡ line_rows l t x numbers marks i
unfolding line_rows
line_is l t x numbers marks i e q = rw q

pub all_is : (l t x numbers marks : List ℕ) → rows (line_rows l t x numbers marks) 0 (length l) ≡ all_rows l t x numbers marks
unfolding all_rows
all_is l t x numbers marks = refl

pub ruleset row_rules = (wrote_as, begun_start, mark_def, mark_use, rows_next)
