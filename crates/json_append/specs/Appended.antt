-- Bytes that are written behind those that stand in a lent slice.
--   most                       the greatest place
--   Appended out at b out' e   b was to be written at place `at`: e is the place behind it, and if it has room it stands there, behind what stood before
--   Wrote w b w'               the writer w wrote b, and is w' then: what the slice w.out ends as is what w'.out ends as
--   Begun w t w' rest          the writer w wrote the text t but for the rest of it, and is w' then
--   Plain s rest               the text s is bytes that are written as they stand, and then rest
-- A writer that has no room only counts: lent a slice of length 0 it answers how long its text is.
-- Assumes nothing.
use Rattle.std.specs.Prelude.{ℕ, ◌+◌, ◌≤◌, min, ◌≡◌, List, ◌++◌, length, take}
use Rattle.json_definitions.specs.Writer.{characters_text}
use Rattle.json_append.specs.declared.writer.Writer.{Writer}

abbrev pub most : ℕ
most = 18446744073709551615

pub record Appended (out : List ℕ) (at : ℕ) (b out' : List ℕ) (e : ℕ) : Type 0 where
  pub long : length out' ≡ length out
  pub end : e ≡ min (at + length b) most
  pub bytes : at + length b ≤ length out → take e out' ≡ take at out ++ b

pub record Wrote (w : Writer) (b : List ℕ) (w' : Writer) : Type 0 where
  pub same : w'.out.ghost_name ≡ w.out.ghost_name
  pub text : Appended w.out.now w.at b w'.out.now w'.at

pub record Begun (w : Writer) (t : List ℕ) (w' : Writer) (rest : List ℕ) : Type 0 where
  pub done : List ℕ
  pub written : Wrote w done w'
  pub whole : done ++ rest ≡ t

pub record Plain (s rest : List ℕ) : Type 0 where
  pub front : List ℕ
  pub cut : s ≡ front ++ rest
  pub same : characters_text s ≡ front ++ characters_text rest
