-- What each call answers of a listing that passes questions 1 to 5: questions 6 to 9, then the result.
--   loops L, goto_loops L    the rewritten listing, or refusal 6
--   webs L                   web numbers, definition marks and the total of sweeps, or refusal 7, 8 or 9
--   splits L                 split numbers and marks
--   choose L                 webs, or splits where webs refuses, and which
-- Assumes nothing.
use Rattle.std.specs.Prelude.{if◌then◌else◌, ℕ, Bool, ◌&&◌, not, List, [], map, eqb, leb, length, Option, None, Some}
use Rattle.definitions.specs.Lists.{is_some, or_else, concat, up_to}
use Rattle.definitions.specs.Model.{Line, token, line}
use Rattle.definitions.specs.Family.{fam_of}
use Rattle.definitions.specs.Passes.{Pass, lines, overflow}
use Rattle.definitions.specs.RecoverLoops.{recover_loops}
use Rattle.definitions.specs.RecoverGotoLoops.{recover_goto_loops}
use Rattle.definitions.specs.Blocks.{blocks}
use Rattle.definitions.specs.FlowGraph.{gotos_lead}
use Rattle.definitions.specs.Recover.{Webs, recover, key, is_def, total_sweeps}
use Rattle.definitions.specs.SplitPoints.{Split, split_points, split_key, split_starts}

pub data Answer (A : Type 0) : Type 0 where
  refused : ℕ → Answer A
  accepted : A → Answer A

-- Question 6: does every indent the Rust works out stay in 0 to 255, in the Rust's order of evaluation?

abbrev pub rewritten : Pass → Answer (List Line)
rewritten (lines L) = accepted L
rewritten overflow = refused 6

abbrev pub loops : List Line → Answer (List Line)
loops L = rewritten (recover_loops L)

abbrev pub goto_loops : List Line → Answer (List Line)
goto_loops L = rewritten (recover_goto_loops L)

-- Per token a number, 4,294,967,295 where it has no family, and a definition byte 0 or 1.

pub record Numbered : Type 0 where
  pub numbers : List ℕ
  pub marks : List ℕ
  pub sweeps : ℕ

abbrev pub no_family : ℕ
no_family = 4294967295

-- f of each token's family, line and place, and `other` where the token has no family
unfoldable pub per_token : ℕ → (List ℕ → ℕ → ℕ → ℕ) → List Line → List ℕ
per_token other f L =
    concat (map (λ i. map (λ k. elim (fam_of (token (line L i) k)) [ None ↦ other | Some x ↦ f x.name i k ])
    (up_to (length (line L i).tokens))) (up_to (length L)))

abbrev pub mark : Bool → ℕ
mark b = if b then 1 else 0

abbrev pub numbered_webs : List Line → List Webs → Numbered
numbered_webs L ws = record {
  numbers = per_token no_family (key ws) L;
  marks = per_token 0 (λ f i k. mark (eqb k 0 && is_def ws f i)) L;
  sweeps = total_sweeps ws;
}

abbrev pub numbered_splits : List Line → List Split → Numbered
numbered_splits L ss = record {
  numbers = per_token no_family (λ f i k. split_key ss f i) L;
  marks = per_token 0 (λ f i k. mark (split_starts ss f i)) L;
  sweeps = 0;
}

-- Questions 7 to 9: two lines or more? Does every brace match? Has every goto keyword a symbol after it, the first of which names a label?
unfoldable pub webs_refusal : List Line → Option ℕ
webs_refusal L =
    if not (leb 2 (length L)) then Some 7
    else if not (is_some (blocks L)) then Some 8
    else if not (gotos_lead L) then Some 9
    else None

unfoldable pub webs : List Line → Answer Numbered
webs L = elim (webs_refusal L) [ Some n ↦ refused n | None ↦ accepted (numbered_webs L (or_else (recover L) [])) ]

unfoldable pub splits : List Line → Numbered
splits L = numbered_splits L (split_points L)

-- A chooser gives webs, or splits where webs refuse 7, 8 or 9 (with 0 sweeps), and says which.

pub data Choice : Type 0 where
  chose_webs : Numbered → Choice
  chose_splits : Numbered → Choice

unfoldable pub choose : List Line → Choice
choose L = elim (webs L) [ refused n ↦ chose_splits (splits L) | accepted r ↦ chose_webs r ]
