-- The webs of one family by definition number are those of `webs_of`. The graph in the words l is that of the predecessor lists preds, and
-- nums numbers the family's defining lines.
--   lines_of_family           the line of each definition: 0, then the defining lines
--   reach_renamed             the definitions that reach a line, by number and by line
--   rep_renamed               the representatives
--   web_number_is             the number of a definition's web
--   read_number_is            the number of a read
-- Assumes nothing.
use Prim.Native.Nat.{ℕ, zero, suc, ◌-◌, ◌<◌}
use mathlib.Core.Path.{◌≡◌, sym, ap, ◌∙◌}
use mathlib.Core.Bool.{Bool, true, ◌&&◌}
use mathlib.Core.List.{List, [], ◌∷◌, map}
use native.Mathlib.Omega.{arith}
use lib.ListN.{length, get_or}
use Rattle.definitions.specs.Lists.{any, filter, range, up_to, member, or_else, first}
use Rattle.definitions.specs.Model.{Line, line}
use Rattle.definitions.specs.Sweeps.{incoming, sweeps}
use Rattle.definitions.specs.Recover.{is_def_of, def_lines, read_lines, webs_of, web_number, read_number}
use Rattle.definitions.specs.Demand3.{reads_at}
use Rattle.theory.proofs.ListLaws.{member_head, member_filter, filter_passes, member_range, getD_map_up_to}
use Rattle.theory.proofs.Ranks.{Rising, rising_range, rising_filter}
use Rattle.theory.proofs.FamilyWebs.{def_line_inside, read_line_inside}
use Rattle.bits.specs.Edges.{preds_of}
use Rattle.visit.specs.Numbers.{defining_lines}
use Rattle.visit.proofs.ListFacts.{getD_member}
use Rattle.recover.specs.Numbers.{earlier}
use Rattle.recover.specs.Reaching.{reach_numbers, linked}
use Rattle.families.proofs.Lists.{filter_same}
use Rattle.recover.proofs.Renaming.{line_of, Renamed, renamed_start, renamed_fold, renamed_number, filter_renamed}

abbrev pub lines_of_family : List Line → List ℕ → List ℕ
lines_of_family L f = 0 ∷ def_lines L f

module _ (L : List Line) (f : List ℕ) where
  rising : Rising 0 (lines_of_family L f)
  rising = (omega arith, rising_filter (λ i. is_def_of f (line L i)) 1 (range 1 (length L - 1)) (rising_range 1 (length L - 1)))

  inside : 0 < length L → (d : ℕ) → d < length (lines_of_family L f) → line_of (lines_of_family L f) d < length L
  inside p zero h = p
  inside p (suc d) h = (def_line_inside L f (get_or (def_lines L f) d 0) (getD_member (def_lines L f) d 0 (omega arith))).1

-- a set that is filtered from the lines
set_renamed : (lines : List ℕ) (p : ℕ → Bool) → filter p lines ≡ map (line_of lines) (filter (λ b. member (line_of lines b) (filter p lines)) (up_to (length lines)))
set_renamed lines p =
    filter_renamed lines p
    ∙ ap (map (line_of lines)) (filter_same _ _ (up_to (length lines)) (λ b m.
    let h = member_range b 0 (length lines) m in
    sym (member_filter p lines (line_of lines b) ∙ ap (◌&& p (line_of lines b)) (getD_member lines b 0 (omega arith)))))

module _ (L : List Line) (preds : List (List ℕ)) (f : List ℕ) (n r : ℕ) (nums l : List ℕ) (pos : 0 < length L)
    (graph : preds_of n r l ≡ preds) (numbers : defining_lines n nums ≡ def_lines L f) where
  abbrev out : List (List ℕ)
  out = (sweeps preds (def_lines L f)).out

  by_number : (i : ℕ) → reach_numbers n r nums l i
      ≡ filter (λ b. member (line_of (lines_of_family L f) b) (incoming preds (def_lines L f) out i)) (up_to (length (lines_of_family L f)))
  unfolding reach_numbers
  by_number i = rw (graph, numbers)

  pub reach_renamed : (i : ℕ) → 0 < i → i < length L
      → get_or (webs_of L preds f).reaching i [] ≡ map (line_of (lines_of_family L f)) (reach_numbers n r nums l i)
  unfolding webs_of incoming
  reach_renamed zero p h = absurd (omega arith)
  reach_renamed (suc i) p h =
      getD_map_up_to (incoming preds (def_lines L f) out) (length L) (suc i) [] h
      ∙ set_renamed (lines_of_family L f) (λ d. any (λ q. member d (get_or out q [])) (get_or preds (suc i) []))
      ∙ ap (map (line_of (lines_of_family L f))) (sym (by_number (suc i)))

  reach_few : (i d : ℕ) → member d (reach_numbers n r nums l i) ≡ true → d < length (lines_of_family L f)
  reach_few i d m =
      let s = filter_passes (λ b. member (line_of (lines_of_family L f) b) (incoming preds (def_lines L f) out i)) (up_to (length (lines_of_family L f))) d (rw (by_number i) at m) in
      omega (arith, (member_range d 0 (length (lines_of_family L f)) s.0).1)

  module _ (rep : List ℕ) (made : rep ≡ linked n r nums l (up_to (length (lines_of_family L f))) (read_lines L f)) where
    pub rep_renamed : Renamed (lines_of_family L f) (webs_of L preds f).rep rep
    unfolding linked webs_of
    rep_renamed = rw made
        (renamed_fold (lines_of_family L f) 0 (rising L f) (λ i. get_or (webs_of L preds f).reaching i []) (reach_numbers n r nums l) (read_lines L f)
        (λ i m. let b = read_line_inside L f i m in reach_renamed i b.0 b.1) reach_few
        (up_to (length L)) (up_to (length (lines_of_family L f))) (renamed_start (lines_of_family L f) 0 (rising L f) (length L) (inside L f pos)))

    pub web_number_is : (d : ℕ) → d < length (lines_of_family L f) → web_number (webs_of L preds f) (line_of (lines_of_family L f) d) ≡ earlier rep (get_or rep d 0)
    unfolding web_number webs_of
    web_number_is d h = renamed_number (lines_of_family L f) 0 (rising L f) (webs_of L preds f).rep rep rep_renamed d h

    pub read_number_is : (i : ℕ) → reads_at L f i ≡ true → read_number (webs_of L preds f) i ≡ earlier rep (get_or rep (or_else (first (reach_numbers n r nums l i)) 0) 0)
    read_number_is i q =
        let b = read_line_inside L f i q in
        ap (λ (ds : List ℕ). web_number (webs_of L preds f) (or_else (first ds) 0)) (reach_renamed i b.0 b.1)
        ∙ go (reach_numbers n r nums l i) (reach_few i)
      where
        go : (ds : List ℕ) → ((d : ℕ) → member d ds ≡ true → d < length (lines_of_family L f))
            → web_number (webs_of L preds f) (or_else (first (map (line_of (lines_of_family L f)) ds)) 0) ≡ earlier rep (get_or rep (or_else (first ds) 0) 0)
        go [] s = web_number_is 0 (omega arith)
        go (d ∷ ds) s = web_number_is d (s d (member_head d ds))
