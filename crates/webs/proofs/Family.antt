-- One family: what the words of the lines and of the tokens say of it.
--   defines_place           a line defines family k exactly if its word is k + 1
--   family_lines            the lines that `number` numbers are the family's defining lines
--   line_keys               the numbers of a line's tokens
-- Assumes nothing.
use Rattle.std.specs.Prelude.{Option, None, Some}
use Prim.Native.Nat.{ℕ, zero, suc, ◌+◌, ◌-◌, ◌<◌}
use mathlib.Core.Path.{◌≡◌, refl, sym, ap, ◌∙◌}
use mathlib.Core.Bool.{Bool, true, false, cond, ◌&&◌, not}
use mathlib.Core.List.{List}
use native.Mathlib.Omega.{arith}
use lib.Dec.{eqb}
use borrow.Author.Tests.{ne_eqb}
use lib.ListN.{length, get_or}
use Rattle.definitions.specs.Lists.{any, range, up_to, member, ◌≟◌}
use Rattle.definitions.specs.Model.{Line, line}
use Rattle.definitions.specs.Statements.{defines}
use Rattle.definitions.specs.Sweeps.{sweeps}
use Rattle.definitions.specs.Recover.{Webs, is_def_of, def_lines, read_lines, defined_families, address_taken, webs_of, web_number, read_number as web_read, key}
use Rattle.definitions.specs.Demand3.{defines_at, reads_at}
use Rattle.theory.proofs.Bools.{same_test, clash}
use Rattle.theory.proofs.ListLaws.{member_filter, filter_passes, member_range, range_member}
use Rattle.theory.proofs.FamilyWebs.{def_line_inside}
use Rattle.bits.specs.Edges.{preds_of}
use Rattle.visit.specs.Numbers.{defining_lines, lines_of, Numbered}
use Rattle.std.specs.Prelude as rust
use Rattle.families.specs.Families.{place_defined, defined_at, Defs}
use Rattle.families.specs.Tokens.{family_name}
use Rattle.recover.specs.Reaching.{linked}
use Rattle.families.proofs.Lists.{filter_same}
use Rattle.recover.proofs.FamilyNumbers.{lines_of_family, web_number_is, read_number_is}
use Rattle.webs.specs.Progress.{webs_over, family_sweeps}
use Rattle.numbering.specs.Lines.{own_number, read_number, LineNumbers, FamilyLines}
use Rattle.chains.proofs.FamilyPlaces.{place_is}
use Rattle.webs.proofs.Progress.{key_of}

module _ (L : List Line) (ds : List ℕ) (D : Defs L ds) (k : ℕ) (h : k < length (defined_families L)) where
  abbrev f : List ℕ
  f = family_name L k

  is_place : (o : Option (List ℕ)) → eqb (place_defined (defined_families L) o) (k + 1) ≡ (elim o [ None ↦ false | Some g ↦ g ≟ f ])
  is_place None = ne_eqb 0 (k + 1) (λ z. omega arith)
  is_place (Some g) = place_is L k h g

  at_line : (i : ℕ) → 0 < i → i < length L → eqb (get_or ds i 0) (k + 1) ≡ is_def_of f (line L i)
  unfolding defined_at
  at_line zero p b = absurd (omega arith)
  at_line (suc i) p b = ap (λ (x : ℕ). eqb x (k + 1)) (D.at (suc i) b) ∙ is_place (defines (line L (suc i)))

  pub defines_place : (i : ℕ) → i < length L → eqb (get_or ds i 0) (k + 1) ≡ defines_at L f i
  unfolding defined_at
  defines_place zero b =
      ap (λ (x : ℕ). eqb x (k + 1)) (D.at 0 b) ∙ ne_eqb 0 (k + 1) (λ z. omega arith)
      ∙ sym (same_test (defines_at L f 0) false (λ e. absurd (omega (arith, (def_line_inside L f 0 e).0))) (λ e. clash e refl))
  defines_place (suc i) b =
      at_line (suc i) (omega arith) b
      ∙ sym (member_filter (λ i. is_def_of f (line L i)) (range 1 (length L - 1)) (suc i) ∙ rw (range_member (suc i) 1 (length L - 1) (omega arith) (omega arith)))

  pub family_lines : lines_of (length L) ds (k + 1) ≡ def_lines L f
  family_lines = filter_same _ _ (range 1 (length L - 1)) (λ i m. let b = member_range i 1 (length L - 1) m in at_line i (omega arith) (omega arith))

-- The numbers of a line

module _ (L : List Line) (f : List ℕ) (r w : ℕ) (nums l₀ l is own read : List ℕ) (N : Numbered (length L) w nums) (pos : 0 < length L)
    (lines : defining_lines (length L) nums ≡ def_lines L f) (reads : is ≡ read_lines L f) (M : LineNumbers (length L) r w nums l₀ l is own read)
    (has : any (λ g. g ≟ f) (defined_families L) ≡ true) (free : address_taken L f ≡ false) where
  abbrev preds : List (List ℕ)
  preds = preds_of (length L) r l₀

  abbrev W : Webs
  W = webs_of L preds f

  made : M.rep ≡ linked (length L) r nums l₀ (up_to (length (lines_of_family L f))) (read_lines L f)
  made = M.reps ∙ rw (lines, reads)

  own_is : (i : ℕ) → defines_at L f i ≡ true → get_or own i 0 ≡ web_number W i
  unfolding own_number
  own_is i e =
      let b = def_line_inside L f i e in
      let m = filter_passes (λ i. not (eqb (get_or nums i 0) 0)) (range 1 (length L - 1)) i (ap (member i) lines ∙ e) in
      let q = N.number i b.0 b.1 (λ z. clash m.1 (rw z)) in
      let at : get_or (lines_of_family L f) (get_or nums i 0) 0 ≡ i = rw lines at q.1 in
      M.owned.at i b.1
      ∙ sym (web_number_is L preds f (length L) r nums l₀ pos refl lines M.rep made (get_or nums i 0) (omega (arith, ap length lines, q.0)))
      ∙ ap (web_number W) at

  read_is : (i : ℕ) → get_or read i 0 ≡ cond (reads_at L f i) (web_read W i) 0
  unfolding read_number
  read_is i = M.at i ∙ ap (λ (b : Bool). cond b (read_number (length L) r nums l₀ M.rep i) 0) (ap (member i) reads) ∙ go (reads_at L f i) refl
    where
      go : (b : Bool) → reads_at L f i ≡ b → cond b (read_number (length L) r nums l₀ M.rep i) 0 ≡ cond b (web_read W i) 0
      go true e = sym (read_number_is L preds f (length L) r nums l₀ pos refl lines M.rep made i e)
      go false e = refl

  pub line_keys : (i j : ℕ) → cond (defines_at L f i && eqb j 0) (get_or own i 0) (get_or read i 0) ≡ key (webs_over L preds) f i j
  line_keys i j = go (defines_at L f i) refl (eqb j 0) refl ∙ sym (key_of L preds f has free i j)
    where
      go : (b : Bool) → defines_at L f i ≡ b → (c : Bool) → eqb j 0 ≡ c → cond (b && c) (get_or own i 0) (get_or read i 0) ≡ cond (c && b) (web_number W i) (cond (reads_at L f i) (web_read W i) 0)
      go true e true q = own_is i e
      go true e false q = read_is i
      go false e true q = read_is i
      go false e false q = read_is i

-- What `family_lines` says of the family

module _ (L : List Line) (ds : List ℕ) (D : Defs L ds) (k : ℕ) (h : k < length (defined_families L)) (free : address_taken L (family_name L k) ≡ false)
    (n r budget : ℕ) (l₀ l is own read : List ℕ) (a : rust.Option ℕ) (size : n ≡ length L) (F : FamilyLines n r k ds budget l₀ l is own read a) where
  lines_are : defining_lines n F.nums ≡ def_lines L (family_name L k)
  lines_are = F.lines ∙ ap (λ (m : ℕ). lines_of m ds (k + 1)) size ∙ family_lines L ds D k h

  pub family_count : (sweeps (preds_of n r l₀) (defining_lines n F.nums)).count ≡ family_sweeps L (preds_of n r l₀) (family_name L k)
  unfolding family_sweeps
  family_count = rw (lines_are, free)

  pub family_keys : 0 < length L → is ≡ read_lines L (family_name L k) → any (λ g. g ≟ family_name L k) (defined_families L) ≡ true
      → LineNumbers n r F.w F.nums l₀ l is own read → (i j : ℕ)
      → cond (defines_at L (family_name L k) i && eqb j 0) (get_or own i 0) (get_or read i 0) ≡ key (webs_over L (preds_of n r l₀)) (family_name L k) i j
  family_keys pos reads has M i j = go n size F.numbered lines_are M
    where
      go : (m : ℕ) → m ≡ length L → Numbered m F.w F.nums → defining_lines m F.nums ≡ def_lines L (family_name L k) → LineNumbers m r F.w F.nums l₀ l is own read
          → cond (defines_at L (family_name L k) i && eqb j 0) (get_or own i 0) (get_or read i 0) ≡ key (webs_over L (preds_of m r l₀)) (family_name L k) i j
      go m e N q M = rw e (line_keys L (family_name L k) r F.w F.nums l₀ l is own read (rw e at N) pos (rw e at q) reads (rw e at M) has free i j)
