-- Two runs along a list of lines: one cell per family, and one cell per family and number. They read the same values if the numbers fit.
--   Fits L G numbers    every definition has a number, 0 for the entry, that stands at its token and at every read that it reaches
--   two_runs            numbers that fit give `TwoRuns`, for all families together
-- The invariant, per family: the last definition on the list holds here, and the cell of its number has the one cell's value.
-- Assumes nothing.
use Rattle.std.specs.Prelude.{Option, None, Some}
use mathlib.Core.Option as maybe
use Rattle.std.proofs.lemmas.Option.{same_Some}
use Prim.Native.Nat.{ℕ, suc, ◌+◌, ◌<◌}
use mathlib.Core.Path.{◌≡◌, refl, sym, ap, ap₂, ◌∙◌}
use mathlib.Core.Logic.{inl, inr}
use mathlib.Core.Bool.{Bool, true, false, cond, ◌&&◌, not, false≢true}
use mathlib.Core.List.{List, [], ◌∷◌, ◌++◌, map, map-append}
use native.Mathlib.Omega.{arith}
use native.Mathlib.Nat.{add-zero, add-suc, suc-add}
use lib.Dec.{eqb}
use borrow.Author.Tests.{eqb-true, eq-eqb}
use lib.ListN.{length, get_or}
use Rattle.definitions.specs.Lists.{is_some, any, concat, up_to}
use Rattle.definitions.specs.Model.{Line, line}
use Rattle.definitions.specs.Family.{Family, fam_of, names}
use Rattle.definitions.specs.Statements.{defines}
use Rattle.definitions.specs.FlowGraph.{steps}
use Rattle.definitions.specs.Recover.{is_read_family}
use Rattle.definitions.specs.Reaching.{Reaches}
use Rattle.definitions.specs.Runs.{Read, read_at, reads_on, named_on, first_on, number_at, family_values, family_store, family_run_from, family_run, web_values, web_store, web_run_from, web_run}
use Rattle.definitions.specs.Demand3.{Walk, TwoRunsOver, defines_at}
use Rattle.theory.proofs.Bools.{clash, not_so, and_both, and_split}
use Rattle.theory.proofs.Paths.{line_definition, Holds, extend}
use Rattle.theory.proofs.Tokens.{token_at, token_inside}
use Rattle.theory.proofs.Lines.{defined_token, names_of, names_true, defines_first, defines_names, defines_at_line, line_defines, any_at, first_of_definition, first_names}

-- `number f d` is the number of the definition d of the family f.
pub record Fits (L : List Line) (G : List (List ℕ)) (numbers : List ℕ) : Type 0 where
  pub number : List ℕ → ℕ → ℕ
  pub entry : (f : List ℕ) → number f 0 ≡ 0
  pub definition : (f : List ℕ) (i : ℕ) → defines_at L f i ≡ true → number_at L numbers i 0 ≡ number f i
  pub read : (f : List ℕ) (i k d : ℕ) → is_read_family f ≡ true → names f (token_at L i k) ≡ true
      → defined_token (line L i) k ≡ false → Reaches (steps G) (defines_at L f) d i → number_at L numbers i k ≡ number f d

-- Values read

module _ {ℓ} {Value : Type ℓ} where
  concat_same : (u v : Read → Value) (g : ℕ → List Read) (ks : List ℕ) → ((k : ℕ) → map u (g k) ≡ map v (g k))
      → map u (concat (map g ks)) ≡ map v (concat (map g ks))
  unfolding concat
  concat_same u v g [] h = refl
  concat_same u v g (k ∷ ks) h =
      map-append u (g k) (concat (map g ks)) ∙ ap₂ ◌++◌ (h k) (concat_same u v g ks h) ∙ sym (map-append v (g k) (concat (map g ks)))

  reads_same : (u v : Read → Value) (L : List Line) (i : ℕ)
      → ((k : ℕ) (f : List ℕ) → names f (token_at L i k) ≡ true → is_read_family f ≡ true → defined_token (line L i) k ≡ false
      → u (record { place = k; family = f }) ≡ v (record { place = k; family = f }))
      → map u (reads_on L i) ≡ map v (reads_on L i)
  unfolding reads_on read_at
  reads_same u v L i h =
      concat_same u v (read_at (line L i)) (up_to (length (line L i).tokens)) (λ k. at k (fam_of (token_at L i k)) refl)
    where
      one_read : ℕ → List ℕ → List Read
      one_read k f = record { place = k; family = f } ∷ []

      one : (k : ℕ) (f : List ℕ) → names f (token_at L i k) ≡ true → (r s : Bool) → is_read_family f ≡ r → defined_token (line L i) k ≡ s
          → map u (cond (r && not s) (one_read k f) []) ≡ map v (cond (r && not s) (one_read k f) [])
      one k f n true false er es = ap (◌∷ []) (h k f n er es)
      one k f n true true er es = refl
      one k f n false s er es = refl

      pick : ℕ → Option Family → List Read
      pick k o = elim o [
        | None ↦ []
        | Some x ↦ cond (is_read_family x.name && not (defined_token (line L i) k)) (one_read k x.name) []
      ]

      at : (k : ℕ) (o : Option Family) → fam_of (token_at L i k) ≡ o → map u (pick k o) ≡ map v (pick k o)
      at k None q = refl
      at k (Some x) q = one k x.name (names_of (token_at L i k) x q) (is_read_family x.name) (defined_token (line L i) k) refl refl

-- One line

-- the first token of a family that the line names and does not define is a read
first_free : (L : List Line) (f : List ℕ) (j : ℕ) → 0 < j → j < length L
    → defines_at L f j ≡ false → any (names f) (line L j).tokens ≡ true → defined_token (line L j) (first_on L j f) ≡ false
first_free L f j p h δ n = not_so _ (λ e. let s = and_split (eqb (first_on L j f) 0) (is_some (defines (line L j))) e in
    go (defines (line L j)) refl (eqb-true (first_on L j f) 0 s.0) s.1)
  where
    go : (o : Option (List ℕ)) → defines (line L j) ≡ o → first_on L j f ≡ 0 → is_some o ≡ true → ⊥
    go None q z s = false≢true s
    go (Some g) q z s =
        let x = defines_first (line L j) g q in
        let y = names_true f (token_at L j 0) (rw z at (first_names L f j n)) in
        let w : g ≡ f = sym x.2 ∙ ap (λ (a : Family). a.name) (same_Some _ _ (sym x.1 ∙ y.1)) ∙ y.2 in
        clash (defines_at_line L f j p h (rw w at q)) δ

module _ {ℓ} {Value : Type ℓ} (L : List Line) (G : List (List ℕ)) (numbers : List ℕ) (fits : Fits L G numbers)
    (inside : (i j : ℕ) → steps G i j ≡ true → j < length L) where
  -- The definition `last` of f holds where control leaves line i, and the cell of its number has the value x of the one cell.
  record Same (f : List ℕ) (i : ℕ) (x : Value) (cells : ℕ → Value) : Type ℓ where
    last : ℕ
    holds : Holds (steps G) (defines_at L f) last i
    value : cells (fits.number f last) ≡ x

  module _ (f : List ℕ) (r : is_read_family f ≡ true) (i j : ℕ) (x : Value) (cells : ℕ → Value) (s : Same f i x cells)
      (e : steps G i j ≡ true) (p : 0 < j) where
    reaches : Reaches (steps G) (defines_at L f) s.last j
    reaches = extend (steps G) (defines_at L f) s.holds e p

    read_same : (k : ℕ) → names f (token_at L j k) ≡ true → defined_token (line L j) k ≡ false → x ≡ cells (number_at L numbers j k)
    read_same k n free = sym s.value ∙ ap cells (sym (fits.read f j k s.last r n free reaches))

    abbrev stored : maybe.Option Value → Value → Value
    stored o y = maybe.get_or (cond (named_on L j f) o maybe.none) y

    abbrev target : ℕ
    target = number_at L numbers j (first_on L j f)

    abbrev stored_at : maybe.Option Value → ℕ → Value
    stored_at o w = cond (eqb w target) (stored o (cells w)) (cells w)

    store_same : (o : maybe.Option Value) → (defines (line L j) ≡ Some f → ¬ (o ≡ maybe.none)) → Same f j (stored o x) (stored_at o)
    store_same o h = go (defines_at L f j) refl
      where
        here : ℕ
        here = fits.number f s.last

        idle : (b : Bool) (y : Value) → cond b y y ≡ y
        idle true y = refl
        idle false y = refl

        unchanged : cond (eqb here target) (cells here) (cells here) ≡ x
        unchanged = idle (eqb here target) (cells here) ∙ s.value

        -- the line defines f: the value goes to the cell of the line's own number
        fresh : defines_at L f j ≡ true → (o : maybe.Option Value) → ¬ (o ≡ maybe.none) → Same f j (stored o x) (stored_at o)
        fresh δ maybe.none h = absurd (h refl)
        fresh δ (maybe.some v) h =
            let q = line_defines L f j δ in
            let y = defines_first (line L j) f q in
            let named : named_on L j f ≡ true =
            and_both r (any_at (names f) (line L j).tokens 0 (token_inside L j 0 y.0 y.1).1 (defines_names (line L j) f q)) in
            let own : target ≡ fits.number f j = ap (number_at L numbers j) (first_of_definition L f j q) ∙ fits.definition f j δ in
            let hit : eqb (fits.number f j) target ≡ true = eq-eqb (fits.number f j) target (sym own) in
            record { last = j; holds = inl (refl, line_definition (defines_at L f) j δ); value = rw (hit, named) }

        -- it names f otherwise, or not: the definition that came here holds on
        kept : defines_at L f j ≡ false → (b : Bool) → named_on L j f ≡ b → (o : maybe.Option Value) → Same f j (stored o x) (stored_at o)
        kept δ false n o = record { last = s.last; holds = inr (reaches, δ); value = rw n unchanged }
        kept δ true n maybe.none = record { last = s.last; holds = inr (reaches, δ); value = rw n unchanged }
        kept δ true n (maybe.some v) =
            let m = (and_split (is_read_family f) (any (names f) (line L j).tokens) n).1 in
            let own : target ≡ here =
            fits.read f j (first_on L j f) s.last r (first_names L f j m) (first_free L f j p (inside i j e) δ m) reaches in
            let hit : eqb here target ≡ true = eq-eqb here target (sym own) in
            record { last = s.last; holds = inr (reaches, δ); value = rw (hit, n) }

        go : (b : Bool) → defines_at L f j ≡ b → Same f j (stored o x) (stored_at o)
        go true δ = fresh δ o (h (line_defines L f j δ))
        go false δ = kept δ (named_on L j f) refl o

  -- The whole list

  module _ (rule : ℕ → List Value → List ℕ → maybe.Option Value) where
    run_same : (k : ℕ) (one : List ℕ → Value) (many : List ℕ → ℕ → Value) (js : List ℕ) (i : ℕ) → Walk G i js
        → ((f : List ℕ) → is_read_family f ≡ true → Same f i (one f) (many f))
        → ((m : ℕ) (vs : List Value) (f : List ℕ) → m < length js → defines (line L (get_or js m 0)) ≡ Some f → is_read_family f ≡ true
        → ¬ (rule (k + m) vs f ≡ maybe.none))
        → family_run_from L rule k one js ≡ web_run_from L rule numbers k many js
    unfolding family_run_from web_run_from
    run_same k one many [] i w s g = refl
    run_same k one many (j ∷ js) i w s g =
        let vs : List Value = web_values L rule numbers many j in
        let same : family_values L rule one j ≡ vs =
        reads_same (λ r. one r.family) (λ r. many r.family (number_at L numbers j r.place)) L j
        (λ n f m r free. read_same f r i j (one f) (many f) (s f r) w.0 w.1 n m free) in
        rw same (ap (vs ++◌)
        (run_same (suc k) (family_store L rule k j vs one) (web_store L rule numbers k j vs many) js j w.2
        (λ f r. store_same f r i j (one f) (many f) (s f r) w.0 w.1 (rule k vs f)
        (λ q. rw (add-zero k) at (g 0 vs f (omega arith) q r)))
        (λ m us f h q r. rw (suc-add k m, ← (add-suc k m)) (g (suc m) us f (omega arith) q r))))

  pub two_runs : TwoRunsOver Value L G numbers
  unfolding family_run web_run
  two_runs rule entry cells zero_cells [] trace gives = absurd trace
  two_runs rule entry cells zero_cells (i ∷ is) trace gives =
      run_same rule 1 entry cells is 0 trace.1
      (λ f r. record { last = 0; holds = inl (refl, refl); value = ap (cells f) (fits.entry f) ∙ zero_cells f })
      (λ m vs f h q r. rw (one_add m) (gives (suc m) vs f (omega arith) (omega arith) q r))
    where
      one_add : (m : ℕ) → 1 + m ≡ suc m
      one_add m = omega arith
