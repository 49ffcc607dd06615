-- Rules for the needs of `tokens`.
--   number_by, mark_by, over_start, over_next, over_done, line_order_by, line_by     the loop of `write_line`
--   Tallied ds i cs             cs has how many of the first i entries of ds are c, for each c
--   Written l t g us ms₀ i ms   ms is ms₀ with g of the elements us of the first i lines
--   tallied_start, tallied_fits, tallied_next, number_tallied, written_start, written_next, written_end     the loop of `write_lines`
-- Assumes nothing.
use Rattle.std.specs.Prelude.{Option}
use Prim.Native.Nat.{ℕ, ◌+◌, ◌<◌, ◌≤◌}
use mathlib.Core.Path.{◌≡◌, refl, sym, ap, ◌∙◌, fun_ext}
use mathlib.Core.Bool.{true, cond}
use mathlib.Core.List.{List, [], ◌∷◌, ◌++◌, map, map-append, append_assoc}
use native.Mathlib.Decide.{ℕ_discrete}
use native.Mathlib.Nat.{zero-add}
use native.Mathlib.Numerals.{add-one}
use native.Mathlib.Omega.{arith}
use borrow.Author.Tests.{eq-eqb, ne_eqb}
use mir.Syntax.{w16}
use mir.Val.{Fits}
use lib.Dec.{eqb}
use lib.ListN.{length, get_or, set, take, drop, length-append, length-map, take-append-drop}
use lib.Seq.{set_at, append_snoc, length-take-le, get_or-set_same, get_or-set_other}
use Rattle.definitions.specs.Lists.{part, filter, count, range, up_to}
use Rattle.definitions.specs.Model.{Token, no_token}
use Rattle.definitions.specs.Family.{fam_of}
use Rattle.definitions.specs.Questions.{covers}
use Rattle.definitions.specs.Recover.{defined_families}
use Rattle.model.specs.declared.listing.Listing.{Listing}
use Rattle.model.specs.Listings.{listing_of, tokens_of}
use Rattle.text.proofs.Parts.{drop_step, part_step, part_none, part_join, length_part}
use Rattle.theory.proofs.ListLaws.{count_all, length_range}
use Rattle.model.specs.Places.{line_start, line_end}
use Rattle.families.proofs.Lists.{count_snoc, range_snoc}
use Rattle.memo.specs.Found.{found}
use Rattle.splits.specs.Tokens.{tally, number_of, mark_of, token_number, token_mark, over, by_line}
use Rattle.splits.proofs.ByLine.{line_upward, by_line_start, by_line_next, by_line_end}

-- One token

module _ (a b : Listing) (e : a ≡ b) (k : ℕ) (c : Option ℕ) (p : c ≡ found (defined_families (listing_of a)) (fam_of (get_or (tokens_of a) k no_token))) where
  pub number_by : (f : ℕ → ℕ) (v : ℕ) → v ≡ number_of f c → v ≡ token_number (defined_families (listing_of b)) f (get_or (tokens_of b) k no_token)
  unfolding token_number
  number_by f v q = rw (← e, ← p) q

  pub mark_by : (d m : ℕ) → m ≡ mark_of d c → m ≡ token_mark (defined_families (listing_of b)) d (get_or (tokens_of b) k no_token)
  unfolding token_mark
  mark_by d m q = rw (← e, ← p) q

-- A part

module _ {A : Type 0} (z : A) (f : A → ℕ) (a : ℕ) (ws : List A) (ms : List ℕ) where
  pub over_start : ms ≡ over a a f ws ms
  over_start = let n = part_none ws a a (omega arith) in rw n (sym (take-append-drop a ms))

  module _ (t : ℕ) (o : List ℕ) (inv : o ≡ over a t f ws ms) (h : a ≤ t) where
    pub over_next : (e v : ℕ) → t < e → e ≤ length ws → e ≤ length ms → v ≡ f (get_or ws t z) → set o t v ≡ over a (t + 1) f ws ms
    over_next e v l g b q =
        let one : part t (t + 1) ws ≡ get_or ws t z ∷ [] = part_step z ws t (t + 1) (omega arith) (omega arith) ∙ ap (get_or ws t z ∷◌) (part_none ws (t + 1) (t + 1) (omega arith)) in
        let more : part a (t + 1) ws ≡ part a t ws ++ (get_or ws t z ∷ []) = sym (part_join ws a t (t + 1) h (omega arith)) ∙ ap (part a t ws ++◌) one in
        let front = take a ms ++ map f (part a t ws) in
        let size : length front ≡ t = rw (length-append, length-map, length-take-le a ms (omega arith), length_part ws a t) (omega arith) in
        ap (λ (l : List ℕ). set l t v) (inv ∙ sym (append_assoc (take a ms) (map f (part a t ws)) (drop t ms)) ∙ ap (front ++◌) (drop_step 0 ms t (omega arith)))
        ∙ set_at front (get_or ms t 0) (drop (t + 1) ms) v t size ∙ ap (λ (y : ℕ). front ++ (y ∷ drop (t + 1) ms)) q
        ∙ sym (append_snoc front (f (get_or ws t z)) (drop (t + 1) ms))
        ∙ ap (◌++ drop (t + 1) ms) (append_assoc (take a ms) (map f (part a t ws)) (f (get_or ws t z) ∷ []) ∙ ap (take a ms ++◌) (sym (map-append f (part a t ws) (get_or ws t z ∷ [])) ∙ ap (map f) (sym more)))
        ∙ append_assoc (take a ms) (map f (part a (t + 1) ws)) (drop (t + 1) ms)

    pub over_done : (e : ℕ) → t ≤ e → e ≤ t → o ≡ over a e f ws ms
    over_done e l g = let n : t ≡ e = omega arith in rw n at inv

-- One line

module _ (l t : List ℕ) (i s e : ℕ) (p : s ≡ line_start l i) (q : e ≡ line_end l t i) where
  pub line_order_by : covers 512 0 l (length t) ≡ true → i < length l → s ≤ e
  line_order_by ok h = omega (arith, p, q, line_upward l t ok i h)

  pub line_by : {A : Type 0} (f : A → ℕ) (us : List A) (ms next : List ℕ) → next ≡ over s e f us ms → next ≡ over (line_start l i) (line_end l t i) f us ms
  line_by f us ms next u = rw (p, q) at u

-- The loops

pub record Tallied (ds : List ℕ) (i : ℕ) (cs : List ℕ) : Type 0 where
  pub at : (c : ℕ) → get_or cs c 0 ≡ tally ds i c

pub tallied_start : (ds cs : List ℕ) → ((c : ℕ) → get_or cs c 0 ≡ 0) → Tallied ds 0 cs
unfolding tally range filter
tallied_start ds cs z = record { at = λ c. z c }

module _ (ds : List ℕ) (i : ℕ) (cs : List ℕ) (T : Tallied ds i cs) where
  tally_few : (c : ℕ) → tally ds i c ≤ i
  unfolding tally
  tally_few c = omega (arith, count_all (λ j. eqb (get_or ds j 0) c) (up_to i), length_range 0 i)

  pub tallied_fits : (d : ℕ) → i < 1024 → Fits w16 (get_or cs d 0 + 1)
  tallied_fits d h = record { fits = omega (arith, T.at d, tally_few d) }

  tally_more : (c : ℕ) → tally ds (i + 1) c ≡ tally ds i c + cond (eqb (get_or ds i 0) c) 1 0
  unfolding tally
  tally_more c =
      ap (λ (js : List ℕ). count (λ j. eqb (get_or ds j 0) c) js) (ap up_to (add-one i) ∙ range_snoc 0 i)
      ∙ count_snoc (λ j. eqb (get_or ds j 0) c) (up_to i) (0 + i)
      ∙ ap (λ (j : ℕ). count (λ j. eqb (get_or ds j 0) c) (up_to i) + cond (eqb (get_or ds j 0) c) 1 0) (zero-add i)

  pub tallied_next : (d : ℕ) → d ≡ get_or ds i 0 → (next : List ℕ) → d < length cs → next ≡ set cs d (get_or cs d 0 + 1) → Tallied ds (i + 1) next
  tallied_next d q next h e = record {
    at = λ c. elim (ℕ_discrete d c) [
      | yes z ↦ rw (e, ← z, get_or-set_same cs d (get_or cs d 0 + 1) 0 h, T.at d, tally_more d, ← q, eq-eqb d d refl)
      | no z ↦ rw (e, get_or-set_other cs d c (get_or cs d 0 + 1) 0 (λ y. z (sym y)), T.at c, tally_more c, ← q, ne_eqb d c z) (omega arith)
    ];
  }

pub record Written {A : Type 0} (l t : List ℕ) (g : ℕ → A → ℕ) (us : List A) (ms₀ : List ℕ) (i : ℕ) (ms : List ℕ) : Type 0 where
  pub at : ms ≡ by_line l t g us i ++ drop (line_start l i) ms₀

abbrev pub number_at : List (List ℕ) → List ℕ → ℕ → Token → ℕ
number_at fs ds i u = token_number fs (tally ds (i + 1)) u

abbrev pub mark_at : List (List ℕ) → List ℕ → ℕ → Token → ℕ
mark_at fs ds i u = token_mark fs (get_or ds i 0) u

module _ (l t : List ℕ) (ok : covers 512 0 l (length t) ≡ true) {A : Type 0} (g : ℕ → A → ℕ) (us : List A) (ms₀ : List ℕ) where
  pub written_start : Written l t g us ms₀ 0 ms₀
  written_start = record { at = by_line_start l t ok g us ms₀ }

  module _ (i : ℕ) (ms : List ℕ) (W : Written l t g us ms₀ i ms) where
    pub written_next : i < length l → length us ≡ length t → (next : List ℕ) → next ≡ over (line_start l i) (line_end l t i) (g i) us ms → Written l t g us ms₀ (i + 1) next
    written_next h size next e = record { at = by_line_next l t ok g us (omega arith) ms₀ ms i W.at h next e }

    pub written_end : i ≤ length l → length l ≤ i → length ms₀ ≡ length t → ms ≡ by_line l t g us (length l)
    written_end h b size = by_line_end l t ok g us ms₀ ms i W.at h b size

-- the numbers of the families after line i
pub number_tallied : (fs : List (List ℕ)) (ds : List ℕ) (i : ℕ) (cs : List ℕ) → Tallied ds (i + 1) cs → token_number fs (λ c. get_or cs c 0) ≡ number_at fs ds i
number_tallied fs ds i cs T = ap (token_number fs) (fun_ext (λ c. T.at c))
