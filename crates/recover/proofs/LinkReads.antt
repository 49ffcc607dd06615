-- Rules for `link_line`, `link_reads`, `web_of` and `read_web`.
--   reach_bits                    the bits of a line's row are the numbers of the definitions that reach it
--   swept_still                   making a row leaves the sweeps' result as it is
--   line_room, links_one                    `link_line`
--   web_by, read_room, read_by    `web_of` and `read_web`
--   alone_slices, family_by                            `family_reps`
--   links_start, links_next, links_end, slices_next    the loop of `link_reads`
-- Assumes nothing.
use Prim.Native.Nat.{ℕ, suc, ◌+◌, ◌*◌, ◌<◌, ◌≤◌}
use mathlib.Core.Path.{◌≡◌, refl, sym, ap, ◌∙◌}
use mathlib.Core.Logic.{inl, inr}
use mathlib.Core.List.{List, [], ◌∷◌, ◌++◌, map}
use native.Mathlib.Omega.{arith}
use native.Mathlib.Numerals.{add-one}
use lib.ListN.{length, get_or, take, get_or-eq_default}
use lib.Seq.{take-suc, take_all}
use Rattle.definitions.specs.Lists.{fold, up_to, or_else, first}
use Rattle.definitions.specs.Sweeps.{sweeps}
use Rattle.definitions.specs.Recover.{link}
use Rattle.theory.proofs.Bools.{lt_or_ge}
use Rattle.theory.proofs.ListLaws.{member_range, getD_range, length_range, getD_map_up_to}
use Rattle.bits.specs.Edges.{preds_of}
use Rattle.visit.specs.Layout.{making, Fits}
use Rattle.visit.specs.Numbers.{defining_lines}
use Rattle.sweep.specs.Solved.{Incoming}
use Rattle.visit.proofs.LayoutLaws.{room_same, kept_preds, kept_both}
use Rattle.sweep.proofs.Counting.{incoming_kept, incoming_holds}
use Rattle.recover.specs.Numbers.{Within, earlier, Ranked}
use Rattle.recover.specs.Reaching.{bits_from, Reached, FirstReached, Swept, Sized, Slices, reach_numbers, linked, Links, FamilyReps, ReadWeb}
use Rattle.families.proofs.Lists.{filter_same}
use Rattle.recover.proofs.Linking.{link_length, link_within}

module _ (n r w i : ℕ) (nums l₀ l : List ℕ) (S : Swept n r w nums l₀) (I : Incoming n r w i l₀ l) where
  pub reach_bits : bits_from l (making n r w * 64) (suc (length (defining_lines n nums))) ≡ reach_numbers n r nums l₀ i
  unfolding bits_from reach_numbers
  reach_bits = filter_same _ _ (up_to (suc (length (defining_lines n nums)))) (λ b m.
      let h = member_range b 0 (suc (length (defining_lines n nums))) m in
      I.row nums (sweeps (preds_of n r l₀) (defining_lines n nums)).out S.numbered S.holds b (omega arith))

  same_preds : preds_of n r l ≡ preds_of n r l₀
  same_preds = kept_preds n r w l₀ l S.room.wide (incoming_kept n r w i l₀ l I)

  pub swept_still : length l ≡ length l₀ → Swept n r w nums l
  swept_still e = record {
    room = room_same n r w l₀ l e S.room;
    numbered = S.numbered;
    agree = kept_both n r w l₀ l S.room.wide (incoming_kept n r w i l₀ l I) S.agree;
    holds = rw same_preds (incoming_holds n r w i l₀ l I nums (sweeps (preds_of n r l₀) (defining_lines n nums)).out S.numbered S.holds);
  }

-- `link_line`

module _ (n r w i : ℕ) (nums l₀ rep set marks : List ℕ) (S : Swept n r w nums l₀) (F : Slices n nums rep set marks) where
  pub line_room : Fits n r w l₀ × (length rep ≤ w * 64) × (length rep ≤ length set) × (length rep ≤ 65536)
  line_room = (S.room.room, omega (arith, F.sized.size, S.numbered.few), F.sized.room, F.sized.small)

  pub links_one : (l s rep' : List ℕ) (m : ℕ) → length l ≡ length l₀ → Reached n r w i (length rep) l₀ l s m → rep' ≡ link rep (take m s) → Links n r w nums l₀ l rep rep' (i ∷ [])
  unfolding linked fold
  links_one l s rep' m e R q = record {
    swept = swept_still n r w i nums l₀ l S R.row e;
    preds = same_preds n r w i nums l₀ l S R.row;
    reps = q ∙ ap (link rep) (R.set ∙ ap (bits_from l (making n r w * 64)) F.sized.size ∙ reach_bits n r w i nums l₀ l S R.row);
  }

-- `link_reads`

fold_snoc : (f : List ℕ → ℕ → List ℕ) (b : List ℕ) (xs : List ℕ) (x : ℕ) → fold f b (xs ++ (x ∷ [])) ≡ f (fold f b xs) x
unfolding fold
fold_snoc f b [] x = refl
fold_snoc f b (y ∷ xs) x = fold_snoc f (f b y) xs x

module _ (n r w : ℕ) (nums l₀ rep₀ is : List ℕ) where
  pub links_start : Swept n r w nums l₀ → Links n r w nums l₀ l₀ rep₀ rep₀ (take 0 is)
  unfolding linked fold
  links_start S = record { swept = S; preds = refl; reps = refl }

  module _ (l rep : List ℕ) (j : ℕ) (K : Links n r w nums l₀ l rep₀ rep (take j is)) where
    same_numbers : (i : ℕ) → reach_numbers n r nums l i ≡ reach_numbers n r nums l₀ i
    unfolding reach_numbers
    same_numbers i = rw K.preds

    pub links_next : (l' rep' : List ℕ) (i : ℕ) → j < length is → i ≡ get_or is j 0 → Links n r w nums l l' rep rep' (i ∷ []) → Links n r w nums l₀ l' rep₀ rep' (take (j + 1) is)
    unfolding linked fold
    links_next l' rep' i h e N = record {
      swept = N.swept;
      preds = N.preds ∙ K.preds;
      reps = N.reps ∙ ap (link rep) (same_numbers i) ∙ ap (λ (p : List ℕ). link p (reach_numbers n r nums l₀ i)) K.reps
          ∙ ap (λ (x : ℕ). link (linked n r nums l₀ rep₀ (take j is)) (reach_numbers n r nums l₀ x)) e
          ∙ sym (fold_snoc (λ p i. link p (reach_numbers n r nums l₀ i)) rep₀ (take j is) (get_or is j 0))
          ∙ ap (fold (λ p i. link p (reach_numbers n r nums l₀ i)) rep₀) (sym (take-suc is j 0 h) ∙ ap (λ (k : ℕ). take k is) (sym (add-one j)));
    }

    pub links_end : length is ≤ j → Links n r w nums l₀ l rep₀ rep is
    links_end h = rw (take_all j is h) at K

pub slices_next : (n r w i : ℕ) (nums l l' rep set marks rep' set' marks' : List ℕ) → Slices n nums rep set marks → Links n r w nums l l' rep rep' (i ∷ [])
    → length rep' ≡ length rep → length set' ≡ length set → length marks' ≡ length marks → Slices n nums rep' set' marks'
unfolding linked fold
slices_next n r w i nums l l' rep set marks rep' set' marks' F K a b c = record {
  sized = record { size = a ∙ F.sized.size; room = omega (arith, F.sized.room); small = omega (arith, F.sized.small) };
  within = rw K.reps (link_within (length marks') (reach_numbers n r nums l i) rep (rw c F.within));
}

-- `web_of` and `read_web`

pub web_by : (rep rank : List ℕ) → Ranked rep rank → (d k v : ℕ) → k ≡ get_or rep d 0 → v ≡ get_or rank k 0 → v ≡ earlier rep (get_or rep d 0)
web_by rep rank R d k v e q =
    q ∙ ap (get_or rank k) refl ∙ ap (λ (s : List ℕ). get_or s k 0) R.ranks
    ∙ getD_map_up_to (earlier rep) (length rep) k 0 (rw e (R.inside.at d)) ∙ ap (earlier rep) e

module _ (n r w i : ℕ) (nums l₀ rep : List ℕ) (S : Swept n r w nums l₀) (size : length rep ≡ suc (length (defining_lines n nums))) where
  pub read_room : Fits n r w l₀ × (length rep ≤ w * 64)
  read_room = (S.room.room, omega (arith, size, S.numbered.few))

  pub read_by : (l : List ℕ) (d v : ℕ) → length l ≡ length l₀ → FirstReached n r w i (length rep) l₀ l d → v ≡ earlier rep (get_or rep d 0) → ReadWeb n r w i nums l₀ l rep v
  read_by l d v e R t = record {
    swept = swept_still n r w i nums l₀ l S R.row e;
    preds = same_preds n r w i nums l₀ l S R.row;
    number = t ∙ ap (λ (d : ℕ). earlier rep (get_or rep d 0)) (R.is ∙ ap (λ (ds : List ℕ). or_else (first ds) 0) (ap (bits_from l (making n r w * 64)) size ∙ reach_bits n r w i nums l₀ l S R.row));
  }

-- `family_reps`

linked_within : (n r m : ℕ) (nums l rep is : List ℕ) → Within m rep → Within m (linked n r nums l rep is)
unfolding linked fold
linked_within n r m nums l rep [] W = W
linked_within n r m nums l rep (i ∷ is) W = linked_within n r m nums l (link rep (reach_numbers n r nums l i)) is (link_within m (reach_numbers n r nums l i) rep W)

linked_length : (n r : ℕ) (nums l rep is : List ℕ) → length (linked n r nums l rep is) ≡ length rep
unfolding linked fold
linked_length n r nums l rep [] = refl
linked_length n r nums l rep (i ∷ is) = linked_length n r nums l (link rep (reach_numbers n r nums l i)) is ∙ link_length (reach_numbers n r nums l i) rep

up_to_within : (m k : ℕ) → 0 < m → m ≤ k → Within k (up_to m)
up_to_within m k p h = record {
  at = λ d. elim (lt_or_ge d m) [
    | inl b ↦ omega (arith, getD_range 0 m d 0 b)
    | inr b ↦ omega (arith, get_or-eq_default (up_to m) 0 {n = d} (omega (arith, length_range 0 m)))
  ];
}

module _ (n r w : ℕ) (nums l₀ rep₀ set marks is : List ℕ) (F : Sized n nums rep₀ set) (h : length rep₀ ≤ length marks) (alone : List ℕ) (e : alone ≡ up_to (length rep₀)) where
  same_size : length alone ≡ length rep₀
  same_size = ap length e ∙ length_range 0 (length rep₀)

  pub alone_slices : Slices n nums alone set marks
  alone_slices = record {
    sized = record { size = same_size ∙ F.size; room = omega (arith, same_size, F.room); small = omega (arith, same_size, F.small) };
    within = rw e (up_to_within (length rep₀) (length marks) (omega (arith, F.size)) h);
  }

  pub family_by : (l rep rank : List ℕ) → Links n r w nums l₀ l alone rep is → rank ≡ map (earlier rep) (up_to (length rep)) → FamilyReps n r w nums l₀ l rep rank is
  family_by l rep rank K q = record {
    swept = K.swept;
    preds = K.preds;
    reps = K.reps ∙ ap (λ (a : List ℕ). linked n r nums l₀ a is) (e ∙ ap up_to F.size);
    ranked = record {
      ranks = q;
      inside = rw K.reps (rw (linked_length n r nums l₀ alone is)
          (linked_within n r (length alone) nums l₀ alone is (rw e (rw (length_range 0 (length rep₀)) (up_to_within (length rep₀) (length rep₀) (omega (arith, F.size)) (omega arith))))));
    };
  }

pub ruleset link_rules = (line_room, links_one, links_start, links_next, links_end, slices_next, web_by, read_room, read_by, alone_slices, family_by)
