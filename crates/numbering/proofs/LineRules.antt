-- Rules for `number_defs`, `number_reads` and `family_lines`.
--   own_start, own_next, own_end            the loop of `number_defs`
--   reads_start, reads_next, reads_end      the loop of `number_reads`
--   line_in                                 a line of a list is below n
--   lines_by                                the numbers of a family after its sweeps
--   answer_done, answer_over                an answer within the budget, and one over it
--   solved_swept, solved_done, solved_over  its sweeps, within the budget and over it
--   family_numbered, family_room, family_swept, family_by    `family_lines`
-- Assumes nothing.
use Prim.Native.Nat.{ℕ, ◌+◌, ◌-◌, ◌*◌, ◌/◌, ◌<◌, ◌≤◌}
use mathlib.Core.Path.{◌≡◌, refl, sym, ap, ◌∙◌}
use mathlib.Core.Logic.{inl, inr}
use mathlib.Core.Bool.{Bool, true, false, cond, ◌||◌}
use mathlib.Core.List.{List, ◌++◌}
use native.Mathlib.Omega.{arith}
use native.Mathlib.Numerals.{add-one}
use lib.Dec.{eqb, leb}
use borrow.Author.Tests.{eqb-true, eqb-false, leb-true, leb-false}
use lib.ListN.{length, get_or, set, take}
use lib.Seq.{take-append_seam, take-suc, take_all, get_or-set_same, get_or-set_other}
use Rattle.definitions.specs.Lists.{any, member, or_else, first}
use Rattle.theory.proofs.Bools.{lt_or_ge}
use Rattle.theory.proofs.ListLaws.{replicate_default}
use Rattle.text.specs.Zeroed.{zeroed}
use Rattle.definitions.specs.Questions.{space_words}
use Rattle.definitions.specs.Sweeps.{sweeps}
use Rattle.bits.specs.Edges.{row_words, Agree, preds_of}
use Rattle.visit.specs.Layout.{Fits, Room}
use Rattle.visit.specs.declared.layout.Layout.{Layout}
use Rattle.visit.specs.Numbers.{defining_lines, Numbered, Counted}
use Rattle.sweep.specs.Solved.{Solved, answer}
use Rattle.std.specs.Prelude.{Option, Some, None}
use Rattle.visit.proofs.LayoutLaws.{room, room_by, room_same, kept_preds, kept_both}
use Rattle.recover.specs.Numbers.{earlier}
use Rattle.recover.specs.Reaching.{Swept, reach_numbers, linked, FamilyReps, ReadWeb}
use Rattle.families.proofs.Lists.{any_snoc}
use Rattle.numbering.specs.Lines.{own_number, read_number, Below, Owned, Reads, LineNumbers, SolvedLines, FamilyLines}

-- `number_defs`

module _ (nums rep : List ℕ) where
  pub own_start : (own : List ℕ) → Owned nums rep 0 own
  own_start own = record { at = λ i h. absurd (omega arith) }

  pub own_next : (own : List ℕ) (i d v : ℕ) → Owned nums rep i own → i < length own → d ≡ get_or nums i 0 → v ≡ earlier rep (get_or rep d 0) → Owned nums rep (i + 1) (set own i v)
  unfolding own_number
  own_next own i d v O h e q = record {
    at = λ j g. elim (lt_or_ge j i) [
      | inl b ↦ get_or-set_other own i j v 0 (λ z. omega arith) ∙ O.at j b
      | inr b ↦ (let z : j ≡ i = omega arith in rw z (get_or-set_same own i v 0 h ∙ q ∙ ap (λ (d : ℕ). earlier rep (get_or rep d 0)) e))
    ];
  }

  pub own_end : (own : List ℕ) (i : ℕ) → Owned nums rep i own → length own ≤ i → Owned nums rep (length own) own
  own_end own i O h = record { at = λ j g. O.at j (omega arith) }

-- `number_reads`

module _ (n r w : ℕ) (nums l₀ rep is read₀ : List ℕ) where
  pub reads_start : Swept n r w nums l₀ → Reads n r w nums l₀ l₀ rep (take 0 is) read₀ read₀
  unfolding any
  reads_start S = record { swept = S; preds = refl; at = λ i. refl }

  module _ (l read : List ℕ) (j : ℕ) (R : Reads n r w nums l₀ l rep (take j is) read₀ read) where
    member_next : j < length is → (i : ℕ) → member i (take (j + 1) is) ≡ (member i (take j is) || eqb i (get_or is j 0))
    member_next h i = ap (λ (m : ℕ). member i (take m is)) (add-one j) ∙ ap (member i) (take-suc is j 0 h) ∙ any_snoc (eqb i) (take j is) (get_or is j 0)

    same_number : (i v : ℕ) → v ≡ earlier rep (get_or rep (or_else (first (reach_numbers n r nums l i)) 0) 0) → v ≡ read_number n r nums l₀ rep i
    unfolding read_number reach_numbers
    same_number i v e = rw R.preds at e

    pub reads_next : (l' : List ℕ) (i v : ℕ) → j < length is → i ≡ get_or is j 0 → i < length read → ReadWeb n r w i nums l l' rep v
        → Reads n r w nums l₀ l' rep (take (j + 1) is) read₀ (set read i v)
    reads_next l' i v h e b W = record {
      swept = W.swept;
      preds = W.preds ∙ R.preds;
      at = λ k. rw (member_next h k, ← e) (go k (eqb k i) refl);
    }
      where
        go : (k : ℕ) (y : Bool) → eqb k i ≡ y → get_or (set read i v) k 0 ≡ cond (member k (take j is) || y) (read_number n r nums l₀ rep k) (get_or read₀ k 0)
        go k true q = let z = eqb-true k i q in rw z (get_or-set_same read i v 0 b ∙ same_number i v W.number ∙ yes (member i (take j is)))
          where
            yes : (c : Bool) → read_number n r nums l₀ rep i ≡ cond (c || true) (read_number n r nums l₀ rep i) (get_or read₀ i 0)
            yes true = refl
            yes false = refl
        go k false q = get_or-set_other read i k v 0 (λ z. eqb-false k i q z) ∙ R.at k ∙ no (member k (take j is))
          where
            no : (c : Bool) → cond c (read_number n r nums l₀ rep k) (get_or read₀ k 0) ≡ cond (c || false) (read_number n r nums l₀ rep k) (get_or read₀ k 0)
            no true = refl
            no false = refl

    pub reads_end : length is ≤ j → Reads n r w nums l₀ l rep is read₀ read
    reads_end h = rw (take_all j is h) at R

-- a line of the list
pub line_in : (n : ℕ) (is : List ℕ) → Below n is → (j i : ℕ) → j < length is → i ≡ get_or is j 0 → i < n
line_in n is B j i h e = rw e (B.at j h)

-- After the sweeps

pub lines_by : (n r w : ℕ) (nums l₀ l₁ l rep rank is own zeros read₀ read : List ℕ) → FamilyReps n r w nums l₀ l₁ rep rank is → length own ≡ n
    → Owned nums rep (length own) own → zeros ≡ zeroed 0 read₀ → Reads n r w nums l₁ l rep is zeros read → LineNumbers n r w nums l₀ l is own read
unfolding read_number reach_numbers
lines_by n r w nums l₀ l₁ l rep rank is own zeros read₀ read F e O z R = record {
  rep = rep;
  reps = F.reps;
  owned = rw e at O;
  at = λ i. R.at i ∙ ap (cond (member i is) _) (ap (λ (o : List ℕ). get_or o i 0) z ∙ replicate_default (length read₀ - 0) i 0) ∙ rw F.preds;
  swept = R.swept;
  preds = R.preds ∙ F.preds;
}

-- With the sweeps

pub lines_from : (n r w : ℕ) (nums l₀ l₁ l is own read : List ℕ) → preds_of n r l₁ ≡ preds_of n r l₀ → LineNumbers n r w nums l₁ l is own read → LineNumbers n r w nums l₀ l is own read
unfolding linked reach_numbers read_number
lines_from n r w nums l₀ l₁ l is own read e M = record {
  rep = M.rep;
  reps = M.reps ∙ rw e;
  owned = M.owned;
  at = λ i. M.at i ∙ rw e;
  swept = M.swept;
  preds = M.preds ∙ e;
}

-- an answer within the budget, and one over it
pub answer_done : (c budget s : ℕ) → answer budget c ≡ Some s → (c ≤ budget) × (s ≡ c)
answer_done c budget s q = go (leb c budget) refl q
  where
    go : (b : Bool) → leb c budget ≡ b → cond b (Some c) None ≡ Some s → (c ≤ budget) × (s ≡ c)
    go true e q = (leb-true c budget e, cc)
    go false e q = let z : ◌≡◌ {A = ℕ} 0 1 = cc in absurd (omega arith)

pub answer_over : (c budget : ℕ) → answer budget c ≡ None → c ≤ budget → ⊥
answer_over c budget q h = go (leb c budget) refl q
  where
    go : (b : Bool) → leb c budget ≡ b → cond b (Some c) None ≡ None → ⊥
    go true e q = let z : ◌≡◌ {A = ℕ} 0 1 = cc in omega arith
    go false e q = let z = leb-false c budget e in omega arith

module _ (n r w budget : ℕ) (nums l₀ l₁ : List ℕ) (a : Option ℕ) (S : Solved n r w nums budget l₀ l₁ a) where
  abbrev count : ℕ
  count = (sweeps (preds_of n r l₀) (defining_lines n nums)).count

  pub solved_count : (s : ℕ) → a ≡ Some s → count ≤ budget
  solved_count s e = (answer_done count budget s (sym S.answers ∙ e)).0

  pub solved_swept : (s : ℕ) → a ≡ Some s → Room n r w l₀ → Numbered n w nums → Agree n r l₀ → length l₁ ≡ length l₀ → Swept n r w nums l₁
  solved_swept s e R N A k = record {
    room = room_same n r w l₀ l₁ k R;
    numbered = N;
    agree = kept_both n r w l₀ l₁ R.wide S.kept A;
    holds = rw (kept_preds n r w l₀ l₁ R.wide S.kept) (S.holds (solved_count s e));
  }

  pub solved_done : (s : ℕ) → a ≡ Some s → n + 64 ≤ r * 64 → (is l own read : List ℕ) → LineNumbers n r w nums l₁ l is own read → SolvedLines n r w nums budget l₀ l is own read (Some s)
  solved_done s e k is l own read M = record {
    answers = sym e ∙ S.answers;
    done = λ h. lines_from n r w nums l₀ l₁ l is own read (kept_preds n r w l₀ l₁ k S.kept) M;
  }

  pub solved_over : a ≡ None → (is l own read : List ℕ) → SolvedLines n r w nums budget l₀ l is own read None
  solved_over e is l own read = record {
    answers = sym e ∙ S.answers;
    done = λ h. absurd (answer_over count budget (sym S.answers ∙ e) h);
  }

-- `family_lines`

module _ (n c f : ℕ) (ds nums : List ℕ) (C : Counted n ds f nums c) (few : n ≤ 1024) (m : Layout) (e : (m.n ≡ n) × (m.r ≡ row_words n) × (m.w ≡ c / 64 + 1)) where
  pub family_numbered : Numbered m.n m.w nums
  family_numbered = rw (e.0, e.2) (C.numbered (c / 64 + 1) (omega arith))

  pub family_room : (l₀ : List ℕ) → space_words n ≤ length l₀ → Agree n (row_words n) l₀ → Fits m.n m.r m.w l₀ × Agree m.n m.r l₀
  family_room l₀ h A = (room n c m l₀ e few C.below h, rw (e.0, e.1) A)

  module _ (budget : ℕ) (l₀ l₁ : List ℕ) (a : Option ℕ) (S : Solved m.n m.r m.w nums budget l₀ l₁ a) (s : ℕ) (q : a ≡ Some s) where
    pub family_swept : space_words n ≤ length l₀ → Agree n (row_words n) l₀ → length l₁ ≡ length l₀ → (is : List ℕ) → Below n is
        → Swept m.n m.r m.w nums l₁ × ((j : ℕ) → j < length is → get_or is j 0 < m.n)
    family_swept h A z is B =
        let r = family_room l₀ h A in
        (solved_swept m.n m.r m.w budget nums l₀ l₁ a S s q (room_by m l₀ r.0) family_numbered r.1 z, λ j b. rw e.0 (B.at j b))

    pub family_by : (k : ℕ) (l₂ l rep rank is own xs zeros read₀ read ys : List ℕ) → f ≡ k + 1 → FamilyReps m.n m.r m.w nums l₁ l₂ rep rank is → length own ≡ n
        → Owned nums rep (length own) own → zeros ≡ zeroed 0 read₀ → length read ≡ n → Reads m.n m.r m.w nums l₂ l rep is zeros read
        → FamilyLines n (row_words n) k ds budget l₀ l is (take n (own ++ xs)) (take n (read ++ ys)) (Some s)
    family_by k l₂ l rep rank is own xs zeros read₀ read ys ek F x O z y R = rw (front own xs x, front read ys y) (record {
      nums = nums;
      w = m.w;
      numbered = rw e.0 at family_numbered;
      lines = C.lines ∙ rw ek;
      solved = rw (e.0, e.1) at (solved_done m.n m.r m.w budget nums l₀ l₁ a S s q m.wide is l own read
          (lines_by m.n m.r m.w nums l₁ l₂ l rep rank is own zeros read₀ read F (x ∙ sym e.0) O z R));
    })
      where
        front : (zs ts : List ℕ) → length zs ≡ n → take n (zs ++ ts) ≡ zs
        front zs ts v = rw (← v) (take-append_seam zs ts)

pub ruleset line_rules = (line_in, own_start, own_next, own_end, reads_start, reads_next, reads_end, lines_by, solved_swept, solved_done, solved_over)
