-- The stack of open blocks as the code keeps it: what a `}` and a `{` do to it.
--   held_count                   an entry that is not 0 counts an open block
--   stack_test                   the entry is 0 exactly if the stack is empty
--   closing_start, closing_next, closing_fail, closing_end    the loop of `close`
--   entered                      the stack after a line's `{`
-- Assumes nothing.
use Rattle.std.specs.Prelude.{None, Some}
use Prim.Native.Nat.{ℕ, zero, suc, ◌+◌, ◌-◌, ◌<◌, ◌≤◌}
use mathlib.Core.Path.{◌≡◌, refl, sym, ap, ◌∙◌, subst}
use mathlib.Core.Logic.{◌⊎◌, inl, inr}
use mathlib.Core.Bool.{Bool, true, false, cond, ◌||◌, or_self_left}
use mathlib.Core.List.{List, [], ◌∷◌, ◌++◌}
use native.Mathlib.Numerals.{add-one}
use native.Mathlib.Decide.{ℕ_discrete}
use native.Mathlib.Omega.{arith}
use borrow.Author.Tests.{eq-eqb, ne_eqb, lt-ltb}
use lib.Dec.{eqb, ltb}
use lib.ListN.{length, get_or, set, replicate, length-append, length-set, get_or-append}
use lib.Seq.{get_or-set_same, get_or-set_other, get_or_at}
use Rattle.definitions.specs.Lists.{any, member, ◌≟◌}
use Rattle.definitions.specs.Blocks.{Open, close, enter}
use Rattle.blocks.specs.Entries.{place, linked}
use Rattle.blocks.specs.Stack.{Stack, bottom, upon, Held, Closing}
use Rattle.blocks.proofs.Links.{get_set, linked_set}

-- Stacks

module _ (ps cs : List ℕ) where
  stack_some : (h : ℕ) (s : List ℕ) → Stack ps cs (suc h) s
      → (k : ℕ) × (r : List ℕ) × (get_or cs h 0 ≡ suc k) × (s ≡ h ∷ (replicate k h ++ r)) × Stack ps cs (get_or ps h 0) r
  stack_some h s (upon _ k r e st) = (k, r, e, refl, st)

  stack_none : (s : List ℕ) → Stack ps cs 0 s → s ≡ []
  stack_none s bottom = refl

  pub stack_test : (p : ℕ) (s : List ℕ) → Stack ps cs p s → eqb p 0 ≡ (s ≟ [])
  unfolding ◌≟◌
  stack_test p s bottom = refl
  stack_test p s (upon h k r e st) = ne_eqb (suc h) 0 (λ q. omega arith)

  -- columns that agree on the lines below the entry hold the same stack
  stack_frame : (qs ds : List ℕ) (p : ℕ) (s : List ℕ) → Stack ps cs p s
      → ((j : ℕ) → j < p → get_or ps j 0 ≤ j) → ((j : ℕ) → j < p → get_or qs j 0 ≡ get_or ps j 0) → ((j : ℕ) → j < p → get_or ds j 0 ≡ get_or cs j 0)
      → Stack qs ds p s
  stack_frame qs ds p s bottom low same same' = bottom
  stack_frame qs ds p s (upon h k r e st) low same same' =
      let b = low h (omega arith) in
      upon h k r (same' h (omega arith) ∙ e)
      (subst (λ (q : ℕ). Stack qs ds q r) (sym (same h (omega arith)))
      (stack_frame qs ds (get_or ps h 0) r st (λ j g. low j (omega arith)) (λ j g. same j (omega arith)) (λ j g. same' j (omega arith))))

-- Members

member_again : (x h k : ℕ) (s : List ℕ) → member x (h ∷ (replicate k h ++ s)) ≡ (eqb x h || member x s)
unfolding any
member_again x h zero s = refl
member_again x h (suc k) s = ap (eqb x h ||◌) (member_again x h k s) ∙ or_self_left (eqb x h) (member x s)

-- the openers that are walked are those on the stack
stack_members : (ps cs : List ℕ) (p : ℕ) (s : List ℕ) → Stack ps cs p s → (k : ℕ) → p ≤ k → ((j : ℕ) → j < p → get_or ps j 0 ≤ j)
    → (x : ℕ) → member x (linked ps k p) ≡ member x s
unfolding linked any
stack_members ps cs p s bottom zero g low x = refl
stack_members ps cs p s bottom (suc k) g low x = refl
stack_members ps cs p s (upon h k r e st) zero g low x = absurd (omega arith)
stack_members ps cs p s (upon h k r e st) (suc m) g low x =
    let b = low h (omega arith) in
    ap (eqb x h ||◌) (stack_members ps cs (get_or ps h 0) r st m (omega arith) (λ j q. low j (omega arith)) x)
    ∙ sym (member_again x h k r)

-- A block closes

module _ (es ps cs : List ℕ) (p i : ℕ) (o : Open) (H : Held es ps cs p i o) where
  pub held_count : (p ≡ 0 → ⊥) → 0 < get_or cs (p - 1) 0
  held_count q =
      let e : p ≡ suc (p - 1) = omega arith in
      let r = stack_some ps cs (p - 1) o.stack (subst (λ (x : ℕ). Stack ps cs x o.stack) e H.stack) in
      omega (arith, r.2)

  held_fail : (k : ℕ) → p ≡ 0 → 0 < k → close i k o ≡ None
  unfolding close
  held_fail zero q g = absurd (omega arith)
  held_fail (suc k) q g =
      ap (λ (s : List ℕ). close i (suc k) (record { stack = s; ends = o.ends; enclosing = o.enclosing }))
      (stack_none ps cs o.stack (subst (λ (x : ℕ). Stack ps cs x o.stack) q H.stack))

module _ (es ps cs : List ℕ) (h i : ℕ) (o : Open) (H : Held es ps cs (suc h) i o) where
  popped : Open
  popped =
      let r = stack_some ps cs h o.stack H.stack in
      record { stack = replicate r.0 h ++ r.1; ends = set o.ends h (Some i); enclosing = o.enclosing }

  popped_close : (k : ℕ) → close i (suc k) o ≡ close i k popped
  unfolding close popped
  popped_close k =
      ap (λ (s : List ℕ). close i (suc k) (record { stack = s; ends = o.ends; enclosing = o.enclosing }))
      (stack_some ps cs h o.stack H.stack).3

  popped_size : length popped.ends ≡ length o.ends
  unfolding popped
  popped_size = length-set o.ends h (Some i)

  module _ (he : i < length es) (hc : i < length cs) (ho : i < length o.ends) where
    cs' : List ℕ
    cs' = set cs h (get_or cs h 0 - 1)

    low : h < i
    low = omega (arith, H.below)

    popped_stack : Stack ps cs' (cond (eqb (get_or cs h 0) 1) (get_or ps h 0) (h + 1)) popped.stack
    unfolding popped cs'
    popped_stack = go r.0 r.2
      where
        r : (k : ℕ) × (s : List ℕ) × (get_or cs h 0 ≡ suc k) × (o.stack ≡ h ∷ (replicate k h ++ s)) × Stack ps cs (get_or ps h 0) s
        r = stack_some ps cs h o.stack H.stack

        inner : Stack ps (set cs h (get_or cs h 0 - 1)) (get_or ps h 0) r.1
        inner = stack_frame ps cs ps (set cs h (get_or cs h 0 - 1)) (get_or ps h 0) r.1 r.4
            (λ j g. H.inward j (omega (arith, H.inward h low, low))) (λ j g. refl)
            (λ j g. get_or-set_other cs h j (get_or cs h 0 - 1) 0 (λ q. omega (arith, H.inward h low)))

        go : (k : ℕ) → get_or cs h 0 ≡ suc k → Stack ps (set cs h (get_or cs h 0 - 1)) (cond (eqb (get_or cs h 0) 1) (get_or ps h 0) (h + 1)) (replicate k h ++ r.1)
        go zero e = rw (eq-eqb (get_or cs h 0) 1 e) inner
        go (suc k) e =
            rw (ne_eqb (get_or cs h 0) 1 (λ q. omega arith), add-one h)
            (upon h k r.1 (get_or-set_same cs h (get_or cs h 0 - 1) 0 (omega (arith, low)) ∙ omega arith) inner)

    popped_held : Held (set es h (i + 1)) ps cs' (cond (eqb (get_or cs h 0) 1) (get_or ps h 0) (h + 1)) i popped
    unfolding popped
    popped_held = record {
      stack = popped_stack;
      below = least (eqb (get_or cs h 0) 1);
      ended = ended;
      later = later;
      unended = λ j g. get_or-set_other o.ends h j (Some i) None (λ q. omega (arith, low)) ∙ H.unended j g;
      inward = H.inward;
      lines = H.lines;
      around = H.around;
    }
      where
        least : (b : Bool) → cond b (get_or ps h 0) (h + 1) ≤ i
        least true = omega (arith, H.inward h low, low)
        least false = omega (arith, low)

        ended : (j : ℕ) → j < i → place (get_or (set es h (i + 1)) j 0) ≡ get_or (set o.ends h (Some i)) j None
        ended j g = go (ℕ_discrete j h)
          where
            go : Dec (j ≡ h) → place (get_or (set es h (i + 1)) j 0) ≡ get_or (set o.ends h (Some i)) j None
            go (yes e) = rw (e, get_or-set_same es h (i + 1) 0 (omega (arith, low)), add-one i) (sym (get_or-set_same o.ends h (Some i) None (omega (arith, low))))
            go (no e) = rw (get_or-set_other es h j (i + 1) 0 e) (H.ended j g ∙ sym (get_or-set_other o.ends h j (Some i) None e))

        later : (j : ℕ) → j < i → (get_or (set es h (i + 1)) j 0 ≡ 0) ⊎ ((j + 1 < get_or (set es h (i + 1)) j 0) × (get_or (set es h (i + 1)) j 0 ≤ length (set o.ends h (Some i))))
        later j g = rw (length-set o.ends h (Some i))
            (get_set es h j (i + 1) (omega (arith, low)) (λ v. (v ≡ 0) ⊎ ((j + 1 < v) × (v ≤ length o.ends)))
            (λ q. inr (omega arith, omega arith)) (λ q. H.later j g))

module _ (i m : ℕ) (o : Open) (es ps cs : List ℕ) (p : ℕ) where
  pub closing_start : (k : ℕ) → k ≡ m → Held es ps cs p i o → Closing i m k o es ps cs p
  closing_start k e H = record { now = o; left = rw e; size = refl; held = H }

  module _ (k : ℕ) (C : Closing i m k o es ps cs p) where
    pub closing_fail : 0 < k → p ≡ 0 → close i m o ≡ None
    closing_fail g q = C.left ∙ held_fail es ps cs p i C.now C.held k q g

    pub closing_end : k ≤ 0 → Closing i m 0 o es ps cs p
    closing_end g = let e : k ≡ 0 = omega arith in record { now = C.now; left = rw (← e) C.left; size = C.size; held = C.held }

    pub closing_next : 0 < k → (p ≡ 0 → ⊥) → i < length es → i < length cs → i < length o.ends
        → (ds : List ℕ) (q : ℕ) → ds ≡ set cs (p - 1) (get_or cs (p - 1) 0 - 1) → q ≡ cond (eqb (get_or cs (p - 1) 0) 1) (get_or ps (p - 1) 0) (p - 1 + 1)
        → Closing i m (k - 1) o (set es (p - 1) (i + 1)) ps ds q
    unfolding cs'
    closing_next g z he hc ho ds q ed eq =
        let h = p - 1 in
        let H : Held es ps cs (suc h) i C.now = subst (λ (x : ℕ). Held es ps cs x i C.now) (omega arith) C.held in
        let hn : i < length C.now.ends = omega (arith, C.size) in
        rw (ed, eq) (record {
          now = popped es ps cs h i C.now H;
          left = C.left ∙ ap (λ (x : ℕ). close i x C.now) (omega arith) ∙ popped_close es ps cs h i C.now H (k - 1);
          size = popped_size es ps cs h i C.now H ∙ C.size;
          held = popped_held es ps cs h i C.now H he hc hn;
        })

-- A line opens blocks

module _ (es ps cs : List ℕ) (p i k : ℕ) (o : Open) (H : Held es ps cs p i o) (he : i < length es) (hp : i < length ps) (hc : i < length cs) where
  entered_stack : Stack (set ps i p) (set cs i k) (cond (ltb 0 k) (i + 1) p) (replicate k i ++ o.stack)
  entered_stack = go k refl
    where
      outer : Stack (set ps i p) (set cs i k) p o.stack
      outer = stack_frame ps cs (set ps i p) (set cs i k) p o.stack H.stack (λ j g. H.inward j (omega (arith, H.below)))
          (λ j g. get_or-set_other ps i j p 0 (λ q. omega (arith, H.below))) (λ j g. get_or-set_other cs i j k 0 (λ q. omega (arith, H.below)))

      go : (m : ℕ) → k ≡ m → Stack (set ps i p) (set cs i k) (cond (ltb 0 m) (i + 1) p) (replicate m i ++ o.stack)
      go zero e = outer
      go (suc m) e =
          rw (lt-ltb 0 (suc m) (omega arith), add-one i)
          (upon i m o.stack (get_or-set_same cs i k 0 hc ∙ e) (subst (λ (q : ℕ). Stack (set ps i p) (set cs i k) q o.stack) (sym (get_or-set_same ps i p 0 hp)) outer))

  pub entered : Held (set es i 0) (set ps i p) (set cs i k) (cond (ltb 0 k) (i + 1) p) (i + 1) (enter i k o)
  entered = record {
    stack = entered_stack;
    below = least (ltb 0 k);
    ended = λ j g. get_set es i j 0 he (λ v. place v ≡ get_or o.ends j None) (λ q. sym (H.unended j (omega arith))) (λ q. H.ended j (omega arith));
    later = λ j g. get_set es i j 0 he (λ v. (v ≡ 0) ⊎ ((j + 1 < v) × (v ≤ length o.ends))) (λ q. inl refl) (λ q. H.later j (omega arith));
    unended = λ j g. H.unended j (omega arith);
    inward = λ j g. get_set ps i j p hp (λ v. v ≤ j) (λ q. omega (arith, H.below)) (λ q. H.inward j (omega arith));
    lines = rw length-append (omega (arith, H.lines));
    around = around;
  }
    where
      least : (b : Bool) → cond b (i + 1) p ≤ i + 1
      least true = omega arith
      least false = omega (arith, H.below)

      around : (j h : ℕ) → j < i + 1 → member h (linked (set ps i p) j (get_or (set ps i p) j 0)) ≡ member h (get_or (o.enclosing ++ (o.stack ∷ [])) j [])
      around j h g = go (ℕ_discrete j i)
        where
          go : Dec (j ≡ i) → member h (linked (set ps i p) j (get_or (set ps i p) j 0)) ≡ member h (get_or (o.enclosing ++ (o.stack ∷ [])) j [])
          go (yes e) =
              rw (e, get_or-set_same ps i p 0 hp, linked_set ps i p i p H.below (λ x q. H.inward x (omega (arith, H.below))))
              (stack_members ps cs p o.stack H.stack i H.below (λ x q. H.inward x (omega (arith, H.below))) h
              ∙ ap (member h) (sym (get_or_at o.enclosing o.stack [] [] i H.lines)))
          go (no e) =
              let l : j < i = omega arith in
              let b = H.inward j l in
              rw (get_or-set_other ps i j p 0 e, linked_set ps i p j (get_or ps j 0) (omega arith) (λ x q. H.inward x (omega arith)), get_or-append o.enclosing (o.stack ∷ []) [] j (omega (arith, H.lines)))
              (H.around j h l)
