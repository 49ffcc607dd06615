-- `to_for` of the lines that a plan stands for, by the plan's words.
--   ends_render                  the end of a block, by the words
--   place_take                   the words behind the first n take no part
--   place_facts                  an initialiser stands before the header and is no header, and the body is not empty
--   to_for_top, to_for_open, to_for_none, to_for_made    `to_for` by the code's answers
--   for_ready                    a plan stays ready where a for header is made
-- Assumes nothing.
use Rattle.std.specs.Prelude.{None, Some}
use Prim.Native.Nat.{ℕ, zero, suc, ◌+◌, ◌-◌, ◌/◌, ◌%◌, ◌≤◌, ◌<◌}
use mathlib.Core.Path.{◌≡◌, refl, sym, ap, ap₂, subst, ◌∙◌}
use mathlib.Core.List.{List}
use mathlib.Core.Bool.{Bool, true, false, ◌&&◌, cond, not}
use native.Mathlib.Nat.{sub-zero, zero-add}
use native.Mathlib.Omega.{arith}
use borrow.Author.Tests.{eqb-true, eqb-false, eq-eqb, leb-true, le-ltb}
use lib.Dec.{eqb, leb}
use lib.ListN.{length, take, drop, get_or, set}
use lib.Seq.{get_or-take, drop-set-lt}
use Rattle.definitions.specs.Lists.{◌>>=◌, any, all, part, position_from, remove, ◌≟◌, ascii}
use Rattle.definitions.specs.Model.{Token, Line, no_token, pseudo_line, token, line, text}
use Rattle.definitions.specs.Columns.{listing}
use Rattle.definitions.specs.Family.{fam_of}
use Rattle.definitions.specs.Condition.{condition}
use Rattle.definitions.specs.ToFor.{for_head, for_loop, to_for}
use Rattle.text.proofs.Parts.{part_part}
use Rattle.family.specs.Register.{names_family}
use Rattle.loop_theory.proofs.Cases.{and_split, if_has, none_some, some_same, IfSome}
use Rattle.loop_theory.proofs.Places.{position_from_inside}
use Rattle.plan.specs.Plan.{Test.guard, test_tokens, piece_of, indent_at, header_at, piece_at, initialiser_at, step_at, line_of, render}
use Rattle.plan.specs.Changes.{is_plain, for_word, with_for}
use Rattle.plan.specs.Source.{Source}
use Rattle.plan.specs.ForLoop.{inits, passes, init_from, ends, has_continue, closed_body, steps_body, counts_body, for_tests, for_made}
use Rattle.plan.proofs.Maps.{map_part, map_remove, map_set, map_any, map_position_from}
use Rattle.plan.proofs.Rendered.{line_render, indent_line, guard_header, guard_line, for_parts as for_word_parts, for_line}
use Rattle.plan.proofs.ForLoops.{for_none, for_parts, whole, condition_whole, or_whole, while_condition}
use Rattle.loops.specs.Words.{source_line, is_kept, Ready, ends_word, continue_word, closed_words, steps_words, counts_words, at_indent, init_words, place_words}
use Rattle.loops.proofs.Lists.{all_at, all_remove, all_set, position_same, any_part_same}
use Rattle.loops.proofs.Lines.{plain_form, kept_parts, kept_reads, plain_reads, guard_test, label_same, kw_same, inits_same, passes_same, header_inits, header_passes}

-- The first n words

part_take : {A : Type 0} (a e n : ℕ) (ws : List A) → e ≤ n → part a e (take n ws) ≡ part a e ws
part_take a e n ws h = ap (λ m. part a e (take m ws)) (sym (sub-zero n)) ∙ (part_part ws a e 0 n (rw zero-add h) ∙ rw (zero-add a, zero-add e))

init_take : (C : List Line) (p : Token → Bool) (ws : List ℕ) (ind n m k : ℕ) → k ≤ m → init_words C p (take m ws) ind n k ≡ init_words C p ws ind n k
unfolding init_words
init_take C p ws ind zero m k h = refl
init_take C p ws ind (suc n) m zero h = refl
init_take C p ws ind (suc n) m (suc k) h = rw (get_or-take m ws k 0 (omega arith), init_take C p ws ind n m k (omega arith))

pub place_take : (C : List Line) (ws : List ℕ) (n w e : ℕ) → w < n → e < n → place_words C (take n ws) w e ≡ place_words C ws w e
unfolding place_words closed_words steps_words counts_words
place_take C ws n w e hw he =
    rw (
      get_or-take n ws w 0 hw,
      get_or-take n ws e 0 he,
      get_or-take n ws (e - 1) 0 (omega arith),
      part_take (w + 1) e n ws (omega arith),
      init_take C (names_family (fam_of (token (source_line C (get_or ws (e - 1) 0)) 0))) ws (indent_at (get_or ws w 0)) 4 n w (omega arith),
    )

-- What a found place says

init_facts : (C : List Line) (p : Token → Bool) (ws : List ℕ) (ind n k : ℕ) → IfSome (λ j. (j < k) × (header_at (get_or ws j 0) ≡ 0)) (init_words C p ws ind n k)
unfolding init_words
init_facts C p ws ind zero k = λ j e. none_some e
init_facts C p ws ind (suc n) zero = λ j e. none_some e
init_facts C p ws ind (suc n) (suc k) =
    let Q : ℕ → Type 0 = λ j. (j < suc k) × (header_at (get_or ws j 0) ≡ 0) in
    let w = get_or ws k 0 in
    let earlier = init_facts C p ws ind n k in
    if_has (IfSome Q) (at_indent ind w && inits p (source_line C w))
    (λ here j e. subst Q (some_same e) (omega arith, eqb-true (header_at w) 0 (and_split (eqb (indent_at w) ind) (eqb (header_at w) 0) (and_split (at_indent ind w) (inits p (source_line C w)) here).0).1))
    (λ _. if_has (IfSome Q) (at_indent ind w && passes p (source_line C w)) (λ _ j e. let r = earlier j e in (omega (arith, r.0), r.1)) (λ _ j e. none_some e))

module _ (C : List Line) (ws : List ℕ) (w e k : ℕ) (f : Some k ≡ place_words C ws w e) where
  pub place_facts : (k < w) × (header_at (get_or ws k 0) ≡ 0) × (w + 2 ≤ e)
  unfolding place_words closed_words
  place_facts =
      if_has (IfSome (λ k. (k < w) × (header_at (get_or ws k 0) ≡ 0) × (w + 2 ≤ e))) (closed_words C ws w e && (steps_words C h z && counts_words C ws w e p))
      (λ passed j g. let r = init_facts C p ws (indent_at h) 4 w j g in (r.0, r.1, far passed)) (λ _ j g. none_some g) k (sym f)
    where
      h : ℕ
      h = get_or ws w 0

      z : ℕ
      z = get_or ws (e - 1) 0

      p : Token → Bool
      p = names_family (fam_of (token (source_line C z) 0))

      far : (closed_words C ws w e && (steps_words C h z && counts_words C ws w e p)) ≡ true → w + 2 ≤ e
      far passed =
          leb-true (w + 2) e
          (and_split (leb (w + 2) e) (eqb (indent_at (get_or ws e 0)) (indent_at (get_or ws w 0)))
          (and_split (leb (w + 2) e && eqb (indent_at (get_or ws e 0)) (indent_at (get_or ws w 0))) (text (source_line C (get_or ws e 0)).tokens ≟ ascii "}")
          (and_split (closed_words C ws w e) (steps_words C h z && counts_words C ws w e p) passed).0).0).0

-- The lines of the words

module _ (S : List Line) (l t x : List ℕ) (R : Source S l t x) where
  abbrev C : List Line
  C = listing l t x

  ends_same : (ind w : ℕ) → is_kept w ≡ true → ends ind (line_of S w) ≡ ends_word C ind w
  unfolding ends_word
  ends_same ind w k =
      ap₂ (λ i b. leb i ind && not b) (indent_line S w) (label_same (line_of S w) (source_line C w) (kept_reads S l t x R w k))

  continue_same : (w : ℕ) → is_kept w ≡ true → has_continue (line_of S w) ≡ continue_word C w
  unfolding continue_word
  continue_same w k = kw_same (line_of S w) (source_line C w) (kept_reads S l t x R w k) (ascii "continue")

  -- at its indent, by whether it is a header
  module _ (f : Line → Bool) (ind w : ℕ) (header : (header_at w ≡ 0 → ⊥) → f (line_of S w) ≡ false)
      (other : (line_of S w).tokens ≡ (source_line C w).tokens → f (line_of S w) ≡ f (source_line C w)) where
    at_same : is_plain w ≡ true → (eqb (line_of S w).indent ind && f (line_of S w)) ≡ (at_indent ind w && f (source_line C w))
    at_same k = ap (λ i. eqb i ind && f (line_of S w)) (indent_line S w) ∙ go (eqb (header_at w) 0) refl
      where
        go : (b : Bool) → eqb (header_at w) 0 ≡ b → (eqb (indent_at w) ind && f (line_of S w)) ≡ (at_indent ind w && f (source_line C w))
        go true e = rw (e, other (plain_reads S l t x R w (eqb-true (header_at w) 0 e) k)) (swap (eqb (indent_at w) ind))
          where
            swap : (b : Bool) → (b && f (source_line C w)) ≡ ((b && true) && f (source_line C w))
            swap true = refl
            swap false = refl
        go false e = rw (e, header (eqb-false (header_at w) 0 e)) (swap (eqb (indent_at w) ind))
          where
            swap : (b : Bool) → (b && false) ≡ ((b && false) && f (source_line C w))
            swap true = refl
            swap false = refl

  module _ (ws : List ℕ) where
    pub ends_render : (a ind : ℕ) → all is_kept (drop a ws) ≡ true → position_from a (ends ind) (render S ws) ≡ position_from a (ends_word C ind) ws
    ends_render a ind h =
        map_position_from (line_of S) a (ends ind) ws
        ∙ position_same is_kept (λ w. ends ind (line_of S w)) (ends_word C ind) (ends_same ind) a ws h

    init_render : (p : Token → Bool) (ind n k : ℕ) → k ≤ length ws → all is_plain ws ≡ true
        → init_from p (render S ws) ind n k ≡ init_words C p ws ind n k
    unfolding init_from init_words
    init_render p ind zero k h a = refl
    init_render p ind (suc n) zero h a = refl
    init_render p ind (suc n) (suc k) h a =
        let w = get_or ws k 0 in
        let v : is_plain w ≡ true = all_at is_plain 0 0 k ws a (omega arith) (omega arith) in
        rw (
          line_render S ws k (let z : k < length ws = omega arith in z),
          at_same (inits p) ind w (λ n. header_inits S w n p) (λ e. inits_same (line_of S w) (source_line C w) e p) v,
          at_same (passes p) ind w (λ n. header_passes S w n p) (λ e. passes_same (line_of S w) (source_line C w) e p) v,
          init_render p ind n k (omega arith) a,
        )

    module _ (w : ℕ) (h : header_at (get_or ws w 0) ≡ 1) (hw : w < length ws) (ready : Ready (w + 1) ws) where
      abbrev c : List Token
      c = test_tokens S (piece_of (piece_at (get_or ws w 0))) guard

      abbrev L : List Line
      L = render S ws

      -- the header's condition
      header_plain : is_plain (get_or ws w 0) ≡ true
      header_plain = all_at is_plain 0 0 w ws ready.plain (omega arith) hw

      header_condition : condition (line L w) (ascii "while") ≡ Some c
      header_condition =
          ap (λ m. condition m (ascii "while")) (line_render S ws w hw ∙ guard_line (get_or ws w 0) h S)
          ∙ while_condition _ _ c
          (subst whole (sym (guard_test S l t x R (get_or ws w 0) header_plain)) (or_whole _ (condition_whole (source_line C (get_or ws w 0)) (ascii "if"))))

      header_indent : (line L w).indent ≡ indent_at (get_or ws w 0)
      header_indent = ap (λ m. m.indent) (line_render S ws w hw) ∙ indent_line S (get_or ws w 0)

      module _ (e : ℕ) (we : w + 1 ≤ e) (el : e < length ws) where
        kept_line_tokens : (j : ℕ) → w + 1 ≤ j → j < length ws → (line L j).tokens ≡ (source_line C (get_or ws j 0)).tokens
        kept_line_tokens j a b =
            ap (λ m. m.tokens) (line_render S ws j b)
            ∙ kept_reads S l t x R (get_or ws j 0) (all_at is_kept 0 (w + 1) j ws ready.kept a b)

        line_indent : (j : ℕ) → j < length ws → (line L j).indent ≡ indent_at (get_or ws j 0)
        line_indent j b = ap (λ m. m.indent) (line_render S ws j b) ∙ indent_line S (get_or ws j 0)

        closed_render : closed_body L w e ≡ closed_words C ws w e
        unfolding closed_words
        closed_render = rw (line_indent e el, header_indent, kept_line_tokens e we el)

        steps_render : w + 2 ≤ e → steps_body L w e ≡ steps_words C (get_or ws w 0) (get_or ws (e - 1) 0)
        unfolding steps_words
        steps_render f = rw (line_indent (e - 1) (omega arith), header_indent, kept_line_tokens (e - 1) (omega arith) (omega arith))

        counts_render : (p : Token → Bool) → counts_body L w e c p ≡ counts_words C ws w e p
        unfolding counts_words
        counts_render p =
            ap₂ (λ a b. any p a && not b) (guard_test S l t x R (get_or ws w 0) header_plain)
            (ap (any has_continue) (sym (map_part (line_of S) (w + 1) e ws))
            ∙ (map_any (line_of S) has_continue (part (w + 1) e ws)
            ∙ any_part_same is_kept (λ v. has_continue (line_of S v)) (continue_word C) continue_same (w + 1) e ws ready.kept))

        place_render : (let p = names_family (fam_of (token (line L (e - 1)) 0)) in
            cond (for_tests L w e c p) (init_from p L (line L w).indent 4 w) None) ≡ place_words C ws w e
        unfolding place_words
        place_render = go (closed_words C ws w e) refl
          where
            z : ℕ
            z = get_or ws (e - 1) 0

            p : Token → Bool
            p = names_family (fam_of (token (source_line C z) 0))

            go : (b : Bool) → closed_words C ws w e ≡ b → (let p = names_family (fam_of (token (line L (e - 1)) 0)) in
                cond (for_tests L w e c p) (init_from p L (line L w).indent 4 w) None) ≡ place_words C ws w e
            go false q = rw (closed_render, q)
            go true q =
                let f : w + 2 ≤ e = leb-true (w + 2) e
                (and_split (leb (w + 2) e) (eqb (indent_at (get_or ws e 0)) (indent_at (get_or ws w 0)))
                (and_split (leb (w + 2) e && eqb (indent_at (get_or ws e 0)) (indent_at (get_or ws w 0))) (text (source_line C (get_or ws e 0)).tokens ≟ ascii "}") (unfold closed_words in q)).0).0 in
                let u : fam_of (token (line L (e - 1)) 0) ≡ fam_of (token (source_line C z) 0) =
                ap (λ ts. fam_of (get_or ts 0 no_token)) (kept_line_tokens (e - 1) (omega arith) (omega arith)) in
                ap (λ o. cond (for_tests L w e c (names_family o)) (init_from (names_family o) L (line L w).indent 4 w) None) u
                ∙ (ap₂ (λ b i. cond (closed_body L w e && (b && counts_body L w e c p)) (init_from p L i 4 w) None) (steps_render f) header_indent
                ∙ (ap₂ (λ a b. cond (a && (steps_words C (get_or ws w 0) z && b)) (init_from p L (indent_at (get_or ws w 0)) 4 w) None) closed_render (counts_render p)
                ∙ ap (λ o. cond (closed_words C ws w e && (steps_words C (get_or ws w 0) z && counts_words C ws w e p)) o None)
                (init_render p (indent_at (get_or ws w 0)) 4 w (omega arith) ready.plain)))

      -- `to_for` by the code's answers

      pub to_for_top : w ≡ 0 → render S ws ≡ to_for (render S ws) w
      unfolding to_for for_loop
      to_for_top q = rw (le-ltb 0 w (omega arith))

      module _ (top : w ≡ 0 → ⊥) where
        pub to_for_open : None ≡ position_from (w + 1) (ends_word C (indent_at (get_or ws w 0))) ws → render S ws ≡ to_for (render S ws) w
        unfolding to_for
        to_for_open f =
            rw (for_none L w c (omega arith) header_condition
            (ap (λ i. position_from (w + 1) (ends i) L) header_indent ∙ (ends_render (w + 1) (indent_at (get_or ws w 0)) ready.kept ∙ sym f)))

        module _ (e : ℕ) (f : Some e ≡ position_from (w + 1) (ends_word C (indent_at (get_or ws w 0))) ws) where
          inside : (w + 1 ≤ e) × (e < length ws)
          inside = position_from_inside (ends_word C (indent_at (get_or ws w 0))) (w + 1) ws e (sym f)

          placed : for_loop L w ≡ (place_words C ws w e >>= λ k. Some (for_made L w e k c))
          placed =
              for_parts L w c (omega arith) header_condition e
              (ap (λ i. position_from (w + 1) (ends i) L) header_indent ∙ (ends_render (w + 1) (indent_at (get_or ws w 0)) ready.kept ∙ sym f))
              ∙ ap (◌>>= λ k. Some (for_made L w e k c)) (place_render e inside.0 inside.1)

          pub to_for_none : None ≡ place_words C ws w e → render S ws ≡ to_for (render S ws) w
          unfolding to_for
          to_for_none g = rw (placed, ← g)

          pub to_for_made : (k : ℕ) → Some k ≡ place_words C ws w e → render S (with_for ws w e k) ≡ to_for (render S ws) w
          unfolding to_for with_for
          to_for_made k g =
              let r = place_facts C ws w e k g in
              let v = get_or ws w 0 in
              let a = get_or ws k 0 in
              let z = get_or ws (e - 1) 0 in
              let word = for_word v a z in
              let i = inside in
              let Kept_step = kept_parts z (all_at is_kept 0 (w + 1) (e - 1) ws ready.kept (omega arith) (omega arith)) in
              let hk : k < length ws = omega arith in
              let hz : e - 1 < length ws = omega arith in
              let header : pseudo_line (line L w).address (line L w).indent (for_head (line L k).tokens c (line L (e - 1)).tokens) ≡ line_of S word =
              rw (line_render S ws w hw, line_render S ws k hk, line_render S ws (e - 1) hz) (sym (for_line v a z guard (guard_header v h) S r.1 Kept_step.0)) in
              let made : for_made L w e k c ≡ render S (with_for ws w e k) =
              ap (remove k)
              (ap₂ (λ xs y. set xs w y) (sym (map_remove (line_of S) (e - 1) ws)) header ∙ sym (map_set (line_of S) w word (remove (e - 1) ws)))
              ∙ sym (map_remove (line_of S) k (set (remove (e - 1) ws) w word)) in
              sym (rw (placed, ← g) made)

-- a for header over a plain guard, with plain pieces
plain_for : (v a z : ℕ) → header_at v ≡ 1 → piece_at v % 4 ≡ 0 → piece_at a % 4 ≡ 0 → piece_at z % 4 ≡ 0 → is_plain (for_word v a z) ≡ true
plain_for v a z h p q r =
    let w = for_word v a z in
    let s = for_word_parts v a z in
    let y : header_at w / 2 % 2 ≡ 0 = omega (arith, s.0) in
    rw (
      eq-eqb (piece_at w % 4) 0 (ap (λ k. k % 4) s.1 ∙ p),
      eq-eqb (header_at w / 2 % 2) 0 y,
      eq-eqb (initialiser_at w % 4) 0 (ap (λ k. k % 4) s.2 ∙ q),
      eq-eqb (step_at w % 4) 0 (ap (λ k. k % 4) s.3 ∙ r),
    )

pub for_ready : (ws : List ℕ) (w e k : ℕ) → k < w → w + 2 ≤ e → e < length ws → header_at (get_or ws w 0) ≡ 1 → Ready (w + 1) ws → Ready (w + 1) (with_for ws w e k)
unfolding with_for
for_ready ws w e k kw we el h ready =
    let word = for_word (get_or ws w 0) (get_or ws k 0) (get_or ws (e - 1) 0) in
    let form : (j : ℕ) → j < length ws → piece_at (get_or ws j 0) % 4 ≡ 0 =
    λ j lt. plain_form (get_or ws j 0) (all_at is_plain 0 0 j ws ready.plain (omega arith) lt) in
    let v : is_plain word ≡ true =
    plain_for (get_or ws w 0) (get_or ws k 0) (get_or ws (e - 1) 0) h (form w (omega arith)) (form k (omega arith)) (form (e - 1) (omega arith)) in
    record {
      plain = all_remove is_plain 0 k (set (remove (e - 1) ws) w word) (all_set is_plain 0 w word (remove (e - 1) ws) v (all_remove is_plain 0 (e - 1) ws ready.plain));
      kept = all_remove is_kept (w + 1) k (set (remove (e - 1) ws) w word)
          (rw (drop-set-lt (w + 1) (remove (e - 1) ws) w word (omega arith)) (all_remove is_kept (w + 1) (e - 1) ws ready.kept));
    }
