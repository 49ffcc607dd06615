-- `to_for` of the lines that a plan stands for, by the plan's words.
--   place_take                   the words behind the first n take no part
--   place_facts                  an initialiser stands before the header and is no header, and the body is not empty
--   to_for_top, to_for_open, to_for_none, to_for_made    `to_for` by the code's answers
--   for_ahead                    lines stay ahead where a for header is made
-- Assumes nothing.
use Rattle.std.specs.Prelude.{Option, None, Some}
use Prim.Native.Nat.{ℕ, zero, suc, ◌+◌, ◌-◌, ◌/◌, ◌%◌, ◌≤◌, ◌<◌}
use mathlib.Core.Path.{◌≡◌, refl, sym, ap, ap₂, subst, ◌∙◌}
use mathlib.Core.List.{List}
use mathlib.Core.Bool.{Bool, true, false, ◌&&◌, cond, not, or-true}
use native.Mathlib.Nat.{sub-zero, zero-add}
use native.Mathlib.Omega.{arith}
use borrow.Author.Tests.{eqb-true, eqb-false, leb-true, le-leb, le-ltb}
use lib.Dec.{eqb, leb}
use lib.ListN.{length, take, drop, get_or, set}
use lib.Seq.{get_or-take, drop-set-lt}
use Rattle.definitions.specs.Lists.{◌>>=◌, any, all, part, position_from, remove, ◌≟◌, ascii}
use Rattle.definitions.specs.Model.{Token, Line, no_token, pseudo_line, token, line, text}
use Rattle.definitions.specs.Columns.{listing}
use Rattle.definitions.specs.Family.{Family, fam_of}
use Rattle.definitions.specs.Statements.{merge}
use Rattle.definitions.specs.Condition.{condition}
use Rattle.definitions.specs.ToFor.{for_head, for_loop, to_for}
use Rattle.text.proofs.Parts.{part_part}
use Rattle.family.specs.Register.{names_family}
use Rattle.loop_theory.proofs.Cases.{and_split, if_has, none_some, some_same, IfSome}
use Rattle.loop_theory.proofs.Places.{position_from_inside}
use Rattle.plan.specs.Plan.{indent_at, header_at, line_of, render}
use Rattle.plan.specs.Changes.{is_line, is_goto, Ahead, for_word, with_for}
use Rattle.plan.specs.Source.{Source}
use Rattle.plan.specs.ForLoop.{inits, passes, init_from, ends, has_continue, closed_body, steps_body, counts_body, for_tests, for_made}
use Rattle.plan.proofs.Maps.{map_part, map_remove, map_set, map_any, map_position_from}
use Rattle.plan.proofs.Rendered.{line_render, indent_line, for_parts as for_word_parts, for_line}
use Rattle.plan.proofs.ForLoops.{for_none, for_parts}
use Rattle.loops.specs.Words.{at_indent}
use Rattle.loops.proofs.Lists.{all_at, all_remove, all_set, position_same, any_part_same}
use Rattle.loops.proofs.Lines.{label_same, kw_same, inits_same, passes_same, header_inits, header_passes}
use Rattle.goto_for.specs.Words.{word_line, ends_word, continue_word, head_test, closed_words, steps_words, counts_words, init_words, place_words}
use Rattle.goto_for.proofs.Merged.{for_head_merged, condition_merged}
use Rattle.goto_for.proofs.Named.{names_other, any_merge}
use Rattle.goto_for.proofs.HeadLines.{word_reads, head_kind, head_header, head_line, head_test_same, head_filled}

-- The first n words

part_take : {A : Type 0} (a e n : ℕ) (ws : List A) → e ≤ n → part a e (take n ws) ≡ part a e ws
part_take a e n ws h = ap (λ m. part a e (take m ws)) (sym (sub-zero n)) ∙ (part_part ws a e 0 n (rw zero-add h) ∙ rw (zero-add a, zero-add e))

init_take : (C : List Line) (p : Token → Bool) (ws : List ℕ) (ind n m k : ℕ) → k ≤ m → init_words C p (take m ws) ind n k ≡ init_words C p ws ind n k
unfolding init_words
init_take C p ws ind zero m k h = refl
init_take C p ws ind (suc n) m zero h = refl
init_take C p ws ind (suc n) m (suc k) h = rw (get_or-take m ws k 0 (omega arith), init_take C p ws ind n m k (omega arith))

pub place_take : (C : List Line) (ws : List ℕ) (n w e : ℕ) → w < n → e < n → place_words C (take n ws) w e ≡ place_words C ws w e
unfolding place_words closed_words steps_words counts_words
place_take C ws n w e hw he =
    rw (
      get_or-take n ws w 0 hw,
      get_or-take n ws e 0 he,
      get_or-take n ws (e - 1) 0 (omega arith),
      part_take (w + 1) e n ws (omega arith),
      init_take C (names_family (fam_of (token (word_line C (get_or ws (e - 1) 0)) 0))) ws (indent_at (get_or ws w 0)) 4 n w (omega arith),
    )

-- What a found place says

init_facts : (C : List Line) (p : Token → Bool) (ws : List ℕ) (ind n k : ℕ) → IfSome (λ j. (j < k) × (header_at (get_or ws j 0) ≡ 0)) (init_words C p ws ind n k)
unfolding init_words
init_facts C p ws ind zero k = λ j e. none_some e
init_facts C p ws ind (suc n) zero = λ j e. none_some e
init_facts C p ws ind (suc n) (suc k) =
    let Q : ℕ → Type 0 = λ j. (j < suc k) × (header_at (get_or ws j 0) ≡ 0) in
    let w = get_or ws k 0 in
    let earlier = init_facts C p ws ind n k in
    if_has (IfSome Q) (at_indent ind w && inits p (word_line C w))
    (λ here j e. subst Q (some_same e) (omega arith, eqb-true (header_at w) 0 (and_split (eqb (indent_at w) ind) (eqb (header_at w) 0) (and_split (at_indent ind w) (inits p (word_line C w)) here).0).1))
    (λ _. if_has (IfSome Q) (at_indent ind w && passes p (word_line C w)) (λ _ j e. let r = earlier j e in (omega (arith, r.0), r.1)) (λ _ j e. none_some e))

closed_far : (C : List Line) (ws : List ℕ) (w e : ℕ) → closed_words C ws w e ≡ true → w + 2 ≤ e
unfolding closed_words
closed_far C ws w e q =
    leb-true (w + 2) e
    (and_split (leb (w + 2) e) (eqb (indent_at (get_or ws e 0)) (indent_at (get_or ws w 0)))
    (and_split (leb (w + 2) e && eqb (indent_at (get_or ws e 0)) (indent_at (get_or ws w 0))) (text (word_line C (get_or ws e 0)).tokens ≟ ascii "}") q).0).0

module _ (C : List Line) (ws : List ℕ) (w e k : ℕ) (f : Some k ≡ place_words C ws w e) where
  pub place_facts : (k < w) × (header_at (get_or ws k 0) ≡ 0) × (w + 2 ≤ e)
  unfolding place_words
  place_facts =
      if_has (IfSome (λ k. (k < w) × (header_at (get_or ws k 0) ≡ 0) × (w + 2 ≤ e))) (closed_words C ws w e && (steps_words C h z && counts_words C ws w e p))
      (λ passed j g.
      let r = init_facts C p ws (indent_at h) 4 w j g in
      (r.0, r.1, closed_far C ws w e (and_split (closed_words C ws w e) (steps_words C h z && counts_words C ws w e p) passed).0))
      (λ _ j g. none_some g) k (sym f)
    where
      h : ℕ
      h = get_or ws w 0

      z : ℕ
      z = get_or ws (e - 1) 0

      p : Token → Bool
      p = names_family (fam_of (token (word_line C z) 0))

-- The lines of the words

line_word : (w : ℕ) → is_line w ≡ true → header_at w ≡ 0
line_word w k = eqb-true (header_at w) 0 k

module _ (S : List Line) (l t x : List ℕ) (R : Source S l t x) where
  abbrev C : List Line
  C = listing l t x

  ends_same : (ind w : ℕ) → is_line w ≡ true → ends ind (line_of S w) ≡ ends_word C ind w
  unfolding ends_word
  ends_same ind w k =
      ap₂ (λ i b. leb i ind && not b) (indent_line S w) (label_same (line_of S w) (word_line C w) (word_reads S l t x R w (line_word w k)))

  continue_same : (w : ℕ) → is_line w ≡ true → has_continue (line_of S w) ≡ continue_word C w
  unfolding continue_word
  continue_same w k = kw_same (line_of S w) (word_line C w) (word_reads S l t x R w (line_word w k)) (ascii "continue")

  -- at its indent, by whether it is a header
  module _ (f : Line → Bool) (ind w : ℕ) (header : (header_at w ≡ 0 → ⊥) → f (line_of S w) ≡ false)
      (other : (line_of S w).tokens ≡ (word_line C w).tokens → f (line_of S w) ≡ f (word_line C w)) where
    at_same : (eqb (line_of S w).indent ind && f (line_of S w)) ≡ (at_indent ind w && f (word_line C w))
    at_same = ap (λ i. eqb i ind && f (line_of S w)) (indent_line S w) ∙ go (eqb (header_at w) 0) refl
      where
        go : (b : Bool) → eqb (header_at w) 0 ≡ b → (eqb (indent_at w) ind && f (line_of S w)) ≡ (at_indent ind w && f (word_line C w))
        go true e = rw (e, other (word_reads S l t x R w (eqb-true (header_at w) 0 e))) (swap (eqb (indent_at w) ind))
          where
            swap : (b : Bool) → (b && f (word_line C w)) ≡ ((b && true) && f (word_line C w))
            swap true = refl
            swap false = refl
        go false e = rw (e, header (eqb-false (header_at w) 0 e)) (swap (eqb (indent_at w) ind))
          where
            swap : (b : Bool) → (b && false) ≡ ((b && false) && f (word_line C w))
            swap true = refl
            swap false = refl

  module _ (ws : List ℕ) where
    ends_render : (a ind : ℕ) → all is_line (drop a ws) ≡ true → position_from a (ends ind) (render S ws) ≡ position_from a (ends_word C ind) ws
    ends_render a ind h =
        map_position_from (line_of S) a (ends ind) ws
        ∙ position_same is_line (λ w. ends ind (line_of S w)) (ends_word C ind) (ends_same ind) a ws h

    init_render : (p : Token → Bool) (ind n k : ℕ) → k ≤ length ws → init_from p (render S ws) ind n k ≡ init_words C p ws ind n k
    unfolding init_from init_words
    init_render p ind zero k h = refl
    init_render p ind (suc n) zero h = refl
    init_render p ind (suc n) (suc k) h =
        let w = get_or ws k 0 in
        rw (
          line_render S ws k (let z : k < length ws = omega arith in z),
          at_same (inits p) ind w (λ n. header_inits S w n p) (λ e. inits_same (line_of S w) (word_line C w) e p),
          at_same (passes p) ind w (λ n. header_passes S w n p) (λ e. passes_same (line_of S w) (word_line C w) e p),
          init_render p ind n k (omega arith),
        )

    module _ (w : ℕ) (h : header_at (get_or ws w 0) / 2 ≡ 1) (hw : w < length ws) (ahead : Ahead (w + 1) ws) where
      abbrev c : List Token
      c = head_test C (get_or ws w 0)

      abbrev L : List Line
      L = render S ws

      -- the header's condition
      header_condition : condition (line L w) (ascii "while") ≡ Some (merge c)
      header_condition =
          ap (λ m. condition m (ascii "while")) (line_render S ws w hw ∙ head_line (get_or ws w 0) h S l t x R)
          ∙ condition_merged _ _ c (head_filled C (get_or ws w 0))

      header_indent : (line L w).indent ≡ indent_at (get_or ws w 0)
      header_indent = ap (λ m. m.indent) (line_render S ws w hw) ∙ indent_line S (get_or ws w 0)

      module _ (e : ℕ) (we : w + 1 ≤ e) (el : e < length ws) where
        behind_tokens : (j : ℕ) → w + 1 ≤ j → j < length ws → (line L j).tokens ≡ (word_line C (get_or ws j 0)).tokens
        behind_tokens j a b =
            ap (λ m. m.tokens) (line_render S ws j b)
            ∙ word_reads S l t x R (get_or ws j 0) (line_word (get_or ws j 0) (all_at is_line 0 (w + 1) j ws ahead.lines a b))

        line_indent : (j : ℕ) → j < length ws → (line L j).indent ≡ indent_at (get_or ws j 0)
        line_indent j b = ap (λ m. m.indent) (line_render S ws j b) ∙ indent_line S (get_or ws j 0)

        closed_render : closed_body L w e ≡ closed_words C ws w e
        unfolding closed_words
        closed_render = rw (line_indent e el, header_indent, behind_tokens e we el)

        steps_render : w + 2 ≤ e → steps_body L w e ≡ steps_words C (get_or ws w 0) (get_or ws (e - 1) 0)
        unfolding steps_words
        steps_render f = rw (line_indent (e - 1) (omega arith), header_indent, behind_tokens (e - 1) (omega arith) (omega arith))

        counts_render : (o : Option Family) → counts_body L w e (merge c) (names_family o) ≡ counts_words C ws w e (names_family o)
        unfolding counts_words
        counts_render o =
            ap₂ (λ a b. a && not b) (any_merge (names_family o) (names_other o) c)
            (ap (any has_continue) (sym (map_part (line_of S) (w + 1) e ws))
            ∙ (map_any (line_of S) has_continue (part (w + 1) e ws)
            ∙ any_part_same is_line (λ v. has_continue (line_of S v)) (continue_word C) continue_same (w + 1) e ws ahead.lines))

        place_render : (let p = names_family (fam_of (token (line L (e - 1)) 0)) in
            cond (for_tests L w e (merge c) p) (init_from p L (line L w).indent 4 w) None) ≡ place_words C ws w e
        unfolding place_words
        place_render = go (closed_words C ws w e) refl
          where
            z : ℕ
            z = get_or ws (e - 1) 0

            o : Option Family
            o = fam_of (token (word_line C z) 0)

            p : Token → Bool
            p = names_family o

            go : (b : Bool) → closed_words C ws w e ≡ b → (let p = names_family (fam_of (token (line L (e - 1)) 0)) in
                cond (for_tests L w e (merge c) p) (init_from p L (line L w).indent 4 w) None) ≡ place_words C ws w e
            go false q = rw (closed_render, q)
            go true q =
                let f : w + 2 ≤ e = closed_far C ws w e q in
                let u : fam_of (token (line L (e - 1)) 0) ≡ fam_of (token (word_line C z) 0) =
                ap (λ ts. fam_of (get_or ts 0 no_token)) (behind_tokens (e - 1) (omega arith) (omega arith)) in
                ap (λ o. cond (for_tests L w e (merge c) (names_family o)) (init_from (names_family o) L (line L w).indent 4 w) None) u
                ∙ (ap₂ (λ b i. cond (closed_body L w e && (b && counts_body L w e (merge c) p)) (init_from p L i 4 w) None) (steps_render f) header_indent
                ∙ (ap₂ (λ a b. cond (a && (steps_words C (get_or ws w 0) z && b)) (init_from p L (indent_at (get_or ws w 0)) 4 w) None) closed_render (counts_render o)
                ∙ ap (λ o. cond (closed_words C ws w e && (steps_words C (get_or ws w 0) z && counts_words C ws w e p)) o None)
                (init_render p (indent_at (get_or ws w 0)) 4 w (omega arith))))

      -- `to_for` by the code's answers

      pub to_for_top : w ≡ 0 → render S ws ≡ to_for (render S ws) w
      unfolding to_for for_loop
      to_for_top q = rw (le-ltb 0 w (omega arith))

      module _ (top : w ≡ 0 → ⊥) where
        pub to_for_open : None ≡ position_from (w + 1) (ends_word C (indent_at (get_or ws w 0))) ws → render S ws ≡ to_for (render S ws) w
        unfolding to_for
        to_for_open f =
            rw (for_none L w (merge c) (omega arith) header_condition
            (ap (λ i. position_from (w + 1) (ends i) L) header_indent ∙ (ends_render (w + 1) (indent_at (get_or ws w 0)) ahead.lines ∙ sym f)))

        module _ (e : ℕ) (f : Some e ≡ position_from (w + 1) (ends_word C (indent_at (get_or ws w 0))) ws) where
          inside : (w + 1 ≤ e) × (e < length ws)
          inside = position_from_inside (ends_word C (indent_at (get_or ws w 0))) (w + 1) ws e (sym f)

          placed : for_loop L w ≡ (place_words C ws w e >>= λ k. Some (for_made L w e k (merge c)))
          placed =
              for_parts L w (merge c) (omega arith) header_condition e
              (ap (λ i. position_from (w + 1) (ends i) L) header_indent ∙ (ends_render (w + 1) (indent_at (get_or ws w 0)) ahead.lines ∙ sym f))
              ∙ ap (◌>>= λ k. Some (for_made L w e k (merge c))) (place_render e inside.0 inside.1)

          pub to_for_none : None ≡ place_words C ws w e → render S ws ≡ to_for (render S ws) w
          unfolding to_for
          to_for_none g = rw (placed, ← g)

          pub to_for_made : (k : ℕ) → Some k ≡ place_words C ws w e → render S (with_for ws w e k) ≡ to_for (render S ws) w
          unfolding to_for with_for
          to_for_made k g =
              let r = place_facts C ws w e k g in
              let v = get_or ws w 0 in
              let a = get_or ws k 0 in
              let z = get_or ws (e - 1) 0 in
              let word = for_word v a z in
              let i = inside in
              let step = line_word z (all_at is_line 0 (w + 1) (e - 1) ws ahead.lines (omega arith) (omega arith)) in
              let hk : k < length ws = omega arith in
              let hz : e - 1 < length ws = omega arith in
              let header : pseudo_line (line L w).address (line L w).indent (for_head (line L k).tokens (merge c) (line L (e - 1)).tokens) ≡ line_of S word =
              rw (line_render S ws w hw, line_render S ws k hk, line_render S ws (e - 1) hz)
              (ap (pseudo_line (line_of S v).address (line_of S v).indent)
              (for_head_merged (line_of S a).tokens c (line_of S z).tokens
              ∙ ap (λ ts. for_head (line_of S a).tokens ts (line_of S z).tokens) (sym (head_test_same v h S l t x R)))
              ∙ sym (for_line v a z (head_kind v) (head_header v h) S r.1 step)) in
              let made : for_made L w e k (merge c) ≡ render S (with_for ws w e k) =
              ap (remove k)
              (ap₂ (λ xs y. set xs w y) (sym (map_remove (line_of S) (e - 1) ws)) header ∙ sym (map_set (line_of S) w word (remove (e - 1) ws)))
              ∙ sym (map_remove (line_of S) k (set (remove (e - 1) ws) w word)) in
              sym (rw (placed, ← g) made)

-- a for header over 1 or over a leading test
goto_for : (v a z : ℕ) → header_at v / 2 ≡ 1 → is_goto (for_word v a z) ≡ true
goto_for v a z h =
    let s = (for_word_parts v a z).0 in
    rw (le-leb 2 (header_at (for_word v a z) % 4) (omega (arith, s))) (or-true (is_line (for_word v a z)))

pub for_ahead : (ws : List ℕ) (w e k : ℕ) → k < w → w + 2 ≤ e → header_at (get_or ws w 0) / 2 ≡ 1 → Ahead (w + 1) ws → Ahead (w + 1) (with_for ws w e k)
unfolding with_for
for_ahead ws w e k kw we h ahead =
    let word = for_word (get_or ws w 0) (get_or ws k 0) (get_or ws (e - 1) 0) in
    let v : is_goto word ≡ true = goto_for (get_or ws w 0) (get_or ws k 0) (get_or ws (e - 1) 0) h in
    record {
      words = all_remove is_goto 0 k (set (remove (e - 1) ws) w word) (all_set is_goto 0 w word (remove (e - 1) ws) v (all_remove is_goto 0 (e - 1) ws ahead.words));
      lines = all_remove is_line (w + 1) k (set (remove (e - 1) ws) w word)
          (rw (drop-set-lt (w + 1) (remove (e - 1) ws) w word (omega arith)) (all_remove is_line (w + 1) (e - 1) ws ahead.lines));
    }
