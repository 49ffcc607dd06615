-- Gotos that enter a loop, as rules for `search`.
--   label_text                              a label is a line as it is; its name is its first token
--   names_at                                a name looked at
--   keep_yes, keep_no                       a word looked at
--   list_start, list_next, list_end         the labels listed
--   any_next, any_hit, any_end, goto_at     the scans over words
--   goes_nowhere, goes_found                the line of a word
--   enters_is                               the two scans are `enters`
--   size_listed, size_before, gotos_before, gotos_behind    what the scans ask
--   enters_before, enters_behind            the answer
-- Assumes nothing.
use Rattle.std.specs.Prelude.{Option, None, Some}
use mathlib.Core.Path.{◌≡◌, refl, sym, ap, ap₂, ◌∙◌}
use mathlib.Core.Bool.{Bool, true, false, ◌||◌, cond}
use mathlib.Core.List.{List, [], ◌∷◌, ◌++◌, append-nil, append_assoc, map}
use Prim.Native.Nat.{ℕ, zero, suc, ◌+◌, ◌/◌, ◌%◌, ◌≤◌, ◌<◌}
use native.Mathlib.Nat.{sub-zero, zero-add}
use native.Mathlib.Numerals.{add-one}
use native.Mathlib.Decide.{dec_le}
use native.Mathlib.Omega.{arith}
use lib.ListN.{length, get_or, set, take, drop}
use lib.Seq.{length-take-le, take-suc-set}
use Rattle.std.specs.Borrow.{Bor}
use Rattle.definitions.specs.Lists.{any, all, filter, part, ◌≟◌}
use Rattle.definitions.specs.Model.{Line, token, line, no_token}
use Rattle.definitions.specs.Statements.{is_label, label, goto_target}
use Rattle.definitions.specs.RecoverGotoLoops.{goes_to, enters}
use Rattle.text.proofs.Parts.{drop_step, drop_end, part_step, part_tail, part_part}
use Rattle.text.proofs.Texts.{≟_sym}
use Rattle.loop_theory.proofs.Cases.{true_false, and_split}
use Rattle.loop_theory.proofs.AnyAll.{all_halves}
use Rattle.plan.specs.Plan.{header_at, piece_at, line_of, render}
use Rattle.plan.specs.Changes.{is_goto}
use Rattle.plan.proofs.Maps.{map_take, map_drop, map_part, map_any}
use Rattle.pieces.proofs.Forms.{kept_piece, label_other}
use Rattle.gotos.proofs.HeaderLines.{no_header_line, label_piece, label_header}
use Rattle.gotos.proofs.EdgeRules.{line_at}
use Rattle.gotos.specs.Body.{name_of}
use Rattle.enters.specs.Inside.{labels, names, goes_inside}

-- Names

module _ (C : List Line) (w : ℕ) (is : is_label (line_of C w) ≡ true) where
  no_header : header_at w ≡ 0
  no_header = go (dec_le (header_at w) 0)
    where
      go : Dec (header_at w ≤ 0) → header_at w ≡ 0
      go (yes h) = omega arith
      go (no h) = true_false is (sym (label_header C w (header_at w) refl (λ e. h (omega arith))))

  whole_line : piece_at w % 4 ≡ 0
  whole_line = go (dec_le (piece_at w % 4) 0)
    where
      go : Dec (piece_at w % 4 ≤ 0) → piece_at w % 4 ≡ 0
      go (yes h) = omega arith
      go (no h) = true_false is (sym (label_piece C w (header_at w) refl no_header (piece_at w) false refl (label_other C (piece_at w) (λ e. h (omega arith)))))

  label_text : (token (line C (piece_at w / 4)) 0).text ≡ label (line_of C w)
  label_text =
      ap (λ ts. (get_or ts 0 no_token).text) (sym (no_header_line C w (header_at w) refl no_header ∙ kept_piece C (piece_at w) whole_line))

pub names_at : (C : List Line) (i k : ℕ) (x s : List ℕ) (r : Bool) → k ≡ i → x ≡ (token (line C k) 0).text → r ≡ (x ≟ s) → r ≡ names C s i
names_at C i k x s r e q g = g ∙ ap (◌≟ s) (q ∙ ap (λ j. (token (line C j) 0).text) e)

-- The labels listed

-- the line that w comes from
abbrev source : ℕ → ℕ
source w = piece_at w / 4

module _ (C : List Line) where
  labels_step : (w : ℕ) (ws : List ℕ) → labels C (w ∷ ws) ≡ labels C (w ∷ []) ++ labels C ws
  unfolding labels filter
  labels_step w ws = go (is_label (line_of C w))
    where
      go : (b : Bool) → map source (cond b (w ∷ filter (λ w. is_label (line_of C w)) ws) (filter (λ w. is_label (line_of C w)) ws))
          ≡ map source (cond b (w ∷ []) []) ++ map source (filter (λ w. is_label (line_of C w)) ws)
      go true = refl
      go false = refl

  module _ (s : List ℕ) (m w : ℕ) (y : Bool) (e : y ≡ is_label (line_of C w)) where
    pub keep_yes : y ≡ true → m < length s → (i : ℕ) → i ≡ piece_at w / 4 → (v : ℕ) → v ≡ i → take (m + 1) (set s m v) ≡ take m s ++ labels C (w ∷ [])
    unfolding labels filter
    keep_yes f h i d v q = rw (← e, f, add-one m, ← d, ← q) (take-suc-set s m v h)

    pub keep_no : y ≡ false → take m s ≡ take m s ++ labels C (w ∷ [])
    unfolding labels filter
    keep_no f = rw (← e, f) (sym (append-nil (take m s)))

  pub list_start : (ws s : List ℕ) → take 0 s ++ labels C (drop 0 ws) ≡ labels C ws
  list_start ws s = refl

  module _ (ws s : List ℕ) (m k : ℕ) (inv : take m s ++ labels C (drop k ws) ≡ labels C ws) where
    pub list_next : k < length ws → (vs : List ℕ) (r : ℕ) → take r vs ≡ take m s ++ labels C (get_or ws k 0 ∷ []) → take r vs ++ labels C (drop (k + 1) ws) ≡ labels C ws
    list_next lt vs r e =
        ap (◌++ labels C (drop (k + 1) ws)) e
        ∙ append_assoc (take m s) (labels C (get_or ws k 0 ∷ [])) (labels C (drop (k + 1) ws))
        ∙ ap (take m s ++◌) (sym (labels_step (get_or ws k 0) (drop (k + 1) ws)) ∙ ap (labels C) (sym (drop_step 0 ws k lt)))
        ∙ inv

    pub list_end : length ws ≤ k → take m s ≡ labels C ws
    unfolding labels filter
    list_end ge = sym (append-nil (take m s)) ∙ ap (λ vs. take m s ++ labels C vs) (sym (drop_end ws k ge)) ∙ inv

pub ruleset lists = (keep_yes, keep_no, list_start, list_next, list_end)

-- Scans

module _ (P : ℕ → Bool) (ws : List ℕ) (k : ℕ) (inv : any P ws ≡ any P (drop k ws)) where
  module _ (lt : k < length ws) (b : Bool) (q : b ≡ P (get_or ws k 0)) where
    first_of : any P (drop k ws) ≡ (b || any P (drop (k + 1) ws))
    unfolding any
    first_of = ap (any P) (drop_step 0 ws k lt) ∙ rw q

    pub any_next : b ≡ false → any P ws ≡ any P (drop (k + 1) ws)
    any_next f = inv ∙ first_of ∙ rw f

    pub any_hit : b ≡ true → true ≡ any P ws
    any_hit f = sym (inv ∙ first_of ∙ rw f)

  pub any_end : length ws ≤ k → false ≡ any P ws
  unfolding any
  any_end ge = sym (inv ∙ ap (any P) (drop_end ws k ge))

pub goto_at : (ws : List ℕ) (k : ℕ) → all is_goto ws ≡ true → k < length ws → is_goto (get_or ws k 0) ≡ true
goto_at [] k h lt = absurd (omega arith)
goto_at (w ∷ ws) zero h lt = (and_split (is_goto w) (all is_goto ws) (unfold all in h)).0
goto_at (w ∷ ws) (suc k) h lt = goto_at ws k (and_split (is_goto w) (all is_goto ws) (unfold all in h)).1 (omega arith)

pub ruleset scans = (any_next, any_hit, any_end, goto_at)

module _ (C : List Line) (ls : List ℕ) (w : ℕ) (f : Option (Bor (List ℕ))) (e : name_of f ≡ goto_target (line_of C w)) where
  pub goes_nowhere : f ≡ None → false ≡ goes_inside C ls w
  unfolding goes_to
  goes_nowhere q = rw (← e, q, goes_to)

  pub goes_found : (x : Bor (List ℕ)) → f ≡ Some x → (r : Bool) → r ≡ any (names C x.now) ls → r ≡ goes_inside C ls w
  unfolding goes_to
  goes_found x q r g = g ∙ sym (rw (← e, q, goes_to))

pub ruleset goes = (goes_nowhere, goes_found)

-- The two scans

any_append : {A : Type 0} (p : A → Bool) (xs ys : List A) → any p (xs ++ ys) ≡ (any p xs || any p ys)
unfolding any
any_append p [] ys = refl
any_append p (x ∷ xs) ys = ap (λ b. p x || b) (any_append p xs ys) ∙ or_assoc (p x) (any p xs) (any p ys)
  where
    or_assoc : (a b c : Bool) → (a || (b || c)) ≡ ((a || b) || c)
    or_assoc true b c = refl
    or_assoc false b c = refl

any_same : {A : Type 0} (p q : A → Bool) → ((x : A) → p x ≡ q x) → (xs : List A) → any p xs ≡ any q xs
unfolding any
any_same p q e [] = refl
any_same p q e (x ∷ xs) = ap₂ ◌||◌ (e x) (any_same p q e xs)

goes_same : (p q : List ℕ → Bool) → ((t : List ℕ) → p t ≡ q t) → (l : Line) → goes_to p l ≡ goes_to q l
unfolding goes_to
goes_same p q e l = go (goto_target l)
  where
    go : (o : Option (List ℕ)) → ◌≡◌ {A = Bool} (elim o [ None ↦ false | Some t ↦ p t ]) (elim o [ None ↦ false | Some t ↦ q t ])
    go None = refl
    go (Some t) = e t

named : (C : List Line) (t : List ℕ) (ws : List ℕ) → any (λ l. label l ≟ t) (filter is_label (map (line_of C) ws)) ≡ any (names C t) (labels C ws)
unfolding any filter labels
named C t [] = refl
named C t (w ∷ ws) = go (is_label (line_of C w)) refl (named C t ws)
  where
    go : (b : Bool) → is_label (line_of C w) ≡ b → any (λ l. label l ≟ t) (filter is_label (map (line_of C) ws)) ≡ any (names C t) (labels C ws)
        → any (λ l. label l ≟ t) (cond b (line_of C w ∷ filter is_label (map (line_of C) ws)) (filter is_label (map (line_of C) ws)))
        ≡ any (names C t) (map source (cond b (w ∷ filter (λ w. is_label (line_of C w)) ws) (filter (λ w. is_label (line_of C w)) ws)))
    go true is e = ap₂ ◌||◌ (ap (◌≟ t) (sym (label_text C w is))) e
    go false is e = e

module _ (ws : List ℕ) (n : ℕ) (fit : n ≤ length ws) where
  part_taken : (a e : ℕ) → e ≤ n → part a e (take n ws) ≡ part a e ws
  part_taken a e h =
      let whole : part 0 n ws ≡ take n ws = rw (sub-zero n) in
      ap (part a e) (sym whole) ∙ part_part ws a e 0 n (omega arith) ∙ ap₂ (λ x y. part x y ws) (zero-add a) (zero-add e)

  take_taken : (h : ℕ) → h ≤ n → take h (take n ws) ≡ take h ws
  take_taken h le = ap (λ m. take m (take n ws)) (sym (sub-zero h)) ∙ part_taken 0 h le ∙ rw (sub-zero h)

  drop_taken : (k : ℕ) → drop k (take n ws) ≡ part k n ws
  drop_taken k = sym (part_tail (take n ws) k) ∙ ap (λ m. part k m (take n ws)) (length-take-le n ws fit) ∙ part_taken k n (omega arith)

  module _ (h b : ℕ) (hb : h < b) (bn : b < n) where
    pub size_before : h ≡ length (take h ws)
    size_before = sym (length-take-le h ws (omega arith))

    module _ (e : all is_goto (take n ws) ≡ true) where
      pub gotos_before : all is_goto (take h ws) ≡ true
      gotos_before = rw (← take_taken h (omega arith)) (all_halves is_goto h (take n ws) e).0

      pub gotos_behind : all is_goto (part (b + 1) n ws) ≡ true
      gotos_behind = rw (← drop_taken (b + 1)) (all_halves is_goto (b + 1) (take n ws) e).1

    module _ (C : List Line) (is : is_label (line_of C (get_or ws h 0)) ≡ true) where
      inside_is : (t : List ℕ) → ((t ≟ label (line (render C (take n ws)) h)) || any (λ l. label l ≟ t) (filter is_label (part (h + 1) b (render C (take n ws)))))
          ≡ any (names C t) (labels C (part h b ws))
      unfolding any filter labels
      inside_is t =
          let between : part (h + 1) b (render C (take n ws)) ≡ map (line_of C) (part (h + 1) b ws) =
          sym (map_part (line_of C) (h + 1) b (take n ws)) ∙ ap (map (line_of C)) (part_taken (h + 1) b (omega arith)) in
          let head : (t ≟ label (line (render C (take n ws)) h)) ≡ names C t (piece_at (get_or ws h 0) / 4) =
          ap (t ≟◌) (ap label (line_at C ws n h (omega arith) fit) ∙ sym (label_text C (get_or ws h 0) is)) ∙ ≟_sym t _ in
          ap₂ ◌||◌ head (ap (λ M. any (λ l. label l ≟ t) (filter is_label M)) between ∙ named C t (part (h + 1) b ws))
          ∙ sym (ap (λ vs. any (names C t) (labels C vs)) (part_step 0 ws h b hb (omega arith)) ∙ rw is)

      enters_is : enters (render C (take n ws)) h b
          ≡ (any (goes_inside C (labels C (part h b ws))) (take h ws) || any (goes_inside C (labels C (part h b ws))) (part (b + 1) n ws))
      enters_is =
          let L = render C (take n ws) in
          let inside : List ℕ → Bool = λ t. any (names C t) (labels C (part h b ws)) in
          let before : take h L ≡ map (line_of C) (take h ws) = sym (map_take (line_of C) h (take n ws)) ∙ ap (map (line_of C)) (take_taken h (omega arith)) in
          let behind : drop (b + 1) L ≡ map (line_of C) (part (b + 1) n ws) = sym (map_drop (line_of C) (b + 1) (take n ws)) ∙ ap (map (line_of C)) (drop_taken (b + 1)) in
          any_same (goes_to (λ t. (t ≟ label (line L h)) || any (λ l. label l ≟ t) (filter is_label (part (h + 1) b L)))) (goes_to inside)
          (goes_same (λ t. (t ≟ label (line L h)) || any (λ l. label l ≟ t) (filter is_label (part (h + 1) b L))) inside inside_is) (take h L ++ drop (b + 1) L)
          ∙ any_append (goes_to inside) (take h L) (drop (b + 1) L)
          ∙ ap₂ ◌||◌ (ap (any (goes_to inside)) before ∙ map_any (line_of C) (goes_to inside) (take h ws))
          (ap (any (goes_to inside)) behind ∙ map_any (line_of C) (goes_to inside) (part (b + 1) n ws))

      module _ (ls : List ℕ) (all : ls ≡ labels C (part h b ws)) (x : Bool) (e : x ≡ any (goes_inside C ls) (take h ws)) where
        pub enters_before : x ≡ true → true ≡ enters (render C (take n ws)) h b
        enters_before f = sym (enters_is ∙ rw (← all, ← e, f))

        pub enters_behind : x ≡ false → (r : Bool) → r ≡ any (goes_inside C ls) (part (b + 1) n ws) → r ≡ enters (render C (take n ws)) h b
        enters_behind f r g = g ∙ sym (enters_is ∙ rw (← all, ← e, f))

pub size_listed : (m : ℕ) (s₀ s : List ℕ) → m ≤ length s₀ → length s ≡ length s₀ → m ≡ length (take m s)
size_listed m s₀ s h e = sym (length-take-le m s (omega arith))

pub ruleset enterings = (size_listed, size_before, gotos_before, gotos_behind, enters_before, enters_behind)
