-- A test that every token of a listing passes, and still passes after a loop pass.
--   KeptToken p                                        the passes' own tokens pass p, and changed tokens pass if the tokens that they are made of do
--   recover_loops_tokens, recover_goto_loops_tokens    then every token of the answer passes if every token of the listing does
-- Assumes nothing.
use Rattle.std.specs.Prelude.{Option, None, Some, slice_get}
use Prim.Native.Nat.{ℕ, zero, suc, ◌+◌, ◌-◌}
use mathlib.Core.Path.{◌≡◌, refl, sym, ap, subst, ◌∙◌}
use mathlib.Core.Bool.{Bool, true, not}
use mathlib.Core.List.{List, [], ◌∷◌, ◌++◌}
use lib.Dec.{leb}
use lib.ListN.{length, take, drop, get_or}
use Rattle.definitions.specs.Lists.{require, all, position, first, last, part, take_while, on_first, on_last, on_part, concat, starts_with, ends_with, ascii}
use Rattle.definitions.specs.Model.{Token, Line, tok, no_token, Number, Keyword, Punct}
use Rattle.definitions.specs.Statements.{is_kw, is_empty, joins, glue, merge}
use Rattle.definitions.specs.Condition.{cut_front, cut_end, cut, closing, condition, Comparison, Found, nothing_seen, scan, flip, only_comparison, negate_cond}
use Rattle.definitions.specs.ToFor.{pop, popped, for_head}
use Rattle.definitions.specs.Columns.{all_tokens}
use Rattle.definitions.specs.Passes.{lines, while_head}
use Rattle.definitions.specs.RecoverLoops.{recover_loops}
use Rattle.definitions.specs.RecoverGotoLoops.{jump, is_leading_test, leading_test, one, recover_goto_loops}
use Rattle.loop_theory.proofs.Cases.{none_some, some_same, if_has, IfSome, do_has, required}
use Rattle.loop_theory.proofs.Places.{on_part_one}
use Rattle.loop_theory.proofs.AnyAll.{all_cons, all_and, all_nil, all_append, all_split, all_halves, all_filter, all_on_first, all_on_last}
use Rattle.loop_theory.proofs.Ascii.{is_ascii, ascii_end, ends_ascii, closing_ascii, cut_ascii_end}
use Rattle.loop_theory.proofs.Jumps.{before_goto, jump_has}
use Rattle.loop_theory.proofs.Comparisons.{comparison_in, Stands, comparison_stands}
use Rattle.loop_theory.proofs.Kept.{Kept, recover_loops_keeps, recover_goto_loops_keeps}

pub record KeptToken (p : Token → Bool) : Type 0 where
  pub own : (s : List ℕ) (k : ℕ) → all is_ascii s ≡ true → leb k 7 ≡ true → p (tok s k) ≡ true
  pub joined : (s u : List ℕ) (j k : ℕ) → p (tok s j) ≡ true → p (tok u k) ≡ true → p (tok (s ++ u) j) ≡ true
  pub opened : (s : List ℕ) (k : ℕ) → starts_with (ascii " (") s ≡ true → p (tok s k) ≡ true → p (tok (drop 2 s) k) ≡ true
  pub ended : (n : ℕ) (s : List ℕ) (k : ℕ) → ascii_end n s ≡ true → p (tok s k) ≡ true → p (tok (take (length s - n) s) k) ≡ true
  pub last_popped : (s : List ℕ) (k : ℕ) → p (tok s k) ≡ true → p (tok (pop s) k) ≡ true
  pub flipped : (s : List ℕ) (k pos : ℕ) (o : Comparison) → comparison_in (drop pos s) ≡ Some o → p (tok s k) ≡ true
      → p (tok (take pos s ++ (o.flipped ++ drop (pos + length o.op) s)) k) ≡ true

-- First and last elements

module _ {A : Type 0} where
  first_dropped : (n : ℕ) (xs : List A) → first (drop n xs) ≡ slice_get xs n
  first_dropped zero xs = refl
  first_dropped (suc n) [] = refl
  first_dropped (suc n) (x ∷ xs) = first_dropped n xs

  element_at : (d : A) (n : ℕ) (xs : List A) → IfSome (λ x. get_or xs n d ≡ x) (slice_get xs n)
  element_at d zero [] = λ x e. none_some e
  element_at d zero (y ∷ xs) = λ x e. some_same e
  element_at d (suc n) [] = λ x e. none_some e
  element_at d (suc n) (y ∷ xs) = element_at d n xs

  last_dropped : (n : ℕ) (xs : List A) (y : A) → slice_get xs n ≡ Some y → last (drop n xs) ≡ last xs
  unfolding last
  last_dropped zero xs y e = refl
  last_dropped (suc n) [] y e = none_some e
  last_dropped (suc n) (x ∷ []) y e = none_some e
  last_dropped (suc n) (x ∷ (z ∷ xs)) y e = last_dropped n (z ∷ xs) y e

abbrev opens_bracket : Token → Type 0
opens_bracket t = starts_with (ascii " (") t.text ≡ true

abbrev closes_in_ascii : ℕ → Token → Type 0
closes_in_ascii n t = ascii_end n t.text ≡ true

-- the last token does so after the first one is cut, too
last_closes : (n : ℕ) (ts : List Token) (end : Token) → last ts ≡ Some end → closes_in_ascii n end
    → IfSome (closes_in_ascii n) (last (on_first (cut_front 2) ts))
unfolding last on_first
last_closes n [] end e h = λ t q. none_some q
last_closes n (u ∷ []) end e h = λ t q.
    subst (closes_in_ascii n) (some_same q) (cut_ascii_end 2 n u.text (subst (closes_in_ascii n) (sym (some_same e)) h))
last_closes n (u ∷ (v ∷ ts)) end e h = λ t q. subst (closes_in_ascii n) (some_same (sym e ∙ q)) h

module _ (p : Token → Bool) (P : KeptToken p) where
  abbrev pass : List Token → Type 0
  pass ts = all p ts ≡ true

  own_and : (s : List ℕ) (k : ℕ) (ts : List Token) → all is_ascii s ≡ true → leb k 7 ≡ true → pass ts → pass (tok s k ∷ ts)
  own_and s k ts a b h = all_and p (tok s k) ts (P.own s k a b) h

  merge_kept : (ts : List Token) → pass ts → pass (merge ts)
  unfolding merge glue
  merge_kept [] h = h
  merge_kept (t ∷ ts) h = let s = all_cons p t ts h in glued (merge ts) s.0 (merge_kept ts s.1)
    where
      glued : (us : List Token) → p t ≡ true → all p us ≡ true → all p (glue t us) ≡ true
      glued [] h k = all_and p t [] h k
      glued (u ∷ us) h k =
          let s = all_cons p u us k in
          if_has (λ vs. all p vs ≡ true) (joins t u)
          (λ _. all_and p _ us (P.joined t.text u.text t.kind u.kind h s.0) s.1) (λ _. all_and p t (u ∷ us) h k)

  -- where the first token opens a bracket and the last one, that cut off, ends with n bytes that are ASCII
  cut_kept : (n : ℕ) (ts : List Token) → IfSome opens_bracket (first ts) → IfSome (closes_in_ascii n) (last (on_first (cut_front 2) ts))
      → pass ts → pass (cut 2 n ts)
  cut_kept n ts opens ends h =
      all_filter p (λ t. not (is_empty t)) (on_last (cut_end n) (on_first (cut_front 2) ts))
      (all_on_last p (cut_end n) (on_first (cut_front 2) ts) (λ t e k. P.ended n t.text t.kind (ends t e) k)
      (all_on_first p (cut_front 2) ts (λ t e k. P.opened t.text t.kind (opens t e) k) h))

  condition_kept : (l : Line) (kw : List ℕ) → pass l.tokens → IfSome pass (condition l kw)
  unfolding condition
  condition_kept l kw h =
      do_has pass (position (is_kw kw) l.tokens) λ k _.
      do_has pass (slice_get l.tokens (k + 1)) λ opening at_opening.
      do_has pass (last l.tokens) λ end at_end.
      do_has pass (require (starts_with (ascii " (") opening.text)) λ _ opens.
      do_has pass (closing end.text) λ n closes c e.
      let inner = drop (k + 1) l.tokens in
      let opened : IfSome opens_bracket (first inner) =
      λ t q. subst opens_bracket (some_same (sym at_opening ∙ (sym (first_dropped (k + 1) l.tokens) ∙ q))) (required _ opens) in
      let ended : IfSome (closes_in_ascii n) (last (on_first (cut_front 2) inner)) =
      last_closes n inner end (last_dropped (k + 1) l.tokens opening at_opening ∙ at_end) (closing_ascii end.text n closes) in
      subst pass (some_same e) (cut_kept n inner opened ended (all_halves p (k + 1) l.tokens h).1)

  negation_kept : (c : List Token) → pass c → pass (negate_cond c)
  unfolding negate_cond all
  negation_kept c h = go (only_comparison (scan 0 c nothing_seen)) (comparison_stands c)
    where
      at_token : (f : Found) → Stands c f → (t : Token) → first (drop f.place c) ≡ Some t
          → comparison_in (drop f.pos t.text) ≡ Some f.comparison
      at_token f stands t e =
          let same = element_at no_token f.place c t (sym (first_dropped f.place c) ∙ e) in
          ap (λ (u : Token). comparison_in (drop f.pos u.text)) (sym same) ∙ stands.there

      go : (o : Option Found) → IfSome (Stands c) o
          → all p (elim o [
            | Some f ↦ on_part f.place (f.place + 1) (flip f) c
            | None ↦ merge (tok (ascii "!(") Punct ∷ (c ++ (tok (ascii ")") Punct ∷ [])))
          ]) ≡ true
      go (Some f) stands =
          let halves = all_halves p f.place c h in
          rw on_part_one (all_append p (take f.place c) _ halves.0 (all_on_first p (flip f) (drop f.place c)
          (λ t e k. P.flipped t.text t.kind f.pos f.comparison (at_token f (stands f refl) t e) k) halves.1))
      go None stands =
          let end = tok (ascii ")") Punct ∷ [] in
          merge_kept (tok (ascii "!(") Punct ∷ (c ++ end))
          (own_and (ascii "!(") Punct (c ++ end) refl refl (all_append p c end h (own_and (ascii ")") Punct [] refl refl (all_nil p))))

  test_kept : (l : Line) (d : ℕ) → pass l.tokens → IfSome pass (leading_test l d)
  unfolding leading_test all
  test_kept l d h =
      do_has pass (require (is_leading_test l d)) λ _ _.
      do_has pass (position (is_kw (ascii "break")) l.tokens) λ g _.
      let inner = part 1 g l.tokens in
      do_has pass (first inner) λ opening at_opening.
      do_has pass (require (starts_with (ascii " (") opening.text)) λ _ opens.
      do_has pass (last (on_first (cut_front 2) inner)) λ end at_end.
      do_has pass (require (ends_with (ascii ") ") end.text)) λ _ ends c e.
      subst pass (some_same e)
      (negation_kept (cut 2 2 inner) (cut_kept 2 inner
      (λ t q. subst opens_bracket (some_same (sym at_opening ∙ q)) (required _ opens))
      (λ t q. subst (closes_in_ascii 2) (some_same (sym at_end ∙ q)) (ends_ascii (ascii ") ") end.text refl (required _ ends)))
      (all_halves p (g - 1) (drop 1 l.tokens) (all_halves p 1 l.tokens h).1).0))

  while_kept : (c : List Token) → pass c → pass (while_head c)
  unfolding all
  while_kept c h =
      let end = tok (ascii ") {") Punct ∷ [] in
      own_and (ascii "while") Keyword (tok (ascii " (") Punct ∷ (c ++ end)) refl refl (own_and (ascii " (") Punct (c ++ end) refl refl
      (all_append p c end h (own_and (ascii ") {") Punct [] refl refl (all_nil p))))

  popped_kept : (ts : List Token) → pass ts → pass (popped ts)
  popped_kept ts = all_on_last p (λ t. tok (pop t.text) t.kind) ts (λ t e k. P.last_popped t.text t.kind k)

  for_kept : (init c step : List Token) → pass init → pass c → pass step → pass (for_head init c step)
  unfolding all
  for_kept init c step i h s =
      let front = tok (ascii "for") Keyword ∷ (tok (ascii " (") Punct ∷ popped init) in
      let test = tok (ascii "; ") Punct ∷ c in
      let change = tok (ascii "; ") Punct ∷ popped step in
      let end = tok (ascii ") {") Punct ∷ [] in
      merge_kept (front ++ test ++ change ++ end)
      (all_append p (front ++ test ++ change) end
      (all_append p (front ++ test) change
      (all_append p front test
      (own_and (ascii "for") Keyword (tok (ascii " (") Punct ∷ popped init) refl refl
      (own_and (ascii " (") Punct (popped init) refl refl (popped_kept init i)))
      (own_and (ascii "; ") Punct c refl refl h))
      (own_and (ascii "; ") Punct (popped step) refl refl (popped_kept step s)))
      (own_and (ascii ") {") Punct [] refl refl (all_nil p)))

  before_kept : (q : Token → Bool) (ts : List Token) → pass ts → pass (take_while q ts)
  unfolding take_while
  before_kept q [] h = h
  before_kept q (t ∷ ts) h =
      let s = all_cons p t ts h in
      if_has pass (q t) (λ _. all_and p t (take_while q ts) s.0 (before_kept q ts s.1)) (λ _. all_nil p)

  jump_kept : (name : List ℕ) (exit : Option (List ℕ)) (l : Line) → pass l.tokens → pass (jump name exit l).tokens
  unfolding all
  jump_kept name exit l h =
      jump_has (λ x. pass x.tokens) name exit l
      (λ kw word q e. all_append p (before_goto l) (tok kw Keyword ∷ (tok (ascii ";") Punct ∷ []))
      (before_kept (λ t. not (is_kw (ascii "goto") t)) l.tokens h)
      (own_and kw Keyword (tok (ascii ";") Punct ∷ []) word.plain refl (own_and (ascii ";") Punct [] refl refl (all_nil p))))
      (λ _. h)

  tokens_kept : Kept (λ l. all p l.tokens)
  unfolding all
  tokens_kept = record {
    moved_out = λ l h. h;
    moved_in = λ name exit l h deep. jump_kept name exit l h;
    closed = λ l d room. own_and (ascii "}") Punct [] refl refl (all_nil p);
    guarded = λ l c h e. while_kept c (condition_kept l (ascii "if") h c e);
    headed = λ l d room. merge_kept (while_head one) (while_kept one (own_and (ascii "1") Number [] refl refl (all_nil p)));
    tested = λ l test d name exit c room h e. merge_kept (while_head c) (while_kept c (test_kept _ d (jump_kept name exit test h) c e));
    counted = λ init loop step c h₁ h₂ h₃ e. for_kept init.tokens c step.tokens h₁ (condition_kept loop (ascii "while") h₂ c e) h₃;
  }

  -- line by line, and all together
  together : (L : List Line) → all (λ l. all p l.tokens) L ≡ true → all p (all_tokens L) ≡ true
  unfolding all concat
  together [] h = h
  together (l ∷ L) h = let s = all_cons (λ l. all p l.tokens) l L h in all_append p l.tokens (all_tokens L) s.0 (together L s.1)

  by_line : (L : List Line) → all p (all_tokens L) ≡ true → all (λ l. all p l.tokens) L ≡ true
  unfolding concat
  by_line [] h = all_nil (λ l. all p l.tokens)
  by_line (l ∷ L) h = let s = all_split p l.tokens (all_tokens L) h in all_and (λ l. all p l.tokens) l L s.0 (by_line L s.1)

  pub recover_loops_tokens : (L M : List Line) → recover_loops L ≡ lines M → all p (all_tokens L) ≡ true → all p (all_tokens M) ≡ true
  recover_loops_tokens L M e h = together M (recover_loops_keeps (λ l. all p l.tokens) tokens_kept L M e (by_line L h))

  pub recover_goto_loops_tokens : (L M : List Line) → recover_goto_loops L ≡ lines M → all p (all_tokens L) ≡ true → all p (all_tokens M) ≡ true
  recover_goto_loops_tokens L M e h = together M (recover_goto_loops_keeps (λ l. all p l.tokens) tokens_kept L M e (by_line L h))
