-- The pass asks nothing of a line's address: of a listing with other addresses it asks and answers the same.
--   bare l               line l without its address
--   bare_line            a word stands for the same line but for the address, whatever the source's addresses are
--   bare_render          so do the words of a plan
--   back_bare, enters_bare, head_bare, exit_bare    what is asked of two listings that are the same but for addresses
--   label_bare, leading_bare                        what is asked of two such lines
-- Assumes nothing.
use Rattle.std.specs.Prelude.{Option, None, Some, slice_get}
use Rattle.std.specs.Option.{option_map}
use Prim.Native.Nat.{ℕ, zero, suc, ◌+◌}
use mathlib.Core.Path.{◌≡◌, refl, sym, ap, ap₂, ◌∙◌}
use mathlib.Core.Bool.{Bool, true, false, cond, ◌||◌}
use mathlib.Core.List.{List, [], ◌∷◌, ◌++◌, map}
use lib.ListN.{take, drop}
use Rattle.definitions.specs.Lists.{◌>>=◌, require, any, filter, part, take_while, last_position, ◌≟◌}
use Rattle.definitions.specs.Model.{Line, pseudo_line, line}
use Rattle.definitions.specs.Columns.{listing}
use Rattle.definitions.specs.Statements.{is_label, label, goto_target}
use Rattle.definitions.specs.RecoverGotoLoops.{goes_to, in_block, is_back, enters, exit_label, leading_test}
use Rattle.plan.specs.Plan.{Form, Form.kept, Form.continued, Form.broken, Form.closed, Piece, Test, Test.guard, Test.always, Test.leading}
use Rattle.plan.specs.Plan.{Header, Header.no_header, Header.while_over, Header.for_over, form_tokens, piece_tokens, test_tokens, while_tokens, header_tokens, planned, plan_of, line_of, render}
use Rattle.plan.specs.Source.{Source}
use Rattle.plan.proofs.Maps.{map_take, map_drop, map_part, map_append}
use Rattle.gotos.specs.Edges.{back_from}

abbrev pub bare : Line → Line
bare l = pseudo_line None l.indent l.tokens

-- Words

module _ (S : List Line) (l t x : List ℕ) (R : Source S l t x) where
  abbrev C : List Line
  C = listing l t x

  piece_same : (p : Piece) → piece_tokens S p ≡ piece_tokens C p
  unfolding form_tokens
  piece_same p = go p.form
    where
      go : (f : Form) → form_tokens f (line S p.source) ≡ form_tokens f (line C p.source)
      go kept = R.tokens p.source
      go continued = rw (R.tokens p.source)
      go broken = rw (R.tokens p.source)
      go closed = refl

  test_same : (p : Piece) (T : Test) → test_tokens S p T ≡ test_tokens C p T
  unfolding test_tokens
  test_same p guard = rw (piece_same p)
  test_same p always = refl
  test_same p (leading q) = rw (piece_same q)

  while_same : (p : Piece) (T : Test) → while_tokens S p T ≡ while_tokens C p T
  unfolding while_tokens
  while_same p guard = rw (test_same p guard)
  while_same p always = rw (test_same p always)
  while_same p (leading q) = rw (test_same p (leading q))

  header_same : (p : Piece) (H : Header) → header_tokens S p H ≡ header_tokens C p H
  unfolding header_tokens
  header_same p no_header = piece_same p
  header_same p (while_over T) = while_same p T
  header_same p (for_over T a z) = rw (piece_same a, test_same p T, piece_same z)

  pub bare_line : (w : ℕ) → bare (line_of S w) ≡ bare (line_of C w)
  unfolding planned
  bare_line w = ap (λ ts. pseudo_line None (plan_of w).indent ts) (header_same (plan_of w).piece (plan_of w).header)

  pub bare_render : (ws : List ℕ) → map bare (render S ws) ≡ map bare (render C ws)
  bare_render [] = refl
  bare_render (w ∷ ws) = ap₂ (λ m ms. m ∷ ms) (bare_line w) (bare_render ws)

-- Lines and listings without addresses

line_bare : (L : List Line) (i : ℕ) → line (map bare L) i ≡ bare (line L i)
line_bare [] i = refl
line_bare (m ∷ L) zero = refl
line_bare (m ∷ L) (suc i) = line_bare L i

label_test : (m : Line) → is_label (bare m) ≡ is_label m
unfolding is_label
label_test m = refl

goes_test : (p : List ℕ → Bool) (m : Line) → goes_to p (bare m) ≡ goes_to p m
unfolding goes_to goto_target
goes_test p m = refl

-- a place behind, or the first
abbrev later : Option ℕ → Bool → Option ℕ
later o b = elim o [ Some k ↦ Some (suc k) | None ↦ cond b (Some 0) None ]

module _ (p : Line → Bool) (same : (m : Line) → p (bare m) ≡ p m) where
  any_test : (L : List Line) → any p (map bare L) ≡ any p L
  unfolding any
  any_test [] = refl
  any_test (m ∷ L) = ap₂ ◌||◌ (same m) (any_test L)

  while_test : (L : List Line) → take_while p (map bare L) ≡ map bare (take_while p L)
  unfolding take_while
  while_test [] = refl
  while_test (m ∷ L) = rw (same m, while_test L) (go (p m))
    where
      go : (b : Bool) → cond b (bare m ∷ map bare (take_while p L)) [] ≡ map bare (cond b (m ∷ take_while p L) [])
      go true = refl
      go false = refl

  filter_test : (L : List Line) → filter p (map bare L) ≡ map bare (filter p L)
  unfolding filter
  filter_test [] = refl
  filter_test (m ∷ L) = rw (same m, filter_test L) (go (p m))
    where
      go : (b : Bool) → cond b (bare m ∷ map bare (filter p L)) (map bare (filter p L)) ≡ map bare (cond b (m ∷ filter p L) (filter p L))
      go true = refl
      go false = refl

  last_test : (L : List Line) → last_position p (map bare L) ≡ last_position p L
  unfolding last_position
  last_test [] = refl
  last_test (m ∷ L) = ap₂ (λ o b. later o b) (last_test L) (same m)

block_test : (ind : ℕ) (m : Line) → in_block ind (bare m) ≡ in_block ind m
unfolding is_label
block_test ind m = refl

back_without : (L : List Line) (g : List ℕ) (ind d j : ℕ) → back_from (map bare L) g ind d j ≡ back_from L g ind d j
unfolding back_from
back_without L g ind d j =
    ap (option_map (j +◌))
    (ap (λ M. last_position (is_back g d) (take_while (in_block ind) M)) (sym (map_drop bare j L))
    ∙ (ap (last_position (is_back g d)) (while_test (in_block ind) (block_test ind) (drop j L))
    ∙ last_test (is_back g d) (λ m. refl) (take_while (in_block ind) (drop j L))))

-- the targets that lead to the label at h or to a label behind it, before b
abbrev inner : List Line → ℕ → ℕ → List ℕ → Bool
inner L h b t = (t ≟ label (line L h)) || any (λ l. label l ≟ t) (filter is_label (part (h + 1) b L))

inner_without : (L : List Line) (h b : ℕ) (t : List ℕ) → inner (map bare L) h b t ≡ inner L h b t
inner_without L h b t =
    ap₂ (λ m c. (t ≟ label m) || c) (line_bare L h)
    (ap (λ M. any (λ l. label l ≟ t) (filter is_label M)) (sym (map_part bare (h + 1) b L))
    ∙ (ap (any (λ l. label l ≟ t)) (filter_test is_label label_test (part (h + 1) b L))
    ∙ any_test (λ l. label l ≟ t) (λ m. refl) (filter is_label (part (h + 1) b L))))

goes_other : (p q : List ℕ → Bool) → ((t : List ℕ) → p t ≡ q t) → (m : Line) → goes_to p m ≡ goes_to q m
unfolding goes_to
goes_other p q e m = go (goto_target m)
  where
    go : (o : Option (List ℕ)) → ◌≡◌ {A = Bool} (elim o [ None ↦ false | Some t ↦ p t ]) (elim o [ None ↦ false | Some t ↦ q t ])
    go None = refl
    go (Some t) = e t

any_other : (p q : Line → Bool) → ((m : Line) → p m ≡ q m) → (L : List Line) → any p L ≡ any q L
unfolding any
any_other p q e [] = refl
any_other p q e (m ∷ L) = ap₂ ◌||◌ (e m) (any_other p q e L)

enters_without : (L : List Line) (h b : ℕ) → enters (map bare L) h b ≡ enters L h b
enters_without L h b =
    any_other (goes_to (inner (map bare L) h b)) (goes_to (inner L h b)) (goes_other (inner (map bare L) h b) (inner L h b) (inner_without L h b))
    (take h (map bare L) ++ drop (b + 1) (map bare L))
    ∙ (ap (any (goes_to (inner L h b))) (sym (map_append bare (take h L) (drop (b + 1) L) ∙ ap₂ ◌++◌ (map_take bare h L) (map_drop bare (b + 1) L)))
    ∙ any_test (goes_to (inner L h b)) (goes_test (inner L h b)) (take h L ++ drop (b + 1) L))

exit_without : (L : List Line) (b : ℕ) → exit_label (map bare L) b ≡ exit_label L b
exit_without L b = ap ask (there L (b + 1)) ∙ go (slice_get L (b + 1))
  where
    ask : Option Line → Option (List ℕ)
    ask o = o >>= λ m. require (is_label m) >>= λ _. Some (label m)

    there : (K : List Line) (i : ℕ) → slice_get (map bare K) i ≡ option_map bare (slice_get K i)
    there [] i = refl
    there (m ∷ K) zero = refl
    there (m ∷ K) (suc i) = there K i

    go : (o : Option Line) → ask (option_map bare o) ≡ ask o
    go None = refl
    go (Some m) = ap (λ c. require c >>= λ _. Some (label m)) (label_test m)

-- Two listings that are the same but for addresses

module _ (L M : List Line) (e : map bare L ≡ map bare M) where
  pub back_bare : (g : List ℕ) (ind d j : ℕ) → back_from L g ind d j ≡ back_from M g ind d j
  back_bare g ind d j = sym (back_without L g ind d j) ∙ (ap (λ K. back_from K g ind d j) e ∙ back_without M g ind d j)

  pub enters_bare : (h b : ℕ) → enters L h b ≡ enters M h b
  enters_bare h b = sym (enters_without L h b) ∙ (ap (λ K. enters K h b) e ∙ enters_without M h b)

  pub head_bare : (h : ℕ) → label (line L h) ≡ label (line M h)
  head_bare h = ap label (sym (line_bare L h)) ∙ (ap (λ K. label (line K h)) e ∙ ap label (line_bare M h))

  pub exit_bare : (b : ℕ) → exit_label L b ≡ exit_label M b
  exit_bare b = sym (exit_without L b) ∙ (ap (λ K. exit_label K b) e ∙ exit_without M b)

module _ (l m : Line) (e : bare l ≡ bare m) where
  pub label_bare : is_label l ≡ is_label m
  label_bare = sym (label_test l) ∙ (ap is_label e ∙ label_test m)

  pub leading_bare : (d : ℕ) → leading_test l d ≡ leading_test m d
  leading_bare d = sym (same l) ∙ (ap (λ k. leading_test k d) e ∙ same m)
    where
      same : (k : Line) → leading_test (bare k) d ≡ leading_test k d
      same k = unfold leading_test in refl
