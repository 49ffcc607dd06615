-- Gotos, as rules for `search`.
--   line_tokens                         the tokens of a line, by their places among all tokens
--   goto_found, goto_next, goto_end     the loop of `next_goto`
--   symbol_found, symbol_next, symbol_end    the loop of `next_symbol`
--   line_none, line_some                the label that the symbol behind a goto names
--   left, left_falls, inside_some       the measure of a loop over gotos, and where one stands
--   leads_at                            where the gotos from the one at the place o on lead
-- Assumes nothing.
use Rattle.std.specs.Prelude.{Option, None, Some, IfSome}
use Prim.Native.Nat.{ℕ, suc, ◌+◌, ◌-◌, ◌/◌, ◌<◌, ◌≤◌}
use mathlib.Core.Path.{◌≡◌, refl, sym, ap, ◌∙◌}
use mathlib.Core.Bool.{Bool, true, false, cond}
use mathlib.Core.List.{List, ◌∷◌, map}
use native.Mathlib.Decide.{dec_le}
use native.Mathlib.Omega.{arith}
use lib.Dec.{eqb}
use lib.ListN.{length, get_or}
use Rattle.definitions.specs.Lists.{◌>>=◌, find, part, ascii}
use Rattle.definitions.specs.Model.{Token, Line, line, no_token, Symbol}
use Rattle.definitions.specs.Columns.{token_list, listing}
use Rattle.definitions.specs.Statements.{is_kw, first_symbol, targets}
use Rattle.definitions.specs.FlowGraph.{label_line}
use Rattle.text.proofs.Parts.{part_step, part_none, part_clamp}
use Rattle.model.specs.Places.{line_start, line_end}
use Rattle.model.proofs.Decode.{line_at, length_tokens}
use Rattle.labels.specs.Gotos.{symbol_at, targets_at}

pub line_tokens : (l t x : List ℕ) (i : ℕ) → (line (listing l t x) i).tokens ≡ part (line_start l i) (line_end l t i) (token_list t x)
line_tokens l t x i = ap (λ m. m.tokens) (line_at l t x i) ∙ go (dec_le (get_or l i 0 / 512) (length t))
  where
    go : Dec (get_or l i 0 / 512 ≤ length t) → part (line_start l i) (get_or l i 0 / 512) (token_list t x) ≡ part (line_start l i) (line_end l t i) (token_list t x)
    go (yes h) = let z : line_end l t i ≡ get_or l i 0 / 512 = omega arith in rw z
    go (no h) =
        let z : line_end l t i ≡ length (token_list t x) = omega (arith, length_tokens t x) in
        rw z (sym (part_clamp (token_list t x) (line_start l i) (get_or l i 0 / 512) (omega (arith, length_tokens t x))))

-- The next goto and the next symbol

module _ (t x : List ℕ) (k e : ℕ) where
  module _ (r : List (Option (List ℕ))) (inv : r ≡ targets (part k e (token_list t x))) where
    module _ (b : Bool) (h : k < e) (fits : e ≤ length t) (q : b ≡ is_kw (ascii "goto") (get_or (token_list t x) k no_token)) where
      goto_step : r ≡ cond b (first_symbol (part (k + 1) e (token_list t x)) ∷ targets (part (k + 1) e (token_list t x))) (targets (part (k + 1) e (token_list t x)))
      unfolding targets
      goto_step = inv ∙ rw (part_step no_token (token_list t x) k e h (omega (arith, length_tokens t x)), q)

      pub goto_found : b ≡ true → targets_at (token_list t x) (Some k) e ≡ r
      unfolding targets_at
      goto_found f = sym (goto_step ∙ rw f)

      pub goto_next : b ≡ false → r ≡ targets (part (k + 1) e (token_list t x))
      goto_next f = goto_step ∙ rw f

    pub goto_end : e ≤ k → targets_at (token_list t x) None e ≡ r
    unfolding targets_at targets
    goto_end h = sym (inv ∙ rw (part_none (token_list t x) k e h))

  module _ (r : Option (List ℕ)) (inv : r ≡ first_symbol (part k e (token_list t x))) where
    module _ (b : Bool) (h : k < e) (fits : e ≤ length t) (q : b ≡ eqb (get_or (token_list t x) k no_token).kind Symbol) where
      symbol_step : r ≡ cond b (Some (get_or (token_list t x) k no_token).text) (first_symbol (part (k + 1) e (token_list t x)))
      unfolding first_symbol find
      symbol_step = inv ∙ rw (part_step no_token (token_list t x) k e h (omega (arith, length_tokens t x)), q) (go (eqb (get_or (token_list t x) k no_token).kind Symbol))
        where
          rest : Option Token
          rest = find (λ t. eqb t.kind Symbol) (part (k + 1) e (token_list t x))

          go : (b : Bool) → (cond b (Some (get_or (token_list t x) k no_token)) rest >>= λ t. Some t.text) ≡ cond b (Some (get_or (token_list t x) k no_token).text) (rest >>= λ t. Some t.text)
          go true = refl
          go false = refl

      pub symbol_found : b ≡ true → symbol_at (token_list t x) (Some k) ≡ r
      unfolding symbol_at
      symbol_found f = sym (symbol_step ∙ rw f)

      pub symbol_next : b ≡ false → r ≡ first_symbol (part (k + 1) e (token_list t x))
      symbol_next f = symbol_step ∙ rw f

    pub symbol_end : e ≤ k → symbol_at (token_list t x) None ≡ r
    unfolding symbol_at first_symbol find
    symbol_end h = sym (inv ∙ rw (part_none (token_list t x) k e h))

pub ruleset seeking = (goto_found, goto_next, goto_end, symbol_found, symbol_next, symbol_end)

-- One goto

module _ (us : List Token) (p : Option ℕ) (o : Option (List ℕ)) (g : List ℕ → Option ℕ) (q : symbol_at us p ≡ o) where
  pub line_none : p ≡ None → None ≡ (o >>= g)
  unfolding symbol_at
  line_none z = rw (← q, z)

  pub line_some : (k : ℕ) (s : List ℕ) (r : Option ℕ) → p ≡ Some k → s ≡ (get_or us k no_token).text → r ≡ g s → r ≡ (o >>= g)
  unfolding symbol_at
  line_some k s r h z y = rw (← q, h) (y ∙ ap g z)

-- The gotos from the one at the place o on

unfoldable pub leads_at : List Line → List Token → Option ℕ → ℕ → List (Option ℕ)
leads_at L us o e = map (λ t. t >>= label_line L) (targets_at us o e)

-- how many places are left behind the place o, up to place e
abbrev pub left : Option ℕ → ℕ → ℕ
left None e = 0
left (Some k) e = suc (e - suc k)

pub left_falls : (o n : Option ℕ) (k e : ℕ) → o ≡ Some k → IfSome n (λ m. k + 1 ≤ m) → IfSome n (λ m. m < e) → left n e < left o e
left_falls o None k e z h g = rw z (omega arith)
left_falls o (Some m) k e z h g = rw z (omega arith)

pub inside_some : (o : Option ℕ) (k e : ℕ) → o ≡ Some k → IfSome o (λ m. m < e) → k < e
inside_some o k e z h = rw z at h
