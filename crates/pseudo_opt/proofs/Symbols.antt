-- Gotos and the symbols behind them, as rules for `search`.
--   symbol_past, symbol_found, symbol_next, symbol_end    the loop of `first_symbol`
--   goto_none, goto_some                                  the first goto, and the symbol behind it
--   target_none, target_some                              the text of that symbol
-- Assumes nothing.
use Rattle.std.specs.Prelude.{Option, None, Some}
use mathlib.Core.Path.{◌≡◌, refl, sym, ◌∙◌}
use mathlib.Core.Bool.{Bool, true, false, cond}
use mathlib.Core.List.{List, []}
use Prim.Native.Nat.{ℕ, ◌+◌, ◌≤◌, ◌<◌}
use native.Mathlib.Omega.{arith}
use lib.Dec.{eqb}
use lib.ListN.{length, get_or, drop}
use Rattle.definitions.specs.Lists.{◌>>=◌, or_else, position, find, ascii}
use Rattle.definitions.specs.Model.{Token, Line, no_token, token, Symbol}
use Rattle.definitions.specs.Statements.{is_kw, first_symbol, goto_target}
use Rattle.text.proofs.Parts.{drop_step, drop_end}
use Rattle.pseudo_opt.specs.Places.{text_at}

module _ (ts : List Token) (n : ℕ) (e : n ≡ length ts) where
  pub symbol_past : (k : ℕ) → n ≤ k → None ≡ first_symbol (drop (k + 1) ts)
  unfolding first_symbol find
  symbol_past k h = rw (drop_end ts (k + 1) (omega arith))

  module _ (r : Option (List ℕ)) (j : ℕ) (inv : r ≡ first_symbol (drop j ts)) where
    symbol_step : j < n → r ≡ cond (eqb (get_or ts j no_token).kind Symbol) (Some (get_or ts j no_token).text) (first_symbol (drop (j + 1) ts))
    unfolding first_symbol find
    symbol_step h = let h' : j < length ts = omega arith in inv ∙ rw (drop_step no_token ts j) (go (eqb (get_or ts j no_token).kind Symbol))
      where
        go : (b : Bool) → (cond b (Some (get_or ts j no_token)) (find (λ t. eqb t.kind Symbol) (drop (j + 1) ts)) >>= λ t. Some t.text)
            ≡ cond b (Some (get_or ts j no_token).text) (find (λ t. eqb t.kind Symbol) (drop (j + 1) ts) >>= λ t. Some t.text)
        go true = refl
        go false = refl

    pub symbol_found : (b : Bool) → j < n → b ≡ eqb (get_or ts j no_token).kind Symbol → b ≡ true → Some (get_or ts j no_token).text ≡ r
    symbol_found b h q f = sym (symbol_step h ∙ rw (← q, f))

    pub symbol_next : (b : Bool) → j < n → b ≡ eqb (get_or ts j no_token).kind Symbol → b ≡ false → r ≡ first_symbol (drop (j + 1) ts)
    symbol_next b h q f = symbol_step h ∙ rw (← q, f)

    pub symbol_end : n ≤ j → None ≡ r
    unfolding first_symbol find
    symbol_end h = sym (inv ∙ rw (drop_end ts j (omega arith)))

-- The first goto of a line

module _ (l : Line) (f : Option ℕ) (e : f ≡ position (is_kw (ascii "goto")) l.tokens) where
  pub goto_none : f ≡ None → None ≡ goto_target l
  unfolding goto_target
  goto_none q = rw (← e, q)

  pub goto_some : (g : ℕ) (o : Option (List ℕ)) → f ≡ Some g → o ≡ first_symbol (drop (g + 1) l.tokens) → o ≡ goto_target l
  unfolding goto_target
  goto_some g o q h = rw (← e, q) h

module _ (l : Line) (f : Option ℕ) (o : Option (List ℕ)) (e : text_at l f ≡ o) where
  pub target_none : f ≡ None → [] ≡ or_else o []
  target_none q = rw (← e, q)

  pub target_some : (k : ℕ) (s : List ℕ) → f ≡ Some k → s ≡ (token l k).text → s ≡ or_else o []
  target_some k s q h = rw (← e, q) h

pub ruleset symbols = (symbol_past, symbol_found, symbol_next, symbol_end, goto_none, goto_some, target_none, target_some)
