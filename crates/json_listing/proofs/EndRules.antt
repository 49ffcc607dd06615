-- The whole listing, by what the code has read of it.
--   array_no, array_empty, array_more       what stands before the lines
--   not_closed, closed_read                 what stands behind them
--   read_is                                 `read` is the value of a closed array of lines
-- Assumes nothing.
use Rattle.std.specs.Prelude.{Option, None, Some}
use mathlib.Core.Path.{◌≡◌, refl, sym, ◌∙◌}
use mathlib.Core.Bool.{Bool, true, false, cond}
use mathlib.Core.List.{List, [], ◌∷◌}
use Prim.Native.Nat.{ℕ, zero-le}
use native.Mathlib.Omega.{arith}
use borrow.Author.Tests.{ne_eqb}
use lib.Dec.{eqb}
use lib.ListN.{length}
use Rattle.definitions.specs.Lists.{concat}
use Rattle.definitions.specs.Model.{Line, text}
use Rattle.definitions.specs.Columns.{token_words_from, line_words_from}
use Rattle.json_definitions.specs.Parser.{Got, got, Parser, pure, after, or_try, lexeme, skip_white_space, array}
use Rattle.json_definitions.specs.Reader.{line, is_empty, read, ended}
use Rattle.json_theory.specs.Steps.{items}
use Rattle.json_theory.proofs.Results.{never}
use Rattle.json_theory.proofs.Elements.{array_items}
use Rattle.std.specs.Bool.{then_some}
use Rattle.std.specs.Borrow.{Bor}
use Rattle.json_listing.specs.declared.Counts.{Counts}
use Rattle.json_listing.specs.InColumns.{ReadListing, NoListing, listing_read, closed}

abbrev pub value_of : Option (Got (List Line)) → Option (List Line)
value_of None = None
value_of (Some g) = Some g.value

stopped : {A B : Type 0} (o : Option (Got A)) (f : A → Parser B) → o ≡ None → after o f ≡ None
unfolding after
stopped o f h = rw h

module _ (s : List ℕ) where
  pub array_no : (a b c d : ℕ) → None ≡ lexeme (91 ∷ []) s → NoListing (array line s) a b c d
  array_no a b c d e = record { never = λ g w h₁ h₂ h₃ h₄. never g (sym (array_items line s ∙ stopped (lexeme (91 ∷ []) s) _ (sym e)) ∙ w) }

  module _ (t : List ℕ) (e : got tt t ≡ lexeme (91 ∷ []) s) where
    opened : array line s ≡ or_try (after (lexeme (93 ∷ []) t) (λ _. pure [])) (items line) t
    opened = array_items line s ∙ (unfold after in rw (← e))

    none_is : (u : List ℕ) → got tt u ≡ lexeme (93 ∷ []) t → array line s ≡ got [] u
    unfolding or_try after
    none_is u e₂ = opened ∙ rw (← e₂)

    pub array_more : None ≡ lexeme (93 ∷ []) t → array line s ≡ items line t
    unfolding or_try after
    array_more e₂ = opened ∙ rw (← e₂)

    pub array_empty : (a b c d : ℕ) (ln ad tk tx u : List ℕ) → got tt u ≡ lexeme (93 ∷ []) t → ReadListing (array line s) a b c d ln ad tk tx u 0 0 0
    unfolding concat text token_words_from line_words_from
    array_empty a b c d ln ad tk tx u e₂ =
        record {
          L = [];
          is = none_is u e₂;
          count = refl;
          tokens = refl;
          bytes = refl;
          lines = refl;
          addresses = refl;
          words = refl;
          texts = refl;
          room = (zero-le, (zero-le, (zero-le, zero-le)));
        }

closed_some : (o : Option (Got (List Line))) (g : Got (List Line)) → closed o ≡ Some g → o ≡ Some g
unfolding closed
closed_some None g e = e
closed_some (Some h) g e = go (is_empty (skip_white_space h.rest)) e
  where
    go : (b : Bool) → cond b (Some h) None ≡ Some g → Some h ≡ Some g
    go true e = e
    go false e = never g e

module _ (o : Option (Got (List Line))) (a b c d : ℕ) where
  pub not_closed : NoListing o a b c d → NoListing (closed o) a b c d
  not_closed z = record { never = λ g e. z.never g (closed_some o g e) }

  -- what stands behind the lines decides
  module _ (ln ad tk tx rest : List ℕ) (k n x : ℕ) (w : ReadListing o a b c d ln ad tk tx rest k n x) where
    closed_yes : is_empty (skip_white_space rest) ≡ true → ReadListing (closed o) a b c d ln ad tk tx rest k n x
    closed_yes e =
        record {
          L = w.L;
          is = unfold closed in rw (w.is, e);
          count = w.count;
          tokens = w.tokens;
          bytes = w.bytes;
          lines = w.lines;
          addresses = w.addresses;
          words = w.words;
          texts = w.texts;
          room = w.room;
        }

    closed_no : is_empty (skip_white_space rest) ≡ false → NoListing (closed o) a b c d
    closed_no e = let q : closed o ≡ None = unfold closed in rw (w.is, e) in record { never = λ g v h₁ h₂ h₃ h₄. never g (sym q ∙ v) }

pub closed_read : (o : Option (Got (List Line))) (a b c d : ℕ) (ln ad tk tx : List ℕ) (n : Counts) (r : Bor (List ℕ)) → ReadListing o a b c d ln ad tk tx r.now n.lines n.tokens n.text
    → (y : Bool) → y ≡ is_empty (skip_white_space r.now) → listing_read (closed o) a b c d ln ad tk tx (then_some y (n, r))
unfolding listing_read
closed_read o a b c d ln ad tk tx n r w true e = closed_yes o a b c d ln ad tk tx r.now n.lines n.tokens n.text w (sym e)
closed_read o a b c d ln ad tk tx n r w false e = closed_no o a b c d ln ad tk tx r.now n.lines n.tokens n.text w (sym e)

pub empty_is : (s : List ℕ) → is_empty s ≡ eqb (length s) 0
unfolding is_empty
empty_is [] = refl
empty_is (c ∷ s) = sym (ne_eqb (length (c ∷ s)) 0 (λ q. omega arith))

-- `read` of the definition
pub read_is : (s : List ℕ) → read s ≡ value_of (closed (array line s))
unfolding read ended closed
read_is s = go (array line s)
  where
    go : (o : Option (Got (List Line))) → ended o ≡ value_of (closed o)
    go None = refl
    go (Some g) = both (is_empty (skip_white_space g.rest))
      where
        both : (b : Bool) → cond b (Some g.value) None ≡ value_of (cond b (Some g) None)
        both true = refl
        both false = refl
