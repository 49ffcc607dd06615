-- What follows an answer of the code, for parsers made of several.
--   or_got, or_none         an alternative
--   token_go, token_no      a token, of which the room is asked at its string
--   kind_small              the kind of a token
-- Assumes nothing.
use Rattle.std.specs.Prelude.{Option, None, Some}
use mathlib.Core.Path.{◌≡◌, refl, sym, ap, ◌∙◌}
use mathlib.Core.Bool.{Bool, true, false, cond}
use mathlib.Core.List.{List}
use Prim.Native.Nat.{ℕ, ◌≤◌}
use lib.Dec.{leb}
use lib.ListN.{length}
use Rattle.definitions.specs.Lists.{ascii}
use Rattle.definitions.specs.Model.{Token}
use Rattle.json_definitions.specs.Parser.{Got, got, Parser, after, or_try}
use Rattle.json_definitions.specs.Strings.{string}
use Rattle.json_definitions.specs.Reader.{member, token, token_kind}
use Rattle.json_theory.proofs.Results.{same_got, after_some}
use Rattle.json_theory.proofs.Bounds.{token_kind_below}
use Rattle.json_scan.proofs.Rules.{lexeme_is, steps}
use Rattle.json_strings.specs.Answers.{limited}
use Rattle.json_lines.specs.Answers.{limited_token, token_rest}

-- Alternatives

module _ {A : Type 0} (q : Parser A) (t : List ℕ) where
  pub or_got : (a : A) (s : List ℕ) → or_try (got a s) q t ≡ got a s
  unfolding or_try
  or_got a s = refl

  pub or_none : or_try None q t ≡ q t
  unfolding or_try
  or_none = refl

-- Tokens: the room is asked of the string

rest_text : (t x : List ℕ) (g : Got Token) → token_rest t x ≡ Some g → g.value.text ≡ t
unfolding token_rest
rest_text t x g e =
    let a = after_some (token_kind x) _ g e in
    sym (ap (λ (y : Got Token). y.value.text) (same_got _ g a.2))

token_is : (x : List ℕ) → after (member (ascii "{") (ascii "\"t\"") x) (λ _ y. after (string y) token_rest) ≡ token x
unfolding token token_rest
token_is x = refl

swap : (room : ℕ) (o : Option (Got (List ℕ))) → limited_token room (after o token_rest) ≡ after (limited room o) token_rest
unfolding limited
swap room None = unfold after limited_token in refl
swap room (Some h) = go (leb (length h.value) room) refl (token_rest h.value h.rest) refl
  where
    go : (b : Bool) → leb (length h.value) room ≡ b → (p : Option (Got Token)) → token_rest h.value h.rest ≡ p
        → limited_token room (after (Some h) token_rest) ≡ after (cond (leb (length h.value) room) (Some h) None) token_rest
    go true e None f = unfold after limited_token in rw (e, f)
    go true e (Some g) f = unfold after limited_token in rw (e, f, rest_text h.value h.rest g f, e)
    go false e None f = unfold after limited_token in rw (e, f)
    go false e (Some g) f = unfold after limited_token in rw (e, f, rest_text h.value h.rest g f, e)

pub token_go : (s t : List ℕ) (room : ℕ) → got tt t ≡ member (ascii "{") (ascii "\"t\"") s → limited_token room (token s) ≡ after (limited room (string t)) token_rest
token_go s t room e = sym (sym (swap room (string t)) ∙ ap (limited_token room) (first ∙ token_is s))
  where
    first : after (string t) token_rest ≡ after (member (ascii "{") (ascii "\"t\"") s) (λ _ y. after (string y) token_rest)
    first = unfold after in rw (← e)

pub token_no : (s : List ℕ) (room : ℕ) → None ≡ member (ascii "{") (ascii "\"t\"") s → limited_token room (token s) ≡ None
unfolding token after limited_token
token_no s room e = rw (← e)

pub kind_small : (v : ℕ) (s t : List ℕ) → got v s ≡ token_kind t → v ≤ 7
kind_small v s t e = token_kind_below t (record { value = v; rest = s }) (sym e)

pub ruleset members = (steps, lexeme_is, or_got, or_none)
