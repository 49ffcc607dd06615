-- A line, by what the code has read of it.
--   line_no_head, line_no_tokens, line_no_end    no line
--   indent_small, word_of, line_whole            a line
-- Assumes nothing.
use Rattle.std.specs.Prelude.{if◌then◌else◌, Option, None, Some, unwrap_or}
use mathlib.Core.Path.{◌≡◌, sym, ap, ◌∙◌}
use mathlib.Core.List.{List, [], ◌∷◌}
use Prim.Native.Nat.{ℕ, ◌≤◌, zero-le}
use native.Mathlib.Nat.{le_refl}
use native.Mathlib.Omega.{arith}
use Rattle.definitions.specs.Lists.{ascii, is_some, or_else}
use Rattle.definitions.specs.Model.{Token, Line, pseudo_line}
use Rattle.json_definitions.specs.Parser.{Got, got, Parser, pure, after, lexeme, array}
use Rattle.json_definitions.specs.Reader.{Head, token, head, line}
use Rattle.json_theory.proofs.Results.{never, same_got, after_some}
use Rattle.json_theory.proofs.Bounds.{head_below}
use Rattle.json_lines.specs.InColumns.{ReadTokens, NoTokens, low_word, ReadLine, NoLine}

flag_small : (a : Option ℕ) → (if is_some a then 256 else 0) ≤ 256
flag_small None = zero-le
flag_small (Some v) = le_refl 256

pub word_of : (a : Option ℕ) (w : ℕ) → w ≡ unwrap_or a 0 → w ≡ or_else a 0
word_of None w e = e
word_of (Some v) w e = e

stopped : {A B : Type 0} (o : Option (Got A)) (f : A → Parser B) → o ≡ None → after o f ≡ None
unfolding after
stopped o f h = rw h

finished : {A : Type 0} (o : Option (Got (Unit {0}))) (v : A) (x : List ℕ) → o ≡ got tt x → after o (λ _. pure v) ≡ got v x
unfolding after
finished o v x h = rw h

pub indent_small : (h : Head) (t s : List ℕ) → got h t ≡ head s → h.indent ≤ 255
indent_small h t s e = head_below s (record { value = h; rest = t }) (sym e)

module _ (s tk tx : List ℕ) (nt nx : ℕ) where
  pub line_no_head : None ≡ head s → NoLine (line s) tk tx nt nx
  unfolding line
  line_no_head e = record { never = λ g w a b. never g (sym (stopped (head s) _ (sym e)) ∙ w) }

  module _ (h : Head) (t : List ℕ) (e : got h t ≡ head s) where
    abbrev made : List Token → Line
    made ts = pseudo_line h.address h.indent ts

    headed : line s ≡ after (array token t) (λ ts x. after (lexeme (ascii "}") x) (λ _. pure (made ts)))
    unfolding line after
    headed = rw (← e)

    made_of : (g : Got Line) → line s ≡ Some g → (k : Got (List Token)) × (array token t ≡ Some k) × (g.value.tokens ≡ k.value)
    made_of g w =
        let u = after_some (array token t) _ g (sym headed ∙ w) in
        let v = after_some (lexeme (ascii "}") u.0.rest) _ g u.2 in
        (u.0, u.1, sym (ap (λ (y : Got Line). y.value.tokens) (same_got _ g v.2)))

    pub line_no_tokens : NoTokens (array token t) tk tx nt nx → NoLine (line s) tk tx nt nx
    line_no_tokens z = record { never = λ g w a b. let m = made_of g w in z.never m.0 m.1 (rw (← m.2) a) (rw (← m.2) b) }

    module _ (tk' tx' u : List ℕ) (n x : ℕ) (filled : ReadTokens (array token t) tk tx nt nx tk' tx' u n x) where
      read : line s ≡ after (lexeme (ascii "}") u) (λ _. pure (made filled.ts))
      unfolding after
      read = headed ∙ rw filled.is

      pub line_no_end : None ≡ lexeme (125 ∷ []) u → NoLine (line s) tk tx nt nx
      line_no_end c = record { never = λ g z a b. never g (sym (read ∙ stopped (lexeme (ascii "}") u) _ (sym c)) ∙ z) }

      pub line_whole : (k : List ℕ) (v w : ℕ) → got tt k ≡ lexeme (125 ∷ []) u → v ≡ low_word h.address h.indent → w ≡ or_else h.address 0 → ReadLine (line s) tk tx nt nx tk' tx' k n x v w
      line_whole k v w c g o =
          record {
            line = made filled.ts;
            is = read ∙ finished (lexeme (ascii "}") u) (made filled.ts) k (sym c);
            count = filled.count;
            bytes = filled.bytes;
            words = filled.words;
            texts = filled.texts;
            room = filled.room;
            word = g;
            small = let z = indent_small h t s e in let y = flag_small h.address in omega arith;
            address = o;
          }
