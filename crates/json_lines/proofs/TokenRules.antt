-- Arrays of tokens, by what the code has read of them.
--   Going                              the loop over tokens: the columns hold the tokens ts, and what is left decides
--   start, full, no_token, no_sep, closes, goes_on    that loop's needs
--   array_no, array_empty, array_more  what stands before it
-- Assumes nothing.
use Rattle.std.specs.Prelude.{Option, None, Some}
use mathlib.Core.Path.{◌≡◌, refl, sym, ap, ◌∙◌}
use mathlib.Core.Bool.{Bool, true, false, cond}
use mathlib.Core.List.{List, [], ◌∷◌, ◌++◌, append_assoc, append-nil}
use Prim.Native.Nat.{ℕ, suc, ◌+◌, ◌*◌, ◌-◌, ◌≤◌, ◌<◌}
use native.Mathlib.Numerals.{add-one}
use native.Mathlib.Omega.{arith}
use borrow.Author.Tests.{leb-false}
use lib.Dec.{leb}
use lib.ListN.{length, take, set, length-append, length-take, length-drop, length-set}
use lib.Seq.{take-suc-set, take-add}
use Rattle.definitions.specs.Lists.{part}
use Rattle.definitions.specs.Model.{Token, tok, text}
use Rattle.definitions.specs.Columns.{token_words_from}
use Rattle.write.proofs.Words.{text_append, text_snoc, token_words_snoc}
use Rattle.json_definitions.specs.Parser.{Got, got, Parser, pure, after, or_try, lexeme, array}
use Rattle.json_definitions.specs.Reader.{token}
use Rattle.json_theory.specs.Steps.{separator, elements_from, items}
use Rattle.json_theory.proofs.Results.{never, same_got, after_some}
use Rattle.json_theory.proofs.Progress.{token_rest as token_shorter}
use Rattle.json_theory.proofs.Elements.{array_items, elements_close, elements_more, elements_none}
use Rattle.json_lines.specs.Answers.{limited_token}
use Rattle.json_lines.specs.InColumns.{ReadTokens, NoTokens}

-- The loop

one : (t : Token) (o : Option (Got (List Token))) (x : List ℕ) → o ≡ got [] x → after o (λ xs. pure (t ∷ xs)) ≡ got (t ∷ []) x
unfolding after
one t o x e = rw e

nothing : (t : Token) (o : Option (Got (List Token))) → o ≡ None → after o (λ xs. pure (t ∷ xs)) ≡ None
unfolding after
nothing t o e = rw e

unfoldable pub prepend : List Token → Option (Got (List Token)) → Option (Got (List Token))
prepend ts o = after o (λ us. pure (ts ++ us))

pub record Going (s tk₀ tx₀ : List ℕ) (nt nx : ℕ) (tk tx rest : List ℕ) (n x : ℕ) : Type 0 where
  pub ts : List Token
  pub so_far : items token s ≡ prepend ts (items token rest)
  pub count : n ≡ nt + length ts
  pub bytes : x ≡ nx + length (text ts)
  pub words : take n tk ≡ take nt tk₀ ++ token_words_from nx ts
  pub texts : take x tx ≡ take nx tx₀ ++ text ts
  pub long_tk : length tk ≡ length tk₀
  pub long_tx : length tx ≡ length tx₀
  pub high_n : n ≤ length tk₀
  pub high_x : x ≤ length tx₀
  pub limit : length tx₀ ≤ 262144

pub start : (s tk tx : List ℕ) (nt nx : ℕ) → nt ≤ length tk → nx ≤ length tx → length tx ≤ 262144 → Going s tk tx nt nx tk tx s nt nx
unfolding prepend text token_words_from
start s tk tx nt nx h k l =
    record {
      ts = [];
      so_far = same (items token s);
      count = omega arith;
      bytes = omega arith;
      words = sym (append-nil (take nt tk));
      texts = sym (append-nil (take nx tx));
      long_tk = refl;
      long_tx = refl;
      high_n = h;
      high_x = k;
      limit = l;
    }
  where
    same : (o : Option (Got (List Token))) → o ≡ after o (λ us. pure us)
    same None = unfold after in refl
    same (Some g) = unfold after in refl

all : (a : List Token) (o : Option (Got (List Token))) (b : List Token) (x : List ℕ) → o ≡ got b x → prepend a o ≡ got (a ++ b) x
unfolding prepend after
all a o b x e = rw e

-- an answer of `items` has a first token
first_of : (y : List ℕ) (g : Got (List Token)) → items token y ≡ Some g → (h : Got Token) × (token y ≡ Some h) × ((r : Got (List Token)) × (elements_from token h.rest ≡ Some r) × (g.value ≡ h.value ∷ r.value))
unfolding items
first_of y g e =
    let a = after_some (token y) _ g e in
    let b = after_some (elements_from token a.0.rest) _ g a.2 in
    (a.0, a.1, (b.0, b.1, sym (ap (λ (z : Got (List Token)). z.value) (same_got _ g b.2))))

limited_none : (room : ℕ) (o : Option (Got Token)) (h : Got Token) → None ≡ limited_token room o → o ≡ Some h → room < length h.value.text
unfolding limited_token
limited_none room o h e f = go (leb (length h.value.text) room) refl (e ∙ ap (limited_token room) f)
  where
    go : (b : Bool) → leb (length h.value.text) room ≡ b → None ≡ cond (leb (length h.value.text) room) (Some h) None → room < length h.value.text
    go true q e = never h (e ∙ rw q)
    go false q e = leb-false (length h.value.text) room q

limited_some : (room : ℕ) (o : Option (Got Token)) (h : Got Token) → Some h ≡ limited_token room o → o ≡ Some h
unfolding limited_token
limited_some room None h e = sym e
limited_some room (Some g) h e = go (leb (length g.value.text) room) e
  where
    go : (b : Bool) → Some h ≡ cond b (Some g) None → Some g ≡ Some h
    go true e = sym e
    go false e = never h (sym e)

module _ (s tk₀ tx₀ : List ℕ) (nt nx : ℕ) (tk tx rest : List ℕ) (n x : ℕ) (go : Going s tk₀ tx₀ nt nx tk tx rest n x) where
  -- what is refused here is refused as a whole
  lift : ((g : Got (List Token)) → items token rest ≡ Some g → n + length g.value ≤ length tk₀ → x + length (text g.value) ≤ length tx₀ → ⊥)
      → NoTokens (items token s) tk₀ tx₀ nt nx
  unfolding prepend
  lift f =
      record {
        never = λ g e a b.
            let q = after_some (items token rest) _ g (sym go.so_far ∙ e) in
            let v : go.ts ++ q.0.value ≡ g.value = ap (λ (z : Got (List Token)). z.value) (same_got _ g q.2) in
            let c = go.count in
            let d = go.bytes in
            let l : length g.value ≡ length go.ts + length q.0.value = ap length (sym v) ∙ length-append go.ts q.0.value in
            let m : length (text g.value) ≡ length (text go.ts) + length (text q.0.value) = ap (λ (z : List Token). length (text z)) (sym v) ∙ ap length (text_append go.ts q.0.value) ∙ length-append (text go.ts) (text q.0.value) in
            f q.0 q.1 (omega arith) (omega arith);
      }

  pub full : length tk ≤ n → NoTokens (items token s) tk₀ tx₀ nt nx
  full h = lift (λ g e a b.
      let f = first_of rest g e in
      let c : length g.value ≡ suc (length f.2.0.value) = ap length f.2.2 in
      let d = go.long_tk in
      omega arith)

  pub no_token : None ≡ limited_token (length tx - x) (token rest) → NoTokens (items token s) tk₀ tx₀ nt nx
  unfolding text
  no_token e = lift (λ g w a b.
      let f = first_of rest g w in
      let l : length tx - x < length f.0.value.text = limited_none (length tx - x) (token rest) f.0 e f.1 in
      let m : length (text g.value) ≡ length f.0.value.text + length (text f.2.0.value) = ap (λ (z : List Token). length (text z)) f.2.2 ∙ length-append f.0.value.text (text f.2.0.value) in
      let d = go.long_tx in
      let h = go.high_x in
      omega arith)

  module _ (tx' : List ℕ) (z k : ℕ) (t : List ℕ) (e : got (tok (part x z tx') k) t ≡ limited_token (length tx - x) (token rest)) where
    abbrev tok₀ : Token
    tok₀ = tok (part x z tx') k

    read : token rest ≡ got tok₀ t
    read = limited_some (length tx - x) (token rest) (record { value = tok₀; rest = t }) e

    after_it : items token rest ≡ after (elements_from token t) (λ xs. pure (tok₀ ∷ xs))
    unfolding items after
    after_it = rw read

    pub no_sep : None ≡ separator t → NoTokens (items token s) tk₀ tx₀ nt nx
    no_sep b = lift (λ g e a b'.
        let d : elements_from token t ≡ None = elements_none token token_shorter t [] (sym b) in
        let y : items token rest ≡ None = after_it ∙ nothing tok₀ (elements_from token t) d in
        never g (sym y ∙ e))

    module _ (v : ℕ) (pv : v ≡ z * 256 + k) (ins : (x ≤ z) × ((z ≤ length tx) × (k ≤ 7))) (kept : take x tx' ≡ take x tx) (lt : length tx' ≡ length tx) (hn : n < length tk) where
      size : length (part x z tx') ≡ z - x
      size = let y = ins in let y₀ = y.0 in let y₁ = y.1.0 in rw (length-take, length-drop) (omega arith)

      words' : take (n + 1) (set tk n v) ≡ take nt tk₀ ++ token_words_from nx (go.ts ++ (tok₀ ∷ []))
      words' =
          let y = ins in let y₀ = y.0 in let c = go.bytes in
          let w : nx + length (text go.ts ++ part x z tx') ≡ z = rw (length-append, size) (omega arith) in
          rw (add-one, take-suc-set tk n v hn, go.words, token_words_snoc nx go.ts tok₀, w, pv) (append_assoc (take nt tk₀) (token_words_from nx go.ts) ((z * 256 + k) ∷ []))

      texts' : take z tx' ≡ take nx tx₀ ++ text (go.ts ++ (tok₀ ∷ []))
      texts' =
          let y = ins in let y₀ = y.0 in
          let w : z ≡ x + (z - x) = omega arith in
          let split : take z tx' ≡ take x tx' ++ part x z tx' = ap (λ (a : ℕ). take a tx') w ∙ take-add x (z - x) tx' in
          split ∙ rw (kept, go.texts, text_snoc go.ts tok₀) (append_assoc (take nx tx₀) (text go.ts) (part x z tx'))

      count' : n + 1 ≡ nt + length (go.ts ++ (tok₀ ∷ []))
      count' = let c = go.count in rw length-append (omega arith)

      bytes' : z ≡ nx + length (text (go.ts ++ (tok₀ ∷ [])))
      bytes' = let y = ins in let y₀ = y.0 in let c = go.bytes in rw (text_snoc, length-append, size) (omega arith)

      pub closes : (u : List ℕ) → got false u ≡ separator t → ReadTokens (items token s) tk₀ tx₀ nt nx (set tk n v) tx' u (n + 1) z
      closes u b =
          let d : elements_from token t ≡ got [] u = elements_close token token_shorter t u (sym b) in
          let y : items token rest ≡ got (tok₀ ∷ []) u = after_it ∙ one tok₀ (elements_from token t) u d in
          let m = go.long_tk in let m' = go.long_tx in let bb = ins in let b₁ = bb.1.0 in
          record {
            ts = go.ts ++ (tok₀ ∷ []);
            is = go.so_far ∙ all go.ts (items token rest) (tok₀ ∷ []) u y;
            count = count';
            bytes = bytes';
            words = words';
            texts = texts';
            room = (omega arith, omega arith);
          }

      pub goes_on : (u : List ℕ) → got true u ≡ separator t → Going s tk₀ tx₀ nt nx (set tk n v) tx' u (n + 1) z
      goes_on u b =
          let d : elements_from token t ≡ items token u = elements_more token token_shorter t u (sym b) in
          let m = go.long_tk in let m' = go.long_tx in let bb = ins in let b₁ = bb.1.0 in
          record {
            ts = go.ts ++ (tok₀ ∷ []);
            so_far = go.so_far ∙ ap (prepend go.ts) (after_it ∙ rw d) ∙ joins go.ts tok₀ (items token u);
            count = count';
            bytes = bytes';
            words = words';
            texts = texts';
            long_tk = rw length-set m;
            long_tx = lt ∙ m';
            high_n = omega arith;
            high_x = omega arith;
            limit = go.limit;
          }
        where
          joins : (a : List Token) (t : Token) (o : Option (Got (List Token))) → prepend a (after o (λ xs. pure (t ∷ xs))) ≡ prepend (a ++ (t ∷ [])) o
          joins a t None = unfold prepend after in refl
          joins a t (Some g) = unfold prepend after in rw (append_assoc a (t ∷ []) g.value)

-- Before the loop

module _ (s : List ℕ) where
  pub array_no : (tk tx : List ℕ) (nt nx : ℕ) → None ≡ lexeme (91 ∷ []) s → NoTokens (array token s) tk tx nt nx
  array_no tk tx nt nx e = record { never = λ g w a b. never g (sym (array_items token s ∙ (stop (lexeme (91 ∷ []) s) (sym e) _)) ∙ w) }
    where
      stop : (o : Option (Got (Unit {0}))) → o ≡ None → (f : Unit {0} → Parser (List Token)) → after o f ≡ None
      stop o h f = unfold after in rw h

  module _ (t : List ℕ) (e : got tt t ≡ lexeme (91 ∷ []) s) where
    opened : array token s ≡ or_try (after (lexeme (93 ∷ []) t) (λ _. pure [])) (items token) t
    opened = array_items token s ∙ (unfold after in rw (← e))

    pub array_empty : (u tk tx : List ℕ) (nt nx : ℕ) → got tt u ≡ lexeme (93 ∷ []) t → nt ≤ length tk → nx ≤ length tx → ReadTokens (array token s) tk tx nt nx tk tx u nt nx
    unfolding text token_words_from
    array_empty u tk tx nt nx e₂ h k =
        record {
          ts = [];
          is = opened ∙ (unfold or_try after in rw (← e₂));
          count = omega arith;
          bytes = omega arith;
          words = sym (append-nil (take nt tk));
          texts = sym (append-nil (take nx tx));
          room = (h, k);
        }

    pub array_more : None ≡ lexeme (93 ∷ []) t → array token s ≡ items token t
    unfolding or_try after
    array_more e₂ = opened ∙ rw (← e₂)
