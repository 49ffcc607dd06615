-- The loop over lines, by what the code has read of them.
--   Going       the columns hold the lines L, and what is left decides
--   start, full, room_n, room_x, limit_x, no_line, pack_n, no_sep, closes, goes_on     that loop's needs
-- Assumes nothing.
use Rattle.std.specs.Prelude.{if◌then◌else◌, Option, None, Some}
use mathlib.Core.Bool.{true, false}
use mathlib.Core.Path.{◌≡◌, refl, sym, ap, ◌∙◌}
use mathlib.Core.List.{List, [], ◌∷◌, ◌++◌, append_assoc}
use Prim.Native.Nat.{ℕ, suc, ◌+◌, ◌*◌, ◌≤◌, ◌<◌, min}
use native.Mathlib.Nat.{add-zero}
use native.Mathlib.Numerals.{add-one}
use native.Mathlib.Omega.{arith}
use lib.ListN.{length, take, set, length-append, length-set}
use lib.Seq.{take-suc-set}
use Rattle.definitions.specs.Lists.{concat, is_some}
use Rattle.definitions.specs.Model.{Token, Line, text}
use Rattle.definitions.specs.Columns.{all_tokens, token_words_from, line_words_from, line_words, address_words, token_words, text_bytes}
use Rattle.write.proofs.Words.{text_append, all_tokens_snoc, line_words_snoc, address_words_snoc}
use Rattle.json_definitions.specs.Parser.{Got, got, pure, after}
use Rattle.json_definitions.specs.Reader.{line}
use Rattle.json_theory.specs.Steps.{separator, elements_from, items}
use Rattle.json_theory.proofs.Results.{never, same_got, after_some}
use Rattle.json_theory.proofs.Progress.{line_rest}
use Rattle.json_theory.proofs.Elements.{elements_close, elements_more, elements_none}
use Rattle.json_lines.specs.InColumns.{ReadLine, NoLine}
use Rattle.json_listing.specs.InColumns.{ReadListing, NoListing}

-- Columns of lines put one after the other

token_words_append : (y : ℕ) (a b : List Token) → token_words_from y (a ++ b) ≡ token_words_from y a ++ token_words_from (y + length (text a)) b
unfolding token_words_from text
token_words_append y [] b = rw (add-zero y)
token_words_append y (t ∷ a) b =
    let z : y + length t.text + length (text a) ≡ y + length (t.text ++ text a) = rw length-append (omega arith) in
    rw (token_words_append (y + length t.text) a b, z)

all_tokens_append : (a b : List Line) → all_tokens (a ++ b) ≡ all_tokens a ++ all_tokens b
unfolding concat
all_tokens_append [] b = refl
all_tokens_append (l ∷ a) b = rw (all_tokens_append a b, append_assoc l.tokens (all_tokens a) (all_tokens b))

one : (t : Line) (o : Option (Got (List Line))) (x : List ℕ) → o ≡ got [] x → after o (λ xs. pure (t ∷ xs)) ≡ got (t ∷ []) x
unfolding after
one t o x e = rw e

nothing : (t : Line) (o : Option (Got (List Line))) → o ≡ None → after o (λ xs. pure (t ∷ xs)) ≡ None
unfolding after
nothing t o e = rw e

unfoldable pub prepend : List Line → Option (Got (List Line)) → Option (Got (List Line))
prepend ts o = after o (λ us. pure (ts ++ us))

joins : (a : List Line) (t : Line) (o : Option (Got (List Line))) → prepend a (after o (λ xs. pure (t ∷ xs))) ≡ prepend (a ++ (t ∷ [])) o
unfolding prepend after
joins a t None = refl
joins a t (Some g) = rw (append_assoc a (t ∷ []) g.value)

all : (a : List Line) (o : Option (Got (List Line))) (b : List Line) (x : List ℕ) → o ≡ got b x → prepend a o ≡ got (a ++ b) x
unfolding prepend after
all a o b x e = rw e

same : (o : Option (Got (List Line))) → o ≡ prepend [] o
unfolding prepend after
same None = refl
same (Some g) = refl

pub record Going (s : List ℕ) (a b c d : ℕ) (ln ad tk tx rest : List ℕ) (k n x : ℕ) : Type 0 where
  pub L : List Line
  pub so_far : items line s ≡ prepend L (items line rest)
  pub count : k ≡ length L
  pub tokens : n ≡ length (all_tokens L)
  pub bytes : x ≡ length (text_bytes L)
  pub lines : take k ln ≡ line_words L
  pub addresses : take k ad ≡ address_words L
  pub words : take n tk ≡ token_words L
  pub texts : take x tx ≡ text_bytes L
  pub long_ln : length ln ≡ a
  pub long_ad : length ad ≡ b
  pub long_tk : length tk ≡ c
  pub long_tx : length tx ≡ d
  pub high_n : n ≤ c
  pub high_x : x ≤ d
  pub limit_tk : c ≤ 16384
  pub limit_tx : d ≤ 262144

pub start : (s ln ad tk tx : List ℕ) → length tk ≤ 16384 → length tx ≤ 262144 → Going s (length ln) (length ad) (length tk) (length tx) ln ad tk tx s 0 0 0
unfolding concat text token_words_from line_words_from
start s ln ad tk tx h k =
    record {
      L = [];
      so_far = same (items line s);
      count = refl;
      tokens = refl;
      bytes = refl;
      lines = refl;
      addresses = refl;
      words = refl;
      texts = refl;
      long_ln = refl;
      long_ad = refl;
      long_tk = refl;
      long_tx = refl;
      high_n = omega arith;
      high_x = omega arith;
      limit_tk = h;
      limit_tx = k;
    }

first_of : (y : List ℕ) (g : Got (List Line)) → items line y ≡ Some g → (h : Got Line) × (line y ≡ Some h) × ((r : Got (List Line)) × (elements_from line h.rest ≡ Some r) × (g.value ≡ h.value ∷ r.value))
unfolding items
first_of y g e =
    let a = after_some (line y) _ g e in
    let b = after_some (elements_from line a.0.rest) _ g a.2 in
    (a.0, a.1, (b.0, b.1, sym (ap (λ (z : Got (List Line)). z.value) (same_got _ g b.2))))

module _ (s : List ℕ) (a b c d : ℕ) (ln ad tk tx rest : List ℕ) (k n x : ℕ) (go : Going s a b c d ln ad tk tx rest k n x) where
  lift : ((g : Got (List Line)) → items line rest ≡ Some g → k + length g.value ≤ a → k + length g.value ≤ b → n + length (all_tokens g.value) ≤ c → x + length (text_bytes g.value) ≤ d → ⊥)
      → NoListing (items line s) a b c d
  unfolding prepend
  lift f =
      record {
        never = λ g e h₁ h₂ h₃ h₄.
            let q = after_some (items line rest) _ g (sym go.so_far ∙ e) in
            let v : g.value ≡ go.L ++ q.0.value = sym (ap (λ (z : Got (List Line)). z.value) (same_got _ g q.2)) in
            let c₁ = go.count in
            let c₂ = go.tokens in
            let c₃ = go.bytes in
            let l : length g.value ≡ length go.L + length q.0.value = ap length v ∙ length-append go.L q.0.value in
            let t : all_tokens g.value ≡ all_tokens go.L ++ all_tokens q.0.value = ap all_tokens v ∙ all_tokens_append go.L q.0.value in
            let m : length (all_tokens g.value) ≡ length (all_tokens go.L) + length (all_tokens q.0.value) = ap length t ∙ length-append (all_tokens go.L) (all_tokens q.0.value) in
            let o : length (text_bytes g.value) ≡ length (text_bytes go.L) + length (text_bytes q.0.value) =
            ap (λ (z : List Token). length (text z)) t ∙ ap length (text_append (all_tokens go.L) (all_tokens q.0.value)) ∙ length-append (text_bytes go.L) (text_bytes q.0.value) in
            f q.0 q.1 (omega arith) (omega arith) (omega arith) (omega arith);
      }

  pub full : min (length ln) (length ad) ≤ k → NoListing (items line s) a b c d
  full h = lift (λ g e h₁ h₂ h₃ h₄.
      let f = first_of rest g e in
      let z : length g.value ≡ suc (length f.2.0.value) = ap length f.2.2 in
      let w = go.long_ln in
      let v = go.long_ad in
      omega arith)

  pub room_n : n ≤ length tk
  room_n = let z = go.high_n in let w = go.long_tk in omega arith

  pub room_x : x ≤ length tx
  room_x = let z = go.high_x in let w = go.long_tx in omega arith

  pub limit_x : length tx ≤ 262144
  limit_x = let z = go.limit_tx in let w = go.long_tx in omega arith

  pub no_line : NoLine (line rest) tk tx n x → NoListing (items line s) a b c d
  no_line z = lift (λ g w h₁ h₂ h₃ h₄.
      let f = first_of rest g w in
      let t : all_tokens g.value ≡ f.0.value.tokens ++ all_tokens f.2.0.value = ap all_tokens f.2.2 ∙ (unfold concat in refl) in
      let m : length (all_tokens g.value) ≡ length f.0.value.tokens + length (all_tokens f.2.0.value) = ap length t ∙ length-append f.0.value.tokens (all_tokens f.2.0.value) in
      let o : length (text_bytes g.value) ≡ length (text f.0.value.tokens) + length (text_bytes f.2.0.value) =
      ap (λ (y : List Token). length (text y)) t ∙ ap length (text_append f.0.value.tokens (all_tokens f.2.0.value)) ∙ length-append (text f.0.value.tokens) (text_bytes f.2.0.value) in
      let w₁ = go.long_tk in
      let w₂ = go.long_tx in
      z.never f.0 f.1 (omega arith) (omega arith))

  module _ (tk' tx' t : List ℕ) (m y f u : ℕ) (row : ReadLine (line rest) tk tx n x tk' tx' t m y f u) where
    pub pack_n : m ≤ 16384
    pack_n = let z = row.room.0 in let w = go.long_tk in let v = go.limit_tk in omega arith

    after_it : items line rest ≡ after (elements_from line t) (λ xs. pure (row.line ∷ xs))
    unfolding items after
    after_it = rw row.is

    pub no_sep : None ≡ separator t → NoListing (items line s) a b c d
    no_sep o = lift (λ g e h₁ h₂ h₃ h₄.
        let z : elements_from line t ≡ None = elements_none line line_rest t [] (sym o) in
        let y : items line rest ≡ None = after_it ∙ nothing row.line (elements_from line t) z in
        never g (sym y ∙ e))

    module _ (v : ℕ) (pv : v ≡ m * 512 + f) (lk : length tk' ≡ length tk) (lx : length tx' ≡ length tx) (hk : k < length ln) (ha : k < length ad) where
      abbrev more : List Line
      more = go.L ++ (row.line ∷ [])

      lines' : take (k + 1) (set ln k v) ≡ line_words more
      lines' =
          let z = row.count in
          let w = go.tokens in
          let y : 0 + length (all_tokens go.L ++ row.line.tokens) ≡ m = rw length-append (omega arith) in
          let f' = row.word in
          let v' : v ≡ m * 512 + (if is_some row.line.address then 256 else 0) + row.line.indent = omega arith in
          rw (add-one, take-suc-set ln k v hk, go.lines, line_words_snoc 0 go.L row.line, y, v')

      addresses' : take (k + 1) (set ad k u) ≡ address_words more
      addresses' = rw (add-one, take-suc-set ad k u ha, go.addresses, address_words_snoc go.L row.line, ← row.address)

      words' : take m tk' ≡ token_words more
      words' =
          let w = go.bytes in
          let z : 0 + length (text_bytes go.L) ≡ x = omega arith in
          row.words ∙ rw (go.words, all_tokens_snoc go.L row.line, token_words_append 0 (all_tokens go.L) row.line.tokens, z)

      texts' : take y tx' ≡ text_bytes more
      texts' = row.texts ∙ rw (go.texts, all_tokens_snoc go.L row.line, text_append (all_tokens go.L) row.line.tokens)

      count' : k + 1 ≡ length more
      count' = let z = go.count in rw length-append (omega arith)

      tokens' : m ≡ length (all_tokens more)
      tokens' = let z = go.tokens in let w = row.count in rw (all_tokens_snoc, length-append) (omega arith)

      bytes' : y ≡ length (text_bytes more)
      bytes' = let z = go.bytes in let w = row.bytes in rw (all_tokens_snoc, text_append, length-append) (omega arith)

      pub closes : (r : List ℕ) → got false r ≡ separator t → ReadListing (items line s) a b c d (set ln k v) (set ad k u) tk' tx' r (k + 1) m y
      closes r o =
          let z : elements_from line t ≡ got [] r = elements_close line line_rest t r (sym o) in
          let g : items line rest ≡ got (row.line ∷ []) r = after_it ∙ one row.line (elements_from line t) r z in
          let w₁ = go.long_ln in let w₂ = go.long_ad in let w₃ = go.long_tk in let w₄ = go.long_tx in let r₁ = row.room.0 in let r₂ = row.room.1 in
          record {
            L = more;
            is = go.so_far ∙ all go.L (items line rest) (row.line ∷ []) r g;
            count = count';
            tokens = tokens';
            bytes = bytes';
            lines = lines';
            addresses = addresses';
            words = words';
            texts = texts';
            room = (omega arith, (omega arith, (omega arith, omega arith)));
          }

      pub goes_on : (r : List ℕ) → got true r ≡ separator t → Going s a b c d (set ln k v) (set ad k u) tk' tx' r (k + 1) m y
      goes_on r o =
          let z : elements_from line t ≡ items line r = elements_more line line_rest t r (sym o) in
          let w₁ = go.long_ln in let w₂ = go.long_ad in let w₃ = go.long_tk in let w₄ = go.long_tx in let r₁ = row.room.0 in let r₂ = row.room.1 in
          record {
            L = more;
            so_far = go.so_far ∙ ap (prepend go.L) (after_it ∙ rw z) ∙ joins go.L row.line (items line r);
            count = count';
            tokens = tokens';
            bytes = bytes';
            lines = lines';
            addresses = addresses';
            words = words';
            texts = texts';
            long_ln = rw length-set w₁;
            long_ad = rw length-set w₂;
            long_tk = lk ∙ w₃;
            long_tx = lx ∙ w₄;
            high_n = omega arith;
            high_x = omega arith;
            limit_tk = go.limit_tk;
            limit_tx = go.limit_tx;
          }
