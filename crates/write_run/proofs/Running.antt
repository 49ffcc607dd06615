-- What the columns hold with a run of tokens more.
--   run_words_full, run_words_short, run_ends_passed, run_ends_full    there is no room for it
--   run_added                                                          it is written
-- Assumes nothing.
use mathlib.Core.Path.{◌≡◌, refl, sym, ap, subst, ◌∙◌}
use mathlib.Core.Bool.{true}
use mathlib.Core.List.{List, [], ◌∷◌, ◌++◌, map, append-nil, append_assoc}
use Prim.Native.Nat.{ℕ, suc, ◌+◌, ◌-◌, ◌/◌, ◌%◌, ◌≤◌, ◌<◌}
use native.Mathlib.Omega.{arith}
use lib.ListN.{length, take, get_or, length-append}
use Rattle.definitions.specs.Lists.{last, part}
use Rattle.definitions.specs.Model.{Token, no_token, text}
use Rattle.definitions.specs.Columns.{token_list, token_words_from, all_tokens}
use Rattle.definitions.specs.Questions.{covers}
use Rattle.definitions.specs.Calls.{Columns}
use Rattle.text.proofs.Parts.{length_part, part_get}
use Rattle.model.specs.Places.{token_start, start_from}
use Rattle.model.proofs.Decode.{start_pred, token_at, length_tokens}
use Rattle.model.proofs.Formed.{run_text, token_within}
use Rattle.write.specs.State.{State, add_bytes, last_kind, written_tokens, written_bytes}
use Rattle.write.specs.Holds.{columns, text_lent, open_lent, Filled, Held, Room, Writes}
use Rattle.write.specs.declared.Cursor.{Cursor}
use Rattle.write.specs.declared.Writer.{Writer}
use Rattle.write.proofs.Steps.{text_alone}
use Rattle.write.proofs.Words.{text_append, length_token_words}
use Rattle.write_run.specs.Runs.{moved, add_run, Running}
use Rattle.write_run.proofs.Moving.{starts_rise, run_words}

token_words_append : (n : ℕ) (ts us : List Token) → token_words_from n (ts ++ us) ≡ token_words_from n ts ++ token_words_from (n + length (text ts)) us
unfolding token_words_from text
token_words_append n [] us =
    let e : n + 0 ≡ n = omega arith in
    rw e
token_words_append n (t ∷ ts) us =
    let e : n + length t.text + length (text ts) ≡ n + length (t.text ++ text ts) = simp length-append (omega arith) in
    rw (token_words_append (n + length t.text) ts us, e)

module _ (us : List Token) (s : State) (none : s.bytes ≡ []) where
  run_tokens : written_tokens (add_run us s) ≡ written_tokens s ++ us
  run_tokens = sym (append_assoc (all_tokens s.lines) s.tokens us)

  run_bytes : written_bytes (add_run us s) ≡ written_bytes s ++ text us
  run_bytes = append-nil _ ∙ ap text run_tokens ∙ text_append (written_tokens s) us ∙ rw (none, append-nil)

  bytes_run : written_bytes (add_bytes (text us) s) ≡ written_bytes (add_run us s)
  bytes_run = sym (append_assoc (text (written_tokens s)) s.bytes (text us)) ∙ sym run_bytes

-- So what has room after it had room before.

record Alike (out out' : Columns) : Type 0 where
  lines : length out'.lines ≡ length out.lines
  addresses : length out'.addresses ≡ length out.addresses
  tokens : length out'.tokens ≡ length out.tokens
  text : length out'.text ≡ length out.text

module _ (us : List Token) (s : State) (none : s.bytes ≡ []) (out out' : Columns) (same : Alike out out') (r : Room (add_run us s) out') where
  room_bytes : Room (add_bytes (text us) s) out
  room_bytes = record {
    lines = omega (arith, r.lines, same.lines);
    addresses = omega (arith, r.addresses, same.addresses);
    tokens = omega (arith, r.tokens, same.tokens, ap length (run_tokens us s none), length-append (written_tokens s) us);
    text = omega (arith, r.text, same.text, ap length (bytes_run us s none));
    token_ends = omega (arith, r.token_ends, ap length (bytes_run us s none));
    line_ends = omega (arith, r.line_ends, ap length (run_tokens us s none), length-append (written_tokens s) us);
  }

  room_before : Room s out
  room_before =
      let b = room_bytes in
      record {
        lines = b.lines;
        addresses = b.addresses;
        tokens = b.tokens;
        text = omega (arith, b.text, ap length (append_assoc (text (written_tokens s)) s.bytes (text us)), length-append (written_bytes s) (text us));
        token_ends = omega (arith, b.token_ends, ap length (append_assoc (text (written_tokens s)) s.bytes (text us)), length-append (written_bytes s) (text us));
        line_ends = b.line_ends;
      }

alike : (out : Columns) → Alike out out
alike out = record { lines = refl; addresses = refl; tokens = refl; text = refl }

count_tokens : {s : State} {out : Columns} {c : Cursor} → Held s out c → c.tokens ≡ length (written_tokens s)
count_tokens {s} h = sym h.tokens.count ∙ length_token_words 0 (written_tokens s)

count_text : {s : State} {out : Columns} {c : Cursor} → Held s out c → c.text ≡ length (written_bytes s)
count_text h = sym h.text.count

last_kind_append : (ts : List Token) (u : Token) (us : List Token) → last_kind (ts ++ (u ∷ us)) ≡ last_kind (u ∷ us)
unfolding last
last_kind_append [] u us = refl
last_kind_append (t ∷ []) u us = refl
last_kind_append (t ∷ (v ∷ ts)) u us = last_kind_append (v ∷ ts) u us

last_kind_at : (u : Token) (us : List Token) → last_kind (u ∷ us) ≡ (get_or (u ∷ us) (length us) no_token).kind
unfolding last
last_kind_at u [] = refl
last_kind_at u (v ∷ us) = last_kind_at v us

kind_at_end : (ts us : List Token) (n : ℕ) → length us ≡ suc n → last_kind (ts ++ us) ≡ (get_or us n no_token).kind
kind_at_end ts [] n e = absurd (omega arith)
kind_at_end ts (u ∷ us) n e =
    let z : length us ≡ n = omega arith in
    last_kind_append ts u us ∙ last_kind_at u us ∙ rw z

module _ (t x : List ℕ) (ok : covers 256 0 t (length x) ≡ true) (f e : ℕ) (h : f < e) (k : e ≤ length t) where
  run_length : length (part f e (token_list t x)) ≡ e - f
  run_length = length_part (token_list t x) f e ∙ omega (arith, length_tokens t x)

  pub run_start : token_start t f ≤ token_start t e
  run_start =
      let z : f + (e - f) ≡ e = omega arith in
      rw z at (starts_rise t x ok (e - f) f (omega arith))

  run_end : token_start t e ≤ length x
  run_end = rw (← start_pred 256 0 t e (λ z. omega arith)) (token_within t x ok (e - 1) (omega arith))

  -- each word of the run ends between its first byte and its last
  pub run_within : (b j : ℕ) → b < 16777216 → token_start t e - token_start t f < 16777216 - b → j < length (part f e t)
      → (token_start t f ≤ get_or (part f e t) j 0 / 256) × (get_or (part f e t) j 0 / 256 + b < token_start t f + 16777216)
  run_within b j m g i =
      let n : j < e - f = omega (arith, length_part t f e) in
      let z : suc (f + j) + (e - suc (f + j)) ≡ e = omega arith in
      let y : f + suc j ≡ suc (f + j) = omega arith in
      let p : token_start t f ≤ token_start t (suc (f + j)) = rw y at (starts_rise t x ok (suc j) f (omega arith)) in
      let q : token_start t (suc (f + j)) ≤ token_start t e = rw z at (starts_rise t x ok (e - suc (f + j)) (suc (f + j)) (omega arith)) in
      rw (part_get 0 t f e j n) (go p q)
    where
      go : token_start t f ≤ token_start t (suc (f + j)) → token_start t (suc (f + j)) ≤ token_start t e
          → (token_start t f ≤ get_or t (f + j) 0 / 256) × (get_or t (f + j) 0 / 256 + b < token_start t f + 16777216)
      go p q = unfold start_from in (omega arith, omega arith)

  text_length : length (text (part f e (token_list t x))) ≡ token_start t e - token_start t f
  text_length = rw (run_text t x ok f e (omega arith) k) (length_part x (token_start t f) (token_start t e) ∙ omega (arith, run_start, run_end))

  last_kind_run : (ts : List Token) → last_kind (ts ++ part f e (token_list t x)) ≡ get_or t (e - 1) 0 % 256
  last_kind_run ts =
      let z : f + (e - f - 1) ≡ e - 1 = omega arith in
      kind_at_end ts (part f e (token_list t x)) (e - f - 1) (run_length ∙ omega arith)
      ∙ ap (λ (u : Token). u.kind) (part_get no_token (token_list t x) f e (e - f - 1) (omega arith)) ∙ rw (z, token_at t x (e - 1))

  module _ (l a w b : List ℕ) (c : Cursor) where
    no_run : ((s : State) → Room (add_run (part f e (token_list t x)) s) (columns l a w b) → Held s (columns l a w b) c → s.bytes ≡ [] → ⊥)
        → Running (part f e (token_list t x)) (columns l a w b) c (columns l a w b) c
    no_run full s none holds = record {
      given = λ r. absurd (full s r (holds.given (room_before (part f e (token_list t x)) s none (columns l a w b) (columns l a w b) (alike (columns l a w b)) r)) none);
    }

    few : (s : State) → s.bytes ≡ [] → Room (add_run (part f e (token_list t x)) s) (columns l a w b) → Held s (columns l a w b) c → c.tokens + (e - f) ≤ length w
    few s none r held =
        omega (arith, r.tokens, ap length (run_tokens (part f e (token_list t x)) s none), length-append (written_tokens s) (part f e (token_list t x)), run_length, count_tokens held)

    low : (s : State) → s.bytes ≡ [] → Room (add_run (part f e (token_list t x)) s) (columns l a w b) → Held s (columns l a w b) c
        → c.text + (token_start t e - token_start t f) < 16777216
    low s none r held =
        omega (arith, r.token_ends, ap length (run_bytes (part f e (token_list t x)) s none), length-append (written_bytes s) (text (part f e (token_list t x))), text_length, count_text held)

    pub run_words_full : length w < c.tokens → Running (part f e (token_list t x)) (columns l a w b) c (columns l a w b) c
    run_words_full g = no_run (λ s r held none. omega (arith, few s none r held))

    pub run_words_short : length w - c.tokens < e - f → Running (part f e (token_list t x)) (columns l a w b) c (columns l a w b) c
    run_words_short g = no_run (λ s r held none. omega (arith, few s none r held))

    pub run_ends_passed : 16777216 ≤ c.text → Running (part f e (token_list t x)) (columns l a w b) c (columns l a w b) c
    run_ends_passed g = no_run (λ s r held none. omega (arith, low s none r held))

    pub run_ends_full : (a₁ e₁ : ℕ) → a₁ ≡ token_start t f → e₁ ≡ token_start t e → c.text < 16777216 → 16777216 - c.text ≤ e₁ - a₁
        → Running (part f e (token_list t x)) (columns l a w b) c (columns l a w b) c
    run_ends_full a₁ e₁ p q g m = no_run (λ s r held none. omega (arith, low s none r held, p, q))

  module _ (o : Columns) (u v : Writer) (t' y : List ℕ) (a₁ e₁ z : ℕ) (p : a₁ ≡ token_start t f) (q : e₁ ≡ token_start t e)
      (st : length t' ≡ length v.tokens.now) (yy : y ≡ part a₁ e₁ x) (zz : z ≡ get_or t (e - 1) 0) where
    abbrev before_bytes : Columns
    before_bytes = open_lent o u

    abbrev behind : Columns
    behind = columns o.lines o.addresses v.tokens.now v.text.now

    abbrev moved_behind : Columns
    moved_behind = columns o.lines o.addresses t' v.text.now

    pub run_added : Writes text_lent (add_bytes y) u v
        → Filled (take u.written.tokens v.tokens.now ++ map (moved a₁ u.written.text) (part f e t)) (u.written.tokens + length (part f e t)) t'
        → Running (part f e (token_list t x)) before_bytes u.written moved_behind
        (record { lines = v.written.lines; tokens = u.written.tokens + (e - f); text = v.written.text; last = z % 256 })
    run_added writes moves s none holds = record {
      given = λ r.
          let us : List Token = part f e (token_list t x) in
          let w = text_alone writes in
          let ty : y ≡ text us = yy ∙ rw (p, q) (sym (run_text t x ok f e (omega arith) k)) in
          let held = holds.given (room_before us s none before_bytes moved_behind
          (record { lines = refl; addresses = refl; tokens = st ∙ w.same.tokens_length; text = w.same.text_length }) r) in
          let room = room_bytes us s none behind moved_behind (record { lines = refl; addresses = refl; tokens = st; text = refl }) r in
          let after = (w.holds o s holds).given (rw ty room) in
          record {
            lines = after.lines;
            addresses = after.addresses;
            tokens = filled s none held after;
            text = rw (ty, bytes_run us s none) at after.text;
            last = rw zz (sym (last_kind_run s.tokens));
          };
    }
      where
        filled : (s : State) → s.bytes ≡ [] → Held s before_bytes u.written → Held (add_bytes y s) behind v.written
            → Filled (token_words_from 0 (written_tokens (add_run (part f e (token_list t x)) s))) (u.written.tokens + (e - f)) t'
        filled s none held after =
            let us : List Token = part f e (token_list t x) in
            let d : length (part f e t) ≡ e - f = length_part t f e ∙ omega arith in
            let n : 0 + length (text (written_tokens s)) ≡ token_start t f - a₁ + u.written.text =
            omega (arith, p, count_text held, length-append (text (written_tokens s)) s.bytes, ap length none) in
            let before : take u.written.tokens v.tokens.now ≡ token_words_from 0 (written_tokens s) =
            ap (λ (m : ℕ). take m v.tokens.now) (sym held.tokens.count ∙ after.tokens.count) ∙ after.tokens.is in
            let words : token_words_from 0 (written_tokens (add_run us s)) ≡ take u.written.tokens v.tokens.now ++ map (moved a₁ u.written.text) (part f e t) =
            ap (token_words_from 0) (run_tokens us s none) ∙ token_words_append 0 (written_tokens s) us
            ∙ rw (n, run_words t x ok a₁ u.written.text (e - f) f e (omega arith) k (omega (arith, p)), before) in
            rw words (subst (λ (m : ℕ). Filled (take u.written.tokens v.tokens.now ++ map (moved a₁ u.written.text) (part f e t)) (u.written.tokens + m) t') d moves)
