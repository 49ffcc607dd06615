-- The steps of the writer: from what is stored, what the columns hold. A step for which there is no room stores nothing; it holds because
-- what it would write has no room.
--   text_passed, text_full                      no room for bytes
--   tokens_full, token_ends_full                no room for a token, or for its end in its word
--   lines_full, addresses_full, line_ends_full  no room for a line, or for its end in its word
--   extension_none, extension_passed, extension_full    no last token, none in its column, no room for its new end
--   bytes_added, token_ended, line_ended, token_extended    a step that writes
--   apart_written, apart                        a token that joins no other
--   same_self, same_more, not_written           of the same columns
--   text_alone, tokens_alone                    a function that is lent one column leaves the other of the two
--   open_written, lines_written                 what is written, of all four columns
--   in_turn                                     one step behind another
--   nothing_held                                before the first step
--   finished                                    zeros behind the cursor
--   steps                                       the rules
-- Assumes nothing.
use Rattle.std.specs.Prelude.{if◌then◌else◌, Option}
use mathlib.Core.Path.{◌≡◌, refl, sym, ap, subst, ◌∙◌}
use mathlib.Core.Bool.{Bool, true, false}
use mathlib.Core.List.{List, [], ◌∷◌, ◌++◌, append-nil, append_assoc}
use Prim.Native.Nat.{ℕ, ◌+◌, ◌-◌, ◌*◌, ◌≤◌, ◌<◌}
use native.Mathlib.Nat.{zero-add}
use native.Mathlib.Omega.{arith}
use lib.ListN.{length, take, set, length-append, length-set}
use Rattle.definitions.specs.Lists.{is_some, or_else, last, concat}
use Rattle.definitions.specs.Model.{Token, Line, tok, pseudo_line, text}
use Rattle.definitions.specs.Columns.{line_words_from, token_words_from, all_tokens, text_bytes}
use Rattle.definitions.specs.Statements.{joins}
use Rattle.definitions.specs.Calls.{Columns, filled}
use Rattle.text.specs.Zeroed.{zeroed}
use Rattle.write.specs.State.{State, done, add_bytes, end_token, end_merged, end_line, merge_last, kinds_join, last_kind, written_tokens, written_bytes}
use Rattle.write.specs.Holds.{columns, columns_of, text_lent, tokens_lent, open_lent, lines_lent, Filled, Held, Room, Holds, Writing, Finished, Same, Writes}
use Rattle.write.specs.declared.Cursor.{Cursor}
use Rattle.write.specs.declared.Writer.{Writer}
use Rattle.write.proofs.Words.{text_append, text_snoc, all_tokens_snoc, token_words_snoc, line_words_snoc, address_words_snoc, length_token_words, length_line_words, filled_start, filled_push, filled_within, filled_last}
use Rattle.write.proofs.Merging.{end_view, last_snoc, merge_last_snoc, glue_joins, glue_apart, joins_kind, length_merge_last, text_merge_last}

-- A step writes no less than was written.

record Grows (s s' : State) : Type 0 where
  lines : length s.lines ≤ length s'.lines
  tokens : length (written_tokens s) ≤ length (written_tokens s')
  bytes : length (written_bytes s) ≤ length (written_bytes s')

module _ (s : State) where
  bytes_with_bytes : (b : List ℕ) → written_bytes (add_bytes b s) ≡ written_bytes s ++ b
  bytes_with_bytes b = sym (append_assoc (text (written_tokens s)) s.bytes b)

  tokens_with_token : (k : ℕ) → written_tokens (end_token k s) ≡ written_tokens s ++ (tok s.bytes k ∷ [])
  tokens_with_token k = sym (append_assoc (all_tokens s.lines) s.tokens (tok s.bytes k ∷ []))

  bytes_with_token : (k : ℕ) → written_bytes (end_token k s) ≡ written_bytes s
  bytes_with_token k = append-nil _ ∙ ap text (tokens_with_token k) ∙ text_snoc (written_tokens s) (tok s.bytes k)

  tokens_with_line : (a : Option ℕ) (i : ℕ) → written_tokens (end_line a i s) ≡ written_tokens s
  tokens_with_line a i = append-nil _ ∙ all_tokens_snoc s.lines (pseudo_line a i s.tokens)

  bytes_with_line : (a : Option ℕ) (i : ℕ) → written_bytes (end_line a i s) ≡ written_bytes s
  bytes_with_line a i = ap (λ (ts : List Token). text ts ++ s.bytes) (tokens_with_line a i)

  bytes_with_merged : (k : ℕ) → written_bytes (end_merged k s) ≡ written_bytes s
  bytes_with_merged k =
      let A : List Token = all_tokens s.lines in
      append-nil _ ∙ text_append A (merge_last s.tokens (tok s.bytes k))
      ∙ ap (λ (b : List ℕ). text A ++ b) (text_merge_last s.tokens (tok s.bytes k))
      ∙ sym (append_assoc (text A) (text s.tokens) s.bytes) ∙ ap (λ (b : List ℕ). b ++ s.bytes) (sym (text_append A s.tokens))

  grows_bytes : (b : List ℕ) → Grows s (add_bytes b s)
  grows_bytes b = record { lines = omega arith; tokens = omega arith; bytes = simp length-append (omega arith) }

  grows_token : (k : ℕ) → Grows s (end_token k s)
  grows_token k = record {
    lines = omega arith;
    tokens = simp length-append (omega arith);
    bytes = rw (bytes_with_token k) (omega arith);
  }

  grows_line : (a : Option ℕ) (i : ℕ) → Grows s (end_line a i s)
  grows_line a i = record {
    lines = rw length-append (omega arith);
    tokens = rw (tokens_with_line a i) (omega arith);
    bytes = rw (bytes_with_line a i) (omega arith);
  }

  grows_merged : (k : ℕ) → Grows s (end_merged k s)
  grows_merged k = record {
    lines = omega arith;
    tokens = simp length-append (omega (arith, length_merge_last s.tokens (tok s.bytes k)));
    bytes = rw (bytes_with_merged k) (omega arith);
  }

-- So what has room after a step had room before.

record Alike (out out' : Columns) : Type 0 where
  lines : length out'.lines ≡ length out.lines
  addresses : length out'.addresses ≡ length out.addresses
  tokens : length out'.tokens ≡ length out.tokens
  text : length out'.text ≡ length out.text

alike : (out : Columns) → Alike out out
alike out = record { lines = refl; addresses = refl; tokens = refl; text = refl }

room_before : {s s' : State} {out out' : Columns} → Grows s s' → Alike out out' → Room s' out' → Room s out
room_before g e r = record {
  lines = omega arith;
  addresses = omega arith;
  tokens = omega arith;
  text = omega arith;
  token_ends = omega arith;
  line_ends = omega arith;
}

step : {s s' : State} {out out' : Columns} {c c' : Cursor} → Grows s s' → Alike out out' → (Room s' out' → Held s out c → Held s' out' c') → Holds s out c → Holds s' out' c'
step g e f h = record { given = λ r. f r (h.given (room_before g e r)) }

-- The cursor counts what is written.

record Counts (s : State) (c : Cursor) : Type 0 where
  lines : c.lines ≡ length s.lines
  tokens : c.tokens ≡ length (written_tokens s)
  text : c.text ≡ length (written_bytes s)

held_counts : {s : State} {out : Columns} {c : Cursor} → Held s out c → Counts s c
held_counts {s} h = record {
  lines = sym h.lines.count ∙ length_line_words 0 s.lines;
  tokens = sym h.tokens.count ∙ length_token_words 0 (written_tokens s);
  text = sym h.text.count;
}

-- No room: nothing is written.

module _ (l a t x : List ℕ) (c : Cursor) where
  still : {s s' : State} → Grows s s' → (Room s' (columns l a t x) → Held s (columns l a t x) c → ⊥) → Holds s (columns l a t x) c → Holds s' (columns l a t x) c
  still g full = step g (alike (columns l a t x)) (λ r h. absurd (full r h))

  module _ (b : List ℕ) where
    bytes_fit : (s : State) → Room (add_bytes b s) (columns l a t x) → Held s (columns l a t x) c → c.text + length b ≤ length x
    bytes_fit s r h = omega (arith, held_counts h, r.text, ap length (bytes_with_bytes s b), length-append (written_bytes s) b)

    pub text_passed : length x < c.text → Writing (add_bytes b) (columns l a t x) c (columns l a t x) c
    text_passed full s = still (grows_bytes s b) (λ r h. omega (arith, bytes_fit s r h))

    pub text_full : length x - c.text < length b → Writing (add_bytes b) (columns l a t x) c (columns l a t x) c
    text_full full s = still (grows_bytes s b) (λ r h. omega (arith, bytes_fit s r h))

  module _ (k : ℕ) where
    pub tokens_full : length t ≤ c.tokens → Writing (end_token k) (columns l a t x) c (columns l a t x) c
    tokens_full full s =
        still (grows_token s k)
        (λ r h. omega (arith, held_counts h, r.tokens, ap length (tokens_with_token s k), length-append (written_tokens s) (tok s.bytes k ∷ [])))

    pub token_ends_full : 16777216 ≤ c.text → Writing (end_token k) (columns l a t x) c (columns l a t x) c
    token_ends_full full s = still (grows_token s k) (λ r h. omega (arith, held_counts h, r.token_ends, ap length (bytes_with_token s k)))

  module _ (d : Option ℕ) (i : ℕ) where
    pub lines_full : length l ≤ c.lines → Writing (end_line d i) (columns l a t x) c (columns l a t x) c
    lines_full full s =
        still (grows_line s d i) (λ r h. omega (arith, held_counts h, r.lines, length-append s.lines (pseudo_line d i s.tokens ∷ [])))

    pub addresses_full : length a ≤ c.lines → Writing (end_line d i) (columns l a t x) c (columns l a t x) c
    addresses_full full s =
        still (grows_line s d i) (λ r h. omega (arith, held_counts h, r.addresses, length-append s.lines (pseudo_line d i s.tokens ∷ [])))

    pub line_ends_full : 8388608 ≤ c.tokens → Writing (end_line d i) (columns l a t x) c (columns l a t x) c
    line_ends_full full s = still (grows_line s d i) (λ r h. omega (arith, held_counts h, r.line_ends, ap length (tokens_with_line s d i)))

  -- A step that writes

  pub bytes_added : (b x' : List ℕ) → Filled (take c.text x ++ b) (c.text + length b) x' → length x' ≡ length x
      → Writing (add_bytes b) (columns l a t x) c (columns l a t x')
      (record { lines = c.lines; tokens = c.tokens; text = c.text + length b; last = c.last })
  bytes_added b x' f e s =
      step (grows_bytes s b) (record { lines = refl; addresses = refl; tokens = refl; text = e })
      (λ r h. record {
        lines = h.lines;
        addresses = h.addresses;
        tokens = h.tokens;
        text = rw (bytes_with_bytes s b, ← h.text.is) f;
        last = h.last;
      })

  pub token_ended : (k : ℕ) → c.tokens < length t
      → Writing (end_token k) (columns l a t x) c (columns l a (set t c.tokens (c.text * 256 + k)) x)
      (record { lines = c.lines; tokens = c.tokens + 1; text = c.text; last = k })
  token_ended k room s =
      step (grows_token s k) (record { lines = refl; addresses = refl; tokens = length-set t c.tokens (c.text * 256 + k); text = refl })
      (λ r h. record {
        lines = h.lines;
        addresses = h.addresses;
        tokens = rw (tokens_with_token s k, token_words_snoc 0 (written_tokens s) (tok s.bytes k), zero-add, h.text.count)
            (filled_push _ _ t (c.text * 256 + k) h.tokens room);
        text = rw (bytes_with_token s k) h.text;
        last = rw (last_snoc s.tokens (tok s.bytes k));
      })

  pub line_ended : (d : Option ℕ) (i v w : ℕ) → v ≡ (if is_some d then 256 else 0) → w ≡ or_else d 0 → c.lines < length l → c.lines < length a
      → Writing (end_line d i) (columns l a t x) c (columns (set l c.lines (c.tokens * 512 + v + i)) (set a c.lines w) t x)
      (record { lines = c.lines + 1; tokens = c.tokens; text = c.text; last = 256 })
  line_ended d i v w ev ew in_lines in_addresses s =
      let m : Line = pseudo_line d i s.tokens in
      step (grows_line s d i)
      (record { lines = length-set l c.lines (c.tokens * 512 + v + i); addresses = length-set a c.lines w; tokens = refl; text = refl })
      (λ r h. record {
        lines = rw (line_words_snoc 0 s.lines m, zero-add, ← (held_counts h).tokens, ← ev) (filled_push _ _ l (c.tokens * 512 + v + i) h.lines in_lines);
        addresses = rw (address_words_snoc s.lines m, ← ew) (filled_push _ _ a w h.addresses in_addresses);
        tokens = rw (tokens_with_line s d i) h.tokens;
        text = rw (bytes_with_line s d i) h.text;
        last = unfold last in refl;
      })

  -- Joining the last token

  -- the state whose last token joins
  abbrev Extended : List Line → List Token → List ℕ → ℕ → Type 0
  Extended L T b k =
      let s : State = record { lines = L; tokens = T; bytes = b } in
      kinds_join (last_kind T) k ≡ true → Held s (columns l a t x) c
      → (0 < c.tokens) × Held (end_merged k s) (columns l a (set t (c.tokens - 1) (c.text * 256 + k)) x) c

  extended_snoc : (L : List Line) (R : List Token) (u : Token) (b : List ℕ) (k : ℕ) → Extended L (R ++ (u ∷ [])) b k
  extended_snoc L R u b k j h =
      let A : List Token = all_tokens L in
      let s : State = record { lines = L; tokens = R ++ (u ∷ []); bytes = b } in
      let v : Token = tok (u.text ++ b) u.kind in
      let j' : joins u (tok b k) ≡ true = rw (last_snoc R u) at j in
      let q : merge_last (R ++ (u ∷ [])) (tok b k) ≡ R ++ (v ∷ []) = merge_last_snoc R u (tok b k) ∙ ap (λ (ts : List Token). R ++ ts) (glue_joins u (tok b k) [] j') in
      let n : length (text (A ++ R) ++ v.text) ≡ c.text =
      ap length (sym (append-nil _ ∙ text_snoc (A ++ R) v)) ∙ ap (λ (ts : List Token). length (text ts ++ [])) (append_assoc A R (v ∷ []) ∙ ap (λ (ts : List Token). A ++ ts) (sym q))
      ∙ ap length (bytes_with_merged s k) ∙ h.text.count in
      let m : ℕ = (length (text (A ++ R) ++ u.text)) * 256 + u.kind in
      let g : Filled (token_words_from 0 (A ++ R) ++ (m ∷ [])) c.tokens t = rw (← append_assoc A R (u ∷ []), token_words_snoc 0 (A ++ R) u, zero-add) at h.tokens in (
        omega (arith, g.count, length-append (token_words_from 0 (A ++ R)) (m ∷ [])),
        record {
          lines = h.lines;
          addresses = h.addresses;
          tokens = rw (q, ← append_assoc A R (v ∷ []), token_words_snoc 0 (A ++ R) v, zero-add, n, joins_kind u (tok b k) j')
              (filled_last (token_words_from 0 (A ++ R)) m (c.text * 256 + k) c.tokens t g);
          text = rw (bytes_with_merged s k) h.text;
          last = rw (q, last_snoc R v) (h.last ∙ rw (last_snoc R u));
        },
      )

  extended : (L : List Line) (T : List Token) (b : List ℕ) (k : ℕ) → k < 256 → Extended L T b k
  extended L [] b k small j h = absurd (omega (arith, joins_kind (tok [] 256) (tok [] k) (unfold last in j)))
  extended L (u ∷ T) b k small j h =
      let v = end_view u T in
      subst (λ (T : List Token). Extended L T b k) (sym v.2) (extended_snoc L v.0 v.1 b k) j h

  module _ (k : ℕ) (small : k < 256) (s : State) (j : kinds_join c.last k ≡ true) where
    pub extension_none : c.tokens ≡ 0 → Holds s (columns l a t x) c → Holds (end_merged k s) (columns l a t x) c
    extension_none full = still (grows_merged s k) (λ r h. omega (arith, (extended s.lines s.tokens s.bytes k small (rw h.last at j) h).0))

    pub extension_passed : length t ≤ c.tokens - 1 → Holds s (columns l a t x) c → Holds (end_merged k s) (columns l a t x) c
    extension_passed full =
        still (grows_merged s k)
        (λ r h. omega (arith, (extended s.lines s.tokens s.bytes k small (rw h.last at j) h).0, filled_within _ _ t h.tokens))

    pub extension_full : 16777216 ≤ c.text → Holds s (columns l a t x) c → Holds (end_merged k s) (columns l a t x) c
    extension_full full = still (grows_merged s k) (λ r h. omega (arith, held_counts h, r.token_ends, ap length (bytes_with_merged s k)))

    pub token_extended : Holds s (columns l a t x) c → Holds (end_merged k s) (columns l a (set t (c.tokens - 1) (c.text * 256 + k)) x) c
    token_extended =
        step (grows_merged s k) (record { lines = refl; addresses = refl; tokens = length-set t (c.tokens - 1) (c.text * 256 + k); text = refl })
        (λ r h. (extended s.lines s.tokens s.bytes k small (rw h.last at j) h).1)

-- A token that does not join is a token of its own.

apart_any : (T : List Token) (u : Token) → kinds_join (last_kind T) u.kind ≡ false → merge_last T u ≡ T ++ (u ∷ [])
apart_any [] u j = unfold merge_last in refl
apart_any (t ∷ T) u j =
    let v = end_view t T in
    subst (λ (T : List Token). kinds_join (last_kind T) u.kind ≡ false → merge_last T u ≡ T ++ (u ∷ [])) (sym v.2)
    (λ j. merge_last_snoc v.0 v.1 u ∙ rw (glue_apart v.1 u [] (rw (last_snoc v.0 v.1) at j), append_assoc)) j

pub apart_written : {c c' : Cursor} {o o' : Columns} (k : ℕ) (j : Bool) → j ≡ kinds_join c.last k → j ≡ false
    → length o'.lines ≡ length o.lines → length o'.addresses ≡ length o.addresses → length o'.tokens ≡ length o.tokens → length o'.text ≡ length o.text
    → Writing (end_token k) o c o' c' → Writing (end_merged k) o c o' c'
apart_written k j is f l a t x writes s h = record {
  given = λ r.
      let held = h.given (room_before (grows_merged s k) (record { lines = l; addresses = a; tokens = t; text = x }) r) in
      let q = apart_any s.tokens (tok s.bytes k) (rw (← held.last) (sym is ∙ f)) in
      rw q ((writes s h).given (rw q at r));
}

pub apart : {w w' : Writer} (k : ℕ) (j : Bool) → j ≡ kinds_join w.written.last k → j ≡ false → Writes tokens_lent (end_token k) w w' → Writes tokens_lent (end_merged k) w w'
apart k j is f writes = record {
  same = writes.same;
  kept = writes.kept;
  holds = λ o. apart_written k j is f refl refl writes.same.tokens_length refl (writes.holds o);
}

-- A destination

pub same_self : (w : Writer) → Same w w
same_self w = record {
  lines = refl;
  addresses = refl;
  tokens = refl;
  text = refl;
  lines_length = refl;
  addresses_length = refl;
  tokens_length = refl;
  text_length = refl;
}

pub same_more : {u v w : Writer} → Same u v → Same v w → Same u w
same_more a b = record {
  lines = b.lines ∙ a.lines;
  addresses = b.addresses ∙ a.addresses;
  tokens = b.tokens ∙ a.tokens;
  text = b.text ∙ a.text;
  lines_length = b.lines_length ∙ a.lines_length;
  addresses_length = b.addresses_length ∙ a.addresses_length;
  tokens_length = b.tokens_length ∙ a.tokens_length;
  text_length = b.text_length ∙ a.text_length;
}

pub not_written : {lent : Columns → Writer → Columns} {f : State → State} {w : Writer} → columns_of w ≡ lent (columns_of w) w
    → ((o : Columns) → Writing f (lent o w) w.written (lent o w) w.written) → Writes lent f w w
not_written {w = w} k h = record { same = same_self w; kept = k; holds = h }

-- what a function that is lent a column alone leaves of another
module _ {f : State → State} {w w' : Writer} where
  pub text_alone : Writes text_lent f w w' → Writes open_lent f w w'
  text_alone h = record {
    same = h.same;
    kept = ap (λ (o : Columns). open_lent o w') h.kept;
    holds = λ o. subst (λ (t : List ℕ). Writing f (open_lent o w) w.written (columns o.lines o.addresses t w'.text.now) w'.written)
        (sym (ap (λ (o : Columns). o.tokens) h.kept)) (h.holds (open_lent o w));
  }

  pub tokens_alone : Writes tokens_lent f w w' → Writes open_lent f w w'
  tokens_alone h = record {
    same = h.same;
    kept = ap (λ (o : Columns). open_lent o w') h.kept;
    holds = λ o. subst (λ (x : List ℕ). Writing f (open_lent o w) w.written (columns o.lines o.addresses w'.tokens.now x) w'.written)
        (sym (ap (λ (o : Columns). o.text) h.kept)) (h.holds (open_lent o w));
  }

  -- and of all four
  pub open_written : Writes open_lent f w w' → Writing f (columns_of w) w.written (columns_of w') w'.written
  open_written h = subst (λ (o : Columns). Writing f (columns_of w) w.written o w'.written) (sym h.kept) (h.holds (columns_of w))

  pub lines_written : Writes lines_lent f w w' → Writing f (columns_of w) w.written (columns_of w') w'.written
  lines_written h = subst (λ (o : Columns). Writing f (columns_of w) w.written o w'.written) (sym h.kept) (h.holds (columns_of w))

-- one step behind another
pub in_turn : {f g : State → State} {u v w : Writer} → Writes open_lent f u v → Writes open_lent g v w → Writes open_lent (λ s. g (f s)) u w
in_turn {f} {w = w} a b = record {
  same = same_more a.same b.same;
  kept = b.kept ∙ ap (λ (o : Columns). open_lent o w) a.kept;
  holds = λ o s h. b.holds o (f s) (a.holds o s h);
}

-- The first and the last

pub nothing_held : (l a t x : List ℕ) → Holds (done []) (columns l a t x) (record { lines = 0; tokens = 0; text = 0; last = 256 })
unfolding last
nothing_held l a t x = record {
  given = λ r. record {
    lines = unfold line_words_from in filled_start l;
    addresses = filled_start a;
    tokens = unfold token_words_from concat in filled_start t;
    text = unfold text concat in filled_start x;
    last = refl;
  };
}

-- what is filled, with zeros behind
zeroed_filled : (ws : List ℕ) (n : ℕ) (xs : List ℕ) → Filled ws n xs → zeroed n xs ≡ filled ws xs
zeroed_filled ws n xs f = rw (f.is, f.count)

module _ (M : List Line) (l a t x l' a' t' x' : List ℕ) (c : Cursor) where
  pub finished : l' ≡ zeroed c.lines l → a' ≡ zeroed c.lines a → t' ≡ zeroed c.tokens t → x' ≡ zeroed c.text x
      → Holds (done M) (columns l a t x) c → Room (done M) (columns l a t x) → Finished M (columns l a t x) c (columns l' a' t' x')
  finished el ea et ex holds room =
      let h = holds.given room in
      let n = held_counts h in
      let ht : Filled (token_words_from 0 (all_tokens M)) c.tokens t = rw append-nil at h.tokens in
      let hx : Filled (text_bytes M) c.text x = simp append-nil at h.text in
      record {
        columns = rw (el, ea, et, ex, zeroed_filled _ _ l h.lines, zeroed_filled _ _ a h.addresses, zeroed_filled _ _ t ht, zeroed_filled _ _ x hx);
        counts = rw (n.lines, ← ht.count, ← hx.count);
      }

pub ruleset steps = (text_passed, text_full, tokens_full, token_ends_full, lines_full, addresses_full, line_ends_full, extension_none, extension_passed, extension_full, bytes_added, token_ended, line_ended, token_extended, nothing_held, finished)
