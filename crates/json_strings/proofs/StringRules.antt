-- Rules for the needs of the strings: each premise is a field of what a need is handed.
--   character_*                     one code point of a string
--   Going                           the loop over characters: the text holds what is read so far, and what is left decides
--   going_start, characters-*, plain_full, plain_next    that loop's needs
--   string_no, string_go            the quote before it
-- Assumes nothing.
use Rattle.std.specs.Prelude.{Option, None, Some}
use mathlib.Core.Path.{◌≡◌, refl, sym, ap, ◌∙◌}
use mathlib.Core.Bool.{Bool, true, ◌&&◌, not}
use mathlib.Core.List.{List, [], ◌∷◌, ◌++◌, append_assoc, append-nil}
use Prim.Native.Nat.{ℕ, ◌+◌, ◌-◌, ◌≤◌, ◌<◌}
use native.Mathlib.Nat.{le_refl}
use native.Mathlib.Omega.{arith}
use borrow.Author.Tests.{eq-eqb, ne_eqb, le-leb, lt-leb, leb-true, lt-ltb, le-ltb, ltb-true, not-true}
use lib.Dec.{leb, ltb, eqb}
use lib.ListN.{length, set, take, drop, length-append, length-take, length-drop, take-append-drop}
use lib.Seq.{sets, sets-eq, length-sets, length-take-le, drop-append-le, take-append-add, take-append-le, take-append_seam, take_at, take-take}
use Rattle.definitions.specs.Lists.{part}
use Rattle.loop_theory.proofs.Cases.{and_split}
use Rattle.json_definitions.specs.Parser.{Got, got, after, lexeme}
use Rattle.json_definitions.specs.Strings.{code_point, unescaped, escape, character, string}
use Rattle.json_theory.specs.Steps.{up_to_quote, prepend}
use Rattle.json_theory.proofs.Progress.{character_rest}
use Rattle.json_theory.proofs.Characters.{up_to_quote_none, up_to_quote_quote, up_to_quote_bad, up_to_quote_go}
use Rattle.json_theory.proofs.Strings.{low_point}
use Rattle.json_strings.specs.Answers.{limited}

-- One code point

pub character_short : (s : List ℕ) → length s ≡ 0 → character s ≡ None
unfolding character
character_short [] h = refl
character_short (c ∷ s) h = absurd (omega arith)

module _ (c : ℕ) (s : List ℕ) where
  pub character_escape : c ≡ 92 → character (c ∷ s) ≡ escape s
  unfolding character
  character_escape e = rw (eq-eqb c 92 e)

  pub character_low : c < 32 → character (c ∷ s) ≡ None
  unfolding character unescaped
  character_low h = rw (ne_eqb c 92 (λ q. omega arith), lt-ltb c 32 h)

  pub character_point : (c ≡ 92 → ⊥) → 32 ≤ c → character (c ∷ s) ≡ code_point (c ∷ s)
  unfolding character unescaped
  character_point n h = rw (ne_eqb c 92 n, le-ltb c 32 h)

-- Parts of a text that is written
module _ (l u : List ℕ) (a to : ℕ) (h : a ≤ to) (k : to + length u ≤ length l) where
  front : length (take to l) ≡ to
  front = length-take-le to l (omega arith)

  cut : drop a l ≡ drop a (take to l) ++ drop to l
  cut = ap (drop a) (sym (take-append-drop to l)) ∙ drop-append-le a (take to l) (drop to l) (rw front h)

  width : length (drop a (take to l)) ≡ to - a
  width = rw (length-drop, front)

  part_front : part a to l ≡ drop a (take to l)
  part_front = ap (take (to - a)) cut ∙ take_at (drop a (take to l)) (drop to l) (to - a) width

  written : drop a (sets l to u) ≡ drop a (take to l) ++ (u ++ drop (to + length u) l)
  written =
      ap (drop a) (sets-eq u l to k ∙ append_assoc (take to l) u (drop (to + length u) l))
      ∙ drop-append-le a (take to l) (u ++ drop (to + length u) l) (rw front h)

  pub part_sets : part a (to + length u) (sets l to u) ≡ part a to l ++ u
  part_sets =
      let z : (to + length u) - a ≡ length (drop a (take to l)) + length u = rw width (omega arith) in
      rw (written, z, take-append-add (drop a (take to l)) (u ++ drop (to + length u) l) (length u), take-append_seam u (drop (to + length u) l), part_front)

  pub take_sets : take a (sets l to u) ≡ take a l
  take_sets =
      ap (take a) (sets-eq u l to k ∙ append_assoc (take to l) u (drop (to + length u) l))
      ∙ take-append-le a (take to l) (u ++ drop (to + length u) l) (rw front h)
      ∙ take-take a to l h

-- What is read so far, before what is left to read
prepend_prepend : (u v : List ℕ) (o : Option (Got (List ℕ))) → prepend u (prepend v o) ≡ prepend (u ++ v) o
unfolding prepend after
prepend_prepend u v None = refl
prepend_prepend u v (Some g) = rw (append_assoc u v g.value)

limited_over : (room : ℕ) (u : List ℕ) (o : Option (Got (List ℕ))) → room < length u → limited room (prepend u o) ≡ None
unfolding limited prepend after
limited_over room u None h = refl
limited_over room u (Some g) h = rw (lt-leb (length (u ++ g.value)) room (rw length-append (omega arith)))

limited_end : (room : ℕ) (u x : List ℕ) → length u ≤ room → limited room (prepend u (got [] x)) ≡ got u x
unfolding limited prepend after
limited_end room u x h = rw (append-nil, le-leb (length u) room h)

prepend_none : (u : List ℕ) → prepend u None ≡ None
unfolding prepend after
prepend_none u = refl

limited_none : (room : ℕ) → limited room None ≡ None
unfolding limited
limited_none room = refl

none_left : (s : List ℕ) → length s ≡ 0 → s ≡ []
none_left [] h = refl
none_left (c ∷ s) h = absurd (omega arith)

-- The loop over characters

pub record Going (s text₀ : List ℕ) (from : ℕ) (text rest : List ℕ) (to : ℕ) : Type 0 where
  pub low : from ≤ to
  pub high : to ≤ length text
  pub long : length text ≡ length text₀
  pub kept : take from text ≡ take from text₀
  pub so_far : limited (length text₀ - from) (prepend (part from to text) (up_to_quote rest)) ≡ limited (length text₀ - from) (up_to_quote s)

pub going_start : (s text : List ℕ) (from : ℕ) → from ≤ length text → Going s text from text s from
going_start s text from h =
    record {
      low = le_refl from;
      high = h;
      long = refl;
      kept = refl;
      so_far = let z : from - from ≡ 0 = omega arith in rw z (ap (limited (length text - from)) (same (up_to_quote s)));
    }
  where
    same : (o : Option (Got (List ℕ))) → prepend [] o ≡ o
    same None = unfold prepend after in refl
    same (Some g) = unfold prepend after in refl

module _ (s text₀ : List ℕ) (from : ℕ) (text rest : List ℕ) (to : ℕ) (g : Going s text₀ from text rest to) where
  part_long : length (part from to text) ≡ to - from
  part_long = let h = g.low in let k = g.high in rw (length-take, length-drop) (omega arith)

  pub characters_past : length rest ≡ 0 → None ≡ limited (length text₀ - from) (up_to_quote s)
  characters_past h = (let z : rest ≡ [] = none_left rest h in sym (sym g.so_far ∙ rw (z, up_to_quote_none, prepend_none) (limited_none _)))

  module _ (c : ℕ) (tail : List ℕ) (h : rest ≡ c ∷ tail) where
    pub characters_quote : c ≡ 34 → got (part from to text) tail ≡ limited (length text₀ - from) (up_to_quote s)
    characters_quote e =
        let a = g.low in let b = g.high in let c = g.long in
        sym (sym g.so_far ∙ rw (h, e, up_to_quote_quote, limited_end (length text₀ - from) (part from to text) tail (rw part_long (omega arith))))

    module _ (n34 : c ≡ 34 → ⊥) where
      pub characters_bad : None ≡ character rest → None ≡ limited (length text₀ - from) (up_to_quote s)
      characters_bad q =
          let z : character (c ∷ tail) ≡ None = rw (← h, ← q) in
          sym (sym g.so_far ∙ rw (h, up_to_quote_bad c tail n34 z, prepend_none) (limited_none _))

      module _ (u behind : List ℕ) (told : got u behind ≡ character rest) where
        step : up_to_quote rest ≡ prepend u (up_to_quote behind)
        step =
            let z : character (c ∷ tail) ≡ got u behind = rw (← h) (sym told) in
            rw h (up_to_quote_go c tail n34 (record { value = u; rest = behind }) z)

        joins : limited (length text₀ - from) (prepend (part from to text ++ u) (up_to_quote behind)) ≡ limited (length text₀ - from) (up_to_quote s)
        joins = ap (limited (length text₀ - from)) (sym (prepend_prepend (part from to text) u (up_to_quote behind))) ∙ rw (← step) g.so_far

        pub characters_less : length behind < length rest
        characters_less = character_rest rest (record { value = u; rest = behind }) (sym told)

        pub characters_full : length text - to < length u → None ≡ limited (length text₀ - from) (up_to_quote s)
        characters_full k =
            let a = g.low in let b = g.high in let c = g.long in
            sym (limited_over (length text₀ - from) (part from to text ++ u) (up_to_quote behind) (rw (length-append, part_long) (omega arith))) ∙ joins

        pub characters_next : (text' : List ℕ) → length u ≤ length text - to → text' ≡ sets text to u → Going s text₀ from text' behind (to + length u)
        characters_next text' k w =
            let a = g.low in
            let b = g.high in
            let c = g.long in
            let room : to + length u ≤ length text = omega arith in
            record {
              low = omega arith;
              high = rw (w, length-sets) (omega arith);
              long = rw (w, length-sets) c;
              kept = rw w (take_sets text u from to a room ∙ g.kept);
              so_far = rw (w, part_sets text u from to a room) joins;
            }

-- A byte that stands for itself
plain_character : (c : ℕ) (s : List ℕ) → (leb 32 c && (ltb c 128 && not (eqb c 92))) ≡ true → character (c ∷ s) ≡ got (c ∷ []) s
unfolding character unescaped
plain_character c s t =
    let a = leb-true 32 c (and_split (leb 32 c) _ t).0 in
    let t₂ = (and_split (leb 32 c) _ t).1 in
    let b = (and_split (ltb c 128) _ t₂).0 in
    let d = not-true (eqb c 92) (and_split (ltb c 128) _ t₂).1 in
    rw (d, le-ltb c 32 a, low_point c s (ltb-true c 128 b))

module _ (s text₀ : List ℕ) (from : ℕ) (text rest : List ℕ) (to : ℕ) (g : Going s text₀ from text rest to) (c : ℕ) (tail : List ℕ) (h : rest ≡ c ∷ tail) (n34 : c ≡ 34 → ⊥)
    (t : Bool) (f : t ≡ (leb 32 c && (ltb c 128 && not (eqb c 92)))) (y : t ≡ true) where
  told : got (c ∷ []) tail ≡ character rest
  told = rw h (sym (plain_character c tail (sym f ∙ y)))

  pub plain_full : length text ≤ to → None ≡ limited (length text₀ - from) (up_to_quote s)
  plain_full k = characters_full s text₀ from text rest to g c tail h n34 (c ∷ []) tail told (omega arith)

  pub plain_next : to < length text → Going s text₀ from (set text to c) tail (to + 1)
  plain_next k = characters_next s text₀ from text rest to g c tail h n34 (c ∷ []) tail told (set text to c) (omega arith) refl

-- A whole string

pub string_no : (s : List ℕ) (room : ℕ) → None ≡ lexeme (34 ∷ []) s → None ≡ limited room (string s)
unfolding string after limited
string_no s room e = rw (← e)

pub string_go : (s t : List ℕ) (room : ℕ) → got tt t ≡ lexeme (34 ∷ []) s → limited room (string s) ≡ limited room (up_to_quote t)
unfolding string after up_to_quote
string_go s t room e = rw (← e)

pub ruleset points_read = (character_short, character_escape, character_low, character_point)

pub ruleset texts = (characters_past, characters_quote, characters_bad, characters_full, characters_next, characters_less, plain_full, plain_next, going_start, string_no, string_go)
