-- Rules for the needs of the functions on webs.
--   web_is                                    a token has a web
--   family_is, names_same                     the family of a token
--   web_same, web_other                       two tokens of one web, of two
--   Finding, finding_start, -next             a loop that looks for the first token of a web
--   finding_found, -end
--   counted_yes, counted_no                   one web more
--   Ranking, ranking_start, -next, -end       a loop that ranks the tokens
-- Assumes nothing.
use Rattle.std.specs.Prelude.{Option}
use Prim.Native.Nat.{ℕ, suc, ◌+◌, ◌*◌, ◌-◌, ◌≤◌, ◌<◌}
use mathlib.Core.Path.{◌≡◌, refl, ◌∙◌}
use mathlib.Core.Bool.{Bool, true, false, ◌&&◌, not}
use mathlib.Core.List.{List}
use native.Mathlib.Decide.{ℕ_discrete}
use native.Mathlib.Numerals.{add-one}
use native.Mathlib.Omega.{arith}
use borrow.Author.Tests.{eq-eqb, ne_eqb}
use lib.Dec.{eqb}
use lib.ListN.{length, get_or, set, length-set}
use lib.Seq.{get_or-set_same, get_or-set_other}
use Rattle.definitions.specs.Lists.{or_else, find, range}
use Rattle.definitions.specs.Model.{Token, tok, no_token}
use Rattle.definitions.specs.Family.{Family, fam_of}
use Rattle.definitions.specs.Answers.{mark}
use Rattle.family.specs.Register.{family_of, same_name}
use Rattle.family.specs.declared.Register.{Register}
use Rattle.dot.specs.Dot.{has_web, same_web, first_of, appears, before}
use Rattle.dot.specs.Held.{Ranked}

pub web_is : (N : List ℕ) (k w : ℕ) → w ≡ get_or N k 0 → not (eqb w 4294967295) ≡ has_web N k
unfolding has_web
web_is N k w q = rw q

module _ (T : Token) (s : List ℕ) (a : ℕ) (r : Option Register) (text : s ≡ T.text) (kind : a ≡ T.kind) (family : family_of s r ≡ fam_of (tok s a)) where
  pub family_is : family_of s r ≡ fam_of T
  family_is = family ∙ rw (text, kind)

  pub names_same : (o : Option Family) (y : Bool) → y ≡ same_name (family_of s r) o → y ≡ same_name (fam_of T) o
  names_same o y e = rw (← family_is) e

module _ (T : List Token) (N : List ℕ) (k : ℕ) where
  module _ (p a b : ℕ) (first : a ≡ get_or N p 0) (second : b ≡ get_or N k 0) where
    pub web_same : a ≡ b → (o : Option Family) (y : Bool) → o ≡ fam_of (get_or T k no_token) → y ≡ same_name (fam_of (get_or T p no_token)) o → y ≡ same_web T N k p
    unfolding same_web
    web_same h o y q e = rw (← first, ← second, eq-eqb a b h, ← q) e

    pub web_other : (a ≡ b → ⊥) → false ≡ same_web T N k p
    unfolding same_web
    web_other h = rw (← first, ← second, ne_eqb a b h)

  -- The first token of a web

  pub record Finding (p : ℕ) : Type 0 where
    pub low : p ≤ k
    pub rest : or_else (find (same_web T N k) (range p (k - p))) k ≡ first_of T N k

  pub finding_start : Finding 0
  unfolding first_of
  finding_start = let z : k - 0 ≡ k = omega arith in record { low = omega arith; rest = rw z }

  module _ (p : ℕ) (f : Finding p) where
    module _ (h : p < k) (y : Bool) (e : y ≡ same_web T N k p) where
      pub finding_found : y ≡ true → p ≡ first_of T N k
      unfolding range find
      finding_found t = let z : k - p ≡ suc (k - suc p) = omega arith in rw (z, ← e, t) at f.rest

      pub finding_next : y ≡ false → Finding (p + 1)
      unfolding range find
      finding_next t = let z : k - p ≡ suc (k - suc p) = omega arith in record { low = omega arith; rest = rw add-one (rw (z, ← e, t) at f.rest) }

    pub finding_end : k ≤ p → k ≡ first_of T N k
    unfolding range find
    finding_end h = let z : k - p ≡ 0 = omega arith in rw z at f.rest

-- Ranks

pub counted_yes : (c : ℕ) (y : Bool) → y ≡ true → c + 1 ≡ c + mark y
counted_yes c y e = rw e

pub counted_no : (c : ℕ) (y : Bool) → y ≡ false → c ≡ c + mark y
counted_no c y e = rw e (omega arith)

module _ (T : List Token) (N : List ℕ) (n m : ℕ) where
  pub record Ranking (ranks : List ℕ) (c k : ℕ) : Type 0 where
    pub low : k ≤ n
    pub room : n ≤ m
    pub size : length ranks ≡ m
    pub count : c ≡ before T N k
    pub few : c ≤ k
    pub ranked : Ranked T N k ranks

  pub ranking_start : (ranks : List ℕ) → n ≤ m → length ranks ≡ m → Ranking ranks 0 0
  unfolding before
  ranking_start ranks h q = record { low = omega arith; room = h; size = q; count = refl; few = omega arith; ranked = record { small = omega arith; rank = λ k g. absurd (omega arith); low = λ k g. absurd (omega arith); few = λ k g. absurd (omega arith) } }

  mark_most : (y : Bool) → mark y ≤ 1
  mark_most true = omega arith
  mark_most false = omega arith

  pub ranking_next : (ranks : List ℕ) (c k : ℕ) → Ranking ranks c k → k < n → n ≤ 16384 → (f : ℕ) → f ≡ first_of T N k → f ≤ k → (v : ℕ) → v ≡ f * 32768 + c
      → (y : Bool) → y ≡ (has_web N k && eqb f k) → (c' : ℕ) → c' ≡ c + mark y → Ranking (set ranks k v) c' (k + 1)
  ranking_next ranks c k r h t f first below v word y e c' q =
      let few = r.few in let size = r.size in
      let one : mark y ≤ 1 = mark_most y in
      record {
        low = omega arith;
        room = r.room;
        size = length-set ranks k v ∙ r.size;
        count = q ∙ rw (e, r.count, first, add-one) (unfold before appears in refl);
        few = omega arith;
        ranked = record { small = omega arith; rank = at; low = low; few = most };
      }
    where
      at : (j : ℕ) → j < k + 1 → get_or (set ranks k v) j 0 ≡ first_of T N j * 32768 + before T N j
      at j g = go (ℕ_discrete j k)
        where
          go : Dec (j ≡ k) → get_or (set ranks k v) j 0 ≡ first_of T N j * 32768 + before T N j
          go (yes z) = let room = r.room in let size = r.size in rw (z, get_or-set_same ranks k v 0 (omega arith)) (word ∙ rw (first, r.count))
          go (no z) = get_or-set_other ranks k j v 0 z ∙ r.ranked.rank j (omega arith)

      low : (j : ℕ) → j < k + 1 → first_of T N j ≤ j
      low j g = go (ℕ_discrete j k)
        where
          go : Dec (j ≡ k) → first_of T N j ≤ j
          go (yes z) = rw (z, ← first) below
          go (no z) = r.ranked.low j (omega arith)

      most : (j : ℕ) → j < k + 1 → before T N j ≤ j
      most j g = go (ℕ_discrete j k)
        where
          go : Dec (j ≡ k) → before T N j ≤ j
          go (yes z) = rw (z, ← r.count) r.few
          go (no z) = r.ranked.few j (omega arith)

  pub ranking_end : (ranks : List ℕ) (c k : ℕ) → Ranking ranks c k → n ≤ k → Ranked T N n ranks
  ranking_end ranks c k r h = let low = r.low in let z : k ≡ n = omega arith in rw z at r.ranked
