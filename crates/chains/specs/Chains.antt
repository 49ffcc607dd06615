-- The tokens of each family that has a definition, chained through the words that stand for them: a token's word has its line and the place
-- of the family's next token. Places count all tokens of the listing.
--   gap p xs                  how many elements stand before the first that p holds of, all where it holds of none
--   next_place f ts a         the place of the first token from place a on that names the family f, the number of tokens where there is none
--   place_line l p            the line of the token at place p; l has the words of the lines
--   chain_word i n            the word of a token on line i whose family's next token stands at place n
--   waiting l ts fs f p       what stands at place p for a token of the family f: 0 where f has no definition
--   token_word l ts fs p      the same, by the token there: 4,294,967,295 where it has no family
--   Bounds l t                the lines cover the tokens, and both are few
--   Chained l t x count a ns first    the words ns from place a on stand, and `first` has the first place from a on of each family
--   Chain l t x k ns first    the same of family k alone
--   Linked                    what `link` does: the token at place p of line i is put before the chain of family c - 1
--   Heads a n first           no family has a token: the first n words are a
-- Assumes nothing.
use Rattle.std.specs.Prelude.{if◌then◌else◌, ℕ, suc, ◌+◌, ◌*◌, ◌-◌, ◌/◌, ◌<◌, ◌≤◌, ◌≡◌, Bool, true, List, [], ◌∷◌, eqb, ltb, length, get_or, set, drop, None, Some}
use Rattle.definitions.specs.Model.{Token, no_token}
use Rattle.definitions.specs.Family.{fam_of, names}
use Rattle.definitions.specs.Columns.{token_list, listing}
use Rattle.definitions.specs.Questions.{covers}
use Rattle.definitions.specs.Recover.{defined_families}
use Rattle.definitions.specs.Answers.{no_family}
use Rattle.families.specs.Families.{place}
use Rattle.families.specs.Tokens.{family_name}

unfoldable pub gap : {A : Type 0} → (A → Bool) → List A → ℕ
gap p [] = 0
gap p (x ∷ xs) = let rest = gap p xs in if p x then 0 else suc rest

unfoldable pub next_place : List ℕ → List Token → ℕ → ℕ
next_place f ts a = a + gap (names f) (drop a ts)

unfoldable pub place_line : List ℕ → ℕ → ℕ
place_line l p = gap (λ w. ltb p (w / 512)) l

-- 65,536 × 32,768 is 2^31
unfoldable pub chain_word : ℕ → ℕ → ℕ
chain_word i n = (65536 + i) * 32768 + n

unfoldable pub waiting : List ℕ → List Token → List (List ℕ) → List ℕ → ℕ → ℕ
waiting l ts fs f p = if eqb (place fs f) 0 then 0 else chain_word (place_line l p) (next_place f ts (p + 1))

unfoldable pub token_word : List ℕ → List Token → List (List ℕ) → ℕ → ℕ
token_word l ts fs p = elim (fam_of (get_or ts p no_token)) [ None ↦ no_family | Some x ↦ waiting l ts fs x.name p ]

pub record Bounds (l t : List ℕ) : Type 0 where
  pub ok : covers 512 0 l (length t) ≡ true
  pub lines : length l ≤ 1024
  pub tokens : length t ≤ 16384

pub record Chained (l t x : List ℕ) (count a : ℕ) (ns first : List ℕ) : Type 0 where
  pub size : length ns ≡ length t
  pub room : count ≤ length first
  pub words : (p : ℕ) → a ≤ p → p < length t → get_or ns p 0 ≡ token_word l (token_list t x) (defined_families (listing l t x)) p
  pub heads : (k : ℕ) → k < count → get_or first k 0 ≡ next_place (family_name (listing l t x) k) (token_list t x) a

pub record Chain (l t x : List ℕ) (k : ℕ) (ns first : List ℕ) : Type 0 where
  pub bounds : Bounds l t
  pub size : length ns ≡ length t
  pub head : get_or first k 0 ≡ next_place (family_name (listing l t x) k) (token_list t x) 0
  pub words : (p : ℕ) → p < length t → names (family_name (listing l t x) k) (get_or (token_list t x) p no_token) ≡ true
      → get_or ns p 0 ≡ chain_word (place_line l p) (next_place (family_name (listing l t x) k) (token_list t x) (p + 1))

pub record Linked (i p c : ℕ) (ns₀ ns first₀ first : List ℕ) : Type 0 where
  pub words : ns ≡ set ns₀ p (chain_word i (get_or first₀ (c - 1) 0))
  pub heads : first ≡ set first₀ (c - 1) p

pub record Heads (a n : ℕ) (first : List ℕ) : Type 0 where
  pub at : (k : ℕ) → k < n → get_or first k 0 ≡ a
