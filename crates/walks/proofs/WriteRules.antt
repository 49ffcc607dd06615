-- Rules for `writing`.
--   place_by, own_yes, own_no                    `is_place` and `is_own`
--   number_own, number_read                      `token_number`
--   wrote_start, wrote_next, wrote_less, wrote_end    the loop of `write_tokens`
--   mark_here, mark_out, mark_not                `mark_line`
--   marked_start, marked_next, marked_end        the loop of `mark_lines`
-- Assumes nothing.
use Prim.Native.Nat.{ℕ, ◌+◌, ◌-◌, ◌/◌, ◌%◌, ◌<◌, ◌≤◌}
use mathlib.Core.Path.{◌≡◌, refl, sym, ap, ◌∙◌}
use mathlib.Core.Logic.{inl, inr}
use mathlib.Core.Bool.{Bool, true, false, cond}
use mathlib.Core.List.{List}
use native.Mathlib.Omega.{arith}
use native.Mathlib.Numerals.{add-one}
use lib.Dec.{eqb}
use lib.ListN.{length, get_or, set, length-set}
use lib.Seq.{set_out, get_or-set_same, get_or-set_other}
use Rattle.definitions.specs.Lists.{fold, range, up_to}
use Rattle.definitions.specs.Model.{no_token}
use Rattle.definitions.specs.Family.{names}
use Rattle.definitions.specs.Columns.{token_list, listing}
use Rattle.theory.proofs.Bools.{lt_or_ge}
use Rattle.theory.proofs.ListLaws.{fold_up_to}
use Rattle.model.specs.Places.{line_start}
use Rattle.families.specs.Tokens.{family_name}
use Rattle.chains.specs.Chains.{place_line, Chain}
use Rattle.walks.specs.Lines.{own_place, Written, WroteTo, line_marked, lines_marked}
use Rattle.walks.proofs.Walk.{line_of_word, stands_head, stands_next, before_head, between, walk_less}

-- `is_own` and `token_number`

module _ (l ds : List ℕ) (k i p : ℕ) (y : Bool) (e : y ≡ eqb (get_or ds i 0) (k + 1)) where
  pub own_yes : y ≡ true → (s : ℕ) → s ≡ line_start l i → eqb p s ≡ own_place l ds k i p
  unfolding own_place
  own_yes b s q = sym (rw (← e, b, q))

  pub own_no : y ≡ false → false ≡ own_place l ds k i p
  unfolding own_place
  own_no b = sym (rw (← e, b))

module _ (y b : Bool) (v a c : ℕ) (e : y ≡ b) where
  pub number_own : y ≡ true → v ≡ a → v ≡ cond b a c
  number_own q z = rw (← e, q) z

  pub number_read : y ≡ false → v ≡ c → v ≡ cond b a c
  number_read q z = rw (← e, q) z

-- `write_tokens`

module _ (l t x : List ℕ) (k : ℕ) (ns₀ first : List ℕ) (C : Chain l t x k ns₀ first) (ds own read : List ℕ) where
  abbrev written : ℕ → ℕ
  written q =
      cond (names (family_name (listing l t x) k) (get_or (token_list t x) q no_token))
      (cond (own_place l ds k (place_line l q) q) (get_or own (place_line l q) 0) (get_or read (place_line l q) 0))
      (get_or ns₀ q 0)

  pub wrote_start : (p : ℕ) → p ≡ get_or first k 0 → WroteTo l t x k ds own read ns₀ p ns₀
  wrote_start p e = record {
    stands = stands_head l t x k ns₀ first C p e;
    size = C.size;
    done = λ q a b. sym (rw (before_head l t x k ns₀ first C p e q a));
    rest = λ q a. refl;
  }

  module _ (p : ℕ) (ns : List ℕ) (W : WroteTo l t x k ds own read ns₀ p ns) where
    module _ (b : p < length ns) (v : ℕ) (w : v ≡ get_or ns p 0 % 32768) where
      inside : p < length t
      inside = omega (arith, W.size)

      next_is : v ≡ get_or ns₀ p 0 % 32768
      next_is = w ∙ ap (λ (m : ℕ). m % 32768) (W.rest p (omega arith))

      wrote_on : p < v
      wrote_on = walk_less l t x k ns₀ first C p W.stands inside v next_is

      pub wrote_less : length t - v < length t - p
      wrote_less = omega (arith, wrote_on)

      module _ (i a : ℕ) (g : i ≡ get_or ns p 0 / 32768 % 65536) (e : a ≡ cond (own_place l ds k i p) (get_or own i 0) (get_or read i 0)) where
        here : a ≡ written p
        here = e
            ∙ ap (λ (i : ℕ). cond (own_place l ds k i p) (get_or own i 0) (get_or read i 0))
            (line_of_word l t x k ns₀ first C p W.stands inside i (g ∙ ap (λ (m : ℕ). m / 32768 % 65536) (W.rest p (omega arith))))
            ∙ sym (rw (W.stands.named inside))

        pub wrote_next : WroteTo l t x k ds own read ns₀ v (set ns p a)
        wrote_next = record {
          stands = stands_next l t x k ns₀ first C p W.stands inside v next_is;
          size = simp length-set W.size;
          done = λ q h m. elim (lt_or_ge q p) [
            | inl d ↦ get_or-set_other ns p q a 0 (λ z. omega arith) ∙ W.done q d m
            | inr d ↦ elim (lt_or_ge p q) [
              | inl f ↦ get_or-set_other ns p q a 0 (λ z. omega arith) ∙ W.rest q (omega arith)
                  ∙ sym (rw (between l t x k ns₀ first C p W.stands inside v next_is q f h))
              | inr f ↦ (let z : q ≡ p = omega arith in rw z (get_or-set_same ns p a 0 b ∙ here))
            ]
          ];
          rest = λ q h. get_or-set_other ns p q a 0 (λ z. omega (arith, wrote_on)) ∙ W.rest q (omega (arith, wrote_on));
        }

    pub wrote_end : length ns ≤ p → Written l t x k ds own read ns₀ ns
    wrote_end h = record { size = W.size; words = λ q b. W.done q (omega (arith, W.size)) b }

-- Marks

fold_next : {A : Type 0} (f : A → ℕ → A) (x : A) (i : ℕ) → fold f x (up_to (i + 1)) ≡ f (fold f x (up_to i)) i
fold_next f x i = ap (λ (n : ℕ). fold f x (up_to n)) (add-one i) ∙ fold_up_to f x i

pub place_by : (ds : List ℕ) (i k v : ℕ) → v ≡ get_or ds i 0 → eqb v (k + 1) ≡ eqb (get_or ds i 0) (k + 1)
place_by ds i k v e = rw e

module _ (l : List ℕ) (k : ℕ) (ds ms : List ℕ) (i : ℕ) (y : Bool) (e : y ≡ eqb (get_or ds i 0) (k + 1)) where
  pub mark_here : y ≡ true → (s : ℕ) → s ≡ line_start l i → set ms s 1 ≡ line_marked l k ds ms i
  unfolding line_marked
  mark_here f s q = rw (← e, f, q)

  pub mark_out : y ≡ true → (s : ℕ) → s ≡ line_start l i → length ms ≤ s → ms ≡ line_marked l k ds ms i
  unfolding line_marked
  mark_out f s q h = rw (← e, f) (sym (set_out ms (line_start l i) 1 (omega arith)))

  pub mark_not : y ≡ false → ms ≡ line_marked l k ds ms i
  unfolding line_marked
  mark_not f = rw (← e, f)

module _ (l : List ℕ) (k : ℕ) (ds ms₀ : List ℕ) where
  pub marked_start : ms₀ ≡ lines_marked l k ds ms₀ (up_to 0)
  unfolding lines_marked fold range
  marked_start = refl

  module _ (ms : List ℕ) (i : ℕ) (inv : ms ≡ lines_marked l k ds ms₀ (up_to i)) where
    pub marked_next : (next : List ℕ) → next ≡ line_marked l k ds ms i → next ≡ lines_marked l k ds ms₀ (up_to (i + 1))
    unfolding lines_marked
    marked_next next e = e ∙ ap (λ (m : List ℕ). line_marked l k ds m i) inv ∙ sym (fold_next (line_marked l k ds) ms₀ i)

    pub marked_end : (n : ℕ) → i ≤ n → n ≤ i → ms ≡ lines_marked l k ds ms₀ (up_to n)
    marked_end n h g = let z : i ≡ n = omega arith in rw z at inv

pub ruleset write_rules = (place_by, own_yes, own_no, number_own, number_read, wrote_start, wrote_next, wrote_less, wrote_end, mark_here, mark_out, mark_not, marked_start, marked_next, marked_end)
