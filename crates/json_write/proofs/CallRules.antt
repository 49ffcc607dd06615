-- Rules for the needs of the call: each premise is a field of what a need is handed.
--   four_no, four_yes                   question 4, by the length of the text; and the text
--   formed                              what questions 1 and 2 say of the columns
-- Assumes nothing.
use Rattle.std.specs.Prelude.{Ok, Err}
use Prim.Native.Nat.{ℕ, ◌≤◌, ◌<◌}
use mathlib.Core.Path.{◌≡◌, sym, ◌∙◌}
use mathlib.Core.Bool.{Bool, true, ◌&&◌}
use mathlib.Core.List.{List}
use native.Mathlib.Omega.{arith}
use borrow.Author.Tests.{le-leb, lt-leb, leb-true}
use lib.Dec.{leb}
use lib.ListN.{length, take}
use Rattle.definitions.specs.Questions.{limits, question_1, question_2}
use Rattle.definitions.specs.Answers.{accepted}
use Rattle.definitions.specs.Calls.{filled}
use Rattle.loop_theory.proofs.Cases.{and_split}
use Rattle.text.specs.Zeroed.{zeroed}
use Rattle.json_append.specs.Appended.{most, Appended}
use Rattle.questions.specs.declared.Refusal.TheVariants.{NoRoom}
use Rattle.json_write.specs.Answers.{fourth, written}
use Rattle.json_write.specs.Sizes.{Formed}

-- Question 4, by the length of the text

module _ (W out : List ℕ) (n : ℕ) (f : n ≡ length W) where
  pub four_no : length out < n → written (Err NoRoom) out ≡ fourth W out
  four_no h = rw (lt-leb (length W) (length out) (omega arith))

  pub four_yes : (out₂ : List ℕ) (e : ℕ) (out₃ : List ℕ) → n ≤ length out → n ≤ most → Appended out 0 W out₂ e → out₃ ≡ zeroed e out₂ → written (Ok e) out₃ ≡ fourth W out
  four_yes out₂ e out₃ h b w z =
      let r = w.end in
      let m : e ≡ length W = omega arith in
      let t : take e out₂ ≡ W = w.bytes (omega arith) in
      rw (le-leb (length W) (length out) (omega arith)) (done m (z ∙ rw (t, w.long, m)))
    where
      done : e ≡ length W → out₃ ≡ filled W out → written (Ok e) out₃ ≡ record { answer = accepted (length W); out = filled W out }
      done p q = rw (p, q)

-- What the first two questions say

pub formed : (l a t x : List ℕ) (b₁ b₂ : Bool) → b₁ ≡ question_1 limits l t x → b₁ ≡ true → length a ≡ length l → b₂ ≡ question_2 l t x → b₂ ≡ true → Formed l a t x
formed l a t x b₁ b₂ e₁ f₁ h e₂ f₂ =
    let p = and_split (leb (length l) 1024 && leb (length t) 16384) (leb (length x) 262144) (sym e₁ ∙ f₁) in
    let q = and_split (leb (length l) 1024) (leb (length t) 16384) p.0 in
    record {
      addresses = h;
      lines = leb-true (length l) 1024 q.0;
      tokens = leb-true (length t) 16384 q.1;
      text = leb-true (length x) 262144 p.1;
      covered = sym e₂ ∙ f₂;
    }
