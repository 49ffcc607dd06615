-- Laws of `Wrote` and `Begun`.
--   wrote_nothing, wrote_as          nothing; the same bytes, said otherwise
--   wrote_then                       one text behind another
--   wrote_2, wrote_3, wrote_5        two, three and five texts in a row
--   begun_start, begun_next, begun_then, begun_end, begun_last     a text that is written piece by piece
-- Assumes nothing.
use Prim.Native.Nat.{ℕ}
use mathlib.Core.Path.{◌≡◌, refl, sym, ap, ◌∙◌}
use mathlib.Core.List.{List, [], ◌++◌, append_assoc, append-nil}
use native.Mathlib.Omega.{arith}
use lib.ListN.{take, length-append}
use Rattle.json_append.specs.Appended.{Appended, Wrote, Begun}
use Rattle.json_append.specs.declared.writer.Writer.{Writer}

append_then : (out : List ℕ) (at : ℕ) (b out' : List ℕ) (m : ℕ) (c out'' : List ℕ) (e : ℕ) → Appended out at b out' m → Appended out' m c out'' e → Appended out at (b ++ c) out'' e
append_then out at b out' m c out'' e f g =
    let l = f.long in let k = g.long in let p = f.end in let q = g.end in
    let n = length-append b c in
    record {
      long = k ∙ l;
      end = omega arith;
      bytes = λ h. g.bytes (omega arith) ∙ ap (λ (u : List ℕ). u ++ c) (f.bytes (omega arith)) ∙ append_assoc (take at out) b c;
    }

pub wrote_nothing : (w : Writer) → Wrote w [] w
wrote_nothing w = let h = w.fits in record { same = refl; text = record { long = refl; end = omega arith; bytes = λ g. sym (append-nil (take w.at w.out.now)) } }

pub wrote_as : (w : Writer) (b c : List ℕ) (w' : Writer) → b ≡ c → Wrote w b w' → Wrote w c w'
wrote_as w b c w' q f = rw q at f

pub wrote_then : (w : Writer) (b : List ℕ) (m : Writer) → Wrote w b m → (c : List ℕ) (w' : Writer) → Wrote m c w' → Wrote w (b ++ c) w'
wrote_then w b m f c w' g = record { same = g.same ∙ f.same; text = append_then w.out.now w.at b m.out.now m.at c w'.out.now w'.at f.text g.text }

-- the texts of calls in a row
module _ (w : Writer) (b : List ℕ) (w₁ : Writer) (f₁ : Wrote w b w₁) (c : List ℕ) (w₂ : Writer) (f₂ : Wrote w₁ c w₂) where
  pub wrote_2 : (t : List ℕ) → b ++ c ≡ t → Wrote w t w₂
  wrote_2 t e = wrote_as w (b ++ c) t w₂ e (wrote_then w b w₁ f₁ c w₂ f₂)

  module _ (d : List ℕ) (w₃ : Writer) (f₃ : Wrote w₂ d w₃) where
    pub wrote_3 : (t : List ℕ) → b ++ (c ++ d) ≡ t → Wrote w t w₃
    wrote_3 t e = wrote_as w (b ++ (c ++ d)) t w₃ e (wrote_then w b w₁ f₁ (c ++ d) w₃ (wrote_then w₁ c w₂ f₂ d w₃ f₃))

    module _ (g : List ℕ) (w₄ : Writer) (f₄ : Wrote w₃ g w₄) where
      pub wrote_5 : (h : List ℕ) (w₅ : Writer) (f₅ : Wrote w₄ h w₅) (t : List ℕ) → b ++ (c ++ (d ++ (g ++ h))) ≡ t → Wrote w t w₅
      wrote_5 h w₅ f₅ t e =
          wrote_as w (b ++ (c ++ (d ++ (g ++ h)))) t w₅ e
          (wrote_then w b w₁ f₁ (c ++ (d ++ (g ++ h))) w₅ (wrote_then w₁ c w₂ f₂ (d ++ (g ++ h)) w₅
          (wrote_then w₂ d w₃ f₃ (g ++ h) w₅ (wrote_then w₃ g w₄ f₄ h w₅ f₅))))

-- a text that is written piece by piece
pub begun_start : (w : Writer) (t : List ℕ) → Begun w t w t
begun_start w t = record { done = []; written = wrote_nothing w; whole = refl }

module _ (w : Writer) (t : List ℕ) (m : Writer) (r : List ℕ) (g : Begun w t m r) where
  pub begun_next : (b : List ℕ) (w' : Writer) → Wrote m b w' → (r' : List ℕ) → b ++ r' ≡ r → Begun w t w' r'
  begun_next b w' f r' e =
      record { done = g.done ++ b; written = wrote_then w g.done m g.written b w' f; whole = append_assoc g.done b r' ∙ (rw (← e) at g.whole) }

  pub begun_then : (w' : Writer) (r' : List ℕ) → Begun m r w' r' → Begun w t w' r'
  begun_then w' r' f = begun_next f.done w' f.written r' f.whole

  pub begun_end : r ≡ [] → Wrote w t m
  begun_end e = wrote_as w g.done t m (sym (append-nil g.done) ∙ (rw e at g.whole)) g.written

  pub begun_last : (w' : Writer) → Wrote m r w' → Wrote w t w'
  begun_last w' f = wrote_2 w g.done m g.written r w' f t g.whole
