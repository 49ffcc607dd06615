-- Texts that were looked up before, the last two as rules for `search`.
--   memo_empty          nothing was looked up yet
--   memo_hit            a text whose number is in its slot
--   memo_keep           a text more
-- Assumes nothing.
use Rattle.std.specs.Prelude.{Option}
use Prim.Native.Nat.{ℕ, ◌<◌}
use mathlib.Core.Path.{◌≡◌, sym, ap, ◌∙◌}
use mathlib.Core.List.{List}
use native.Mathlib.Decide.{ℕ_discrete}
use native.Mathlib.Omega.{arith}
use lib.ListN.{length, get_or, set, replicate}
use lib.Seq.{get_or-set_same, get_or-set_other}
use Rattle.definitions.specs.Family.{family}
use Rattle.theory.proofs.ListLaws.{replicate_default}
use Rattle.memo.specs.Found.{found}
use Rattle.memo.specs.Texts.{pack, Bytes}
use Rattle.memo.specs.Memo.{no_slot, Memo}
use Rattle.memo.specs.declared.slots.Slot.{Slot}
use Rattle.memo.proofs.Packs.{pack_some, pack_same}

pub memo_empty : (fs : List (List ℕ)) (m : List Slot) → m ≡ replicate 64 no_slot → Memo fs m
memo_empty fs m z h s B e = absurd (omega (arith, e ∙ ap (λ (w : List Slot). (get_or w h no_slot).text) z ∙ ap (λ (w : Slot). w.text) (replicate_default 64 h no_slot), pack_some s))

module _ (fs : List (List ℕ)) (m : List Slot) (M : Memo fs m) (s : List ℕ) (B : Bytes s) (h p : ℕ) (q : p ≡ pack s) where
  pub memo_hit : (get_or m h no_slot).text ≡ p → (get_or m h no_slot).place ≡ found fs (family s)
  memo_hit e = M h s B (sym q ∙ sym e)

  pub memo_keep : (c : Option ℕ) → h < length m → c ≡ found fs (family s) → Memo fs (set m h (record { text = p; place = c }))
  memo_keep c l e k t C f = elim (ℕ_discrete k h) [
    | yes z ↦ (let r = get_or-set_same m h x no_slot l in
        let y : pack t ≡ pack s = f ∙ ap (λ (j : ℕ). (get_or (set m h x) j no_slot).text) z ∙ ap (λ (w : Slot). w.text) r ∙ q in
        ap (λ (j : ℕ). (get_or (set m h x) j no_slot).place) z ∙ ap (λ (w : Slot). w.place) r ∙ e ∙ ap (λ (u : List ℕ). found fs (family u)) (sym (pack_same t s C B y)))
    | no z ↦ (let r = get_or-set_other m h k x no_slot z in
        ap (λ (w : Slot). w.place) r ∙ M k t C (f ∙ ap (λ (w : Slot). w.text) r))
  ]
    where
      x : Slot
      x = record { text = p; place = c }

pub ruleset memos = (memo_hit, memo_keep)
