-- Texts that were looked up before, by slot.
--   no_slot         nothing is known
--   Memo fs m       each of the slots m that has the number of a text has what `found` gives of that text's family
-- Assumes nothing.
use Rattle.std.specs.Prelude.{ℕ, ◌≡◌, List, None, slice_index_or}
use Rattle.definitions.specs.Family.{family}
use Rattle.memo.specs.Found.{found}
use Rattle.memo.specs.Texts.{pack, Bytes}
use Rattle.memo.specs.declared.slots.Slot.{Slot}

abbrev pub no_slot : Slot
no_slot = record { text = 0; place = None }

abbrev pub Memo : List (List ℕ) → List Slot → Type 0
Memo fs m = (h : ℕ) (s : List ℕ) → Bytes s → pack s ≡ (slice_index_or m h no_slot).text → (slice_index_or m h no_slot).place ≡ found fs (family s)
