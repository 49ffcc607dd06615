-- Laws of `Reaches` and `Chain`, over any edges.
--   definition_cases, line_definition    a definition is the entry or a defining line
--   Holds d i                            the definition d holds where control leaves line i
--   extend                               what holds there reaches the next line
--   reaches_definition, reaches_pos      what reaches a line is a definition; nothing reaches line 0
--   chain_trans, chain_sym               chains are put together and turned round
--   chain_definition                     a chain links a definition with definitions
-- Assumes nothing.
use Prim.Native.Nat.{ℕ, ◌<◌}
use mathlib.Core.Path.{◌≡◌}
use mathlib.Core.Logic.{◌⊎◌, inl, inr}
use mathlib.Core.Bool.{Bool, true, false}
use lib.Dec.{eqb}
use borrow.Author.Tests.{eqb-true}
use Rattle.definitions.specs.Reaching.{is_definition, Reaches, start, further, Chain, itself, link}
use Rattle.theory.proofs.Bools.{or_right, or_cases}

pub definition_cases : (defines : ℕ → Bool) (d : ℕ) → is_definition defines d ≡ true → (d ≡ 0) ⊎ (defines d ≡ true)
definition_cases defines d s = elim (or_cases (eqb d 0) (defines d) s) [ inl e ↦ inl (eqb-true d 0 e) | inr e ↦ inr e ]

pub line_definition : (defines : ℕ → Bool) (d : ℕ) → defines d ≡ true → is_definition defines d ≡ true
line_definition defines d e = or_right (eqb d 0) (defines d) e

module _ {edge : ℕ → ℕ → Bool} {defines : ℕ → Bool} where
  pub reaches_definition : {d i : ℕ} → Reaches edge defines d i → is_definition defines d ≡ true
  reaches_definition (start s e p) = s
  reaches_definition (further r δ e p) = reaches_definition r

  pub reaches_pos : {d i : ℕ} → Reaches edge defines d i → 0 < i
  reaches_pos (start s e p) = p
  reaches_pos (further r δ e p) = p

-- Either d is the line itself, or it reached the line and the line does not define the family.
module _ (edge : ℕ → ℕ → Bool) (defines : ℕ → Bool) where
  abbrev pub Holds : ℕ → ℕ → Type 0
  Holds d i = ((d ≡ i) × (is_definition defines d ≡ true)) ⊎ (Reaches edge defines d i × (defines i ≡ false))

  pub extend : {d i j : ℕ} → Holds d i → edge i j ≡ true → 0 < j → Reaches edge defines d j
  extend {j = j} (inl h) e p = start {j = j} h.1 (rw h.0 e) p
  extend (inr h) e p = further h.0 h.1 e p

module _ {edge : ℕ → ℕ → Bool} {defines reads : ℕ → Bool} where
  pub chain_trans : {a b c : ℕ} → Chain edge defines reads a b → Chain edge defines reads b c → Chain edge defines reads a c
  chain_trans p itself = p
  chain_trans p (link i q r rb rc) = link i (chain_trans p q) r rb rc

  pub chain_sym : {a b : ℕ} → Chain edge defines reads a b → Chain edge defines reads b a
  chain_sym itself = itself
  chain_sym (link i q r rb rc) = chain_trans (link i itself r rc rb) (chain_sym q)

  pub chain_definition : {a b : ℕ} → Chain edge defines reads a b → is_definition defines a ≡ true → is_definition defines b ≡ true
  chain_definition itself s = s
  chain_definition (link i q r rb rc) s = reaches_definition rc
