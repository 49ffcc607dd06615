-- The numbers of headers, by what their words say.
--   no_number, guard_number, while_number, for_number    the number of a header
--   read_guard, read_always, read_leading                that of its condition
-- Assumes nothing.
use mathlib.Core.Logic.{◌⊎◌, inl, inr}
use mathlib.Core.Path.{◌≡◌}
use Prim.Native.Nat.{ℕ, ◌%◌, ◌≤◌, ◌<◌}
use native.Mathlib.Omega.{arith}
use Rattle.plan.specs.Plan.{header_at}
use Rattle.plan.specs.Headers.{Asks, Says}
use Rattle.plan.specs.declared.headers.Test.{Test}
use Rattle.plan.specs.declared.headers.Test.TheVariants.{Guard, Always, Leading}
use Rattle.plan.specs.declared.headers.Header.TheVariants.{NoHeader, While, For}

module _ (w : ℕ) where
  pub no_number : Says w NoHeader → header_at w ≡ 0
  no_number s = omega (arith, s.to)

  pub guard_number : (t : Test) → Says w (While t) → t ≡ Guard → header_at w ≡ 1
  guard_number t s e = let z : Says w (While Guard) = rw e at s in omega (arith, z.from, z.to)

  pub while_number : (t : Test) → Says w (While t) → (t ≡ Always) ⊎ (t ≡ Leading) → (2 ≤ header_at w) × (header_at w < 4)
  while_number t s (inl e) = let z : Says w (While Always) = rw e at s in (omega (arith, z.from), omega (arith, z.to))
  while_number t s (inr e) = let z : Says w (While Leading) = rw e at s in (omega (arith, z.from), omega (arith, z.to))

  pub for_number : (t : Test) → Says w (For t) → 4 ≤ header_at w
  for_number Guard s = omega (arith, s.from)
  for_number Always s = omega (arith, s.from)
  for_number Leading s = omega (arith, s.from)

  pub read_guard : Asks w Guard → header_at w % 4 < 2
  read_guard a = omega (arith, a.to)

  pub read_always : Asks w Always → header_at w % 4 ≡ 2
  read_always a = omega (arith, a.from, a.to)

  pub read_leading : Asks w Leading → header_at w % 4 ≡ 3
  read_leading a = omega (arith, a.from, a.to)
