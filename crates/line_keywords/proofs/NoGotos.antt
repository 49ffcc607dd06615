-- A line without the keyword `goto` leads nowhere.
--   neither               of two tests that are false together, each is
--   no_leads, no_jumps    a line without the keyword
-- Assumes nothing.
use Prim.Native.Nat.{ℕ}
use mathlib.Core.Path.{◌≡◌, refl}
use mathlib.Core.Bool.{Bool, true, false, ◌||◌}
use mathlib.Core.List.{List, [], ◌∷◌}
use native.Mathlib.Omega.{arith}
use Rattle.definitions.specs.Lists.{any, concat, ascii}
use Rattle.definitions.specs.Model.{Token, Line, line}
use Rattle.definitions.specs.Statements.{is_kw, has_kw, targets}
use Rattle.definitions.specs.FlowGraph.{leads, jumps}

pub neither : (a b : Bool) → (a || b) ≡ false → (a ≡ false) × (b ≡ false)
neither true b e = let z : ◌≡◌ {A = ℕ} 0 1 = cc in absurd (omega arith)
neither false b e = (refl, e)

no_targets : (ts : List Token) → any (is_kw (ascii "goto")) ts ≡ false → targets ts ≡ []
unfolding any targets
no_targets [] e = refl
no_targets (t ∷ ts) e =
    let h = neither (is_kw (ascii "goto") t) (any (is_kw (ascii "goto")) ts) e in
    rw h.0 (no_targets ts h.1)

module _ (L : List Line) (i : ℕ) (e : has_kw (line L i) (ascii "goto") ≡ false) where
  pub no_leads : leads L i ≡ []
  unfolding has_kw
  no_leads = rw (no_targets (line L i).tokens e)

  pub no_jumps : jumps L i ≡ []
  unfolding jumps concat
  no_jumps = rw no_leads
