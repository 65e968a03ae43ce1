-- `puzzle::given_bytes::GivenBytes::given` meets its contract: where the index is held at the greatest number both
-- lie past the end, and the given is zeros either way.
-- Assumes nothing.
use Prim.Native.Nat.{ℕ, ◌+◌, ◌*◌}
use mathlib.Core.Path.{◌≡◌, sym, ap, ◌∙◌}
use mathlib.Core.List.{List}
use native.Mathlib.Omega.{arith}
use Rattle.puzzle.specs.declared.Layout.{Layout}
use Rattle.puzzle.specs.Code.GivenBytes.{given_in, given_at}
use Rattle.puzzle.proofs.GivenBytes.{given_held}
use Rattle.puzzle.proofs.given_bytes.GivenBytes.given.Goals as goal
use Rattle.puzzle.proofs.given_bytes.GivenBytes.given.Goals.{in-Triples, in-Items}

-- what an arm of the match knows of the layout
told : (bytes : List ℕ) (i : ℕ) {layout l : Layout} → layout ≡ l → given_in l bytes i ≡ given_in layout bytes i
told bytes i e = ap (λ (x : Layout). given_in x bytes i) (sym e)

pub returns : goal.returns
unfolding given_in given_at
returns c =
    let a = c.args in
    elim c.match-self.branch [
      | in-Triples w ↦
          c.given_from.ensures
          ∙ given_held a.self.bytes.now c.match-self.start (0 + 3 * a.i) (λ h. omega (arith, h)) (λ h. omega (arith, h))
          ∙ told a.self.bytes.now a.i w.in-Triples.is
      | in-Items w ↦
          c.given_from.ensures
          ∙ given_held a.self.bytes.now c.match-self.start (1 + 4 * a.i) (λ h. omega (arith, h)) (λ h. omega (arith, h))
          ∙ told a.self.bytes.now a.i w.in-Items.is
    ]
