-- What a cycle changes of a row that goes on: nothing in the fetch buffer, and little once it was dispatched.
use Rattle.std.proofs.Common.{◌≡◌, ◌∙◌, ℕ, List, Some, sym, subst}
use Rattle.rv_hardware.specs.Onward.{Stays}
use Rattle.rv_passage.specs.Shown.{IsStill}
use Rattle.rv_passage.specs.declared.passage.Passage.{Passage}

-- ---- what shows an instruction is still what shows it later

-- ---- how it stands at the end of a cycle

module _ (older : List Passage) {p n : Passage} (still : IsStill p n) where
  module _ {cycle : ℕ} (was : p.dispatched ≡ Some cycle) where
    dispatched : n.dispatched ≡ p.dispatched
    dispatched = subst (λ d. Stays d n.dispatched) was still.dispatched ∙ sym was
