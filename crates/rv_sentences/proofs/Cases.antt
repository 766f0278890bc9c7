-- A text for all numbers but one.
use Rattle.std.proofs.Common.{◌≡◌, ℕ, ◌==◌, List, cond, refl, ne_eqb}

-- a number that is not the one has the other text
pub otherwise : (number one : ℕ) (this other : List ℕ) → (number ≡ one → ⊥) → other ≡ cond (number == one) this other
otherwise number one this other not = rw (ne_eqb number one not) refl
