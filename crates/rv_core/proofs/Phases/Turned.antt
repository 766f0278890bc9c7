-- A loop that takes turns leads to the same as all turns, at each of them.
use Rattle.rv_core.proofs.Words.{◌≡◌, ℕ, zero, suc, ◌+◌, ◌<◌, sym, refl, ap, ◌∙◌, arith, Ends, GoesOn, Turn}
use Rattle.rv_core.proofs.Words.{followed_by, repeated}

module _ {S : Type 0} (turn : S → Turn S) (final : S) where
  -- a turn that ends the phase
  pub turned-ends : (left : ℕ) (s new : S) → 0 < left → repeated turn left s ≡ final → turn s ≡ Ends new → new ≡ final
  turned-ends zero s new some to ends = absurd (omega arith)
  turned-ends (suc n) s new some to ends = sym (ap (followed_by (repeated turn n)) ends) ∙ to

  -- a turn after which the phase goes on
  pub turned-goes : (left rest : ℕ) (s new : S) → left ≡ rest + 1 → repeated turn left s ≡ final → turn s ≡ GoesOn new →
      repeated turn rest new ≡ final
  turned-goes zero rest s new more to goes = absurd (omega arith)
  turned-goes (suc n) rest s new more to goes = grind arith

-- a phase whose first turn ends it and changes nothing
pub turned-none : {S : Type 0} (turn : S → Turn S) (width : ℕ) (s : S) → Ends s ≡ turn s → s ≡ repeated turn width s
turned-none turn zero s ends = refl
turned-none turn (suc n) s ends = ap (followed_by (repeated turn n)) ends
