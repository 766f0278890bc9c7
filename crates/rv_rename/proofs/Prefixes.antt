-- The producers in order of numbers: the last of them, and those up to a number, one by one.
use Rattle.std.proofs.Common.{◌≡◌, ℕ, ◌+◌, ◌-◌, ◌<◌, ◌≤◌, List, [], ◌∷◌, ◌++◌, length, take, drop, slice_get}
use Rattle.std.proofs.Common.{None, Some, zero, suc, refl, ap, ◌∙◌, add-one, arith}
use Rattle.std.proofs.lemmas.Option.{slice_get-get_or}
use Rattle.rv_isa.specs.Numbered.{below, AreBelow, IsInOrder}
use Rattle.rv_isa.proofs.Numbered.{below-stays, below-stops, AreBelow-last, AreBelow-slice_get, IsInOrder-drop}
use Rattle.rv_rename.specs.declared.producer.Producer.{Producer}

-- the number of a producer
abbrev pub seq_of : Producer → ℕ
seq_of p = p.seq

-- all are below n where the last is, and only there
pub AreBelow-tells : (n : ℕ) (ps : List Producer) (q : Producer) → IsInOrder seq_of ps →
    slice_get ps (length ps - 1) ≡ Some q
    → (q.seq < n → AreBelow seq_of n ps) × (AreBelow seq_of n ps → q.seq < n)
AreBelow-tells n ps q order last = (
  AreBelow-last seq_of n (length ps - 1) ps q order (omega arith) last,
  λ are. AreBelow-slice_get seq_of n (length ps - 1) ps q are last,
)

-- a list with no last element has none
pub AreBelow-empty : (n : ℕ) (ps : List Producer) → slice_get ps (length ps - 1) ≡ None → AreBelow seq_of n ps
AreBelow-empty n [] e = λ k d within. absurd (omega arith)
AreBelow-empty n (p ∷ ps) e =
    grind (arith, slice_get-get_or (p ∷ ps) (length (p ∷ ps) - 1) p)

drop-get : (i : ℕ) (ps : List Producer) (p : Producer) → slice_get ps i ≡ Some p → drop i ps ≡ p ∷ drop (suc i) ps
drop-get i [] p e = absurd (cc)
drop-get zero (q ∷ ps) p e = let same : q ≡ p = cc in rw same refl
drop-get (suc i) (q ∷ ps) p e = drop-get i ps p e

take-suc : (i : ℕ) (ps : List Producer) (p : Producer) → slice_get ps i ≡ Some p → take (suc i) ps ≡ take i ps ++ p ∷ []
take-suc i [] p e = absurd (cc)
take-suc zero (q ∷ ps) p e = let same : q ≡ p = cc in rw same refl
take-suc (suc i) (q ∷ ps) p e = ap (λ qs. q ∷ qs) (take-suc i ps p e)

-- one producer more
pub take-next : (i : ℕ) (ps : List Producer) (p : Producer) → slice_get ps i ≡ Some p →
    take (i + 1) ps ≡ take i ps ++ p ∷ []
take-next i ps p e = rw (add-one i) (take-suc i ps p e)

-- a producer below n is the next of them
pub below-next : (n i : ℕ) (ps : List Producer) (p : Producer) → slice_get ps i ≡ Some p → p.seq < n
    → below seq_of n (drop i ps) ≡ p ∷ below seq_of n (drop (i + 1) ps)
below-next n i ps p e h =
    rw (add-one i) (ap (below seq_of n) (drop-get i ps p e) ∙ below-stays seq_of n p (drop (suc i) ps) h)

-- at a producer that is not below n there are no more
pub below-end : (n i : ℕ) (ps : List Producer) (p : Producer) → IsInOrder seq_of ps → slice_get ps i ≡ Some p →
    n ≤ p.seq
    → below seq_of n (drop i ps) ≡ []
below-end n i ps p order e h =
    let rest = drop-get i ps p e in
    rw rest (below-stops seq_of n p (drop (suc i) ps) (rw rest at (IsInOrder-drop seq_of i ps order)) h)
