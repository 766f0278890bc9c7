-- Four places that begin with at most four bytes, and hold zeros after them.
use Rattle.std.proofs.Common.{◌≡◌, ℕ, ◌≤◌, List, [], ◌∷◌, ◌++◌, length, take, drop, refl, arith}
use Rattle.std.proofs.Math.Seq.{take-append_seam}
use Rattle.rv_isa.specs.Bytes.{padded}

pub padded_lem : (xs : List ℕ) → length xs ≤ 4 → padded xs ≡ xs ++ drop (length xs) (0 ∷ 0 ∷ 0 ∷ 0 ∷ [])
padded_lem [] h = refl
padded_lem (a ∷ []) h = refl
padded_lem (a ∷ b ∷ []) h = refl
padded_lem (a ∷ b ∷ c ∷ []) h = refl
padded_lem (a ∷ b ∷ c ∷ d ∷ []) h = refl
padded_lem (a ∷ b ∷ c ∷ d ∷ e ∷ xs) h = absurd (omega arith)

-- what `StoreBytes` asks of its places
pub padded_fits : (xs : List ℕ) → length xs ≤ 4 → let places : List ℕ = xs ++ drop (length xs) (0 ∷ 0 ∷ 0 ∷ 0 ∷ []) in
    (length (take (length xs) places) ≡ length xs) × (padded (take (length xs) places) ≡ places) × (length xs ≤ 4)
padded_fits xs h = rw (take-append_seam xs (drop (length xs) (0 ∷ 0 ∷ 0 ∷ 0 ∷ []))) (refl, padded_lem xs h, h)
