-- A selection by the lanes that are equal to a number.
use Rattle.std.proofs.Common.{◌≡◌, ℕ, List, [], ◌∷◌, length, map, eqb, refl, ap₂, inl, inr, ◌+◌, ◌*◌, arith}
use Rattle.std.specs.Simd.Lanes.{zip2}
use lib.Lanes.{mask_l}
use Rattle.std.proofs.lemmas.Bool.{cases_Bool}
use Rattle.rv_stations.specs.Column.{woken_tag, woken_value}

-- where no bit is set, no tag is the number
pub unheld-tags : (seq : ℕ) (tags : List ℕ) → mask_l (map (λ t. eqb t seq) tags) ≡ 0 → map (woken_tag seq) tags ≡ tags
unheld-tags seq [] none = refl
unheld-tags seq (t ∷ ts) none = elim (cases_Bool (eqb t seq)) [
  | inl same ↦ let one : 1 + 2 * mask_l (map (λ t. eqb t seq) ts) ≡ 0 = rw same at none in absurd (omega (arith, one))
  | inr other ↦ let rest : 0 + 2 * mask_l (map (λ t. eqb t seq) ts) ≡ 0 = rw other at none in
      ap₂ ◌∷◌ (rw other refl) (unheld-tags seq ts (omega (arith, rest)))
]

-- where no bit is set, every value stays
pub unheld-values : (seq value : ℕ) (tags values : List ℕ) → length tags ≡ length values →
    mask_l (map (λ t. eqb t seq) tags) ≡ 0 → zip2 (woken_value seq value) tags values ≡ values
unheld-values seq value [] [] long none = refl
unheld-values seq value [] (v ∷ vs) long none = absurd (omega arith)
unheld-values seq value (t ∷ ts) [] long none = refl
unheld-values seq value (t ∷ ts) (v ∷ vs) long none = elim (cases_Bool (eqb t seq)) [
  | inl same ↦ let one : 1 + 2 * mask_l (map (λ t. eqb t seq) ts) ≡ 0 = rw same at none in absurd (omega (arith, one))
  | inr other ↦ let rest : 0 + 2 * mask_l (map (λ t. eqb t seq) ts) ≡ 0 = rw other at none in
      ap₂ ◌∷◌ (rw other refl) (unheld-values seq value ts vs (omega arith) (omega (arith, rest)))
]
