-- Lines that begin at multiples of their length.
use Rattle.std.proofs.Common.{◌≡◌, ℕ, ◌+◌, ◌*◌, ◌/◌, ◌%◌, ◌<◌, ◌≤◌, ◌⊎◌, Bool, true, false}
use Rattle.std.proofs.Common.{not, ◌&&◌, nat_eq, nat_le, refl, sym, ap, ◌∙◌, inl, inr, arith}
use Rattle.std.specs.Int.{is_power_of_two}
use Rattle.std.proofs.Math.Nat.{mul-le-mul_right, mul_assoc, mul-add-mod_self_right, mod-lt, mod-eq_of_lt}
use Rattle.std.proofs.lemmas.Nat.{div-add-mod', div-mul-add, div_below, le-div}
use Rattle.std.proofs.lemmas.Bool.{agree_below_at, and_parts, and_from, and_cases}
use Rattle.std.proofs.lemmas.Bool.{not-false, le-leb, eqb-true, false≢true}
use lib.Count.{ones, ones_in}
use Rattle.rv_cache.specs.WriteBack.{IsInside}

-- each power of two from 4 to 128 is a multiple of 4 and divides 4096, by trial
abbrev divides : ℕ → Bool
divides n = nat_eq (n % 4) 0 && nat_eq (4096 % n) 0

-- the length of a line, a power of two from 4 to 128, is a multiple of 4 and divides 4096
pub line_divides : (line : ℕ) → 4 ≤ line → line ≤ 128 → is_power_of_two line ≡ true → (line % 4 ≡ 0) × (4096 % line ≡ 0)
unfolding ones ones_in
line_divides line low high power =
    let tried = agree_below_at (λ n. (nat_le 4 n && is_power_of_two n) && not (divides n)) (λ n. false) 129
    line refl (omega arith) in
    let both = and_from (nat_le 4 line) (is_power_of_two line) (le-leb 4 line low) power in
    elim (and_cases (nat_le 4 line && is_power_of_two line) (not (divides line)) tried) [
      | inl fails ↦ absurd (false≢true (sym fails ∙ both))
      | inr passes ↦
          let parts = and_parts (nat_eq (line % 4) 0) (nat_eq (4096 % line) 0) (not-false (divides line) passes) in
          (eqb-true (line % 4) 0 parts.0, eqb-true (4096 % line) 0 parts.1)
    ]

-- what a multiple of 4096 leaves
pub base_divides : (base line : ℕ) → 0 < line → 4096 % line ≡ 0 → base % 4096 ≡ 0 → base % line ≡ 0
base_divides base line positive pages aligned =
    let of_pages : base ≡ base / 4096 * 4096 = omega arith in
    let page : 4096 ≡ 4096 / line * line = omega (arith, div-add-mod' 4096 line) in
    let of_lines : base ≡ base / 4096 * (4096 / line) * line + 0 = of_pages ∙ ap (λ n. base / 4096 * n) page
    ∙ sym (mul_assoc (base / 4096) (4096 / line) line) ∙ omega arith in
    ap (λ n. n % line) of_lines ∙ mul-add-mod_self_right (base / 4096 * (4096 / line)) line 0 ∙ mod-eq_of_lt positive

module _ (base size line_bytes address : ℕ) (positive : 0 < line_bytes) (base_aligned : base % line_bytes ≡ 0)
    (whole_lines : size % line_bytes ≡ 0) (above : base ≤ address) (below : address < base + size) where
  -- the line of an address in memory lies in memory
  pub line_inside : IsInside base line_bytes size (address / line_bytes)
  line_inside =
      let first = div-add-mod' base line_bytes in
      let lines = div-add-mod' size line_bytes in
      let from : base / line_bytes ≤ address / line_bytes = le-div (base / line_bytes) address line_bytes positive
      (omega (arith, first)) in
      let to : address / line_bytes < base / line_bytes + size / line_bytes =
      div_below address line_bytes (base / line_bytes + size / line_bytes) positive (omega (arith, first, lines)) in
      let from_times = mul-le-mul_right line_bytes from in
      let to_times : (address / line_bytes + 1) * line_bytes ≤ (base / line_bytes + size / line_bytes) * line_bytes =
      mul-le-mul_right line_bytes (omega arith) in
      (omega (arith, first, from_times), omega (arith, first, lines, to_times))

-- an access at a multiple of its width lies in one line
pub same_line : (line_bytes address count k : ℕ) → 0 < line_bytes → line_bytes % 4 ≡ 0 →
    (count ≡ 1) ⊎ ((count ≡ 2) ⊎ (count ≡ 4)) → address % count ≡ 0 → k < count →
    (address + k) / line_bytes ≡ address / line_bytes
same_line line_bytes address count k positive words width aligned within =
    let number = address / line_bytes in
    let rest = address % line_bytes in
    let whole = div-add-mod' address line_bytes in
    let quads : line_bytes ≡ line_bytes / 4 * 4 = omega arith in
    let quarter : number * line_bytes ≡ number * (line_bytes / 4) * 4 = ap (λ n. number * n) quads
    ∙ sym (mul_assoc number (line_bytes / 4) 4) in
    let short : rest < line_bytes = mod-lt address positive in
    let fits : rest + k < line_bytes = elim width [
      | inl one ↦ omega (arith, short)
      | inr more ↦ elim more [
        | inl two ↦
            let even : address % 2 ≡ 0 = ap (λ n. address % n) (sym two) ∙ aligned in
            omega (arith, whole, quads, quarter, short)
        | inr four ↦
            let fourth : address % 4 ≡ 0 = ap (λ n. address % n) (sym four) ∙ aligned in
            omega (arith, whole, quads, quarter, short)
      ]
    ] in
    let place : address + k ≡ number * line_bytes + (rest + k) = omega (arith, whole) in
    ap (λ n. n / line_bytes) place ∙ div-mul-add number line_bytes (rest + k) fits
