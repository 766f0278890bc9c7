-- A bit that was set is cleared.
use Rattle.std.proofs.Common.{◌≡◌, ℕ, ◌-◌, ◌*◌, ◌^◌, ◌%◌, bit_and, ap, inl, inr, arith, w64}
use Rattle.std.specs.Int.{bit_at}
use Rattle.std.proofs.lemmas.Bool.{cases_eq}
use Rattle.std.proofs.lemmas.Nat.{and_le_l}
use Rattle.std.proofs.lemmas.Nat.Bits.{bit_at_clear_same, bit_at_clear_other}
use Rattle.rv_stations.proofs.marks.without.Goals as goal

pub returns-clause-cleared : goal.returns-clause-cleared
returns-clause-cleared c = bit_at_clear_same w64 c.args.mask c.args.place c.requires.within

pub returns-clause-others : goal.returns-clause-others
returns-clause-others c = λ other low apart. bit_at_clear_other w64 c.args.mask c.args.place
    c.requires.within other low apart

pub returns-clause-fewer : goal.returns-clause-fewer
returns-clause-fewer c =
    let left : ℕ = bit_and c.args.mask (18446744073709551615 - 1 * 2 ^ c.args.place % 18446744073709551616) in
    let gone : bit_at left c.args.place ≡ 0 = bit_at_clear_same w64 c.args.mask c.args.place c.requires.within in
    elim (cases_eq left c.args.mask) [
      | inl same ↦
          absurd (let both : bit_at left c.args.place ≡ bit_at c.args.mask c.args.place =
          ap (λ x. bit_at x c.args.place) same in omega (arith, both, gone, c.requires.marked))
      | inr other ↦ omega (
        arith,
        and_le_l c.args.mask (18446744073709551615 - 1 * 2 ^ c.args.place % 18446744073709551616),
      )
    ]
