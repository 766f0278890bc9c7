use Rattle.std.proofs.Common.{◌≡◌, ℕ, ◌-◌, ◌^◌, ◌<◌, ℤ, pos, ◌*ℤ◌, arith, refl, ap, ◌∙◌, w32, w64, SFits, to_z, of_z}
use Rattle.std.proofs.lemmas.Int.{fits_signed_mul, to_z-of_z, ints}
use Rattle.rv_isa.specs.Word.{upper_word}
use Rattle.rv_isa.proofs.arithmetic.multiply_high_mixed.Goals as goal

-- x and y are a and b in 64 bits
product : (a : ℤ) (b : ℕ) (x y : ℤ) → SFits w32 a → SFits w64 x → SFits w64 y → x ≡ to_z w32 (of_z w32 a) → y ≡ pos b →
    to_z w64 (of_z w64 x) *ℤ to_z w64 (of_z w64 y) ≡ a *ℤ pos b
product a b x y fits fits_x fits_y is_x is_y =
    rw (to_z-of_z w64 x fits_x, to_z-of_z w64 y fits_y, is_x, to_z-of_z w32 a fits, is_y) refl

product_fits : (a : ℤ) (b : ℕ) → SFits w32 a → b < 2 ^ 32 → SFits w64 (a *ℤ pos b)
product_fits a b fits below =
    fits_signed_mul w64 a (pos b) (2 ^ 31) (2 ^ 32 - 1) (omega (arith, ints)) (omega arith) (omega arith)

pub overflow_mul-product : goal.overflow_mul-product
overflow_mul-product c =
    let is = product _ _ _ _ c.ranges.a (record { sfits = c.from.type_inv }) (record { sfits = c.from-2.type_inv })
    c.from.ensures c.from-2.ensures in
    rw is (product_fits _ _ c.ranges.a c.ranges.b.fits)

pub returns : goal.returns
returns c =
    let is = product _ _ _ _ c.ranges.a (record { sfits = c.from.type_inv }) (record { sfits = c.from-2.type_inv })
    c.from.ensures c.from-2.ensures in
    c.upper_half.ensures ∙ ap upper_word (rw is (to_z-of_z w64 _ (product_fits _ _ c.ranges.a c.ranges.b.fits)))
