-- The code of hardware is made of those of its fields, and distinguishes two values.
use Rattle.rv_hardware.proofs.Words.{nat_cmp, Hardware}
use Rattle.std.specs.Coded.{Coded, codes, coded_ℕ}
use Rattle.std.specs.FinSet as set

-- the code of hardware is made of those of its fields
pub hardware_code : Coded Hardware
hardware_code = hlevel (codes, set.code {R = nat_cmp} coded_ℕ)
