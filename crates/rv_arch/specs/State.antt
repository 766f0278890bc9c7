use Rattle.std.specs.Prelude.{◌≡◌, ℕ, ◌==◌, ◌*◌, ◌%◌, if◌then◌else◌, List, length}
use Rattle.std.specs.Prelude.{slice_index, slice_set, IsTrue, Option, Some, None}
use Rattle.std.specs.Ordering.{nat_cmp}
use Rattle.std.specs.FinSet as set
use Rattle.rv_memory.specs.Memory.{Layout, is_in_ram}
use Rattle.rv_arch.specs.Csr.{Kept}

-- The state that programs see (Unprivileged ISA 20191213, 2.1; Privileged Architecture 20211203, 3.1): the pc, x0 to x31, what
-- the CSRs keep, the bytes of RAM from its base on, and the numbers of the stale words: those that a store has touched since
-- the last FENCE.I, so that a fetch need not see what was stored (Unprivileged ISA 20191213, 3).
pub record State : Type 0 where
  pub pc : ℕ
  pub registers : List ℕ
  pub csrs : Kept
  pub ram : List ℕ
  pub stale : set.FinSet nat_cmp

-- the value of a register
abbrev pub register_of : State → ℕ → ℕ
register_of s r = slice_index s.registers r

-- Unprivileged ISA 20191213, 2.1: the registers once a value was written to one; x0 drops it
abbrev pub with_register : List ℕ → ℕ → ℕ → List ℕ
with_register registers r value = if r == 0 then registers else slice_set registers r value

-- Unprivileged ISA 20191213, 2.1: the register that changes, and its value
abbrev pub write_of : ℕ → ℕ → Option (ℕ × ℕ)
write_of r value = if r == 0 then None else Some (r, value)

-- What every state is: pc is a multiple of 4, there are 32 registers, of which x0 is 0, and as many bytes as RAM has, and a
-- stale word lies in RAM.
pub record IsState (layout : Layout) (s : State) : Type 0 where
  pub pc : s.pc % 4 ≡ 0
  pub registers : length s.registers ≡ 32
  pub x0 : register_of s 0 ≡ 0
  pub ram : length s.ram ≡ layout.size
  pub stale : (word : ℕ) → IsTrue (set.contains s.stale word) → IsTrue (is_in_ram layout (4 * word) 4)
