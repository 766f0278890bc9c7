-- The fields of the stations of a kind: what they stand for, and what is true of them.
use Rattle.std.specs.Prelude.{◌≡◌, ℕ, ◌<◌, ◌≤◌, List, length, get_or, map, take, vec_len, Some, if◌then◌else◌}
use Rattle.std.specs.Int.{bit_at}
use Rattle.std.specs.List.{All, AllPairs}
use Rattle.std.specs.Simd.Lanes.{zip2}
use Rattle.rv_isa.specs.declared.instructions.Instr.TheVariants.{Fence}
use Rattle.rv_stations.specs.declared.{waiting.Operand.Operand, waiting.Waiting.Waiting}
use Rattle.rv_stations.specs.declared.{pool.Dispatched.Dispatched, pool.StationPool.TheInside.Inside}
use Rattle.rv_stations.specs.declared.waiting.Operand.TheVariants.{Value}
use Rattle.rv_isa.specs.Instruction.{is_load}
use Rattle.rv_isa.specs.Numbered.{IsInOrder}
use Rattle.rv_stations.specs.Waiting.{seq_of}
use Rattle.rv_stations.specs.Pool.{Pool}

-- the parts of an instruction side by side
abbrev pub with_dispatched : ℕ → Dispatched → ℕ × Dispatched
with_dispatched seq dispatched = (seq, dispatched)

-- the operands of an instruction side by side
abbrev pub both_operands : Operand → Operand → Operand × Operand
both_operands first second = (first, second)

-- an instruction of its parts
abbrev pub instruction_of : ℕ × Dispatched → Operand × Operand → Waiting
instruction_of a b = record { seq = a.0; pc = a.1.pc; instruction = a.1.instruction; first = b.0; second = b.1 }

-- the instructions of which four lists hold the parts
abbrev pub joined : List ℕ → List Dispatched → List Operand → List Operand → List Waiting
joined seqs dispatched first second =
    zip2 instruction_of (zip2 with_dispatched seqs dispatched) (zip2 both_operands first second)

-- an instruction, to stand for what a list does not hold
abbrev pub some_waiting : Waiting
some_waiting = record { seq = 0; pc = 0; instruction = Fence; first = Value 0; second = Value 0 }

-- the instructions in some places
abbrev pub in_places : List Waiting → List ℕ → List Waiting
in_places instructions places = map (λ place. get_or instructions place some_waiting) places

-- what stands in the places of all stations
abbrev pub in_all : Inside → List Waiting
in_all p = joined p.seqs.items p.dispatched.items p.first p.second

-- the waiting instructions
abbrev pub pool : Inside → Pool
pool p = record { waiting = in_places (in_all p) (take p.count p.places.items); capacity = vec_len p.places }

-- what stands in a place that no instruction has had
abbrev pub nothing : Dispatched
nothing = record { pc = 0; instruction = Fence }

-- the bit of the place is set if its instruction does not load, and clear if it does
abbrev pub IsMarkedOther : List Dispatched → ℕ → ℕ → Type 0
IsMarkedOther dispatched mask place =
    bit_at mask place ≡ if is_load (Some (get_or dispatched place nothing).instruction) then 0 else 1

-- the lists are of one length, each place is there and no two are the same, the numbers rise, and the bits of the
-- places are set where an instruction waits
pub record IsSoundPool (p : Inside) : Type 0 where
  pub within : p.count ≤ vec_len p.places
  pub few : vec_len p.seqs ≤ 64
  pub dispatched : vec_len p.dispatched ≡ vec_len p.seqs
  pub first : length p.first ≡ vec_len p.seqs
  pub second : length p.second ≡ vec_len p.seqs
  pub there : All (λ place. place < vec_len p.seqs) p.places.items
  pub apart : AllPairs (λ a b. a ≡ b → ⊥) p.places.items
  pub in_order : IsInOrder seq_of (in_places (in_all p) (take p.count p.places.items))
  pub held : All (λ place. bit_at p.held place ≡ 1) (take p.count p.places.items)
  pub others : All (IsMarkedOther p.dispatched.items p.others) (take p.count p.places.items)
