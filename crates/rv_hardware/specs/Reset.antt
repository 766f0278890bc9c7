-- The hardware at reset.
use Rattle.std.specs.Prelude.{◌≡◌, ℕ, ◌-◌, ◌%◌, ◌≤◌, false, List, [], ◌++◌, length, replicate}
use Rattle.std.specs.FinSet as set
use Rattle.rv_isa.specs.PerKind.{for_each}
use Rattle.rv_isa.specs.declared.values.Values.{Values}
use Rattle.rv_arch.specs.Reset.{reset_csrs}
use Rattle.rv_isa.specs.Arrivals.{no_lines}
use Rattle.rv_units.specs.Pool.{free_pool}
use Rattle.rv_front.specs.FetchBuffer.{FetchBuffer}
use Rattle.rv_rob.specs.ReorderBuffer.{empty}
use Rattle.rv_hardware.specs.Hardware.{Hardware}
use Rattle.rv_hardware.specs.Seen.{layout_of}

-- RAM holds the image at its front and zeros after it
abbrev pub memory_at_reset : Values → List ℕ → List ℕ
memory_at_reset values image = image ++ replicate (values.ram_size - length image) 0

-- a front that has fetched nothing yet
abbrev pub empty_front : Values → ℕ → FetchBuffer
empty_front values start =
    record { entries = []; capacity = values.fetch_buffer; width = values.fetch_width; next_pc = start; halted = false }

-- the described hardware with an image: nothing is in flight, no line is held, and execution begins at the image's start
abbrev pub reset_hardware : Values → List ℕ → ℕ → Hardware
reset_hardware values image start = record {
  values = values;
  pc = start;
  registers = replicate 32 0;
  csrs = reset_csrs;
  stale = set.empty;
  cache = record {
    base = values.ram_base;
    values = values.cache;
    bytes = memory_at_reset values image;
    sets = replicate values.cache.sets [];
    backing = record { layout = layout_of values; bytes = memory_at_reset values image };
  };
  committed = [];
  port_free = 0;
  units = for_each free_pool values.kinds;
  rob = empty values.rob;
  front = empty_front values start;
  cycle = 0;
  lines = no_lines;
}

-- an image that the described RAM can hold
pub record IsLoadable (values : Values) (base : ℕ) (image : List ℕ) (start : ℕ) : Type 0 where
  pub at_base : base ≡ values.ram_base
  pub fits : length image ≤ values.ram_size
  pub aligned : start % 4 ≡ 0
