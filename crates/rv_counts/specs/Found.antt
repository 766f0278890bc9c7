-- How many instructions in the reorder buffer are of a sort.
use Rattle.std.specs.Prelude.{ℕ, count_by}
use Rattle.rv_isa.specs.Instruction.{is_serialising}
use Rattle.rv_isa.specs.declared.operations.Kind.{Kind}
use Rattle.rv_rob.specs.ReorderBuffer.{ReorderBuffer}
use Rattle.rv_rob.specs.declared.entry.Entry.{Entry}
use Rattle.rv_hardware.specs.Dispatch.{is_stationed}

-- those that wait to be the oldest, with nothing younger beside them
abbrev pub count_serialising : ReorderBuffer → ℕ
count_serialising rob = count_by (λ (e : Entry). is_serialising e.instruction) rob.entries

-- those in the stations of a kind
abbrev pub count_stationed : Kind → ReorderBuffer → ℕ
count_stationed kind rob = count_by (is_stationed kind) rob.entries
