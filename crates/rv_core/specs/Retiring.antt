-- What the retirement of the oldest instruction leaves in the parts.
use Rattle.std.specs.Prelude.{ℕ, List, Option, None, Some, slice_set}
use Rattle.rv_isa.specs.declared.broadcast.StoreAccess.{StoreAccess}
use Rattle.rv_rename.specs.Renaming.{Renaming, retired}
use Rattle.rv_stores.specs.Queue.{Queue, with_oldest_retired}

-- the rename map without the oldest producer, where the instruction is one
abbrev pub without_target : ℕ → Option ℕ → Renaming → Renaming
without_target seq None m = m
without_target seq (Some register) m = retired register seq m

-- the store queue, where the instruction is a store that does not fault
abbrev pub with_commit : Option StoreAccess → Queue → Queue
with_commit None queue = queue
with_commit (Some access) queue = record queue { stores = with_oldest_retired queue.stores }

-- the registers once one was written, if any
abbrev pub registers_with : Option (ℕ × ℕ) → List ℕ → List ℕ
registers_with None registers = registers
registers_with (Some written) registers = slice_set registers written.0 written.1
