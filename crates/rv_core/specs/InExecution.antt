-- The instruction of a sequence number, in execution.
use Rattle.std.specs.Prelude.{◌≡◌, ◌==◌, ℕ, List, All, Some, false}
use Rattle.rv_isa.specs.declared.{broadcast.Message.Message, issues.Issue.Issue}
use Rattle.rv_rob.specs.ReorderBuffer.{ReorderBuffer, entry_of}
use Rattle.rv_rob.specs.declared.entry.Entry.{Entry}
use Rattle.rv_rob.specs.declared.entry.Stage.TheVariants.{Running}
use Rattle.rv_stores.specs.declared.store.Store.{Store}

-- the reorder buffer has the number's entry, which left its station and will broadcast a message
abbrev pub IsRunning : ℕ → ReorderBuffer → Entry → Issue → Message → Type 0
IsRunning seq rob e issue message = (entry_of seq rob.retired rob.entries ≡ Some e) × (e.stage ≡ Running issue message)

-- no store has the number
abbrev pub AreOthers : ℕ → List Store → Type 0
AreOthers seq stores = All (λ (s : Store). (s.seq == seq) ≡ false) stores
