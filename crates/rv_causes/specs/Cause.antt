-- What an event of a run waited for, as the path of the run counts it.
use Rattle.std.specs.Prelude.{ℕ, List, [], ◌∷◌, codes}
use Rattle.rv_isa.specs.declared.operations.Kind.{Kind}
use Rattle.rv_isa.specs.declared.operations.Kind.TheVariants.{Alu, Mul, Div, Mem}
use Rattle.rv_causes.specs.declared.cause.Cause.{Cause}
use Rattle.rv_causes.specs.declared.cause.Cause.TheVariants as cause

-- the place of a cause in an account
abbrev pub place_of : Cause → ℕ
place_of cause.BeforeFirst = 0
place_of cause.AfterLast = 1
place_of cause.RefillPrediction = 2
place_of cause.RefillTrap = 3
place_of cause.RefillInterrupt = 4
place_of cause.RefillSerialising = 5
place_of cause.FetchWidth = 6
place_of cause.FetchJump = 7
place_of cause.FrontEnd = 8
place_of cause.DispatchWidth = 9
place_of cause.StoreQueueFull = 10
place_of cause.DispatchToIssue = 11
place_of cause.Operand = 12
place_of cause.StoreAddress = 13
place_of cause.AluBusy = 14
place_of cause.MulBusy = 15
place_of cause.DivBusy = 16
place_of cause.MemBusy = 17
place_of cause.PortStore = 18
place_of cause.PortLoad = 19
place_of cause.PortLines = 20
place_of cause.AluExecution = 21
place_of cause.MulExecution = 22
place_of cause.DivExecution = 23
place_of cause.MemExecution = 24
place_of cause.LoadForwarded = 25
place_of cause.LoadHit = 26
place_of cause.LoadMiss = 27
place_of cause.BusFull = 28
place_of cause.Commit = 29
place_of cause.CommitInOrder = 30
place_of cause.CommitWidth = 31
place_of cause.LinesWritten = 32
place_of cause.UntilInterrupt = 33
place_of cause.Other = 34

-- the units of a kind are held by other instructions
abbrev pub busy_of : Kind → Cause
busy_of Alu = cause.AluBusy
busy_of Mul = cause.MulBusy
busy_of Div = cause.DivBusy
busy_of Mem = cause.MemBusy

-- a unit of a kind executes the instruction
abbrev pub execution_of : Kind → Cause
execution_of Alu = cause.AluExecution
execution_of Mul = cause.MulExecution
execution_of Div = cause.DivExecution
execution_of Mem = cause.MemExecution

-- the causes between the first event and the last, in the order of their places
abbrev pub inner_causes : List Cause
inner_causes =
    cause.RefillPrediction ∷ cause.RefillTrap ∷ cause.RefillInterrupt ∷ cause.RefillSerialising ∷
    cause.FetchWidth ∷ cause.FetchJump ∷ cause.FrontEnd ∷ cause.DispatchWidth ∷ cause.StoreQueueFull ∷
    cause.DispatchToIssue ∷ cause.Operand ∷ cause.StoreAddress ∷
    cause.AluBusy ∷ cause.MulBusy ∷ cause.DivBusy ∷ cause.MemBusy ∷
    cause.PortStore ∷ cause.PortLoad ∷ cause.PortLines ∷
    cause.AluExecution ∷ cause.MulExecution ∷ cause.DivExecution ∷ cause.MemExecution ∷
    cause.LoadForwarded ∷ cause.LoadHit ∷ cause.LoadMiss ∷ cause.BusFull ∷
    cause.Commit ∷ cause.CommitInOrder ∷ cause.CommitWidth ∷ cause.LinesWritten ∷ cause.UntilInterrupt ∷ cause.Other ∷
    []

-- its name
unfoldable pub cause_name : Cause → List ℕ
cause_name cause.BeforeFirst = codes "before the first event"
cause_name cause.AfterLast = codes "after the last step"
cause_name cause.RefillPrediction = codes "refill: wrong prediction"
cause_name cause.RefillTrap = codes "refill: trap"
cause_name cause.RefillInterrupt = codes "refill: interrupt"
cause_name cause.RefillSerialising = codes "refill: serialising instruction"
cause_name cause.FetchWidth = codes "fetch width"
cause_name cause.FetchJump = codes "fetch ends at a predicted jump"
cause_name cause.FrontEnd = codes "front end"
cause_name cause.DispatchWidth = codes "dispatch width"
cause_name cause.StoreQueueFull = codes "store queue full"
cause_name cause.DispatchToIssue = codes "dispatch to issue"
cause_name cause.Operand = codes "operand"
cause_name cause.StoreAddress = codes "address of an older store"
cause_name cause.AluBusy = codes "alu units busy"
cause_name cause.MulBusy = codes "mul units busy"
cause_name cause.DivBusy = codes "div units busy"
cause_name cause.MemBusy = codes "mem units busy"
cause_name cause.PortStore = codes "port: a store"
cause_name cause.PortLoad = codes "port: a load"
cause_name cause.PortLines = codes "port: lines written back"
cause_name cause.AluExecution = codes "execution: alu"
cause_name cause.MulExecution = codes "execution: mul"
cause_name cause.DivExecution = codes "execution: div"
cause_name cause.MemExecution = codes "execution: mem"
cause_name cause.LoadForwarded = codes "load: forwarded, or faulted"
cause_name cause.LoadHit = codes "load: hit"
cause_name cause.LoadMiss = codes "load: miss"
cause_name cause.BusFull = codes "common data bus full"
cause_name cause.Commit = codes "commit"
cause_name cause.CommitInOrder = codes "commit in order"
cause_name cause.CommitWidth = codes "commit width"
cause_name cause.LinesWritten = codes "lines written back"
cause_name cause.UntilInterrupt = codes "until the interrupt"
cause_name cause.Other = codes "another cause"
