-- What each cause says of two events: the one that waited, and the one for which it waited last.
-- Of the hardware it knows the stages of events, the cycles before them and the numbers of instructions; an older one
-- has a smaller number.
use Rattle.std.specs.Prelude.{ℕ, ◌+◌, ◌==◌, ◌&&◌, ◌||◌, not, nat_lt, Bool, true, if◌then◌else◌, List, [], ◌∷◌}
use Rattle.std.specs.List.{list_any}
use Rattle.rv_causes.specs.Point.{stage_place}
use Rattle.rv_causes.specs.declared.{cause.Cause.Cause, claim.Claim.Claim}
use Rattle.rv_causes.specs.declared.{claim.Stages.Stages, claim.When.When, claim.Whose.Whose}
use Rattle.rv_causes.specs.declared.{point.Point.Point, point.Stage.Stage}
use Rattle.rv_causes.specs.declared.cause.Cause.TheVariants as cause
use Rattle.rv_causes.specs.declared.claim.Stages.TheVariants as stages
use Rattle.rv_causes.specs.declared.claim.When.TheVariants as when
use Rattle.rv_causes.specs.declared.claim.Whose.TheVariants as whose
use Rattle.rv_causes.specs.declared.point.Stage.TheVariants as stage

-- The stages of some name. Where several instructions come to a stage in a cycle the first has an event of its own,
-- which is the others' too; and where something made room for it, that event is theirs.
abbrev pub members : Stages → List Stage
members stages.Any =
    stage.Begin ∷ stage.Fetch ∷ stage.Dispatch ∷ stage.Issue ∷ stage.Broadcast ∷ stage.Commit ∷ stage.Drain
    ∷ stage.Lines ∷ stage.Interrupt ∷ stage.End ∷
    []
members stages.Begin = stage.Begin ∷ []
members stages.Fetch = stage.Fetch ∷ []
members stages.Dispatch = stage.Dispatch ∷ []
members stages.Issue = stage.Issue ∷ []
members stages.Broadcast = stage.Broadcast ∷ []
members stages.Commit = stage.Commit ∷ []
members stages.Interrupt = stage.Interrupt ∷ []
members stages.End = stage.End ∷ []
members stages.Fetched = stage.Fetch ∷ stage.Dispatch ∷ stage.Issue ∷ stage.Commit ∷ []
members stages.Dispatched = stage.Dispatch ∷ stage.Issue ∷ stage.Commit ∷ []
members stages.Known = stage.Broadcast ∷ stage.Dispatch ∷ stage.Issue ∷ stage.Commit ∷ []
members stages.Head = stage.Commit ∷ stage.Lines ∷ []
members stages.Port = stage.Issue ∷ stage.Commit ∷ stage.Lines ∷ stage.Drain ∷ []
members stages.Draining = stage.Drain ∷ stage.Commit ∷ []
members stages.Writing = stage.Lines ∷ stage.Commit ∷ []
members stages.Left = stage.Begin ∷ stage.Commit ∷ stage.Interrupt ∷ []

abbrev pub has_stage : Stages → Stage → Bool
has_stage stages.Any one = true
has_stage some one = list_any (λ other. stage_place other == stage_place one) (members some)

-- how much later the other event came
abbrev pub comes : When → ℕ → ℕ → Bool
comes when.NotBefore first second = true
comes when.Later first second = nat_lt first second
comes when.CycleAfter first second = first + 1 == second

-- whose event it waited for
abbrev pub is_of : Whose → Point → Point → Bool
is_of whose.Any waited waits = true
is_of whose.Same waited waits = waited.number == waits.number
is_of whose.Another waited waits = not (waited.number == waits.number)
is_of whose.Older waited waits = nat_lt waited.number waits.number
is_of whose.Own waited waits =
    waited.number == waits.number
    || not (stage_place waited.stage == stage_place stage.Broadcast) && nat_lt waited.number waits.number

-- which stages wait on account of a cause, for which, how long, and for whose
abbrev pub claim : Stages → Stages → When → Whose → Claim
claim waits waited when whose = record { waits = waits; waited = waited; when = when; whose = whose }

-- the claims of the causes
abbrev pub claim_of : Cause → Claim
claim_of cause.BeforeFirst = claim stages.Any stages.Begin when.NotBefore whose.Any
claim_of cause.AfterLast = claim stages.End stages.Left when.NotBefore whose.Any
claim_of cause.RefillPrediction = claim stages.Fetched stages.Any when.NotBefore whose.Any
claim_of cause.RefillTrap = claim stages.Fetched stages.Any when.NotBefore whose.Any
claim_of cause.RefillInterrupt = claim stages.Fetched stages.Any when.NotBefore whose.Any
claim_of cause.RefillSerialising = claim stages.Fetched stages.Any when.NotBefore whose.Any
claim_of cause.FetchWidth = claim stages.Fetch stages.Fetched when.CycleAfter whose.Older
claim_of cause.FetchJump = claim stages.Fetch stages.Fetched when.CycleAfter whose.Older
claim_of cause.FrontEnd = claim stages.Dispatch stages.Fetched when.CycleAfter whose.Own
claim_of cause.DispatchWidth = claim stages.Dispatch stages.Dispatched when.CycleAfter whose.Older
claim_of cause.StoreQueueFull = claim stages.Dispatch stages.Draining when.Later whose.Any
claim_of cause.DispatchToIssue = claim stages.Issue stages.Dispatched when.CycleAfter whose.Own
claim_of cause.Operand = claim stages.Issue stages.Broadcast when.CycleAfter whose.Older
claim_of cause.StoreAddress = claim stages.Issue stages.Broadcast when.CycleAfter whose.Older
claim_of cause.AluBusy = claim stages.Issue stages.Issue when.Later whose.Another
claim_of cause.MulBusy = claim stages.Issue stages.Issue when.Later whose.Another
claim_of cause.DivBusy = claim stages.Issue stages.Issue when.Later whose.Another
claim_of cause.MemBusy = claim stages.Issue stages.Issue when.Later whose.Another
claim_of cause.PortStore = claim stages.Port stages.Draining when.Later whose.Any
claim_of cause.PortLoad = claim stages.Port stages.Issue when.Later whose.Any
claim_of cause.PortLines = claim stages.Port stages.Writing when.Later whose.Any
claim_of cause.AluExecution = claim stages.Broadcast stages.Issue when.Later whose.Same
claim_of cause.MulExecution = claim stages.Broadcast stages.Issue when.Later whose.Same
claim_of cause.DivExecution = claim stages.Broadcast stages.Issue when.Later whose.Same
claim_of cause.MemExecution = claim stages.Broadcast stages.Issue when.Later whose.Same
claim_of cause.LoadForwarded = claim stages.Broadcast stages.Issue when.Later whose.Same
claim_of cause.LoadHit = claim stages.Broadcast stages.Issue when.Later whose.Same
claim_of cause.LoadMiss = claim stages.Broadcast stages.Issue when.Later whose.Same
claim_of cause.BusFull = claim stages.Broadcast stages.Broadcast when.CycleAfter whose.Another
claim_of cause.Commit = claim stages.Head stages.Known when.CycleAfter whose.Own
claim_of cause.CommitInOrder = claim stages.Head stages.Commit when.CycleAfter whose.Older
claim_of cause.CommitWidth = claim stages.Commit stages.Commit when.CycleAfter whose.Older
claim_of cause.LinesWritten = claim stages.Commit stages.Writing when.Later whose.Own
claim_of cause.UntilInterrupt = claim stages.Interrupt stages.Left when.Later whose.Any
claim_of cause.Other = claim stages.Any stages.Any when.NotBefore whose.Any

-- it is so of two events
abbrev pub is_so : Claim → Point → ℕ → Point → ℕ → Bool
is_so it waited first waits second =
    has_stage it.waits waits.stage
    && (has_stage it.waited waited.stage && (comes it.when first second && is_of it.whose waited waits))

-- a cause, if what it says is so of two events, and else none of those
abbrev pub cause_if : Bool → Cause → Cause
cause_if is why = if is then why else cause.Other
