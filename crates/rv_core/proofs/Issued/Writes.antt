-- The stores older than an instruction write within RAM, and so does an instruction, or it faults.
use Rattle.rv_core.proofs.Words.{◌≡◌, ℕ, ◌+◌, Bool, true, false, List, [], ◌∷◌, IfSome, Some, None, All, Option, arith}
use Rattle.rv_core.proofs.Words.{All-append, All-head, All-tail, bytes_of_number, is_store, bytes_of, Message}
use Rattle.rv_core.proofs.Words.{StoreAccess, Cause, Fault, Instr, Lines, Width, Values, Effect, Faults, Retires}
use Rattle.rv_core.proofs.Words.{stores, State, Store as QueuedStore, StoreState, Entry, Stage, Finished, Hardware}
use Rattle.rv_core.proofs.Words.{broadcast_of, store_of_broadcast, store_of_message, stores_of, effect_message}
use Rattle.rv_core.proofs.Words.{result_in, layout_of, stores_after, LieIn, LiesIn, store_fault, IsLegalWrite}
use Rattle.rv_core.proofs.Words.{IsRetiredStore, IsSoundEntry, message_of}
use Rattle.rv_core.proofs.Issued.Stores.{All-one}
use Rattle.rv_core.proofs.Loads.Effect.{aligned_width, store_faults, store_gives, store_within}

module _ (values : Values) where
  abbrev base : ℕ
  base = values.ram_base

  abbrev size : ℕ
  size = values.ram_size

  pub retired_inside : (state : StoreState) → IsRetiredStore values state → LiesIn base size state
  retired_inside state sound = grind arith

  write_inside : (is : Bool) (fault : Option Fault) (access : Option StoreAccess) →
      IsLegalWrite values is fault access →
      LiesIn base size (store_of_message access)
  write_inside is fault access legal = grind arith

  broadcast_inside : (is : Bool) (stage : Stage) →
      IfSome (message_of stage) (λ message. IsLegalWrite values is message.fault message.store) →
      LiesIn base size (store_of_broadcast (broadcast_of stage))
  broadcast_inside is (Finished issue cycle message) legal = write_inside is message.fault message.store legal
  broadcast_inside is _ legal = tt

  stores_inside : (n : ℕ) (es : List Entry) → All (IsSoundEntry values) es → LieIn base size (stores_of n es)
  stores_inside n [] sound = λ k d within. absurd (omega arith)
  stores_inside n (e ∷ es) sound =
      All-one (λ t. LiesIn base size t.state) (is_store e.instruction)
      (record { seq = n; state = store_of_broadcast (broadcast_of e.stage) }) (stores_of (n + 1) es)
      (broadcast_inside (is_store e.instruction) e.stage (All-head (IsSoundEntry values) e es sound).writes)
      (stores_inside (n + 1) es (All-tail (IsSoundEntry values) e es sound))

  -- retired stores lie in RAM
  pub committed_inside : (ss : List QueuedStore) → All (λ (s : QueuedStore). IsRetiredStore values s.state) ss →
      LieIn base size ss
  committed_inside ss sound k d within = retired_inside _ (sound k d within)

-- the stores older than an instruction lie in RAM
pub inside_after : (h : Hardware) (older : List Entry) →
    All (λ (s : QueuedStore). IsRetiredStore h.values s.state) h.committed →
    All (IsSoundEntry h.values) older → LieIn h.values.ram_base h.values.ram_size (stores_after h older)
inside_after h older committed sound =
    All-append (λ (t : QueuedStore). LiesIn h.values.ram_base h.values.ram_size t.state) h.committed
    (stores_of h.rob.retired older)
    (committed_inside h.values h.committed committed) (stores_inside h.values h.rob.retired older sound)

-- what an instruction writes

abbrev writes_legally : Values → Bool → Message → Type 0
writes_legally values is message = IsLegalWrite values is message.fault message.store

silent : (values : Values) (e : Effect) → writes_legally values false (effect_message None e)
silent values (Retires written next) = tt
silent values (Faults cause value) = tt

module _ (values : Values) (s : State) (width : Width) (address word : ℕ) where
  abbrev access : StoreAccess
  access = record { address = address; bytes = bytes_of_number (bytes_of width) word }

  store_by_fault : (fault : Option Cause) → store_fault (layout_of values) address (bytes_of width) ≡ fault →
      writes_legally values true (effect_message (Some access) (stores (layout_of values) s width address word))
  store_by_fault fault is = grind (arith, store_faults, store_within, bytes_of, store_gives, aligned_width)

-- what an instruction gives is a legal write
pub result_writes : (values : Values) (s : State) (lines : Lines) (word : ℕ) (i : Instr) →
    writes_legally values (is_store (Some i)) (result_in (layout_of values) s lines word i)
result_writes values s lines word i = grind (arith, store_by_fault, bytes_of, silent)
