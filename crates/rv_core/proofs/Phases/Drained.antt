-- The drain phase on the queue is that on the retired stores: what is in flight stays after them.
use Rattle.rv_core.proofs.Words.{◌≡◌, ℕ, ◌+◌, ◌<◌, Bool, true, false, List, [], ◌∷◌, ◌++◌, if◌then◌else◌, Some, None}
use Rattle.rv_core.proofs.Words.{All, Option, refl, arith, All-cons, All-head, All-tail, is_store, Message, StoreAccess}
use Rattle.rv_core.proofs.Words.{Values, oldest_to_drain, with_oldest_draining, without_drained, access_to_drain}
use Rattle.rv_core.proofs.Words.{draining, is_draining, Store as QueuedStore, Speculative, StoreState, Entry}
use Rattle.rv_core.proofs.Words.{broadcast_of, store_of_broadcast, store_of_message, stores_of, AreBelow}
use Rattle.rv_core.proofs.Words.{is_oldest_draining, IsLegalAccess, IsRetiredStore}
use Rattle.rv_stores.specs.declared.store.StoreState.TheVariants as store
use Rattle.rv_core.proofs.Retired.Stores.{AreRetired}

-- a store in flight does not drain, and has nothing to drain
store_of_written : (seq : ℕ) (written : Option StoreAccess) →
    (is_draining (record { seq = seq; state = store_of_message written }) ≡ false)
    × (access_to_drain (record { seq = seq; state = store_of_message written }) ≡ None)
store_of_written seq None = (refl, refl)
store_of_written seq (Some access) = (refl, refl)

in_flight : (seq : ℕ) (message : Option Message) →
    (is_draining (record { seq = seq; state = store_of_broadcast message }) ≡ false)
    × (access_to_drain (record { seq = seq; state = store_of_broadcast message }) ≡ None)
in_flight seq None = (refl, refl)
in_flight seq (Some message) = store_of_written seq message.store

-- among the stores in flight none drains
pub record NoneDrains (flight : List QueuedStore) : Type 0 where
  pub stays : without_drained flight ≡ flight
  pub idle : oldest_to_drain flight ≡ None
  pub rests : is_oldest_draining flight ≡ false

first_idle : (seq : ℕ) (is_store : Bool) (message : Option Message) (ss : List QueuedStore) → NoneDrains ss →
    NoneDrains (if is_store then record { seq = seq; state = store_of_broadcast message } ∷ ss else ss)
first_idle seq false message ss none = none
first_idle seq true message ss none =
    record {
      stays = rw ((in_flight seq message).0) refl;
      idle = (in_flight seq message).1;
      rests = (in_flight seq message).0;
    }

-- no store of an instruction in flight drains
pub none_drains : (seq : ℕ) (es : List Entry) → NoneDrains (stores_of seq es)
none_drains seq [] = record { stays = refl; idle = refl; rests = refl }
none_drains seq (e ∷ es) =
    first_idle seq (is_store e.instruction) (broadcast_of e.stage) (stores_of (seq + 1) es) (none_drains (seq + 1) es)

-- the whole queue

-- a drain that starts changes the retired stores alone
pub draining_after : (ss flight : List QueuedStore) (access : StoreAccess) → oldest_to_drain ss ≡ Some access →
    with_oldest_draining (ss ++ flight) ≡ with_oldest_draining ss ++ flight
draining_after [] flight access is = absurd (cc)
draining_after (s ∷ ss) flight access is = refl

-- the retired stores

kept_by : (leaves : Bool) (P : QueuedStore → Type 0) (s : QueuedStore) (ss : List QueuedStore) → All P (s ∷ ss) →
    All P (if leaves then ss else s ∷ ss)
kept_by true P s ss all = All-tail P s ss all
kept_by false P s ss all = all

-- what holds of each store holds of those that are left once one is drained
pub kept_when_drained : (P : QueuedStore → Type 0) (ss : List QueuedStore) → All P ss → All P (without_drained ss)
kept_when_drained P [] all = all
kept_when_drained P (s ∷ ss) all = kept_by (is_draining s) P s ss all

draining_is_retired : (values : Values) (state : StoreState) → IsRetiredStore values state →
    IsRetiredStore values (draining state)
draining_is_retired values (store.Filled access Speculative) are = absurd are
draining_is_retired values _ are = are

-- retired stores stay retired ones where the oldest begins its access
pub retired_when_draining : (values : Values) (ss : List QueuedStore) → AreRetired values ss →
    AreRetired values (with_oldest_draining ss)
retired_when_draining values [] are = are
retired_when_draining values (s ∷ ss) are =
    All-cons (λ (t : QueuedStore). IsRetiredStore values t.state) (record s { state = draining s.state }) ss
    (draining_is_retired values s.state (All-head (λ (t : QueuedStore). IsRetiredStore values t.state) s ss are))
    (All-tail (λ (t : QueuedStore). IsRetiredStore values t.state) s ss are)

-- and have the numbers that they had
pub below_when_draining : (n : ℕ) (ss : List QueuedStore) → AreBelow (λ (s : QueuedStore). s.seq) n ss →
    AreBelow (λ (s : QueuedStore). s.seq) n (with_oldest_draining ss)
below_when_draining n [] are = are
below_when_draining n (s ∷ ss) are =
    All-cons (λ (t : QueuedStore). t.seq < n) (record s { state = draining s.state }) ss
    (All-head (λ (t : QueuedStore). t.seq < n) s ss are) (All-tail (λ (t : QueuedStore). t.seq < n) s ss are)

drains_legally : (values : Values) (state : StoreState) (access : StoreAccess) → IsRetiredStore values state →
    access_to_drain (record { seq = 0; state = state }) ≡ Some access → IsLegalAccess values access
drains_legally values state access retired is = grind arith

-- what the oldest store writes
pub oldest_is_legal : (values : Values) (ss : List QueuedStore) (access : StoreAccess) → AreRetired values ss →
    oldest_to_drain ss ≡ Some access →
    IsLegalAccess values access
oldest_is_legal values [] access are is = absurd (cc)
oldest_is_legal values (s ∷ ss) access are is =
    drains_legally values s.state access (All-head (λ (t : QueuedStore). IsRetiredStore values t.state) s ss are) is
