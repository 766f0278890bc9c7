-- A store retires: it is the oldest in the queue that has not.
use Rattle.rv_core.proofs.Words.{◌≡◌, ℕ, ◌+◌, Bool, true, false, List, [], ◌∷◌, ◌++◌, if◌then◌else◌, Some, None, All}
use Rattle.rv_core.proofs.Words.{Option, sym, refl, ap, append_assoc, append-nil, All-head, All-tail, is_store, Message}
use Rattle.rv_core.proofs.Words.{StoreAccess, Values, is_committed, Store as QueuedStore, Committed, Draining}
use Rattle.rv_core.proofs.Words.{Speculative, StoreState, Entry, broadcast_of, store_of_broadcast, stores_of}
use Rattle.rv_core.proofs.Words.{committed_store, with_oldest_retired, with_commit, IsLegalWrite, IsRetiredStore}
use Rattle.rv_stores.specs.declared.store.StoreState.TheVariants as store

-- retired stores, each with its access
abbrev pub AreRetired : Values → List QueuedStore → Type 0
AreRetired values ss = All (λ (s : QueuedStore). IsRetiredStore values s.state) ss

-- a retired store is committed
pub retired_is_committed : (values : Values) (seq : ℕ) (state : StoreState) → IsRetiredStore values state →
    is_committed (record { seq = seq; state = state }) ≡ true
retired_is_committed values seq (store.Filled access Committed) are = refl
retired_is_committed values seq (store.Filled access Draining) are = refl
retired_is_committed values seq _ are = absurd are

oldest_retires : (values : Values) (ss : List QueuedStore) (seq : ℕ) (access : StoreAccess)
    (younger : List QueuedStore) →
    AreRetired values ss →
    with_oldest_retired (ss ++ record { seq = seq; state = store.Filled access Speculative } ∷ younger)
    ≡ ss ++ record { seq = seq; state = store.Filled access Committed } ∷ younger
oldest_retires values [] seq access younger are = refl
oldest_retires values (s ∷ ss) seq access younger are =
    rw (retired_is_committed values s.seq s.state
    (All-head (λ (t : QueuedStore). IsRetiredStore values t.state) s ss are))
    (ap (λ l. s ∷ l) (oldest_retires values ss seq access younger
    (All-tail (λ (t : QueuedStore). IsRetiredStore values t.state) s ss are)))

-- the queue, by whether the head is a store and what it writes
committed_from : (values : Values) (ss : List QueuedStore) (seq : ℕ) (younger : List QueuedStore) →
    AreRetired values ss →
    (is_store : Bool) (m : Message) (written : Option StoreAccess) → m.store ≡ written →
    IsLegalWrite values is_store None written →
    (with_commit m.store (record {
      stores = ss ++
          (if is_store then record { seq = seq; state = store_of_broadcast (Some m) } ∷ younger else younger);
      capacity =
          values.store_queue;
    }))
    ≡ record { stores = (ss ++ committed_store seq m.store) ++ younger; capacity = values.store_queue }
committed_from values ss seq younger are false m None is legal = rw (is, append-nil ss) refl
committed_from values ss seq younger are true m (Some access) is legal =
    rw (is, oldest_retires values ss seq access younger are)
    (ap (λ l. record { stores = l; capacity = values.store_queue })
    (sym (append_assoc ss (record { seq = seq; state = store.Filled access Committed } ∷ []) younger)))
committed_from values ss seq younger are _ m _ is legal = absurd legal

-- the oldest store that has not retired is that of the head
pub queued_after_head : (values : Values) (ss : List QueuedStore) (seq : ℕ) (e : Entry)
    (es : List Entry) (m : Message) →
    AreRetired values ss →
    broadcast_of e.stage ≡ Some m → IsLegalWrite values (is_store e.instruction) None m.store →
    with_commit m.store (record { stores = ss ++ stores_of seq (e ∷ es); capacity = values.store_queue })
    ≡ record { stores = (ss ++ committed_store seq m.store) ++ stores_of (seq + 1) es; capacity = values.store_queue }
queued_after_head values ss seq e es m are known legal =
    rw known (committed_from values ss seq (stores_of (seq + 1) es) are (is_store e.instruction) m m.store refl legal)
