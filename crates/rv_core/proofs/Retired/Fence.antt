-- FENCE.I at the head: it waits for the retired stores and the port, then for the write-back, and retires.
use Rattle.rv_core.proofs.Words.{◌≡◌, ℕ, Bool, true, false, List, [], ◌∷◌, ◌++◌, nat_le, ◌==◌, Some, AllPairs, sym}
use Rattle.rv_core.proofs.Words.{refl, ap, ◌∙◌, subst, true≢false, append-nil, arith, is_serialising, FenceI}
use Rattle.rv_core.proofs.Words.{Store as QueuedStore, Entry, execute_head, fence_instructions, is_drained}
use Rattle.rv_core.proofs.Words.{with_write_back, write_back_time, Hardware, stores_of, Step, committing}
use Rattle.rv_core.proofs.Words.{IsSoundHardware, queue_of}

-- nothing stands after a serialising head
alone : (e : Entry) (es : List Entry) →
    AllPairs (λ (older younger : Entry). is_serialising older.instruction ≡ false) (e ∷ es) →
    is_serialising e.instruction ≡ true → es ≡ []
alone e [] serial is = refl
alone e (x ∷ xs) serial is = absurd (true≢false (sym is ∙ serial 0 1 e (omega arith) (omega arith)))

-- a serialising head is alone in flight
pub head_alone : (h : Hardware) (e : Entry) (es : List Entry) → IsSoundHardware h → h.rob.entries ≡ e ∷ es →
    is_serialising e.instruction ≡ true →
    h.rob.entries ≡ e ∷ []
head_alone h e es sound entries is =
    entries ∙ ap (λ l. e ∷ l)
    (alone e es (subst (λ l. AllPairs
    (λ (older younger : Entry). is_serialising older.instruction ≡ false) l) entries sound.entries.serial) is)

no_store : (seq : ℕ) (e : Entry) → e.instruction ≡ Some FenceI → stores_of seq (e ∷ []) ≡ []
no_store seq e is = grind arith

-- beside FENCE.I the queue holds retired stores alone
pub queue_beside_fence : (h : Hardware) (e : Entry) (es : List Entry) → IsSoundHardware h → h.rob.entries ≡ e ∷ es →
    e.instruction ≡ Some FenceI →
    (queue_of h).stores ≡ h.committed
queue_beside_fence h e es sound entries is =
    ap (λ l. h.committed ++ stores_of h.rob.retired l) (head_alone h e es sound entries (ap is_serialising is))
    ∙ ap (λ l. h.committed ++ l) (no_store h.rob.retired e is)
    ∙ append-nil h.committed

abbrev drained_with : Hardware → List QueuedStore → Bool
drained_with h ss = is_drained (record h { committed = ss })

not_with_stores : (h : Hardware) (ss : List QueuedStore) → (ss ≡ [] → ⊥) → drained_with h ss ≡ false
not_with_stores h ss some = grind arith

not_while_busy : (h : Hardware) (ss : List QueuedStore) → nat_le h.port_free h.cycle ≡ false → drained_with h ss ≡ false
not_while_busy h ss busy = grind arith

when_empty : (h : Hardware) (ss : List QueuedStore) → ss ≡ [] → nat_le h.port_free h.cycle ≡ true →
    drained_with h ss ≡ true
when_empty h ss none idle = grind arith

-- FENCE.I waits while a retired store does
pub fence_waits_for_stores : (h : Hardware) (e : Entry) (steps : List Step) → (h.committed ≡ [] → ⊥) →
    fence_instructions e (committing h steps) ≡ committing h steps
fence_waits_for_stores h e steps some = rw (not_with_stores h h.committed some) refl

-- FENCE.I waits while the port is busy
pub fence_waits_for_port : (h : Hardware) (e : Entry) (steps : List Step) → nat_le h.port_free h.cycle ≡ false →
    fence_instructions e (committing h steps) ≡ committing h steps
fence_waits_for_port h e steps busy = rw (not_while_busy h h.committed busy) refl

-- FENCE.I retires where there are none
pub fence_retires : (h : Hardware) (e : Entry) (steps : List Step) → h.committed ≡ [] →
    nat_le h.port_free h.cycle ≡ true →
    (write_back_time h == 0) ≡ true →
    fence_instructions e (committing h steps) ≡ execute_head e FenceI (committing (with_write_back h) steps)
fence_retires h e steps none idle lasts = rw (when_empty h h.committed none idle, lasts) refl
