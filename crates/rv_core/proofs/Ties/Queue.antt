-- The store queue is what retired stores and instructions in flight determine, through dispatch, broadcast and squash.
use Rattle.rv_core.proofs.Words.{◌≡◌, ℕ, ◌+◌, ◌<◌, ◌≤◌, Bool, true, false, cond, List, [], ◌∷◌, ◌++◌, map, length, ◌==◌}
use Rattle.rv_core.proofs.Words.{Some, None, All, filter, Option, sym, refl, ap, ◌∙◌, true≢false, append_assoc}
use Rattle.rv_core.proofs.Words.{append-nil, arith, eq-eqb, ne_eqb, eqb-false, map-append, All-append, All-cons}
use Rattle.rv_core.proofs.Words.{All-head, All-tail, filter-append, is_store, kind_of_word, Message, Instr, Values}
use Rattle.rv_core.proofs.Words.{is_committed, is_committed_state, Store, StoreState, finished, predicting}
use Rattle.rv_core.proofs.Words.{ReorderBuffer, entries_below, with_entry, Entry, Stage, Finished, stage_by, Hardware}
use Rattle.rv_core.proofs.Words.{broadcast_of, store_of_broadcast, store_of_message, stores_of, AreBelow}
use Rattle.rv_core.proofs.Words.{AreBelow-append, AreBelow-weaken, below-all, below-append, CanEnter, Queue, older_than}
use Rattle.rv_core.proofs.Words.{answered, entry_of, next_number, with_store, IsRetiredStore, queue_of}
use Rattle.rv_stores.specs.declared.store.StoreState.TheVariants as store
use Rattle.rv_core.specs.InExecution.{AreOthers}
use Rattle.rv_core.proofs.Ties.Gathered.{nothing, gathered, gathered-below, gathered-cut, gathered-from, gathered-push}
use Rattle.rv_core.proofs.Ties.Gathered.{gathered-same}
use Rattle.rv_core.proofs.Retired.Stores.{AreRetired, retired_is_committed}
use Rattle.rv_core.proofs.Ties.Entries.{at_head, entry_of-from, held_at, in_tail}

-- ---- the stores in flight, one after another
abbrev store_at : ℕ → Entry → Store
store_at s e = record { seq = s; state = store_of_broadcast (broadcast_of e.stage) }

abbrev own_store : Unit {0} → ℕ → Entry → List Store
own_store st s e = cond (is_store e.instruction) (store_at s e ∷ []) []

stores-gathered : (s : ℕ) (es : List Entry) → stores_of s es ≡ gathered nothing own_store tt s es
stores-gathered s [] = refl
stores-gathered s (e ∷ es) = grind (arith, stores-gathered (s + 1) es)

store-at_if : (b : Bool) (s : ℕ) (x : Store) → x.seq ≡ s → All (λ (x : Store). x.seq ≡ s) (cond b (x ∷ []) [])
store-at_if b s x is = grind (arith, All-cons)

stores-from : (m s : ℕ) (es : List Entry) → m ≤ s → All (λ (x : Store). m ≤ x.seq) (stores_of s es)
stores-from m s es le =
    rw (stores-gathered s es)
    (gathered-from nothing own_store (λ x. x.seq)
    (λ st s e. store-at_if (is_store e.instruction) s (store_at s e) refl) m tt s es le)

pub stores-below : (n s : ℕ) (es : List Entry) → s + length es ≤ n → AreBelow (λ (x : Store). x.seq) n (stores_of s es)
stores-below n s es le =
    rw (stores-gathered s es)
    (gathered-below nothing own_store (λ x. x.seq)
    (λ st s e. store-at_if (is_store e.instruction) s (store_at s e) refl) n tt s es le)

pub stores-cut : (n s : ℕ) (es : List Entry) → older_than n (stores_of s es) ≡ stores_of s (entries_below n s es)
stores-cut n s es = grind (arith, stores-gathered, gathered-cut, nothing, store-at_if)

-- another prediction leaves the stores as they are
pub stores-predicting : (next_pc n s : ℕ) (es : List Entry) →
    stores_of s (with_entry (predicting next_pc) n s es) ≡ stores_of s es
stores-predicting next_pc n s es = grind (arith, stores-gathered, gathered-same, nothing)

-- ---- which of the stores have retired
silent_state : (b : Option Message) → is_committed_state (store_of_broadcast b) ≡ false
silent_state b = grind arith

stores-uncommitted : (s : ℕ) (es : List Entry) → filter is_committed (stores_of s es) ≡ []
stores-uncommitted s [] = refl
stores-uncommitted s (e ∷ es) = grind (arith, silent_state, stores-uncommitted (s + 1) es)

pub all_of_retired : (values : Values) (ss : List Store) → AreRetired values ss → filter is_committed ss ≡ ss
all_of_retired values [] are = refl
all_of_retired values (s ∷ ss) are =
    rw (retired_is_committed values s.seq s.state (All-head (λ (t : Store). IsRetiredStore values t.state) s ss are))
    (ap (λ l. s ∷ l) (all_of_retired values ss (All-tail (λ (t : Store). IsRetiredStore values t.state) s ss are)))

-- the retired stores of the queue are those of the hardware
pub retired_of_queue : (h : Hardware) → AreRetired h.values h.committed →
    filter is_committed (queue_of h).stores ≡ h.committed
retired_of_queue h are =
    filter-append is_committed h.committed (stores_of h.rob.retired h.rob.entries)
    ∙ (λ i. all_of_retired h.values h.committed are i ++ stores-uncommitted h.rob.retired h.rob.entries i)
    ∙ append-nil h.committed

-- ---- dispatch
store-first : (o : Option Instr) (serialising : Bool) (finished : Stage) → is_store o ≡ true →
    broadcast_of (stage_by (kind_of_word o) serialising finished) ≡ None
store-first o serialising finished is = grind (arith, true≢false)

with_store-is : (b : Bool) (n : ℕ) (state : StoreState) (queue : Queue) → (b ≡ true → state ≡ store.Waiting) →
    with_store b n queue ≡ record queue { stores = queue.stores ++ cond b (record { seq = n; state = state } ∷ []) [] }
with_store-is b n state queue is = grind (arith, append-nil)

-- what a dispatch makes of the store queue
pub stores-push : (committed : List Store) (capacity : ℕ) (rob : ReorderBuffer) (e : Entry)
    (serialising : Bool) (cycle : ℕ)
    (message : Message) → e.stage ≡ stage_by (kind_of_word e.instruction) serialising (Finished None cycle message)
    → (let before : Queue = record { stores = committed ++ stores_of rob.retired rob.entries; capacity = capacity } in
    let after : Queue = record {
      stores = committed ++ stores_of rob.retired (rob.entries ++ e ∷ []);
      capacity = capacity;
    } in
    after ≡ with_store (is_store e.instruction) (next_number rob) before)
stores-push committed capacity rob e serialising cycle message at =
    let s = rob.retired in
    let es = rob.entries in
    let n = next_number rob in
    let more : List Store = cond (is_store e.instruction) (store_at n e ∷ []) [] in
    ap (λ ss. record { stores = ss; capacity = capacity }) (
    ap (λ ss. committed ++ ss)
    (stores-gathered s (es ++ e ∷ []) ∙ gathered-push nothing own_store tt s n es e refl
    ∙ ap (λ ss. ss ++ more) (sym (stores-gathered s es))) ∙
    sym (append_assoc committed (stores_of s es) more)
    ) ∙
    sym (with_store-is (is_store e.instruction) n (store_of_broadcast (broadcast_of e.stage))
    (record { stores = committed ++ stores_of s es; capacity = capacity }) (λ is.
    ap store_of_broadcast (ap broadcast_of at
    ∙ store-first e.instruction serialising (Finished None cycle message) is)))

-- a further store is younger than all
pub can_enter : (committed : List Store) (capacity : ℕ) (rob : ReorderBuffer) →
    AreBelow (λ (x : Store). x.seq) rob.retired committed →
    length (committed ++ stores_of rob.retired rob.entries) < capacity
    → CanEnter (next_number rob) (record {
      stores = committed ++ stores_of rob.retired rob.entries;
      capacity = capacity;
    })
can_enter committed capacity rob older room = (
  room,
  AreBelow-append (λ (x : Store). x.seq) (next_number rob) committed (stores_of rob.retired rob.entries)
      (AreBelow-weaken (λ (x : Store). x.seq) rob.retired (next_number rob) committed (omega arith) older)
      (stores-below (next_number rob) rob.retired rob.entries (omega arith)),
)

-- ---- a broadcast
module _ (n : ℕ) (news : StoreState) where
  -- a broadcast leaves stores of other numbers as they are
  pub answered-other : (ss : List Store) → All (λ (x : Store). (x.seq == n) ≡ false) ss → map (answered n news) ss ≡ ss
  answered-other [] others = refl
  answered-other (x ∷ ss) others =
      rw (All-head (λ (x : Store). (x.seq == n) ≡ false) x ss others)
      (ap (λ l. x ∷ l) (answered-other ss (All-tail (λ (x : Store). (x.seq == n) ≡ false) x ss others)))

  pub answered-older : (ss : List Store) (m : ℕ) → m ≤ n → AreBelow (λ (x : Store). x.seq) m ss →
      map (answered n news) ss ≡ ss
  answered-older ss m le older = grind (arith, answered-other)

  answered-later : (s : ℕ) (es : List Entry) → n < s → map (answered n news) (stores_of s es) ≡ stores_of s es
  answered-later s es lt = grind (arith, answered-other, stores-from)

module _ (n cycle : ℕ) (message : Message) where
  abbrev news : StoreState
  news = store_of_message message.store

  -- with a store, or with none
  answered-with : (b : Bool) (x y : Store) (xs ys : List Store) → answered n news x ≡ y →
      map (answered n news) xs ≡ ys →
      map (answered n news) (cond b (x ∷ xs) xs) ≡ cond b (y ∷ ys) ys
  answered-with b x y xs ys one others = grind arith

  pub stores-answered : (s : ℕ) (es : List Entry) (e : Entry) → entry_of n s es ≡ Some e → broadcast_of e.stage ≡ None
      → map (answered n news) (stores_of s es) ≡ stores_of s (with_entry (finished message cycle) n s es)
  stores-answered s [] e held silent = absurd (cc)
  stores-answered s (d ∷ es) e held silent = elim (held_at n s d es e held) [
    | at_head equal number one ↦
        let quiet : broadcast_of d.stage ≡ None = rw one silent in
        rw equal
        (answered-with (is_store d.instruction) (store_at s d) (record { seq = s; state = news })
        (stores_of (s + 1) es) _
        (rw (quiet, eq-eqb s n (sym number)) refl) (answered-later n news (s + 1) es (omega (arith, number))))
    | in_tail other is ↦
        rw other
        (answered-with (is_store d.instruction) (store_at s d) (store_at s d) (stores_of (s + 1) es) _
        (rw (ne_eqb s n (λ back. eqb-false n s other (sym back))) refl) (stores-answered (s + 1) es e is silent))
  ]

-- ---- an instruction in flight that is no store has no place in the queue
older_are_others : (n s : ℕ) (ss : List Store) → s ≤ n → AreBelow (λ (x : Store). x.seq) s ss → AreOthers n ss
older_are_others n s ss le older =
    λ k d lt. ne_eqb _ n (λ same. let below = older k d lt in absurd (omega (arith, same, below, le)))

later_are_others : (n s : ℕ) (es : List Entry) → n < s → AreOthers n (stores_of s es)
later_are_others n s es lt = grind (arith, stores-from)

are_others_with : (n : ℕ) (b : Bool) (x : Store) (xs : List Store) → (x.seq == n) ≡ false → AreOthers n xs →
    AreOthers n (cond b (x ∷ xs) xs)
are_others_with n true x xs other others = All-cons (λ (y : Store). (y.seq == n) ≡ false) x xs other others
are_others_with n false x xs other others = others

in_flight_are_others : (n s : ℕ) (es : List Entry) (e : Entry) → entry_of n s es ≡ Some e →
    is_store e.instruction ≡ false → AreOthers n (stores_of s es)
in_flight_are_others n s [] e held no_store = absurd (cc)
in_flight_are_others n s (d ∷ es) e held no_store = elim (held_at n s d es e held) [
  | at_head equal number one ↦
      let none : is_store d.instruction ≡ false = rw one no_store in
      rw none (later_are_others n (s + 1) es (omega (arith, number)))
  | in_tail other is ↦
      are_others_with n (is_store d.instruction) (store_at s d) (stores_of (s + 1) es)
      (ne_eqb s n (λ back. eqb-false n s other (sym back))) (in_flight_are_others n (s + 1) es e is no_store)
]

-- each store of the queue has another number than an instruction in flight that is no store
pub queued_are_others : (n : ℕ) (committed : List Store) (s : ℕ) (es : List Entry) (e : Entry) →
    AreBelow (λ (x : Store). x.seq) s committed → entry_of n s es ≡ Some e → is_store e.instruction ≡ false →
    AreOthers n (committed ++ stores_of s es)
queued_are_others n committed s es e older held no_store =
    All-append (λ (x : Store). (x.seq == n) ≡ false) committed (stores_of s es)
    (older_are_others n s committed (entry_of-from n s es e held).0 older) (in_flight_are_others n s es e held no_store)

-- the queue after a broadcast
pub queue-answered : (n cycle : ℕ) (message : Message) (committed : List Store) (s : ℕ) (es : List Entry) (e : Entry) →
    AreBelow (λ (x : Store). x.seq) s committed → entry_of n s es ≡ Some e → broadcast_of e.stage ≡ None
    → map (answered n (store_of_message message.store)) (committed ++ stores_of s es)
    ≡ committed ++ stores_of s (with_entry (finished message cycle) n s es)
queue-answered n cycle message committed s es e older held silent =
    grind (arith, map-append, answered, answered-older, entry_of-from, stores-answered)

-- the queue without the stores from a number on that have not retired
pub queue-squashed : (n : ℕ) (committed : List Store) (s : ℕ) (es : List Entry) → s ≤ n →
    AreBelow (λ (x : Store). x.seq) s committed
    → older_than n (committed ++ stores_of s es) ≡ committed ++ stores_of s (entries_below n s es)
queue-squashed n committed s es le older =
    below-append (λ (x : Store). x.seq) n committed (stores_of s es) ∙
    (λ i. below-all (λ (x : Store). x.seq) n committed
    (AreBelow-weaken (λ (x : Store). x.seq) s n committed le older) i ++ stores-cut n s es i)
