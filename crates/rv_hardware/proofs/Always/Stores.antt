-- There are no more stores, retired or in flight, than the queue holds.
use Rattle.rv_hardware.proofs.Words.{◌≡◌, ℕ, ◌+◌, ◌≤◌, Bool, false, cond, ◌&&◌, List, [], ◌∷◌, ◌++◌, map, length}
use Rattle.rv_hardware.proofs.Words.{is_some, nat_le, Some, None, Option, refl, ap, subst, arith, length-append}
use Rattle.rv_hardware.proofs.Words.{leb-false, is_store, Message, StoreAccess, Instr, Values, with_oldest_draining}
use Rattle.rv_hardware.proofs.Words.{without_drained, Store, finished, predicting, started, Entry, Fetched}
use Rattle.rv_hardware.proofs.Words.{entry_of_fetched, Hardware, broadcast_of, stores_of, reset_hardware}
use Rattle.rv_hardware.proofs.Words.{committed_store, stores_after, by_test, map-change}
use Rattle.rv_hardware.proofs.Turns.Cited.{IsKept, phases-kept, IsKeptByChanges, all_squashed, head_retires}
use Rattle.rv_hardware.proofs.Turns.Cited.{store_drained, store_drains, one_starts, one_sent, one_mended, one_enters}
use Rattle.rv_hardware.proofs.Turns.Cited.{WaitsForNothing}
use Rattle.rv_hardware.proofs.Always.Entries.{AreShaped, entries_changes, entries-kept, message_at_end}

-- the instruction of an entry
abbrev pub instruction_of_entry : Entry → Option Instr
instruction_of_entry e = e.instruction

-- the instructions in flight
abbrev pub instructions_of : List Entry → List (Option Instr)
instructions_of entries = map instruction_of_entry entries

-- how many instructions are stores
abbrev pub store_count : List (Option Instr) → ℕ
store_count [] = 0
store_count (instruction ∷ instructions) = cond (is_store instruction) 1 0 + store_count instructions

store_count-append : (xs ys : List (Option Instr)) → store_count (xs ++ ys) ≡ store_count xs + store_count ys
store_count-append [] ys = omega arith
store_count-append (x ∷ xs) ys = omega (arith, store_count-append xs ys)

-- they are those that a load looks at
one_store : (b : Bool) (s : Store) (ss : List Store) {rest : ℕ} → length ss ≡ rest →
    length (cond b (s ∷ ss) ss) ≡ cond b 1 0 + rest
one_store b s ss is = grind arith

length-stores : (seq : ℕ) (entries : List Entry) →
    length (stores_of seq entries) ≡ store_count (instructions_of entries)
length-stores seq [] = refl
length-stores seq (e ∷ es) = one_store (is_store e.instruction) _ (stores_of (seq + 1) es) (length-stores (seq + 1) es)

pub length-stores_after : (h : Hardware) (entries : List Entry) →
    length (stores_after h entries) ≡ length h.committed + store_count (instructions_of entries)
length-stores_after h entries = grind (arith, length-append, length-stores)

instructions-append : (xs ys : List Entry) → instructions_of (xs ++ ys) ≡ instructions_of xs ++ instructions_of ys
instructions-append [] ys = refl
instructions-append (x ∷ xs) ys = ap (λ l. x.instruction ∷ l) (instructions-append xs ys)

abbrev FitQueue : Hardware → List Store → List Entry → Type 0
FitQueue h committed entries = length committed + store_count (instructions_of entries) ≤ h.values.store_queue

-- the stores, retired and in flight, are no more than the queue holds
abbrev pub HasStores : Hardware → Type 0
HasStores h = AreShaped h × FitQueue h h.committed h.rob.entries

-- ---- a retirement
one_committed : (instruction : Option Instr) (seq : ℕ) (access : Option StoreAccess) →
    is_some access ≡ is_store instruction → length (committed_store seq access) ≤ cond (is_store instruction) 1 0
one_committed instruction seq access stored = grind arith

fits_retired : (h : Hardware) (e : Entry) (es : List Entry) (message : Message) → HasStores h → h.rob.entries ≡ e ∷ es →
    broadcast_of e.stage ≡ Some message → message.fault ≡ None →
    FitQueue h (h.committed ++ committed_store h.rob.retired message.store) es
fits_retired h e es message has split known faultless = grind (arith, one_committed, message_at_end, length-append)

-- ---- a drain
length_without : (ss : List Store) → length (without_drained ss) ≤ length ss
length_without ss = grind (arith, by_test)

length_draining : (ss : List Store) → length (with_oldest_draining ss) ≤ length ss
length_draining ss = grind arith

-- ---- a change of one instruction, a cut, a dispatch
same_count : (older younger : List Entry) (old new : Entry) → new.instruction ≡ old.instruction →
    store_count (instructions_of (older ++ new ∷ younger)) ≡ store_count (instructions_of (older ++ old ∷ younger))
same_count older younger old new same = ap store_count (map-change instruction_of_entry older younger old new same)

count_of : (older younger : List Entry) →
    store_count (instructions_of (older ++ younger)) ≡
    store_count (instructions_of older) + store_count (instructions_of younger)
count_of older younger = grind (arith, instructions-append, store_count-append)

fits_one_more : (is_one : Bool) (count limit : ℕ) → (is_one && nat_le limit count) ≡ false → count ≤ limit →
    count + cond is_one 1 0 ≤ limit
fits_one_more is_one count limit may fits = grind (arith, leb-false)

fits_dispatched : (h : Hardware) (fetched : Fetched) → HasStores h → WaitsForNothing h fetched →
    FitQueue h h.committed (h.rob.entries ++ entry_of_fetched h fetched ∷ [])
fits_dispatched h fetched has given = grind (arith, length-stores_after, fits_one_more, count_of)

fits_at : (h : Hardware) {es : List Entry} → HasStores h → h.rob.entries ≡ es → FitQueue h h.committed es
fits_at h has split = subst (FitQueue h h.committed) split has.1

stores_changes : IsKeptByChanges HasStores
stores_changes h _ (all_squashed s retired) has =
    (entries_changes h _ (all_squashed s retired) has.0, omega (arith, has.1))
stores_changes h _ (head_retires e es s message split known none) has = grind (arith, entries_changes, fits_retired)
stores_changes h _ (store_drained idle) has = (has.0, omega (arith, length_without h.committed, has.1))
stores_changes h _ (store_drains access idle is) has = (has.0, omega (arith, length_draining h.committed, has.1))
stores_changes h _ (one_starts k older younger e cost message split waits of_kind result costs) has = (
  entries_changes h _ (one_starts k older younger e cost message split waits of_kind result costs) has.0,
  omega (
    arith,
    same_count older younger e (started (record { cycle = h.cycle; cost = cost }) message e) refl,
    fits_at h has split,
  ),
)
stores_changes h _ (one_sent older younger e message split gives) has = (
  entries_changes h _ (one_sent older younger e message split gives) has.0,
  omega (arith, same_count older younger e (finished message h.cycle e) refl, fits_at h has split),
)
stores_changes h _ (one_mended older younger e next split) has = (
  entries_changes h _ (one_mended older younger e next split) has.0,
  omega (arith, count_of older (e ∷ younger), count_of older (predicting next e ∷ []), fits_at h has split),
)
stores_changes h _ (one_enters f rest first none) has =
    (entries_changes h _ (one_enters f rest first none) has.0, fits_dispatched h f has none)
stores_changes h _ _ has = has

-- every cycle keeps it
pub stores-kept : IsKept HasStores
stores-kept = record {
  phases = phases-kept stores_changes;
  fetch = λ ram cycle h front stop has fetches. (entries-kept.fetch ram cycle h front stop has.0 fetches, has.1);
}

-- it holds at reset
pub stores-at_reset : (values : Values) (image : List ℕ) (start : ℕ) → HasStores (reset_hardware values image start)
stores-at_reset values image start = ((tt, tt), omega arith)
