-- A retirement, a trap and a flush leave sound hardware, and programs see what the machine's step leaves.
use Rattle.rv_hardware.proofs.Words.{◌≡◌, ℕ, ◌+◌, ◌*◌, ◌/◌, ◌%◌, ◌^◌, ◌≤◌, Bool, true, false, List, [], ◌∷◌, ◌++◌}
use Rattle.rv_hardware.proofs.Words.{length, IfSome, if◌then◌else◌, slice_index_or as get_or, Some, None, Option}
use Rattle.rv_hardware.proofs.Words.{nat_cmp, sym, refl, ap, ◌∙◌, subst, ap₂, inl, inr, true≢false, append-nil, arith}
use Rattle.rv_hardware.proofs.Words.{le-leb, and_from, cases_eq, Message, StoreAccess, Values, Layout, Memory}
use Rattle.rv_hardware.proofs.Words.{fetched_word, is_in_ram, word_of, Kept, State, trap_taken, handler_of, Contents}
use Rattle.rv_hardware.proofs.Words.{is_draining, Store as QueuedStore, Committed, Filled, Entry, Fetched, Hardware}
use Rattle.rv_hardware.proofs.Words.{bytes_after, store_of_message, with_store, committed_store, stale_after}
use Rattle.rv_hardware.proofs.Words.{with_result, layout_of, seen, with_state, flushed, with_trap, Each-push, each_then}
use Rattle.std.specs.FinSet as set
use Rattle.rv_hardware.proofs.Headline.Fold.{result_at, with_message, executed, after_entries, IsWordAt, AreInFlight}
use Rattle.rv_hardware.proofs.Headline.Fold.{AreInBuffer}
use Rattle.rv_hardware.proofs.Headline.Invariant.{DrainInOrder, HoldsMemory, FollowsProgram, IsSound}
use Rattle.rv_hardware.proofs.Headline.Known.{bytes_after-append}
use Rattle.rv_hardware.proofs.Headline.Retires.{IsStoreAccess}
use Rattle.rv_hardware.proofs.Headline.Stage.{after_aligned}
use Rattle.rv_hardware.proofs.Headline.Words.{IsRetiredStore-more, not_marked, now_marked, marked_before, fetched_same}
use Rattle.rv_hardware.proofs.Headline.Words.{stored_elsewhere, length-stored, length-bytes_after}

-- ---- what a store leaves
drains_push : (base : ℕ) (bytes : List ℕ) (ss : List QueuedStore) (s : QueuedStore) → is_draining s ≡ false →
    DrainInOrder base bytes ss → DrainInOrder base bytes (ss ++ s ∷ [])
drains_push base bytes ss s given drains = grind (arith, true≢false, Each-push)

-- the word of an access lies in RAM
word_inside : {layout : Layout} {access : StoreAccess} → layout.base % 4 ≡ 0 → layout.size % 4 ≡ 0 →
    IsStoreAccess layout access → (1 ≤ length access.bytes) → is_in_ram layout (4 * word_of access.address) 4 ≡ true
word_inside base size legal some = grind (arith, and_from, le-leb)

module _ (values : Values) (stale : set.FinSet nat_cmp) (cache : Contents Memory) (committed : List QueuedStore)
    (was : HoldsMemory values stale cache committed) where
  abbrev layout : Layout
  layout = layout_of values

  abbrev ram : List ℕ
  ram = bytes_after values.ram_base committed cache.bytes

  pub size_seen : length ram ≡ values.ram_size
  size_seen = length-bytes_after layout stale committed cache.bytes was.retired was.cache_size

  pub ram_stored : (seq : ℕ) (store : Option StoreAccess) →
      bytes_after values.ram_base (committed ++ committed_store seq store) cache.bytes ≡
      with_store values.ram_base (store_of_message store) ram
  ram_stored seq store = grind (arith, append-nil, bytes_after-append)

  -- a store that retires leaves cache and queue with the program's memory, its words marked stale
  pub memory_stored : (seq : ℕ) (store : Option StoreAccess) → IfSome store (IsStoreAccess layout) →
      HoldsMemory values (stale_after store stale) cache (committed ++ committed_store seq store)
  memory_stored seq None legal = subst (HoldsMemory values stale cache) (sym (append-nil committed)) was
  memory_stored seq (Some access) legal =
      let word = word_of access.address in
      let new : QueuedStore = record { seq = seq; state = Filled access Committed } in
      record {
        place = was.place;
        cache_size = was.cache_size;
        consistent = was.consistent;
        retired = Each-push _ _ new
            (record {
              access = access;
              phase = Committed;
              state_is = refl;
              retired = refl;
              legal = legal;
              marked = now_marked stale word;
            })
            (each_then (λ s. IsRetiredStore-more layout stale word s) _ was.retired);
        drains = drains_push values.ram_base cache.bytes committed new refl was.drains;
        fresh = λ i fresh.
            let parts = not_marked stale word (word_of (values.ram_base + i)) fresh in
            was.fresh i parts.0
            ∙ sym (stored_elsewhere legal ram size_seen i parts.1)
            ∙ ap (λ (xs : List ℕ). get_or xs i 0) (sym (ram_stored seq (Some access)));
        inside = λ other marked. elim (cases_eq other word) [
          | inl same ↦ subst (λ n. is_in_ram layout (4 * n) 4 ≡ true) (sym same)
              (word_inside was.place.base_aligned was.place.size_aligned legal legal.some)
          | inr apart ↦ was.inside other (marked_before stale word other marked apart)
        ];
      }

  -- words that are not stale then are as before
  pub words_stored : (s : State) → s.ram ≡ ram → s.stale ≡ stale → (e : Entry) (message : Message) (next : ℕ) →
      IfSome message.store (IsStoreAccess layout) → (pc : ℕ) (word : Option ℕ) → pc % 4 ≡ 0 →
      IsWordAt layout s pc word → IsWordAt layout (with_message values.ram_base e message next s) pc word
  words_stored s same_ram same_stale e message next legal pc word aligned at = by_store message.store legal where
    by_store : (store : Option StoreAccess) → IfSome store (IsStoreAccess layout) →
        set.contains (stale_after store s.stale) (word_of pc) ≡ false →
        word ≡ fetched_word layout (with_store values.ram_base (store_of_message store) s.ram) pc
    by_store None legal fresh = at fresh
    by_store (Some access) legal fresh =
        let parts = not_marked s.stale (word_of access.address) (word_of pc) fresh in
        let size = ap length same_ram ∙ size_seen in
        at parts.0
        ∙ fetched_same layout s.ram (with_store values.ram_base (store_of_message (Some access)) s.ram) pc aligned size
        (length-stored legal s.ram size)
        (λ i same. sym (stored_elsewhere legal s.ram size i (λ is. parts.1 (sym same ∙ is))))

-- ---- words that stay
module _ (layout : Layout) (s t : State)
    (keep : (pc : ℕ) (word : Option ℕ) → pc % 4 ≡ 0 → IsWordAt layout s pc word → IsWordAt layout t pc word) where
  pub AreInFlight-kept : (es : List Entry) (start : State) → start.pc % 4 ≡ 0 → AreInFlight layout s start es →
      AreInFlight layout t start es
  AreInFlight-kept [] start aligned all = tt
  AreInFlight-kept (e ∷ es) start aligned all =
      let one = all.0 in (
        record {
          pc = one.pc;
          word = keep e.pc e.word (ap (λ n. n % 4) one.pc ∙ aligned) one.word;
          instruction = one.instruction;
          aligned = one.aligned;
          result = one.result;
        },
        AreInFlight-kept es (executed layout e start) one.aligned all.1,
      )

  pub AreInBuffer-kept : (fs : List Fetched) (pc next : ℕ) → pc % 4 ≡ 0 → AreInBuffer layout s pc fs next →
      AreInBuffer layout t pc fs next
  AreInBuffer-kept [] pc next aligned all = all
  AreInBuffer-kept (f ∷ fs) pc next aligned all =
      let one = all.0 in (
        record {
          pc_is = one.pc_is;
          word = keep f.pc f.word (ap (λ n. n % 4) one.pc_is ∙ aligned) one.word;
          instruction = one.instruction;
          aligned = one.aligned;
        },
        AreInBuffer-kept fs f.predicted next one.aligned all.1,
      )

-- ---- a flush
pub flushed_sound : (h : Hardware) → h.pc % 4 ≡ 0 → h.csrs.mepc % 4 ≡ 0 →
    HoldsMemory h.values h.stale h.cache h.committed → IsSound (flushed h)
flushed_sound h pc_aligned mepc_aligned given = grind arith

-- ---- a trap
handler_by : (b : Bool) (base offset : ℕ) → base % 4 ≡ 0 → (if b then (base + 4 * offset) % 2 ^ 32 else base) % 4 ≡ 0
handler_by b base offset aligned = grind arith

pub handler_aligned : (kept : Kept) (cause : ℕ) → handler_of kept cause % 4 ≡ 0
handler_aligned kept cause = handler_by _ (4 * (kept.mtvec / 4)) _ (omega arith)

-- hardware that took a trap is sound
pub trap_sound : (h : Hardware) (cause value : ℕ) → HoldsMemory h.values h.stale h.cache h.committed →
    IsSound (with_trap cause value h)
trap_sound h cause value memory =
    flushed_sound (with_state (trap_taken (seen h) cause value) h) (handler_aligned h.csrs cause) (omega arith) memory

-- ---- a retirement
module _ (h : Hardware) (e : Entry) (message : Message) where
  abbrev next_state : State
  next_state = with_message h.values.ram_base e message message.next_pc (seen h)

  -- a retirement with a result makes of the state what the machine's step makes of it
  pub seen_result : HoldsMemory h.values h.stale h.cache h.committed → seen (with_result e message h) ≡ next_state
  seen_result was = grind (arith, ram_stored)

  -- where the program goes on as predicted, so do the younger instructions
  module _ (is : IsSound h) (es : List Entry) (entries : h.rob.entries ≡ e ∷ es)
      (result : message ≡ result_at (layout_of h.values) (seen h) e)
      (legal : IfSome message.store (IsStoreAccess (layout_of h.values)))
      (as_predicted : message.next_pc ≡ e.predicted_next) where
    abbrev this : Layout
    this = layout_of h.values

    retired_program : FollowsProgram this next_state es h.front
    retired_program =
        let all : AreInFlight this (seen h) (seen h) (e ∷ es) =
        subst (AreInFlight this (seen h) (seen h)) entries is.program.in_flight in
        let keep = words_stored h.values h.stale h.cache h.committed is.memory
        (seen h) refl refl e message message.next_pc legal in
        let same : next_state ≡ executed this e (seen h) =
        ap₂ (λ (m : Message) (n : ℕ). with_message h.values.ram_base e m n (seen h)) result as_predicted in
        let buffered : AreInBuffer this (seen h)
        (after_entries this es (executed this e (seen h))).pc h.front.entries h.front.next_pc =
        subst (λ (xs : List Entry).
        AreInBuffer this (seen h) (after_entries this xs (seen h)).pc h.front.entries h.front.next_pc)
        entries is.program.buffered in
        let start = after_aligned this (seen h) (seen h) es (executed this e (seen h)) all.1 all.0.aligned in
        record {
          in_flight = subst (λ (u : State). AreInFlight this next_state u es) (sym same)
              (AreInFlight-kept this (seen h) next_state keep es (executed this e (seen h)) all.0.aligned all.1);
          buffered =
              subst
              (λ (u : State). AreInBuffer this next_state (after_entries this es u).pc h.front.entries h.front.next_pc)
              (sym same)
              (AreInBuffer-kept this (seen h) next_state keep h.front.entries
              (after_entries this es (executed this e (seen h))).pc h.front.next_pc start buffered);
          aligned = is.program.aligned;
        }

    -- hardware whose oldest instruction retired with a result is sound
    pub result_sound : message.next_pc % 4 ≡ 0 → IsSound (with_result e message h)
    result_sound aligned = grind (arith, memory_stored, seen_result, retired_program)
