-- The common data bus is what the instructions in flight determine, through a dispatch, a broadcast and a squash.
use Rattle.rv_core.proofs.Words.{◌≡◌, ℕ, ◌+◌, Bool, false, cond, List, [], ◌∷◌, ◌++◌, length, nat_le, ◌==◌, Some, None}
use Rattle.rv_core.proofs.Words.{All, Option, sym, refl, ap, ◌∙◌, inl, inr, append-nil, arith, length-append, eq-eqb}
use Rattle.rv_core.proofs.Words.{ne_eqb, cases_Bool, All-cons, Message, Issue, Kind, Values, finished, predicting}
use Rattle.rv_core.proofs.Words.{ReorderBuffer, changed, entries_below, pushed, with_entry, Entry, Stage, Finished}
use Rattle.rv_core.proofs.Words.{Running, has_result, result_at, stage_by, oldest_from, find, below, is_ready_result}
use Rattle.rv_core.proofs.Words.{seq_of, squashed_bus, without_first_ready, PendingResult, cut_from, entry_of}
use Rattle.rv_core.proofs.Words.{next_number, bus_of, pending_from, pending_of}
use Rattle.rv_core.proofs.Ties.Gathered.{nothing, gathered, gathered-cut, gathered-push, gathered-same}
use Rattle.rv_core.proofs.Ties.Entries.{entry_of-from}

abbrev own_result : Unit {0} → ℕ → Entry → List PendingResult
own_result st s e = pending_of s e.stage

pending-gathered : (s : ℕ) (es : List Entry) → pending_from s es ≡ gathered nothing own_result tt s es
pending-gathered s [] = refl
pending-gathered s (e ∷ es) = ap (λ ps. pending_of s e.stage ++ ps) (pending-gathered (s + 1) es)

pending-at : (s : ℕ) (stage : Stage) → All (λ p. seq_of p ≡ s) (pending_of s stage)
pending-at s stage = grind (arith, All-cons)

pending-cut : (n s : ℕ) (es : List Entry) → below seq_of n (pending_from s es) ≡ pending_from s (entries_below n s es)
pending-cut n s es = grind (arith, below, pending-gathered, gathered-cut, nothing, pending-at)

pending-predicting : (next_pc n s : ℕ) (es : List Entry) →
    pending_from s (with_entry (predicting next_pc) n s es) ≡ pending_from s es
pending-predicting next_pc n s es = grind (arith, pending-gathered, gathered-same, nothing)

-- the bus after a squash is that of the instructions that are left
pub bus-squashed : (values : Values) (rob : ReorderBuffer) (n : ℕ) →
    squashed_bus n (bus_of values rob) ≡ bus_of values (cut_from n rob)
bus-squashed values rob n = grind (arith, pending-cut)

-- another prediction leaves the bus as it is
pub bus-predicting : (values : Values) (rob : ReorderBuffer) (n next_pc : ℕ) →
    bus_of values (changed (predicting next_pc) n rob) ≡ bus_of values rob
bus-predicting values rob n next_pc = grind (arith, pending-predicting)

-- ---- dispatch: nothing that enters executes
pending-first : (n : ℕ) (unit : Option Kind) (serialising : Bool) (cycle : ℕ) (message : Message) →
    pending_of n (stage_by unit serialising (Finished None cycle message)) ≡ []
pending-first n unit serialising cycle message = grind arith

-- an instruction that enters leaves the bus as it is
pub bus-push : (values : Values) (rob : ReorderBuffer) (e : Entry) (unit : Option Kind) (serialising : Bool) (cycle : ℕ)
    (message : Message) → e.stage ≡ stage_by unit serialising (Finished None cycle message)
    → bus_of values (pushed e rob) ≡ bus_of values rob
bus-push values rob e unit serialising cycle message at =
    let n = next_number rob in
    ap (λ results. record { results = results; capacity = values.rob; width = values.bus_width }) (
    pending-gathered rob.retired (rob.entries ++ e ∷ []) ∙
    gathered-push nothing own_result tt rob.retired n rob.entries e refl ∙
    ap (λ ps. gathered nothing own_result tt rob.retired rob.entries ++ ps)
    (ap (pending_of n) at ∙ pending-first n unit serialising cycle message) ∙
    append-nil (gathered nothing own_result tt rob.retired rob.entries) ∙
    sym (pending-gathered rob.retired rob.entries)
    )

-- ---- a grant
-- the first result that is ready is that of the oldest instruction whose execution is over
pub record IsGranted (cycle n : ℕ) (older es : List Entry) (r : PendingResult) : Type 0 where
  pub before : List Entry
  pub entry : Entry
  pub is_oldest : oldest_from (has_result cycle) older es ≡ Some (before, entry)
  pub number : n + length before ≡ r.seq + length older
  pub issue : Issue
  pub message : Message
  pub running : entry.stage ≡ Running issue message
  pub over : result_at cycle entry.stage ≡ Some message
  pub held : entry_of r.seq n es ≡ Some entry
  pub rest : without_first_ready cycle (pending_from n es)
      ≡ pending_from n (with_entry (finished message cycle) r.seq n es)

module _ (cycle : ℕ) where
  -- an instruction that has no result yet
  granted-later : (n : ℕ) (older : List Entry) (e : Entry) (es : List Entry) (r : PendingResult) →
      has_result cycle older e ≡ false
      → without_first_ready cycle (pending_from n (e ∷ es))
      ≡ pending_of n e.stage ++ without_first_ready cycle (pending_from (n + 1) es)
      → IsGranted cycle (n + 1) (older ++ e ∷ []) es r → IsGranted cycle n older (e ∷ es) r
  granted-later n older e es r fails skips later =
      let other : (r.seq == n) ≡ false =
      ne_eqb r.seq n (let from = (entry_of-from r.seq (n + 1) es later.entry later.held).0 in omega (arith, from)) in
      record {
        before = later.before;
        entry = later.entry;
        is_oldest = rw fails later.is_oldest;
        number = omega (arith, later.number, length-append older (e ∷ []));
        issue = later.issue;
        message = later.message;
        running = later.running;
        over = later.over;
        held = rw other later.held;
        rest = rw other (skips ∙ ap (λ ps. pending_of n e.stage ++ ps) later.rest);
      }

  granted-at : (n : ℕ) (older : List Entry) (e : Entry) (stage : Stage) (es : List Entry) (r : PendingResult) →
      find (is_ready_result cycle) (pending_of n stage ++ pending_from (n + 1) es) ≡ Some r
      → (find (is_ready_result cycle) (pending_from (n + 1) es) ≡ Some r →
      IsGranted cycle (n + 1) (older ++ record e { stage = stage } ∷ []) es r)
      → IsGranted cycle n older (record e { stage = stage } ∷ es) r
  granted-at n older e (Running issue message) es r found later =
      elim (cases_Bool (nat_le (issue.cycle + issue.cost) cycle)) [
        | inl ready ↦
            let own : PendingResult = record { seq = n; ready = issue.cycle + issue.cost } in
            let is : Some own ≡ Some r =
            sym (ap (λ b. cond b (Some own) (find (is_ready_result cycle) (pending_from (n + 1) es))) ready) ∙ found in
            let one : own ≡ r = cc in
            rw (← one) (record {
              before = older;
              entry = record e { stage = Running issue message };
              is_oldest = rw ready refl;
              number = refl;
              issue = issue;
              message = message;
              running = refl;
              over = rw ready refl;
              held = rw (eq-eqb n n refl) refl;
              rest = rw (ready, eq-eqb n n refl) refl;
            })
        | inr late ↦
            let own : PendingResult = record { seq = n; ready = issue.cycle + issue.cost } in
            let found_later : find (is_ready_result cycle) (pending_from (n + 1) es) ≡ Some r =
            sym (ap (λ b. cond b (Some own) (find (is_ready_result cycle) (pending_from (n + 1) es))) late) ∙ found in
            granted-later n older (record e { stage = Running issue message }) es r (rw late refl)
            (rw late refl) (later found_later)
      ]
  granted-at n older e stage es r found later =
      granted-later n older (record e { stage = stage }) es r refl refl (later found)

  -- the first result that is ready is that of an instruction in flight, the oldest with a result
  pub granted : (n : ℕ) (older es : List Entry) (r : PendingResult) →
      find (is_ready_result cycle) (pending_from n es) ≡ Some r →
      IsGranted cycle n older es r
  granted n older [] r found = absurd (cc)
  granted n older (e ∷ es) r found =
      granted-at n older e e.stage es r found (λ later. granted (n + 1) (older ++ e ∷ []) es r later)

  -- where none is ready, no execution is over
  pub granted-none : (n : ℕ) (older es : List Entry) → find (is_ready_result cycle) (pending_from n es) ≡ None →
      oldest_from (has_result cycle) older es ≡ None
  granted-none n older [] none = refl
  granted-none n older (e ∷ es) none = grind (arith, granted-none (n + 1) (older ++ e ∷ []) es)

  -- and nothing leaves the bus
  pub without-none : (ps : List PendingResult) → find (is_ready_result cycle) ps ≡ None →
      without_first_ready cycle ps ≡ ps
  without-none [] none = refl
  without-none (p ∷ ps) none = grind (arith, without-none ps)
