-- Where a program stores to some words alone, and none of them becomes a head, no cycle of it ends at a stale word.
use Rattle.rv_hardware.proofs.Words.{◌≡◌, ◌≢◌, ℕ, zero, suc, Bool, true, false, ◌&&◌, ◌||◌, if◌then◌else◌, List, []}
use Rattle.rv_hardware.proofs.Words.{◌∷◌, Option, Some, None, nat_cmp, refl, sym, ap, ◌∙◌, subst, true≢false, list_all}
use Rattle.rv_hardware.proofs.Words.{list_any, StoreAccess, word_of, stale_after, Entry, Stage, Finished, Hardware}
use Rattle.rv_hardware.proofs.Words.{Committing, Turn, GoesOn, Ends, Leads, left_by_turns, Message, Fault, Instr}
use Rattle.rv_hardware.proofs.Words.{FenceI, Csr, Mret, is_drained, write_back_time, with_write_back, execute_head}
use Rattle.rv_hardware.proofs.Words.{head_turn, finish_broadcast, finish_head, take_effect, seen, unwrap_or}
use Rattle.rv_hardware.proofs.Words.{broadcast_of, execute, commit_turn, commit_turn_of, commit_unless, commit_with}
use Rattle.rv_hardware.proofs.Words.{due, Lines, with_lines, no_lines, and_first, and_second, repeated, with_result}
use Rattle.rv_hardware.proofs.Words.{◌==◌, followed_by, broadcast, drain, issue}
use Rattle.std.specs.FinSet as set
use Rattle.std.specs.Ordering.{eq_by_cmp}
use Rattle.std.specs.Cmp.{Equal-is, nat_cmp_total}
use Rattle.rv_arch.specs.Csr.{Kept, access}
use Rattle.rv_arch.specs.declared.outcome.Stop.{Stop}
use Rattle.rv_arch.specs.declared.outcome.Stop.TheVariants as stop
use Rattle.rv_arch.specs.Effect.{accesses, operand_of}
use Rattle.rv_hardware.proofs.Turns.Commit.{head_retired_entries, retired_and_flushed, retired_with}
use Rattle.rv_hardware.proofs.Turns.KeptByBroadcast.{broadcast-keeps}
use Rattle.rv_hardware.proofs.Turns.KeptByDispatch.{dispatch-keeps}
use Rattle.rv_hardware.proofs.Turns.KeptByDrain.{drain-keeps}
use Rattle.rv_hardware.proofs.Turns.KeptByIssue.{issue-keeps}
use Rattle.rv_hardware_tests.proofs.Programs.{committing_in, dispatching_in, never}

-- ---- a commit phase that finds none

-- the phase does not end at a stale word
abbrev pub IsFresh : Committing → Type 0
IsFresh c = (pc : ℕ) → c.stop ≢ Some (stop.Stale pc)

module _ (is_stale : set.FinSet nat_cmp → ℕ → Bool) where
  module _ (rest rest' : Committing → Committing) (alike : (c : Committing) → IsFresh (rest c) → rest c ≡ rest' c) where
    after_turn : (turn : Turn Committing) → IsFresh (followed_by rest turn) →
        followed_by rest turn ≡ followed_by rest' turn
    after_turn (GoesOn c) fresh = alike c fresh
    after_turn (Ends c) fresh = refl

    by_stale : (found : Bool) (pc : ℕ) (c : Committing) (turn : Turn Committing) →
        IsFresh (followed_by rest (if found then Ends (record c { stop = Some (stop.Stale pc) }) else turn)) →
        followed_by rest (if found then Ends (record c { stop = Some (stop.Stale pc) }) else turn) ≡
        followed_by rest' turn
    by_stale true pc c turn fresh = absurd (fresh pc refl)
    by_stale false pc c turn fresh = after_turn turn fresh

    by_entries : (es : List Entry) (c : Committing) → IsFresh (followed_by rest (commit_turn_of is_stale es c)) →
        followed_by rest (commit_turn_of is_stale es c) ≡ followed_by rest' (commit_turn_of never es c)
    by_entries [] c fresh = refl
    by_entries (e ∷ es) c fresh =
        by_stale (is_stale c.hardware.stale (word_of e.pc)) e.pc c (head_turn e e.instruction c) fresh

  turns_alike : (width : ℕ) (c : Committing) → IsFresh (repeated (commit_turn is_stale) width c) →
      repeated (commit_turn is_stale) width c ≡ repeated (commit_turn never) width c
  turns_alike zero c fresh = refl
  turns_alike (suc width) c fresh =
      by_entries (repeated (commit_turn is_stale) width) (repeated (commit_turn never) width) (turns_alike width)
      c.hardware.rob.entries c fresh

  unless_due : (interrupt : Option ℕ) (h : Hardware) → IsFresh (commit_unless is_stale interrupt h) →
      commit_unless is_stale interrupt h ≡ commit_unless never interrupt h
  unless_due (Some code) h fresh = refl
  unless_due None h fresh = turns_alike h.values.commit_width (record { hardware = h; steps = []; stop = None }) fresh

  -- it is one in which no word is stale
  pub commits_alike : (lines : Lines) (h : Hardware) → IsFresh (commit_with is_stale lines h) →
      commit_with is_stale lines h ≡ commit_with never lines h
  commits_alike lines h fresh = unless_due (due h.csrs lines) (with_lines lines h) fresh

-- ---- the phases from drain to dispatch

-- they make no word stale
pub execute_stale : (h : Hardware) → (execute h).hardware.stale ≡ h.stale
execute_stale h =
    dispatch-keeps {P = λ g. g.stale ≡ h.stale} (record { dispatches = λ g f rest p first none. p })
    (broadcast (issue (drain h)))
    (broadcast-keeps {P = λ g. g.stale ≡ h.stale}
    (record { broadcasts = λ g older younger e message p split gives. p; mends = λ g older younger e next p split. p })
    (issue (drain h))
    (issue-keeps (λ g. g.stale ≡ h.stale) (λ k. record {
      accesses = λ g older younger e address p split ready by. p;
      starts = λ g older younger e cost message p split waits of_kind result costs. p;
    }) (drain h)
    (drain-keeps {P = λ g. g.stale ≡ h.stale}
    (record { leaves = λ g p idle. p; drains = λ g access p idle is. p }) h refl)))

-- ---- the words that are stored to

module _ (stored : List ℕ) where
  -- a word is one of them
  abbrev pub is_stored : ℕ → Bool
  is_stored word = list_any (λ each. eq_by_cmp nat_cmp word each) stored

  -- each stale word is
  abbrev pub HasStored : set.FinSet nat_cmp → Type 0
  HasStored stale = (word : ℕ) → set.contains stale word ≡ true → is_stored word ≡ true

  -- a store stores to one of them
  abbrev stores_there : Option StoreAccess → Bool
  stores_there None = true
  stores_there (Some access) = is_stored (word_of access.address)

  -- and so does what an instruction in flight is to store, once its result was broadcast
  abbrev stage_stores_there : Stage → Bool
  stage_stores_there (Finished issue cycle message) = stores_there message.store
  stage_stores_there _ = true

  abbrev pub is_stored_by : Entry → Bool
  is_stored_by e = stage_stores_there e.stage

  pub none_stored : HasStored set.empty
  none_stored word is = absurd (true≢false (sym is ∙ set.contains-empty nat_cmp word))

  by_insert : (stale : set.FinSet nat_cmp) (to word : ℕ) (same : Bool) → eq_by_cmp nat_cmp word to ≡ same →
      is_stored to ≡ true → HasStored stale → (same || set.contains stale word) ≡ true → is_stored word ≡ true
  by_insert stale to word true same there has is =
      let one : word ≡ to = set.nat_cmp-IsAntisymmetric word to ((Equal-is (nat_cmp word to)).0 same) in
      rw one there
  by_insert stale to word false same there has is = has word is

  after_store : (store : Option StoreAccess) (stale : set.FinSet nat_cmp) → stores_there store ≡ true →
      HasStored stale → HasStored (stale_after store stale)
  after_store None stale there has = has
  after_store (Some to_memory) stale there has = λ word is.
      let to : ℕ = word_of to_memory.address in
      by_insert stale to word (eq_by_cmp nat_cmp word to) refl there has
      (sym (set.contains-insert nat_cmp_total stale to word) ∙ is)

  -- ---- a turn of commit

  -- the stale words are stored to, and so are those of what is in flight
  abbrev Holds : Committing → Type 0
  Holds c = HasStored c.hardware.stale × (list_all is_stored_by c.hardware.rob.entries ≡ true)

  abbrev Has : Committing → Type 0
  Has c = HasStored c.hardware.stale

  module _ (c : Committing) (e : Entry) (es : List Entry) (at : c.hardware.rob.entries ≡ e ∷ es) (holds : Holds c) where
    all_stored : (is_stored_by e && list_all is_stored_by es) ≡ true
    all_stored = ap (λ l. list_all is_stored_by l) (sym at) ∙ holds.1

    rest_stored : (message : Message) → list_all is_stored_by (with_result e message c.hardware).rob.entries ≡ true
    rest_stored message =
        ap (λ l. list_all is_stored_by l) (head_retired_entries c.hardware.rob e es at) ∙
        and_second (is_stored_by e) _ all_stored

    by_prediction : (message : Message) (as_predicted : Bool) → HasStored (stale_after message.store c.hardware.stale) →
        Leads Holds Has
        (if as_predicted then GoesOn (retired_with e message c) else Ends (retired_and_flushed e message c))
    by_prediction message true has = (has, rest_stored message)
    by_prediction message false has = has

    by_fault : (message : Message) (fault : Option Fault) → stores_there message.store ≡ true →
        Leads Holds Has (finish_head e message fault c)
    by_fault message None there =
        by_prediction message (message.next_pc == e.predicted_next)
        (after_store message.store c.hardware.stale there holds.0)
    by_fault message (Some fault) there = holds.0

    by_stage : (stage : Stage) → e.stage ≡ stage → Leads Holds Has (finish_broadcast e (broadcast_of stage) c)
    by_stage (Finished issue cycle message) is =
        by_fault message message.fault
        (ap stage_stores_there (sym is) ∙ and_first (is_stored_by e) (list_all is_stored_by es) all_stored)
    by_stage stage is = holds.0

    by_access : (found : Option (ℕ × Kept)) (word rd : ℕ) →
        HasStored (take_effect e (accesses (seen c.hardware) word rd found) c).hardware.stale
    by_access None word rd = holds.0
    by_access (Some found) word rd = holds.0

    by_write_back : (clean : Bool) →
        HasStored (if clean then execute_head e FenceI (record c { hardware = with_write_back c.hardware })
        else record c { hardware = with_write_back c.hardware }).hardware.stale
    by_write_back true = none_stored
    by_write_back false = holds.0

    by_drained : (drained : Bool) →
        HasStored (if drained
        then (if write_back_time c.hardware == 0
        then execute_head e FenceI (record c { hardware = with_write_back c.hardware })
        else record c { hardware = with_write_back c.hardware })
        else c).hardware.stale
    by_drained true = by_write_back (write_back_time c.hardware == 0)
    by_drained false = holds.0

    by_instruction : (instruction : Option Instr) → Leads Holds Has (head_turn e instruction c)
    by_instruction (Some FenceI) = by_drained (is_drained c.hardware)
    by_instruction (Some (Csr op rd csr source)) =
        by_access (access c.hardware.csrs c.hardware.lines op csr (operand_of c.hardware.registers source))
        (unwrap_or e.word 0) rd
    by_instruction (Some Mret) = holds.0
    by_instruction _ = by_stage e.stage refl

  -- ---- the commit phase

  module _ (is_stale : set.FinSet nat_cmp → ℕ → Bool) where
    by_found : (c : Committing) (e : Entry) (es : List Entry) (found : Bool) → c.hardware.rob.entries ≡ e ∷ es →
        Holds c → Leads Holds Has
        (if found then Ends (record c { stop = Some (stop.Stale e.pc) }) else head_turn e e.instruction c)
    by_found c e es true at holds = holds.0
    by_found c e es false at holds = by_instruction c e es at holds e.instruction

    turn_of_entries : (c : Committing) (es : List Entry) → c.hardware.rob.entries ≡ es → Holds c →
        Leads Holds Has (commit_turn_of is_stale es c)
    turn_of_entries c [] at holds = holds.0
    turn_of_entries c (e ∷ es) at holds = by_found c e es (is_stale c.hardware.stale (word_of e.pc)) at holds

    turn_leads : (c : Committing) → Holds c → Leads Holds Has (commit_turn is_stale c)
    turn_leads c holds = turn_of_entries c c.hardware.rob.entries refl holds

    unless_leads : (interrupt : Option ℕ) (h : Hardware) → HasStored h.stale →
        list_all is_stored_by h.rob.entries ≡ true → HasStored (commit_unless is_stale interrupt h).hardware.stale
    unless_leads (Some code) h has all = has
    unless_leads None h has all =
        left_by_turns {P = Holds} {Q = Has} (commit_turn is_stale) turn_leads (λ c p. p.0) h.values.commit_width
        (record { hardware = h; steps = []; stop = None }) (has, all)

    -- what is stale after it was stored to
    pub commit_leads : (lines : Lines) (h : Hardware) → HasStored h.stale →
        list_all is_stored_by h.rob.entries ≡ true → HasStored (commit_with is_stale lines h).hardware.stale
    commit_leads lines h has all = unless_leads (due h.csrs lines) (with_lines lines h) has all

  -- each word that is stored to counts as stale
  abbrev among : set.FinSet nat_cmp → ℕ → Bool
  among stale word = is_stored word

  module _ (rest rest' : Committing → Committing)
      (alike : (c : Committing) → Holds c → IsFresh (rest' c) → rest c ≡ rest' c) where
    after_leading : (turn : Turn Committing) → Leads Holds Has turn → IsFresh (followed_by rest' turn) →
        followed_by rest turn ≡ followed_by rest' turn
    after_leading (GoesOn c) leads fresh = alike c leads fresh
    after_leading (Ends c) leads fresh = refl

    by_both : (c : Committing) (e : Entry) (es : List Entry) (found there : Bool) → c.hardware.rob.entries ≡ e ∷ es →
        Holds c → set.contains c.hardware.stale (word_of e.pc) ≡ found → is_stored (word_of e.pc) ≡ there →
        IsFresh (followed_by rest'
        (if there then Ends (record c { stop = Some (stop.Stale e.pc) }) else head_turn e e.instruction c)) →
        followed_by rest
        (if found then Ends (record c { stop = Some (stop.Stale e.pc) }) else head_turn e e.instruction c) ≡
        followed_by rest'
        (if there then Ends (record c { stop = Some (stop.Stale e.pc) }) else head_turn e e.instruction c)
    by_both c e es found true at holds is stale fresh = absurd (fresh e.pc refl)
    by_both c e es true false at holds is stale fresh = absurd (true≢false (sym (holds.0 (word_of e.pc) is) ∙ stale))
    by_both c e es false false at holds is stale fresh =
        after_leading (head_turn e e.instruction c) (by_instruction c e es at holds e.instruction) fresh

    both_entries : (c : Committing) (es : List Entry) → c.hardware.rob.entries ≡ es → Holds c →
        IsFresh (followed_by rest' (commit_turn_of among es c)) →
        followed_by rest (commit_turn_of set.contains es c) ≡ followed_by rest' (commit_turn_of among es c)
    both_entries c [] at holds fresh = refl
    both_entries c (e ∷ es) at holds fresh =
        by_both c e es (set.contains c.hardware.stale (word_of e.pc)) (is_stored (word_of e.pc)) at holds refl refl
        fresh

  both_turns : (width : ℕ) (c : Committing) → Holds c → IsFresh (repeated (commit_turn among) width c) →
      repeated (commit_turn set.contains) width c ≡ repeated (commit_turn among) width c
  both_turns zero c holds fresh = refl
  both_turns (suc width) c holds fresh =
      both_entries (repeated (commit_turn set.contains) width) (repeated (commit_turn among) width) (both_turns width)
      c c.hardware.rob.entries refl holds fresh

  both_unless_due : (interrupt : Option ℕ) (h : Hardware) → HasStored h.stale →
      list_all is_stored_by h.rob.entries ≡ true → IsFresh (commit_unless among interrupt h) →
      commit_unless set.contains interrupt h ≡ commit_unless among interrupt h
  both_unless_due (Some code) h has all fresh = refl
  both_unless_due None h has all fresh =
      both_turns h.values.commit_width (record { hardware = h; steps = []; stop = None }) (has, all) fresh

  -- where it finds none that is stored to, it finds none that is stale
  pub stays_fresh : (lines : Lines) (h : Hardware) → HasStored h.stale → list_all is_stored_by h.rob.entries ≡ true →
      IsFresh (commit_with among lines h) → IsFresh (commit_with set.contains lines h)
  stays_fresh lines h has all fresh =
      subst IsFresh (sym (both_unless_due (due h.csrs lines) (with_lines lines h) has all fresh)) fresh

  -- ---- a cycle

  abbrev does_not_stop : Option Stop → Bool
  does_not_stop (Some (stop.Stale pc)) = false
  does_not_stop _ = true

  fresh_by : (c : Committing) → does_not_stop c.stop ≡ true → IsFresh c
  fresh_by c is pc at = true≢false (sym is ∙ ap does_not_stop at)

  -- whether a cycle with all lines low stores to these words alone, and finds no head at one of them
  abbrev pub keeps_apart : Hardware → Bool
  keeps_apart h = list_all is_stored_by h.rob.entries && does_not_stop (commit_with among no_lines h).stop

  -- then its commit phase ends at no stale word
  pub finds_none : (h : Hardware) → HasStored h.stale → keeps_apart h ≡ true →
      IsFresh (commit_with set.contains no_lines h)
  finds_none h has apart =
      stays_fresh no_lines h has (and_first (list_all is_stored_by h.rob.entries) _ apart)
      (fresh_by (commit_with among no_lines h) (and_second (list_all is_stored_by h.rob.entries) _ apart))

  -- and what is stale after it was stored to
  pub has_after : (h : Hardware) → HasStored h.stale → keeps_apart h ≡ true →
      HasStored (dispatching_in h).hardware.stale
  has_after h has apart =
      subst HasStored (sym (execute_stale (committing_in h).hardware))
      (commit_leads never no_lines h has (and_first (list_all is_stored_by h.rob.entries) _ apart))
