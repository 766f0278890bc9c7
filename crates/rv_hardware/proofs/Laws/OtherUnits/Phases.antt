-- A unit executes one instruction at a time, or begins one a cycle where it is pipelined.
use Rattle.rv_hardware.proofs.Words.{◌≡◌, ℕ, ◌+◌, ◌≤◌, Bool, true, false, cond, ◌&&◌, List, [], ◌∷◌, ◌++◌, length}
use Rattle.rv_hardware.proofs.Words.{nat_lt, nat_le, Some, None, filter, Option, sym, refl, ap, subst, true≢false}
use Rattle.rv_hardware.proofs.Words.{arith, ltb-true, lt-ltb, le-leb, and_from, and_left, and_right, at_kind-for_each}
use Rattle.rv_hardware.proofs.Words.{with_kind-each, is_of_kind, kind_of_word, at_kind, for_each, with_kind, Issue}
use Rattle.rv_hardware.proofs.Words.{Kind, Values, Each, Pool, free_pool, held_for, holding, holds_unit, is_free}
use Rattle.rv_hardware.proofs.Words.{started, Entry, Hardware, cost_of, issued, path, Step, and_second, Each-weaker}
use Rattle.rv_hardware.proofs.Words.{Each-filter, count, count-append, count-yes, count-length, count-set-same}
use Rattle.rv_hardware.proofs.Words.{count-set-more, count-set-less, count-push-no, each_then, Each-append}
use Rattle.rv_units.specs.Pool.{started as started_unit}
use Rattle.rv_hardware.proofs.Marks.Cited.{IsKeptByBroadcast, IsKeptByDispatch, IsReady, ready-parts, InCycle}
use Rattle.rv_hardware.proofs.Marks.Cited.{IsKeptInCycle, in_cycle, finished_mark, dispatched_mark, is_waiting_is}
use Rattle.rv_hardware.proofs.Marks.Cited.{History, began, went_on, dispatching, history_passes, access_keeps}
use Rattle.rv_hardware.proofs.Marks.Cited.{message_at, started_entries, is_of_kind_is, Mark, Start, mark_of_entry}
use Rattle.rv_hardware.proofs.Marks.Cited.{start_of_stage}

-- an execution holds a unit in a cycle
abbrev pub start_holds : Bool → ℕ → Option Start → Bool
start_holds pipelined c None = false
start_holds pipelined c (Some s) = nat_le s.cycle c && nat_lt c (s.cycle + held_for pipelined s.cost)

-- a mark's execution holds a unit of this kind in a cycle
abbrev pub holds_mark : Values → Kind → ℕ → Mark → Bool
holds_mark v k c m = is_of_kind k (kind_of_word m.instruction) && start_holds (at_kind k v.kinds).pipelined c m.start

-- a start as a pool keeps it: with the time for which it holds its unit
abbrev start_in : Pool → ℕ → ℕ → Issue
start_in pool now cost = record { cycle = now; cost = held_for pool.is_pipelined cost }

-- the starts of a pool that hold a unit are as many as those of some entries, and no more than there are units
pub record Held (v : Values) (now : ℕ) (k : Kind) (pool : Pool) (es : List Entry) : Type 0 where
  pub tied : (c : ℕ) → now ≤ c → count (λ e. holds_mark v k c (mark_of_entry e)) es ≤ count (holds_unit c) pool.starts
  pub within : (c : ℕ) → now ≤ c → count (holds_unit c) pool.starts ≤ (at_kind k v.kinds).units
  pub begun : Each (λ s. s.cycle ≤ now) pool.starts

-- what held a unit and holds one later holds it now
holds_between : (now c : ℕ) (s : Issue) → now ≤ c → s.cycle ≤ now → holds_unit c s ≡ true → holds_unit now s ≡ true
holds_between now c s le given h = grind (arith, ltb-true, and_second, and_from, le-leb, lt-ltb)

picks : {X : Type 0} (p q : X → Bool) (b : Bool) (x : X) (xs ys : List X) → (p x ≡ true → b ≡ true) →
    count p xs ≤ count p ys → count p (x ∷ xs) ≤ count p (cond b (x ∷ ys) ys)
picks p q b x xs ys f le = grind (arith, true≢false)

filter_holds : {X : Type 0} (p q : X → Bool) (xs : List X) → Each (λ x. p x ≡ true → q x ≡ true) xs →
    count p xs ≤ count p (filter q xs)
filter_holds p q [] h = omega arith
filter_holds p q (x ∷ xs) h = picks p q (q x) x xs (filter q xs) h.0 (filter_holds p q xs h.1)

module _ (v : Values) (now : ℕ) (k : Kind) (pool : Pool) where
  -- fewer entries
  pub held_fewer : (es fs : List Entry) →
      ((c : ℕ) → now ≤ c →
      count (λ e. holds_mark v k c (mark_of_entry e)) fs ≤ count (λ e. holds_mark v k c (mark_of_entry e)) es) →
      Held v now k pool es → Held v now k pool fs
  held_fewer es fs less h = grind arith

  pub held_later : (later : ℕ) {es : List Entry} → now ≤ later → Held v now k pool es → Held v later k pool es
  held_later later le h = grind (arith, Each-weaker)

  -- one more start, on a free unit
  pub held_started : (older younger : List Entry) (e x : Entry) (cost : ℕ) →
      pool.is_pipelined ≡ (at_kind k v.kinds).pipelined → pool.units ≡ (at_kind k v.kinds).units →
      is_free now pool ≡ true → start_of_stage e.stage ≡ None →
      ((c : ℕ) → holds_mark v k c (mark_of_entry x) ≡ true →
      holds_unit c (start_in pool now cost) ≡ true) →
      Held v now k pool (older ++ e ∷ younger) → Held v now k (started_unit cost now pool) (older ++ x ∷ younger)
  held_started older younger e x cost pipelined units free none holds h =
      let fresh : Issue = start_in pool now cost in
      let kept : List Issue = holding now pool.starts in
      let room = ltb-true (length kept) pool.units free in
      record {
        tied = λ c le. tie c le fresh kept;
        within = λ c le.
            let all = count-append (holds_unit c) kept (fresh ∷ []) in
            let some = count-length (holds_unit c) kept in
            let one = count-length (holds_unit c) (fresh ∷ []) in
            omega (arith, all, some, one, room, units);
        begun = Each-append _ _ _ (Each-filter _ _ _ h.begun) (omega arith, tt);
      }
    where
      tie : (c : ℕ) → now ≤ c → (fresh : Issue) (kept : List Issue) →
          count (λ z. holds_mark v k c (mark_of_entry z)) (older ++ x ∷ younger) ≤
          count (holds_unit c) (holding now pool.starts ++ start_in pool now cost ∷ [])
      tie c le fresh kept = by_test (holds_mark v k c (mark_of_entry x)) refl
        where
          old : count (holds_unit c) pool.starts ≤ count (holds_unit c) (holding now pool.starts)
          old = filter_holds (holds_unit c) (holds_unit now) pool.starts
              (each_then (λ s begun hold. holds_between now c s le begun hold) _ h.begun)

          by_test : (b : Bool) → holds_mark v k c (mark_of_entry x) ≡ b →
              count (λ z. holds_mark v k c (mark_of_entry z)) (older ++ x ∷ younger) ≤
              count (holds_unit c) (holding now pool.starts ++ start_in pool now cost ∷ [])
          by_test true is =
              let before = h.tied c le in
              let more = count-set-more (λ z. holds_mark v k c (mark_of_entry z)) older younger e x in
              let all = count-append (holds_unit c) (holding now pool.starts)
              (start_in pool now cost ∷ []) in
              let one = count-yes (holds_unit c)
              (start_in pool now cost) [] (holds c is) in
              omega (arith, before, more, all, one, old)
          by_test false is =
              let before = h.tied c le in
              let less = count-set-less (λ z. holds_mark v k c (mark_of_entry z)) older younger e x is in
              let all = count-append (holds_unit c) (holding now pool.starts)
              (start_in pool now cost ∷ []) in
              omega (arith, before, less, all, old)

-- all kinds

abbrev pub AllHeld : Values → ℕ → Hardware → Type 0
AllHeld v now h = (k : Kind) → Held v now k (at_kind k h.units) h.rob.entries

pub all_fewer : (v : Values) (now : ℕ) (g h : Hardware) → g.units ≡ h.units →
    ((k : Kind) (c : ℕ) → now ≤ c →
    count (λ e. holds_mark v k c (mark_of_entry e)) g.rob.entries ≤
    count (λ e. holds_mark v k c (mark_of_entry e)) h.rob.entries) →
    AllHeld v now h → AllHeld v now g
all_fewer v now g h units less held k = grind arith

-- commit

-- issue

-- an instruction that starts takes a unit of its kind, and no other changes
pub issued_units : (k : Kind) (h : Hardware) (older : List Entry) (e : Entry) →
    (issued k h older e).units ≡
    with_kind k (started_unit (cost_of h k (path h older e)) h.cycle (at_kind k h.units)) h.units
issued_units k h older e = grind (arith, access_keeps)

module _ (v : Values) (now : ℕ) where
  module _ {k : Kind} {h : Hardware} {older : List Entry} (younger : List Entry) {e : Entry}
      (at : h.rob.entries ≡ older ++ e ∷ younger) (ready : IsReady h k older e)
      (free : is_free h.cycle (at_kind k h.units) ≡ true) (p : InCycle v now h × AllHeld v now h) where
    abbrev cost_here : ℕ
    cost_here = cost_of h k (path h older e)

    abbrev begun_here : Entry
    begun_here = started (record { cycle = h.cycle; cost = cost_of h k (path h older e) }) (message_at h older e) e

    -- where its mark holds a unit, its start in the pool does
    holds_here : (c : ℕ) → holds_mark v k c (mark_of_entry begun_here) ≡ true →
        holds_unit c (start_in (at_kind k h.units) now cost_here) ≡ true
    holds_here c held = grind arith

    same_kind : Held v now k (started_unit cost_here h.cycle (at_kind k h.units)) (older ++ begun_here ∷ younger)
    same_kind =
        subst (λ n. Held v now k (started_unit cost_here n (at_kind k h.units)) (older ++ begun_here ∷ younger))
        (sym p.0.1)
        (held_started v now k (at_kind k h.units) older younger e begun_here cost_here (p.0.0.pipelined k)
        (p.0.0.units k) (subst (λ n. is_free n (at_kind k h.units) ≡ true) p.0.1 free)
        (ap start_of_stage (is_waiting_is e.stage ready.waits)) holds_here
        (subst (Held v now k (at_kind k h.units)) at (p.1 k)))

    other_kind : (j : Kind) → is_of_kind j (Some k) ≡ false →
        Held v now j (at_kind j h.units) (older ++ begun_here ∷ younger)
    other_kind j other = grind (arith, held_fewer, count-set-less, and_left, is_of_kind_is)

    pub started_units : AllHeld v now (issued k h older e)
    started_units j =
        subst (λ es. Held v now j (at_kind j (issued k h older e).units) es)
        (sym (started_entries k h older younger e at))
        (subst (λ u. Held v now j (at_kind j u) (older ++ begun_here ∷ younger)) (sym (issued_units k h older e))
        (with_kind-each k (started_unit cost_here h.cycle (at_kind k h.units)) h.units
        (λ i q. Held v now i q (older ++ begun_here ∷ younger)) same_kind other_kind j))

-- broadcast

units_broadcast : (v : Values) (now : ℕ) → IsKeptByBroadcast (AllHeld v now)
units_broadcast v now = grind (arith, all_fewer, count-set-same, finished_mark, count-append)

-- dispatch

units_dispatch : (v : Values) (now : ℕ) → IsKeptByDispatch (AllHeld v now)
units_dispatch v now = grind (arith, all_fewer, count-push-no, dispatched_mark, and_right)

-- a cycle

-- each phase of a cycle keeps it that all units are held within their number
pub units_kept : (v : Values) (now : ℕ) → IsKeptInCycle v now (AllHeld v now)
units_kept v now = grind (arith, started_units, ready-parts, units_broadcast, units_dispatch)

units_at_reset : (v : Values) (k : Kind) → Held v 0 k (at_kind k (for_each free_pool v.kinds)) []
units_at_reset v k =
    rw (at_kind-for_each free_pool v.kinds k)
    (record { tied = λ c le. omega arith; within = λ c le. omega arith; begun = tt })

-- in every history all units are held within their number
pub units_of_history : {v : Values} {steps : List Step} {h : Hardware} → History v steps h → AllHeld v h.cycle h
units_of_history {v} (began image start legal) = units_at_reset v
units_of_history {v} (went_on {earlier} {old} {new} {lines} {report} before is) = λ k.
    let passed = history_passes v before is in
    let held = in_cycle (units_kept v old.cycle) passed (units_of_history before) in
    let d : Hardware = (dispatching lines old).hardware in
    let next : new.cycle ≡ old.cycle + 1 = ap (λ (h : Hardware). h.cycle) passed.others_stay in
    subst (λ (g : Hardware). Held v new.cycle k (at_kind k g.units) g.rob.entries) (sym passed.others_stay)
    (held_later v old.cycle k (at_kind k d.units) new.cycle (omega (arith, next)) (held k))
