-- A cycle's drain phase begins an access where the end of the access under way changes, and nowhere else.
use Rattle.std.proofs.Common.{◌≡◌, ◌∙◌, ℕ, ◌+◌, ◌≤◌, ◌<◌, Bool, true, false, if◌then◌else◌, nat_le, List, [], ◌∷◌, ◌++◌}
use Rattle.std.proofs.Common.{Option, Some, None, refl, ap, sym, arith, eq-eqb, ne_eqb}
use Rattle.std.specs.FinSet as set
use Rattle.std.specs.Option.{option_map}
use Rattle.std.proofs.lemmas.Bool.{leb-true, leb-false}
use Rattle.rv_isa.specs.declared.broadcast.StoreAccess.{StoreAccess}
use Rattle.rv_isa.specs.declared.lines.Lines.{Lines}
use Rattle.rv_isa.specs.declared.operations.Kind.{Kind}
use Rattle.rv_cache.specs.Cache.{access_cost}
use Rattle.rv_cache.specs.WriteBack.{Each}
use Rattle.rv_stores.specs.Queue.{is_oldest_draining, oldest_to_drain, with_oldest_draining, without_drained}
use Rattle.rv_stores.specs.Store.{draining, is_draining, is_draining_state, state_to_drain}
use Rattle.rv_stores.specs.declared.store.Store.{Store}
use Rattle.rv_stores.specs.declared.store.StoreState.{StoreState}
use Rattle.rv_hardware.specs.Commit.{is_drained, with_write_back}
use Rattle.rv_hardware.specs.Cycle.{IsCycle, any_prediction, commit_with, execute, with_lines}
use Rattle.rv_hardware.specs.Drain.{drain, end_drain, start_drain}
use Rattle.rv_hardware.specs.Draining.{drain_cost, drain_end, ends_at, new_drain_cost}
use Rattle.rv_hardware.specs.Hardware.{Hardware}
use Rattle.rv_hardware.specs.Report.{Report}
use Rattle.rv_hardware.specs.Retirement.{committed_store}
use Rattle.rv_hardware.specs.Run.{Reachable}
use Rattle.rv_hardware.proofs.Turns.KeptByBroadcast.{IsKeptByBroadcast, broadcast-keeps}
use Rattle.rv_hardware.proofs.Turns.KeptByCommit.{IsKeptByCommit, commit-keeps}
use Rattle.rv_hardware.proofs.Turns.Costs.{access_cost-least}
use Rattle.rv_hardware.proofs.Turns.KeptByDispatch.{IsKeptByDispatch, dispatch-keeps}
use Rattle.rv_hardware.proofs.Turns.KeptByIssue.{IsKeptByIssue, issue-keeps, ready-parts}
use Rattle.rv_hardware.proofs.Tests.{by_test}
use Rattle.rv_hardware.proofs.Always.Queue.{CanDrain, HasQueue, IsQueue, queue-kept}
use Rattle.rv_hardware.proofs.Always.Sound.{sound}
use Rattle.rv_hardware.proofs.Laws.Port.Loads.{has_its_port}

-- the end of the access under way, by whether the oldest store drains
abbrev end_by : Bool → ℕ → Option ℕ
end_by drains free = if drains then Some free else None

-- ---- up to the commit phase the access under way stays
record Stands (number : ℕ) (under : Option ℕ) (h : Hardware) : Type 0 where
  pub cycle : h.cycle ≡ number
  pub queue : HasQueue h
  pub costs : 1 ≤ h.cache.values.hit
  pub ends : drain_end h ≡ under

oldest_stays : (ss : List Store) (seq : ℕ) (access : Option StoreAccess) →
    is_oldest_draining (ss ++ committed_store seq access) ≡ is_oldest_draining ss
oldest_stays ss seq access = grind arith

none_drains : (h : Hardware) (stores : List Store) → h.committed ≡ stores →
    is_drained (record h { committed = stores }) ≡ true → is_oldest_draining h.committed ≡ false
none_drains h [] is drained = ap is_oldest_draining is
none_drains h (s ∷ ss) is drained = absurd (cc)

stands-kept : (number : ℕ) (under : Option ℕ) → IsKeptByCommit (Stands number under)
stands-kept number under = record {
  empties = λ h s retired stands. record {
    cycle = stands.cycle;
    queue = stands.queue;
    costs = stands.costs;
    ends = stands.ends;
  };
  retires = λ h e es s message stands split known faultless. record {
    cycle = stands.cycle;
    queue = queue-kept.phases.commit.retires h e es s message stands.queue split known faultless;
    costs = stands.costs;
    ends = ap (λ drains. end_by drains h.port_free) (oldest_stays h.committed h.rob.retired message.store)
        ∙ stands.ends;
  };
  writes_back = λ h stands drained. let rests = none_drains h h.committed refl drained in
      record {
        cycle = stands.cycle;
        queue = stands.queue;
        costs = stands.costs;
        ends = ap (λ drains. end_by drains (with_write_back h).port_free) rests
            ∙ sym (ap (λ drains. end_by drains h.port_free) rests) ∙ stands.ends;
      };
}

-- ---- the drain phase

tail_rests : (ss : List Store) → Each CanDrain ss → is_oldest_draining ss ≡ false
tail_rests [] each = refl
tail_rests (s ∷ ss) each = each.0.1

-- once its access is over, no store drains
rests : (ss : List Store) → IsQueue ss → is_oldest_draining (without_drained ss) ≡ false
rests [] queue = refl
rests (s ∷ ss) queue = by_test (λ l. is_oldest_draining l ≡ false) (is_draining s) ss (s ∷ ss)
    (λ over. tail_rests ss queue.1) (λ waits. waits)

now_draining : (state : StoreState) (access : StoreAccess) → state_to_drain state ≡ Some access →
    is_draining_state (draining state) ≡ true
now_draining state access is = grind arith

now_drains : (ss : List Store) (access : StoreAccess) → oldest_to_drain ss ≡ Some access →
    is_oldest_draining (with_oldest_draining ss) ≡ true
now_drains [] access is = absurd (cc)
now_drains (s ∷ ss) access is = now_draining s.state access is

-- one end is no other's
same_end : (number : ℕ) (under : Option ℕ) → new_drain_cost number under under ≡ None
same_end number None = refl
same_end number (Some end) = rw (eq-eqb end end refl) refl

-- what begins, by what it costs, and a drain under way ends in a later cycle
record Begins (number : ℕ) (under cost : Option ℕ) (h : Hardware) : Type 0 where
  pub cycle : h.cycle ≡ number
  pub later : is_oldest_draining h.committed ≡ true → number < h.port_free
  pub costs : new_drain_cost number under (drain_end h) ≡ cost

module _ (number : ℕ) (under : Option ℕ) (h : Hardware) (stands : Stands number under h) where
  other_end : (end : ℕ) (drains : Bool) → h.port_free < end → ends_at end (end_by drains h.port_free) ≡ false
  other_end end true after = ne_eqb h.port_free end (λ is. omega (arith, is, after))
  other_end end false after = refl

  new_end : (cost : ℕ) → h.port_free ≤ h.cycle → 1 ≤ cost → new_drain_cost number under (Some (h.cycle + cost)) ≡ Some cost
  new_end cost idle some = grind (arith, other_end)

  starts : (found : Option StoreAccess) → oldest_to_drain (without_drained h.committed) ≡ found → h.port_free ≤ h.cycle
      → Begins number under (option_map (λ (access : StoreAccess). access_cost h.cache access.address) found)
      (start_drain found (end_drain h))
  starts found is idle = grind (arith, rests, new_drain_cost, access_cost-least, now_drains, new_end)

  drains_by_port : (idle : Bool) → nat_le h.port_free h.cycle ≡ idle → Begins number under (drain_cost h) (drain h)
  drains_by_port true is =
      rw is (starts (oldest_to_drain (without_drained h.committed)) refl (leb-true h.port_free h.cycle is))
  drains_by_port false is =
      let busy = leb-false h.port_free h.cycle is in
      rw is
      (record {
        cycle = stands.cycle;
        later = λ _. omega (arith, busy, stands.cycle);
        costs = ap (new_drain_cost number under) stands.ends ∙ same_end number under;
      })

-- ---- after it the access under way stays
record Stays (number : ℕ) (under : Option ℕ) (h : Hardware) : Type 0 where
  pub cycle : h.cycle ≡ number
  pub later : is_oldest_draining h.committed ≡ true → number < h.port_free
  pub ends : drain_end h ≡ under

module _ (number : ℕ) (under : Option ℕ) where
  idle_rests : (h : Hardware) → Stays number under h → h.port_free ≤ h.cycle → (drains : Bool) →
      is_oldest_draining h.committed ≡ drains → is_oldest_draining h.committed ≡ false
  idle_rests h stays idle true is = absurd (omega (arith, stays.later is, stays.cycle, idle))
  idle_rests h stays idle false is = is

  stays_at_issue : (k : Kind) → IsKeptByIssue (Stays number under) k
  stays_at_issue k = grind (arith, ready-parts, has_its_port, idle_rests, starts)

  stays_at_broadcast : IsKeptByBroadcast (Stays number under)
  stays_at_broadcast = grind arith

  stays_at_dispatch : IsKeptByDispatch (Stays number under)
  stays_at_dispatch = grind arith

-- ---- the whole cycle
pub begun_in_cycle : {lines : Lines} {old new : Hardware} {report : Report} → Reachable old →
    IsCycle any_prediction lines old report new
    → new_drain_cost old.cycle (drain_end old) (drain_end new) ≡ drain_cost (commit_with set.contains lines old).hardware
begun_in_cycle {lines} {old} {new} reached cycle =
    let whole = sound reached in
    let before : Stands old.cycle (drain_end old) (with_lines lines old) = record {
      cycle = refl;
      queue = whole.queue;
      costs = omega (arith, whole.sizes.legal.cache.1.hit, ap (λ c. c.hit) whole.sizes.cache);
      ends = refl;
    } in
    let h = (commit_with set.contains lines old).hardware in
    let stands = commit-keeps (stands-kept old.cycle (drain_end old)) set.contains (with_lines lines old) before in
    let begins = drains_by_port old.cycle (drain_end old) h stands (nat_le h.port_free h.cycle) refl in
    let under = drain_end (drain h) in
    let first : Stays old.cycle under (drain h) = record { cycle = begins.cycle; later = begins.later; ends = refl } in
    let stays = dispatch-keeps (stays_at_dispatch old.cycle under) _
    (broadcast-keeps (stays_at_broadcast old.cycle under) _
    (issue-keeps (Stays old.cycle under) (stays_at_issue old.cycle under) _ first)) in
    let later : drain_end new ≡ under =
    ap drain_end cycle.others_stay ∙ ap (λ d. drain_end d.hardware) cycle.executes
    ∙ ap (λ c. drain_end (execute c.hardware).hardware) cycle.commits ∙ stays.ends in
    ap (new_drain_cost old.cycle (drain_end old)) later ∙ begins.costs
