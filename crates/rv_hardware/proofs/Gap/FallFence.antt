-- Where FENCE.I is the oldest, a cycle brings the port, the retired stores and the dirty lines nearer to their end.
use Rattle.rv_hardware.proofs.Words.{◌≡◌, ℕ, ◌+◌, ◌*◌, ◌≤◌, true, false, List, [], ◌∷◌, ◌++◌, nat_le, ◌==◌, Some}
use Rattle.rv_hardware.proofs.Turns.Commit.{drained_none}
use Rattle.rv_hardware.proofs.Words.{Option, sym, refl, ap, ◌∙◌, subst, arith, leb-false, eqb-false, false≢true, lt-leb}
use Rattle.rv_hardware.proofs.Words.{is_of_kind, kind_of_word, Instr, FenceI, Kind, Each, Store, Entry, FetchBuffer}
use Rattle.rv_hardware.proofs.Words.{broadcast, is_drained, with_write_back, write_back_time, execute, drain, Hardware}
use Rattle.rv_hardware.proofs.Words.{issue, by_test, Each-right}
use Rattle.rv_hardware.proofs.Gap.Bound.{dirty_time-most}
use Rattle.rv_hardware.proofs.Marks.Cited.{IsKeptByBroadcast, broadcast-keeps, IsKeptByDispatch, dispatch-keeps}
use Rattle.rv_hardware.proofs.Marks.Cited.{drain-keeps, SameButPort, drain-same, longest_access, longest_execution}
use Rattle.rv_hardware.proofs.Marks.Cited.{longest_write_back, IsKeptByIssue, issue-keeps, ready-parts, AreEnding}
use Rattle.rv_hardware.proofs.Marks.Cited.{HasRoom, clean-after, room-kept}
use Rattle.rv_hardware.proofs.Gap.Drained.{Drains, next_port_time}
use Rattle.rv_hardware.proofs.Gap.Execute.{head-patience, later, anywhere_closed, head-executed}
use Rattle.rv_hardware.proofs.Gap.Head.{HeadIs, IsAnywhere}
use Rattle.rv_hardware.proofs.Gap.Patience.{dirty_time, patience, port_time, time_of_stores}

abbrev fence : Option Instr
fence = Some FenceI

abbrev IsFence : Entry → Type 0
IsFence e = e.instruction ≡ fence

never_issued : (k : Kind) (older younger : List Entry) (e : Entry) (entries : List Entry) → Each IsFence entries →
    entries ≡ older ++ e ∷ younger → is_of_kind k (kind_of_word e.instruction) ≡ true → ⊥
never_issued k older younger e entries each split of_kind = grind (arith, Each-right, false≢true)

-- ---- the phases after drain
module _ (h : Hardware) (front : FetchBuffer) (e : Entry) (split : h.rob.entries ≡ e ∷ []) (is : IsFence e) where
  abbrev issued : Hardware
  issued = issue (drain h)

  abbrev new : Hardware
  new = later front (execute h).hardware

  abbrev Lasts : ℕ → ℕ → Hardware → Type 0
  Lasts port dirty g = (next_port_time g ≡ port) × (dirty_time g g.committed ≡ dirty)

  abbrev Alone : ℕ → ℕ → Hardware → Type 0
  Alone port dirty g = Each IsFence g.rob.entries × HeadIs fence IsAnywhere g.rob.entries × Lasts port dirty g

  alone_issue : (port dirty : ℕ) (k : Kind) → IsKeptByIssue (Alone port dirty) k
  alone_issue port dirty k = grind (arith, never_issued, ready-parts)

  lasts_broadcast : (port dirty : ℕ) → IsKeptByBroadcast (Lasts port dirty)
  lasts_broadcast port dirty = grind arith

  lasts_dispatch : (port dirty : ℕ) → IsKeptByDispatch (Lasts port dirty)
  lasts_dispatch port dirty = record { dispatches = λ g fetched rest lasts first none. lasts }

  pub fence_patience : AreEnding new →
      patience new ≤ next_port_time (drain h) + dirty_time (drain h) (drain h).committed + 1
  fence_patience ending =
      let port : ℕ = next_port_time (drain h) in
      let dirty : ℕ = dirty_time (drain h) (drain h).committed in
      let same : (drain h).rob.entries ≡ e ∷ [] = ap (λ r. r.entries) (drain-same h).rob ∙ split in
      let before : Alone port dirty (drain h) =
      (subst (Each IsFence) (sym same) (is, tt), subst (HeadIs fence IsAnywhere) (sym same) (is, tt), (refl, refl)) in
      let after : Alone port dirty issued = issue-keeps (Alone port dirty) (alone_issue port dirty) (drain h) before in
      let lasts : Lasts port dirty (execute h).hardware =
      dispatch-keeps (lasts_dispatch port dirty) (broadcast issued)
      (broadcast-keeps (lasts_broadcast port dirty) issued after.2) in
      let there : HeadIs fence IsAnywhere new.rob.entries = head-executed fence h (anywhere_closed) after.1 in
      head-patience new fence IsAnywhere (port + dirty + 1) (new.cycle + longest_execution new)
      (λ stage is ends. omega (arith, lasts.0, lasts.1)) there ending

-- ---- stores or the port are waited for
same_lines : (h g : Hardware) → SameButPort h g → longest_write_back g ≡ longest_write_back h
same_lines h g same = grind arith

not_drained_empty : (h : Hardware) → h.committed ≡ [] → is_drained h ≡ false → nat_le h.port_free h.cycle ≡ false
not_drained_empty h given holds = grind arith

busy_same : (h : Hardware) → nat_le h.port_free h.cycle ≡ false → drain h ≡ h
busy_same h busy = grind (arith, by_test)

fence_waits : (h : Hardware) (stores : List Store) → h.committed ≡ stores → Drains h (drain h) → HasRoom h →
    is_drained h ≡ false →
    next_port_time (drain h) + dirty_time (drain h) (drain h).committed + 1 ≤ port_time h + dirty_time h h.committed
fence_waits h [] none drains room waits = grind (arith, not_drained_empty, leb-false, busy_same)
fence_waits h (s ∷ ss) stores drains room waits =
    grind (arith, drain-keeps, room-kept, dirty_time-most, same_lines, drain-same)

-- where FENCE.I waits for the retired stores and the port, a cycle lowers the patience
pub fall_fence_waits : (h : Hardware) (front : FetchBuffer) (e : Entry) → h.rob.entries ≡ e ∷ [] →
    e.instruction ≡ Some FenceI → Drains h (drain h) → HasRoom h → is_drained h ≡ false →
    AreEnding (later front (execute h).hardware) →
    patience (later front (execute h).hardware) + 1 ≤ port_time h + dirty_time h h.committed + 1
fall_fence_waits h front e split is drains room waits ending =
    omega (arith, fence_patience h front e split is ending, fence_waits h h.committed refl drains room waits)

-- ---- its write-back begins
-- a cycle in which FENCE.I's write-back begins lowers the patience
pub fall_write_back : (h : Hardware) (front : FetchBuffer) (e : Entry) → h.rob.entries ≡ e ∷ [] →
    e.instruction ≡ Some FenceI → is_drained h ≡ true → (write_back_time h == 0) ≡ false →
    AreEnding (later front (execute (with_write_back h)).hardware) →
    patience (later front (execute (with_write_back h)).hardware) + 1 ≤ port_time h + dirty_time h h.committed + 1
fall_write_back h front e split is drained dirty ending =
    let g : Hardware = with_write_back h in
    let none : h.committed ≡ [] = drained_none h drained in
    let some : 1 ≤ write_back_time h = omega (arith, eqb-false (write_back_time h) 0 dirty) in
    let still : drain g ≡ g = busy_same g (lt-leb (h.cycle + write_back_time h) h.cycle (omega (arith, some))) in
    let stores : time_of_stores (longest_access g) g.committed ≡ 0 = ap (time_of_stores (longest_access g)) none in
    let port : next_port_time (drain g) ≡ next_port_time g = ap next_port_time still in
    let lines : dirty_time (drain g) (drain g).committed ≡ dirty_time g [] =
    ap (λ x. dirty_time x x.committed) still ∙ ap (dirty_time g) none in
    let clean : dirty_time g [] ≡ 0 * h.values.cache.write_back =
    ap (λ n. n * h.values.cache.write_back) (clean-after h.cache.sets) in
    let before : dirty_time h h.committed ≡ write_back_time h = ap (dirty_time h) none in
    omega (arith, fence_patience g front e split is ending, port, lines, clean, stores, before, some)
