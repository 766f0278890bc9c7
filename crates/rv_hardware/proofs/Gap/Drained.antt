-- A cycle brings the port nearer to idle, and after the drain phase it is busy or no retired store waits for it.
use Rattle.rv_hardware.proofs.Words.{◌≡◌, ℕ, ◌+◌, ◌-◌, ◌*◌, ◌<◌, ◌≤◌, true, false, cond, ◌⊎◌, List, [], ◌∷◌, length}
use Rattle.rv_hardware.proofs.Words.{None, Option, refl, inr, arith, leb-false, leb-true, StoreAccess, oldest_to_drain}
use Rattle.rv_hardware.proofs.Words.{without_drained, access_to_drain, draining, is_committed_state, is_draining}
use Rattle.rv_hardware.proofs.Words.{is_draining_state, state_to_drain, Store, StoreState, Filled, drain, start_drain}
use Rattle.rv_hardware.proofs.Words.{Hardware, by_test}
use Rattle.rv_hardware.proofs.Marks.Cited.{access_cost-least, access_cost-most, longest_access, CanDrain, HasQueue}
use Rattle.rv_hardware.proofs.Marks.Cited.{IsQueue, queue_of_all}
use Rattle.rv_hardware.proofs.Gap.Patience.{port_time, time_of_stores}
use Rattle.rv_hardware.proofs.Gap.Bound.{time_of_stores-most}

-- the same time a cycle later
abbrev pub next_port_time : Hardware → ℕ
next_port_time h = (h.port_free - (h.cycle + 1)) + time_of_stores (longest_access h) h.committed

-- the port is nearer to idle, and it is busy or no retired store waits for it
pub record Drains (h after : Hardware) : Type 0 where
  pub fall : next_port_time after ≤ port_time h - 1
  pub port : ((h.cycle < after.port_free) × (1 ≤ port_time h)) ⊎ ((after.committed ≡ []) × (after.port_free ≤ h.cycle))

begun : (state : StoreState) → is_committed_state state ≡ true → is_draining_state (draining state) ≡ true
begun (Filled access phase) is = refl
begun state is = absurd (cc)

never : (state : StoreState) → is_committed_state state ≡ true → is_draining_state state ≡ false →
    state_to_drain state ≡ None → ⊥
never state is given holds = grind arith

module _ (h : Hardware) (idle : h.port_free ≤ h.cycle) (costs : 1 ≤ h.cache.values.hit) where
  -- the oldest of some stores begins its access
  begins : (s : Store) (ss : List Store) {access : Option StoreAccess} → CanDrain s → access_to_drain s ≡ access →
      1 + longest_access h + length ss * longest_access h ≤ port_time h →
      Drains h (start_drain access (record h { committed = s ∷ ss }))
  begins s ss can is time = grind (arith, never, access_cost-least, access_cost-most)

  goes_on : (ss : List Store) → IsQueue ss → ((s : Store) (rest : List Store) → ss ≡ s ∷ rest → is_draining s ≡ false) →
      time_of_stores (longest_access h) ss ≤ port_time h →
      Drains h (start_drain (oldest_to_drain ss) (record h { committed = ss }))
  goes_on [] queue waits time = record { fall = omega arith; port = inr (refl, idle) }
  goes_on (s ∷ ss) queue waits time =
      let is : is_draining s ≡ false = waits s ss refl in
      let whole : cond (is_draining s) 0 (longest_access h) ≡ longest_access h = rw is refl in
      begins s ss (queue.0, is) refl (omega (arith, whole, time))

  leaves : (committed : List Store) → h.committed ≡ committed → IsQueue committed →
      Drains h (start_drain (oldest_to_drain (without_drained committed))
      (record h { committed = without_drained committed }))
  leaves [] is queue = record { fall = omega arith; port = inr (refl, idle) }
  leaves (s ∷ ss) is queue = grind (arith, by_test, goes_on, queue_of_all, time_of_stores-most)

-- the drain phase brings the port nearer to idle, and leaves it busy or with no store that waits
pub drains : (h : Hardware) → HasQueue h → 1 ≤ h.cache.values.hit → Drains h (drain h)
drains h queue costs = grind (arith, by_test, leaves, leb-true, leb-false)
