-- What every reachable hardware is: each part of it is of its description and within its bounds.
use Rattle.rv_hardware.proofs.Words.{ℕ, List, sym, subst, IsLegal, Lines, Values, IsCycle, any_prediction, Hardware}
use Rattle.rv_hardware.proofs.Words.{Report, reset_hardware, Reachable, always}
use Rattle.rv_hardware.proofs.Turns.KeptByCycle.{IsKept, kept-together, both-kept, cycle-keeps}
use Rattle.rv_hardware.proofs.Always.Halted.{IsHalted, halted-kept}
use Rattle.rv_hardware.proofs.Always.Port.{HasPort, port-kept, port-at_reset}
use Rattle.rv_hardware.proofs.Always.Queue.{HasQueue, queue-kept}
use Rattle.rv_hardware.proofs.Always.Executions.{AreEnding, ending-kept}
use Rattle.rv_hardware.proofs.Always.Serial.{IsSerialLast, last-kept}
use Rattle.rv_hardware.proofs.Always.Sizes.{HasShape, shape-kept, shape-at_reset}
use Rattle.rv_hardware.proofs.Always.Stores.{HasStores, stores-kept, stores-at_reset}
use Rattle.rv_hardware.proofs.Always.Units.{AreHeld, held-kept, held-at_reset}

-- what hardware of a description is
pub record IsSoundFor (v : Values) (h : Hardware) : Type 0 where
  pub sizes : HasShape v h
  pub queue : HasQueue h
  pub stores : HasStores h
  pub ending : AreEnding h
  pub held : AreHeld h
  pub port : HasPort h
  pub last : IsSerialLast h
  pub halted : IsHalted h

-- every cycle keeps it
pub always-kept : (v : Values) → IsKept (IsSoundFor v)
always-kept v =
    kept-together
    (λ h sizes rest. record {
      sizes = sizes;
      queue = rest.0;
      stores = rest.1.0;
      ending = rest.1.1.0;
      held = rest.1.1.1.0;
      port = rest.1.1.1.1.0;
      last = rest.1.1.1.1.1.0;
      halted = rest.1.1.1.1.1.1;
    }) (λ h all. all.sizes)
    (λ h all. (all.queue, (all.stores, (all.ending, (all.held, (all.port, (all.last, all.halted))))))) (shape-kept v)
    (both-kept queue-kept
    (both-kept stores-kept
    (both-kept ending-kept (both-kept held-kept (both-kept port-kept (both-kept last-kept halted-kept))))))

-- it holds at reset, where nothing is in flight and no store waits
pub always-at_reset : {v : Values} (image : List ℕ) (start : ℕ) → IsLegal v →
    IsSoundFor v (reset_hardware v image start)
always-at_reset {v} image start legal = record {
  sizes = shape-at_reset image start legal;
  queue = tt;
  stores = stores-at_reset v image start;
  ending = tt;
  held = held-at_reset v image start;
  port = port-at_reset v image start;
  last = tt;
  halted = ((tt, tt), tt);
}

-- what hardware is, of its own description
abbrev pub IsBounded : Hardware → Type 0
IsBounded h = IsSoundFor h.values h

-- a cycle leaves it so
pub sound-cycle : {lines : Lines} {old new : Hardware} {report : Report} → IsCycle any_prediction lines old report new →
    IsBounded old → IsBounded new
sound-cycle {new = new} cycle sound =
    let after = cycle-keeps (always-kept _) cycle sound in
    subst (λ v. IsSoundFor v new) (sym after.sizes.values) after

-- it holds of all reachable hardware
pub sound : {h : Hardware} → Reachable h → IsBounded h
sound reached =
    always (λ values base image start legal loadable. always-at_reset image start legal)
    (λ old new lines report reachable before counted cycle. sound-cycle cycle before) reached
