-- Parts of which everything in flight was squashed are sound, and stand for the flushed hardware.
use Rattle.rv_core.proofs.Words.{◌≡◌, ℕ, List, filter, ◌∙◌, for_each, is_committed, ReorderBuffer, Hardware, flushed}
use Rattle.rv_core.proofs.Words.{squashed_pool, squashed_bus, cleared, IsSound, hardware_of, IsSoundHardware, AreTied}
use Rattle.rv_core.proofs.Words.{Inside}
use Rattle.rv_core.proofs.Ties.Closed.{closed-is, closed-sound}
use Rattle.rv_core.proofs.Retired.Flushed.{sound_when_flushed, tied_when_flushed}

-- what stands beside the hardware, once everything in flight is squashed
pub record AreSquashed (before after : Inside) : Type 0 where
  pub rename : after.rename ≡ cleared before.rename
  pub stations : after.stations ≡ for_each (squashed_pool 0) before.stations
  pub bus : after.bus ≡ squashed_bus 0 before.bus
  pub stores : after.stores ≡ record before.stores { stores = filter is_committed before.stores.stores }

-- the pc, the registers and the reorder buffer may have changed before the squash
module _ (before after : Inside) (is : IsSound before) (pc : ℕ) (registers : List ℕ) (rob : ReorderBuffer)
    (squashed : AreSquashed before after) where
  -- the hardware before the squash, with what may have changed
  abbrev pub next : Hardware
  next = record (hardware_of before) { pc = pc; registers = registers; rob = rob }

  module _ (sound : IsSoundHardware next)
      (same : record (hardware_of after) { committed = (hardware_of before).committed } ≡ flushed next) where
    squashed-tied : AreTied (flushed next) after.rename after.stations after.bus after.stores
    squashed-tied =
        let tied = tied_when_flushed
        (hardware_of before) pc registers rob before.rename before.stations before.bus before.stores is.tied
        is.sound.stores.each in
        record {
          renamed = squashed.rename ∙ tied.renamed;
          stationed = squashed.stations ∙ tied.stationed;
          pending = squashed.bus ∙ tied.pending;
          queued = squashed.stores ∙ tied.queued;
        }

    -- the parts stand for the flushed hardware
    pub squashed-is : hardware_of after ≡ flushed next
    squashed-is = closed-is after (flushed next) same squashed-tied (sound_when_flushed next sound)

    -- and are sound, if their stale words are of the same RAM
    pub squashed-sound : after.stale.base ≡ after.values.ram_base → after.stale.size ≡ after.values.ram_size →
        IsSound after
    squashed-sound base size =
        closed-sound after (flushed next) same squashed-tied (sound_when_flushed next sound) base size
