-- At reset memory holds the image, and zeros after it, and the parts with nothing in flight are sound.
use Rattle.std.proofs.lemmas.List.{length-replicate}
use Rattle.rv_core.proofs.Words.{◌≡◌, ℕ, ◌+◌, ◌-◌, ◌≤◌, sym, refl, ◌∙◌, subst, Bool, true, false, if◌then◌else◌, []}
use Rattle.rv_core.proofs.Words.{List, ◌++◌, IsLegal, Values, Hardware, reset_hardware, mends_early, for_each, empty}
use Rattle.rv_core.proofs.Words.{empty_pool, empty_bus, Renaming, bus_of, hardware_of, queue_of, renaming_of}
use Rattle.rv_core.proofs.Words.{stations_of, IsSound, IsSoundHardware, Inside, length-append, length, drop, replicate}
use Rattle.rv_core.proofs.Words.{ap, arith, drop-replicate}

-- an image that is written over zeros has zeros after it
pub image_over_zeros : (size : ℕ) (image : List ℕ) →
    image ++ drop (0 + length image) (replicate size 0) ≡ image ++ replicate (size - length image) 0
image_over_zeros size image = grind (arith, drop-replicate)

-- ---- the parts at reset

-- the hardware at reset is sound
sound-at_reset : (values : Values) (image : List ℕ) (start : ℕ) → IsLegal values → length image ≤ values.ram_size →
    IsSoundHardware (reset_hardware values image start)
sound-at_reset values image start legal fits = grind (arith, length-append, length-replicate)

no_checkpoint : (early : Bool) →
    empty 0 ≡ record { capacity = 0; producers = []; checkpoints = if early then [] else [] }
no_checkpoint true = refl
no_checkpoint false = refl

-- parts that stand for the hardware at reset, with nothing in flight, are sound
pub reset-sound : (p : Inside) (values : Values) (image : List ℕ) (start : ℕ) → IsLegal values →
    length image ≤ values.ram_size →
    hardware_of p ≡ reset_hardware values image start → p.rename ≡ empty values.rob →
    p.stations ≡ for_each empty_pool values.kinds → p.bus ≡ empty_bus values →
    p.stores ≡ record { stores = []; capacity = values.store_queue } → p.stale.base ≡ values.ram_base →
    p.stale.size ≡ values.ram_size → IsSound p
reset-sound p values image start legal fits is rename stations bus stores base size = record {
  sound = subst IsSoundHardware (sym is) (sound-at_reset values image start legal fits);
  tied = record {
    renamed =
        rename ∙ ap (λ (r : Renaming). record r { capacity = values.rob }) (no_checkpoint (mends_early values.recovery))
        ∙ sym (ap (λ (h : Hardware). renaming_of h.values h.rob) is);
    stationed = stations ∙ sym (ap (λ (h : Hardware). stations_of h.values h.registers h.rob) is);
    pending = bus ∙ sym (ap (λ (h : Hardware). bus_of h.values h.rob) is);
    queued = stores ∙ sym (ap queue_of is);
  };
  stale_base = base ∙ sym (ap (λ (h : Hardware). h.values.ram_base) is);
  stale_size = size ∙ sym (ap (λ (h : Hardware). h.values.ram_size) is);
}
