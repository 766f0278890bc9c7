-- The drains of a run, as its cycles come.
use Rattle.std.proofs.Common.{◌≡◌, ◌∙◌, ℕ, ◌≤◌, List, [], ◌∷◌, ◌++◌, length, Option, Some, None, ap, sym, arith}
use Rattle.std.proofs.Common.{append-nil, append_assoc, length-append}
use Rattle.std.specs.Option.{option_to_list}
use Rattle.std.proofs.lemmas.List.Sums.{sum_by-append}
use Rattle.rv_isa.specs.declared.lines.Arrival.{Arrival}
use Rattle.rv_hardware.specs.Guided.{GuidedHardware}
use Rattle.rv_hardware.specs.Hardware.{Hardware}
use Rattle.rv_sentences.specs.Access.{both}
use Rattle.rv_sentences.specs.Drain.{drain_in, drains_by, drains_of}
use Rattle.rv_hardware.specs.History.{History, Moment, ended, cycled}

-- the drains of one cycle more
pub drains_of-push : {arrivals : List Arrival} {old now : GuidedHardware} {moments : List Moment} (moment : Moment) →
    History arrivals old moments now
    → drains_of arrivals old.hardware (moments ++ moment ∷ [])
    ≡ drains_of arrivals old.hardware moments ++ option_to_list (drain_in arrivals now.hardware)
drains_of-push moment ended = append-nil _
drains_of-push {arrivals = arrivals} {old = old} moment (cycled {moment = first} cycle rest) =
    ap (λ drains. option_to_list (drain_in arrivals old.hardware) ++ drains) (drains_of-push moment rest) ∙
    sym (append_assoc (option_to_list (drain_in arrivals old.hardware)) _ _)

-- some drains and others
pub drains_by-append : (hit : ℕ) (some more : List ℕ) → drains_by hit (some ++ more)
    ≡ both (drains_by hit some) (drains_by hit more)
drains_by-append hit some more = grind (arith, length-append, sum_by-append)

length-option : (drain : Option ℕ) → length (option_to_list drain) ≤ 1
length-option None = omega arith
length-option (Some cost) = omega arith

-- a cycle begins one at most
pub drains_of-le : (arrivals : List Arrival) (h : Hardware) (moments : List Moment) →
    length (drains_of arrivals h moments) ≤ length moments
drains_of-le arrivals h [] = omega arith
drains_of-le arrivals h (moment ∷ moments) =
    omega (
      arith,
      length-append (option_to_list (drain_in arrivals h))
          (drains_of arrivals moment.after moments),
      length-option
          (drain_in arrivals h),
      drains_of-le arrivals moment.after moments,
    )
