-- A walk through the cycles of a history, with one cycle more.
use Rattle.std.proofs.Common.{◌≡◌, ◌∙◌, List, [], ◌∷◌, ◌++◌, refl, sym, ap, append_assoc, append-nil, arith}
use Rattle.std.proofs.lemmas.List.Sums.{fold_push}
use Rattle.rv_isa.specs.declared.lines.Arrival.{Arrival}
use Rattle.rv_hardware.specs.Guided.{GuidedHardware}
use Rattle.rv_hardware.specs.History.{History, Moment, reports_of, cycled, ended}
use Rattle.rv_passage.specs.Table.{Passages}
use Rattle.rv_passage.specs.Walk.{FollowedCycle, Standing, next_cycle, passages_after}
use Rattle.rv_passage.specs.Walk.{standing_after, standing_at, standing_after_all, walk, walk_from}

module _ (keep : Passages → Passages) where
  standing_after_all-push : (standing : Standing) (moments : List Moment) (last : Moment) →
      standing_after_all keep standing (moments ++ last ∷ [])
      ≡ standing_after keep (next_cycle (standing_after_all keep standing moments) last)
  standing_after_all-push standing moments last =
      fold_push (λ before moment. standing_after keep (next_cycle before moment)) standing moments last

  walk_from-push : (standing : Standing) (moments : List Moment) (last : Moment) →
      walk_from keep standing (moments ++ last ∷ [])
      ≡ walk_from keep standing moments ++ next_cycle (standing_after_all keep standing moments) last ∷ []
  walk_from-push standing [] last = refl
  walk_from-push standing (moment ∷ moments) last =
      ap (λ cycles. next_cycle standing moment ∷ cycles)
      (walk_from-push (standing_after keep (next_cycle standing moment)) moments last)

  number_after : {arrivals : List Arrival} {old now : GuidedHardware} {moments : List Moment} →
      History arrivals old moments now →
      (standing : Standing) → standing.number ≡ old.hardware.cycle →
      (standing_after_all keep standing moments).number ≡ now.hardware.cycle
  number_after ended standing is = is
  number_after (cycled {moment = moment} first rest) standing is =
      number_after rest (standing_after keep (next_cycle standing moment)) refl

  reports_after : (standing : Standing) (moments : List Moment) →
      (standing_after_all keep standing moments).reports ≡ standing.reports ++ reports_of moments
  reports_after standing [] = sym (append-nil standing.reports)
  reports_after standing (moment ∷ moments) =
      reports_after (standing_after keep (next_cycle standing moment)) moments
      ∙ append_assoc standing.reports (moment.report ∷ []) (reports_of moments)

  module _ {arrivals : List Arrival} {first now : GuidedHardware} {moments : List Moment}
      (passes : History arrivals first moments now) where
    -- where a run stands after the cycles of a history
    abbrev stands : Standing
    stands = record {
      number = now.hardware.cycle;
      reports = reports_of moments;
      kept = passages_after keep first.hardware moments;
    }

    stands_there : standing_after_all keep (standing_at first.hardware) moments ≡ stands
    stands_there = grind (arith, number_after, reports_after)

    module _ (last : Moment) where
      -- one more cycle
      abbrev pub last_cycle : FollowedCycle
      last_cycle = next_cycle stands last

      -- a walk with one more moment has the last cycle after the others
      pub walk-push : walk keep first.hardware (moments ++ last ∷ [])
          ≡ walk keep first.hardware moments ++ last_cycle ∷ []
      walk-push = grind (arith, walk_from-push, stands_there)

      -- what is kept after one more cycle is what is kept of its passages
      pub passages_after-push : passages_after keep first.hardware (moments ++ last ∷ []) ≡ keep last_cycle.passages
      passages_after-push = grind (arith, standing_after_all-push, stands_there)
