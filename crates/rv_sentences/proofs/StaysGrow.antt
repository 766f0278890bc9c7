-- Why instructions stay in flight, as more cycles come.
use Rattle.std.proofs.Common.{◌≡◌, ◌∙◌, ℕ, suc, ◌+◌, ◌≤◌, ◌&&◌, Bool, true, false, List, [], ◌∷◌, ◌++◌, length}
use Rattle.std.proofs.Common.{count_by, cond, map, not, Option, Some, None, is_some, refl, ap, sym, arith, append-nil}
use Rattle.std.specs.List.{flat_map}
use Rattle.std.proofs.lemmas.List.{length-map, map-append}
use Rattle.std.proofs.lemmas.List.Concat.{flat_map-append, flat_map-cons}
use Rattle.std.proofs.lemmas.List.Sums.{sum_by-append, sum_by-cons}
use Rattle.rv_isa.specs.declared.lines.Arrival.{Arrival}
use Rattle.rv_isa.specs.PerKind.{at_kind}
use Rattle.rv_isa.specs.declared.operations.Kind.TheVariants.{Mem}
use Rattle.rv_isa.specs.declared.values.Values.{Values}
use Rattle.rv_units.specs.Pool.{is_free}
use Rattle.rv_hardware.specs.Guided.{GuidedHardware}
use Rattle.rv_hardware.specs.History.{History, Moment}
use Rattle.rv_hardware.specs.Hardware.{Hardware}
use Rattle.rv_passage.specs.Table.{still_open}
use Rattle.rv_passage.specs.Walk.{FollowedCycle, standing_at, walk}
use Rattle.rv_passage.specs.declared.passage.Passage.{Passage}
use Rattle.rv_passage.proofs.Walk.{last_cycle, walk-push}
use Rattle.rv_sentences.specs.Stay.{StaysAddUp, all_stays, awaited_in, awaited_of, dispatched_stay, lacks_address}
use Rattle.rv_sentences.specs.Stay.{no_stays, is_staying, oldest_awaited, stay_in, stays_among, stays_in, stays_of}
use Rattle.rv_sentences.specs.Stay.{staying_in, with_reason, with_stay, with_stays}
use Rattle.rv_sentences.specs.Head.{itself}
use Rattle.rv_sentences.specs.WordCount.{count_at, with_one}
use Rattle.rv_sentences.specs.WordNotes.{notes_of}
use Rattle.rv_sentences.specs.declared.{stay.Stay.Stay, stays.Stays.Stays}
use Rattle.rv_sentences.proofs.AccountsGrow.{length-walk_from}
use Rattle.rv_sentences.proofs.CountsGrow.{with_last_at}

-- ---- one reason is counted once
more_reasons : (s : Stay) (t : Stays) → all_stays (with_reason s t) ≡ all_stays t + 1
more_reasons s t = grind arith

counted_once : (o : Option Stay) (t : Stays) → all_stays (with_stay o t) ≡ all_stays t + cond (is_some o) 1 0
counted_once None t = omega arith
counted_once (Some s) t = more_reasons s t

one_at_most : (b : Bool) → cond b 1 0 ≤ 1
one_at_most true = omega arith
one_at_most false = omega arith

pub one_more_stay : (o : Option Stay) (t : Stays) → all_stays (with_stay o t) ≤ all_stays t + 1
one_more_stay o t = omega (arith, counted_once o t, one_at_most (is_some o))

-- a stay is counted once at most
pub stay_counted : (o : Option Stay) (old new : Stays) → new ≡ with_stay o old → all_stays new ≤ all_stays old + 1
stay_counted o old new is = omega (arith, ap (λ (s : Stays). all_stays s) is, one_more_stay o old)

all_counted : (os : List (Option Stay)) (t : Stays) → all_stays (with_stays os t) ≡ all_stays t
    + count_by (λ (o : Option Stay). is_some o) os
all_counted [] t = omega arith
all_counted (o ∷ os) t =
    omega (
      arith,
      all_counted os (with_stay o t),
      counted_once o t,
      sum_by-cons (λ (p : Option Stay). cond (is_some p) 1 0) o os,
    )

-- ---- some cycles and more
with_stays-append : (some more : List (Option Stay)) (t : Stays) → with_stays (some ++ more) t
    ≡ with_stays more (with_stays some t)
with_stays-append [] more t = refl
with_stays-append (o ∷ some) more t = with_stays-append some more (with_stay o t)

-- one more cycle, with these passages at its end
module _ {arrivals : List Arrival} {old now : GuidedHardware} {moments : List Moment} (moment : Moment)
    (passes : History arrivals old moments now)
    {rows : List Passage} (rows_are : rows ≡ (last_cycle still_open passes moment).passages.rows) where
  abbrev more_stays : List (Option Stay)
  more_stays = stays_among now.hardware.cycle (is_free now.hardware.cycle (at_kind Mem moment.after.units)) true rows

  stays_of-push : stays_of old.hardware (moments ++ moment ∷ []) ≡ stays_of old.hardware moments ++ more_stays
  stays_of-push =
      ap (flat_map stays_in) (walk-push still_open passes moment)
      ∙ flat_map-append stays_in (walk still_open old.hardware moments) (last_cycle still_open passes moment ∷ [])
      ∙ ap (λ more. stays_of old.hardware moments ++ more) (append-nil (stays_in (last_cycle still_open passes moment)))
      ∙ ap (λ ps. stays_of old.hardware moments
      ++ stays_among now.hardware.cycle (is_free now.hardware.cycle (at_kind Mem moment.after.units)) true
      ps) (sym rows_are)

  -- why instructions stay, with one cycle more
  pub stays-push : with_stays more_stays (with_stays (stays_of old.hardware moments) no_stays)
      ≡ with_stays (stays_of old.hardware (moments ++ moment ∷ [])) no_stays
  stays-push = grind (arith, stays_of-push, with_stays-append)

  awaited_of-push : awaited_of old.hardware (moments ++ moment ∷ []) ≡ awaited_of old.hardware moments
      ++ oldest_awaited more_stays ∷ []
  awaited_of-push =
      ap (map awaited_in) (walk-push still_open passes moment)
      ∙ map-append awaited_in (walk still_open old.hardware moments) (last_cycle still_open passes moment ∷ [])
      ∙ ap (λ ps. awaited_of old.hardware moments
      ++ oldest_awaited
      (stays_among now.hardware.cycle (is_free now.hardware.cycle (at_kind Mem moment.after.units)) true ps)
      ∷ []) (sym rows_are)

  -- the words that are awaited, with one cycle more
  pub awaited-push : (values : Values) →
      with_one (oldest_awaited more_stays) (notes_of values (count_at itself (awaited_of old.hardware moments)))
      ≡ notes_of values (count_at itself (awaited_of old.hardware (moments ++ moment ∷ [])))
  awaited-push values =
      with_last_at values itself (awaited_of old.hardware moments) (oldest_awaited more_stays)
      ∙ ap (λ all. notes_of values (count_at itself all)) (sym awaited_of-push)

-- each cycle has one at most
pub length-awaited : (h : Hardware) (moments : List Moment) → length (awaited_of h moments) ≡ length moments
length-awaited h moments = length-map (walk still_open h moments) awaited_in ∙ length-walk_from (standing_at h) moments

-- ---- there are no more of them than rows
length-stays_among : (cycle : ℕ) (has_unit has_addresses : Bool) (ps : List Passage) →
    length (stays_among cycle has_unit has_addresses ps) ≡ length ps
length-stays_among cycle has_unit has_addresses [] = refl
length-stays_among cycle has_unit has_addresses (p ∷ ps) =
    ap suc (length-stays_among cycle has_unit (has_addresses && not (lacks_address cycle p)) ps)

few_stays : (os : List (Option Stay)) (t : Stays) → all_stays (with_stays os t) ≤ all_stays t + length os
few_stays [] t = omega arith
few_stays (o ∷ os) t = omega (arith, few_stays os (with_stay o t), one_more_stay o t)

-- no more stay than there are
pub few_more_stays : (cycle : ℕ) (has_unit has_addresses : Bool) (rows : List Passage) (t : Stays) →
    all_stays (with_stays (stays_among cycle has_unit has_addresses rows) t) ≤ all_stays t + length rows
few_more_stays cycle has_unit has_addresses rows t = grind (arith, few_stays, length-stays_among)

-- ---- each instruction stays in each cycle for one reason
one_reason : (staying : Bool) (s : Stay) → is_some (cond staying (Some s) None) ≡ staying
one_reason true s = refl
one_reason false s = refl

staying_among : (cycle : ℕ) (has_unit has_addresses : Bool) (ps : List Passage) →
    count_by (λ (o : Option Stay). is_some o) (stays_among cycle has_unit has_addresses ps)
    ≡ count_by (is_staying cycle) ps
staying_among cycle has_unit has_addresses [] = refl
staying_among cycle has_unit has_addresses (p ∷ ps) =
    let reason = ap {B = ℕ} (λ test. cond test 1 0)
    (one_reason (is_staying cycle p) (dispatched_stay cycle has_unit has_addresses p)) in
    omega (
      arith,
      sum_by-cons (λ (o : Option Stay). cond (is_some o) 1 0) (stay_in cycle has_unit has_addresses p)
          (stays_among cycle has_unit (has_addresses && not (lacks_address cycle p)) ps),
      sum_by-cons (λ (q : Passage). cond (is_staying cycle q) 1 0) p ps,
      reason,
      staying_among cycle has_unit (has_addresses && not (lacks_address cycle p)) ps,
    )

staying_of : (cycles : List FollowedCycle) →
    count_by (λ (o : Option Stay). is_some o) (flat_map stays_in cycles) ≡ staying_in cycles
staying_of [] = refl
staying_of (cycle ∷ cycles) =
    let has_unit = is_free cycle.number (at_kind Mem cycle.after.units) in
    ap (λ os. count_by (λ (o : Option Stay). is_some o) os) (flat_map-cons stays_in cycle cycles)
    ∙ omega (
      arith,
      sum_by-append (λ (o : Option Stay). cond (is_some o) 1 0) (stays_in cycle) (flat_map stays_in cycles),
      staying_among cycle.number has_unit true cycle.passages.rows,
      staying_of cycles,
    )

-- the stays of a run add up
pub stays_add_up : (h : Hardware) (moments : List Moment) → StaysAddUp h moments
stays_add_up h moments =
    omega (arith, all_counted (stays_of h moments) no_stays, staying_of (walk still_open h moments))
