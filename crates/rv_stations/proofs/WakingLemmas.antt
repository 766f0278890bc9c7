-- Operands that are woken eight at a time: those whose bits are cleared are woken, and the others can still be.
use Rattle.std.proofs.Common.{◌≡◌, sym, ℕ, ◌+◌, ◌<◌, ◌≤◌, ◌∙◌, List, length, get_or, map, arith, ap, inl}
use Rattle.std.proofs.Common.{inr}
use Rattle.std.specs.Int.{bit_at}
use Rattle.std.proofs.lemmas.Bool.{cases_lt}
use Rattle.std.proofs.lemmas.List.{get_or-map, ext_get_or, length-map}
use Rattle.rv_stations.specs.declared.waiting.Operand.{Operand}
use Rattle.rv_stations.specs.declared.waiting.Operand.TheVariants.{Value}
use Rattle.rv_stations.specs.Waiting.{woken_operand}
use Rattle.rv_stations.specs.Column.{in_eight}
use Rattle.rv_stations.proofs.ColumnLemmas.{in_eight-below, in_eight-above, in_eight-inside, length-in_eight}

-- what is woken twice is woken
woken_operand-twice : (seq value : ℕ) (o : Operand) →
    woken_operand seq value (woken_operand seq value o) ≡ woken_operand seq value o
woken_operand-twice seq value operand = grind arith

-- the operands whose bits are cleared are woken, and the others can still be
pub record Waking (seq value left : ℕ) (old now : List Operand) : Type 0 where
  pub long : length now ≡ length old
  pub same : (i : ℕ) → i < length old →
      woken_operand seq value (get_or now i (Value 0)) ≡ woken_operand seq value (get_or old i (Value 0))
  pub done : (i : ℕ) → i < length old → bit_at left i ≡ 0 →
      woken_operand seq value (get_or now i (Value 0)) ≡ get_or now i (Value 0)

-- where every bit is cleared, all are woken
pub Waking-end : (seq value left : ℕ) (old now : List Operand) → ((i : ℕ) → i < length old → bit_at left i ≡ 0) →
    Waking seq value left old now → now ≡ map (woken_operand seq value) old
Waking-end seq value left old now none w =
    let mapped = length-map old (woken_operand seq value) in
    ext_get_or (Value 0) now (map (woken_operand seq value) old) (w.long ∙ sym mapped)
    (λ i lt.
    let within : i < length old = omega (arith, lt, w.long) in
    sym (w.done i within (none i within)) ∙ w.same i within
    ∙ sym (get_or-map (woken_operand seq value) old i (Value 0) (Value 0) within))

-- eight more are woken, and their bits may be cleared
pub Waking-next : (seq value left next start : ℕ) (old now : List Operand) → length old ≤ 64 → start + 8 ≤ length old →
    ((i : ℕ) → i < start → bit_at next i ≡ bit_at left i) →
    ((i : ℕ) → start + 8 ≤ i → i < 64 → bit_at next i ≡ bit_at left i) → Waking seq value left old now →
    Waking seq value next old (in_eight start (map (woken_operand seq value)) now)
Waking-next seq value left next start old now few room before after w = record {
  long = length-in_eight (woken_operand seq value) start now room_now (Value 0) ∙ w.long;
  same = λ i lt. elim (cases_lt i start) [
    | inl below ↦
        ap (woken_operand seq value) (in_eight-below (woken_operand seq value) start now room_now (Value 0) i below)
        ∙ w.same i lt
    | inr from ↦ elim (cases_lt i (start + 8)) [
      | inl inside ↦
          ap (woken_operand seq value)
          (in_eight-inside (woken_operand seq value) start now room_now (Value 0) i from inside)
          ∙ woken_operand-twice seq value (get_or now i (Value 0))
          ∙ w.same i lt
      | inr above ↦
          ap (woken_operand seq value) (in_eight-above (woken_operand seq value) start now room_now (Value 0) i above)
          ∙ w.same i lt
    ]
  ];
  done = λ i lt none. elim (cases_lt i start) [
    | inl below ↦
        let here = in_eight-below (woken_operand seq value) start now room_now (Value 0) i below in
        ap (woken_operand seq value) here ∙ w.done i lt (sym (before i below) ∙ none) ∙ sym here
    | inr from ↦ elim (cases_lt i (start + 8)) [
      | inl inside ↦
          let here = in_eight-inside (woken_operand seq value) start now room_now (Value 0) i from inside in
          ap (woken_operand seq value) here ∙ woken_operand-twice seq value (get_or now i (Value 0)) ∙ sym here
      | inr above ↦
          let here = in_eight-above (woken_operand seq value) start now room_now (Value 0) i above in
          ap (woken_operand seq value) here ∙ w.done i lt (sym (after i above (omega arith)) ∙ none) ∙ sym here
    ]
  ];
}
  where
    room_now : start + 8 ≤ length now
    room_now = omega (arith, w.long, room)
