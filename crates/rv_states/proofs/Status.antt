-- What the registers give after one more instruction, and the entry at a place of the reorder buffer.
use Rattle.std.proofs.Common.{◌≡◌, ℕ, zero, suc, ◌+◌, ◌<◌, if◌then◌else◌, List, [], ◌∷◌, ◌++◌, length, take, get_or}
use Rattle.std.proofs.Common.{slice_get, Some, refl, ap, ◌∙◌, arith}
use Rattle.std.proofs.lemmas.List.{length-take-le, take_more}
use Rattle.std.proofs.lemmas.Option.{get_or_from_slice_get, slice_get_within}
use Rattle.rv_watch.specs.Registers.{RegisterStatus, operand_by, status_after, status_with}
use Rattle.rv_hardware.specs.InFlight.{broadcast_of, writes}
use Rattle.rv_rob.specs.ReorderBuffer.{ReorderBuffer}
use Rattle.rv_stations.specs.declared.waiting.Operand.{Operand}
use Rattle.rv_rob.specs.declared.entry.Entry.{Entry}
use Rattle.rv_states.specs.Entries.{entries_json, entry_json}

status_push : (status : RegisterStatus) (seq : ℕ) (older : List Entry) (e : Entry) →
    status_after status seq (older ++ e ∷ []) ≡ status_with (status_after status seq older) (seq + length older) e
status_push status seq [] e = ap (λ n. status_with status n e) (omega arith)
status_push status seq (x ∷ older) e =
    status_push (status_with status seq x) (seq + 1) older e
    ∙ ap (λ n. status_with (status_after (status_with status seq x) (seq + 1) older) n e) (omega arith)

-- what a register gives after one more instruction
pub status_more : (status : RegisterStatus) (seq : ℕ) (es : List Entry) (place : ℕ) (e : Entry) (register : ℕ) →
    slice_get es place ≡ Some e
    → status_after status seq (take (place + 1) es) register
    ≡ (if writes e register then operand_by (seq + place) (broadcast_of e.stage)
    else status_after status seq (take place es) register)
status_more status seq es place e register is =
    let within = slice_get_within es place e is in
    let last = get_or_from_slice_get es place e e is in
    let at : seq + length (take place es) ≡ seq + place =
    omega (arith, length-take-le place es (omega (arith, within))) in
    ap (λ l. status_after status seq l register) (take_more es place e within ∙ ap (λ x. take place es ++ x ∷ []) last)
    ∙ ap (λ (s : RegisterStatus). s register) (status_push status seq (take place es) e)
    ∙ ap (λ n. status_with (status_after status seq (take place es)) n e register) at

-- the entry at a place of the array
pub entry_at : (status : RegisterStatus) (seq : ℕ) (es : List Entry) (place : ℕ) (e : Entry) →
    slice_get es place ≡ Some e → place < length es
    → entry_json (status_after status seq (take place es)) (seq + place) e
    ≡ get_or (entries_json status seq es) place []
entry_at status seq [] place e is within = absurd (omega (arith, within))
entry_at status seq (x ∷ es) zero e is within = grind arith
entry_at status seq (x ∷ es) (suc place) e is within =
    let here : seq + suc place ≡ seq + 1 + place = omega arith in
    ap (λ n. entry_json (status_after (status_with status seq x) (seq + 1) (take place es)) n e) here
    ∙ entry_at (status_with status seq x) (seq + 1) es place e is (omega (arith, within))

-- as many as there are entries
pub so_many_entries : (status : RegisterStatus) (seq : ℕ) (es : List Entry) →
    length (entries_json status seq es) ≡ length es
so_many_entries status seq [] = refl
so_many_entries status seq (x ∷ es) = ap suc (so_many_entries (status_with status seq x) (seq + 1) es)

-- what a register gives after one more instruction, by what it gave before
pub given_more : (status : RegisterStatus) (rob : ReorderBuffer) (number place : ℕ) (e : Entry) (register : ℕ)
    (before after : Operand) → number ≡ rob.retired + place → slice_get rob.entries place ≡ Some e
    → before ≡ status_after status rob.retired (take place rob.entries) register →
    after ≡ (if writes e register then operand_by number (broadcast_of e.stage) else before)
    → after ≡ status_after status rob.retired (take (place + 1) rob.entries) register
given_more status rob number place e register before after is found before_is after_is =
    grind (arith, writes, status_more)

-- a place of the array is one of an entry
pub within_entries : (status : RegisterStatus) (seq : ℕ) (es : List Entry) (place : ℕ) →
    place < length (entries_json status seq es) → place < length es
within_entries status seq es place within = omega (arith, within, so_many_entries status seq es)
