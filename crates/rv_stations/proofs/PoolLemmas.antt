-- The instructions in the places of a kind's stations, of which four lists hold the parts.
use Rattle.std.proofs.Common.{◌≡◌, Bool, ℕ, zero, suc, ◌+◌, ◌<◌, ◌≤◌, List, [], ◌∷◌, ◌++◌, All, length, get_or, take}
use Rattle.std.proofs.Common.{map, remove, slice_get, slice_set, Some, refl, ap, ap₂, sym, ◌∙◌, vec_len, arith, eqb}
use Rattle.std.proofs.Common.{bit_and, bit_or, ◌/◌, ◌^◌, ◌&&◌, true}
use Rattle.std.specs.Option.{option_map}
use Rattle.std.specs.List.{AllPairs}
use Rattle.std.specs.Simd.Lanes.{zip2}
use Rattle.std.proofs.lemmas.Bool.{and_parts}
use Rattle.std.proofs.lemmas.List.{get_or-take, get_or-map, get_or-set_same, get_or-set_other, length-map}
use Rattle.std.proofs.lemmas.List.{length-take-le, map-append}
use Rattle.std.proofs.lemmas.List.Elements.{All-head, All-tail}
use Rattle.std.proofs.lemmas.Option.{slice_get-get_or, get_or_from_slice_get, slice_get_within}
use Rattle.std.proofs.lemmas.Simd.{length-zip2}
use Rattle.rv_stations.specs.declared.waiting.Operand.{Operand}
use Rattle.rv_stations.specs.declared.waiting.Waiting.{Waiting}
use Rattle.rv_stations.specs.declared.pool.Dispatched.{Dispatched}
use Rattle.rv_isa.specs.declared.instructions.Instr.TheVariants.{Fence}
use Rattle.rv_stations.specs.declared.waiting.Operand.TheVariants.{Value}
use Rattle.rv_isa.specs.Instruction.{is_load}
use Rattle.rv_stations.specs.Column.{IsWaitMask}
use Rattle.rv_stations.proofs.ColumnLemmas.{both_ready}
use Rattle.rv_stations.specs.Waiting.{has_value, seq_of, is_ready, loads, woken, woken_operand}
use Rattle.rv_stations.specs.PoolFields.{with_dispatched, both_operands, instruction_of, joined, some_waiting}
use Rattle.rv_stations.specs.PoolFields.{in_places, in_all, pool, IsSoundPool}
use Rattle.rv_stations.specs.declared.pool.StationPool.TheInside.{Inside}
use Rattle.rv_stations.proofs.SearchLemmas.{take_at_get}
use Rattle.rv_stations.proofs.ZipLemmas.{zip2-set, slice_get-zip2}

-- the lists are of one length
pub record SameLengths (ns : List ℕ) (fs : List Dispatched) (xs ys : List Operand) : Type 0 where
  pub dispatched : length fs ≡ length ns
  pub first : length xs ≡ length ns
  pub second : length ys ≡ length ns

module _ (ns : List ℕ) (fs : List Dispatched) (xs ys : List Operand) (same : SameLengths ns fs xs ys) where
  left : length (zip2 with_dispatched ns fs) ≡ length ns
  left = length-zip2 with_dispatched ns fs (sym same.dispatched)

  right : length (zip2 both_operands xs ys) ≡ length ns
  right = length-zip2 both_operands xs ys (same.first ∙ sym same.second) ∙ same.first

  -- as many instructions as numbers
  pub length-joined : length (joined ns fs xs ys) ≡ length ns
  length-joined = length-zip2 instruction_of _ _ (left ∙ sym right) ∙ left

  -- the parts of an instruction, each written at one place of its list, write the instruction at that place
  pub joined-set : (i : ℕ) (n : ℕ) (f : Dispatched) (x y : Operand) → i < length ns →
      joined (slice_set ns i n) (slice_set fs i f) (slice_set xs i x) (slice_set ys i y)
      ≡ slice_set (joined ns fs xs ys) i (instruction_of (n, f) (x, y))
  joined-set i n f x y within = grind (arith, zip2-set, left, right)

-- the lists of a pool's fields are of one length
pub same_lengths : (p : Inside) → IsSoundPool p → SameLengths p.seqs.items p.dispatched.items p.first p.second
same_lengths p sound = grind arith

-- as many instructions wait as are counted
pub length-pool : (p : Inside) → IsSoundPool p → length (in_places (in_all p) (take p.count p.places.items)) ≡ p.count
length-pool p sound = grind (arith, length-map, length-take-le)

-- a list without an element is the empty one
pub none_waits : (ws : List Waiting) → length ws ≡ 0 → ws ≡ []
none_waits [] none = refl
none_waits (w ∷ ws) none = absurd (omega arith)

-- a place is there
pub place_there : (p : Inside) → IsSoundPool p → (at place : ℕ) → slice_get p.places.items at ≡ Some place →
    place < vec_len p.seqs
place_there p sound at place is = grind (arith, slice_get_within, get_or_from_slice_get)

-- the parts in a place make the instruction in it
slice_get-joined : (ns : List ℕ) (fs : List Dispatched) (xs ys : List Operand) (i n : ℕ) (f : Dispatched)
    (x y : Operand) → slice_get ns i ≡ Some n → slice_get fs i ≡ Some f → slice_get xs i ≡ Some x →
    slice_get ys i ≡ Some y → slice_get (joined ns fs xs ys) i ≡ Some (instruction_of (n, f) (x, y))
slice_get-joined ns fs xs ys i n f x y at_n at_f at_x at_y =
    slice_get-zip2 instruction_of i _ _ (n, f) (x, y) (slice_get-zip2 with_dispatched i ns fs n f at_n at_f)
    (slice_get-zip2 both_operands i xs ys x y at_x at_y)

-- the instruction in a place that stands in a list of places
slice_get-in_places : (ws : List Waiting) (n : ℕ) (places : List ℕ) (at place : ℕ) (w : Waiting) → at < n →
    slice_get places at ≡ Some place → slice_get ws place ≡ Some w →
    slice_get (in_places ws (take n places)) at ≡ Some w
slice_get-in_places ws zero places at place w low is there = absurd (omega arith)
slice_get-in_places ws (suc n) [] at place w low is there = cc
slice_get-in_places ws (suc n) (k ∷ ks) zero place w low is there = grind (arith, get_or_from_slice_get)
slice_get-in_places ws (suc n) (k ∷ ks) (suc at) place w low is there =
    slice_get-in_places ws n ks at place w (omega arith) is there

-- the parts of an instruction that waits
pub slice_get-pool : (p : Inside) (at place n : ℕ) (f : Dispatched) (x y : Operand) → at < p.count →
    slice_get p.places.items at ≡ Some place → slice_get p.seqs.items place ≡ Some n →
    slice_get p.dispatched.items place ≡ Some f → slice_get p.first place ≡ Some x → slice_get p.second place ≡ Some y →
    slice_get (pool p).waiting at ≡ Some (instruction_of (n, f) (x, y))
slice_get-pool p at place n f x y low is at_n at_f at_x at_y = grind (arith, slice_get-in_places, slice_get-joined)

-- the bits of a place show whether the instruction in it is ready
pub ready_by_bits : (p : Inside) → IsSoundPool p → (a b at place : ℕ) → IsWaitMask p.first a → IsWaitMask p.second b →
    at < p.count → slice_get p.places.items at ≡ Some place →
    option_map is_ready (slice_get (pool p).waiting at) ≡ Some (eqb (bit_and (bit_or a b / 2 ^ place) 1) 0)
ready_by_bits p sound a b at place of_first of_second low is =
    let there = place_there p sound at place is in
    let in_first : place < length p.first = omega (arith, there, sound.first) in
    let in_second : place < length p.second = omega (arith, there, sound.second) in
    let none : Dispatched = record { pc = 0; instruction = Fence } in
    ap (option_map is_ready) (slice_get-pool p at place _ _ _ _ low is
    (slice_get-get_or p.seqs.items place 0 (omega (arith, there)))
    (slice_get-get_or p.dispatched.items place none (omega (arith, there, sound.dispatched)))
    (slice_get-get_or p.first place (Value 0) in_first)
    (slice_get-get_or p.second place (Value 0) in_second))
    ∙ ap Some
    (both_ready a b place (has_value (get_or p.first place (Value 0))) (has_value (get_or p.second place (Value 0)))
    (of_first place in_first) (of_second place in_second))

-- the instruction in a place shows whether it loads
pub loads_by_instruction : (p : Inside) → IsSoundPool p → (at place : ℕ) (f : Dispatched) → at < p.count →
    slice_get p.places.items at ≡ Some place → slice_get p.dispatched.items place ≡ Some f →
    option_map loads (slice_get (pool p).waiting at) ≡ Some (is_load (Some f.instruction))
loads_by_instruction p sound at place f low is here =
    let there = place_there p sound at place is in
    ap (option_map loads) (slice_get-pool p at place _ _ _ _ low is
    (slice_get-get_or p.seqs.items place 0 (omega (arith, there)))
    here
    (slice_get-get_or p.first place (Value 0) (omega (arith, there, sound.first)))
    (slice_get-get_or p.second place (Value 0) (omega (arith, there, sound.second))))

-- an instruction that is ready has both operands
pub ready_parts : (p : Inside) → IsSoundPool p → (at place : ℕ) → at < p.count →
    slice_get p.places.items at ≡ Some place → option_map is_ready (slice_get (pool p).waiting at) ≡ Some true →
    (option_map has_value (slice_get p.first place) ≡ Some true) ×
    (option_map has_value (slice_get p.second place) ≡ Some true)
ready_parts p sound at place low is ready =
    let there = place_there p sound at place is in
    let none : Dispatched = record { pc = 0; instruction = Fence } in
    let x = get_or p.first place (Value 0) in
    let y = get_or p.second place (Value 0) in
    let at_x : slice_get p.first place ≡ Some x =
    slice_get-get_or p.first place (Value 0) (omega (arith, there, sound.first)) in
    let at_y : slice_get p.second place ≡ Some y =
    slice_get-get_or p.second place (Value 0) (omega (arith, there, sound.second)) in
    let whole = slice_get-pool p at place _ _ x y low is
    (slice_get-get_or p.seqs.items place 0 (omega (arith, there)))
    (slice_get-get_or p.dispatched.items place none (omega (arith, there, sound.dispatched)))
    at_x at_y in
    let shown : Some (has_value x && has_value y) ≡ Some true = sym (ap (option_map is_ready) whole) ∙ ready in
    let both : (has_value x && has_value y) ≡ true = cc shown in
    let parts = and_parts (has_value x) (has_value y) both in
    (ap (option_map has_value) at_x ∙ ap Some parts.0, ap (option_map has_value) at_y ∙ ap Some parts.1)

-- what is known of the instruction in a place
pub is_ready-in_place : (ws : List Waiting) (i : ℕ) (w : Waiting) (ready : Bool) → slice_get ws i ≡ Some w →
    option_map is_ready (slice_get ws i) ≡ Some ready → is_ready w ≡ ready
is_ready-in_place ws i w ready is shown =
    let same : Some (is_ready w) ≡ Some ready = sym (ap (option_map is_ready) is) ∙ shown in cc same

-- an instruction that is read at a place has the number that is known there
pub seq-in_place : (ws : List Waiting) (i : ℕ) (d : Waiting) (seq : ℕ) → option_map seq_of (slice_get ws i) ≡ Some seq →
    i < length ws → (get_or ws i d).seq ≡ seq
seq-in_place ws i d seq shown within = grind (arith, slice_get-get_or)

-- both columns are woken
pub joined-woken : (seq value : ℕ) (ns : List ℕ) (fs : List Dispatched) (xs ys : List Operand) →
    joined ns fs (map (woken_operand seq value) xs) (map (woken_operand seq value) ys)
    ≡ map (woken seq value) (joined ns fs xs ys)
joined-woken seq value [] fs xs ys = refl
joined-woken seq value (n ∷ ns) [] xs ys = refl
joined-woken seq value (n ∷ ns) (f ∷ fs) [] ys = refl
joined-woken seq value (n ∷ ns) (f ∷ fs) (x ∷ xs) [] = refl
joined-woken seq value (n ∷ ns) (f ∷ fs) (x ∷ xs) (y ∷ ys) =
    ap (λ ws. woken seq value (instruction_of (n, f) (x, y)) ∷ ws) (joined-woken seq value ns fs xs ys)

-- a change of all instructions is one of those in the places
pub in_places-map : (f : Waiting → Waiting) (ws : List Waiting) (ks : List ℕ) → All (λ k. k < length ws) ks →
    in_places (map f ws) ks ≡ map f (in_places ws ks)
in_places-map f ws [] there = refl
in_places-map f ws (k ∷ ks) there =
    ap₂ ◌∷◌ (get_or-map f ws k some_waiting some_waiting (All-head (λ j. j < length ws) k ks there))
    (in_places-map f ws ks (All-tail (λ j. j < length ws) k ks there))

-- what is written to another place is not seen
in_places-unset : (ws : List Waiting) (ks : List ℕ) (place : ℕ) (w : Waiting) → All (λ k. k ≡ place → ⊥) ks →
    in_places (slice_set ws place w) ks ≡ in_places ws ks
in_places-unset ws [] place w apart = refl
in_places-unset ws (k ∷ ks) place w apart =
    ap₂ ◌∷◌ (get_or-set_other ws place k w some_waiting (All-head (λ j. j ≡ place → ⊥) k ks apart))
    (in_places-unset ws ks place w (All-tail (λ j. j ≡ place → ⊥) k ks apart))

-- the instruction in the next place is the youngest
pub in_places-next : (ws : List Waiting) (ks : List ℕ) (n place : ℕ) (w : Waiting) → AllPairs (λ a b. a ≡ b → ⊥) ks →
    slice_get ks n ≡ Some place → place < length ws →
    in_places (slice_set ws place w) (take (n + 1) ks) ≡ in_places ws (take n ks) ++ w ∷ []
in_places-next ws ks n place w apart is there =
    let within : n < length ks = slice_get_within ks n place is in
    let before : All (λ k. k ≡ place → ⊥) (take n ks) =
    λ i d lt equal.
    let low : i < n = omega (arith, lt, length-take-le n ks (omega arith)) in
    apart i n d low within (sym (get_or-take n ks i d low) ∙ equal ∙ sym (get_or_from_slice_get ks n place d is)) in
    rw (take_at_get ks n place is)
    (map-append (λ k. get_or (slice_set ws place w) k some_waiting) (take n ks) (place ∷ [])
    ∙ ap₂ ◌++◌ (in_places-unset ws (take n ks) place w before)
    (ap (λ v. v ∷ []) (get_or-set_same ws place w some_waiting there)))

-- the instructions in all places but one are all but the one in it
pub in_places-remove : (ws : List Waiting) (ks : List ℕ) (at : ℕ) → at < length ks → in_places ws (remove ks at)
    ≡ remove (in_places ws ks) at
in_places-remove ws [] at within = absurd (omega arith)
in_places-remove ws (k ∷ ks) zero within = refl
in_places-remove ws (k ∷ ks) (suc at) within =
    ap (λ vs. get_or ws k some_waiting ∷ vs) (in_places-remove ws ks at (omega arith))

-- the instructions in the first n places are the first n of those in more places
pub in_places-take : (ws : List Waiting) (ks : List ℕ) (n m : ℕ) → n ≤ m →
    in_places ws (take n ks) ≡ take n (in_places ws (take m ks))
in_places-take ws ks zero m order = refl
in_places-take ws ks (suc n) zero order = absurd (omega arith)
in_places-take ws [] (suc n) (suc m) order = refl
in_places-take ws (k ∷ ks) (suc n) (suc m) order =
    ap (λ vs. get_or ws k some_waiting ∷ vs) (in_places-take ws ks n m (omega arith))
