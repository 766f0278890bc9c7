-- The youngest producer of a register, and the table of them.
use Rattle.std.proofs.Common.{◌≡◌, ◌≢◌, ℕ, ◌<◌, ◌≤◌, Bool, true, false, ◌==◌, nat_eq, if◌then◌else◌, List, [], ◌∷◌}
use Rattle.std.proofs.Common.{◌++◌, All, length, drop, slice_index_or, slice_set, Option, None, Some, refl, ap, sym}
use Rattle.std.proofs.Common.{inl, inr, ◌∙◌, arith, eq-eqb, ne_eqb, get_or-set_same, get_or-set_other, length-set}
use Rattle.std.proofs.lemmas.Bool.{cases_eq}
use Rattle.std.specs.Option.{option_or, option_eq}
use Rattle.std.proofs.lemmas.Bool.Decides.{nat_tests}
use Rattle.std.proofs.lemmas.List.Elements.{All-nil, All-cons, All-head, All-tail}
use Rattle.rv_isa.specs.Numbered.{IsInOrder}
use Rattle.rv_isa.proofs.Numbered.{IsInOrder-head, IsInOrder-tail}
use Rattle.rv_rename.specs.declared.producer.Producer.{Producer}
use Rattle.rv_rename.specs.Renaming.{youngest, NoneAbove, is_oldest}
use Rattle.rv_rename.specs.Kept.{IsTable}
use Rattle.rv_rename.proofs.Prefixes.{seq_of}

option_or-if : (b : Bool) (n : ℕ) (x y : Option ℕ) → option_or (if b then Some n else x) y
    ≡ (if b then Some n else option_or x y)
option_or-if b n x y = grind arith

option_or-none : (x : Option ℕ) → option_or x None ≡ x
option_or-none x = grind arith

-- two registers are one, or the test tells them apart
by_register : (P : Type 0) (r s : ℕ) → (r ≡ s → P) → (r ≢ s → P) → P
by_register P r s same other =
    elim (cases_eq r s) [ inl is ↦ same is | inr ne ↦ other ne ]

youngest-push : (r : ℕ) (ps : List Producer) (p : Producer)
    → youngest r (ps ++ p ∷ []) ≡ (if r == p.register then Some p.seq else youngest r ps)
youngest-push r [] p = refl
youngest-push r (q ∷ ps) p = rw (youngest-push r ps p) (option_or-if (r == p.register) p.seq (youngest r ps) _)

-- a further producer is the youngest of its register
pub IsTable-push : (table : List (Option ℕ)) (ps : List Producer) (p : Producer) → p.register < 32 → IsTable table ps
    → IsTable (slice_set table p.register (Some p.seq)) (ps ++ p ∷ [])
IsTable-push table ps p number is =
    let within : p.register < length table = omega (arith, is.places) in
    record {
      places = length-set table p.register (Some p.seq) ∙ is.places;
      producers = λ r h. rw (youngest-push r ps p)
          (by_register _ r p.register
          (λ same. rw (eq-eqb r p.register same, same) (get_or-set_same table p.register (Some p.seq) None within))
          (λ ne. rw (ne_eqb r p.register ne) (get_or-set_other table p.register r (Some p.seq) None ne
          ∙ is.producers r h)));
    }

youngest-head : (low n m : ℕ) (b : Bool) (later : Option ℕ) → low < m → ((k : ℕ) → later ≡ Some k → low < k)
    → option_or later (if b then Some m else None) ≡ Some n → low < n
youngest-head low n m b later h above e = grind arith

-- where all numbers are above one, the youngest has one above it
youngest-above : (r low n : ℕ) (ps : List Producer) → All (λ p. low < p.seq) ps → youngest r ps ≡ Some n → low < n
youngest-above r low n [] above e = absurd (cc)
youngest-above r low n (p ∷ ps) above e =
    youngest-head low n p.seq (r == p.register) (youngest r ps) (All-head (λ q. low < seq_of q) p ps above)
    (λ k. youngest-above r low k ps (All-tail (λ q. low < seq_of q) p ps above)) e

-- where the oldest is the youngest of its register, no later one writes that register
youngest-gone : (m : ℕ) (later first : Option ℕ) → ((k : ℕ) → later ≡ Some k → m < k) → option_or later first ≡ Some m →
    later ≡ None
youngest-gone m later first above e = grind arith

youngest-later : (m : ℕ) (later : Option ℕ) → option_or later (Some m) ≢ Some m → option_or later (Some m) ≡ later
youngest-later m later other = grind arith

youngest-others : (r : ℕ) (p : Producer) (ps : List Producer) → r ≢ p.register → youngest r (p ∷ ps) ≡ youngest r ps
youngest-others r p ps ne = rw (ne_eqb r p.register ne) (option_or-none (youngest r ps))

youngest-own : (r : ℕ) (p : Producer) (ps : List Producer) → r ≡ p.register →
    youngest r (p ∷ ps) ≡ option_or (youngest r ps) (Some p.seq)
youngest-own r p ps same = rw (eq-eqb r p.register same) refl

is_oldest-parts : (register n : ℕ) (p : Producer) (ps : List Producer) → is_oldest register n (p ∷ ps) ≡ true
    → (n ≡ p.seq) × (register ≡ p.register)
is_oldest-parts register n p ps oldest =
    (grind (arith, nat_tests), grind (arith, nat_tests))

-- once the oldest has retired, and was the youngest of its register, that register has none
pub IsTable-retire : (table : List (Option ℕ)) (register n : ℕ) (ps : List Producer) → register < 32 →
    IsInOrder seq_of ps
    → is_oldest register n ps ≡ true → IsTable table ps → slice_index_or table register None ≡ Some n
    → IsTable (slice_set table register None) (drop 1 ps)
IsTable-retire table register n [] number order oldest is held = absurd (cc)
IsTable-retire table register n (p ∷ ps) number order oldest is held =
    let parts = is_oldest-parts register n p ps oldest in
    let within : register < length table = omega (arith, is.places) in
    record {
      places = length-set table register None ∙ is.places;
      producers = λ r h. by_register _ r register
          (λ same. let own : r ≡ p.register = same ∙ parts.1 in
          let whole : option_or (youngest r ps) (Some p.seq) ≡ Some p.seq = sym (youngest-own r p ps own)
          ∙ (sym (is.producers r h) ∙ (rw same (held ∙ rw parts.0 refl))) in
          let none : youngest r ps ≡ None =
          youngest-gone p.seq (youngest r ps) (Some p.seq)
          (λ k. youngest-above r p.seq k ps (IsInOrder-head seq_of p ps order)) whole in
          rw none (rw same (get_or-set_same table register None None within)))
          (λ ne. let others : r ≢ p.register = λ e. ne (e ∙ sym parts.1) in
          get_or-set_other table register r None None ne ∙ (is.producers r h ∙ youngest-others r p ps others));
    }

-- a younger producer of the register stays
pub IsTable-keep : (table : List (Option ℕ)) (register n : ℕ) (ps : List Producer) → is_oldest register n ps ≡ true →
    IsTable table ps
    → slice_index_or table register None ≢ Some n → IsTable table (drop 1 ps)
IsTable-keep table register n [] oldest is other = absurd (cc)
IsTable-keep table register n (p ∷ ps) oldest is other =
    let parts = is_oldest-parts register n p ps oldest in
    record {
      places = is.places;
      producers = λ r h. by_register _ r register
          (λ same. let own : r ≡ p.register = same ∙ parts.1 in
          let whole : slice_index_or table r None ≡ option_or (youngest r ps) (Some p.seq) = is.producers r h
          ∙ youngest-own r p ps own in
          let differs : option_or (youngest r ps) (Some p.seq) ≢ Some p.seq =
          λ e. other (rw (← same) (whole ∙ (e ∙ rw parts.0 refl))) in
          whole ∙ youngest-later p.seq (youngest r ps) differs)
          (λ ne. let others : r ≢ p.register = λ e. ne (e ∙ sym parts.1) in
          is.producers r h ∙ youngest-others r p ps others);
    }

-- what a comparison of options reports
pub option_eq-true : (x : Option ℕ) (n : ℕ) → option_eq nat_eq x (Some n) ≡ true → x ≡ Some n
option_eq-true x n e = grind (arith, nat_tests)

-- an option that is found to differ from a number is not that number
pub option_eq-false : (x : Option ℕ) (n : ℕ) → option_eq nat_eq x (Some n) ≡ false → x ≢ Some n
option_eq-false x n e same = grind (arith, nat_tests)

option_or-some : (x : Option ℕ) (n : ℕ) → option_or x (Some n) ≡ None → ⊥
option_or-some x n e = grind arith

-- what a register's highest number says of a producer
abbrev IsNotAbove : ℕ → ℕ → Producer → Type 0
IsNotAbove r n p = r ≡ p.register → p.seq ≤ n

-- a register with no youngest producer has none
none-above : (r n : ℕ) (ps : List Producer) → youngest r ps ≡ None → NoneAbove r n ps
none-above r n [] e = All-nil (IsNotAbove r n)
none-above r n (p ∷ ps) e =
    by_register _ r p.register
    (λ same. absurd (let some : option_or (youngest r ps) (Some p.seq) ≡ None = sym (youngest-own r p ps same) ∙ e in
    option_or-some (youngest r ps) p.seq some))
    (λ ne. All-cons (IsNotAbove r n) p ps (λ same. absurd (ne same))
    (none-above r n ps (sym (youngest-others r p ps ne) ∙ e)))

-- the youngest producer of a register has the highest number
pub NoneAbove-youngest : (r n : ℕ) (ps : List Producer) → IsInOrder seq_of ps → youngest r ps ≡ Some n →
    NoneAbove r n ps
NoneAbove-youngest r n [] order e = absurd (cc)
NoneAbove-youngest r n (p ∷ ps) order e =
    let above = IsInOrder-head seq_of p ps order in
    let go : (later : Option ℕ) → youngest r ps ≡ later → NoneAbove r n (p ∷ ps) =
    λ later. elim later as (λ later. youngest r ps ≡ later → NoneAbove r n (p ∷ ps)) [
      | None ↦ λ is. All-cons (IsNotAbove r n) p ps
          (λ same. let first : Some p.seq ≡ Some n = rw (youngest-own r p ps same, is) at e in
          let at : p.seq ≡ n = cc in omega arith)
          (none-above r n ps is)
      | Some m ↦ λ is. let at : m ≡ n = let whole : Some m ≡ Some n = rw is at e in cc in
          let later : youngest r ps ≡ Some n = is ∙ ap (λ k. Some k) at in
          All-cons (IsNotAbove r n) p ps
          (λ same. omega (arith, youngest-above r p.seq n ps above later))
          (NoneAbove-youngest r n ps (IsInOrder-tail seq_of p ps order) later)
    ] in
    go (youngest r ps) refl
