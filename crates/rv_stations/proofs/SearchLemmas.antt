-- A search for the oldest ready instruction that passes a test.
use Rattle.std.proofs.Common.{◌≡◌, ℕ, zero, suc, ◌+◌, Bool, true, false, not, ◌&&◌, ◌<◌, ◌≤◌, length, List, [], ◌∷◌}
use Rattle.std.proofs.Common.{◌++◌, take, drop, remove, slice_get, Option, None, Some, inl, inr, refl, ap, sym, ◌∙◌}
use Rattle.std.proofs.Common.{arith}
use Rattle.std.specs.Option.{option_map}
use Rattle.std.proofs.lemmas.Bool.{cases_Bool}
use Rattle.std.proofs.lemmas.List.{append_assoc}
use Rattle.std.proofs.lemmas.Option.{get_or_from_slice_get, slice_get_within}
use Rattle.rv_isa.specs.Numbered.{IsInOrder}
use Rattle.rv_stations.specs.declared.waiting.Waiting.{Waiting}
use Rattle.rv_stations.specs.Waiting.{ArePassedBy, IsVerdict, is_asked, is_ready, loads, oldest_ready, seq_of}
use Rattle.rv_stations.specs.Waiting.{without_oldest_ready}
use Rattle.rv_stations.specs.PoolFields.{some_waiting}
use Rattle.rv_stations.specs.declared.waiting.Verdict.TheVariants.{LoadsWait}

not_false : (b : Bool) → not b ≡ false → b ≡ true
not_false true is = refl
not_false false is = cc

module _ {X : Type 0} where
  take-before_removed : (at : ℕ) (xs : List X) → take at (remove xs at) ≡ take at xs
  take-before_removed zero xs = refl
  take-before_removed (suc at) [] = refl
  take-before_removed (suc at) (x ∷ xs) = ap (λ ys. x ∷ ys) (take-before_removed at xs)

  -- the list from a place on
  pub drop_at_get : (xs : List X) (at : ℕ) (x : X) → slice_get xs at ≡ Some x → drop at xs ≡ x ∷ drop (at + 1) xs
  drop_at_get [] at x is = cc
  drop_at_get (y ∷ ys) zero x is = cc
  drop_at_get (y ∷ ys) (suc at) x is =
      let next : suc at + 1 ≡ suc (at + 1) = omega arith in rw next (drop_at_get ys at x is)

  -- and up to the place after
  pub take_at_get : (xs : List X) (at : ℕ) (x : X) → slice_get xs at ≡ Some x → take (at + 1) xs ≡ take at xs ++ x ∷ []
  take_at_get [] at x is = cc
  take_at_get (y ∷ ys) zero x is = cc
  take_at_get (y ∷ ys) (suc at) x is =
      let next : suc at + 1 ≡ suc (at + 1) = omega arith in rw next (ap (λ zs. y ∷ zs) (take_at_get ys at x is))

-- The instructions before a place are passed by: what is found from there on is what is found in all.
pub record Searching (test : Waiting → Bool) (ws : List Waiting) (at : ℕ) : Type 0 where
  pub same_oldest : oldest_ready test (drop at ws) ≡ oldest_ready test ws
  pub same_others : take at ws ++ without_oldest_ready test (drop at ws) ≡ without_oldest_ready test ws
  pub passed : ArePassedBy test at ws

-- where a search begins
pub Searching-from : (test : Waiting → Bool) (at : ℕ) (ws : List Waiting) → ArePassedBy test at ws →
    Searching test ws at
Searching-from test zero ws passed = record { same_oldest = refl; same_others = refl; passed = passed }
Searching-from test (suc at) [] passed = record { same_oldest = refl; same_others = refl; passed = passed }
Searching-from test (suc at) (w ∷ ws) passed = elim (cases_Bool (is_ready w && test w)) [
  | inl passes ↦ let found : Some w ≡ None = rw passes at passed in absurd (cc)
  | inr fails ↦
      let rest = Searching-from test at ws (rw fails at passed) in
      record {
        same_oldest = rw fails rest.same_oldest;
        same_others = rw fails (ap (λ us. w ∷ us) rest.same_others);
        passed = passed;
      }
]

-- what comes after instructions that are passed by
oldest_ready-append : (test : Waiting → Bool) (ws us : List Waiting) → oldest_ready test ws ≡ None →
    oldest_ready test (ws ++ us) ≡ oldest_ready test us
oldest_ready-append test [] us passed = refl
oldest_ready-append test (w ∷ ws) us passed = elim (cases_Bool (is_ready w && test w)) [
  | inl passes ↦ let found : Some w ≡ None = rw passes at passed in absurd (cc)
  | inr fails ↦ rw fails (oldest_ready-append test ws us (rw fails at passed))
]

pub Searching-pass : (test : Waiting → Bool) (ws : List Waiting) (at : ℕ) (w : Waiting) → slice_get ws at ≡ Some w →
    (is_ready w && test w) ≡ false → Searching test ws at → Searching test ws (at + 1)
Searching-pass test ws at w is fails s =
    let here = drop_at_get ws at w is in
    let passed = take_at_get ws at w is in
    let oldest : oldest_ready test (drop at ws) ≡ oldest_ready test (drop (at + 1) ws) = rw (here, fails) refl in
    let others : without_oldest_ready test (drop at ws) ≡ w ∷ without_oldest_ready test (drop (at + 1) ws) =
    rw (here, fails) refl in
    record {
      same_oldest = sym oldest ∙ s.same_oldest;
      same_others = rw (passed, append_assoc) (ap (λ us. take at ws ++ us) (sym others) ∙ s.same_others);
      passed = rw passed (oldest_ready-append test (take at ws) (w ∷ []) s.passed ∙ rw fails refl);
    }

-- an instruction at the place that is ready and passes is the one found, and leaves the others
pub Searching-found : (test : Waiting → Bool) (ws : List Waiting) (at : ℕ) (w : Waiting) → slice_get ws at ≡ Some w →
    (is_ready w && test w) ≡ true → Searching test ws at → (oldest_ready test ws ≡ slice_get ws at) ×
    (without_oldest_ready test ws ≡ remove ws at)
Searching-found test ws at w is passes s =
    let here = drop_at_get ws at w is in
    let next : at + 1 ≡ suc at = omega arith in
    let oldest : oldest_ready test (drop at ws) ≡ Some w = rw (here, passes) refl in
    let others : without_oldest_ready test (drop at ws) ≡ drop (suc at) ws =
    rw (here, passes) (ap (λ n. drop n ws) next) in
    (sym s.same_oldest ∙ oldest ∙ sym is, sym s.same_others ∙ ap (λ us. take at ws ++ us) others)

-- from a place on a test fails each load
abbrev pub LoadsFail : (Waiting → Bool) → List Waiting → ℕ → Type 0
LoadsFail test ws at = (k : ℕ) (w : Waiting) → at ≤ k → slice_get ws k ≡ Some w → loads w ≡ true → test w ≡ false

-- an instruction that may not be the one is passed by
pub is_passed_by : (test : Waiting → Bool) (ws : List Waiting) (at : ℕ) (loads_wait : Bool) (w : Waiting) →
    (loads_wait ≡ true → LoadsFail test ws at) → slice_get ws at ≡ Some w → is_asked loads_wait w ≡ false →
    (is_ready w && test w) ≡ false
is_passed_by test ws at loads_wait w fail is unasked = grind (arith, loads, not_false)

-- what is asked is ready
pub ready-asked : (loads_wait : Bool) (found : Option Waiting) → option_map (is_asked loads_wait) found ≡ Some true →
    option_map is_ready found ≡ Some true
ready-asked loads_wait waiting shown = grind (arith, loads)

-- and so from a later one
pub LoadsFail-later : (test : Waiting → Bool) (ws : List Waiting) (at : ℕ) → LoadsFail test ws at →
    LoadsFail test ws (at + 1)
LoadsFail-later test ws at fail = λ k w after is load. fail k w (omega (arith, after)) is load

-- those after a load that waits with all that are younger
pub LoadsFail-after : (test : Waiting → Bool) (ws : List Waiting) (place : ℕ) (w : Waiting) → IsInOrder seq_of ws →
    slice_get ws place ≡ Some w → IsVerdict test w LoadsWait → LoadsFail test ws (place + 1)
LoadsFail-after test ws place w in_order is verdict = λ k other after there load.
    let within = slice_get_within ws k other there in
    let here = get_or_from_slice_get ws place w some_waiting is in
    let later = get_or_from_slice_get ws k other some_waiting there in
    let rising = in_order place k some_waiting (omega (arith, after)) within in
    verdict.1 other (rw (here, later) at rising) load

-- from a later place on too
pub LoadsFail-from : (test : Waiting → Bool) (ws : List Waiting) (at to : ℕ) → at ≤ to → LoadsFail test ws at →
    LoadsFail test ws to
LoadsFail-from test ws at to later fail = λ k w after is load. fail k w (omega (arith, later, after)) is load

-- each of the instructions that are passed by is not ready, or fails
passed_at : (test : Waiting → Bool) (n : ℕ) (ws : List Waiting) → ArePassedBy test n ws → (k : ℕ) (w : Waiting) →
    k < n → slice_get ws k ≡ Some w → (is_ready w && test w) ≡ false
passed_at test zero ws passed k w low is = absurd (omega arith)
passed_at test (suc n) [] passed k w low is = cc
passed_at test (suc n) (v ∷ vs) passed zero w low is = grind arith
passed_at test (suc n) (v ∷ vs) passed (suc k) w low is = elim (cases_Bool (is_ready v && test v)) [
  | inl passes ↦ let found : Some v ≡ None = rw passes at passed in absurd (cc)
  | inr fails ↦ passed_at test n vs (rw fails at passed) k w (omega (arith, low)) is
]

-- and where each is not, they are passed by
passed_from : (test : Waiting → Bool) (n : ℕ) (ws : List Waiting) →
    ((k : ℕ) (w : Waiting) → k < n → slice_get ws k ≡ Some w → (is_ready w && test w) ≡ false) → ArePassedBy test n ws
passed_from test zero ws fail = refl
passed_from test (suc n) [] fail = refl
passed_from test (suc n) (w ∷ ws) fail =
    rw (fail 0 w (omega arith) refl) (passed_from test n ws (λ k v low is. fail (suc k) v (omega (arith, low)) is))

-- what is not asked is passed by
pub passed_unasked : (test : Waiting → Bool) (ws : List Waiting) (at to : ℕ) (loads_wait : Bool) →
    ((k : ℕ) → at ≤ k → k < to → option_map (is_asked loads_wait) (slice_get ws k) ≡ Some false) →
    (loads_wait ≡ true → LoadsFail test ws at) → ArePassedBy test at ws → ArePassedBy test to ws
passed_unasked test ws at to loads_wait unasked fail passed =
    grind (arith, passed_from, passed_at, is_passed_by, LoadsFail-from)

-- one more is passed by
pub passed_next : (test : Waiting → Bool) (ws : List Waiting) (at : ℕ) (w : Waiting) → slice_get ws at ≡ Some w →
    (is_ready w && test w) ≡ false → ArePassedBy test at ws → ArePassedBy test (at + 1) ws
passed_next test ws at w is fails passed =
    (Searching-pass test ws at w is fails (Searching-from test at ws passed)).passed

-- where all are passed by, none is found
pub passed_whole : (test : Waiting → Bool) (at : ℕ) (ws : List Waiting) → ArePassedBy test at ws → length ws ≤ at →
    (oldest_ready test ws ≡ None) × (without_oldest_ready test ws ≡ ws)
passed_whole test at [] passed whole = (refl, refl)
passed_whole test zero (w ∷ ws) passed whole = absurd (omega arith)
passed_whole test (suc at) (w ∷ ws) passed whole = elim (cases_Bool (is_ready w && test w)) [
  | inl passes ↦ let found : Some w ≡ None = rw passes at passed in absurd (cc)
  | inr fails ↦
      let rest = passed_whole test at ws (rw fails at passed) (omega arith) in
      (rw fails rest.0, rw fails (ap (λ us. w ∷ us) rest.1))
]
