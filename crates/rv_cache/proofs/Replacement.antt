-- The laws of the rule of replacement: what the other proofs know of an access.
use Rattle.std.proofs.Common.{◌≡◌, ℕ, ◌+◌, ◌-◌, ◌≤◌, Bool, true, false, not, nat_eq, List, [], ◌∷◌, ◌&&◌, ◌||◌}
use Rattle.std.proofs.Common.{length, take, Some, suc, zero, refl, sym, ap, ◌∙◌, inl, inr, arith, length-take}
use Rattle.std.specs.List.{slice_get}
use Rattle.std.specs.Option.{IfSome}
use Rattle.std.proofs.lemmas.List.{nil_from_length}
use Rattle.std.proofs.lemmas.List.Elements.{filter_passes}
use Rattle.std.proofs.lemmas.List.Filters.{length-filter_both}
use Rattle.std.proofs.lemmas.Option.{slice_get_within, get_or_from_slice_get}
use Rattle.std.proofs.lemmas.Bool.{cases_Bool, cases_eq, and_from, or_left, or_right, or_parts}
use Rattle.std.proofs.lemmas.Bool.{not-true, eqb-true, eqb-false, eq-eqb, ne_eqb, false≢true}
use Rattle.rv_cache.specs.declared.line.CacheLine.{CacheLine}
use Rattle.rv_cache.specs.Line.{is_dirty}
use Rattle.rv_cache.specs.Replacement.{without, accessed, victim}
use Rattle.rv_cache.specs.WriteBack.{Each}
use Rattle.rv_cache.proofs.Sets.{Each-filter, Each-slice_get, Each-take}
use Rattle.rv_cache.proofs.Written.{is_dirty_cases}

is_dirty-without : (number q : ℕ) (lines : List CacheLine) → (number ≡ q → ⊥) →
    is_dirty q (without number lines) ≡ is_dirty q lines
is_dirty-without number q [] other = refl
is_dirty-without number q (line ∷ lines) other = elim (cases_Bool (nat_eq line.number number)) [
  | inl same ↦ rw (same, ne_eqb line.number q (λ e. other (sym (eqb-true line.number number same) ∙ e)))
      (is_dirty-without number q lines other)
  | inr differs ↦ rw differs (ap (λ b. nat_eq line.number q && line.dirty || b) (is_dirty-without number q lines other))
]

-- a dirty line that the first n lines lack is the next one
dirty_last : (q n : ℕ) (lines : List CacheLine) → length lines ≤ n + 1 → is_dirty q lines ≡ true →
    is_dirty q (take n lines) ≡ false →
    (line : CacheLine) × (slice_get lines n ≡ Some line) × (line.number ≡ q) × (line.dirty ≡ true)
dirty_last q n [] short dirty gone = absurd (false≢true dirty)
dirty_last q zero (line ∷ lines) short dirty gone = elim (is_dirty_cases q line lines dirty) [
  | inl own ↦ (line, refl, own.0, own.1)
  | inr later ↦ absurd (false≢true (sym (ap (is_dirty q) (nil_from_length lines (omega arith))) ∙ later))
]
dirty_last q (suc n) (line ∷ lines) short dirty gone =
    let first = or_parts (nat_eq line.number q && line.dirty) (is_dirty q (take n lines)) gone in
    dirty_last q n lines (omega arith) (ap (λ b. b || is_dirty q lines) (sym first.0) ∙ dirty) first.1

module _ (ways number : ℕ) (lines : List CacheLine) where
  -- a line that is dropped was held
  pub Each-victim : (P : CacheLine → Type 0) → Each P lines → IfSome (victim ways number lines) P
  Each-victim P each = Each-slice_get P (without number lines) (ways - 1) (Each-filter P _ lines each)

  -- and is another one than the line that is accessed
  pub not_accessed : (line : CacheLine) → victim ways number lines ≡ Some line → line.number ≡ number → ⊥
  not_accessed line dropped =
      let others = without number lines in
      let kept = filter_passes (λ (l : CacheLine). not (nat_eq l.number number)) lines (ways - 1) line
      (slice_get_within others (ways - 1) line dropped) in
      eqb-false line.number number (not-true _ (rw (get_or_from_slice_get others (ways - 1) line line dropped) at kept))

  module _ (writes : Bool) where
    -- a line that is held then was held, or is the one that is accessed
    pub Each-accessed : (P : CacheLine → Type 0) → ((dirty : Bool) → P (record { number = number; dirty = dirty })) →
        Each P lines → Each P (accessed ways number writes lines)
    Each-accessed P own each = Each-take P ways _ (own (writes || is_dirty number lines), Each-filter P _ lines each)

    -- a set still holds no more lines than it may
    pub length-accessed : length lines ≤ ways → length (accessed ways number writes lines) ≤ ways
    length-accessed room =
        omega (
          arith,
          length-take ways
              (record { number = number; dirty = writes || is_dirty number lines } ∷ without number lines),
        )

    -- the line that is accessed is the first, and the others have the places that are left
    pub accessed-first : 1 ≤ ways → record { number = number; dirty = writes || is_dirty number lines }
        ∷ take (ways - 1) (without number lines) ≡ accessed ways number writes lines
    accessed-first positive =
        let next : suc (ways - 1) ≡ ways = omega arith in
        ap (λ n. take n (record { number = number; dirty = writes || is_dirty number lines }
        ∷ without number lines)) next

    -- a dirty line that a set then lacks is the one that it dropped
    pub dropped_line : (q : ℕ) → 1 ≤ ways → length lines ≤ ways → is_dirty q lines ≡ true →
        is_dirty q (accessed ways number writes lines) ≡ false →
        (line : CacheLine) × (victim ways number lines ≡ Some line) × (line.number ≡ q) × (line.dirty ≡ true)
    dropped_line q positive room dirty gone =
        let lacks = or_parts (nat_eq number q && (writes || is_dirty number lines)) _
        (ap (is_dirty q) (accessed-first positive) ∙ gone) in
        elim (cases_eq number q) [
          | inl same ↦
              let dirty_still = and_from _ _ (eq-eqb number q same)
              (or_right writes (is_dirty number lines) (ap (λ n. is_dirty n lines) same ∙ dirty)) in
              absurd (false≢true (sym lacks.0 ∙ dirty_still))
          | inr other ↦
              let fewer = length-filter_both (λ (l : CacheLine). nat_eq l.number number)
              (λ l. not (nat_eq l.number number)) (λ l. refl) lines in
              dirty_last q (ways - 1) (without number lines) (omega (arith, fewer))
              (is_dirty-without number q lines other ∙ dirty) lacks.1
        ]

  -- a write makes its line dirty
  pub is_dirty_written : 1 ≤ ways → is_dirty number (accessed ways number true lines) ≡ true
  is_dirty_written positive = ap (is_dirty number) (sym (accessed-first true positive))
      ∙ or_left _ _ (and_from _ _ (eq-eqb number number refl) refl)
