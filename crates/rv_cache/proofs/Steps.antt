-- What each call keeps of a cache's fields.
use Rattle.std.proofs.Common.{◌≡◌, ◌≢◌, ℕ, ◌+◌, ◌-◌, ◌/◌, ◌%◌, ◌<◌, ◌≤◌, ◌⊎◌, Bool, true, List}
use Rattle.std.proofs.Common.{[], length, get_or, set, map, replicate, Option, Some, None, refl}
use Rattle.std.proofs.Common.{sym, ap, subst, ◌∙◌, inl, inr, arith, length-set, get_or-set_other}
use Rattle.std.specs.Option.{IfSome}
use Rattle.std.proofs.Math.Nat.{mod-lt}
use Rattle.std.proofs.lemmas.List.{ext_get_or, length-map, length-replicate}
use Rattle.std.proofs.lemmas.Bool.{cases_lt, cases_eq, cases_Bool, false≢true}
use Rattle.std.proofs.lemmas.Grind.{get_or-set_at}
use Rattle.rv_isa.specs.declared.values.CacheValues.{CacheValues}
use Rattle.rv_memory.specs.Bytes.{overwritten}
use Rattle.rv_cache.specs.declared.line.CacheLine.{CacheLine}
use Rattle.rv_cache.specs.Line.{is_dirty, cleaned}
use Rattle.rv_cache.specs.Replacement.{accessed, victim}
use Rattle.rv_cache.specs.Cache.{Contents, accessed_sets}
use Rattle.rv_cache.specs.WriteBack.{IsInside, AreInside, victim_written, sets_written}
use Rattle.rv_cache.specs.Consistent.{IsDivided, AreFilled, IsInStep, IsConsistent}
use Rattle.rv_cache.proofs.Replacement.{Each-accessed, Each-victim, length-accessed}
use Rattle.rv_cache.proofs.Replacement.{dropped_line, is_dirty_written, not_accessed}
use Rattle.rv_cache.proofs.Sets.{Each-at, Each-set, Each-map, Each-replicate}
use Rattle.rv_cache.proofs.Written.{IsToCome, line_wins, victim_either, length-victim_written, length-sets_written}
use Rattle.rv_cache.proofs.Written.{sets_win, length-overwritten, get_or-overwritten_below, get_or-overwritten_above}
use Rattle.rv_cache.proofs.Divided.{line_inside, same_line}

module _ (base line_bytes : ℕ) (bytes : List ℕ) (positive : 0 < line_bytes) where
  -- a byte of a dirty line that is dropped is then the one that a program sees
  victim_wins : (dropped : Option CacheLine) (memory : List ℕ) →
      IfSome dropped (λ line. IsInside base line_bytes (length bytes) line.number) → length memory ≡ length bytes →
      (i : ℕ) → IsToCome base line_bytes bytes positive memory i
      ((line : CacheLine) × (dropped ≡ Some line) × (line.number ≡ (base + i) / line_bytes) × (line.dirty ≡ true)) →
      get_or (victim_written base line_bytes bytes dropped memory) i 0 ≡ get_or bytes i 0
  victim_wins dropped memory inside size i (inl same) =
      elim (victim_either base line_bytes bytes positive dropped memory inside size i) [
        | inl stays ↦ stays
            ∙ same
        | inr seen ↦ seen.0
      ]
  victim_wins None memory inside size i (inr own) = absurd (cc (own.1))
  victim_wins (Some line) memory inside size i (inr own) =
      let is : line ≡ own.0 = cc (own.1) in
      line_wins base line_bytes bytes positive line memory inside size i
      (inr (ap (λ (l : CacheLine). l.number) is ∙ own.2, ap (λ (l : CacheLine). l.dirty) is ∙ own.3))

module _ (base : ℕ) (values : CacheValues) (bytes memory : List ℕ) (sets : List (List CacheLine))
    (was : IsConsistent base values bytes sets memory) where
  pub positive : 0 < values.line
  positive = omega (arith, was.divided.legal.0.line.0)

  some_sets : 0 < values.sets
  some_sets = omega (arith, was.divided.legal.0.sets.0)

  -- the place of a line's set is one of those that the cache has
  pub place_in : (number : ℕ) → number % values.sets < length sets
  place_in number = omega (arith, mod-lt number some_sets, was.filled.count)

  pub room_at : (number : ℕ) → length (get_or sets (number % values.sets) []) ≤ values.ways
  room_at number = Each-at (λ lines. length lines ≤ values.ways) sets (number % values.sets) []
      (omega arith) was.filled.room

  inside_at : (number : ℕ) → AreInside base values.line (length bytes) (get_or sets (number % values.sets) [])
  inside_at number = Each-at (AreInside base values.line (length bytes)) sets (number % values.sets)
      [] tt was.filled.inside

  -- a line that its set drops for another lies in memory as a whole
  pub dropped_inside : (number : ℕ) →
      IfSome (victim values.ways number (get_or sets (number % values.sets) []))
      (λ line. IsInside base values.line (length bytes) line.number)
  dropped_inside number = Each-victim values.ways number _
      (λ line. IsInside base values.line (length bytes) line.number) (inside_at number)

  module _ (address : ℕ) (above : base ≤ address) (below : address < base + length bytes) (writes : Bool) where
    abbrev number : ℕ
    number = address / values.line

    abbrev place : ℕ
    place = number % values.sets

    abbrev lines : List CacheLine
    lines = get_or sets place []

    abbrev after : List CacheLine
    after = accessed values.ways number writes lines

    abbrev dropped : Option CacheLine
    dropped = victim values.ways number lines

    pub length_after : length (victim_written base values.line bytes dropped memory) ≡ length bytes
    length_after = length-victim_written base values.line bytes positive dropped memory (dropped_inside number) was.size

    filled_after : AreFilled base values (length bytes) (set sets place after)
    filled_after =
        let own = line_inside base (length bytes) values.line address positive was.divided.base_aligned
        was.divided.whole_lines above below in
        record {
          count = length-set sets place after ∙ was.filled.count;
          room =
              Each-set (λ ls. length ls ≤ values.ways) sets place after
              (length-accessed values.ways number lines writes (room_at number)) was.filled.room;
          inside =
              Each-set (AreInside base values.line (length bytes)) sets place after
              (Each-accessed values.ways number lines writes
              (λ line. IsInside base values.line (length bytes) line.number) (λ dirty. own) (inside_at number))
              was.filled.inside;
        }

    in_step_after : IsInStep base values bytes (set sets place after)
        (victim_written base values.line bytes dropped memory)
    in_step_after i within clean =
        let q = (base + i) / values.line in
        let other_place = q % values.sets in
        victim_wins base values.line bytes positive dropped memory (dropped_inside number) was.size i
        (elim (cases_eq other_place place) [
          | inr other ↦ inl (was.in_step i
              within (sym (ap (is_dirty q) (get_or-set_other sets place other_place after [] other)) ∙ clean))
          | inl same ↦
              let here = get_or-set_at sets place other_place after [] same (place_in number) in
              let clean_after = sym (ap (is_dirty q) here) ∙ clean in
              elim (cases_Bool (is_dirty q lines)) [
                | inr clean_before ↦ inl
                    (was.in_step i within (ap (λ n. is_dirty q (get_or sets n [])) same ∙ clean_before))
                | inl dirty ↦ inr (dropped_line values.ways number lines writes q was.divided.legal.0.ways.0
                    (room_at number) dirty clean_after)
              ]
        ])

    -- each byte of memory stays, or is the one that a program sees and lies in another line
    pub updated_elsewhere : (i : ℕ) → (get_or (victim_written base values.line bytes dropped memory) i 0
        ≡ get_or memory i 0)
        ⊎ ((get_or (victim_written base values.line bytes dropped memory) i 0 ≡ get_or bytes i 0)
        × ((base + i) / values.line ≢ number))
    updated_elsewhere i = elim (victim_either base values.line bytes positive dropped memory
        (dropped_inside number) was.size i) [
          | inl stays ↦ inl stays
          | inr seen ↦ inr (seen.0, λ own. not_accessed values.ways number lines seen.1 seen.2 (sym seen.3 ∙ own))
        ]

    -- an access keeps the fields consistent
    pub consistent_after : IsConsistent base values bytes (set sets place after)
        (victim_written base values.line bytes dropped memory)
    consistent_after = record {
      divided = was.divided;
      filled = filled_after;
      size = length_after;
      in_step = in_step_after;
    }

  -- a line that was just written is dirty
  dirty_after_write : (number : ℕ) (old_sets : List (List CacheLine)) (lines : List CacheLine) →
      sets ≡ set old_sets (number % values.sets) (accessed values.ways number true lines) →
      is_dirty number (get_or sets (number % values.sets) []) ≡ true
  dirty_after_write number old_sets lines is =
      let place = number % values.sets in
      let now = accessed values.ways number true lines in
      let same_count = ap length is ∙ length-set old_sets place now in
      ap (λ (ss : List (List CacheLine)). is_dirty number (get_or ss place [])) is
      ∙ ap (is_dirty number) (get_or-set_at old_sets place place now [] refl
      (omega (arith, place_in number, same_count)))
      ∙ is_dirty_written values.ways number lines was.divided.legal.0.ways.0

  -- after an access that writes, the line of its address is dirty
  pub dirty_after_access : {M : Type 0} (old : Contents M) (address : ℕ) → values ≡ old.values →
      sets ≡ accessed_sets old address true →
      is_dirty (address / values.line) (get_or sets (address / values.line % values.sets) []) ≡ true
  dirty_after_access old address same_values is =
      let Accessed = λ (v : CacheValues). sets
      ≡ set old.sets (address / v.line % v.sets)
      (accessed v.ways (address / v.line) true (get_or old.sets (address / v.line % v.sets) [])) in
      dirty_after_write (address / values.line) old.sets (get_or old.sets (address / values.line % values.sets) [])
      (subst Accessed (sym same_values) is)

  module _ (address : ℕ) (written : List ℕ)
      (width : (length written ≡ 1) ⊎ ((length written ≡ 2) ⊎ (length written ≡ 4)))
      (aligned : address % length written ≡ 0) (above : base ≤ address)
      (below : address + length written ≤ base + length bytes) where
    -- bytes that are written into a dirty line
    pub consistent_written : is_dirty (address / values.line) (get_or sets (address / values.line % values.sets) [])
        ≡ true → IsConsistent base values (overwritten bytes (address - base) written) sets memory
    consistent_written dirty =
        let at = address - base in
        let fits : at + length written ≤ length bytes = omega arith in
        let same = length-overwritten bytes written at fits in
        record {
          divided = subst (λ n. IsDivided base values n) (sym same) was.divided;
          filled = subst (λ n. AreFilled base values n sets) (sym same) was.filled;
          size = was.size ∙ sym same;
          in_step = λ i within clean. elim (cases_lt i at) [
            | inl before ↦ was.in_step i (omega (arith, same)) clean
                ∙ sym (get_or-overwritten_below bytes written at fits i before)
            | inr from ↦ elim (cases_lt i (at + length written)) [
              | inr behind ↦ was.in_step i (omega (arith, same)) clean
                  ∙ sym (get_or-overwritten_above bytes written at fits i behind)
              | inl here ↦
                  let place_of_byte : base + i ≡ address + (i - at) = omega arith in
                  let own : (base + i) / values.line ≡ address / values.line = ap (λ n. n / values.line) place_of_byte
                  ∙ same_line values.line address (length written) (i - at) positive was.divided.words width
                  aligned (omega arith) in
                  absurd (false≢true (sym clean ∙ ap (λ n. is_dirty n (get_or sets (n % values.sets) [])) own ∙ dirty))
            ]
          ];
        }

    -- of bytes that are written into a line, those of other lines stay
    pub written_elsewhere : (i : ℕ) → ((base + i) / values.line ≢ address / values.line) →
        get_or bytes i 0 ≡ get_or (overwritten bytes (address - base) written) i 0
    written_elsewhere i other =
        let at = address - base in
        let fits : at + length written ≤ length bytes = omega arith in
        elim (cases_lt i at) [
          | inl before ↦ sym (get_or-overwritten_below bytes written at fits i before)
          | inr from ↦ elim (cases_lt i (at + length written)) [
            | inr behind ↦ sym (get_or-overwritten_above bytes written at fits i behind)
            | inl here ↦
                let place_of_byte : base + i ≡ address + (i - at) = omega arith in
                absurd (other
                (ap (λ n. n / values.line) place_of_byte
                ∙ same_line values.line address (length written)
                (i - at) positive was.divided.words width aligned (omega arith)))
          ]
        ]

  -- once all dirty lines are written, memory is what a program sees
  pub memory_written : sets_written base values.line bytes sets memory ≡ bytes
  memory_written =
      let size = length-sets_written base values.line bytes positive sets memory was.filled.inside was.size in
      ext_get_or 0 _ _ size (λ i within.
      let q = (base + i) / values.line in
      sets_win base values.line bytes positive sets memory was.filled.inside was.size i (q % values.sets)
      (elim (cases_Bool (is_dirty q (get_or sets (q % values.sets) [])))
      [ inl dirty ↦ inr dirty | inr clean ↦ inl (was.in_step i (omega (arith, size)) clean) ]))

  -- a cache whose lines are all cleaned is consistent with a memory that holds what a program sees
  pub consistent_cleaned : (now : List ℕ) → now ≡ bytes → IsConsistent base values bytes (map (map cleaned) sets) now
  consistent_cleaned now same = record {
    divided = was.divided;
    filled = record {
      count = length-map sets (map cleaned) ∙ was.filled.count;
      room =
          Each-map (λ lines. length lines ≤ values.ways) (map cleaned)
          (λ lines fits. omega (arith, length-map lines cleaned)) sets was.filled.room;
      inside =
          Each-map (AreInside base values.line (length bytes)) (map cleaned)
          (Each-map (λ line. IsInside base values.line (length bytes) line.number) cleaned (λ line is. is)) sets
          was.filled.inside;
    };
    size = ap length same;
    in_step = λ i within clean. ap (λ (xs : List ℕ). get_or xs i 0) same;
  }

-- a cache that holds no line
pub consistent_new : (base : ℕ) (values : CacheValues) (bytes : List ℕ) → IsDivided base values (length bytes) →
    IsConsistent base values bytes (replicate values.sets []) bytes
consistent_new base values bytes divided = record {
  divided = divided;
  filled = record {
    count = length-replicate values.sets [];
    room = Each-replicate (λ lines. length lines ≤ values.ways) values.sets [] (omega arith);
    inside = Each-replicate (AreInside base values.line (length bytes)) values.sets [] tt;
  };
  size = refl;
  in_step = λ i within clean. refl;
}
