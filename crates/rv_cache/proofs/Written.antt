-- The bytes of memory once lines were written to it.
use Rattle.std.proofs.Common.{◌≡◌, ℕ, ◌+◌, ◌-◌, ◌*◌, ◌/◌, ◌<◌, ◌≤◌, ◌⊎◌, true, false, List, [], ◌∷◌, ◌++◌}
use Rattle.std.proofs.Common.{length, get_or, take, drop, Option, Some, None, suc, zero, refl, ap, ◌∙◌, inl}
use Rattle.std.proofs.Common.{inr, arith, length-take-le, length-append, length-drop, get_or-drop, get_or-take}
use Rattle.std.specs.List.{slice_range}
use Rattle.std.specs.Option.{IfSome}
use Rattle.std.proofs.lemmas.List.{get_or_append_left, get_or-append_right}
use Rattle.std.proofs.lemmas.List.Edits.{length-between, get_or-between}
use Rattle.std.proofs.lemmas.Bool.{cases_lt, cases_Bool, or_cases, and_parts}
use Rattle.std.proofs.lemmas.Bool.{cond-true, cond-false, eqb-true, false≢true}
use Rattle.std.proofs.lemmas.Nat.{div-add-mod', div-mul-add}
use Rattle.rv_memory.specs.Bytes.{overwritten}
use Rattle.rv_cache.specs.declared.line.CacheLine.{CacheLine}
use Rattle.rv_cache.specs.Line.{is_dirty}
use Rattle.rv_cache.specs.WriteBack.{IsInside, AreInside, Each, offset_of, line_written}
use Rattle.rv_cache.specs.WriteBack.{victim_written, lines_written, sets_written}

module _ (xs ys : List ℕ) (at : ℕ) (fits : at + length ys ≤ length xs) where
  -- bytes written within a list leave its length
  pub length-overwritten : length (overwritten xs at ys) ≡ length xs
  length-overwritten =
      let front : at ≤ length xs = omega arith in
      simp (length-append, length-drop) (omega (arith, length-take-le at xs front))

  -- in the range that was written, the written byte is read
  pub get_or-overwritten_in : (k : ℕ) → at ≤ k → k < at + length ys → get_or (overwritten xs at ys) k 0
      ≡ get_or ys (k - at) 0
  get_or-overwritten_in k low high =
      get_or-append_right (take at xs) (ys ++ drop (at + length ys) xs) at k 0 (length-take-le at xs (omega arith)) low
      ∙ get_or_append_left ys (drop (at + length ys) xs) 0 (k - at) (omega arith)

  -- a byte before those that are written stays
  pub get_or-overwritten_below : (k : ℕ) → k < at → get_or (overwritten xs at ys) k 0 ≡ get_or xs k 0
  get_or-overwritten_below k low =
      get_or_append_left (take at xs) (ys ++ drop (at + length ys) xs) 0 k
      (omega (arith, length-take-le at xs (omega arith)))
      ∙ get_or-take at xs k 0 low

  -- a byte after those that are written stays
  pub get_or-overwritten_above : (k : ℕ) → at + length ys ≤ k → get_or (overwritten xs at ys) k 0 ≡ get_or xs k 0
  get_or-overwritten_above k high =
      get_or-append_right (take at xs) (ys ++ drop (at + length ys) xs) at k 0
      (length-take-le at xs (omega arith)) (omega arith)
      ∙ get_or-append_right ys (drop (at + length ys) xs) (length ys) (k - at) 0 refl (omega arith)
      ∙ get_or-drop (at + length ys) xs (k - at - length ys) 0
      ∙ ap (λ j. get_or xs j 0) (omega arith)

-- a byte's line, and where it begins
pub in_line : (base line_bytes i number : ℕ) → 0 < line_bytes → base ≤ number * line_bytes →
    number ≡ (base + i) / line_bytes → (number * line_bytes - base ≤ i) × (i < number * line_bytes - base + line_bytes)
in_line base line_bytes i number positive from is =
    let whole = div-add-mod' (base + i) line_bytes in
    let start : number * line_bytes ≡ (base + i) / line_bytes * line_bytes = ap (λ n. n * line_bytes) is in
    (omega (arith, whole, start), omega (arith, whole, start))

-- the line that is dirty is the first, or a later one
pub is_dirty_cases : (number : ℕ) (line : CacheLine) (lines : List CacheLine) → is_dirty number (line ∷ lines) ≡ true →
    ((line.number ≡ number) × (line.dirty ≡ true)) ⊎ (is_dirty number lines ≡ true)
is_dirty_cases number line lines dirty = elim (or_cases _ _ dirty) [
  | inl own ↦ let parts = and_parts _ _ own in inl (eqb-true line.number number parts.0, parts.1)
  | inr later ↦ inr later
]

module _ (base line_bytes : ℕ) (bytes : List ℕ) (positive : 0 < line_bytes) where
  -- the byte is memory's already, or its line is dirty
  abbrev pub IsToCome : List ℕ → ℕ → Type 0 → Type 0
  IsToCome memory i dirty = (get_or memory i 0 ≡ get_or bytes i 0) ⊎ dirty

  abbrev pub IsLineOf : CacheLine → ℕ → Type 0
  IsLineOf line i = (line.number ≡ (base + i) / line_bytes) × (line.dirty ≡ true)

  module _ (line : CacheLine) (memory : List ℕ) (inside : IsInside base line_bytes (length bytes) line.number)
      (size : length memory ≡ length bytes) where
    abbrev block : List ℕ
    block = slice_range bytes (offset_of base line_bytes line.number)
        (offset_of base line_bytes line.number + line_bytes)

    length-block : length block ≡ line_bytes
    length-block =
        length-between bytes (offset_of base line_bytes line.number)
        (offset_of base line_bytes line.number + line_bytes) (omega arith) ∙ omega arith

    written : line.dirty ≡ true → line_written base line_bytes bytes line memory
        ≡ overwritten memory (offset_of base line_bytes line.number) block
    written dirty = cond-true line.dirty _ memory dirty

    kept : line.dirty ≡ false → line_written base line_bytes bytes line memory ≡ memory
    kept clean = cond-false line.dirty _ memory clean

    pub length-line_written : length (line_written base line_bytes bytes line memory) ≡ length bytes
    length-line_written = elim (cases_Bool line.dirty) [
      | inl dirty ↦ ap length (written dirty) ∙ length-overwritten memory block (offset_of base line_bytes line.number)
          (omega (arith, length-block)) ∙ size
      | inr clean ↦ ap length (kept clean) ∙ size
    ]

    -- each byte stays, or is the one that a program sees and lies in the line
    pub line_either : (i : ℕ) → (get_or (line_written base line_bytes bytes line memory) i 0 ≡ get_or memory i 0)
        ⊎ ((get_or (line_written base line_bytes bytes line memory) i 0 ≡ get_or bytes i 0)
        × ((base + i) / line_bytes ≡ line.number))
    line_either i = elim (cases_Bool line.dirty) [
      | inr clean ↦ inl (ap (λ (xs : List ℕ). get_or xs i 0) (kept clean))
      | inl dirty ↦
          let off = offset_of base line_bytes line.number in
          let fits : off + length block ≤ length memory = omega (arith, length-block) in
          let start = ap (λ (xs : List ℕ). get_or xs i 0) (written dirty) in
          elim (cases_lt i off) [
            | inl below ↦ inl (start ∙ get_or-overwritten_below memory block off fits i below)
            | inr from ↦ elim (cases_lt i (off + line_bytes)) [
              | inr above ↦ inl (start ∙ get_or-overwritten_above memory block off fits i (omega (arith, length-block)))
              | inl here ↦
                  let place : base + i ≡ line.number * line_bytes + (i - off) = omega arith in
                  let own = ap (λ n. n / line_bytes) place
                  ∙ div-mul-add line.number line_bytes (i - off) (omega arith) in
                  inr (
                    start
                        ∙ get_or-overwritten_in memory block off fits i from (omega (arith, length-block))
                        ∙ get_or-between bytes off (off + line_bytes) (i - off) 0 (omega arith)
                        ∙ ap (λ j. get_or bytes j 0) (omega arith),
                    own,
                  )
            ]
          ]
    ]

    -- a byte of a dirty line is then the one that a program sees
    pub line_wins : (i : ℕ) → IsToCome memory i (IsLineOf line i) →
        get_or (line_written base line_bytes bytes line memory) i 0 ≡ get_or bytes i 0
    line_wins i (inl same) = elim (line_either i) [ inl stays ↦ stays ∙ same | inr seen ↦ seen.0 ]
    line_wins i (inr own) =
        let off = offset_of base line_bytes line.number in
        let fits : off + length block ≤ length memory = omega (arith, length-block) in
        let place = in_line base line_bytes i line.number positive inside.0 own.0 in
        ap (λ (xs : List ℕ). get_or xs i 0) (written own.1)
        ∙ get_or-overwritten_in memory block off fits i place.0 (omega (arith, length-block))
        ∙ get_or-between bytes off (off + line_bytes) (i - off) 0 (omega arith)
        ∙ ap (λ j. get_or bytes j 0) (omega arith)

  pub length-lines_written : (lines : List CacheLine) (memory : List ℕ) →
      AreInside base line_bytes (length bytes) lines → length memory ≡ length bytes →
      length (lines_written base line_bytes bytes lines memory) ≡ length bytes
  length-lines_written [] memory inside size = size
  length-lines_written (line ∷ lines) memory inside size =
      length-lines_written lines _ inside.1 (length-line_written line memory inside.0 size)

  pub lines_win : (lines : List CacheLine) (memory : List ℕ) → AreInside base line_bytes (length bytes) lines →
      length memory ≡ length bytes → (i : ℕ) → IsToCome memory i (is_dirty ((base + i) / line_bytes) lines ≡ true) →
      get_or (lines_written base line_bytes bytes lines memory) i 0 ≡ get_or bytes i 0
  lines_win [] memory inside size i (inl same) = same
  lines_win [] memory inside size i (inr dirty) = absurd (false≢true dirty)
  lines_win (line ∷ lines) memory inside size i to_come =
      lines_win lines _ inside.1 (length-line_written line memory inside.0 size) i (elim to_come [
        | inl same ↦ inl (line_wins line memory inside.0 size i (inl same))
        | inr dirty ↦ elim (is_dirty_cases ((base + i) / line_bytes) line lines dirty) [
          | inl own ↦ inl (line_wins line memory inside.0 size i (inr own))
          | inr later ↦ inr later
        ]
      ])

  -- memory has as many bytes as before once the dirty lines of all sets are written
  pub length-sets_written : (sets : List (List CacheLine)) (memory : List ℕ) →
      Each (AreInside base line_bytes (length bytes)) sets → length memory ≡ length bytes →
      length (sets_written base line_bytes bytes sets memory) ≡ length bytes
  length-sets_written [] memory inside size = size
  length-sets_written (lines ∷ sets) memory inside size =
      length-sets_written sets _ inside.1 (length-lines_written lines memory inside.0 size)

  -- once all sets are written, memory has a byte as a program sees it, if it did before or a set has its line dirty
  pub sets_win : (sets : List (List CacheLine)) (memory : List ℕ) →
      Each (AreInside base line_bytes (length bytes)) sets → length memory ≡ length bytes → (i k : ℕ) →
      IsToCome memory i (is_dirty ((base + i) / line_bytes) (get_or sets k []) ≡ true) →
      get_or (sets_written base line_bytes bytes sets memory) i 0 ≡ get_or bytes i 0
  sets_win [] memory inside size i k (inl same) = same
  sets_win [] memory inside size i k (inr dirty) = absurd (false≢true dirty)
  sets_win (lines ∷ sets) memory inside size i zero to_come =
      sets_win sets _ inside.1 (length-lines_written lines memory inside.0 size) i zero
      (inl (lines_win lines memory inside.0 size i to_come))
  sets_win (lines ∷ sets) memory inside size i (suc k) (inl same) =
      sets_win sets _ inside.1 (length-lines_written lines memory inside.0 size) i k
      (inl (lines_win lines memory inside.0 size i (inl same)))
  sets_win (lines ∷ sets) memory inside size i (suc k) (inr dirty) =
      sets_win sets _ inside.1 (length-lines_written lines memory inside.0 size) i k (inr dirty)

  -- memory has as many bytes as before once a dropped line is written
  pub length-victim_written : (victim : Option CacheLine) (memory : List ℕ) →
      IfSome victim (λ line. IsInside base line_bytes (length bytes) line.number) → length memory ≡ length bytes →
      length (victim_written base line_bytes bytes victim memory) ≡ length bytes
  length-victim_written None memory inside size = size
  length-victim_written (Some line) memory inside size = length-line_written line memory inside size

  -- each byte stays where a dropped line is written, or is as a program sees it and lies in that line
  pub victim_either : (victim : Option CacheLine) (memory : List ℕ) →
      IfSome victim (λ line. IsInside base line_bytes (length bytes) line.number) → length memory ≡ length bytes →
      (i : ℕ) → (get_or (victim_written base line_bytes bytes victim memory) i 0 ≡ get_or memory i 0)
      ⊎ ((get_or (victim_written base line_bytes bytes victim memory) i 0 ≡ get_or bytes i 0) × (line : CacheLine)
      × (victim ≡ Some line) × ((base + i) / line_bytes ≡ line.number))
  victim_either None memory inside size i = inl refl
  victim_either (Some line) memory inside size i =
      elim (line_either line memory inside size i)
      [ inl stays ↦ inl stays | inr seen ↦ inr (seen.0, line, refl, seen.1) ]
