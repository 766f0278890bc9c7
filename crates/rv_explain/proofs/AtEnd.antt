-- The passages at the end of a cycle: those that wait in the fetch buffer come last, and so do those in flight after
-- what left.
use Rattle.std.proofs.Common.{◌≡◌, ◌∙◌, ℕ, zero, suc, ◌+◌, ◌-◌, ◌≤◌, ◌&&◌, nat_lt, not, Bool, true, false}
use Rattle.std.proofs.Common.{List, [], ◌∷◌, ◌++◌, length, filter, map, take, drop, None, MatchOption}
use Rattle.std.proofs.Common.{refl, ap, sym, subst, arith, inl, inr, length-append, length-drop}
use Rattle.std.specs.List.{list_all, slice_get}
use Rattle.std.specs.Option.{option_or}
use Rattle.std.proofs.lemmas.Bool.{cases_Bool}
use Rattle.std.proofs.lemmas.List.{length-map, take-append-drop}
use Rattle.std.proofs.lemmas.List.Elements.{filter-append}
use Rattle.std.proofs.lemmas.List.Sums.{AllPass-from_list_all, count_by-le-length, length-filter}
use Rattle.rv_front.specs.declared.fetched.Fetched.{Fetched}
use Rattle.rv_rob.specs.declared.entry.Entry.{Entry}
use Rattle.rv_hardware.specs.Hardware.{Hardware}
use Rattle.rv_hardware.specs.declared.step.Step.{Step}
use Rattle.rv_passage.specs.Left.{IsUpToYoungestLeft}
use Rattle.rv_passage.specs.Passage.{in_buffers, is_in_flight, of_entry, of_fetched, numbered, squashed_in}
use Rattle.rv_passage.specs.Producers.{standing_at}
use Rattle.rv_passage.specs.Table.{Passages, after_cycle, moved_on, with_steps}
use Rattle.rv_passage.specs.declared.passage.Passage.{Passage}
use Rattle.rv_passage.proofs.Dropped.{all-open, buffers-open}
use Rattle.rv_passage.proofs.InFlight.{length-in_buffers}
use Rattle.rv_passage.proofs.MovesOn.{all-open-moves, as_many-moves, moves_on}
use Rattle.rv_counts.specs.Passing.{has_left}
use Rattle.rv_sentences.specs.Stay.{awaited_word, is_staying, lacks_address, oldest_awaited}
use Rattle.rv_sentences.specs.Stay.{stay_in, stays_among, with_stay, with_stays}
use Rattle.rv_sentences.specs.declared.stays.Stays.{Stays}
use Rattle.rv_explain.specs.AtEnd.{AreAtEnd}

-- no more are in flight than there are
few_open : (rows : List Passage) → length (filter is_in_flight rows) ≤ length rows
few_open rows = omega (arith, length-filter is_in_flight rows, count_by-le-length is_in_flight rows)

-- ---- those that wait in the fetch buffer come last

module _ (cycle : ℕ) where
  abbrev none_stay : List Passage → Type 0
  none_stay ps = list_all (λ p. not (is_staying cycle p)) ps ≡ true

  -- rows of which so many of the last ones do not stay
  record EndsUnstaying (rows : List Passage) (count : ℕ) : Type 0 where
    front : List Passage
    back : List Passage
    rows_are : rows ≡ front ++ back
    many : count ≤ length back
    unstaying : none_stay back

  older_first : (p : Passage) {rows : List Passage} {count : ℕ} →
      EndsUnstaying rows count → EndsUnstaying (p ∷ rows) count
  older_first p ends = record {
    front = p ∷ ends.front;
    back = ends.back;
    rows_are = ap (λ l. p ∷ l) ends.rows_are;
    many = ends.many;
    unstaying = ends.unstaying;
  }

  abbrev words_moved : ℕ → List Passage → List Passage → List Fetched → List Passage
  words_moved number older ps ws = moved_on cycle number older ps (map of_fetched ws)

  fetched_unstaying : (number : ℕ) (older : List Passage) (ws : List Fetched) →
      none_stay (words_moved number older [] ws)
  fetched_unstaying number older [] = refl
  fetched_unstaying number older (w ∷ ws) = fetched_unstaying (number + 1) older ws

  words_unstaying : (number : ℕ) (older ps : List Passage) (ws : List Fetched) →
      none_stay (words_moved number older ps ws)
  words_unstaying number older [] ws = fetched_unstaying number older ws
  words_unstaying number older (p ∷ ps) [] = elim (cases_Bool (is_in_flight p)) [
    | inl flies ↦ rw flies (words_unstaying number (older ++ squashed_in cycle p ∷ []) ps [])
    | inr ended ↦ rw ended (rw ended (words_unstaying number (older ++ p ∷ []) ps []))
  ]
  words_unstaying number older (p ∷ ps) (w ∷ ws) = elim (cases_Bool (is_in_flight p)) [
    | inl flies ↦ elim (cases_Bool (nat_lt w.cycle cycle)) [
      | inl before ↦
          let q = standing_at older (of_fetched w) p in
          rw (flies, before) (words_unstaying number (older ++ q ∷ []) ps ws)
      | inr later ↦
          let q = squashed_in cycle p in
          rw (flies, later) (words_unstaying number (older ++ q ∷ []) ps (w ∷ ws))
    ]
    | inr ended ↦ rw ended (rw ended (words_unstaying number (older ++ p ∷ []) ps (w ∷ ws)))
  ]

  words_among : (number : ℕ) (older ps : List Passage) (ws : List Fetched) →
      length ws ≤ length (words_moved number older ps ws)
  words_among number older ps ws =
      let moves = moves_on cycle number older ps (map of_fetched ws) in
      let all_fly = all-open-moves moves (words-open ws) in
      omega (arith, length-map ws of_fetched, all_fly, few_open (words_moved number older ps ws)) where
        words-open : (ws : List Fetched) → list_all is_in_flight (map of_fetched ws) ≡ true
        words-open [] = refl
        words-open (w ∷ ws) = words-open ws

  abbrev all_moved : ℕ → List Passage → List Passage → List Entry → List Fetched → List Passage
  all_moved number older ps es ws = moved_on cycle number older ps (map of_entry es ++ map of_fetched ws)

  ends_unstaying : (number : ℕ) (older ps : List Passage) (es : List Entry) (ws : List Fetched) →
      EndsUnstaying (all_moved number older ps es ws) (length ws)
  ends_unstaying number older ps [] ws = grind (arith, words_among, words_unstaying)
  ends_unstaying number older [] (e ∷ es) ws =
      older_first (numbered number (of_entry e)) (ends_unstaying (number + 1) older [] es ws)
  ends_unstaying number older (p ∷ ps) (e ∷ es) ws = elim (cases_Bool (is_in_flight p)) [
    | inl flies ↦ elim (cases_Bool (nat_lt e.fetched cycle)) [
      | inl before ↦
          let q = standing_at older (of_entry e) p in
          rw (flies, before) (older_first q (ends_unstaying number (older ++ q ∷ []) ps es ws))
      | inr later ↦
          let q = squashed_in cycle p in
          rw (flies, later) (older_first q (ends_unstaying number (older ++ q ∷ []) ps (e ∷ es) ws))
    ]
    | inr ended ↦ rw ended (older_first p (ends_unstaying number (older ++ p ∷ []) ps (e ∷ es) ws))
  ]

  none_stay-drop : (ps : List Passage) (k : ℕ) → none_stay ps → none_stay (drop k ps)
  none_stay-drop ps zero none = none
  none_stay-drop [] (suc k) none = refl
  none_stay-drop (p ∷ ps) (suc k) none = elim (cases_Bool (is_staying cycle p)) [
    | inl stays ↦ let no : false ≡ true = rw stays at none in cc
    | inr goes ↦ let rest : none_stay ps = rw goes at none in none_stay-drop ps k rest
  ]

  none_stay-after : (front back : List Passage) (k : ℕ) → length front ≤ k →
      none_stay back → none_stay (drop k (front ++ back))
  none_stay-after [] back k past none = none_stay-drop back k none
  none_stay-after (p ∷ front) back zero past none = absurd (omega (arith, past))
  none_stay-after (p ∷ front) back (suc k) past none = none_stay-after front back k (omega (arith, past)) none

  last_unstaying : (rows : List Passage) (count : ℕ) →
      EndsUnstaying rows count → none_stay (drop (length rows - count) rows)
  last_unstaying rows count ends = grind (arith, length-append, none_stay-after)

-- the passages at the end of a cycle are such
pub at_end : (cycle : ℕ) (steps : List Step) (after : Hardware) (before : Passages) →
    AreAtEnd cycle after (after_cycle cycle steps after before).rows
at_end cycle steps after before =
    let ended = with_steps steps after.pc before in
    let now = in_buffers after.rob after.front in
    let moves = moves_on cycle ended.fetched [] ended.rows now in
    let ends = ends_unstaying cycle ended.fetched [] ended.rows after.rob.entries after.front.entries in
    let rows = moved_on cycle ended.fetched [] ended.rows now in
    record {
      counted = as_many-moves moves (buffers-open after.rob after.front) ∙ length-in_buffers after.rob after.front;
      waiting = last_unstaying cycle rows (length after.front.entries) ends;
    }

-- ---- one that does not stay in a cycle adds nothing

module _ (cycle : ℕ) (unit : Bool) where
  none_more : (has : Bool) (ps : List Passage) (s : Stays) → none_stay cycle ps →
      with_stays (stays_among cycle unit has ps) s ≡ s
  none_more has [] s none = refl
  none_more has (p ∷ ps) s none = elim (cases_Bool (is_staying cycle p)) [
    | inl stays ↦ let no : false ≡ true = rw stays at none in cc
    | inr goes ↦
        let rest : none_stay cycle ps = rw goes at none in
        rw goes (none_more (has && not (lacks_address cycle p)) ps s rest)
  ]

  none_awaits : (has : Bool) (ps : List Passage) → none_stay cycle ps →
      oldest_awaited (stays_among cycle unit has ps) ≡ None
  none_awaits has [] none = refl
  none_awaits has (p ∷ ps) none = elim (cases_Bool (is_staying cycle p)) [
    | inl stays ↦ let no : false ≡ true = rw stays at none in cc
    | inr goes ↦
        let rest : none_stay cycle ps = rw goes at none in
        rw goes (none_awaits (has && not (lacks_address cycle p)) ps rest)
  ]

  stays_before : (has : Bool) (ps others : List Passage) (s : Stays) → none_stay cycle others →
      with_stays (stays_among cycle unit has (ps ++ others)) s ≡ with_stays (stays_among cycle unit has ps) s
  stays_before has [] others s none = none_more has others s none
  stays_before has (p ∷ ps) others s none =
      let has' = has && not (lacks_address cycle p) in
      stays_before has' ps others (with_stay (stay_in cycle unit has p) s) none

  oldest_before : (has : Bool) (ps others : List Passage) → none_stay cycle others →
      oldest_awaited (stays_among cycle unit has (ps ++ others)) ≡ oldest_awaited (stays_among cycle unit has ps)
  oldest_before has [] others none = none_awaits has others none
  oldest_before has (p ∷ ps) others none =
      let has' = has && not (lacks_address cycle p) in
      ap (option_or (awaited_word (stay_in cycle unit has p))) (oldest_before has' ps others none)

  -- so those after the first ones, as many as words wait, can be left out
  module _ (after : Hardware) (rows first : List Passage) (end : AreAtEnd cycle after rows)
      (first_are : first ≡ take (length rows - length after.front.entries) rows) where
    abbrev others : List Passage
    others = drop (length rows - length after.front.entries) rows

    apart : first ++ others ≡ rows
    apart =
        ap (λ l. l ++ others) first_are ∙ take-append-drop (length rows - length after.front.entries) rows

    -- they add nothing to why instructions stay
    pub stays_of_first : (s : Stays) →
        with_stays (stays_among cycle unit true first) s ≡ with_stays (stays_among cycle unit true rows) s
    stays_of_first s = grind (arith, stays_before, apart)

    -- nor to what the oldest awaits
    pub oldest_of_first :
        oldest_awaited (stays_among cycle unit true first) ≡ oldest_awaited (stays_among cycle unit true rows)
    oldest_of_first = grind (arith, oldest_before, apart)

-- ---- where the first ones left, as many as are not in flight, all others are

none_among : (ps : List Passage) → list_all has_left ps ≡ true → filter is_in_flight ps ≡ []
none_among [] all = refl
none_among (p ∷ ps) all = elim (cases_Bool (is_in_flight p)) [
  | inl flies ↦ let no : false ≡ true = rw flies at all in cc
  | inr ended ↦ let rest : list_all has_left ps ≡ true = rw ended at all in rw ended (none_among ps rest)
]

-- the one at a place is none of those in flight
abbrev LeftAt : List Passage → ℕ → Type 0 → Type 0
LeftAt ps place none = MatchOption (slice_get ps place) none (λ p. is_in_flight p ≡ false)

last_left : (none : Type 0) (p : Passage) (ps : List Passage) →
    list_all has_left (p ∷ ps) ≡ true → LeftAt (p ∷ ps) (length ps) none
last_left none p [] all = grind (arith, cases_Bool)
last_left none p (q ∷ ps) all = elim (cases_Bool (is_in_flight p)) [
  | inl flies ↦ let no : false ≡ true = rw flies at all in cc
  | inr ended ↦ let rest : list_all has_left (q ∷ ps) ≡ true = rw ended at all in last_left none q ps rest
]

youngest_left : (ps : List Passage) → list_all has_left ps ≡ true → LeftAt ps (length ps - 1) (ps ≡ [])
youngest_left [] all = refl
youngest_left (p ∷ ps) all =
    let last : length (p ∷ ps) - 1 ≡ length ps = omega arith in
    subst (λ k. LeftAt (p ∷ ps) k (p ∷ ps ≡ [])) (sym last) (last_left (p ∷ ps ≡ []) p ps all)

-- the first rows left the hardware, where all others are in flight
pub first_left : (rows : List Passage) (count : ℕ) → count ≡ length rows - length (filter is_in_flight rows) →
    list_all has_left (take count rows) ≡ true → IsUpToYoungestLeft rows (take count rows)
first_left rows count count_is all =
    let first = take count rows in
    let others = drop count rows in
    let apart : first ++ others ≡ rows = take-append-drop count rows in
    let open_later : filter is_in_flight (first ++ others) ≡ filter is_in_flight others =
    filter-append is_in_flight first others ∙ ap (λ l. l ++ filter is_in_flight others) (none_among first all) in
    let as_many : length (filter is_in_flight rows) ≡ length (filter is_in_flight others) =
    ap (λ l. length (filter is_in_flight l)) (sym apart) ∙ ap length open_later in
    let all_fly = all-open others (omega (arith, length-drop count rows, as_many, count_is, few_open rows)) in
    record {
      others = others;
      rows_are = sym apart;
      in_flight = AllPass-from_list_all is_in_flight others all_fly;
      youngest = youngest_left first all;
    }
