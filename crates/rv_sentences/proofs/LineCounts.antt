-- The counts of words, line by line.
use Rattle.std.proofs.Common.{◌≡◌, ◌∙◌, ℕ, zero, suc, ◌+◌, ◌-◌, ◌≤◌, ◌<◌, Bool, true, false, if◌then◌else◌, List, []}
use Rattle.std.proofs.Common.{◌∷◌, length, drop, refl, ap, sym, arith, le-ltb, lt-ltb}
use Rattle.std.specs.Prelude.{get_or, sum}
use Rattle.std.specs.List.{slice_get}
use Rattle.std.proofs.lemmas.List.{drop_all}
use Rattle.std.proofs.lemmas.List.Sums.{sum_by-cons}
use Rattle.rv_source.specs.Listing.{Listed}
use Rattle.rv_sentences.specs.GreatestLines.{by_line, goes_on, line_count, line_counts, with_next}
use Rattle.rv_sentences.specs.WordCount.{count_in, or_nothing}
use Rattle.rv_sentences.specs.WordNotes.{Notes}

-- what the words after one add to its line
abbrev pub count_beyond : Listed → ℕ → List ℕ → ℕ
count_beyond listing word counts = if goes_on listing word then line_count listing (word + 1) counts else 0

-- ---- no more than all

sum_cons : (count : ℕ) (counts : List ℕ) → sum (count ∷ counts) ≡ count + sum counts
sum_cons count counts = sum_by-cons (λ (n : ℕ). n) count counts

beyond_within : (on : Bool) (count all : ℕ) → count ≤ all → (if on then count else 0) ≤ all
beyond_within true count all within = within
beyond_within false count all within = omega arith

pub line_within : (listing : Listed) (word : ℕ) (counts : List ℕ) → line_count listing word counts ≤ sum counts
line_within listing word [] = omega arith
line_within listing word (count ∷ counts) =
    let rest = line_within listing (word + 1) counts in
    let beyond = beyond_within (goes_on listing word) (line_count listing (word + 1) counts) (sum counts) rest in
    omega (arith, sum_cons count counts, beyond)

pub sum_drop : (place : ℕ) (counts : List ℕ) → sum (drop place counts) ≤ sum counts
sum_drop zero counts = omega arith
sum_drop (suc place) [] = omega arith
sum_drop (suc place) (count ∷ counts) = omega (arith, sum_cons count counts, sum_drop place counts)

-- the counts from a place on begin with its own
pub drop_at : (place : ℕ) (counts : List ℕ) → place < length counts
    → drop place counts ≡ get_or counts place 0 ∷ drop (suc place) counts
drop_at place [] within = absurd (omega (arith, within))
drop_at zero (count ∷ counts) within = refl
drop_at (suc place) (count ∷ counts) within = drop_at place counts (omega (arith, within))

-- ---- the counts line by line

-- the counts of a word and of the next ones, by those of the next ones alone
joined : (on : Bool) (count next : ℕ) (rest : List ℕ)
    → (if on then with_next (count ∷ next ∷ rest) else count ∷ next ∷ rest)
    ≡ (count + (if on then next else 0)) ∷ (if on then 0 else next) ∷ rest
joined true count next rest = refl
joined false count next rest = grind arith

alone : (on : Bool) (count : ℕ)
    → (if on then with_next (count ∷ []) else count ∷ []) ≡ (count + (if on then 0 else 0)) ∷ []
alone true count = let same : count ≡ count + 0 = omega arith in ap (λ (n : ℕ). n ∷ []) same
alone false count = let same : count ≡ count + 0 = omega arith in ap (λ (n : ℕ). n ∷ []) same

head_of : (counts : List ℕ) (count : ℕ) (rest : List ℕ) → counts ≡ count ∷ rest → counts ≡ count ∷ drop 1 counts
head_of counts count rest is = is ∙ ap (λ (others : List ℕ). count ∷ others) (sym (ap (drop 1) is))

by_line_from : (listing : Listed) (word count : ℕ) (counts : List ℕ)
    → by_line listing (word + 1) counts
    ≡ line_count listing (word + 1) counts ∷ drop 1 (by_line listing (word + 1) counts)
    → by_line listing word (count ∷ counts)
    ≡ line_count listing word (count ∷ counts)
    ∷ (if goes_on listing word then 0 else line_count listing (word + 1) counts)
    ∷ drop 1 (by_line listing (word + 1) counts)
by_line_from listing word count counts rest = grind (arith, goes_on, joined)

-- the first word has the count of its line
pub by_line_first : (listing : Listed) (word : ℕ) (counts : List ℕ) → 0 < length counts
    → by_line listing word counts ≡ line_count listing word counts ∷ drop 1 (by_line listing word counts)
by_line_first listing word [] some = absurd (omega (arith, some))
by_line_first listing word (count ∷ []) some = head_of _ _ _ (alone (goes_on listing word) count)
by_line_first listing word (count ∷ next ∷ counts) some =
    let rest = by_line_first listing (word + 1) (next ∷ counts) (omega arith) in
    head_of _ _ _ (by_line_from listing word count (next ∷ counts) rest)

-- and the next has its own, unless it is one of that line
pub by_line_next : (listing : Listed) (word count : ℕ) (counts : List ℕ) → 0 < length counts
    → by_line listing word (count ∷ counts)
    ≡ line_count listing word (count ∷ counts)
    ∷ (if goes_on listing word then 0 else line_count listing (word + 1) counts)
    ∷ drop 1 (by_line listing (word + 1) counts)
by_line_next listing word count counts some =
    by_line_from listing word count counts (by_line_first listing (word + 1) counts some)

-- so has each place, unless it is one of the line of the place before it
pub by_line_later : (listing : Listed) (word place : ℕ) (counts : List ℕ) → suc place < length counts
    → get_or (by_line listing word counts) (suc place) 0
    ≡ (if goes_on listing (word + place) then 0 else line_count listing (word + place + 1) (drop (suc place) counts))
by_line_later listing word place [] within = absurd (omega (arith, within))
by_line_later listing word zero (count ∷ counts) within = grind (arith, by_line_next)
by_line_later listing word (suc place) (count ∷ counts) within =
    let here : word + suc place ≡ word + 1 + place = omega arith in
    let next = by_line_next listing word count counts (omega (arith, within)) in
    let first = by_line_first listing (word + 1) counts (omega (arith, within)) in
    rw here
    (ap (λ (all : List ℕ). get_or all (suc (suc place)) 0) next
    ∙ sym (ap (λ (all : List ℕ). get_or all (suc place) 0) first)
    ∙ by_line_later listing (word + 1) place counts (omega (arith, within)))

-- the same by the place before one
pub line_joined : (listing : Listed) (first place : ℕ) (counts : List ℕ) → 0 < place → place < length counts
    → goes_on listing (first + (place - 1)) ≡ true → 0 ≡ get_or (by_line listing first counts) place 0
line_joined listing first zero counts some within on = absurd (omega (arith, some))
line_joined listing first (suc place) counts some within on = grind (arith, by_line_later)

-- what is counted from a place on at its line
pub line_begun : (listing : Listed) (first place : ℕ) (counts : List ℕ) → place < length counts
    → (0 < place → goes_on listing (first + (place - 1)) ≡ false)
    → line_count listing (first + place) (drop place counts) ≡ get_or (by_line listing first counts) place 0
line_begun listing first zero counts within off = grind (arith, by_line_first)
line_begun listing first (suc place) counts within off = grind (arith, by_line_later)

-- ---- the count of one line, place by place

-- a place has its own count and what those after it add
pub line_begins : (listing : Listed) (first place : ℕ) (counts : List ℕ) → place < length counts
    → get_or counts place 0 + count_beyond listing (first + place) (drop (place + 1) counts)
    ≡ line_count listing (first + place) (drop place counts)
line_begins listing first place counts within = grind (arith, drop_at)

-- as far as they are of its line
pub line_continues : (listing : Listed) (first last : ℕ) (counts : List ℕ)
    → last + 1 < length counts → goes_on listing (first + last) ≡ true
    → get_or counts (last + 1) 0 + count_beyond listing (first + (last + 1)) (drop (last + 1 + 1) counts)
    ≡ count_beyond listing (first + last) (drop (last + 1) counts)
line_continues listing first last counts within on = grind (arith, line_begins)

nothing_beyond : (on : Bool) (count : ℕ) → count ≡ 0 → (if on then count else 0) ≡ 0
nothing_beyond true count none = none
nothing_beyond false count none = refl

-- nor does the end of the counts
pub line_over : (listing : Listed) (word place : ℕ) (counts : List ℕ) → length counts ≤ place
    → count_beyond listing word (drop place counts) ≡ 0
line_over listing word place counts past = grind (arith, drop_all, nothing_beyond, goes_on)

-- all of them are no more than all
pub line_fits : (listing : Listed) (word place : ℕ) (counts : List ℕ)
    → line_count listing word (drop place counts) ≤ sum counts
line_fits listing word place counts = omega (arith, line_within listing word (drop place counts), sum_drop place counts)

-- ---- and by its word

length_by_line : (listing : Listed) (word : ℕ) (counts : List ℕ) → length (by_line listing word counts) ≡ length counts
length_by_line listing word [] = refl
length_by_line listing word (count ∷ counts) = grind (arith, length_by_line listing (word + 1) counts)

got : (counts : List ℕ) (place : ℕ) → or_nothing (slice_get counts place) ≡ get_or counts place 0
got [] place = refl
got (count ∷ counts) zero = refl
got (count ∷ counts) (suc place) = got counts place

got_past : (counts : List ℕ) (place : ℕ) → length counts ≤ place → get_or counts place 0 ≡ 0
got_past [] place past = refl
got_past (count ∷ counts) zero past = absurd (omega (arith, past))
got_past (count ∷ counts) (suc place) past = got_past counts place (omega (arith, past))

-- nothing below RAM
pub none_below : (listing : Listed) (counts : Notes ℕ) (word : ℕ) → word < counts.first
    → count_in (line_counts listing counts) word ≡ 0
none_below listing counts word below = rw (lt-ltb word counts.first below) refl

-- in RAM by its place there
pub by_place : (listing : Listed) (counts : Notes ℕ) (word : ℕ) → counts.first ≤ word
    → count_in (line_counts listing counts) word
    ≡ get_or (by_line listing counts.first counts.words) (word - counts.first) 0
by_place listing counts word above =
    rw (le-ltb word counts.first above) (got (by_line listing counts.first counts.words) (word - counts.first))

-- and nothing above it
pub none_above : (listing : Listed) (counts : Notes ℕ) (word : ℕ)
    → counts.first ≤ word → length counts.words ≤ word - counts.first → count_in (line_counts listing counts) word ≡ 0
none_above listing counts word above past = grind (arith, length_by_line, by_place, got_past)
