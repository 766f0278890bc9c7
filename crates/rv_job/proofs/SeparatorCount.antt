-- How many separators a text has, by its halves.
use Rattle.std.proofs.Common.{◌≡◌, ◌∙◌, ℕ, suc, ◌+◌, ◌≤◌, List, [], ◌∷◌, Bool, true, false, Option, Some}
use Rattle.std.proofs.Common.{None, count_by, length, option_map, refl, sym, ap, arith, length-append}
use Rattle.std.proofs.lemmas.Bool.{le-ltb, lt-ltb}
use Rattle.std.specs.Prelude.{if◌then◌else◌, is_some, nat_lt}
use Rattle.std.specs.List.{after_first, before_first, position_or_len, slice_split}
use Rattle.std.specs.Option.{option_or}
use Rattle.std.proofs.lemmas.List.Sums.{sum_by-cons}
use Rattle.rv_isa.specs.declared.values.Values.{Values}
use Rattle.rv_job.specs.Comparison.{AreLoaded, Compares, IsAfter, most_machines, separator_count}
use Rattle.rv_job.specs.Parts.{Halves, after_separator, halves_at_front, halves_of}
use Rattle.rv_job.specs.Parts.{is_line_feed, is_separator, later_halves, preceded}
use Rattle.rv_job.specs.ReadParts.{halves_in}
use Rattle.rv_job.specs.declared.job.Job.{Job}
use Rattle.rv_job.specs.declared.parts.Halves as read

-- a separator, and those after it
abbrev pub count_from : Option Halves → ℕ
count_from None = 0
count_from (Some halves) = 1 + separator_count halves.after

-- the lines after the first one
abbrev later_lines : List ℕ → List (List ℕ)
later_lines [] = []
later_lines (byte ∷ later) = if is_line_feed byte then slice_split is_line_feed later else later_lines later

abbrev later_count : List ℕ → ℕ
later_count text = count_by is_separator (later_lines text)

first_line : (text : List ℕ) → slice_split is_line_feed text ≡ before_first is_line_feed text ∷ later_lines text
first_line [] = refl
first_line (byte ∷ later) = go (first_line later) (is_line_feed byte) refl
  where
    go : slice_split is_line_feed later ≡ before_first is_line_feed later ∷ later_lines later → (test : Bool) →
        is_line_feed byte ≡ test
        → slice_split is_line_feed (byte ∷ later) ≡ before_first is_line_feed (byte ∷ later)
        ∷ later_lines (byte ∷ later)
    go so_far true is = rw is refl
    go so_far false is =
        let place : 1 + position_or_len is_line_feed later ≡ suc (position_or_len is_line_feed later) = omega arith in
        rw (is, so_far, place) refl

-- the count of a text, by its first line
by_first_line : (text : List ℕ) →
    separator_count text ≡ (if is_separator (before_first is_line_feed text) then 1 else 0) + later_count text
by_first_line text =
    ap (count_by is_separator) (first_line text)
    ∙ sum_by-cons (λ line. if is_separator line then 1 else 0) (before_first is_line_feed text) (later_lines text)

after_first_line : (text : List ℕ) → later_count text ≡ separator_count (after_first is_line_feed text)
after_first_line [] = refl
after_first_line (byte ∷ later) = grind (arith, after_first_line later)

of_preceded : (bytes : List ℕ) (found : Option Halves) →
    count_from (option_map (preceded bytes) found) ≡ count_from found
of_preceded bytes None = refl
of_preceded bytes (Some halves) = refl

either_count : (text : List ℕ) → later_count text ≡ count_from (later_halves text)
    → separator_count text ≡ count_from (option_or (halves_at_front text) (later_halves text))
unfolding after_separator
either_count text after = grind (arith, by_first_line, after_first_line)

later_counted : (text : List ℕ) → later_count text ≡ count_from (later_halves text)
unfolding later_halves
later_counted [] = refl
later_counted (byte ∷ later) = grind (arith, of_preceded, either_count, later_counted later)

-- the count of a text is that of its halves
pub counted : (text : List ℕ) → separator_count text ≡ count_from (halves_of text)
unfolding halves_of
counted text = either_count text (later_counted text)

pub none_more : (text : List ℕ) → halves_of text ≡ None → separator_count text ≡ 0
none_more text none = counted text ∙ ap count_from none

-- a text with a separator has one more than what stands after its first one
pub one_more : (text : List ℕ) (halves : Halves) → halves_of text ≡ Some halves →
    separator_count text ≡ 1 + separator_count halves.after
one_more text halves is = counted text ∙ ap count_from is

-- whether there is one more
pub another : (rest : List ℕ) (found : Option read.Halves) (count : ℕ) → option_map halves_in found ≡ halves_of rest
    → count ≡ most_machines + separator_count rest → is_some found ≡ nat_lt most_machines count
another rest None count is all = sym (le-ltb most_machines count (omega (arith, all, none_more rest (sym is))))
another rest (Some halves) count is all =
    sym (lt-ltb most_machines count (omega (arith, all, one_more rest (halves_in halves) (sym is))))

-- after descriptions stand the other separators
pub counted_after : {text rest : List ℕ} {machines : List Values} → IsAfter text machines rest
    → separator_count text ≡ length machines + separator_count rest
counted_after IsAfter.nothing = omega arith
counted_after (IsAfter.another {machines = machines} {rest = rest} {machine = machine}
    {halves = halves} front is described) =
    let whole = counted_after front in
    let here = counted rest ∙ ap count_from is in
    omega (arith, whole, here, length-append machines (machine ∷ []))

-- each machine is described in front of a separator, but the one that an empty description describes
machines_few : {text program : List ℕ} {machines : List Values} → Compares text machines program
    → separator_count text ≤ most_machines → length machines ≤ most_machines
machines_few (Compares.alone last described) few = omega arith
machines_few (Compares.described front last some) few = let whole = counted_after front in omega (arith, whole, few)

as_many : {program : List ℕ} {machines : List Values} {jobs : List Job} → AreLoaded program machines jobs →
    length jobs ≡ length machines
as_many AreLoaded.nothing = refl
as_many (AreLoaded.another {machines = machines} {jobs = jobs} {machine = machine} {job = job} loaded here) =
    let before = as_many loaded in
    omega (arith, before, length-append machines (machine ∷ []), length-append jobs (job ∷ []))

-- where separators are no more than the most machines that are compared, neither are the jobs
pub jobs_few : {text program : List ℕ} {machines : List Values} {jobs : List Job} → Compares text machines program
    → AreLoaded program machines jobs → separator_count text ≤ most_machines → length jobs ≤ most_machines
jobs_few compares loaded few = grind (arith, machines_few, as_many)
