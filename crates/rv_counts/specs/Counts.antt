-- What became of the instructions that were fetched at an address.
use Rattle.std.specs.Prelude.{ℕ, ◌+◌, ◌-◌, ◌^◌, ◌≤◌, ◌==◌, Bool, if◌then◌else◌, List, [], length, filter, count_by}
use Rattle.std.specs.List.{filter_map}
use Rattle.rv_passage.specs.Passage.{is_retirement, is_squash}
use Rattle.rv_passage.specs.Prediction.{is_mispredicted}
use Rattle.rv_passage.specs.declared.passage.{Ending.Ending, Passage.Passage}
use Rattle.rv_passage.specs.declared.passage.Ending.TheVariants as ending
use Rattle.rv_counts.specs.Load.{is_hit, is_miss, load_cost}
use Rattle.rv_counts.specs.Passing.{broadcast_wait, dispatch_wait, issue_wait, retirement_wait}
use Rattle.rv_counts.specs.Wait.{waited, with_wait}
use Rattle.rv_counts.specs.declared.{counts.WordCounts.WordCounts, loads.LoadCosts.LoadCosts}

-- it was fetched at an address
abbrev pub is_at : ℕ → Passage → Bool
is_at address p = p.pc == address

-- those that retired
abbrev pub retired_of : List Passage → List Passage
retired_of passages = filter (λ p. is_retirement p.ending) passages

-- how many of some were squashed
abbrev pub squashed_among : List Passage → ℕ
squashed_among passages = count_by (λ p. is_squash p.ending) passages

-- how many of some were mispredicted
abbrev pub mispredicted_among : List Passage → ℕ
mispredicted_among passages = count_by is_mispredicted (retired_of passages)

-- what became of the passages at an address, which stood at the head in so many cycles
abbrev pub counts_of : LoadCosts → ℕ → List Passage → ℕ → WordCounts
counts_of costs address passages head_cycles = record {
  address = address;
  fetched = length passages;
  retired = length (retired_of passages);
  squashed = squashed_among passages;
  dispatch = waited (filter_map dispatch_wait (retired_of passages));
  issue = waited (filter_map issue_wait (retired_of passages));
  broadcast = waited (filter_map broadcast_wait (retired_of passages));
  retirement = waited (filter_map retirement_wait (retired_of passages));
  hits = count_by (λ p. is_hit costs (load_cost p)) (retired_of passages);
  misses = count_by (λ p. is_miss costs (load_cost p)) (retired_of passages);
  mispredicted = mispredicted_among passages;
  head_cycles = head_cycles;
}

-- of all passages of a run, and of the addresses at the head, cycle by cycle, those at an address
abbrev pub counts_at : LoadCosts → List Passage → List ℕ → ℕ → WordCounts
counts_at costs passages heads address =
    counts_of costs address (filter (is_at address) passages) (count_by (λ head. head == address) heads)

-- nothing at an address
abbrev pub nothing_at : ℕ → WordCounts
nothing_at address = counts_at (record { hit = 0; forward = 0; clean_miss = 0 }) [] [] address

-- one more, where something is so
abbrev pub one_more : Bool → ℕ → ℕ
one_more is count = if is then count + 1 else count

-- with the waits of one more that retired
abbrev pub with_waits : Passage → WordCounts → WordCounts
with_waits p counts = record counts {
  dispatch = with_wait (dispatch_wait p) counts.dispatch;
  issue = with_wait (issue_wait p) counts.issue;
  broadcast = with_wait (broadcast_wait p) counts.broadcast;
  retirement = with_wait (retirement_wait p) counts.retirement;
}

-- with one more that retired
abbrev pub with_retired : LoadCosts → Passage → WordCounts → WordCounts
with_retired costs p counts = record (with_waits p counts) {
  retired = counts.retired + 1;
  hits = one_more (is_hit costs (load_cost p)) counts.hits;
  misses = one_more (is_miss costs (load_cost p)) counts.misses;
  mispredicted = one_more (is_mispredicted p) counts.mispredicted;
}

-- with one more, by how it ended
abbrev pub with_ended : Ending → LoadCosts → Passage → WordCounts → WordCounts
with_ended (ending.Retired order cycle written next) costs p counts = with_retired costs p counts
with_ended (ending.Squashed cycle) costs p counts = record counts { squashed = counts.squashed + 1 }
with_ended (ending.Trapped cycle cause) costs p counts = counts
with_ended ending.InFlight costs p counts = counts

-- with one more passage
abbrev pub added : LoadCosts → Passage → WordCounts → WordCounts
added costs p counts = with_ended p.ending costs p (record counts { fetched = counts.fetched + 1 })

-- with one more cycle at the head
abbrev pub once_more_at_head : WordCounts → WordCounts
once_more_at_head counts = record counts { head_cycles = counts.head_cycles + 1 }

-- how often it was fetched or stood at the head
abbrev pub times_of : WordCounts → ℕ
times_of counts = counts.fetched + counts.head_cycles

-- none of the counts is above a bound
pub record IsWithin (bound : ℕ) (counts : WordCounts) : Type 0 where
  pub fetched : counts.fetched ≤ bound
  pub retired : counts.retired ≤ bound
  pub squashed : counts.squashed ≤ bound
  pub dispatch : counts.dispatch.count ≤ bound
  pub issue : counts.issue.count ≤ bound
  pub broadcast : counts.broadcast.count ≤ bound
  pub retirement : counts.retirement.count ≤ bound
  pub hits : counts.hits ≤ bound
  pub misses : counts.misses ≤ bound
  pub mispredicted : counts.mispredicted ≤ bound
  pub head_cycles : counts.head_cycles ≤ bound

-- each of the counts can go on by one
abbrev pub CanCount : WordCounts → Type 0
CanCount counts = IsWithin (2 ^ 50 - 2) counts
