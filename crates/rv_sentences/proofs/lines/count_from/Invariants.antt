use Rattle.std.proofs.Common.{◌≡◌, ◌+◌, ◌-◌, ◌<◌, drop, length}
use Rattle.rv_sentences.specs.GreatestLines.{line_count}
use Rattle.rv_sentences.proofs.LineCounts.{count_beyond}
use Rattle.rv_sentences.proofs.lines.count_from.Given as goal

-- what is counted up to the last place, with what the places after it add
abbrev pub invariant-loop-last : goal.invariant-loop-last
invariant-loop-last l = record {
  within : l.last < length l.counts;
  all : l.count + count_beyond l.listing (l.first + l.last) (drop (l.last + 1) l.counts)
      ≡ line_count l.listing (l.first + l.place) (drop l.place l.counts);
}

abbrev pub decreases-loop-last : goal.decreases-loop-last
decreases-loop-last l = length l.counts - l.last
