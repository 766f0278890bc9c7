-- What a log says of the results that an instruction waits for.
use Rattle.std.specs.Prelude.{ℕ, if◌then◌else◌, List, [], ◌++◌, codes, decimal, Option, Some, None}
use Rattle.rv_passage.specs.declared.{passage.Passage.Passage, producers.Producer.Producer}
use Rattle.rv_source.specs.Listing.{Listed}
use Rattle.rv_log.specs.Event.{events_at, is_at}

-- a dependence (W) of an instruction on another, of the sort that a result wakes
unfoldable pub dependence_line : ℕ → ℕ → List ℕ
dependence_line number producer = codes "W\t" ++ (decimal number ++ (codes "\t" ++ (decimal producer ++ codes "\t0\n")))

-- that in the cycle of the producer's broadcast
unfoldable pub woken_at : ℕ → ℕ → Producer → List ℕ
woken_at cycle number producer = if is_at cycle producer.broadcast then dependence_line number producer.number else []

-- where there is a producer
unfoldable pub dependence_at : ℕ → ℕ → Option Producer → List ℕ
dependence_at cycle number None = []
dependence_at cycle number (Some producer) = woken_at cycle number producer

-- those of both operands
unfoldable pub dependences_at : ℕ → Passage → List ℕ
dependences_at cycle passage =
    dependence_at cycle passage.number passage.producers.first
    ++ dependence_at cycle passage.number passage.producers.second

-- all that a log says of an instruction in a cycle in which it was in the hardware
unfoldable pub row_at : Listed → ℕ → Passage → List ℕ
row_at listing cycle passage = events_at listing cycle passage ++ dependences_at cycle passage
