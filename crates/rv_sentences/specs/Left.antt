-- What is counted of the instructions that left the hardware.
use Rattle.std.specs.Prelude.{ℕ, ◌+◌, ◌<◌, ◌^◌, sum}
use Rattle.rv_sentences.specs.Outcome.{CanTake}
use Rattle.rv_sentences.specs.WordNotes.{Notes}
use Rattle.rv_sentences.specs.declared.{accesses.Accesses.Accesses, outcomes.Outcomes.Outcomes, work.Work.Work}

-- no count comes to 2^64 with so many instructions more
pub record CanAdd (work : Work) (accesses : Accesses) (jumps wrong : Notes ℕ) (loaded : Notes Outcomes)
    (more : ℕ) : Type 0 where
  pub left : work.left + more < 2 ^ 64
  pub squashed : work.squashed + more < 2 ^ 64
  pub branches : work.branches + more < 2 ^ 64
  pub mispredicted : work.mispredicted + more < 2 ^ 64
  pub loads : accesses.all + more < 2 ^ 64
  pub quick : accesses.quick + more < 2 ^ 64
  pub branch_words : sum jumps.words + more < 2 ^ 64
  pub mispredicted_words : sum wrong.words + more < 2 ^ 64
  pub outcomes : CanTake loaded more
