-- What a profile keeps while a run goes on.
use Rattle.std.specs.Prelude.{◌≡◌, ◌*◌}
use Rattle.rv_cache.specs.WriteBack.{Each}
use Rattle.rv_watch.specs.Watching.{Watched}
use Rattle.rv_counts.specs.Counts.{IsWithin}
use Rattle.rv_counts.specs.Following.{Profiled}
use Rattle.rv_counts.specs.Head.{heads_of}
use Rattle.rv_counts.specs.Left.{left_after}
use Rattle.rv_counts.specs.Profile.{IsProfileOf}
use Rattle.rv_counts.specs.declared.loads.LoadCosts.{LoadCosts}

-- the counts of the passages that left the hardware in the cycles so far, and of the heads
pub record IsProfiling (costs : LoadCosts) (profile : Profiled) (seen : Watched) : Type 0 where
  pub costs_are : profile.costs ≡ costs
  pub counted : IsProfileOf costs (left_after seen.first.hardware seen.moments) (heads_of seen.moments) profile.words
  pub within : Each (IsWithin (577 * seen.now.hardware.cycle)) profile.words
