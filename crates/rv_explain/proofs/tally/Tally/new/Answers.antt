use Rattle.std.proofs.Common.{[], None}
use Rattle.rv_counts.specs.Load.{costs_of}
use Rattle.rv_sentences.specs.Dispatch.{none_dispatched}
use Rattle.rv_sentences.specs.Drain.{drains_by}
use Rattle.rv_sentences.specs.Load.{loads_of}
use Rattle.rv_counts.specs.Places.{no_places}
use Rattle.rv_sentences.specs.Stay.{no_stays}
use Rattle.rv_sentences.specs.Untaken.{none_raised}
use Rattle.rv_sentences.specs.Work.{work_of}
use Rattle.rv_explain.proofs.tally.Tally.new.Goals as goal

pub returns : goal.returns
returns c arrivals h = λ i. record {
  retired = 0;
  exceptions = c.in_ok-new.ensures i;
  last_before = None;
  interrupts = c.new-2.ensures i;
  raised = none_raised;
  places = no_places;
  dispatches = none_dispatched;
  stays = no_stays;
  awaited = c.in_ok-new-2.ensures i;
  work = work_of [];
  costs = c.new-4.ensures i;
  loads = loads_of (costs_of c.args.description.now) [];
  drains = drains_by c.args.description.now.cache.hit [];
  last_stores = c.in_ok-new-3.ensures i;
  heads = c.in_ok-new-4.ensures i;
  idle = 0;
  flusher = None;
  branches = c.in_ok-new-5.ensures i;
  mispredicted = c.in_ok-new-6.ensures i;
  outcomes = c.in_ok-new-7.ensures i;
  waiting = c.new-10.ensures i;
  stores = c.in_ok-new-8.ensures (costs_of c.args.description.now) i;
}
