use Rattle.std.proofs.Common.{◌∙◌, ◌+◌, ap, true}
use Rattle.rv_isa.specs.PerKind.{at_kind}
use Rattle.rv_isa.specs.declared.per_kind.PerKind.{PerKind}
use Rattle.rv_isa.specs.declared.operations.Kind.TheVariants.{Mem}
use Rattle.rv_units.specs.Pool.{Pool, is_free}
use Rattle.rv_counts.specs.Counts.{one_more}
use Rattle.rv_sentences.specs.Drained.{oldest_drained, still_waiting, with_drained}
use Rattle.rv_sentences.specs.Head.{is_idle}
use Rattle.rv_sentences.specs.WordCount.{with_one}
use Rattle.rv_sentences.specs.Stay.{oldest_awaited, stays_among, with_stays}
use Rattle.rv_counts.proofs.InFlight.{left_same}
use Rattle.rv_sentences.specs.Access.{both}
use Rattle.rv_sentences.specs.Outcome.{with_passages}
use Rattle.rv_sentences.specs.Work.{both_work, word_in, work_of}
use Rattle.rv_sentences.specs.declared.work.Class.TheVariants.{Branch, Mispredicted}
use Rattle.rv_sentences.proofs.LeftGrows.{can_add_fewer, counts_of}
use Rattle.rv_explain.proofs.AtEnd.{oldest_of_first, stays_of_first}
use Rattle.rv_explain.proofs.InFlight.{loads_same, no_branch, no_mispredicted, noted_same}
use Rattle.rv_explain.proofs.tally.Tally.add.Goals as goal

pub add_left-requires : goal.add_left-requires
add_left-requires c =
    let before = c.args.self.now in
    let counts = counts_of before.work before.loads before.branches before.mispredicted before.outcomes in
    can_add_fewer counts _ _ c.left_among-left.ensures.few c.requires.room.left

pub returns : goal.returns
returns c =
    let before = c.args.self.now in
    let rows = c.args.rows.now in
    let kept = c.left_among-left.result.now in
    let up = c.left_among-left.ensures.left in
    let unit = c.free-has_unit.result in
    let first = c.without_waiting.result.now in
    let first_are = c.without_waiting.ensures.first in
    let cycle = c.args.cycle in
    let end = c.requires.end in
    let stays_first = stays_of_first cycle unit c.args.hardware.now rows first end first_are before.stays in
    let oldest_first = oldest_of_first cycle unit c.args.hardware.now rows first end first_are in
    let left = left_same rows kept up in
    let free = c.free-has_unit.ensures
    ∙ ap (λ (units : PerKind Pool). is_free c.args.cycle (at_kind Mem units)) c.units.ensures in
    let stays =
    c.add_stays.ensures.stays ∙ stays_first
    ∙ ap (λ free. with_stays (stays_among cycle free true rows) before.stays) free in
    let awaited =
    c.add_stays.ensures.awaited ∙ ap (λ word. with_one word before.awaited) oldest_first
    ∙ ap (λ free. with_one (oldest_awaited (stays_among cycle free true rows)) before.awaited) free in
    let drained = c.drain-drained.ensures.drained ∙ ap (oldest_drained c.args.drain) c.note_stores.ensures.waiting in
    let heads = c.count_one.ensures ∙ ap (λ word. with_one word before.heads) c.accounts_of-account.ensures.account in
    λ i. record {
      retired = before.retired + c.note_steps-retired.ensures.retired i;
      exceptions = c.note_steps-retired.ensures.exceptions i;
      last_before = c.last_before_with-self.ensures i;
      interrupts = c.note_steps-retired.ensures.interrupts i;
      raised = c.follow_lines.ensures i;
      places = c.add.ensures i;
      dispatches = c.add-2.ensures i;
      stays = stays i;
      awaited = awaited i;
      work = (c.add_left.ensures.work ∙ ap (λ l. both_work before.work (work_of l)) left) i;
      costs = before.costs;
      loads = (c.add_left.ensures.loads ∙ ap (both before.loads) (loads_same before.costs rows kept up)) i;
      drains = c.add_drain.ensures i;
      last_stores = c.note_stores.ensures.last i;
      heads = heads i;
      idle = (c.idle_with-self.ensures ∙ ap (λ account. one_more (is_idle account) before.idle)
          c.accounts_of-account.ensures.account) i;
      flusher = c.accounts_of-account.ensures.flusher i;
      branches = (c.add_left.ensures.branches ∙ noted_same (word_in Branch) no_branch rows kept before.branches up) i;
      mispredicted = (c.add_left.ensures.mispredicted ∙ noted_same (word_in Mispredicted) no_mispredicted rows kept
          before.mispredicted up) i;
      outcomes = (c.add_left.ensures.outcomes ∙ ap (λ l. with_passages before.costs l before.outcomes) left) i;
      waiting = (c.drain-drained.ensures.waiting ∙ ap (still_waiting c.args.drain) c.note_stores.ensures.waiting) i;
      stores = (c.add-3.ensures ∙ ap (λ one. with_drained before.costs one before.stores) drained) i;
    }
