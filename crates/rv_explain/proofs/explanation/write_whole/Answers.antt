use Rattle.std.proofs.Common.{ap}
use Rattle.rv_text.proofs.Saying.{says_both, says_same}
use Rattle.rv_explain.specs.Crash.{crash_of, first_way_text, whole_end_text}
use Rattle.rv_explain.specs.Ending.{stuck_text}
use Rattle.rv_explain.specs.Explanation.{whole_text}
use Rattle.rv_explain.proofs.explanation.write_whole.Goals as goal

pub returns : goal.returns
unfolding whole_text
returns g c =
    let listing = c.args.listing.now in
    let h = c.args.hardware.now in
    let stop = c.args.run.now.stop in
    let last = c.args.run.now.tally.last_before in
    says_both c.write_ending.ensures
    (says_both (says_same (ap (λ all. stuck_text stop h all last) c.all-exceptions.ensures) c.write_stuck.ensures)
    (says_both (says_same (ap (λ all. first_way_text listing h all last) c.all-exceptions.ensures)
    c.write_first_way.ensures)
    (says_both c.write_exceptions.ensures
    (says_both (says_same (ap (λ all. whole_end_text listing (crash_of stop all) last) c.all-exceptions.ensures)
    c.write_whole_end.ensures)
    (says_both c.write_interrupts.ensures (says_both c.write_untaken_lines.ensures
    (says_both c.write_lead.ensures c.write_costs.ensures)))))))
