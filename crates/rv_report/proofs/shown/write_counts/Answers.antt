use Rattle.std.proofs.Common.{ap}
use Rattle.std.specs.List.{flat_map}
use Rattle.rv_text.proofs.Saying.{says_same}
use Rattle.rv_report.specs.Shown.{count_cell}
use Rattle.rv_report.proofs.shown.write_counts.Goals as goal

pub returns : goal.returns
returns g c = says_same (ap (flat_map count_cell) c.counts-counts.ensures) c.write_each.ensures
