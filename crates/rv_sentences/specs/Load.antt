-- The loads of a run by what they cost.
use Rattle.std.specs.Prelude.{ℕ, if◌then◌else◌, List, codes, Option, None, count_by, is_some}
use Rattle.rv_passage.specs.Passage.{is_retirement}
use Rattle.rv_passage.specs.declared.passage.Passage.{Passage}
use Rattle.rv_counts.specs.Counts.{one_more}
use Rattle.rv_counts.specs.Load.{is_hit, load_cost}
use Rattle.rv_counts.specs.declared.loads.LoadCosts.{LoadCosts}
use Rattle.rv_sentences.specs.Access.{access_text}
use Rattle.rv_sentences.specs.declared.accesses.Accesses.{Accesses}

-- what a load cost that retired
abbrev pub retired_load_cost : Passage → Option ℕ
retired_load_cost p = if is_retirement p.ending then load_cost p else None

-- the loads that retired of some instructions; those at the cost of a hit or of forwarding did not miss
abbrev pub loads_of : LoadCosts → List Passage → Accesses
loads_of costs passages = record {
  all = count_by (λ p. is_some (retired_load_cost p)) passages;
  quick = count_by (λ p. is_hit costs (retired_load_cost p)) passages;
}

-- with one instruction more
abbrev pub loads_with : LoadCosts → Passage → Accesses → Accesses
loads_with costs p loads = record {
  all = one_more (is_some (retired_load_cost p)) loads.all;
  quick = one_more (is_hit costs (retired_load_cost p)) loads.quick;
}

-- the line on the loads of a run
unfoldable pub load_text : Accesses → List ℕ
load_text loads = access_text (codes "loads: ") (codes " at the cost of a hit or of forwarding, ") loads
