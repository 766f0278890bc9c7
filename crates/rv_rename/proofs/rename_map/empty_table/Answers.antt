use Rattle.std.proofs.Common.{None, refl}
use Rattle.std.proofs.lemmas.List.{get_or-replicate}
use Rattle.rv_rename.proofs.rename_map.empty_table.Goals as goal

pub returns : goal.returns
returns c = record { places = refl; producers = λ r h. get_or-replicate 32 r None None h }
