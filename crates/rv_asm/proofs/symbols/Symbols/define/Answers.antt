use Rattle.std.proofs.lemmas.Map.Text.{btree_map_updates_str}
use Rattle.rv_asm.proofs.symbols.Symbols.define.Goals as goal

pub returns : goal.returns
returns c = λ i other. btree_map_updates_str c.args.name.now c.args.self.now.defined c.insert.new.self _
    c.in_ok-insert.ensures.updates other i
