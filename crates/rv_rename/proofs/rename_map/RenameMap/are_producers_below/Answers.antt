use Rattle.std.proofs.Common.{sym, ap, ◌∙◌, option_copied, lt-ltb, arith}
use Rattle.std.proofs.lemmas.Bool.{ltb-true}
use Rattle.rv_rename.proofs.Prefixes.{AreBelow-tells, AreBelow-empty}
use Rattle.rv_rename.proofs.rename_map.RenameMap.are_producers_below.Goals as goal

pub returns-in-Some : goal.returns-in-Some
returns-in-Some c =
    let tells = AreBelow-tells c.args.seq c.self.inside.producers.items c.in-Some.youngest.now c.self.invariant.in_order
    (sym c.back.ensures ∙ ap option_copied c.in-Some.is) in
    rw (← c.self.view_is) (λ t. tells.0 (ltb-true _ _ t), λ are. lt-ltb _ _ (tells.1 are))

pub returns-in-None : goal.returns-in-None
returns-in-None c =
    grind (arith, AreBelow-empty)
