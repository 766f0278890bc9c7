use Rattle.std.proofs.Common.{◌+◌, ◌≤◌, sym, ap, ◌∙◌, option_copied, arith, le-leb}
use Rattle.std.proofs.lemmas.Bool.{leb-true}
use Rattle.rv_rename.proofs.Prefixes.{AreBelow-tells, AreBelow-empty}
use Rattle.rv_rename.proofs.rename_map.RenameMap.are_producers_up_to.Goals as goal

pub returns-in-Some : goal.returns-in-Some
returns-in-Some c =
    let tells = AreBelow-tells (c.args.seq + 1) c.self.inside.producers.items c.in-Some.youngest.now
    c.self.invariant.in_order (sym c.back.ensures ∙ ap option_copied c.in-Some.is) in
    rw (← c.self.view_is) (
      λ t. let within : c.in-Some.youngest.now.seq ≤ c.args.seq = leb-true _ _ t in tells.0 (omega (arith, within)),
      λ are. le-leb _ _ (omega (arith, tells.1 are)),
    )

pub returns-in-None : goal.returns-in-None
returns-in-None c =
    grind (arith, AreBelow-empty)
