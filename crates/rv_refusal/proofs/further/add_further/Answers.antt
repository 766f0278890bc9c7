use Rattle.rv_refusal.proofs.Faulty.{further_is}
use Rattle.rv_refusal.proofs.further.add_further.Goals as goal

pub returns : goal.returns
returns c =
    let is = further_is c.args.before c.args.number c.in_ok-faults.faults.count c.args.assembly.now c.in-Some.rest.now
    c.in_ok-faults.faults.shown.items c.in-Some.ensures.lines c.in_ok-faults.ensures.shown
    c.in_ok-faults.ensures.count in
    rw (← is) c.add_faults.ensures
