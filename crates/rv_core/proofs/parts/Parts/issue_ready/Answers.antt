use Rattle.rv_core.proofs.Words.{ap, ◌∙◌, sym, hardware_of, KindValues, path_cost}
use Rattle.rv_stations.specs.Waiting.{ready_taken}
use Rattle.rv_core.specs.Access.{path_of_ready}
use Rattle.rv_core.proofs.Issued.Executed.{Execution}
use Rattle.rv_core.proofs.Issued.Parts.{absent, passed_after, room, sound_after, sound_still, turn_after, turn_ends}
use Rattle.rv_core.proofs.parts.Parts.issue_ready.Goals as goal
use Rattle.rv_core.proofs.parts.Parts.issue_ready.Goals.{After-start}

pub invariant_of-self : goal.invariant_of-self
invariant_of-self c =
    sound_still c.self.invariant c.self.view_is c.args.kind c.is_port_idle-port_idle.ensures c.take_ready.ensures.oldest
    (ap ready_taken c.in_default.is) c.take_ready.ensures.others

pub returns-in_default-clause-turn : goal.returns-in_default-clause-turn
returns-in_default-clause-turn c =
    turn_ends c.self.invariant c.self.view_is c.args.kind c.is_port_idle-port_idle.ensures c.take_ready.ensures.oldest
    (sym c.free.ensures ∙ c.if-not-free.false) (ap ready_taken c.in_default.is)

pub accept-requires-clause-room : goal.accept-requires-clause-room
accept-requires-clause-room c =
    room c.self.invariant c.self.view_is c.args.kind c.is_port_idle-port_idle.ensures c.take_ready.ensures.oldest
    (ap ready_taken c.in-Some.is)

pub accept-requires-clause-absent : goal.accept-requires-clause-absent
accept-requires-clause-absent c =
    absent c.self.invariant c.self.view_is c.args.kind c.is_port_idle-port_idle.ensures c.take_ready.ensures.oldest
    (ap ready_taken c.in-Some.is)

-- what the execution gave
abbrev executed : (c : After-start) →
    Execution (hardware_of c.self.inside) c.args.kind c.self.inside.stores c.in-Some.taken.ready
executed c =
    let p = c.self.inside in
    let path = path_of_ready p.cache p.stores c.in-Some.taken.ready in
    let gave = c.execute-executed.ensures in
    record {
      message = c.execute-executed.result.message;
      cost = c.execute-executed.result.cost;
      port_free = c.execute-executed.result.port_free;
      cache = c.execute-executed.new.cache;
      costs = gave.cost ∙ ap (λ (k : KindValues). path_cost k.latency p.values.forward p.cache path) c.get.ensures;
      ports = gave.port;
      caches = gave.cache;
      gives = gave.message;
    }

pub invariant_of-self-2 : goal.invariant_of-self-2
invariant_of-self-2 c =
    sound_after c.self.invariant c.self.view_is c.args.kind c.is_port_idle-port_idle.ensures c.take_ready.ensures.oldest
    (ap ready_taken c.in-Some.is) (executed (goal.at.invariant_of-self-2 c).After-start)
    c.hold_unit.ensures c.start.ensures c.take_ready.ensures.others c.accept.ensures

pub returns-clause-turn : goal.returns-clause-turn
returns-clause-turn c =
    turn_after c.self.invariant c.self.view_is c.args.kind c.is_port_idle-port_idle.ensures c.take_ready.ensures.oldest
    (ap ready_taken c.in-Some.is) (executed (goal.at.returns-clause-turn c).After-start)
    c.hold_unit.ensures c.start.ensures c.take_ready.ensures.others c.accept.ensures
    (sym c.free.ensures ∙ c.if-not-free.false)

pub returns-clause-passed : goal.returns-clause-passed
returns-clause-passed c =
    passed_after c.self.invariant c.self.view_is c.args.kind c.is_port_idle-port_idle.ensures
    c.take_ready.ensures.oldest
    (ap ready_taken c.in-Some.is) (executed (goal.at.returns-clause-passed c).After-start)
    c.hold_unit.ensures c.start.ensures c.take_ready.ensures.others c.accept.ensures
    c.in-Some.taken.passed (rw c.in-Some.is at c.take_ready.ensures.passed)
