use Rattle.rv_core.proofs.Words.{◌≡◌, ◌<◌, ◌&&◌, length, None, sym, refl, ap, ◌∙◌, subst, arith, is_branch_or_jump}
use Rattle.rv_core.proofs.Words.{is_store, kind_of_word, target_of_word, pushed, mends_early, entry_of_fetched}
use Rattle.rv_core.proofs.Words.{reason_of, Hardware, are_full_for, with_instruction, with_jump, with_store}
use Rattle.rv_core.proofs.Words.{with_target, IsSound, hardware_of, status_after, values_in}
use Rattle.rv_core.proofs.Phases.Entered.{entered_parts, entered-is, entered-sound}
use Rattle.rv_core.proofs.Ties.Dispatch.{Goes, full-is, goes}
use Rattle.rv_core.proofs.Ties.Queue.{can_enter}
use Rattle.rv_core.proofs.Ties.Renaming.{can_checkpoint, can_define}
use Rattle.rv_core.proofs.Ties.Stations.{stations-below}
use Rattle.rv_core.proofs.parts.Parts.enter.Goals as goal
use Rattle.rv_core.proofs.parts.Parts.enter.Goals.{After-self, After-push_entry}

-- no reason to wait holds
fails : (c : After-self) → Goes (hardware_of c.self.inside) c.args.fetched.now
fails c = goes (hardware_of c.self.inside) c.args.fetched.now (rw (← c.self.view_is) at c.requires.waits_not)

-- there is room for another instruction
room : (c : After-self) → length c.self.inside.rob.entries < c.self.inside.values.rob
room c = grind (arith, fails)

pub station-requires-clause-room : goal.station-requires-clause-room
station-requires-clause-room c =
    let o = kind_of_word c.args.fetched.now.instruction in
    ap (are_full_for o) c.self.invariant.tied.stationed ∙ full-is (hardware_of c.self.inside) o
    ∙ (fails (goal.at.station-requires-clause-room c).After-self).station

pub station-requires-clause-youngest : goal.station-requires-clause-youngest
station-requires-clause-youngest c = grind (arith, stations-below)

pub enter_store-requires : goal.enter_store-requires
enter_store-requires c = grind (arith, fails, can_enter)

pub define_target-requires : goal.define_target-requires
define_target-requires c =
    let h = hardware_of c.self.inside in
    rw (c.next_number-seq.ensures, c.self.invariant.tied.renamed)
    (can_define h.values h.rob (room (goal.at.define_target-requires c).After-self))

pub checkpoint_jump-requires : goal.checkpoint_jump-requires
checkpoint_jump-requires c =
    let h = hardware_of c.self.inside in
    rw (c.define_target.ensures.defined, c.next_number-seq.ensures, c.self.invariant.tied.renamed)
    (can_checkpoint h.values h.rob (target_of_word c.args.fetched.now.instruction)
    (room (goal.at.checkpoint_jump-requires c).After-self))

waits_not : (c : After-push_entry) → reason_of (hardware_of c.self.inside) c.args.fetched.now ≡ None
waits_not c = rw (← c.self.view_is) at c.requires.waits_not

-- the parts with the instruction
left-is : (c : After-push_entry) →
    record c.self.inside {
      stores = c.enter_store.new.stores;
      stations = c.station.new.stations;
      rename = c.checkpoint_jump.new.rename;
      rob = c.push_entry.new.rob;
    }
    ≡ entered_parts c.args.fetched.now c.self.invariant (waits_not c) c.requires.decoded
    c.define_target.ensures.in_range
left-is c =
    let p = c.self.inside in
    let f = c.args.fetched.now in
    let seq = c.next_number-seq.ensures in
    let stores = c.enter_store.ensures ∙ ap (λ n. with_store (is_store f.instruction) n p.stores) seq in
    let stations = c.station.ensures
    ∙ ap (λ n. with_instruction
    (status_after (values_in p.registers) p.rob.retired p.rob.entries) n f.pc f.instruction p.stations) seq in
    let jump = mends_early p.values.recovery && is_branch_or_jump f.instruction in
    let rename =
    c.checkpoint_jump.ensures ∙ ap (with_jump jump c.next_number-seq.result) c.define_target.ensures.defined
    ∙ ap (λ n. with_jump jump n (with_target n (target_of_word f.instruction) p.rename)) seq in
    let rob = c.push_entry.ensures (hardware_of p) refl in
    λ i. record p { stores = stores i; stations = stations i; rename = rename i; rob = rob i }

pub invariant_of-self : goal.invariant_of-self
invariant_of-self c =
    let at = (goal.at.invariant_of-self c).After-push_entry in
    subst IsSound (sym (left-is at))
    (entered-sound c.args.fetched.now c.self.invariant (waits_not at) c.requires.decoded
    c.define_target.ensures.in_range)

pub returns : goal.returns
returns c =
    let at = (goal.at.returns c).After-push_entry in
    ap hardware_of (left-is at) ∙
    entered-is c.args.fetched.now c.self.invariant (waits_not at) c.requires.decoded c.define_target.ensures.in_range ∙
    ap {A = Hardware} (λ x. record x { rob = pushed (entry_of_fetched x c.args.fetched.now) x.rob }) c.self.view_is
