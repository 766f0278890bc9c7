use Rattle.std.proofs.Common.{◌≡◌, true, map, refl, sym, ◌∙◌, arith}
use Rattle.rv_rename.proofs.Youngest.{IsTable-retire, IsTable-keep, option_eq-true, option_eq-false}
use Rattle.rv_isa.proofs.Numbered.{IsInOrder-drop}
use Rattle.rv_rename.proofs.Prefixes.{seq_of}
use Rattle.rv_rename.proofs.CheckpointLists.{checkpoints-retire}
use Rattle.rv_rename.specs.Kept.{checkpoint_of}
use Rattle.rv_rename.specs.Renaming.{is_oldest, retired}
use Rattle.rv_rename.proofs.rename_map.RenameMap.retire.Goals as goal
use Rattle.rv_rename.proofs.rename_map.RenameMap.retire.Goals.{After-pop_front}

is_the_oldest : (c : After-pop_front) → is_oldest c.args.reg c.args.seq c.self.inside.producers.items ≡ true
is_the_oldest c = rw (← c.self.view_is) at (sym c.is_oldest.ensures ∙ c.if-is_oldest.true)

-- without the oldest producer the map is what it is to be, whatever the table keeps
retires : (c : After-pop_front) →
    record {
      capacity = c.pop_front.new.self.capacity;
      producers = c.pop_front.new.self.items;
      checkpoints = map (checkpoint_of c.pop_front.new.self.items) c.self.inside.checkpoints.items;
    } ≡ retired c.args.reg c.args.seq c.args.self.now
retires c =
    let oldest = is_the_oldest c in
    let each = checkpoints-retire c.args.reg c.args.seq c.self.inside.checkpoints.items
    c.self.inside.producers.items c.self.invariant.in_order in
    rw (← c.self.view_is, c.pop_front.ensures.items, oldest, each, oldest) refl

pub invariant_of-self : goal.invariant_of-self
invariant_of-self c =
    let oldest = is_the_oldest (goal.at.invariant_of-self c).After-pop_front in
    rw (c.pop_front.ensures.items, c.index-place.ensures.number) (record {
      in_order = IsInOrder-drop seq_of 1 c.self.inside.producers.items c.self.invariant.in_order;
      table_ok =
          IsTable-retire c.self.inside.table c.args.reg c.args.seq c.self.inside.producers.items
          (omega (arith, c.index-place.ensures)) c.self.invariant.in_order oldest c.self.invariant.table_ok
          (rw (← c.index-place.ensures.number) (option_eq-true _ c.args.seq (sym c.eq.ensures ∙ c.if-eq.true)));
      numbers_fit = c.self.invariant.numbers_fit;
      room_ok = c.self.invariant.room_ok;
    })

pub invariant_of-self-else-eq : goal.invariant_of-self-else-eq
invariant_of-self-else-eq c =
    let oldest = is_the_oldest (goal.at.invariant_of-self-else-eq c).After-pop_front in
    rw c.pop_front.ensures.items (record {
      in_order = IsInOrder-drop seq_of 1 c.self.inside.producers.items c.self.invariant.in_order;
      table_ok =
          IsTable-keep c.self.inside.table c.args.reg c.args.seq c.self.inside.producers.items oldest
          c.self.invariant.table_ok
          (rw (← c.index-place.ensures.number) (option_eq-false _ c.args.seq (sym c.eq.ensures ∙ c.if-eq.false)));
      numbers_fit = c.self.invariant.numbers_fit;
      room_ok = c.self.invariant.room_ok;
    })

pub returns-then-eq-clause-oldest : goal.returns-then-eq-clause-oldest
returns-then-eq-clause-oldest c = retires (goal.at.returns-then-eq-clause-oldest c).After-pop_front

pub returns-else-eq-clause-oldest : goal.returns-else-eq-clause-oldest
returns-else-eq-clause-oldest c = retires (goal.at.returns-else-eq-clause-oldest c).After-pop_front

pub returns-else-is_oldest-clause-oldest : goal.returns-else-is_oldest-clause-oldest
returns-else-is_oldest-clause-oldest c = grind (arith, checkpoints-retire)
