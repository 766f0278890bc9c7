-- What takes the steps of cycles: what it lists, what it has room for, and what it holds after more of them.
use Rattle.std.specs.Prelude.{◌≡◌, ℕ, ◌+◌, ◌^◌, ◌<◌, ◌≤◌, List, [], ◌++◌, length}
use Rattle.std.specs.Prelude.{count_by, true, is_some, Option, Some, None, vec_capacity}
use Rattle.std.specs.Global.{Vec}
use Rattle.rv_hardware.specs.Step.{is_interrupt, is_trap}
use Rattle.rv_hardware.specs.declared.step.Step.{Step}
use Rattle.rv_core.specs.declared.steps.Steps.{Steps}

-- the steps of a list, if there is one
abbrev pub items_of : Option (Vec Step) → List Step
items_of None = []
items_of (Some list) = list.items

-- how many a list can hold, if there is one
abbrev pub capacity_of : Option (Vec Step) → ℕ
capacity_of None = 0
capacity_of (Some list) = vec_capacity list

-- the steps that are listed
abbrev pub listed : Steps → List Step
listed steps = items_of steps.list

-- how many can be listed
abbrev pub room_of : Steps → ℕ
room_of steps = capacity_of steps.list

-- so many steps more can be counted, and listed where they are listed
pub record HasRoom (steps : Steps) (more : ℕ) : Type 0 where
  pub count : steps.count + more < 2 ^ 64
  pub traps : steps.traps + more < 2 ^ 64
  pub interrupts : steps.interrupts + more < 2 ^ 64
  pub lists : is_some steps.list ≡ true → length (listed steps) + more ≤ room_of steps

-- these steps were taken: they are counted, and stand after those before them where they are listed
pub record Takes (old new : Steps) (more : List Step) : Type 0 where
  pub count : new.count ≡ old.count + length more
  pub traps : new.traps ≡ old.traps + count_by is_trap more
  pub interrupts : new.interrupts ≡ old.interrupts + count_by is_interrupt more
  pub kept : is_some new.list ≡ is_some old.list
  pub lists : is_some old.list ≡ true → listed new ≡ listed old ++ more
  pub room : room_of new ≡ room_of old
