use Rattle.std.proofs.Common.{arith}
use Rattle.rv_core.proofs.Words.{◌≡◌, List, commit_turn, head_turn, Step, IsHead, committing}
use Rattle.std.specs.FinSet as set
use Rattle.rv_core.proofs.Retired.Roles.{first_is_head, turn_of_head, serialising_waits_not}
use Rattle.rv_core.proofs.parts.Parts.serial_head.Goals as goal
use Rattle.rv_core.proofs.parts.Parts.serial_head.Goals.{After-role_of, In-Some}

head : (c : In-Some) → IsHead c.args.self.now c.in-Some.head.now
head c = grind (arith, first_is_head)

pub fence_instructions-requires-clause-head : goal.fence_instructions-requires-clause-head
fence_instructions-requires-clause-head c = head (goal.at.fence_instructions-requires-clause-head c).In-Some

pub access_csr-requires-clause-head : goal.access_csr-requires-clause-head
access_csr-requires-clause-head c = head (goal.at.access_csr-requires-clause-head c).In-Some

pub return_from_trap-requires-clause-head : goal.return_from_trap-requires-clause-head
return_from_trap-requires-clause-head c = head (goal.at.return_from_trap-requires-clause-head c).In-Some

-- a fresh head has its turn
turn : (c : After-role_of) (at : IsHead c.args.self.now c.in-Some.head.now) (steps : List Step) →
    commit_turn set.contains (committing c.args.self.now steps)
    ≡ head_turn c.in-Some.head.now c.in-Some.head.now.instruction (committing c.args.self.now steps)
turn c at steps = turn_of_head c.args.self.now c.in-Some.head.now steps at (c.requires.fresh c.in-Some.head.now at)

pub returns-in-WaitsForResult-clause-turn : goal.returns-in-WaitsForResult-clause-turn
returns-in-WaitsForResult-clause-turn c steps = grind (arith, serialising_waits_not)
