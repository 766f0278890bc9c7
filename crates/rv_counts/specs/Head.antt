-- The instruction at the head of the reorder buffer, cycle by cycle.
use Rattle.std.specs.Prelude.{ℕ, List, [], ◌∷◌, ◌++◌, Option}
use Rattle.std.specs.List.{slice_get}
use Rattle.std.specs.Option.{option_map, option_to_list}
use Rattle.rv_rob.specs.declared.entry.Entry.{Entry}
use Rattle.rv_hardware.specs.Hardware.{Hardware}
use Rattle.rv_hardware.specs.History.{Moment}

-- the address of the instruction at the head of the reorder buffer, if there is one
abbrev pub head_of : Hardware → Option ℕ
head_of h = option_map (λ (e : Entry). e.pc) (slice_get h.rob.entries 0)

-- the addresses that cycles left at the head, the latest first
abbrev pub heads_of : List Moment → List ℕ
heads_of [] = []
heads_of (moment ∷ moments) = heads_of moments ++ option_to_list (head_of moment.after)
