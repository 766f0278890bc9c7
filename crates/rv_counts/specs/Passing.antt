-- How an instruction left the hardware, and what it waited between two stages.
use Rattle.std.specs.Prelude.{ℕ, ◌-◌, Bool, not, Option, Some, None}
use Rattle.rv_passage.specs.Passage.{is_in_flight, retired_in}
use Rattle.rv_passage.specs.Result.{issued_in}
use Rattle.rv_passage.specs.declared.passage.Passage.{Passage}

-- it left the hardware
abbrev pub has_left : Passage → Bool
has_left p = not (is_in_flight p)

-- the cycles from one stage to a later one, of what came to both
abbrev pub cycles_between : Option ℕ → Option ℕ → Option ℕ
cycles_between (Some from) (Some to) = Some (to - from)
cycles_between _ _ = None

-- the cycles from its fetch to its dispatch
abbrev pub dispatch_wait : Passage → Option ℕ
dispatch_wait p = cycles_between (Some p.fetched) p.dispatched

-- the cycles from its dispatch to its issue
abbrev pub issue_wait : Passage → Option ℕ
issue_wait p = cycles_between p.dispatched (issued_in p)

-- the cycles from its issue to its broadcast
abbrev pub broadcast_wait : Passage → Option ℕ
broadcast_wait p = cycles_between (issued_in p) p.broadcast

-- the cycles from its broadcast to its retirement
abbrev pub retirement_wait : Passage → Option ℕ
retirement_wait p = cycles_between p.broadcast (retired_in p.ending)
