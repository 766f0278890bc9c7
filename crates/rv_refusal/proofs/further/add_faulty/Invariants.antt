use Rattle.std.proofs.Common.{◌≡◌, ◌++◌, take}
use Rattle.std.specs.List.{flat_map}
use Rattle.rv_refusal.specs.Place.{place_line}
use Rattle.rv_refusal.proofs.further.add_faulty.Given as goal

-- the lines so far are appended
abbrev pub invariant-loop-line : goal.invariant-loop-line
invariant-loop-line l = l.out.items ≡ l.initial.out.items
    ++ flat_map (λ line. place_line l.before line.number line.fault) (take l.line-index l.lines)
