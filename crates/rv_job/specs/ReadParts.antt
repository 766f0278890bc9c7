-- What the pieces of a text that the program holds are.
use Rattle.rv_job.specs.Parts as text
use Rattle.rv_job.specs.declared.parts.{Halves.Halves, Parts.Parts}

-- the bytes of the halves that it holds
abbrev pub halves_in : Halves → text.Halves
halves_in halves = record { before = halves.before.now; after = halves.after.now }

-- the bytes of the parts that it holds
abbrev pub parts_in : Parts → text.Parts
parts_in parts =
    record { description = parts.description.now; arrivals = parts.arrivals.now; assembly = parts.assembly.now }
