use Rattle.std.proofs.Common.{◌≡◌, ℕ, List, Some, IsSome, codes, arith}
use Rattle.toml.specs.Data.{Members, get_member}
use Rattle.toml.specs.Errors.{IsBlank}
use Rattle.toml.specs.Parse.{parse_document, lines}
use Rattle.rv_describe.specs.Document.{document}
use Rattle.rv_describe.proofs.arrival_list.read_arrivals.Goals as goal

-- a blank text is the document of an empty table, which has no arrivals
blank_has_none : (text : List ℕ) (table : Members) → IsBlank text → Some table ≡ document text →
    IsSome (get_member (codes "arrival") table) → ⊥
unfolding parse_document lines
blank_has_none text table blank parsed some = grind (arith, blank)

pub returns-in-Ok-Some-clause-memory : goal.returns-in-Ok-Some-clause-memory
returns-in-Ok-Some-clause-memory c =
    grind (arith, blank_has_none)
