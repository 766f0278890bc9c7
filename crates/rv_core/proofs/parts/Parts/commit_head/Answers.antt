use Rattle.std.proofs.Common.{arith}
use Rattle.rv_core.proofs.Words.{◌≡◌, subst, word_of, Entry, IsHead}
use Rattle.std.specs.FinSet as set
use Rattle.rv_core.proofs.Retired.Roles.{first_is_head, heads_agree}
use Rattle.rv_core.proofs.parts.Parts.commit_head.Goals.{After-is_stale}
use Rattle.rv_core.proofs.parts.Parts.commit_head.Given.{Over}

head : (g : Over) (c : After-is_stale g) → IsHead c.args.self.now c.in-Some.head.now
head g c = grind (arith, first_is_head)

-- whether its word is stale
stale : (g : Over) (c : After-is_stale g) →
    set.contains c.args.self.now.stale (word_of c.in-Some.head.now.pc) ≡ c.is_stale.result
stale g c = grind arith

-- there is one head: what holds of the one that was got holds of each
of_head : (g : Over) (c : After-is_stale g) (P : Entry → Type 0) → P c.in-Some.head.now → (e : Entry) →
    IsHead c.args.self.now e → P e
of_head g c P is e at = subst P (heads_agree c.args.self.now c.in-Some.head.now e (head g c) at) is
