use Rattle.std.proofs.Common.{subst, arith}
use Rattle.rv_passage.specs.ByAddress.{IsPlaceFor}
use Rattle.rv_causes.specs.Account.{address_of}
use Rattle.rv_causes.proofs.WordPlaces.{cycles-none, cycles-there}
use Rattle.rv_causes.proofs.word_cycles.Words.cycles_at.Goals as goal

pub returns-in-Ok : goal.returns-in-Ok
returns-in-Ok c = grind (arith, cycles-there)

pub returns-in-Err : goal.returns-in-Err
returns-in-Err c =
    cycles-none c.args.address c.args.self.now.words.items c.in-Err.field-0
    (subst (IsPlaceFor address_of c.args.address c.in-Err.field-0) c.as_slice.ensures.value c.in-Err.ensures.absent)
