-- Of hardware that a described predictor guides there is one account.
use Rattle.std.proofs.Common.{◌∙◌, ℕ, List, ap, sym}
use Rattle.rv_isa.specs.declared.lines.Arrival.{Arrival}
use Rattle.rv_passage.proofs.OneRun.{one_run}
use Rattle.rv_causes.specs.Path.{account_of_run}
use Rattle.rv_path.specs.PathAccount.{IsPathAccount}
use Rattle.rv_path.specs.Run.{HasOneAnswer}

-- of a run of described hardware the path has one account
pub one_account : (arrivals : List Arrival) (limit : ℕ) → HasOneAnswer limit (IsPathAccount arrivals limit)
one_account arrivals limit h predictor new new' account account' within is is' =
    let one = is.accounted in
    let other = is'.accounted in
    let same = one_run within one.run other.run in
    one.account_is ∙ ap (account_of_run h) same.moments_are ∙ sym other.account_is
