-- An error that `?` hands on.
use Rattle.std.proofs.Common.{◌≡◌, sym, subst, ap}
use Rattle.std.specs.Prelude.{Result, Ok, Err, IfErr, IsErrAnd}
use Rattle.rv_job.specs.declared.errors.SimError.{SimError}

-- it is answered
pub handed_on : {T : Type 0} (result : Result T SimError) (error : SimError) → IsErrAnd result (λ e. e ≡ error) →
    result ≡ Err error
handed_on (Ok value) error same = absurd same
handed_on (Err e) error same = ap Err same

-- what holds of an error that `?` hands on
pub refused_on : {T : Type 0} (P : SimError → Type 0) (result : Result T SimError) (error : SimError) →
    IsErrAnd result (λ e. e ≡ error) → P error → IfErr result P
refused_on P (Ok value) error same holds = absurd same
refused_on P (Err e) error same holds = subst P (sym same) holds
