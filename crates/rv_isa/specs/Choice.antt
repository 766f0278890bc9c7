-- The choices of a description, by the words that it names them with.
use Rattle.std.specs.Prelude.{ℕ, Bool, true, false, List, Option, Some, None, if◌then◌else◌, codes}
use Rattle.std.specs.Str.{bytes_eq}
use Rattle.rv_isa.specs.declared.values.{PredictorKind.PredictorKind, Recovery.Recovery}
use Rattle.rv_isa.specs.declared.values.PredictorKind.TheVariants.{NotTaken, BackwardTaken, Bimodal}
use Rattle.rv_isa.specs.declared.values.Recovery.TheVariants.{Commit, Early}

-- the ways to mend wrong predictions, by their names
abbrev pub recovery_named : List ℕ → Option Recovery
recovery_named name =
    if bytes_eq name (codes "commit") then Some Commit else
    if bytes_eq name (codes "early") then Some Early else None

-- the name of a way to mend wrong predictions
abbrev pub recovery_name : Recovery → List ℕ
recovery_name Commit = codes "commit"
recovery_name Early = codes "early"

-- the name of a predictor
abbrev pub predictor_name : PredictorKind → List ℕ
predictor_name NotTaken = codes "not_taken"
predictor_name BackwardTaken = codes "backward_taken"
predictor_name Bimodal = codes "bimodal"

-- the predictors, by their names
abbrev pub predictor_named : List ℕ → Option PredictorKind
predictor_named name =
    if bytes_eq name (codes "not_taken") then Some NotTaken else
    if bytes_eq name (codes "backward_taken") then Some BackwardTaken else
    if bytes_eq name (codes "bimodal") then Some Bimodal else None

-- two predictors are the same
abbrev pub is_same_predictor : PredictorKind → PredictorKind → Bool
is_same_predictor NotTaken NotTaken = true
is_same_predictor BackwardTaken BackwardTaken = true
is_same_predictor Bimodal Bimodal = true
is_same_predictor _ _ = false
