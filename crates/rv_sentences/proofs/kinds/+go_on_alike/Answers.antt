use Rattle.std.proofs.Common.{◌≡◌, ◌+◌, ◌<◌, ◌^◌, suc, List, [], ◌∷◌, length, arith, map, refl, rules, subst}
use Rattle.std.specs.List.{All}
use Rattle.rv_sentences.specs.Kinds.{kind_with}
use Rattle.rv_sentences.specs.declared.{exception.Exception.Exception, series.Series.Series}
use Rattle.rv_sentences.proofs.kinds.+go_on_alike.Goals as goal

none_alike : (exception : Exception) (kinds : List (Series Exception)) → length kinds ≡ 0 →
    kinds ≡ map (kind_with exception) kinds
none_alike exception [] none = refl
none_alike exception (kind ∷ kinds) none = absurd (omega (arith, none))
