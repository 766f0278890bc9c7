-- A machine that is made where its values are legal.
use Rattle.std.proofs.Common.{◌≡◌, ◌↔◌, true, Option, None, Some, IfSome, IsSome, inl, inr, refl, ap}
use Rattle.std.proofs.lemmas.Bool.{cases_Bool}
use Rattle.rv_isa.specs.Description.{IsLegal}
use Rattle.rv_isa.specs.declared.values.Values.{Values}
use Rattle.rv_isa.proofs.LegalKeys.{each_legal}
use Rattle.rv_sensitivity.specs.Neighbours.{is_legal, legal_machine}

-- a machine that is made exactly where its values are legal is the legal machine of these values
pub made_where_legal : (v : Values) (made : Option Values) → (IsSome made ↔ IsLegal v) → IfSome made (λ d. d ≡ v) →
    made ≡ legal_machine v
unfolding is_legal
made_where_legal v None is same = elim (cases_Bool (is_legal v)) [
  | inl legal ↦ let impossible : IsSome {T = Values} None = is.1 ((each_legal v).0 legal) in absurd (cc)
  | inr differ ↦ rw differ refl
]
made_where_legal v (Some d) is same =
    let legal : is_legal v ≡ true = (each_legal v).1 (is.0 refl) in
    rw legal (ap Some same)
