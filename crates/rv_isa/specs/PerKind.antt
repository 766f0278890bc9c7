-- What there is for each of the four kinds of unit.
use Rattle.std.specs.Prelude.{Bool, true, false, if◌then◌else◌}
use Rattle.std.specs.Borrow.{Fml, Lends, MutBor, RattleType}
use Rattle.rv_isa.specs.contracts.per_kind.PerKind.{the_row}
use Rattle.rv_isa.specs.declared.{operations.Kind.Kind, per_kind.PerKind.PerKind}
use Rattle.rv_isa.specs.declared.operations.Kind.TheVariants.{Alu, Mul, Div, Mem}

-- whether two kinds are the same
abbrev pub is_same : Kind → Kind → Bool
is_same Alu Alu = true
is_same Mul Mul = true
is_same Div Div = true
is_same Mem Mem = true
is_same _ _ = false

-- the part of a kind
abbrev pub at_kind : {X : Type 0} → Kind → PerKind X → X
at_kind Alu parts = parts.alu
at_kind Mul parts = parts.mul
at_kind Div parts = parts.div
at_kind Mem parts = parts.mem

-- the parts that a function of the kind gives
abbrev pub by_kind : {X : Type 0} → (Kind → X) → PerKind X
by_kind part = record { alu = part Alu; mul = part Mul; div = part Div; mem = part Mem }

-- the same parts, but for that of a kind
abbrev pub with_kind : {X : Type 0} → Kind → X → PerKind X → PerKind X
with_kind kind part parts = by_kind (λ other. if is_same other kind then part else at_kind other parts)

-- the same change of each part
abbrev pub for_each : {X Y : Type 0} → (X → Y) → PerKind X → PerKind Y
for_each change parts = by_kind (λ kind. change (at_kind kind parts))

-- the parts end with that of a kind as it was last written through r
abbrev pub LendsKind : (R : RattleType) → MutBor (PerKind R.Denot) → Kind → MutBor R.Denot → Fml
LendsKind R parts kind r = Lends (the_row R) R parts r (λ part. with_kind kind part parts.now)
