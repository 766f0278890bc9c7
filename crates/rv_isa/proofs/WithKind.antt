-- The part of a kind in parts that were made or changed.
use Rattle.std.proofs.Common.{◌≡◌, true, false, cond, inl, inr, refl, sym, ap, subst, ◌∙◌, arith}
use Rattle.std.proofs.lemmas.Bool.{cases_Bool}
use Rattle.rv_isa.specs.declared.operations.Kind.{Kind}
use Rattle.rv_isa.specs.declared.per_kind.PerKind.{PerKind}
use Rattle.rv_isa.specs.PerKind.{at_kind, by_kind, for_each, is_same, with_kind}

-- a kind is the same as itself, and as no other
pub is_same-own : (kind : Kind) → is_same kind kind ≡ true
is_same-own kind = grind arith

-- kinds that the test finds the same are equal
pub is_same-true : (a b : Kind) → is_same a b ≡ true → a ≡ b
is_same-true a b is = grind arith

-- the part of a kind is the one that a function of the kinds gave it
pub at_kind-by_kind : {X : Type 0} (part : Kind → X) (kind : Kind) → at_kind kind (by_kind part) ≡ part kind
at_kind-by_kind part kind = grind arith

-- after one change of each part, the part of a kind is its former one, changed
pub at_kind-for_each : {X Y : Type 0} (change : X → Y) (parts : PerKind X) (kind : Kind) →
    at_kind kind (for_each change parts) ≡ change (at_kind kind parts)
at_kind-for_each change parts kind = at_kind-by_kind (λ k. change (at_kind k parts)) kind

-- parts are the same where they are so for each kind
pub by_kind-same : {X : Type 0} (a b : Kind → X) → ((kind : Kind) → a kind ≡ b kind) → by_kind a ≡ by_kind b
by_kind-same a b is = λ i. by_kind (λ kind. is kind i)

module _ {X : Type 0} (kind : Kind) (part : X) (parts : PerKind X) where
  at_kind-with_kind : (other : Kind) → at_kind other (with_kind kind part parts)
      ≡ cond (is_same other kind) part (at_kind other parts)
  at_kind-with_kind other = at_kind-by_kind (λ k. cond (is_same k kind) part (at_kind k parts)) other

  -- the kind has the new part
  pub with_kind-own : at_kind kind (with_kind kind part parts) ≡ part
  with_kind-own = at_kind-with_kind kind ∙ ap (λ b. cond b part (at_kind kind parts)) (is_same-own kind)

  -- every other kind keeps its part
  pub with_kind-other : (other : Kind) → is_same other kind ≡ false →
      at_kind other (with_kind kind part parts) ≡ at_kind other parts
  with_kind-other other is = at_kind-with_kind other ∙ ap (λ b. cond b part (at_kind other parts)) is

  -- what holds of the new part, and of each other one
  pub with_kind-each : (Q : Kind → X → Type 0) → Q kind part →
      ((other : Kind) → is_same other kind ≡ false → Q other (at_kind other parts)) → (other : Kind) →
      Q other (at_kind other (with_kind kind part parts))
  with_kind-each Q new all other = rw (at_kind-with_kind other) (elim (cases_Bool (is_same other kind)) [
    | inl same ↦ rw same (subst (λ k. Q k part) (sym (is_same-true other kind same)) new)
    | inr differ ↦ rw differ (all other differ)
  ])

-- functions that agree on every other kind
pub with_kind-by_kind : {X : Type 0} (kind : Kind) (a b : Kind → X) →
    ((other : Kind) → is_same other kind ≡ false → a other ≡ b other) → with_kind kind (b kind) (by_kind a) ≡ by_kind b
with_kind-by_kind kind a b same = by_kind-same (λ k. cond (is_same k kind) (b kind) (at_kind k (by_kind a))) b (λ other.
    elim (cases_Bool (is_same other kind)) [
      | inl is ↦ rw is (ap b (sym (is_same-true other kind is)))
      | inr differ ↦ rw differ (at_kind-by_kind a other ∙ same other differ)
    ])

-- a part put back in its place
pub with_kind-back : {X : Type 0} (kind : Kind) (parts : PerKind X) → with_kind kind (at_kind kind parts) parts ≡ parts
with_kind-back kind parts = with_kind-by_kind kind (λ k. at_kind k parts) (λ k. at_kind k parts) (λ other differ. refl)
