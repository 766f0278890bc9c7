-- Eight tags and values are written, and the bits of those that are woken are cleared.
use Rattle.std.proofs.Common.{sym, ◌%◌, ◌^◌, ◌≡◌, ◌≤◌, ◌+◌, ◌∙◌, ap₂, map, take, drop, length, eqb, arith}
use Rattle.std.specs.Simd.Lanes.{zip2, mask_l}
use Rattle.std.specs.Vec.{with_items}
use Rattle.std.proofs.lemmas.Bool.{ne_eqb}
use Rattle.std.proofs.lemmas.List.{with_items_is}
use Rattle.rv_stations.specs.Waiting.{woken_operand}
use Rattle.rv_stations.specs.Column.{in_eight, operand_of, woken_tag, woken_value}
use Rattle.rv_stations.specs.ColumnFields.{operands}
use Rattle.rv_stations.proofs.ColumnLemmas.{length-column, operands-in_eight, operands-unlike, IsWaitMask-woken}
use Rattle.rv_stations.proofs.GiveLemmas.{none_like}
use Rattle.rv_stations.proofs.column.OperandColumn.wake_eight.Goals as goal

pub like_from-like-requires : goal.like_from-like-requires
like_from-like-requires c = grind (arith, length-column)

pub returns-then-like-eq0 : goal.returns-then-like-eq0
returns-then-like-eq0 c =
    let p = c.self.inside in
    let none : mask_l (map (λ t. eqb (t % 2 ^ 32) (c.args.seq % 2 ^ 32)) (take 8 (drop c.args.start p.tags.items)))
    ≡ 0 = rw c.as_slice.ensures.value at (sym c.like_from-like.ensures ∙ c.if-like-eq0.true) in
    rw (← c.self.view_is)
    (sym (operands-unlike c.args.seq c.args.value c.args.start p.waiting p.tags.items p.values.items
    (ne_eqb _ _ c.requires.producer) c.ranges.value.fits (omega (arith, c.self.invariant.as_many))
    (omega (arith, c.self.invariant.few))
    (omega (arith, rw (← c.self.view_is) at c.requires.within, length-column p c.self.invariant))
    (none_like c.args.seq (take 8 (drop c.args.start p.tags.items)) none)))

pub wake_from-woken-requires-clause-within : goal.wake_from-woken-requires-clause-within
wake_from-woken-requires-clause-within c = grind (arith, length-column)

room : (c : goal.After-self-3-1) → c.args.start + 8 ≤ length c.self.inside.tags.items
room c = omega (arith, rw (← c.self.view_is) at c.requires.within, length-column c.self.inside c.self.invariant)

tags_are : (c : goal.After-self-3-1) →
    (with_items c.self.inside.tags c.wake_from-woken.new.tags).items
    ≡ in_eight c.args.start (map (woken_tag c.args.seq)) c.self.inside.tags.items
tags_are c = grind (arith, with_items_is)

values_are : (c : goal.After-self-3-1) →
    (with_items c.self.inside.values c.wake_from-woken.new.values).items
    ≡ in_eight c.args.start
    (zip2 (woken_value c.args.seq c.args.value) (take 8 (drop c.args.start c.self.inside.tags.items)))
    c.self.inside.values.items
values_are c = grind (arith, with_items_is)

woken_are : (c : goal.After-self-3-1) →
    c.wake_from-woken.result
    ≡ mask_l (map (λ t. eqb t c.args.seq) (take 8 (drop c.args.start c.self.inside.tags.items)))
woken_are c = grind arith

operands_are : (c : goal.After-self-3-1) →
    zip2 operand_of (with_items c.self.inside.tags c.wake_from-woken.new.tags).items
    (with_items c.self.inside.values c.wake_from-woken.new.values).items
    ≡ in_eight c.args.start (map (woken_operand c.args.seq c.args.value)) (operands c.self.inside)
operands_are c =
    let p = c.self.inside in
    let as_many : length p.tags.items ≡ length p.values.items = omega (arith, c.self.invariant.as_many) in
    let few : length p.tags.items ≤ 64 = omega (arith, c.self.invariant.few) in
    ap₂ (zip2 operand_of) (tags_are c) (values_are c)
    ∙ operands-in_eight c.args.seq c.args.value c.args.start p.waiting p.tags.items p.values.items
    (ne_eqb _ _ c.requires.producer) c.ranges.value.fits as_many few (room c)

pub returns : goal.returns
returns c = rw (← c.self.view_is) (operands_are c)

pub invariant_of-self : goal.invariant_of-self
invariant_of-self c =
    let p = c.self.inside in
    let as_many : length p.tags.items ≡ length p.values.items = omega (arith, c.self.invariant.as_many) in
    let few : length p.tags.items ≤ 64 = omega (arith, c.self.invariant.few) in
    record {
      as_many = c.self.invariant.as_many;
      few = c.self.invariant.few;
      eights = c.self.invariant.eights;
      marked =
          rw (operands_are c, woken_are c)
          (IsWaitMask-woken c.args.seq c.args.value c.args.start p.waiting p.tags.items p.values.items
          (ne_eqb _ _ c.requires.producer) c.ranges.value.fits as_many few (room c) c.self.invariant.marked);
    }
