-- The oldest instruction that waits and can go leaves for a unit in the issue phase, or no unit of its kind is free.
use Rattle.rv_hardware.proofs.Words.{◌≡◌, ℕ, suc, ◌-◌, ◌≤◌, true, false, ◌⊎◌, List, [], ◌∷◌, ◌++◌, Some, Option, sym}
use Rattle.rv_hardware.proofs.Words.{refl, ap, ◌∙◌, subst, inl, inr, true≢false, arith, false≢true, is_same-own}
use Rattle.rv_hardware.proofs.Words.{is_same-true, with_kind-other, is_of_kind, kind_of_word, at_kind, is_same, Instr}
use Rattle.rv_hardware.proofs.Words.{Kind, Pool, is_free, started, Entry, Hardware, FromCache, cost_of, is_ready, issue}
use Rattle.rv_hardware.proofs.Words.{issue_kind, issue_turn, issued, path, with_access, Turn, followed_by, repeated}
use Rattle.rv_hardware.proofs.Words.{EveryAfter, kept_by_turns}
use Rattle.rv_isa.specs.declared.operations.Kind.TheVariants as kind
use Rattle.rv_hardware.proofs.Gap.Head.{HasBegun, HeadIs, Waits, head-change}
use Rattle.rv_hardware.proofs.Marks.Cited.{IssueTurn, no_unit, none_ready, starts, issue_turn_is, message_at}
use Rattle.rv_hardware.proofs.Marks.Cited.{started_entries, IsKeptByIssue, starts-keep, issue_kind-keeps}
use Rattle.rv_hardware.proofs.Marks.Cited.{issue_turn-keeps}
use Rattle.rv_hardware.proofs.Gap.Ready.{CanGo, cache_access, loads_of_mem, ready_head}

-- ---- once it has begun, it has
begun_by_issue : (instruction : Option Instr) (j : Kind) →
    IsKeptByIssue (λ h. HeadIs instruction HasBegun h.rob.entries) j
begun_by_issue instruction j = record {
  accesses = λ h older younger e address head split ready by. head;
  starts = λ h older younger e cost message head split waits of_kind result costs.
      head-change instruction HasBegun older younger e
      (started (record { cycle = h.cycle; cost = cost }) message e) refl (λ same before. refl)
      (subst (HeadIs instruction HasBegun) split head);
}

pub begun-issue_kind : (instruction : Option Instr) (j : Kind) (h : Hardware) →
    HeadIs instruction HasBegun h.rob.entries → HeadIs instruction HasBegun (issue_kind j h).rob.entries
begun-issue_kind instruction j h head = issue_kind-keeps j (starts-keep (begun_by_issue instruction j)) h head

module _ (instruction : Option Instr) {k : Kind} (of_kind : kind_of_word instruction ≡ Some k) (pool : Pool)
    (cycle : ℕ) where
  -- it waits, and can go
  abbrev pub CanStart : Hardware → Type 0
  CanStart h = HeadIs instruction Waits h.rob.entries × (at_kind k h.units ≡ pool) × (h.cycle ≡ cycle) ×
      CanGo instruction h × (1 ≤ (at_kind k h.values.kinds).units)

  -- it still waits and no unit is free, or it has begun
  abbrev pub IsAfterIssue : Hardware → Type 0
  IsAfterIssue h = (CanStart h × (is_free cycle pool ≡ false)) ⊎ HeadIs instruction HasBegun h.rob.entries

  -- ---- the turns of another kind
  still_can : (j : Kind) (h after : Hardware) → is_same k j ≡ false → j ≡ kind.Mem → CanGo instruction h →
      CanGo instruction after
  still_can j h after other mem can = grind (arith, loads_of_mem, false≢true, is_same-own)

  others_keep : (j : Kind) → is_same k j ≡ false → IsKeptByIssue CanStart j
  others_keep j other = record {
    accesses = λ h older younger e address can split ready by. (
      can.0,
      can.1,
      can.2,
      still_can j h (with_access (FromCache address) h) other (cache_access h j older e address ready by).of_mem can.3,
      can.4,
    );
    starts = λ h older younger e cost message can split waits is_kind result costs. (
      head-change instruction Waits older younger e (started (record { cycle = h.cycle; cost = cost }) message e) refl
          (λ same before.
          absurd (false≢true
          (sym other ∙
          ap (is_same k)
          (is_same-true j k
          (sym (ap (λ i. is_of_kind j (kind_of_word i)) same ∙ ap (is_of_kind j) of_kind) ∙ is_kind)) ∙
          is_same-own k)))
          (subst (HeadIs instruction Waits) split can.0),
      with_kind-other j _ h.units k other ∙ can.1,
      can.2,
      can.3,
      can.4,
    );
  }

  others_turn : (j : Kind) → is_same k j ≡ false → (h : Hardware) → CanStart h → CanStart (issue_kind j h)
  others_turn j other h can = issue_kind-keeps j (starts-keep (others_keep j other)) h can

  after_others : (j : Kind) → is_same k j ≡ false → (h : Hardware) → IsAfterIssue h → IsAfterIssue (issue_kind j h)
  after_others j other h (inl (can, held)) = inl (others_turn j other h can, held)
  after_others j other h (inr begun) = inr (begun-issue_kind instruction j h begun)

  -- ---- the turns of its own kind
  abbrev NoneReady : Hardware → List Entry → Type 0
  NoneReady h = EveryAfter (λ before e. is_ready h k before e ≡ false) []

  it_is_ready : (h : Hardware) → CanStart h → (e : Entry) → e.instruction ≡ instruction → Waits e.stage →
      is_ready h k [] e ≡ true
  it_is_ready h can e is waits =
      ready_head h k e waits (ap kind_of_word is ∙ of_kind) (subst (λ i. CanGo i h) (sym is) can.3)

  one_is_ready : (h : Hardware) → CanStart h → (entries : List Entry) → HeadIs instruction Waits entries →
      NoneReady h entries → ⊥
  one_is_ready h can entries head given = grind (arith, true≢false, it_is_ready)

  it_is_first : (h : Hardware) → CanStart h → (older younger : List Entry) (e : Entry) →
      HeadIs instruction Waits (older ++ e ∷ younger) → NoneReady h older → (older ≡ []) × (e.instruction ≡ instruction)
  it_is_first h can older younger e head given = grind (arith, one_is_ready)

  begun_after : (units : ℕ) (h : Hardware) → HeadIs instruction HasBegun h.rob.entries →
      HeadIs instruction HasBegun (repeated (issue_turn k) units h).rob.entries
  begun_after units h begun =
      kept_by_turns (λ after. HeadIs instruction HasBegun after.rob.entries) (issue_turn k)
      (issue_turn-keeps k (starts-keep (begun_by_issue instruction k))) units h begun

  first_turn : (units : ℕ) {h : Hardware} {t : Turn Hardware} → IssueTurn k h t → CanStart h →
      IsAfterIssue (followed_by (repeated (issue_turn k) units) t)
  first_turn units (no_unit held) can = grind arith
  first_turn units {h} (none_ready none) can = absurd (one_is_ready h can h.rob.entries can.0 none)
  first_turn units {h} (starts older younger e at is none free) can =
      let first = it_is_first h can older younger e (subst (HeadIs instruction Waits) at can.0) none in
      let begun : Entry =
      started (record { cycle = h.cycle; cost = cost_of h k (path h older e) }) (message_at h older e) e in
      inr (begun_after units (issued k h older e)
      (subst (HeadIs instruction HasBegun) (sym (started_entries k h older younger e at))
      (subst (λ o. HeadIs instruction HasBegun (o ++ begun ∷ younger)) (sym first.0) (first.1, refl))))

  own_turn : (h : Hardware) → CanStart h → IsAfterIssue (issue_kind k h)
  own_turn h can =
      let some : (at_kind k h.values.kinds).units ≡ suc ((at_kind k h.values.kinds).units - 1) = omega (arith, can.4) in
      subst (λ units. IsAfterIssue (repeated (issue_turn k) units h)) (sym some)
      (first_turn ((at_kind k h.values.kinds).units - 1) (issue_turn_is k h) can)

-- the four kinds, one after another
pub after_issue : (instruction : Option Instr) (k : Kind) (of_kind : kind_of_word instruction ≡ Some k) (pool : Pool)
    (cycle : ℕ) (h : Hardware) →
    CanStart instruction of_kind pool cycle h → IsAfterIssue instruction of_kind pool cycle (issue h)
after_issue instruction kind.Alu is pool cycle h can =
    let a : Hardware = issue_kind kind.Alu h in
    let m : Hardware = issue_kind kind.Mul a in
    let after = after_others instruction is pool cycle in
    after kind.Mem refl (issue_kind kind.Div m)
    (after kind.Div refl m (after kind.Mul refl a (own_turn instruction is pool cycle h can)))
after_issue instruction kind.Mul is pool cycle h can =
    let a : Hardware = issue_kind kind.Alu h in
    let m : Hardware = issue_kind kind.Mul a in
    let after = after_others instruction is pool cycle in
    after kind.Mem refl (issue_kind kind.Div m)
    (after kind.Div refl m
    (own_turn instruction is pool cycle a (others_turn instruction is pool cycle kind.Alu refl h can)))
after_issue instruction kind.Div is pool cycle h can =
    let a : Hardware = issue_kind kind.Alu h in
    let m : Hardware = issue_kind kind.Mul a in
    let before = others_turn instruction is pool cycle in
    after_others instruction is pool cycle kind.Mem refl (issue_kind kind.Div m)
    (own_turn instruction is pool cycle m (before kind.Mul refl a (before kind.Alu refl h can)))
after_issue instruction kind.Mem is pool cycle h can =
    let a : Hardware = issue_kind kind.Alu h in
    let m : Hardware = issue_kind kind.Mul a in
    let before = others_turn instruction is pool cycle in
    own_turn instruction is pool cycle (issue_kind kind.Div m)
    (before kind.Div refl m (before kind.Mul refl a (before kind.Alu refl h can)))
