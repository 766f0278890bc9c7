-- The issue phase keeps what a load's access to the cache and the start of an execution keep.
use Rattle.rv_hardware.proofs.Words.{◌≡◌, ℕ, ◌+◌, ◌≤◌, true, List, ◌∷◌, ◌++◌, length, refl, and_parts, is_of_kind}
use Rattle.rv_hardware.proofs.Words.{kind_of_word, sources_of_word, at_kind, Message, Kind, is_free, Entry, Hardware}
use Rattle.rv_hardware.proofs.Words.{is_waiting, FromCache, FromStores, Path, Without, cost_of, has_operands, is_ready}
use Rattle.rv_hardware.proofs.Words.{issue, issue_kind, issue_turn, issued, may_load, path, with_access, with_start}
use Rattle.rv_hardware.proofs.Words.{Turn, result_of_word, layout_of, state_after, Leaves, kept_by_turns, arith}
use Rattle.rv_isa.specs.declared.operations.Kind.TheVariants as kind
use Rattle.rv_hardware.proofs.Turns.Costs.{cost_of-most}
use Rattle.rv_hardware.proofs.Turns.Forms.{with_started, longest_execution, IsResultOfWord}
use Rattle.rv_hardware.proofs.Turns.Issue.{IssueTurn, starts, issue_turn_is}
use Rattle.rv_hardware.proofs.Oldest.{with_entry-at}

-- what it is to be ready
pub record IsReady (h : Hardware) (k : Kind) (older : List Entry) (e : Entry) : Type 0 where
  pub waits : is_waiting e.stage ≡ true
  pub of_kind : is_of_kind k (kind_of_word e.instruction) ≡ true
  pub operands : has_operands older (sources_of_word e.instruction) ≡ true
  pub loads : may_load h older e ≡ true

-- an instruction that is ready waits, is of the kind, has its operands and may load
pub ready-parts : (h : Hardware) (k : Kind) (older : List Entry) (e : Entry) → is_ready h k older e ≡ true →
    IsReady h k older e
ready-parts h k older e ready = grind (arith, and_parts)

module _ (P : Hardware → Type 0) (k : Kind) where
  -- an instruction that is ready may access the cache and start
  pub record IsKeptByIssue : Type 0 where
    pub accesses : (h : Hardware) (older younger : List Entry) (e : Entry) (address : ℕ) → P h →
        h.rob.entries ≡ older ++ e ∷ younger → is_ready h k older e ≡ true → path h older e ≡ FromCache address →
        P (with_access (FromCache address) h)
    pub starts : (h : Hardware) (older younger : List Entry) (e : Entry) (cost : ℕ) (message : Message) → P h →
        h.rob.entries ≡ older ++ e ∷ younger → is_waiting e.stage ≡ true →
        is_of_kind k (kind_of_word e.instruction) ≡ true → IsResultOfWord e.word e.instruction message →
        cost ≤ longest_execution h → P (with_started k cost message older e younger h)

-- the start of the oldest instruction that is ready, where a unit is free, keeps the property
abbrev pub KeepsStarts : (Hardware → Type 0) → Kind → Type 0
KeepsStarts P k =
    (h : Hardware) (older younger : List Entry) (e : Entry) → P h → h.rob.entries ≡ older ++ e ∷ younger →
    is_ready h k older e ≡ true → is_free h.cycle (at_kind k h.units) ≡ true → P (issued k h older e)

module _ {P : Hardware → Type 0} {k : Kind} (kept : IsKeptByIssue P k) where
  begins : (h : Hardware) (older younger : List Entry) (e : Entry) (cost : ℕ) (message : Message) → P h →
      h.rob.entries ≡ older ++ e ∷ younger → is_waiting e.stage ≡ true →
      is_of_kind k (kind_of_word e.instruction) ≡ true → IsResultOfWord e.word e.instruction message →
      cost ≤ longest_execution h → P (with_start k (h.rob.retired + length older) cost message h)
  begins h older younger e cost message holds split given of_kind result costs = grind (arith, with_entry-at)

  begins_by : (h : Hardware) (older younger : List Entry) (e : Entry) (p : Path) → path h older e ≡ p → P h →
      h.rob.entries ≡ older ++ e ∷ younger → is_ready h k older e ≡ true → is_waiting e.stage ≡ true →
      is_of_kind k (kind_of_word e.instruction) ≡ true →
      P (with_start k (h.rob.retired + length older) (cost_of h k p)
      (result_of_word (layout_of h.values) (state_after h older e.pc) h.lines e.word e.instruction) (with_access p h))
  begins_by h older younger e Without by holds split ready waits of_kind =
      begins h older younger e (cost_of h k Without) _ holds split waits of_kind
      (record { layout = layout_of h.values; state = state_after h older e.pc; lines = h.lines; is = refl })
      (cost_of-most h k Without)
  begins_by h older younger e FromStores by holds split ready waits of_kind =
      begins h older younger e (cost_of h k FromStores) _ holds split waits of_kind
      (record { layout = layout_of h.values; state = state_after h older e.pc; lines = h.lines; is = refl })
      (cost_of-most h k FromStores)
  begins_by h older younger e (FromCache address) by holds split ready waits of_kind =
      begins (with_access (FromCache address) h) older younger e (cost_of h k (FromCache address)) _
      (kept.accesses h older younger e address holds split ready by) split waits of_kind
      (record { layout = layout_of h.values; state = state_after h older e.pc; lines = h.lines; is = refl })
      (cost_of-most h k (FromCache address))

  -- its access and its start keep it, so the whole does
  pub starts-keep : KeepsStarts P k
  starts-keep h older younger e holds split is free = grind (arith, ready-parts, begins_by)

module _ {P : Hardware → Type 0} (k : Kind) (keeps : KeepsStarts P k) where
  turn-keeps : {h : Hardware} {t : Turn Hardware} → IssueTurn k h t → P h → Leaves P t
  turn-keeps {h} (starts older younger e at is none free) holds = keeps h older younger e holds at is free
  turn-keeps _ holds = holds

  -- so a turn of the issue phase keeps it
  pub issue_turn-keeps : (h : Hardware) → P h → Leaves P (issue_turn k h)
  issue_turn-keeps h holds = turn-keeps (issue_turn_is k h) holds

  -- and so the turns of a kind do
  pub issue_kind-keeps : (h : Hardware) → P h → P (issue_kind k h)
  issue_kind-keeps h holds = kept_by_turns P (issue_turn k) issue_turn-keeps (at_kind k h.values.kinds).units h holds

-- the four kinds, one after another, keep what the starts of each keep
pub issue-by : (P : Hardware → Type 0) → ((k : Kind) → KeepsStarts P k) → (h : Hardware) → P h → P (issue h)
issue-by P keeps h holds =
    issue_kind-keeps kind.Mem (keeps kind.Mem) _ (issue_kind-keeps kind.Div (keeps kind.Div) _
    (issue_kind-keeps kind.Mul (keeps kind.Mul) _ (issue_kind-keeps kind.Alu (keeps kind.Alu) h holds)))

-- and so what an access to the cache and a start keep
pub issue-keeps : (P : Hardware → Type 0) → ((k : Kind) → IsKeptByIssue P k) → (h : Hardware) → P h → P (issue h)
issue-keeps P kept h holds = issue-by P (λ k. starts-keep (kept k)) h holds
