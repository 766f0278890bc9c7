-- A property that each turn keeps is kept by all turns, and what holds at reset and is kept by each cycle always holds.
use Rattle.std.proofs.Common.{◌≡◌, ℕ, zero, suc, ◌+◌, ◌^◌, ◌<◌, List, arith}
use Rattle.rv_isa.specs.Description.{IsLegal}
use Rattle.rv_isa.specs.declared.lines.Lines.{Lines}
use Rattle.rv_isa.specs.declared.values.Values.{Values}
use Rattle.rv_hardware.specs.Cycle.{IsCycle, any_prediction}
use Rattle.rv_hardware.specs.Hardware.{Hardware}
use Rattle.rv_hardware.specs.Repeated.{Ends, GoesOn, Turn, followed_by, repeated}
use Rattle.rv_hardware.specs.Report.{Report}
use Rattle.rv_hardware.specs.Reset.{IsLoadable, reset_hardware}
use Rattle.rv_hardware.specs.Run.{Reachable, at_reset, by_cycle}

-- P of what a turn leaves to a further one, Q of what it leaves to no other
abbrev pub Leads : {S : Type 0} → (S → Type 0) → (S → Type 0) → Turn S → Type 0
Leads P Q (GoesOn s) = P s
Leads P Q (Ends s) = Q s

-- P of what a turn leaves, to a further one or to no other
abbrev pub Leaves : {S : Type 0} → (S → Type 0) → Turn S → Type 0
Leaves P t = Leads P P t

-- two facts of what a turn leaves to a further one, and the second of what it leaves to no other
pub leads_both : {S : Type 0} (P Q R : S → Type 0) (t : Turn S) → Leads P P t → Leads Q R t → Leads (λ s. P s × Q s) R t
leads_both P Q R t p q = grind arith

-- what a turn leads to, and so what it leads to after the turns that follow
pub left_by_the_rest : {S : Type 0} (P Q : S → Type 0) (rest : S → S) → ((s : S) → P s → Q (rest s)) →
    (t : Turn S) → Leads P Q t → Q (followed_by rest t)
left_by_the_rest P Q rest goes t left = grind arith

module _ {S : Type 0} (total : ℕ) (P : ℕ → S → Type 0) (Q : S → Type 0) (turn : S → Turn S)
    (leads : (k : ℕ) (s : S) → k < total → P k s → Leads (P (suc k)) Q (turn s))
    (last : (s : S) → P total s → Q s) where
  -- where after k turns P k holds, until a turn ends in Q or so many were taken, the turns lead to Q
  pub turns_within : (width k : ℕ) (s : S) → width + k ≡ total → P k s → Q (repeated turn width s)
  turns_within zero k s all h = last s (let same : total ≡ k = omega (arith, all) in rw same h)
  turns_within (suc width) k s all h =
      left_by_the_rest (P (suc k)) Q (repeated turn width) (λ t g. turns_within width (suc k) t (omega (arith, all)) g)
      (turn s) (leads k s (omega (arith, all)) h)

-- turns that keep P while they go on, and leave Q
pub left_by_turns : {S : Type 0} {P Q : S → Type 0} (turn : S → Turn S) → ((s : S) → P s → Leads P Q (turn s)) →
    ((s : S) → P s → Q s) → (width : ℕ) (s : S) → P s → Q (repeated turn width s)
left_by_turns {P} {Q} turn keeps stops width s holds =
    turns_within width (λ k. P) Q turn (λ k t lt p. keeps t p) stops width 0 s (omega arith) holds

-- what each turn keeps all turns keep
pub kept_by_turns : {S : Type 0} (P : S → Type 0) (turn : S → Turn S) → ((s : S) → P s → Leaves P (turn s)) →
    (width : ℕ) (s : S) → P s → P (repeated turn width s)
kept_by_turns P turn keeps width s holds = left_by_turns turn keeps (λ t p. p) width s holds

-- what holds at reset and each cycle of reachable hardware keeps holds of all reachable hardware
pub always : {P : Hardware → Type 0} →
    ((values : Values) (base : ℕ) (image : List ℕ) (start : ℕ) → IsLegal values → IsLoadable values base image start →
    P (reset_hardware values image start)) →
    ((old new : Hardware) (lines : Lines) (report : Report) → Reachable old → P old → old.cycle < 2 ^ 40 →
    IsCycle any_prediction lines old report new → P new) →
    {h : Hardware} → Reachable h → P h
always first next (at_reset {values} {base} {image} {start} legal loadable) =
    first values base image start legal loadable
always {P} first next (by_cycle {old} {new} {lines} {report} reached counted cycles) =
    next old new lines report reached (always first next reached) counted cycles
