-- A guided cycle from hardware is one from the same hardware, and one with the same report.
use Rattle.rv_core.proofs.Words.{◌≡◌, subst, Lines, Hardware, Report, Guide, GuidedHardware, IsGuidedCycle, guided}

-- a cycle from the same hardware
pub cycle_from : {lines : Lines} {h h' : Hardware} {predictor : Guide} {report : Report}
    {new : GuidedHardware} → h ≡ h' → IsGuidedCycle lines (guided h predictor) report new →
    IsGuidedCycle lines (guided h' predictor) report new
cycle_from {lines} {h} {h'} {predictor} {report} {new} same cycle =
    subst (λ x. IsGuidedCycle lines (guided x predictor) report new) same cycle

-- a cycle with the same report
pub cycle_with : {lines : Lines} {old new : GuidedHardware} {report report' : Report} → report ≡ report' →
    IsGuidedCycle lines old report new → IsGuidedCycle lines old report' new
cycle_with {lines} {old} {new} same cycle = subst (λ r. IsGuidedCycle lines old r new) same cycle
