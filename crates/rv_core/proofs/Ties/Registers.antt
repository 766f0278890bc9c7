-- What a register gives is the value or the tag of the youngest instruction that writes it.
use Rattle.rv_core.proofs.Words.{◌≡◌, ℕ, ◌+◌, ◌<◌, ◌≤◌, Bool, cond, List, [], ◌∷◌, ◌++◌, length, ◌==◌, Some, None, All}
use Rattle.rv_core.proofs.Words.{Option, refl, ◌∙◌, arith, eq-eqb, ne_eqb, eqb-true, eqb-false, All-head, All-tail}
use Rattle.rv_core.proofs.Words.{option_or, is_target, target_of_word, Entry, broadcast_of, Operand, Value, youngest}
use Rattle.rv_core.proofs.Words.{Producer, entry_of, RegisterStatus, operand_by, producer_of, producers_of}
use Rattle.rv_core.proofs.Words.{status_after, status_with}
use Rattle.rv_core.proofs.Ties.Renaming.{producers-below, producers-from}

-- what the entry of a producer gives
abbrev pub operand_at : ℕ → Option Entry → Operand
operand_at n None = Value 0
operand_at n (Some e) = operand_by n (broadcast_of e.stage)

-- an operand, or the value of its producer where that is known
abbrev pub operand_from : Operand → Option ℕ → ℕ → List Entry → Operand
operand_from operand None s es = operand
operand_from operand (Some n) s es = operand_at n (entry_of n s es)

youngest-one : (P : ℕ → Type 0) (n : ℕ) (later : Option ℕ) (b : Bool) (own : ℕ) → P own →
    ((k : ℕ) → later ≡ Some k → P k) →
    option_or later (cond b (Some own) None) ≡ Some n → P n
youngest-one P n later b own holds each is = grind arith

-- the youngest producer is one of them
youngest-all : (P : ℕ → Type 0) (register n : ℕ) (ps : List Producer) → All (λ (p : Producer). P p.seq) ps →
    youngest register ps ≡ Some n → P n
youngest-all P register n [] each is = absurd (cc)
youngest-all P register n (p ∷ ps) each is =
    youngest-one P n (youngest register ps) (register == p.register) p.seq
    (All-head (λ (p : Producer). P p.seq) p ps each)
    (λ k later. youngest-all P register k ps (All-tail (λ (p : Producer). P p.seq) p ps each) later) is

-- the number of a producer is that of an instruction in flight
pub youngest-below : (register n s : ℕ) (es : List Entry) → youngest register (producers_of s es) ≡ Some n →
    n < s + length es
youngest-below register n s es is =
    youngest-all (λ k. k < s + length es) register n (producers_of s es)
    (producers-below (s + length es) s es (omega arith)) is

module _ (register : ℕ) where
  later-is : (operand : Operand) (found : Option ℕ) (s : ℕ) (e : Entry) (es : List Entry) →
      ((k : ℕ) → found ≡ Some k → s + 1 ≤ k)
      → operand_from operand found (s + 1) es ≡ operand_from operand found s (e ∷ es)
  later-is operand found s e es from = grind (arith, ne_eqb)

  own-is : (operand : Operand) (found : Option ℕ) (target s : ℕ) (e : Entry) (es : List Entry) →
      ((k : ℕ) → found ≡ Some k → s + 1 ≤ k)
      → operand_from (cond (target == register) (operand_by s (broadcast_of e.stage)) operand) found (s + 1) es
      ≡ operand_from operand (option_or found (cond (register == target) (Some s) None)) s (e ∷ es)
  own-is operand found target s e es from = grind (arith, later-is, eq-eqb, eqb-true, ne_eqb, eqb-false)

  target-is : (operand : Operand) (target : Option ℕ) (s : ℕ) (e : Entry) (es : List Entry) →
      ((k : ℕ) → youngest register (producers_of (s + 1) es) ≡ Some k → s + 1 ≤ k)
      → operand_from (cond (is_target register target) (operand_by s (broadcast_of e.stage)) operand)
      (youngest register (producers_of (s + 1) es)) (s + 1) es
      ≡ operand_from operand (youngest register (producer_of s target ++ producers_of (s + 1) es)) s (e ∷ es)
  target-is operand target s e es from = grind (arith, later-is, own-is)

  -- a register after some instructions
  pub status-is : (status : RegisterStatus) (s : ℕ) (es : List Entry) →
      status_after status s es register ≡ operand_from (status register) (youngest register (producers_of s es)) s es
  status-is status s [] = refl
  status-is status s (e ∷ es) =
      status-is (status_with status s e) (s + 1) es ∙
      target-is (status register) (target_of_word e.instruction) s e es
      (λ k is. youngest-all (λ n. s + 1 ≤ n) register k (producers_of (s + 1) es) (producers-from (s + 1) es) is)
