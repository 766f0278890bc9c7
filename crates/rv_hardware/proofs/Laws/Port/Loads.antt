-- The cache's port serves one load at a time.
use Rattle.rv_hardware.proofs.Words.{◌≡◌, ℕ, ◌+◌, ◌≤◌, Bool, true, false, cond, not, ◌&&◌, List, ℤ, is_some, IfSome}
use Rattle.rv_hardware.proofs.Words.{◌==◌, Some, Option, refl, true≢false, arith, eq-eqb, leb-true, is_load, bytes_of}
use Rattle.rv_hardware.proofs.Words.{width_of, modulo_word, sum, Instr, Load, Kind, LoadForm, Values, is_aligned}
use Rattle.rv_hardware.proofs.Words.{is_in_ram, State, register_of, Entry, Hardware, FromCache, FromStores, Path}
use Rattle.rv_hardware.proofs.Words.{cost_of, has_port, may_load, path, path_of, with_access, result_of_word, layout_of}
use Rattle.rv_hardware.proofs.Words.{sym, sym}
use Rattle.rv_hardware.proofs.Marks.Cited.{Mark, Start, HasShape}

-- a load that takes its bytes from the cache: it gives no fault and costs another number of cycles than a forwarded one
abbrev pub uses_cache : Values → Option Instr → Start → Bool
uses_cache v i s = is_load i && (not s.faults && not (s.cost == v.forward))

-- where a mark is such a load
abbrev pub WhereUsed : Values → Mark → (Start → Type 0) → Type 0
WhereUsed v m P = IfSome m.start (λ s. uses_cache v m.instruction s ≡ true → P s)

-- its access is over by a cycle
abbrev pub OverBy : Values → ℕ → Mark → Type 0
OverBy v c m = WhereUsed v m (λ s. s.cycle + s.cost ≤ c)

-- of two, where one began in a cycle the other was over
abbrev pub OneAtATime : Values → ℕ → Mark → Mark → Type 0
OneAtATime v now m n =
    WhereUsed v m (λ s. s.cycle ≡ now → OverBy v now n) × WhereUsed v n (λ s. s.cycle ≡ now → OverBy v now m)

-- the path of a load that uses the cache

module _ (v : Values) (h : Hardware) (shape : HasShape v h) (older : List Entry) (s : State) (k : Kind) where
  abbrev pub Goes_to_cache : Option Instr → Type 0
  Goes_to_cache i = (address : ℕ) × (path_of h older s i ≡ FromCache address)

  from_cache : (b : Bool) (address : ℕ) → ((cost_of h k (cond b FromStores (FromCache address)) == v.forward) ≡ false) →
      (a : ℕ) × (cond b FromStores (FromCache address) ≡ FromCache a)
  from_cache b address other = grind (arith, true≢false, eq-eqb)

  load_path : (form : LoadForm) (rd rs1 : ℕ) (offset : ℤ) (a b : Bool) →
      is_aligned (sum (register_of s rs1) (modulo_word offset)) (bytes_of (width_of form)) ≡ a →
      is_in_ram (layout_of h.values) (sum (register_of s rs1) (modulo_word offset)) (bytes_of (width_of form)) ≡ b →
      (w : Option ℕ) →
      is_some (result_of_word (layout_of h.values) s h.lines w (Some (Load form rd rs1 offset))).fault ≡ false →
      ((cost_of h k (path_of h older s (Some (Load form rd rs1 offset))) == v.forward) ≡ false) →
      Goes_to_cache (Some (Load form rd rs1 offset))
  load_path form rd rs1 offset true true aligned inside (Some w) none other = grind (arith, from_cache)
  load_path form rd rs1 offset a b aligned inside w none other = grind (arith, true≢false)

  -- a load without a fault that costs another time than a forwarded one goes to the cache
  pub path_of_user : (i : Option Instr) (w : Option ℕ) → is_load i ≡ true →
      is_some (result_of_word (layout_of h.values) s h.lines w i).fault ≡ false →
      ((cost_of h k (path_of h older s i) == v.forward) ≡ false) → Goes_to_cache i
  path_of_user (Some (Load form rd rs1 offset)) w load none other =
      load_path form rd rs1 offset _ _ refl refl w none other
  path_of_user i w load none other = absurd (true≢false (sym load))

-- an instruction that may leave its station has the port that its path needs
pub has_its_port : (h : Hardware) (older : List Entry) (e : Entry) → may_load h older e ≡ true →
    has_port h (path h older e) ≡ true
has_its_port h older e may = grind arith

-- the port is not free earlier
pub port_grows : (h : Hardware) (p : Path) → has_port h p ≡ true → h.port_free ≤ (with_access p h).port_free
port_grows h p has = grind (arith, leb-true)
