-- What the fetch phase reads from RAM are the words of the program, unless they are stale.
use Rattle.rv_hardware.proofs.Words.{◌≡◌, ℕ, suc, ◌-◌, ◌%◌, Bool, List, [], ◌∷◌, ◌++◌, length, MatchBool, Option}
use Rattle.rv_hardware.proofs.Words.{MatchOption, refl, subst, arith, Values, Layout, Memory, fetched_word, State}
use Rattle.rv_hardware.proofs.Words.{Entry, Answers, FetchBuffer, Fetches, FetchesInto, IsFetchedAt, is_halted}
use Rattle.rv_hardware.proofs.Words.{stop_after, FetchStop, Halted, Fetched, Hardware, layout_of, seen}
use Rattle.rv_hardware.proofs.Headline.Fold.{IsWordAt, IsInBuffer, AreInBuffer}
use Rattle.rv_hardware.proofs.Headline.Invariant.{FollowsProgram, IsSound, IsSoundAt}
use Rattle.rv_hardware.proofs.Headline.Words.{fetched_same, length-bytes_after}

AreInBuffer-append : (layout : Layout) (s : State) (pc middle next : ℕ) (xs ys : List Fetched) →
    AreInBuffer layout s pc xs middle → AreInBuffer layout s middle ys next → AreInBuffer layout s pc (xs ++ ys) next
AreInBuffer-append layout s pc middle next [] ys at rest = subst (λ (n : ℕ). AreInBuffer layout s n ys next) at rest
AreInBuffer-append layout s pc middle next (x ∷ xs) ys all rest =
    (all.0, AreInBuffer-append layout s x.predicted middle next xs ys all.1 rest)

module _ (answers : Answers) (layout : Layout) (ram : Memory) (s : State) (cycle : ℕ)
    (fresh : (pc : ℕ) → pc % 4 ≡ 0 → IsWordAt layout s pc (fetched_word ram.layout ram.bytes pc)) where
  record AddedInOrder (pc : ℕ) (es : List Fetched) (next : ℕ) : Type 0 where
    pub words : AreInBuffer layout s pc es next
    pub aligned : next % 4 ≡ 0

  fetched_one : (pc : ℕ) (e : Fetched) → pc % 4 ≡ 0 → IsFetchedAt answers ram cycle pc e → IsInBuffer layout s pc e
  fetched_one pc e aligned given = grind arith

  after_one : (o : Option FetchStop) (e : Fetched) (es : List Fetched) (width room next : ℕ) (stop : FetchStop) →
      e.predicted % 4 ≡ 0 →
      MatchOption o (Fetches answers ram cycle width room e.predicted es next stop)
      (λ reason. (es ≡ []) × (next ≡ e.predicted) × (stop ≡ reason)) →
      (Fetches answers ram cycle width room e.predicted es next stop → AddedInOrder e.predicted es next) →
      AddedInOrder e.predicted es next
  after_one o e es width room next stop aligned rest go = grind arith

  added : (es : List Fetched) (width room pc next : ℕ) (stop : FetchStop) → pc % 4 ≡ 0 →
      Fetches answers ram cycle width room pc es next stop → AddedInOrder pc es next
  added [] width room pc next stop aligned fetches = grind arith
  added (e ∷ es) (suc width) (suc room) pc next stop aligned fetches =
      let one = fetched_one pc e aligned fetches.0 in
      let rest = after_one (stop_after e) e es width room next stop one.aligned fetches.1
      (λ more. added es width room e.predicted next stop one.aligned more) in
      record { words = (one, rest.words); aligned = rest.aligned }
  added (e ∷ es) width room pc next stop aligned fetches = absurd fetches

  into_by : (halted : Bool) (entries : List Entry) (old new : FetchBuffer) (stop : FetchStop) →
      FollowsProgram layout s entries old →
      MatchBool halted ((new ≡ old) × (stop ≡ Halted))
      ((words : List Fetched) ×
      Fetches answers ram cycle old.width (old.capacity - length old.entries) old.next_pc words new.next_pc stop ×
      (new ≡ record old { entries = old.entries ++ words; next_pc = new.next_pc; halted = is_halted stop })) →
      FollowsProgram layout s entries new
  into_by halted entries old new stop given holds = grind (arith, added, AreInBuffer-append)

  pub fetched_program : (entries : List Entry) (old new : FetchBuffer) (stop : FetchStop) →
      FollowsProgram layout s entries old → FetchesInto answers ram cycle old new stop →
      FollowsProgram layout s entries new
  fetched_program entries old new stop program fetches = into_by old.halted entries old new stop program fetches

-- RAM's words are those that programs see, unless they are stale
pub fresh_words : (h : Hardware) → IsSound h → (pc : ℕ) → pc % 4 ≡ 0 →
    IsWordAt (layout_of h.values) (seen h) pc (fetched_word h.cache.backing.layout h.cache.backing.bytes pc)
fresh_words h is pc aligned not_stale = grind (arith, fetched_same, length-bytes_after)

-- the hardware once its words were fetched
pub fetch_kept : (answers : Answers) {values : Values} {cycle : ℕ} {s : State} {h : Hardware} →
    IsSoundAt values cycle s h → (front : FetchBuffer) (stop : FetchStop) (now next : ℕ) →
    FetchesInto answers h.cache.backing now h.front front stop →
    IsSoundAt values next s (record h { front = front; cycle = next })
fetch_kept answers {h} is front stop now next fetches = record {
  values_are = is.values_are;
  cycle_is = refl;
  sees = is.sees;
  sound = record {
    pc_aligned = is.sound.pc_aligned;
    mepc_aligned = is.sound.mepc_aligned;
    memory = is.sound.memory;
    program = fetched_program answers (layout_of h.values) h.cache.backing (seen h) now
        (fresh_words h is.sound) h.rob.entries h.front front stop is.sound.program fetches;
  };
}
