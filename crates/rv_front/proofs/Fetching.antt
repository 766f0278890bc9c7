-- A cycle's fetch, word by word.
use Rattle.std.proofs.Common.{◌≡◌, ℕ, suc, ◌-◌, ◌<◌, Bool, true, false, nat_eq, nat_lt, is_none, List}
use Rattle.std.proofs.Common.{[], ◌∷◌, ◌++◌, length, Option, Some, None, MatchBool, MatchOption, refl}
use Rattle.std.proofs.Common.{sym, ap, subst, ◌∙◌, arith, append_assoc, length-append}
use Rattle.std.proofs.lemmas.List.{append-nil}
use Rattle.std.proofs.lemmas.Bool.{ltb-true, ltb-false}
use Rattle.rv_isa.specs.Word.{pc_plus_4}
use Rattle.rv_memory.specs.Memory.{Memory}
use Rattle.rv_front.specs.declared.fetched.Fetched.{Fetched}
use Rattle.rv_front.specs.declared.fetched.FetchStop.{FetchStop}
use Rattle.rv_front.specs.declared.fetched.FetchStop.TheVariants.{Width, Room, Prediction, Halted}
use Rattle.rv_front.specs.FetchBuffer.{Answers, FetchBuffer, Fetches, FetchesInto}
use Rattle.rv_front.specs.FetchBuffer.{IsFetchedAt, IsLinked, is_halted, stop_after, stop_for}
use Rattle.rv_front.specs.OneWord.{FetchesOne}

-- a front by its fields
front_is : (f : FetchBuffer) (es : List Fetched) (capacity width : ℕ) (halted : Bool) → f.entries ≡ es →
    f.capacity ≡ capacity → f.width ≡ width → f.halted ≡ halted →
    f ≡ record { entries = es; capacity = capacity; width = width; next_pc = f.next_pc; halted = halted }
front_is f es capacity width halted e c w h = rw (← e, ← c, ← w, ← h) refl

-- a word that does not end the fetch leaves the front running, and one that does halts it where there is none
runs_on : (word : Option ℕ) (straight : Bool) → stop_for word straight ≡ None → is_none word ≡ false
runs_on None straight h = absurd (cc)
runs_on (Some word) straight h = refl

ends : (word : Option ℕ) (straight : Bool) (stop : FetchStop) → stop_for word straight ≡ Some stop →
    is_none word ≡ is_halted stop
ends None straight stop h = let why : stop ≡ Halted = cc in rw why refl
ends (Some word) true stop h = absurd (cc)
ends (Some word) false stop h = let why : stop ≡ Prediction = cc in rw why refl

module _ (answers : Answers) (ram : Memory) (cycle : ℕ) where
  -- ---- what the first word leaves to fetch
  Fetches-more : (left more pc : ℕ) (e : Fetched) (es : List Fetched) (next : ℕ) (stop : FetchStop) →
      IsFetchedAt answers ram cycle pc e → stop_after e ≡ None →
      Fetches answers ram cycle left more e.predicted es next stop →
      Fetches answers ram cycle (suc left) (suc more) pc (e ∷ es) next stop
  Fetches-more left more pc e es next stop at on rest =
      let P : Option FetchStop →
      Type 0 = λ o. MatchOption o (Fetches answers ram cycle left more e.predicted es next stop)
      (λ reason. (es ≡ []) × (next ≡ e.predicted) × (stop ≡ reason)) in
      (at, subst P (sym on) rest)

  Fetches-last : (left more pc : ℕ) (e : Fetched) (stop : FetchStop) → IsFetchedAt answers ram cycle pc e →
      stop_after e ≡ Some stop → Fetches answers ram cycle (suc left) (suc more) pc (e ∷ []) e.predicted stop
  Fetches-last left more pc e stop at end =
      let nothing : List Fetched = [] in
      let P : Option FetchStop →
      Type 0 = λ o. MatchOption o (Fetches answers ram cycle left more e.predicted nothing e.predicted stop)
      (λ reason. (nothing ≡ []) × (e.predicted ≡ e.predicted) × (stop ≡ reason)) in
      (at, subst P (sym end) (refl, refl, refl))

  -- ---- the words fetched so far, and what they leave to fetch
  pub record Fetching (old : FetchBuffer) (left : ℕ) (now : FetchBuffer) : Type 0 where
    pub added : List Fetched
    pub entries_are : now.entries ≡ old.entries ++ added
    pub capacity_is : now.capacity ≡ old.capacity
    pub width_is : now.width ≡ old.width
    pub halted_is : now.halted ≡ false
    pub rest : (es : List Fetched) (next : ℕ) (stop : FetchStop) →
        Fetches answers ram cycle left (now.capacity - length now.entries) now.next_pc es next stop →
        Fetches answers ram cycle old.width (old.capacity - length old.entries) old.next_pc (added ++ es) next stop

  -- ---- one more word
  less_room : (capacity : ℕ) (es : List Fetched) (e : Fetched) → length es < capacity →
      capacity - length es ≡ suc (capacity - length (es ++ e ∷ []))
  less_room capacity es e h = omega (arith, length-append es (e ∷ []))

  step_in : (old now new : FetchBuffer) (left more : ℕ) (b : Bool) → nat_lt (length now.entries) now.capacity ≡ b →
      left ≡ suc more → Fetching old left now →
      MatchBool b ((e : Fetched) × IsFetchedAt answers ram cycle now.next_pc e × (None ≡ stop_after e)
      × (new ≡ record now { entries = now.entries ++ e ∷ []; next_pc = e.predicted; halted = is_none e.word }))
      ((new ≡ now) × (None ≡ Some Room)) → Fetching old more new
  step_in old now new left more false full el f one = absurd (cc)
  step_in old now new left more true room el f (e, at, is, news) =
      let less = less_room now.capacity now.entries e (ltb-true _ _ room) in
      record {
        added = f.added ++ e ∷ [];
        entries_are = ap (λ (b : FetchBuffer). b.entries) news
            ∙ (ap (λ l. l ++ e ∷ []) f.entries_are ∙ append_assoc old.entries f.added (e ∷ []));
        capacity_is = ap (λ (b : FetchBuffer). b.capacity) news ∙ f.capacity_is;
        width_is = ap (λ (b : FetchBuffer). b.width) news ∙ f.width_is;
        halted_is = ap (λ (b : FetchBuffer). b.halted) news
            ∙ runs_on e.word (nat_eq e.predicted (pc_plus_4 e.pc)) (sym is);
        rest = λ es next stop h.
            let Now : FetchBuffer → Type 0 = λ b. Fetches answers ram cycle more (b.capacity - length b.entries)
            b.next_pc es next stop in
            let Left : ℕ → Type 0 = λ n. Fetches answers ram cycle n (now.capacity - length now.entries)
            now.next_pc (e ∷ es) next stop in
            let Room : ℕ → Type 0 = λ r. Fetches answers ram cycle (suc more) r now.next_pc (e ∷ es) next stop in
            let first = Fetches-more more (now.capacity - length (now.entries ++ e ∷ [])) now.next_pc e es next stop at
            (sym is) (subst Now news h) in
            rw append_assoc (f.rest (e ∷ es) next stop (subst Left (sym el) (subst Room (sym less) first)));
      }

  -- a word that does not end the fetch leaves one less to fetch
  pub Fetching-step : (old now new : FetchBuffer) (left more : ℕ) → left ≡ suc more → Fetching old left now →
      FetchesOne answers ram cycle now new None → Fetching old more new
  Fetching-step old now new left more el f one =
      step_in old now new left more (nat_lt (length now.entries) now.capacity) refl el f one

  -- ---- the end
  into : (old new : FetchBuffer) (stop : FetchStop) (added : List Fetched) → old.halted ≡ false →
      Fetches answers ram cycle old.width (old.capacity - length old.entries) old.next_pc added new.next_pc stop →
      new.entries ≡ old.entries ++ added → new.capacity ≡ old.capacity → new.width ≡ old.width →
      new.halted ≡ is_halted stop → FetchesInto answers ram cycle old new stop
  into old new stop added runs fetches e c w h =
      let P : Bool → Type 0 = λ b. MatchBool b ((new ≡ old) × (stop ≡ Halted)) ((more : List Fetched)
      × Fetches answers ram cycle old.width (old.capacity - length old.entries) old.next_pc more new.next_pc stop
      × (new ≡ record old { entries = old.entries ++ more; next_pc = new.next_pc; halted = is_halted stop })) in
      subst P (sym runs) (
        added,
        fetches,
        front_is new (old.entries ++ added) old.capacity old.width
            (is_halted stop) e c w h,
      )

  end_in : (old now new : FetchBuffer) (left more : ℕ) (stop : FetchStop) (b : Bool) → old.halted ≡ false →
      nat_lt (length now.entries) now.capacity ≡ b → left ≡ suc more → Fetching old left now →
      MatchBool b ((e : Fetched) × IsFetchedAt answers ram cycle now.next_pc e × (Some stop ≡ stop_after e)
      × (new ≡ record now { entries = now.entries ++ e ∷ []; next_pc = e.predicted; halted = is_none e.word }))
      ((new ≡ now) × (Some stop ≡ Some Room)) → FetchesInto answers ram cycle old new stop
  end_in old now new left more stop false runs full el f one =
      let why : stop ≡ Room = cc in
      let none : now.capacity - length now.entries ≡ 0 =
      omega (arith, ltb-false (length now.entries) now.capacity full) in
      let Left : ℕ → Type 0 = λ n. Fetches answers ram cycle n (now.capacity - length now.entries) now.next_pc
      [] now.next_pc Room in
      let Free : ℕ → Type 0 = λ r. Fetches answers ram cycle (suc more) r now.next_pc [] now.next_pc Room in
      let whole = f.rest [] now.next_pc Room (subst Left (sym el) (subst Free (sym none) (refl, refl))) in
      let same : FetchesInto answers ram cycle old now Room =
      into old now Room (f.added ++ []) runs whole (f.entries_are
      ∙ ap (λ l. old.entries ++ l) (sym (append-nil f.added))) f.capacity_is f.width_is f.halted_is in
      let P : FetchBuffer → Type 0 = λ b. FetchesInto answers ram cycle old b stop in
      subst P (sym one.0) (rw why same)
  end_in old now new left more stop true runs room el f (e, at, is, news) =
      let less = less_room now.capacity now.entries e (ltb-true _ _ room) in
      let Left : ℕ → Type 0 = λ n. Fetches answers ram cycle n (now.capacity - length now.entries) now.next_pc
      (e ∷ []) e.predicted stop in
      let Free : ℕ → Type 0 = λ r. Fetches answers ram cycle (suc more) r now.next_pc (e ∷ []) e.predicted stop in
      let last = Fetches-last more (now.capacity - length (now.entries ++ e ∷ [])) now.next_pc e stop at (sym is) in
      let whole = f.rest (e ∷ []) e.predicted stop (subst Left (sym el) (subst Free (sym less) last)) in
      into old new stop (f.added ++ e ∷ []) runs (rw (ap (λ (b : FetchBuffer). b.next_pc) news) whole)
      (ap (λ (b : FetchBuffer). b.entries) news
      ∙ (ap (λ l. l ++ e ∷ []) f.entries_are ∙ append_assoc old.entries f.added (e ∷ [])))
      (ap (λ (b : FetchBuffer). b.capacity) news ∙ f.capacity_is) (ap (λ (b : FetchBuffer). b.width) news ∙ f.width_is)
      (ap (λ (b : FetchBuffer). b.halted) news ∙ ends e.word (nat_eq e.predicted (pc_plus_4 e.pc)) stop (sym is))

  -- where the next word, or a lack of room for it, ends the fetch, what was fetched is the cycle's fetch
  pub Fetching-end : (old now new : FetchBuffer) (left more : ℕ) (stop : FetchStop) → old.halted ≡ false →
      left ≡ suc more → Fetching old left now → FetchesOne answers ram cycle now new (Some stop) →
      FetchesInto answers ram cycle old new stop
  Fetching-end old now new left more stop runs el f one =
      end_in old now new left more stop (nat_lt (length now.entries) now.capacity) runs refl el f one

  -- with no word left to fetch, the words so far are the cycle's fetch, which its width ends
  pub Fetching-all : (old now : FetchBuffer) (left : ℕ) → old.halted ≡ false → left ≡ 0 → Fetching old left now →
      FetchesInto answers ram cycle old now Width
  Fetching-all old now left runs el f =
      let Left : ℕ → Type 0 = λ n. Fetches answers ram cycle n (now.capacity - length now.entries) now.next_pc
      [] now.next_pc Width in
      let whole = f.rest [] now.next_pc Width (subst Left (sym el) (refl, refl)) in
      into old now Width (f.added ++ []) runs whole
      (f.entries_are ∙ ap (λ l. old.entries ++ l) (sym (append-nil f.added))) f.capacity_is f.width_is f.halted_is

-- words linked up to a pc, and one more at that pc, are linked up to its prediction
pub IsLinked-push : (es : List Fetched) (e : Fetched) (pc : ℕ) → e.pc ≡ pc → IsLinked es pc →
    IsLinked (es ++ e ∷ []) e.predicted
IsLinked-push [] e pc at h = (refl, tt)
IsLinked-push (a ∷ []) e pc at h = (at ∙ h.0, (refl, tt))
IsLinked-push (a ∷ b ∷ es) e pc at h = (h.0, IsLinked-push (b ∷ es) e pc at h.1)
