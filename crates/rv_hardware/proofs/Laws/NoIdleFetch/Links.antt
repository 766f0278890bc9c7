-- Marks of which each shows why the next was not fetched earlier go on to do so.
use Rattle.rv_hardware.proofs.Words.{◌≡◌, ℕ, suc, ◌+◌, ◌<◌, ◌≤◌, Bool, true, cond, ◌&&◌, ◌⊎◌, List, [], ◌∷◌, ◌++◌}
use Rattle.rv_hardware.proofs.Words.{length, Some, None, Option, sym, ap, ◌∙◌, subst, append_assoc, arith}
use Rattle.rv_hardware.proofs.Words.{length-append, Early, Values, Each, count, inl, inr}
use Rattle.rv_hardware.proofs.Marks.Cited.{Advances, Kept, advances_agree, is_buffered_mark, Mark, at_end, was_fetched}

-- at the end of a cycle the word is in the fetch buffer
abbrev pub is_word : ℕ → Mark → Bool
is_word c m = was_fetched c m && is_buffered_mark (at_end c m)

-- how many words the buffer held at the end of each cycle, of those up to a mark
abbrev pub with_word : (ℕ → ℕ) → Mark → ℕ → ℕ
with_word held m c = cond (is_word c m) (suc (held c)) (held c)

-- from its fetch on and until a cycle the buffer was full
abbrev pub Filled : Values → (ℕ → ℕ) → Mark → ℕ → Type 0
Filled v held m t = (c : ℕ) → m.fetched < c → c < t → v.fetch_buffer ≤ with_word held m c

-- there is a cycle, and it is no later than t
abbrev pub IsBy : Option ℕ → ℕ → Type 0
IsBy None t = ⊥
IsBy (Some c) t = c ≤ t

-- n was fetched after the retirement of m, with early recovery in the cycle of its broadcast, or once there was room
abbrev pub Followed : Values → ℕ → (ℕ → ℕ) → Mark → Mark → Type 0
Followed v now held m n =
    (n.fetched ≤ now) ×
    (IsBy m.retired n.fetched ⊎ ((v.recovery ≡ Early) × (m.broadcast ≡ Some n.fetched)) ⊎ Filled v held m n.fetched)

-- nothing was fetched after m: fetch is halted, m retired, or there was no room
abbrev pub IsOpen : Values → Bool → ℕ → (ℕ → ℕ) → Mark → Type 0
IsOpen v halted now held m = (halted ≡ true) ⊎ IsBy m.retired now ⊎ Filled v held m now

-- by the marks that come after one
abbrev pub Joint : Values → ℕ → ((ℕ → ℕ) → Mark → Type 0) → (ℕ → ℕ) → Mark → List Mark → Type 0
Joint v now last held m [] = last held m
Joint v now last held m (n ∷ ns) = Followed v now held m n

-- each mark is joined to the next, and of the last something is known
abbrev pub Linked : Values → ℕ → ((ℕ → ℕ) → Mark → Type 0) → (ℕ → ℕ) → List Mark → Type 0
Linked v now last held [] = Unit {0}
Linked v now last held (m ∷ ms) = Joint v now last held m ms × Linked v now last (with_word held m) ms

-- the last of some elements
abbrev pub LastIs : {X : Type 0} → (X → Type 0) → List X → Type 0
LastIs P [] = Unit {0}
LastIs P (x ∷ []) = P x
LastIs P (x ∷ y ∷ ys) = LastIs P (y ∷ ys)

-- what is known of an element is known of the last, where that one stands at the end
pub last_at : {X : Type 0} (P : X → Type 0) (xs : List X) (y : X) → P y → LastIs P (xs ++ y ∷ [])
last_at P [] y is = is
last_at P (x ∷ []) y is = is
last_at P (x ∷ z ∷ zs) y is = last_at P (z ∷ zs) y is

-- what is known of the last is known of the last of the rest
pub last_of : {X : Type 0} (P : X → Type 0) (x : X) (xs : List X) → LastIs P (x ∷ xs) → LastIs P xs
last_of P x xs last = grind arith

-- how many words the buffer held
abbrev pub held_after : (ℕ → ℕ) → List Mark → ℕ → ℕ
held_after held [] = held
held_after held (m ∷ ms) = held_after (with_word held m) ms

held_more : (b : Bool) (h n : ℕ) {k : ℕ} → k ≡ cond b (suc h) h + n → k ≡ h + cond b (suc n) n
held_more b h n is = grind arith

-- the buffer held as many words as before, and those of the marks that are words
pub held_count : (held : ℕ → ℕ) (ms : List Mark) (c : ℕ) → held_after held ms c ≡ held c + count (is_word c) ms
held_count held [] c = omega arith
held_count held (m ∷ ms) c =
    held_more (is_word c m) (held c) (count (is_word c) ms) (held_count (with_word held m) ms c)

-- one that goes on

module _ (v : Values) (now : ℕ) (halted : Bool) where
  -- at least as many were held
  abbrev AtLeast : (ℕ → ℕ) → (ℕ → ℕ) → Type 0
  AtLeast held more = (c : ℕ) → c < now → held c ≤ more c

  counted_by : (b : Bool) (h k : ℕ) → h ≤ k → cond b (suc h) h ≤ cond b (suc k) k
  counted_by b h k le = grind arith

  with_more : (held more : ℕ → ℕ) (m : Mark) → AtLeast held more → AtLeast (with_word held m) (with_word more m)
  with_more held more m le c lt = counted_by (is_word c m) (held c) (more c) (le c lt)

  filled_more : (held more : ℕ → ℕ) (m : Mark) (t : ℕ) → t ≤ now → AtLeast held more → Filled v held m t →
      Filled v more m t
  filled_more held more m t le at_least h c given before = grind (arith, with_more)

  followed_more : (held more : ℕ → ℕ) (m n : Mark) → AtLeast held more → Followed v now held m n →
      Followed v now more m n
  followed_more held more m n le given = grind (arith, filled_more)

  open_more : (held more : ℕ → ℕ) (m : Mark) → AtLeast held more → IsOpen v halted now held m →
      IsOpen v halted now more m
  open_more held more m le given = grind (arith, filled_more)

  joint_more : (held more : ℕ → ℕ) (m : Mark) (ms : List Mark) → AtLeast held more →
      Joint v now (IsOpen v halted now) held m ms → Joint v now (IsOpen v halted now) more m ms
  joint_more held more m ms le h = grind (arith, open_more, followed_more)

  linked_more : (held more : ℕ → ℕ) (ms : List Mark) → AtLeast held more → Linked v now (IsOpen v halted now) held ms →
      Linked v now (IsOpen v halted now) more ms
  linked_more held more [] le h = tt
  linked_more held more (m ∷ ms) le h = (
    joint_more held more m ms le h.0,
    linked_more (with_word held m) (with_word more m) ms (with_more held more m le) h.1,
  )

  -- what a mark that goes on keeps
  record WentOn (m n : Mark) : Type 0 where
    fetched : m.fetched ≡ n.fetched
    before : (c : ℕ) → c < now → at_end c m ≡ at_end c n
    not_retired : m.retired ≡ None
    sent : (t : ℕ) → m.broadcast ≡ Some t → n.broadcast ≡ Some t

  not_sent_yet : {P : Type 0} (m : Mark) (t : ℕ) → m.broadcast ≡ None → m.broadcast ≡ Some t → P
  not_sent_yet m t none some = absurd (let same = sym none ∙ some in cc)

  goes_on : (xs : List Mark) (m n : Mark) → Advances v now xs m n → WentOn m n
  goes_on xs m n given = grind (arith, advances_agree, not_sent_yet)

  module _ {m n : Mark} (g : WentOn m n) where
    same_word : (c : ℕ) → c < now → is_word c m ≡ is_word c n
    same_word c lt = λ i. was_fetched c (record m { fetched = g.fetched i }) && is_buffered_mark (g.before c lt i)

    with_same : (held : ℕ → ℕ) → AtLeast (with_word held m) (with_word held n)
    with_same held c lt = let same = ap (λ b. cond b (suc (held c)) (held c)) (same_word c lt) in omega (arith, same)

    filled_same : (held : ℕ → ℕ) (t : ℕ) → t ≤ now → Filled v held m t → Filled v held n t
    filled_same held t le h c given before = grind (arith, with_same)

    retired_before : {P : Type 0} (t : ℕ) → IsBy m.retired t → P
    retired_before t by = absurd (subst (λ o. IsBy o t) g.not_retired by)

    joint_goes : (held : ℕ → ℕ) (ms : List Mark) → Joint v now (IsOpen v halted now) held m ms →
        Joint v now (IsOpen v halted now) held n ms
    joint_goes held [] (inl is) = inl is
    joint_goes held [] (inr (inl over)) = retired_before now over
    joint_goes held [] (inr (inr full)) = inr (inr (filled_same held now (omega arith) full))
    joint_goes held (z ∷ zs) (by, inl over) = retired_before z.fetched over
    joint_goes held (z ∷ zs) (by, inr (inl early)) = (by, inr (inl (early.0, g.sent z.fetched early.1)))
    joint_goes held (z ∷ zs) (by, inr (inr full)) = (by, inr (inr (filled_same held z.fetched by full)))

    joint_before : (held : ℕ → ℕ) (x : Mark) (xs zs : List Mark) →
        Joint v now (IsOpen v halted now) held x (xs ++ m ∷ zs) →
        Joint v now (IsOpen v halted now) held x (xs ++ n ∷ zs)
    joint_before held x [] zs h = grind arith
    joint_before held x (y ∷ ys) zs h = h

    linked_goes : (held : ℕ → ℕ) (xs zs : List Mark) → Linked v now (IsOpen v halted now) held (xs ++ m ∷ zs) →
        Linked v now (IsOpen v halted now) held (xs ++ n ∷ zs)
    linked_goes held [] zs h =
        (joint_goes held zs h.0, linked_more (with_word held m) (with_word held n) zs (with_same held) h.1)
    linked_goes held (x ∷ xs) zs h = (joint_before held x xs zs h.0, linked_goes (with_word held x) xs zs h.1)

  -- a list of marks that was cut at most
  abbrev pub WasLinked : ℕ → List Mark → Type 0
  WasLinked size ms =
      (rest : List Mark) × Linked v now (IsOpen v halted now) (λ c. 0) (ms ++ rest) × (length (ms ++ rest) ≡ size)

  same_size : (xs zs : List Mark) (m n : Mark) → length (xs ++ m ∷ zs) ≡ length (xs ++ n ∷ zs)
  same_size xs zs m n = length-append xs (m ∷ zs) ∙ sym (length-append xs (n ∷ zs))

  -- marks that go on, and a cut, keep it that they were linked
  pub was_linked_kept : (size : ℕ) → Kept v now (WasLinked size)
  was_linked_kept size = grind (arith, append_assoc, linked_goes, goes_on, same_size)

-- a fetch

-- in a later cycle
followed_later : (v : Values) (now : ℕ) (held : ℕ → ℕ) (m n : Mark) → Followed v now held m n →
    Followed v (now + 1) held m n
followed_later v now held m n h = (omega (arith, h.0), h.1)

module _ (v : Values) (now : ℕ) (last next : (ℕ → ℕ) → Mark → Type 0) where
  -- where nothing is fetched, at least so many were held
  joint_stays : (held : ℕ → ℕ) (m : Mark) (ms : List Mark) →
      ((h : ℕ → ℕ) (x : Mark) → with_word h x now ≡ held_after (with_word held m) ms now → last h x → next h x) →
      Joint v now last held m ms → Joint v (now + 1) next held m ms
  joint_stays held m ms f h = grind (arith, followed_later)

  -- where nothing is fetched, linked marks stay linked in the next cycle
  pub linked_stays : (held : ℕ → ℕ) (ms : List Mark) →
      ((h : ℕ → ℕ) (x : Mark) → with_word h x now ≡ held_after held ms now → last h x → next h x) →
      Linked v now last held ms → Linked v (now + 1) next held ms
  linked_stays held [] f h = tt
  linked_stays held (m ∷ ms) f h = (joint_stays held m ms f h.0, linked_stays (with_word held m) ms f h.1)

  joint_on : (held : ℕ → ℕ) (m : Mark) (ms : List Mark) (f : Mark) (fs : List Mark) →
      ((h : ℕ → ℕ) (x : Mark) → last h x → Followed v (now + 1) h x f) → Joint v now last held m ms →
      Joint v (now + 1) next held m (ms ++ f ∷ fs)
  joint_on held m ms f fs g h = grind (arith, followed_later)

  -- where something is
  pub linked_on : (held : ℕ → ℕ) (ms : List Mark) (f : Mark) (fs : List Mark) →
      ((h : ℕ → ℕ) (x : Mark) → last h x → Followed v (now + 1) h x f) → Linked v now last held ms →
      ((h : ℕ → ℕ) → Linked v (now + 1) next h (f ∷ fs)) → Linked v (now + 1) next held (ms ++ f ∷ fs)
  linked_on held [] f fs g h new = new held
  linked_on held (m ∷ ms) f fs g h new = (joint_on held m ms f fs g h.0, linked_on (with_word held m) ms f fs g h.1 new)

-- where the last of some marks is known, what came after may be cut
module _ (v : Values) (now : ℕ) (last : (ℕ → ℕ) → Mark → Type 0) (P : Mark → Type 0) where
  joint_cut : (held : ℕ → ℕ) (m : Mark) (ms rest : List Mark) → LastIs P (m ∷ ms) →
      Joint v now last held m (ms ++ rest) → Joint v now (λ h x. P x) held m ms
  joint_cut held m ms rest is h = grind arith

  -- the first of linked marks are linked
  pub linked_cut : (held : ℕ → ℕ) (ms rest : List Mark) → LastIs P ms → Linked v now last held (ms ++ rest) →
      Linked v now (λ h x. P x) held ms
  linked_cut held [] rest is h = tt
  linked_cut held (m ∷ ms) rest is h =
      (joint_cut held m ms rest is h.0, linked_cut (with_word held m) ms rest (last_of P m ms is) h.1)

-- words of the present cycle

module _ (v : Values) (now : ℕ) (halted : Bool) where
  joint_words : (held : ℕ → ℕ) (f : Mark) (fs : List Mark) → f.fetched ≡ now → Each (λ x. x.fetched ≡ now) fs →
      Joint v (now + 1) (IsOpen v halted (now + 1)) held f fs
  joint_words held f fs given all = grind arith

  -- words of the present cycle are linked
  pub linked_words : (held : ℕ → ℕ) (fs : List Mark) → Each (λ x. x.fetched ≡ now) fs →
      Linked v (now + 1) (IsOpen v halted (now + 1)) held fs
  linked_words held [] all = tt
  linked_words held (f ∷ fs) all = (joint_words held f fs all.0 all.1, linked_words (with_word held f) fs all.1)
