-- Stores laid over one another, the oldest first, give the bytes of the youngest.
use Rattle.std.proofs.Common.{◌≡◌, ℕ, ◌+◌, Bool, cond, List, [], ◌∷◌, ◌++◌}
use Rattle.std.proofs.Common.{filter, arith, nat_lt, Option, None, refl, sym, ap, ◌∙◌}
use Rattle.std.specs.List.{fold}
use Rattle.std.specs.Option.{option_or}
use Rattle.std.proofs.lemmas.List.Elements.{filter-append}
use Rattle.std.proofs.lemmas.List.Sums.{fold-append}
use Rattle.rv_stores.specs.declared.store.Store.{Store}
use Rattle.rv_stores.specs.Store.{byte_at, laid_over}
use Rattle.rv_stores.specs.Queue.{forwarded, youngest_byte}

option_or_assoc : (a b c : Option ℕ) → option_or (option_or a b) c ≡ option_or a (option_or b c)
option_or_assoc a b c = grind arith

option_or-none : (a : Option ℕ) → option_or a None ≡ a
option_or-none a = grind arith

fold-laid_from : (place : ℕ) (ss : List Store) (found : Option ℕ) →
    fold (λ found s. option_or (byte_at place s) found) found ss ≡ option_or (youngest_byte place ss) found
fold-laid_from place [] found = refl
fold-laid_from place (s ∷ ss) found =
    fold-laid_from place ss (option_or (byte_at place s) found) ∙
    sym (option_or_assoc (youngest_byte place ss) (byte_at place s) found)

-- at one place, the stores laid over one another leave the byte of the youngest that has one
pub fold-youngest_byte : (place : ℕ) (ss : List Store) → fold (λ found s. option_or (byte_at place s) found) None ss
    ≡ youngest_byte place ss
fold-youngest_byte place ss = fold-laid_from place ss None ∙ option_or-none (youngest_byte place ss)

-- the stores of two lists
pub fold-filter_append : {S T : Type 0} (f : T → S → T) (test : S → Bool) (a : T) (xs ys : List S) →
    fold f a (filter test (xs ++ ys)) ≡ fold f (fold f a (filter test xs)) (filter test ys)
fold-filter_append f test a xs ys =
    ap (fold f a) (filter-append test xs ys) ∙ fold-append f a (filter test xs) (filter test ys)

module _ (address count : ℕ) where
  -- what stores lay over a byte found at one place of the access
  abbrev over_byte : List Store → Option ℕ → ℕ → Option ℕ
  over_byte ss found offset =
      cond (nat_lt offset count) (option_or (youngest_byte (address + offset) ss) found) found

  over_byte-nil : (found : Option ℕ) (offset : ℕ) → found ≡ over_byte [] found offset
  over_byte-nil found offset = grind arith

  over_byte-laid : (s : Store) (ss : List Store) (found : Option ℕ) (offset : ℕ) →
      over_byte ss (over_byte (s ∷ []) found offset) offset ≡ over_byte (s ∷ ss) found offset
  over_byte-laid s ss found offset = grind (arith, option_or_assoc)

  four : {a b c d a' b' c' d' : Option ℕ} → a ≡ a' → b ≡ b' → c ≡ c' → d ≡ d' →
      a ∷ b ∷ c ∷ d ∷ [] ≡ a' ∷ b' ∷ c' ∷ d' ∷ []
  four e f g h = λ i. e i ∷ f i ∷ g i ∷ h i ∷ []

  fold-over : (ss : List Store) (a b c d : Option ℕ) →
      fold (λ found s. laid_over address count s found) (a ∷ b ∷ c ∷ d ∷ []) ss
      ≡ over_byte ss a 0 ∷ over_byte ss b 1 ∷ over_byte ss c 2 ∷ over_byte ss d 3 ∷ []
  fold-over [] a b c d = four (over_byte-nil a 0) (over_byte-nil b 1) (over_byte-nil c 2) (over_byte-nil d 3)
  fold-over (s ∷ ss) a b c d =
      fold-over ss (over_byte (s ∷ []) a 0) (over_byte (s ∷ []) b 1) (over_byte (s ∷ []) c 2) (over_byte (s ∷ []) d 3) ∙
      four (over_byte-laid s ss a 0) (over_byte-laid s ss b 1) (over_byte-laid s ss c 2) (over_byte-laid s ss d 3)

  -- the stores laid over one another, from no bytes on, leave the bytes that they forward
  pub fold-laid_over : (ss : List Store) →
      fold (λ found s. laid_over address count s found) (None ∷ None ∷ None ∷ None ∷ []) ss ≡ forwarded ss address count
  fold-laid_over ss =
      let none : (offset : ℕ) →
      over_byte ss None offset ≡ cond (nat_lt offset count) (youngest_byte (address + offset) ss) None =
      λ offset. grind (arith, option_or-none) in
      fold-over ss None None None None ∙ four (none 0) (none 1) (none 2) (none 3)
