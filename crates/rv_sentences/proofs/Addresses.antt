-- The instructions from a place on stay as those after the older ones do.
use Rattle.std.proofs.Common.{◌≡◌, ◌∙◌, ℕ, ◌+◌, ◌<◌, ◌&&◌, Bool, true, false, not, List, [], ◌∷◌, ◌++◌, length, take}
use Rattle.std.proofs.Common.{drop, get_or, Option, refl, ap, sym, arith}
use Rattle.std.specs.Option.{option_or}
use Rattle.std.proofs.lemmas.List.{drop_more, take_more}
use Rattle.rv_passage.specs.declared.passage.Passage.{Passage}
use Rattle.rv_sentences.specs.Stay.{awaited_word, have_addresses, lacks_address, oldest_awaited}
use Rattle.rv_sentences.specs.Stay.{stay_in, stays_among, with_stay, with_stays}
use Rattle.rv_sentences.specs.declared.stays.Stays.{Stays}

and_swap : (a b : Bool) → a && b ≡ b && a
and_swap true true = refl
and_swap true false = refl
and_swap false true = refl
and_swap false false = refl

addresses-push : (cycle : ℕ) (before : Bool) (ps : List Passage) (p : Passage) →
    have_addresses cycle before (ps ++ p ∷ []) ≡ have_addresses cycle before ps && not (lacks_address cycle p)
addresses-push cycle before [] p = and_swap (not (lacks_address cycle p)) before
addresses-push cycle before (q ∷ ps) p = grind (arith, addresses-push cycle before ps p)

module _ (cycle : ℕ) (unit before : Bool) (rows : List Passage) (place : ℕ) where
  abbrev has : Bool
  has = have_addresses cycle before (take place rows)

  module _ (p : Passage) (within : place < length rows) (read : p ≡ get_or rows place p) where
    addresses : have_addresses cycle before (take (place + 1) rows) ≡ has && not (lacks_address cycle p)
    addresses =
        ap (have_addresses cycle before) (take_more rows place p within
        ∙ ap (λ q. take place rows ++ q ∷ []) (sym read))
        ∙ addresses-push cycle before (take place rows) p

    from_here : drop place rows ≡ p ∷ drop (place + 1) rows
    from_here = drop_more rows place p within ∙ ap (λ q. q ∷ drop (place + 1) rows) (sym read)

    -- so do those from the next place on
    pub stays_on : (old mid new : Stays) → mid ≡ with_stay (stay_in cycle unit has p) old →
        new ≡ with_stays (stays_among cycle unit (have_addresses cycle before (take (place + 1) rows))
        (drop (place + 1) rows)) mid →
        new ≡ with_stays (stays_among cycle unit has (drop place rows)) old
    stays_on old mid new first rest = grind (arith, addresses, from_here)

    -- and the oldest wait is the same
    pub oldest_on : (old mid new : Option ℕ) → mid ≡ option_or old (awaited_word (stay_in cycle unit has p)) →
        new ≡ option_or mid (oldest_awaited
        (stays_among cycle unit (have_addresses cycle before (take (place + 1) rows)) (drop (place + 1) rows))) →
        new ≡ option_or old (oldest_awaited (stays_among cycle unit has (drop place rows)))
    oldest_on old mid new first rest = grind (arith, addresses, from_here)
