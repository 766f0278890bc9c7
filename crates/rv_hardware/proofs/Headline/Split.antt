-- Instructions in flight follow the program where the older of them do, and the younger from where those lead.
use Rattle.rv_hardware.proofs.Words.{◌≡◌, List, [], ◌∷◌, ◌++◌, refl, Layout, State, Entry}
use Rattle.rv_hardware.proofs.Headline.Fold.{executed, after_entries, AreInFlight}

module _ (layout : Layout) where
  -- the state after instructions in two parts is the one after the second, begun after the first
  pub after_entries-append : (xs ys : List Entry) (s : State) →
      after_entries layout (xs ++ ys) s ≡ after_entries layout ys (after_entries layout xs s)
  after_entries-append [] ys s = refl
  after_entries-append (x ∷ xs) ys s = after_entries-append xs ys (executed layout x s)

  -- the older of instructions in flight follow the program
  pub AreInFlight-older : (seen s : State) (xs ys : List Entry) → AreInFlight layout seen s (xs ++ ys) →
      AreInFlight layout seen s xs
  AreInFlight-older seen s [] ys all = tt
  AreInFlight-older seen s (x ∷ xs) ys all = (all.0, AreInFlight-older seen (executed layout x s) xs ys all.1)

  -- the younger of instructions in flight follow the program from where the older ones lead
  pub AreInFlight-younger : (seen s : State) (xs ys : List Entry) → AreInFlight layout seen s (xs ++ ys) →
      AreInFlight layout seen (after_entries layout xs s) ys
  AreInFlight-younger seen s [] ys all = all
  AreInFlight-younger seen s (x ∷ xs) ys all = AreInFlight-younger seen (executed layout x s) xs ys all.1

  -- two parts that follow the program, one after the other, do so together
  pub AreInFlight-append : (seen s : State) (xs ys : List Entry) → AreInFlight layout seen s xs →
      AreInFlight layout seen (after_entries layout xs s) ys → AreInFlight layout seen s (xs ++ ys)
  AreInFlight-append seen s [] ys older younger = younger
  AreInFlight-append seen s (x ∷ xs) ys older younger =
      (older.0, AreInFlight-append seen (executed layout x s) xs ys older.1 younger)
