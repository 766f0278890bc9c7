-- What a search passed by, the next one of the phase may pass by: the port is no sooner idle after a start.
use Rattle.rv_core.proofs.Words.{◌≡◌, ℕ, Bool, true, List, [], ◌∷◌, None, refl, arith, Kind, Mem, Store, Layout}
use Rattle.rv_core.proofs.Words.{oldest_ready, Station, goes}
use Rattle.rv_stations.specs.Waiting.{ArePassedBy}

-- a test that passes no more than another finds nothing where the other does not
none_by : (test less : Station → Bool) → ((w : Station) → less w ≡ true → test w ≡ true) → (ws : List Station) →
    oldest_ready test ws ≡ None → oldest_ready less ws ≡ None
none_by test less fewer [] none = refl
none_by test less fewer (w ∷ ws) none = grind (arith, fewer, none_by test less fewer ws)

-- with the port idle no less goes
goes_later : (kind : Kind) (layout : Layout) (stores : List Store) (idle still : Bool) → (still ≡ true → idle ≡ true) →
    (w : Station) → goes kind layout stores still w ≡ true → goes kind layout stores idle w ≡ true
goes_later Mem layout stores idle still later w is = grind (arith, later)
goes_later _ layout stores idle still later w is = refl

-- what may not go in a cycle may not go later in it, when the port is idle only if it was
pub passed_later : (kind : Kind) (layout : Layout) (stores : List Store) (idle still : Bool) →
    (still ≡ true → idle ≡ true) →
    (n : ℕ) (ws : List Station) → ArePassedBy (goes kind layout stores idle) n ws →
    ArePassedBy (goes kind layout stores still) n ws
passed_later kind layout stores idle still later n ws passed = grind (arith, none_by, goes, goes_later)
