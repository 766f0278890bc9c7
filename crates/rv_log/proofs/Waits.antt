-- Waits that are written one after another.
use Rattle.std.proofs.Common.{◌≡◌, ◌∙◌, ◌∷◌, ◌++◌, ℕ, Bool, true, false, List, [], refl}
use Rattle.std.proofs.Common.{sym, ap, append-nil, codes, if◌then◌else◌, eq-eqb, ne_eqb}
use Rattle.std.specs.Prelude.{◌==◌}
use Rattle.rv_log.specs.Waited.{cycles_of, one_text, wait_text, waits_text, words_after}
use Rattle.rv_log.specs.declared.wait.Wait.{Wait}

-- one of no cycles
pub none-said : (before : List ℕ) (w : Wait) → cycles_of w ≡ 0 → [] ≡ one_text before w
unfolding one_text
none-said before w none = sym (ap (λ (b : Bool). if b then [] else wait_text before w) (eq-eqb (cycles_of w) 0 none))

-- after a wait of no cycle the same words go before the next
pub none-after : (before : List ℕ) (w : Wait) → cycles_of w ≡ 0 → before ≡ words_after before w
unfolding words_after
none-after before w none = sym (ap (λ (b : Bool). if b then before else codes ", ") (eq-eqb (cycles_of w) 0 none))

-- one of some cycles
pub some-said : (before : List ℕ) (w : Wait) → (cycles_of w ≡ 0 → ⊥) → wait_text before w ≡ one_text before w
unfolding one_text
some-said before w some = sym (ap (λ (b : Bool). if b then [] else wait_text before w) (ne_eqb (cycles_of w) 0 some))

-- after a longer one a comma does
pub some-after : (before : List ℕ) (w : Wait) → (cycles_of w ≡ 0 → ⊥) → codes ", " ≡ words_after before w
unfolding words_after
some-after before w some = sym (ap (λ (b : Bool). if b then before else codes ", ") (ne_eqb (cycles_of w) 0 some))

waits-by : (none : Bool) (before : List ℕ) (w : Wait) (ws : List Wait)
    → (if none then [] else wait_text before w) ++ waits_text (if none then before else codes ", ") ws
    ≡ (if none then waits_text before ws else wait_text before w ++ waits_text (codes ", ") ws)
waits-by true before w ws = refl
waits-by false before w ws = refl

waits-next : (before : List ℕ) (w : Wait) (ws : List Wait) → one_text before w ++ waits_text (words_after before w) ws
    ≡ waits_text before (w ∷ ws)
unfolding one_text words_after waits_text
waits-next before w ws = waits-by (cycles_of w == 0) before w ws

-- the first of some, and then the others after its words
pub waits-after : {words : List ℕ} (before : List ℕ) (w : Wait) (ws : List Wait) {rest : List ℕ} →
    words ≡ words_after before w → rest ≡ waits_text words ws → one_text before w ++ rest ≡ waits_text before (w ∷ ws)
waits-after before w ws after same =
    ap (λ end. one_text before w ++ end) (same ∙ ap (λ words. waits_text words ws) after) ∙ waits-next before w ws

-- the last one
pub waits-last : (before : List ℕ) (w : Wait) → one_text before w ≡ waits_text before (w ∷ [])
unfolding waits_text
waits-last before w = sym (append-nil (one_text before w)) ∙ waits-next before w []
