-- What is kept of some exceptions, with one more.
use Rattle.std.proofs.Common.{◌≡◌, ◌∙◌, ℕ, zero, suc, ◌+◌, ◌≤◌, ◌<◌, ◌^◌, ◌&&◌, ◌||◌, Bool, true, false, nat_le, cond}
use Rattle.std.proofs.Common.{le-leb, List, [], ◌∷◌, ◌++◌, length, map, take, slice_index_or, refl, ap, sym, arith}
use Rattle.std.proofs.Common.{append-nil, length-append}
use Rattle.std.proofs.lemmas.Bool.{lt-leb}
use Rattle.std.proofs.lemmas.List.{length-map, take_all}
use Rattle.std.proofs.lemmas.List.Elements.{All-take, filter-append}
use Rattle.std.proofs.lemmas.List.Sums.{count_by-le-length, length-filter}
use Rattle.std.specs.List.{filter, list_any}
use Rattle.rv_sentences.specs.Kinds.{IsCountable, belongs, is_alike, kept_of, kept_with, kind_with, kinds_after}
use Rattle.rv_sentences.specs.Kinds.{kinds_with}
use Rattle.rv_sentences.specs.Series.{continued, series_from}
use Rattle.rv_sentences.specs.declared.exception.Exception.{Exception}
use Rattle.rv_sentences.specs.declared.series.Series.{Series}
use Rattle.rv_sentences.proofs.SeriesGrows.{series_counted, series_from-push, series_of-push}

both_true : (a b : Bool) → (a && b) ≡ true → (a ≡ true) × (b ≡ true)
both_true true b is = (refl, is)
both_true false b is = cc

-- an exception is like one of some
abbrev is_like : Exception → List Exception → Bool
is_like e es = list_any (λ earlier. is_alike earlier e) es

-- what is like an exception is like those that are like it
is_like-alike : (f e : Exception) (es : List Exception) → is_alike f e ≡ true → is_like f es ≡ is_like e es
is_like-alike f e es alike = grind (arith, both_true)

swap_or : (a b c : Bool) → ((a || b) || c) ≡ (b || (a || c))
swap_or true true c = refl
swap_or true false c = refl
swap_or false true c = refl
swap_or false false c = refl

or_true : (a : Bool) → (a || true) ≡ true
or_true true = refl
or_true false = refl

module _ (e : Exception) where
  -- the series that an exception begins, if it is like none before it
  begun : Bool → List (Series Exception)
  begun known = cond known [] (series_from e [] ∷ [])

  alike-push : (f : Exception) (es : List Exception) (alike : Bool) → is_alike f e ≡ alike
      → series_from f (filter (is_alike f) es ++ cond alike (e ∷ []) [])
      ≡ cond alike (continued e (series_from f (filter (is_alike f) es))) (series_from f (filter (is_alike f) es))
  alike-push f es true is = series_from-push f e (filter (is_alike f) es)
  alike-push f es false is = ap (series_from f) (append-nil _)

  series-push : (f : Exception) (es : List Exception) →
      series_from f (filter (is_alike f) (es ++ e ∷ [])) ≡ kind_with e (series_from f (filter (is_alike f) es))
  series-push f es = ap (series_from f) (filter-append (is_alike f) es (e ∷ [])) ∙ alike-push f es (is_alike f e) refl

  first-push : (f : Exception) (before : List Exception) (known : Bool) → is_like f before ≡ known →
      (s s' : Series Exception) → s ≡ kind_with e s' → (ks ks' tail : List (Series Exception)) →
      ks ≡ map (kind_with e) ks' ++ tail
      → cond known ks (s ∷ ks) ≡ map (kind_with e) (cond known ks' (s' ∷ ks')) ++ tail
  first-push f before true is s s' series ks ks' tail rest = rest
  first-push f before false is s s' series ks ks' tail rest = λ i. series i ∷ rest i

  kinds-push : (before es : List Exception) →
      kinds_after before (es ++ e ∷ [])
      ≡ map (kind_with e) (kinds_after before es) ++ begun (is_like e es || is_like e before)
  unfolding begun
  kinds-push before [] = refl
  kinds-push before (f ∷ es) =
      let rest = kinds-push (f ∷ before) es ∙ ap (λ (known : Bool). map (kind_with e) (kinds_after (f ∷ before) es)
      ++ begun known) (sym (swap_or (is_alike f e) (is_like e es) (is_like e before))) in
      first-push f before (is_like f before) refl _ _ (series-push f es) _ _ _ rest

  -- an exception is of one of the kinds if it is like one of them
  any_kind : (before es : List Exception) → (list_any (belongs e) (kinds_after before es) || is_like e before)
      ≡ (is_like e es || is_like e before)
  any_kind before [] = refl
  any_kind before (f ∷ es) = by_known (is_like f before) refl (is_alike f e) refl (any_kind (f ∷ before) es) where
    by_known : (known : Bool) → is_like f before ≡ known → (alike : Bool) → is_alike f e ≡ alike
        → (list_any (belongs e) (kinds_after (f ∷ before) es) || (alike || is_like e before))
        ≡ (is_like e es || (alike || is_like e before))
        → (list_any (belongs e)
        (cond known (kinds_after (f ∷ before) es)
        (series_from f (filter (is_alike f) es) ∷ kinds_after (f ∷ before) es)) || is_like e before)
        ≡ ((alike || is_like e es) || is_like e before)
    by_known true is_known true is rest =
        ap (λ (p : Bool). list_any (belongs e) (kinds_after (f ∷ before) es) || p)
        (sym (is_like-alike f e before is) ∙ is_known)
        ∙ or_true (list_any (belongs e) (kinds_after (f ∷ before) es))
    by_known true is_known false is rest = rest
    by_known false is_known true is rest =
        ap (λ (a : Bool). (a || list_any (belongs e) (kinds_after (f ∷ before) es)) || is_like e before) is
    by_known false is_known false is rest =
        ap (λ (a : Bool). (a || list_any (belongs e) (kinds_after (f ∷ before) es)) || is_like e before) is ∙ rest

  -- the first eight kinds, where there are as many
  full : (ks : List (Series Exception)) (known : Bool) → 8 ≤ length ks →
      kinds_with e (take 8 ks) ≡ take 8 (map (kind_with e) ks ++ begun known)
  full ks known many = grind (arith, le-leb, or_true)

  -- and where there are fewer
  few : (ks : List (Series Exception)) (known : Bool) → list_any (belongs e) ks ≡ known → length ks < 8 →
      kinds_with e ks ≡ take 8 (map (kind_with e) ks ++ begun known)
  unfolding begun
  few ks true is little = grind (arith, length-map, append-nil)
  few ks false is little =
      let more = map (kind_with e) ks in
      let len : length more ≡ length ks = simp length-map in
      let test : nat_le 8 (length ks) ≡ false = lt-leb 8 (length ks) (omega (arith, little)) in
      ap (λ (b : Bool). cond (b || nat_le 8 (length ks)) more (more ++ series_from e [] ∷ [])) is ∙
      ap (λ (b : Bool). cond b more (more ++ series_from e [] ∷ [])) test ∙
      sym (take_all 8 (more ++ series_from e [] ∷ [])
      (omega (arith, length-append more (series_from e [] ∷ []), len, little)))

  bounded : (ks : List (Series Exception)) (known : Bool) → list_any (belongs e) ks ≡ known →
      kinds_with e (take 8 ks) ≡ take 8 (map (kind_with e) ks ++ begun known)
  bounded ks known is = grind (arith, few, full)

  -- what is kept, with one exception more
  pub kept-push : (es : List Exception) → kept_with e (kept_of es) ≡ kept_of (es ++ e ∷ [])
  kept-push es = grind (arith, any_kind, bounded, kinds-push, series_of-push)

-- no kind counts more than all exceptions
kind_within : (bound : ℕ) (before es : List Exception) (k : ℕ) (d : Series Exception) → length es ≤ bound →
    k < length (kinds_after before es) → (slice_index_or (kinds_after before es) k d).count ≤ bound
kind_within bound before [] k d little below = absurd (omega arith)
kind_within bound before (f ∷ es) k d little below = by_known (is_like f before) k
    (λ j within. kind_within bound (f ∷ before) es j d (omega (arith, little)) within) below where
      by_known : (known : Bool) (k : ℕ) →
          ((j : ℕ) → j < length (kinds_after (f ∷ before) es) →
          (slice_index_or (kinds_after (f ∷ before) es) j d).count ≤ bound)
          → k < length (cond known (kinds_after (f ∷ before) es) (series_from f (filter (is_alike f) es)
          ∷ kinds_after (f ∷ before) es))
          → (slice_index_or
          (cond known (kinds_after (f ∷ before) es)
          (series_from f (filter (is_alike f) es) ∷ kinds_after (f ∷ before) es)) k d).count ≤ bound
      by_known true k rest below = rest k below
      by_known false zero rest below =
          omega (arith, length-filter (is_alike f) es, count_by-le-length (is_alike f) es, little)
      by_known false (suc k) rest below = rest k (omega (arith, below))

-- what is kept of some exceptions can be counted on
pub kept_counted : (es : List Exception) → length es + 1 < 2 ^ 64 → IsCountable (kept_of es)
kept_counted es little = record {
  all = series_counted es little;
  kinds =
      All-take (λ (kind : Series Exception). kind.count + 1 < 2 ^ 64) 8 (kinds_after [] es)
      (λ k d below. omega (arith, kind_within (length es) [] es k d (omega arith) below, little));
}
