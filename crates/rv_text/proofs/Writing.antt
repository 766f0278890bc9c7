-- What a writer holds after several writes.
use Rattle.std.proofs.Common.{◌≡◌, ℕ, zero, suc, ◌+◌, ◌<◌, List, [], ◌∷◌, ◌++◌, length, get_or, take, Option}
use Rattle.std.proofs.Common.{Some, None, sym, ap, ◌∙◌, append_assoc, append-nil, length-append, arith}
use Rattle.std.specs.Prelude.{◌*◌, ◌%◌, ◌^◌}
use Rattle.std.specs.List.{flat_map, range_with_len}
use Rattle.std.proofs.Math.Seq.{take-append-add}
use Rattle.std.proofs.lemmas.List.{take-append-le, take_more}
use Rattle.std.proofs.lemmas.Grind.{flat_map-append}
use Rattle.std.specs.Io.KnownBytes.{Appends, Keeps}
use Rattle.rv_text.specs.Written.{AppendsBeginning}

-- where known bytes stay as they are, nothing was written
pub Appends-nothing : (known : Option (List ℕ)) → Appends known known []
Appends-nothing None = tt
Appends-nothing (Some bytes) = sym (append-nil bytes)

-- known bytes that grow by a text and then by another grow by both
pub Appends-both : (a b c : Option (List ℕ)) (xs ys : List ℕ) → Appends a b xs → Appends b c ys → Appends a c (xs ++ ys)
Appends-both None b c xs ys first second = tt
Appends-both (Some a) None c xs ys first second = absurd first
Appends-both (Some a) (Some b) None xs ys first second = absurd second
Appends-both (Some a) (Some b) (Some c) xs ys first second = second ∙ ap (λ l. l ++ ys) first ∙ append_assoc a xs ys

-- known bytes that grow by a text and then stay as they are have grown by it
pub Appends-kept : (a b c : Option (List ℕ)) (xs : List ℕ) → Appends a b xs → Keeps b c → Appends a c xs
Appends-kept None b c xs first kept = tt
Appends-kept (Some a) None c xs first kept = absurd first
Appends-kept (Some a) (Some b) None xs first kept = absurd kept
Appends-kept (Some a) (Some b) (Some c) xs first kept = kept ∙ first

-- known bytes that grow by a text grow by an equal one
pub Appends-same : (a b : Option (List ℕ)) (xs ys : List ℕ) → xs ≡ ys → Appends a b xs → Appends a b ys
Appends-same a b xs ys same appended = rw same at appended

-- a text and a beginning of the next are a beginning of both
pub beginning-both : (a b c : Option (List ℕ)) (xs ys : List ℕ) → Appends a b xs → AppendsBeginning b c ys →
    AppendsBeginning a c (xs ++ ys)
beginning-both a b c xs ys first (n, within, appended) = (
  length xs + n,
  omega (arith, length-append xs ys),
  Appends-same a c (xs ++ take n ys) (take (length xs + n) (xs ++ ys)) (sym (take-append-add xs ys n))
      (Appends-both a b c xs (take n ys) first appended),
)

-- a beginning of a text is a beginning of an equal one
pub beginning-same : (a b : Option (List ℕ)) (xs ys : List ℕ) → xs ≡ ys → AppendsBeginning a b xs →
    AppendsBeginning a b ys
beginning-same a b xs ys same beginning = rw same at beginning

-- texts one after the other, up to the place of one of them
module _ {X : Type 0} (text : X → List ℕ) (items : List X) (place : ℕ) (other : X) (here : place < length items) where
  -- the texts of one item more are those up to its place, and its own
  pub flat_map-more : flat_map text (take (place + 1) items) ≡ flat_map text (take place items)
      ++ text (get_or items place other)
  flat_map-more =
      ap (flat_map text) (take_more items place other here)
      ∙ flat_map-append text (take place items) (get_or items place other ∷ [])
      ∙ ap (λ last. flat_map text (take place items) ++ last) (append-nil (text (get_or items place other)))

range-more : (first count : ℕ) → range_with_len first (suc count) ≡ range_with_len first count ++ (first + count) ∷ []
range-more first zero = ap (λ n. n ∷ []) (omega arith)
range-more first (suc count) =
    let same : first + 1 + count ≡ first + suc count = omega arith in
    ap (λ l. first ∷ l) (range-more (first + 1) count)
    ∙ ap (λ n. first ∷ range_with_len (first + 1) count ++ n ∷ []) same

-- the texts of the numbers below a bound
unfoldable pub texts_below : (ℕ → List ℕ) → ℕ → List ℕ
texts_below text bound = flat_map text (range_with_len 0 bound)

-- below the next bound there is one text more, that of the bound
pub texts_below-more : (text : ℕ → List ℕ) (bound : ℕ) → texts_below text (suc bound)
    ≡ texts_below text bound ++ text bound
unfolding texts_below
texts_below-more text bound =
    ap (flat_map text) (range-more 0 bound) ∙ flat_map-append text (range_with_len 0 bound) ((0 + bound) ∷ [])
    ∙ ap (λ last. texts_below text bound ++ last) (append-nil (text (0 + bound)) ∙ ap text (omega arith))

-- the address of a word by its number, as it is computed
pub place_of_word : (address number : ℕ) → (address + number * 4 % 2 ^ 32) % 2 ^ 32 ≡ (address + 4 * number) % 2 ^ 32
place_of_word address number = omega arith
