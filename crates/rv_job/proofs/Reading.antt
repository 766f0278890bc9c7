-- What was read of known bytes.
use Rattle.std.proofs.Common.{◌≡◌, ℕ, ◌≤◌, List, [], ◌++◌, length, take, Option, Some, None, sym, refl, ap, ◌∙◌}
use Rattle.std.proofs.Common.{append_assoc, append-nil, arith}
use Rattle.std.specs.Prelude.{IfSome}
use Rattle.std.specs.Io.KnownBytes.{Consumes, IsAtEnd}
use Rattle.std.proofs.Math.Seq.{take-append_seam}
use Rattle.std.proofs.lemmas.List.{take_all}

-- bytes that are read one after the other are read together
pub Consumes-both : (a b c : Option (List ℕ)) (xs ys : List ℕ) → Consumes a b xs → Consumes b c ys →
    Consumes a c (xs ++ ys)
Consumes-both None b c xs ys first second = tt
Consumes-both (Some a) None c xs ys first second = absurd first
Consumes-both (Some a) (Some b) None xs ys first second = absurd second
Consumes-both (Some a) (Some b) (Some c) xs ys first second = first ∙ ap (λ rest. xs ++ rest) second
    ∙ sym (append_assoc xs ys c)

-- where bytes were read, equal bytes were
pub Consumes-same : (a b : Option (List ℕ)) (xs ys : List ℕ) → xs ≡ ys → Consumes a b xs → Consumes a b ys
Consumes-same a b xs ys same consumed = rw same at consumed

-- all was read
pub taken_to_end : (most : ℕ) (old new : Option (List ℕ)) (read : List ℕ) → Consumes old new read → IsAtEnd new →
    length read ≤ most → IfSome old (λ bytes. read ≡ take most bytes)
taken_to_end most None new read consumed at_end few = tt
taken_to_end most (Some bytes) None read consumed at_end few = absurd consumed
taken_to_end most (Some bytes) (Some rest) read consumed at_end few = grind (arith, append-nil, take_all)

-- as much was read as may be
pub taken_most : (most : ℕ) (old new : Option (List ℕ)) (read : List ℕ) → Consumes old new read → length read ≡ most →
    IfSome old (λ bytes. read ≡ take most bytes)
taken_most most None new read consumed many = tt
taken_most most (Some bytes) None read consumed many = absurd consumed
taken_most most (Some bytes) (Some rest) read consumed many =
    sym (ap (take most) consumed ∙ ap (λ n. take n (read ++ rest)) (sym many) ∙ take-append_seam read rest)
