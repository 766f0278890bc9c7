-- What an access makes of RAM: each byte stays, or becomes the one that the cache has.
use Rattle.rv_hardware.proofs.Words.{◌≡◌, ℕ, ◌+◌, ◌-◌, ◌<◌, ◌≤◌, min, Bool, true, false, cond, ◌⊎◌, List, length, drop}
use Rattle.rv_hardware.proofs.Words.{slice_index_or as get_or, slice_range, Some, None, Option, refl, ap, ◌∙◌, inl, inr}
use Rattle.rv_hardware.proofs.Words.{append-nil, arith, length-drop, length-take, get_or-drop, take_all, get_or-take}
use Rattle.rv_hardware.proofs.Words.{cases_lt, drop_all, overwritten, get_or-overwritten_above}
use Rattle.rv_hardware.proofs.Words.{get_or-overwritten_below, get_or-overwritten_in, length-overwritten, Contents}
use Rattle.rv_hardware.proofs.Words.{evicted, memory_after, offset_of, victim_written, CacheLine}

-- each byte is the old one's or the cache's
pub record IsMixed (bytes memory now : List ℕ) : Type 0 where
  pub size : length now ≡ length bytes
  pub either : (i : ℕ) → (get_or now i 0 ≡ get_or memory i 0) ⊎ (get_or now i 0 ≡ get_or bytes i 0)

mixed_same : (bytes : List ℕ) {memory now : List ℕ} → length memory ≡ length bytes → now ≡ memory →
    IsMixed bytes memory now
mixed_same bytes size same = grind arith

-- a piece of the cache's bytes, however far it reaches
module _ (bytes memory : List ℕ) (size : length memory ≡ length bytes) (off n : ℕ) where
  abbrev block : List ℕ
  block = slice_range bytes off (off + n)

  length-block : length block ≡ min (off + n - off) (length bytes - off)
  length-block = length-take (off + n - off) (drop off bytes) ∙ ap (min (off + n - off)) (length-drop off bytes)

  piece_inside : off ≤ length bytes → IsMixed bytes memory (overwritten memory off block)
  piece_inside within =
      let fits : off + length block ≤ length memory = omega (arith, length-block) in
      record {
        size = length-overwritten memory block off fits ∙ size;
        either = λ i. elim (cases_lt i off) [
          | inl below ↦ inl (get_or-overwritten_below memory block off fits i below)
          | inr from ↦ elim (cases_lt i (off + length block)) [
            | inr above ↦ inl (get_or-overwritten_above memory block off fits i above)
            | inl here ↦ inr (
                get_or-overwritten_in memory block off fits i from here
                ∙ get_or-take (off + n - off) (drop off bytes) (i - off) 0 (omega (arith, length-block))
                ∙ get_or-drop off bytes (i - off) 0
                ∙ ap (λ k. get_or bytes k 0) (omega arith))
          ]
        ];
      }

  piece_outside : length bytes < off → overwritten memory off block ≡ memory
  piece_outside beyond = grind (arith, drop_all, take_all, append-nil)

  pub piece_mixed : IsMixed bytes memory (overwritten memory off block)
  piece_mixed = grind (arith, mixed_same, piece_outside, piece_inside)

line_mixed : (dirty : Bool) (bytes memory : List ℕ) (off n : ℕ) → length memory ≡ length bytes →
    IsMixed bytes memory (cond dirty (overwritten memory off (slice_range bytes off (off + n))) memory)
line_mixed true bytes memory off n size = piece_mixed bytes memory size off n
line_mixed false bytes memory off n size = mixed_same bytes size refl

victim_mixed : (base line : ℕ) (bytes memory : List ℕ) (victim : Option CacheLine) → length memory ≡ length bytes →
    IsMixed bytes memory (victim_written base line bytes victim memory)
victim_mixed base line bytes memory None size = mixed_same bytes size refl
victim_mixed base line bytes memory (Some v) size =
    line_mixed v.dirty bytes memory (offset_of base line v.number) line size

-- after an access each byte of RAM is as it was or as the cache has it
pub access_mixed : {M : Type 0} (cache : Contents M) (address : ℕ) (memory : List ℕ) →
    length memory ≡ length cache.bytes → IsMixed cache.bytes memory (memory_after cache address memory)
access_mixed cache address memory size =
    victim_mixed cache.base cache.values.line cache.bytes memory (evicted cache address) size
