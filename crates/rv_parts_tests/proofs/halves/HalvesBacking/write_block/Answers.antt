use Rattle.std.proofs.Common.{◌≡◌, ℕ, ◌+◌, ◌<◌, ◌≤◌, List, [], ◌∷◌, ◌++◌, length, get_or, set}
use Rattle.std.proofs.Common.{take, drop, ap, sym, ◌∙◌, arith, length-append, length-take-le}
use Rattle.std.proofs.lemmas.List.{append_assoc, drop_more, set_at, take_more}
use Rattle.rv_memory.specs.Bytes.{overwritten}
use Rattle.rv_parts_tests.proofs.halves.HalvesBacking.write_block.Goals as goal

-- one more byte of a block
set-overwritten : (xs ys : List ℕ) (at i : ℕ) → at + length ys ≤ length xs → i < length ys →
    set (overwritten xs at (take i ys)) (at + i) (get_or ys i 0) ≡ overwritten xs at (take (i + 1) ys)
set-overwritten xs ys at i fits within =
    let y = get_or ys i 0 in
    let front = take at xs in
    let part = take i ys in
    let rest = drop (at + i + 1) xs in
    let length_front = length-take-le at xs (omega arith) in
    let length_part = length-take-le i ys (omega arith) in
    let length_more = length-take-le (i + 1) ys (omega arith) in
    let before : overwritten xs at part ≡ front ++ part ++ get_or xs (at + i) 0 ∷ rest =
    ap (λ n. front ++ (part ++ drop (at + n) xs)) length_part
    ∙ ap (λ (r : List ℕ). front ++ (part ++ r)) (drop_more xs (at + i) 0 (omega arith))
    ∙ sym (append_assoc front part (get_or xs (at + i) 0 ∷ rest))
    in
    let after : overwritten xs at (take (i + 1) ys) ≡ front ++ part ++ y ∷ rest =
    ap (λ n. front ++ (take (i + 1) ys ++ drop (at + n) xs)) length_more
    ∙ ap (λ (t : List ℕ). front ++ (t ++ drop (at + (i + 1)) xs)) (take_more ys i 0 within)
    ∙ ap (λ (r : List ℕ). front ++ r) (append_assoc part (y ∷ []) (drop (at + (i + 1)) xs))
    ∙ ap (λ n. front ++ (part ++ y ∷ drop n xs)) (omega arith)
    ∙ sym (append_assoc front part (y ∷ rest))
    in
    ap (λ (ls : List ℕ). set ls (at + i) y) before
    ∙ set_at (front ++ part) (get_or xs (at + i) 0) rest y (at + i)
    (omega (arith, length-append front part, length_front, length_part))
    ∙ sym after

pub loop-i-preserved : goal.loop-i-preserved
loop-i-preserved c =
    c.put.ensures
    ∙ ap (λ (ls : List ℕ). set ls (c.args.offset + c.loop-i.i)
    (get_or c.args.block.now c.loop-i.i 0)) c.loop-i.invariant
    ∙ set-overwritten (c.args.self.now.low.items ++ c.args.self.now.high.items) c.args.block.now c.args.offset
    c.loop-i.i c.requires (omega arith)
