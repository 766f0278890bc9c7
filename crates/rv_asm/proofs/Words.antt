-- The words of the lines that are kept are those of all lines.
use Rattle.std.proofs.Common.{◌≡◌, ◌∙◌, ◌+◌, ◌-◌, ◌*◌, ◌<◌, ◌≤◌, ◌==◌, ℕ, List, [], ◌∷◌, ◌++◌, map, replicate, Bool}
use Rattle.std.proofs.Common.{true, false, cond, ◌&&◌, Option, Some, refl, ap, sym, arith}
use Rattle.std.specs.Prelude.{nat_le, nat_lt}
use Rattle.std.specs.List.{range_with_len, slice_split}
use Rattle.rv_source.specs.Listing as source
use Rattle.rv_source.specs.Listing.{Listed}
use Rattle.rv_asm.proofs.Moves.{idle_stays, line_grows, lines_grow, place_reach}
use Rattle.rv_asm.proofs.Ranges.{split_range}
use Rattle.rv_asm.specs.Kept.{Kept, is_idle, kept}
use Rattle.rv_asm.specs.Layout.{Layout, extended, laid, layout, line_in, lines_of, offset_in, unlaid}
use Rattle.rv_asm.specs.Listing.{line_holding, lines_after_text, listing_of, reach_before, shown, word_count}
use Rattle.rv_asm.specs.Listing.{words_between, words_in}
use Rattle.rv_asm.specs.Placed.{place}
use Rattle.rv_asm.specs.declared.{operation.Section.Section, reach.Reach.Reach}
use Rattle.rv_asm.specs.declared.operation.Section.TheVariants.{Text, Data}

held : (a b i : ℕ) → word_count a ≤ i → i < word_count b → (nat_le a (4 * i) && nat_lt (4 * i) b) ≡ true
held a b i above below = grind arith

held_not : (a b i : ℕ) → word_count b ≤ i → (nat_le a (4 * i) && nat_lt (4 * i) b) ≡ false
held_not a b i above = grind arith

grows : (a b : ℕ) → a ≤ b → word_count a ≤ word_count b
grows a b le = omega (arith, le)

-- lines that the program keeps: where they begin, and their words
pub record Gives (part : Section) (end : Reach) (lines : List Kept) (begin : Reach)
    (words : List (Option source.Line)) : Type 0 where
  pub begins : reach_before end lines ≡ begin
  pub words_are : words_in part end lines ≡ words

module _ (part : Section) (end : Reach) where
  -- a line, before others that begin after it
  keep_gives : (number : ℕ) (before : Layout) (bytes : List ℕ) (others : List Kept) (idle : Bool) →
      is_idle (place before.reach (line_in bytes)) ≡ idle →
      reach_before end others ≡ (extended before (line_in bytes)).reach
      → Gives part end
      (cond idle [] (record { number = number; bytes = bytes; place = place before.reach (line_in bytes) } ∷ [])
      ++ others) before.reach
      (replicate (words_between part before.reach (extended before (line_in bytes)).reach)
      (Some (shown number bytes)) ++ words_in part end others)
  keep_gives number before bytes others true idle rest =
      let stays = idle_stays before (line_in bytes) idle in
      let none : 0 ≡ words_between part before.reach before.reach = omega arith in
      record { begins = rest ∙ stays; words_are = rw (stays, ← none) refl }
  keep_gives number before bytes others false idle rest =
      let here = place_reach before.reach (line_in bytes) in
      record { begins = here; words_are = rw (here, rest) refl }

  -- the lines after a layout: the words that begin after it
  pub kept_words : (number : ℕ) (before : Layout) (lines : List (List ℕ)) (n : ℕ) →
      (laid before (map line_in lines)).reach ≡ end →
      word_count (offset_in part before.reach) + n ≡ word_count (offset_in part end)
      → Gives part end (kept number before lines) before.reach
      (map (λ i. line_holding part number before lines (4 * i))
      (range_with_len (word_count (offset_in part before.reach)) n))
  kept_words number before [] n end_is size =
      let none : n ≡ 0 = omega (arith, ap (λ reach. word_count (offset_in part reach)) end_is) in
      record { begins = sym end_is; words_are = rw none refl }
  kept_words number before (bytes ∷ others) n end_is size =
      let after = extended before (line_in bytes) in
      let m = words_between part before.reach after.reach in
      let f : ℕ → Option source.Line = λ i. line_holding part number before (bytes ∷ others) (4 * i) in
      let g : ℕ → Option source.Line = λ i. line_holding part (number + 1) after others (4 * i) in
      let first_grows = grows _ _ (line_grows part before (line_in bytes)) in
      let others_grow = grows _ _ (lines_grow part after (map line_in others)) in
      let end_size = ap (λ reach. word_count (offset_in part reach)) end_is in
      let whole : n ≡ m + (n - m) = omega (arith, first_grows, others_grow, end_size) in
      let begin : word_count (offset_in part before.reach) + m ≡ word_count (offset_in part after.reach) =
      omega (arith, first_grows) in
      let rest = kept_words (number + 1) after others (n - m) end_is
      (omega (arith, first_grows, others_grow, end_size)) in
      let lines = keep_gives number before bytes (kept (number + 1) after others)
      (is_idle (place before.reach (line_in bytes))) refl rest.begins in
      let words = split_range f g (Some (shown number bytes)) (word_count (offset_in part after.reach))
      (λ i above. ap (λ h. cond h (Some (shown number bytes)) (g i)) (held_not _ _ i above))
      (word_count (offset_in part before.reach)) m (n - m)
      begin (λ i above below. ap (λ h. cond h (Some (shown number bytes)) (g i)) (held _ _ i above below)) in
      record {
        begins = lines.begins;
        words_are = lines.words_are ∙ ap (λ l. replicate m (Some (shown number bytes)) ++ l) rest.words_are
            ∙ sym (ap (λ k. map f (range_with_len (word_count (offset_in part before.reach)) k)) whole ∙ words);
      }

-- the listing of what the program keeps
pub listed_is : (base : ℕ) (text : List ℕ) (end : Reach) (all : List Kept) (listing : Listed) →
    end ≡ (layout (lines_of text)).reach → all ≡ kept 1 unlaid (slice_split (λ byte. byte == 10) text) →
    listing ≡ record {
      base = base;
      words = words_in Text end all ++ lines_after_text end.text_size end.data_size (words_in Data end all);
    } →
    listing ≡ listing_of base text
listed_is base text end all listing end_is all_are is =
    let lines = slice_split (λ byte. byte == 10) text in
    let text_words = (kept_words Text end 1 unlaid lines (word_count end.text_size) (sym end_is)
    (omega arith)).words_are in
    let data_words = (kept_words Data end 1 unlaid lines (word_count end.data_size) (sym end_is)
    (omega arith)).words_are in
    rw (is, all_are, text_words, data_words, end_is) refl
