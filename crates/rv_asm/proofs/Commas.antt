-- How commas cut tokens into pieces.
use Rattle.std.proofs.Common.{◌≡◌, ◌∙◌, ◌+◌, ◌<◌, ℕ, List, [], ◌∷◌, map, take, drop, length, sym, ap, arith}
use Rattle.std.specs.List.{before_first, position_or_len, slice_split, take-map, drop-map}
use Rattle.std.proofs.lemmas.List.{length-map, take_all}
use Rattle.std.proofs.lemmas.List.Splits.{slice_split_first, slice_split_none}
use Rattle.std.proofs.lemmas.List.Sums.{fails_before_first}
use Rattle.rv_asm.specs.Operand.{is_comma}
use Rattle.rv_asm.specs.Read.{token_of}
use Rattle.rv_asm.specs.Token as spec
use Rattle.rv_asm.specs.declared.token.Token.{Token}

module _ (tokens : List Token) (size : ℕ) (size_is : size ≡ position_or_len is_comma (map token_of tokens)) where
  -- what stands before the first comma
  pub before_comma : before_first is_comma (map token_of tokens) ≡ map token_of (take size tokens)
  before_comma = ap (λ n. take n (map token_of tokens)) (sym size_is) ∙ take-map token_of size tokens

  -- it is the first piece, and what stands after the comma has the others
  pub cut_at_comma : size < length tokens →
      slice_split is_comma (map token_of tokens)
      ≡ map token_of (take size tokens) ∷ slice_split is_comma (map token_of (drop (size + 1) tokens))
  cut_at_comma within =
      slice_split_first is_comma (map token_of tokens) spec.Comma (omega (arith, size_is, length-map tokens token_of))
      ∙ ap (λ first. first ∷ slice_split is_comma
      (drop (position_or_len is_comma (map token_of tokens) + 1) (map token_of tokens))) before_comma
      ∙ ap (λ n. map token_of (take size tokens)
      ∷ slice_split is_comma (drop (n + 1) (map token_of tokens))) (sym size_is)
      ∙ ap (λ rest. map token_of (take size tokens) ∷ slice_split is_comma rest) (drop-map token_of (size + 1) tokens)

  -- without a comma there is one piece
  module _ (whole : size ≡ length tokens) where
    -- what stands before the first comma is then all of the tokens
    pub before_none : before_first is_comma (map token_of tokens) ≡ map token_of tokens
    before_none = before_comma ∙ ap (map token_of) (take_all size tokens (omega (arith, whole)))

    -- the tokens are cut into one piece, which has all of them
    pub cut_nowhere : slice_split is_comma (map token_of tokens) ≡ map token_of tokens ∷ []
    cut_nowhere = grind (arith, slice_split_none, fails_before_first, length-map)
