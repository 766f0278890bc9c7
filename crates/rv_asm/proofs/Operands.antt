-- The operands that tokens spell, piece by piece.
use Rattle.std.proofs.Common.{rules, ◌≡◌, ◌≢◌, ◌∙◌, ◌<◌, ◌≤◌, ◌-◌, ℕ, None, drop, arith, length, List, [], ◌∷◌, ◌++◌}
use Rattle.std.proofs.Common.{map, Bool, true, false, cond, Some, Option, Result, IfOk, Bor, sym, refl, ap}
use Rattle.std.proofs.Common.{option_and_then}
use Rattle.std.specs.Global.{Vec}
use Rattle.std.specs.List.{slice_split, onto_first}
use Rattle.std.specs.Option.{option_map}
use Rattle.std.proofs.lemmas.List.{map-append}
use Rattle.std.proofs.lemmas.Simd.{map-map}
use Rattle.rv_asm.specs.Operand.{Operand, Indirect, Value, based, expression, in_parentheses, operand}
use Rattle.rv_asm.specs.Operand.{operands_in, operands_of, is_comma}
use Rattle.rv_asm.specs.Read.{operand_of, token_of}
use Rattle.rv_asm.specs.Token as spec
use Rattle.rv_asm.specs.Token.{LeftParenthesis, Name, RightParenthesis}
use Rattle.rv_asm.specs.declared.token.Token.{Token}
use Rattle.rv_asm.specs.declared.operand.Operand as read
use Rattle.rv_asm.proofs.Joined.{joined, joined-push}

-- a comma of the program
abbrev pub separates : Token → Bool
separates token = is_comma (token_of token)

onto_first-map : (x : Token) (parts : List (List Token)) →
    onto_first (token_of x) (map (map token_of) parts) ≡ map (map token_of) (onto_first x parts)
onto_first-map x [] = refl
onto_first-map x (part ∷ parts) = refl

cut_at : (b : Bool) (x : Token) (spec_parts : List (List spec.Token)) (parts : List (List Token)) →
    spec_parts ≡ map (map token_of) parts →
    cond b ([] ∷ spec_parts) (onto_first (token_of x) spec_parts)
    ≡ map (map token_of) (cond b ([] ∷ parts) (onto_first x parts))
cut_at true x spec_parts parts e = ap (λ others. [] ∷ others) e
cut_at false x spec_parts parts e = ap (onto_first (token_of x)) e ∙ onto_first-map x parts

-- what tokens stand for is cut where they are
slice_split-map : (xs : List Token) → slice_split is_comma (map token_of xs)
    ≡ map (map token_of) (slice_split separates xs)
slice_split-map [] = refl
slice_split-map (x ∷ xs) = cut_at (separates x) x _ _ (slice_split-map xs)

-- the pieces of tokens, cut at the program's commas, stand for the pieces of what the tokens stand for
pub pieces_are : {E : Type 0} (r : Result (Vec (Bor (List Token))) E) (tokens : List Token) →
    IfOk r (λ v. map (λ x. x.now) v.items ≡ slice_split separates tokens) →
    IfOk r (λ v. map (λ x. map token_of x.now) v.items ≡ slice_split is_comma (map token_of tokens))
pieces_are r tokens e = grind (arith, map-map, slice_split-map)

-- the operands of tokens, where there are some, are those of their pieces
pub operands_of-pieces : (tokens : List Token) → 0 < length tokens →
    operands_of (map token_of tokens) ≡ operands_in (slice_split is_comma (map token_of tokens))
operands_of-pieces [] some_tokens = absurd (omega arith)
operands_of-pieces (first ∷ others) some_tokens = refl

-- the operands so far and those of the pieces are all of them
module _ (all : Option (List Operand)) (piece : List spec.Token) (rest others : List (List spec.Token))
    (done : List read.Operand) (so_far : joined operand_of done (operands_in rest) ≡ all)
    (rest_is : rest ≡ piece ∷ others) where
  -- the operands so far, what the next piece is found to be, and the operands of the others are all of them
  pub joined-found : (found : Option Operand) → found ≡ operand piece →
      joined operand_of done (option_and_then (λ first. option_map (λ l. first ∷ l) (operands_in others)) found) ≡ all
  joined-found found found_is = grind (arith, joined)

  -- a piece is an operand
  pub joined-operand : (o : read.Operand) → Some (operand_of o) ≡ operand piece →
      joined operand_of (done ++ o ∷ []) (operands_in others) ≡ all
  joined-operand o read_is = joined-push operand_of done o (operands_in others)
      ∙ joined-found (Some (operand_of o)) read_is

-- four tokens or more are no expression
expression-long : (t u v w : spec.Token) (rest : List spec.Token) → expression (t ∷ u ∷ v ∷ w ∷ rest) ≡ None
expression-long t u v w rest = grind arith

-- by the number of its tokens an operand is an expression, or one before a name in parentheses
operand-four : (t u v w : spec.Token) → based (expression (t ∷ [])) (in_parentheses u v w)
    ≡ operand (t ∷ u ∷ v ∷ w ∷ [])
operand-four (spec.Text bytes) u v w = refl
operand-four _ u v w = refl

operand-five : (t u v w x : spec.Token) → based (expression (t ∷ u ∷ [])) (in_parentheses v w x)
    ≡ operand (t ∷ u ∷ v ∷ w ∷ x ∷ [])
operand-five (spec.Text bytes) u v w x = refl
operand-five _ u v w x = refl

operand-six : (t u v w x y : spec.Token) → based (expression (t ∷ u ∷ v ∷ [])) (in_parentheses w x y)
    ≡ operand (t ∷ u ∷ v ∷ w ∷ x ∷ y ∷ [])
operand-six (spec.Text bytes) u v w x y = refl
operand-six _ u v w x y = refl

operand-many : (t u v w x y z : spec.Token) (rest : List spec.Token) → operand (t ∷ u ∷ v ∷ w ∷ x ∷ y ∷ z ∷ rest) ≡ None
operand-many t u v w x y z rest = grind (arith, expression-long, operand)

-- what stands before a name in parentheses is its offset
module _ (name : List ℕ) where
  ended : (offset : List Token) → List spec.Token
  ended offset = map token_of offset ++ LeftParenthesis ∷ Name name ∷ RightParenthesis ∷ []

  -- an offset of four tokens or more is none
  long-offset : (t u v w x y z : spec.Token) (offset rest : List spec.Token) →
      based (expression (t ∷ u ∷ v ∷ w ∷ offset)) (Some name) ≡ operand (t ∷ u ∷ v ∷ w ∷ x ∷ y ∷ z ∷ rest)
  long-offset t u v w x y z offset rest =
      ap (λ found. based found (Some name)) (expression-long t u v w offset) ∙ sym (operand-many t u v w x y z rest)

  operand-ended : (found : Option Operand) (offset : List Token) →
      (length offset ≡ 0 → found ≡ Some (Indirect None name)) →
      (0 < length offset → found ≡ based (expression (map token_of offset)) (Some name)) →
      found ≡ operand (ended offset)
  unfolding ended
  operand-ended found [] alone after = alone refl
  operand-ended found (a ∷ []) alone after = after (omega arith) ∙ operand-four (token_of a) _ _ _
  operand-ended found (a ∷ b ∷ []) alone after = after (omega arith) ∙ operand-five (token_of a) _ _ _ _
  operand-ended found (a ∷ b ∷ c ∷ []) alone after = after (omega arith) ∙ operand-six (token_of a) _ _ _ _ _
  operand-ended found (a ∷ b ∷ c ∷ d ∷ []) alone after = after (omega arith) ∙ long-offset (token_of a) _ _ _ _ _ _ _ _
  operand-ended found (a ∷ b ∷ c ∷ d ∷ e ∷ []) alone after = after (omega arith)
      ∙ long-offset (token_of a) _ _ _ _ _ _ _ _
  operand-ended found (a ∷ b ∷ c ∷ d ∷ e ∷ f ∷ []) alone after = after (omega arith)
      ∙ long-offset (token_of a) _ _ _ _ _ _ _ _
  operand-ended found (a ∷ b ∷ c ∷ d ∷ e ∷ f ∷ g ∷ offset) alone after = after (omega arith)
      ∙ long-offset (token_of a) _ _ _ _ _ _ _ _

  -- where tokens end with a name in parentheses, their operand is by that name and the offset before it, if any
  pub operand-indirect : (found : Option Operand) (tokens offset after : List Token) → tokens ≡ offset ++ after →
      map token_of after ≡ LeftParenthesis ∷ Name name ∷ RightParenthesis ∷ [] →
      (length offset ≡ 0 → found ≡ Some (Indirect None name)) →
      (0 < length offset → found ≡ based (expression (map token_of offset)) (Some name)) →
      found ≡ operand (map token_of tokens)
  unfolding ended
  operand-indirect found tokens offset after split ends alone based_on =
      operand-ended found offset alone based_on ∙ ap (λ l. operand (map token_of offset ++ l)) (sym ends)
      ∙ ap operand (sym (map-append token_of offset after)) ∙ ap (λ l. operand (map token_of l)) (sym split)

in_parentheses-none : (left name right : spec.Token) →
    ((text : List ℕ) → (left ∷ name ∷ right ∷ []) ≢ (LeftParenthesis ∷ Name text ∷ RightParenthesis ∷ [])) →
    in_parentheses left name right ≡ None
in_parentheses-none LeftParenthesis (Name text) RightParenthesis other = absurd (other text refl)
in_parentheses-none _ _ _ other = refl

-- without a name in parentheses at its end, an operand of three tokens or more is an expression
operand-long : (tokens : List Token) → 3 ≤ length tokens →
    ((name : List ℕ) →
    map token_of (drop (length tokens - 3) tokens) ≢ (LeftParenthesis ∷ Name name ∷ RightParenthesis ∷ [])) →
    option_map Value (expression (map token_of tokens)) ≡ operand (map token_of tokens)
operand-long (a ∷ b ∷ c ∷ []) long other = let none =
    in_parentheses-none (token_of a) (token_of b) (token_of c) other in search rules
operand-long (a ∷ b ∷ c ∷ d ∷ []) long other = grind arith
operand-long (a ∷ b ∷ c ∷ d ∷ e ∷ []) long other = grind arith
operand-long (a ∷ b ∷ c ∷ d ∷ e ∷ f ∷ []) long other = grind arith
operand-long (a ∷ b ∷ c ∷ d ∷ e ∷ f ∷ g ∷ tokens) long other =
    ap (option_map Value) (expression-long (token_of a) _ _ _ _) ∙ sym (operand-many (token_of a) _ _ _ _ _ _ _)
operand-long _ long other = absurd (omega arith)

-- where tokens do not end with a name in parentheses, three or more are an operand as an expression
pub operand-direct : (found : Option Operand) (tokens after : List Token) → after ≡ drop (length tokens - 3) tokens →
    ((name : List ℕ) → map token_of after ≢ (LeftParenthesis ∷ Name name ∷ RightParenthesis ∷ [])) →
    (length tokens < 3 → found ≡ operand (map token_of tokens)) →
    (3 ≤ length tokens → found ≡ option_map Value (expression (map token_of tokens))) →
    found ≡ operand (map token_of tokens)
operand-direct found [] after ends other short long = short (omega arith)
operand-direct found (a ∷ []) after ends other short long = short (omega arith)
operand-direct found (a ∷ b ∷ []) after ends other short long = short (omega arith)
operand-direct found (a ∷ b ∷ c ∷ tokens) after ends other short long =
    let enough : 3 ≤ length (a ∷ b ∷ c ∷ tokens) = omega arith in
    long enough ∙ operand-long (a ∷ b ∷ c ∷ tokens) enough (λ name is. other name (ap (map token_of) ends ∙ is))
