-- The names that tables hold.
use Rattle.std.proofs.Common.{◌≡◌, ◌∙◌, ◌+◌, ◌<◌, Bor, cond, drop, false, get_or, length, map, ℕ, List, [], ◌∷◌, true}
use Rattle.std.proofs.Common.{Some, None, Option, refl, ap, arith, IsSome, IfSome, ◌↔◌}
use Rattle.std.specs.Prelude.{nat_lt}
use Rattle.std.specs.List.{list_all}
use Rattle.std.specs.Str.{bytes_eq}
use Rattle.std.proofs.lemmas.List.{drop_more}
use Rattle.rv_asm.specs.Names.{named, register_names, register_named}
use Rattle.std.proofs.lemmas.Bool.Decides.{nat_tests}

-- what is found in a table whose numbers are all below a bound is below it
named_below : (rows : List (List ℕ × ℕ)) (name : List ℕ) (bound number : ℕ) →
    list_all (λ row. nat_lt row.1 bound) rows ≡ true → named rows name ≡ Some number → number < bound
named_below [] name bound number all found = absurd (cc)
named_below (row ∷ rows) name bound number all found = grind (arith, nat_tests, named_below rows name bound number)

-- each name of a register gives a number below 32
pub register_below : (name : List ℕ) (number : ℕ) → register_named name ≡ Some number → number < 32
unfolding register_names
register_below name number found = named_below register_names name 32 number refl found

-- an option that holds a number exactly where the number is below 32 holds it there
pub some_below : {r : Option ℕ} {n : ℕ} → (IsSome r ↔ (n < 32)) → IfSome r (λ x. x ≡ n) → n < 32 → r ≡ Some n
some_below {r = None} valid is below = let impossible : IsSome {T = ℕ} None = valid.1 below in absurd (cc)
some_below {r = Some x} valid is below = ap Some is

-- what is left of a table that a loop reads: its next row, and what stands after it
module _ {T : Type 0} (table : List (Bor (List ℕ) × T)) (i : ℕ) (row : Bor (List ℕ) × T) (name : List ℕ)
    (inside : i < length table) (row_is : row ≡ get_or table i row) where
  next_row : named (map (λ row. (row.0.now, row.1)) (drop i table)) name
      ≡ cond (bytes_eq row.0.now name) (Some row.1) (named (map (λ row. (row.0.now, row.1)) (drop (i + 1) table)) name)
  next_row = grind (arith, drop_more)

  -- where the next row has the name, it is the one that is found
  pub named-here : bytes_eq row.0.now name ≡ true →
      named (map (λ row. (row.0.now, row.1)) (drop i table)) name ≡ Some row.1
  named-here same = next_row
      ∙ ap (λ b. cond b (Some row.1) (named (map (λ row. (row.0.now, row.1)) (drop (i + 1) table)) name)) same

  -- where it has another name, what is found is found among the rows after it
  pub named-after : bytes_eq row.0.now name ≡ false →
      named (map (λ row. (row.0.now, row.1)) (drop i table)) name
      ≡ named (map (λ row. (row.0.now, row.1)) (drop (i + 1) table)) name
  named-after other = next_row
      ∙ ap (λ b. cond b (Some row.1) (named (map (λ row. (row.0.now, row.1)) (drop (i + 1) table)) name)) other
