-- The known names that are near an unknown one.
use Rattle.std.specs.Prelude.{ℕ, ◌==◌, List, [], ◌∷◌, ◌++◌, codes, length, map, take, Bool, ◌||◌, if◌then◌else◌}
use Rattle.std.specs.{List.filter, List.flat_map, Option.option_map_or, Str.bytes_eq}
use Rattle.std.specs.Char.{to_ascii_lowercase}
use Rattle.rv_asm.specs.Layout.{body_of}
use Rattle.rv_asm.specs.Token.{Token}
use Rattle.rv_asm.specs.declared.fault.AsmFault.{AsmFault}
use Rattle.rv_asm.specs.declared.fault.AsmFault.TheVariants.{BadOperands, UnknownMnemonic, UnknownSymbol}
use Rattle.rv_describe.specs.Near.{is_near}
use Rattle.rv_refusal.specs.Counterpart.{counterpart}
use Rattle.rv_refusal.specs.ForeignName.{csr_hint, foreign_hint}
use Rattle.rv_refusal.specs.Names.{known_names, unknown_name}
use Rattle.rv_refusal.specs.NameSet.{is_one_of}
use Rattle.rv_refusal.specs.OrElse.{or_else}

-- the known names that are one edit away, or else those that are two away; at most three
abbrev pub nearest : List ℕ → List (List ℕ) → List (List ℕ)
nearest name known = take 3 (or_else (filter (is_near 1 name) known) (filter (is_near 2 name) known))

-- names, each after a comma and a blank
abbrev pub other_names : List (List ℕ) → List ℕ
other_names names = flat_map (λ name. codes ", " ++ name) names

-- the line on some names, if there are any
unfoldable pub names_line : List (List ℕ) → List ℕ
names_line [] = []
names_line (first ∷ others) = codes "nearest: " ++ (first ++ (other_names others ++ codes "\n"))

-- a name with small letters in place of capital ones
abbrev pub in_small_letters : List ℕ → List ℕ
in_small_letters name = map to_ascii_lowercase name

-- the line on an unknown name: that it is known in small letters, or else the known names that are nearest to it; a
-- known one stands where it is not known
unfoldable pub spelling_line : List ℕ → List (List ℕ) → List ℕ
spelling_line name known =
    if is_one_of known name then []
    else (if is_one_of known (in_small_letters name)
    then codes "names are written in small letters: " ++ (in_small_letters name ++ codes "\n")
    else names_line (nearest name known))

-- a directive of other assemblers, whose number is the exponent of a power of two
abbrev pub aligns_to_power : List ℕ → Bool
aligns_to_power name = bytes_eq name (codes ".align") || bytes_eq name (codes ".p2align")

-- the line on the spelling of an unknown name, unless a hint says more of it
unfoldable pub line_without : List ℕ → List ℕ → List (List ℕ) → List ℕ
line_without hint name known = if length hint == 0 then spelling_line name known else []

-- the line on an unknown mnemonic, which is so in small letters
unfoldable pub small_line : List ℕ → List ℕ → List (List ℕ) → List ℕ
small_line small name known =
    if aligns_to_power small then codes "nearest: .balign, in bytes: .balign 4 for .align 2, .balign 8 for .align 3\n"
    else if bytes_eq small (codes ".section") then names_line (codes ".text" ∷ codes ".data" ∷ [])
    else option_map_or (λ other. names_line (other ∷ [])) (counterpart small)
    (line_without (foreign_hint small) name known)

-- the line on an unknown mnemonic: those of other assemblers and machines may have capital letters
unfoldable pub mnemonic_line : List ℕ → List (List ℕ) → List ℕ
mnemonic_line name known = small_line (in_small_letters name) name known

-- the line on an unknown name of assembly; that of a symbol may have capital letters
unfoldable pub known_line : AsmFault → List ℕ → List (List ℕ) → List ℕ
known_line UnknownMnemonic name known = mnemonic_line name known
known_line UnknownSymbol name known = names_line (nearest name known)
known_line BadOperands name known = line_without (csr_hint name) name known
known_line _ name known = spelling_line name known

-- that on the unknown name of a line at fault with these tokens, where its fault is one of a name, of an assembly that
-- defines these symbols
unfoldable pub nearest_line : AsmFault → (List ℕ → Bool) → List (List ℕ) → List Token → List ℕ
nearest_line fault defined symbols tokens =
    option_map_or (λ name. known_line fault name (known_names fault name symbols))
    (unknown_name fault defined (body_of tokens)) []
