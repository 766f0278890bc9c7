-- What the texts are made of is JSON, or a part of it, and no byte of it is one that HTML gives a meaning.
use Rattle.std.proofs.Common.{◌≡◌, ℕ, Bool, true, if◌then◌else◌, List, []}
use Rattle.std.proofs.Common.{◌∷◌, ◌++◌, map, codes, Option, Some, None, refl}
use Rattle.std.specs.List.{flat_map, list_all}
use Rattle.rv_states.specs.Grammar.{AreLines, AreMembers, IsJson}
use Rattle.rv_states.specs.Grammar as rule
use Rattle.rv_states.specs.Json.{Json, also, also_some, array, begins, key, numeral, quoted, string, truth}
use Rattle.rv_states.specs.Markup.{HasNoMarkup}
use Rattle.rv_states.proofs.Each.{each_of}
use Rattle.rv_states.proofs.Grammar.{AllJson, Closes, IsOpen}
use Rattle.rv_states.proofs.Grammar as grammar
use Rattle.rv_states.proofs.Names.{is_safe_byte, no_markup, unescaped}
use Rattle.rv_states.proofs.Plain.{AllPlain}
use Rattle.rv_states.proofs.Plain as markup

-- a text is such, and has no markup
pub record IsSafe (P : List ℕ → Type 0) (text : List ℕ) : Type 0 where
  pub is : P text
  pub plain : HasNoMarkup text

-- a number, a truth value, characters that need no escape, and a user's text
pub number : (n : ℕ) → IsSafe IsJson (numeral n)
number n = record { is = grammar.number n; plain = markup.number n }

-- true and false are JSON
pub truth_of : (value : Bool) → IsSafe IsJson (truth value)
truth_of value = record { is = grammar.truth_of value; plain = markup.truth_of value }

-- a safe text in quotes is
pub in_quotes : (text : List ℕ) → list_all is_safe_byte text ≡ true → IsSafe IsJson (quoted text)
in_quotes text safe = record {
  is = grammar.in_quotes text (unescaped text safe);
  plain = markup.in_quotes (markup.plain (no_markup text safe));
}

-- any text as a string is
pub string_of : (text : List ℕ) → IsSafe IsJson (string text)
string_of text = record { is = grammar.string_of text; plain = markup.string_of text }

-- the values of an array
abbrev pub AllSafe : List Json → Type 0
AllSafe [] = Unit {0}
AllSafe (value ∷ values) = IsSafe IsJson value × AllSafe values

all_json : (values : List Json) → AllSafe values → AllJson values
all_json [] all = tt
all_json (value ∷ values) all = (all.0.is, all_json values all.1)

all_plain : (values : List Json) → AllSafe values → AllPlain values
all_plain [] all = tt
all_plain (value ∷ values) all = (all.0.plain, all_plain values all.1)

-- an array of what is safe is
pub array_of : (values : List Json) → AllSafe values → IsSafe IsJson (array values)
array_of values all =
    record { is = grammar.array_of values (all_json values all); plain = markup.array_of values (all_plain values all) }

-- what makes each safe makes all safe
pub each_safe : {X : Type 0} (json : X → Json) → ((x : X) → IsSafe IsJson (json x)) → (xs : List X) →
    AllSafe (map json xs)
each_safe json are [] = tt
each_safe json are (x ∷ xs) = (are x, each_safe json are xs)

-- further members of an object
pub no_members : IsSafe AreMembers []
no_members = record { is = rule.no_members; plain = markup.plain refl }

-- members after members are members
pub both : {xs ys : List ℕ} → IsSafe AreMembers xs → IsSafe AreMembers ys → IsSafe AreMembers (xs ++ ys)
both first second = record { is = grammar.both first.is second.is; plain = markup.both first.plain second.plain }

-- and so are those of each item
pub members_each : {X : Type 0} (text : X → List ℕ) → ((x : X) → IsSafe AreMembers (text x)) → (xs : List X)
    → IsSafe AreMembers (flat_map text xs)
members_each text are xs = each_of (IsSafe AreMembers) no_members (λ xs ys. both {xs = xs} {ys = ys}) text are xs

-- a member of a name of the format's own
pub member : (name : List ℕ) {value : List ℕ} → list_all is_safe_byte name ≡ true → IsSafe IsJson value
    → IsSafe AreMembers (also name value)
member name safe has = record {
  is = grammar.member name (unescaped name safe) has.is;
  plain = markup.member name (no_markup name safe) has.plain;
}

-- a name with a number is a member
pub counted : (name : List ℕ) → list_all is_safe_byte name ≡ true → (n : ℕ) → IsSafe AreMembers (also name (numeral n))
counted name safe n = member name safe (number n)

-- and so is one with a number, if there is one
pub counted_some : (name : List ℕ) → list_all is_safe_byte name ≡ true → (n : Option ℕ) →
    IsSafe AreMembers (also_some name n)
counted_some name safe None = no_members
counted_some name safe (Some n) = counted name safe n

-- the beginning of an object, which stays open
pub beginning : (name : List ℕ) {value : List ℕ} → list_all is_safe_byte name ≡ true → IsSafe IsJson value
    → IsSafe IsOpen (begins name value)
beginning name safe has = record {
  is = grammar.beginning name (unescaped name safe) has.is;
  plain = markup.beginning name (no_markup name safe) has.plain;
}

-- an open object with members more is still open
pub begun : {xs ys : List ℕ} → IsSafe IsOpen xs → IsSafe AreMembers ys → IsSafe IsOpen (xs ++ ys)
begun front more = record { is = grammar.begun front.is more.is; plain = markup.both front.plain more.plain }

-- the rest of an object, with what stands after it, which has no markup either
pub record SafelyCloses (end text : List ℕ) : Type 0 where
  pub is : Closes end text
  pub plain : HasNoMarkup end → HasNoMarkup text

-- a brace closes it
pub closes : {end : List ℕ} → SafelyCloses end (codes "}" ++ end)
closes = record { is = grammar.closes; plain = λ after. markup.both {xs = codes "}"} (markup.plain refl) after }

-- and so do members and what closes it
pub more : {end xs ys : List ℕ} → IsSafe AreMembers xs → SafelyCloses end ys → SafelyCloses end (xs ++ ys)
more first rest = record {
  is = grammar.more first.is rest.is;
  plain = λ after. markup.both first.plain (rest.plain after);
}

-- a last member, whose value and what stands after it are one text
pub last : {end : List ℕ} (name : List ℕ) {value : List ℕ} → list_all is_safe_byte name ≡ true → IsSafe IsJson value
    → SafelyCloses end (key name ++ (value ++ (codes "}" ++ end)))
last name safe has = record {
  is = grammar.last name (unescaped name safe) has.is;
  plain = λ after. markup.both (markup.named name (no_markup name safe))
      (markup.both has.plain (markup.both {xs = codes "}"} (markup.plain refl) after));
}

-- an object is JSON, and with a line feed after it a line
pub object : {xs ys : List ℕ} → IsSafe IsOpen xs → SafelyCloses [] ys → IsSafe IsJson (xs ++ ys)
object front rest =
    record { is = grammar.object front.is rest.is; plain = markup.both front.plain (rest.plain (markup.plain refl)) }

-- an open object and what closes it with a line feed are a line
pub object_line : {xs ys : List ℕ} → IsSafe IsOpen xs → SafelyCloses (codes "\n") ys → IsSafe AreLines (xs ++ ys)
object_line front rest =
    record {
      is = grammar.object_line front.is rest.is;
      plain = markup.both front.plain (rest.plain (markup.plain refl));
    }

-- lines
pub no_lines : IsSafe AreLines []
no_lines = record { is = rule.no_lines; plain = markup.plain refl }

-- a value and a line feed are a line
pub one_line : {value : List ℕ} → IsSafe IsJson value → IsSafe AreLines (value ++ codes "\n")
one_line value = record { is = grammar.one_line value.is; plain = markup.both value.plain (markup.plain refl) }

-- lines after lines are lines
pub lines_both : {xs ys : List ℕ} → IsSafe AreLines xs → IsSafe AreLines ys → IsSafe AreLines (xs ++ ys)
lines_both first second = record {
  is = grammar.lines_both first.is second.is;
  plain = markup.both first.plain second.plain;
}

-- and so are those of each item
pub lines_each : {X : Type 0} (text : X → List ℕ) → ((x : X) → IsSafe AreLines (text x)) → (xs : List X)
    → IsSafe AreLines (flat_map text xs)
lines_each text are xs = each_of (IsSafe AreLines) no_lines (λ xs ys. lines_both {xs = xs} {ys = ys}) text are xs

-- lines where something holds, else none, and the other way round
pub lines_where : (shown : Bool) {text : List ℕ} → IsSafe AreLines text → IsSafe AreLines (if shown then text else [])
lines_where shown are = record { is = grammar.lines_where shown are.is; plain = markup.chosen shown are.plain }

-- and lines that may be left out
pub lines_unless : (hidden : Bool) {text : List ℕ} → IsSafe AreLines text →
    IsSafe AreLines (if hidden then [] else text)
lines_unless hidden are = record { is = grammar.lines_unless hidden are.is; plain = markup.otherwise hidden are.plain }
