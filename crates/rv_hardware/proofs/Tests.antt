-- A test decides between two states, and what is known of two tests together is known of each.
use Rattle.std.proofs.Common.{◌≡◌, ◌&&◌, Bool, true, false, cond, arith}

-- a test decides between two states
pub by_test : {A : Type 0} (P : A → Type 0) (b : Bool) (x y : A) → (b ≡ true → P x) → (b ≡ false → P y) → P (cond b x y)
by_test P b x y passes fails = grind arith

-- the first of two tests that both pass
pub and_first : (a b : Bool) → (a && b) ≡ true → a ≡ true
and_first a b h = grind arith

-- the second of two tests that both pass
pub and_second : (a b : Bool) → (a && b) ≡ true → b ≡ true
and_second a b h = grind arith

-- a test does not both pass and fail
pub not_both : {b : Bool} {P : Type 0} → b ≡ true → b ≡ false → P
not_both is isnt = absurd (cc)

-- no test passes together with one that fails
pub never_both : {P : Type 0} (b : Bool) → (b && false) ≡ true → P
never_both b h = absurd (let no_more = and_second b false h in cc)
