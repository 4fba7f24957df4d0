-- What is known of a number or a literal that is past the limits.
use Rattle.std.proofs.Common.{◌≡◌, ◌^◌, ◌≤◌, Bool, true, false, cond, ℤ, Option, Some, None, refl, arith}
use Rattle.std.specs.Prelude.{unsigned_abs, nat_lt, length}
use Rattle.std.proofs.lemmas.Bool.Decides.{nat_tests}
use Rattle.pb_named.specs.declared.named.NamedLit.{NamedLit}
use Rattle.pb_base.specs.declared.number.Number.TheVariants.{Value, TooWide, NotANumber}
use Rattle.pb_base.specs.Numbers.{limited}
use Rattle.pb_named.specs.Names.{Name}
use Rattle.pb_named.specs.Names.Name.{index, free}
use Rattle.pb_opb.specs.declared.symbol.Literal.TheVariants as named
use Rattle.pb_opb.specs.reader.Symbols.{Names, limited_name, limited_named}

wide-by : (z : ℤ) (b : Bool) → nat_lt (unsigned_abs z) (2 ^ 126) ≡ b → TooWide ≡ cond b (Value z) TooWide → 2 ^ 126 ≤ unsigned_abs z
wide-by z true test h = cc
wide-by z false test h = grind (arith, nat_tests)

pub wide-is : (o : Option ℤ) → TooWide ≡ limited o → (z : ℤ) × (o ≡ Some z) × (2 ^ 126 ≤ unsigned_abs z)
wide-is None h = cc
wide-is (Some z) h = (z, refl, wide-by z (nat_lt (unsigned_abs z) (2 ^ 126)) refl h)

none-by : (z : ℤ) (b : Bool) → NotANumber ≡ cond b (Value z) TooWide → ⊥
none-by z true h = cc
none-by z false h = cc

pub none-is : (o : Option ℤ) → NotANumber ≡ limited o → o ≡ None
none-is None h = refl
none-is (Some z) h = absurd (none-by z (nat_lt (unsigned_abs z) (2 ^ 126)) h)

-- what reading tells of a literal
name-by : (positive : Bool) (name : Name) → Names (limited_name positive name) (Some (record { name = name; positive = positive }))
name-by positive (index n) = by-test (nat_lt n (2 ^ 31)) refl
  where
    by-test : (b : Bool) → nat_lt n (2 ^ 31) ≡ b → Names (cond b (named.Near (record { name = index n; positive = positive })) named.Far) (Some (record { name = index n; positive = positive }))
    by-test true e = (refl, grind (arith, nat_tests), omega arith)
    by-test false e = (record { name = index n; positive = positive }, refl, grind (arith, nat_tests))
name-by positive (free text) = by-test (nat_lt 255 (length text)) refl
  where
    by-test : (b : Bool) → nat_lt 255 (length text) ≡ b → Names (cond b named.Long (named.Near (record { name = free text; positive = positive }))) (Some (record { name = free text; positive = positive }))
    by-test true e = (record { name = free text; positive = positive }, refl, grind (arith, nat_tests))
    by-test false e = (refl, omega arith, grind (arith, nat_tests))

pub limited-names : (o : Option NamedLit) → Names (limited_named o) o
limited-names None = refl
limited-names (Some l) = name-by l.positive l.name
