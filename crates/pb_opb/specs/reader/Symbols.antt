-- What the code keeps of a token: all of it within the limits, and that it is past them.
use Rattle.std.specs.Prelude.{◌≡◌, ◌^◌, ◌≤◌, ◌<◌, nat_lt, Bool, length, ℤ, unsigned_abs, Option, Some, None, if◌then◌else◌}
use Rattle.pb_named.specs.Names.{Name}
use Rattle.pb_named.specs.Names.Name.{index, free}
use Rattle.pb_named.specs.declared.named.NamedLit.{NamedLit}
use Rattle.pb_opb.specs.declared.symbol.Literal.{Literal}
use Rattle.pb_opb.specs.declared.symbol.Literal.TheVariants as named
use Rattle.pb_opb.specs.declared.symbol.Symbol.{Symbol}
use Rattle.pb_opb.specs.declared.symbol.Symbol.TheVariants as symbol
use Rattle.pb_named.specs.NamedProblems.{index_in}
use Rattle.pb_opb.specs.Grammar.{Kind}
use Rattle.pb_opb.specs.Grammar.Kind.{minimise, integer, literal, relation, semicolon, other}
use Rattle.pb_opb.specs.Limits.{name_len}

-- what reading tells of a literal
abbrev pub limited_name : Bool → Name → Literal
limited_name positive (index n) = if nat_lt n (2 ^ 31) then named.Near (record { name = index n; positive = positive }) else named.Far
limited_name positive (free text) = if nat_lt 255 (length text) then named.Long else named.Near (record { name = free text; positive = positive })

abbrev pub limited_named : Option NamedLit → Literal
limited_named None = named.NotALiteral
limited_named (Some l) = limited_name l.positive l.name

abbrev pub Names : Literal → Option NamedLit → Type 0
Names (named.Near l) o = (o ≡ Some l) × (index_in l.name < 2 ^ 31) × (name_len l.name ≤ 255)
Names named.Far o = (l : NamedLit) × (o ≡ Some l) × (2 ^ 31 ≤ index_in l.name)
Names named.Long o = (l : NamedLit) × (o ≡ Some l) × (255 < name_len l.name)
Names named.NotALiteral o = o ≡ None

abbrev pub Shows : Symbol → Kind → Type 0
Shows symbol.Minimise k = k ≡ minimise
Shows (symbol.Integer n) k = k ≡ integer n
Shows symbol.Wide k = (n : ℤ) × (k ≡ integer n) × (2 ^ 126 ≤ unsigned_abs n)
Shows (symbol.Literal l) k = (k ≡ literal l) × (index_in l.name < 2 ^ 31) × (name_len l.name ≤ 255)
Shows symbol.Far k = (l : NamedLit) × (k ≡ literal l) × (2 ^ 31 ≤ index_in l.name)
Shows symbol.Long k = (l : NamedLit) × (k ≡ literal l) × (255 < name_len l.name)
Shows (symbol.Relation r) k = k ≡ relation r
Shows symbol.Semicolon k = k ≡ semicolon
Shows symbol.Other k = k ≡ other
