-- How names get their numbers, one after another.
use Rattle.std.specs.Prelude.{ℕ, ◌+◌, ◌<◌, ◌≤◌, ◌^◌, max, List, [], ◌∷◌, ◌++◌, map, length, All, ◌≡◌}
use Rattle.std.specs.List.{flat_map, position_or_len}
use Rattle.std.specs.Str.{bytes_eq}
use Rattle.pb_base.specs.Firsts.{with_item, firsts_behind}
use Rattle.pb_named.specs.Names.{Name}
use Rattle.pb_named.specs.Names.Name.{index, free}
use Rattle.pb_named.specs.declared.named.Parts.{Parts}
use Rattle.pb_named.specs.declared.named.Parts.TheVariants.{Index, Free}
use Rattle.pb_base.specs.declared.literal.Lit.{Lit}
use Rattle.pb_named.specs.NamedTerms.{NamedTerm}
use Rattle.pb_named.specs.NamedProblems.{Table, size, products_in, statement_of}
use Rattle.pb_named.specs.Products.{same_product}
use Rattle.pb_named.specs.declared.named.NamedStatement.{NamedStatement}
use Rattle.pb_base.specs.declared.problem.Raw.{Raw}

abbrev pub of_parts : Parts → Name
of_parts (Index n) = index n
of_parts (Free text) = free text.now

abbrev pub IsInReach : Parts → Type 0
IsInReach (Index n) = (1 ≤ n) × (n < 2 ^ 31)
IsInReach (Free text) = length text.now ≤ 255

-- one name more
abbrev pub noted : Table → Name → Table
noted t (index n) = record { numbered = max t.numbered n; names = t.names }
noted t (free text) = record { numbered = t.numbered; names = with_item bytes_eq t.names text }

abbrev pub noted_all : Table → List Name → Table
noted_all t [] = t
noted_all t (n ∷ ns) = noted_all (noted t n) ns

-- the place of a free name among those of the table (none of an index)
abbrev pub place_in : Table → Name → List ℕ
place_in t (index n) = []
place_in t (free text) = position_or_len (bytes_eq text) t.names ∷ []

-- the places of the free names, each as it is noted
abbrev pub places_from : Table → List Name → List ℕ
places_from t [] = []
places_from t (n ∷ ns) = place_in (noted t n) n ++ places_from (noted t n) ns

-- the table has the name
abbrev pub IsKnown : Table → Name → Type 0
IsKnown t (index n) = n ≤ t.numbered
IsKnown t (free text) = position_or_len (bytes_eq text) t.names < length t.names

abbrev pub IsTermKnown : Table → NamedTerm → Type 0
IsTermKnown t n = IsKnown t n.lit.name × All (λ l. IsKnown t l.name) n.more

abbrev pub AreKnown : Table → List NamedTerm → Type 0
AreKnown t ns = All (IsTermKnown t) ns

-- ---- the places of names, taken one after another

-- the numbers begin with those of the names
abbrev pub StartsWith : (Name → List ℕ) → List ℕ → List Name → Type 0
StartsWith f ks ns = (rest : List ℕ) × (ks ≡ flat_map f ns ++ rest)

-- those of the names were taken, and these are left
abbrev pub Gives : (Name → List ℕ) → List ℕ → List Name → List ℕ → Type 0
Gives f ks ns rest = ks ≡ flat_map f ns ++ rest

-- ---- products

-- with these products there are 2^31 variables or more
abbrev pub IsOver : Table → List (List Lit) → Type 0
IsOver t products = 2 ^ 31 ≤ size t + length products

abbrev pub IsFew : Table → List (List Lit) → Type 0
IsFew t products = size t + length products < 2 ^ 31

-- the statements in numbers, where these products were noted before
abbrev pub statements_from : Table → List (List Lit) → List NamedStatement → List Raw
statements_from t seen ss = map (statement_of t (firsts_behind same_product seen (products_in t (flat_map (λ s. s.terms) ss)))) ss
