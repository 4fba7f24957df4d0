-- What the derivation of one group shows, as the derivation of all of them asks it.
use Rattle.std.proofs.Common.{◌≡◌, ◌≤◌, ◌<◌, ◌+◌, ◌*◌, ◌^◌, ℕ, List, [], ◌∷◌, length, ap, ◌∙◌, arith}
use Rattle.std.specs.Prelude.{All, sum_by}
use Rattle.std.proofs.lemmas.List.{length-map}
use Rattle.std.proofs.lemmas.List.Elements.{All-head}
use Rattle.pb_norm.specs.Constraints.{Weighted, Constraint}
use Rattle.pb_norm.specs.Reduction.{opposite}
use Rattle.pb_steps.specs.Database.{Database}
use Rattle.pb_derive.specs.Derivations.{Derives}
use Rattle.pb_derive.specs.Later.{IsNumbered, IsUnnamed}
use Rattle.pb_derive.specs.Short.{line_size}
use Rattle.pb_family.specs.Derivations.{MayStart}
use Rattle.pb_base.specs.declared.options.Options.{Options}
use Rattle.pb_choice.specs.Equals.{equality_count, equality_fresh}
use Rattle.pb_choice.specs.EqualitySteps.{equality_steps}
use Rattle.pb_choice.specs.Readiness.{LeavesIds}
use Rattle.pb_choice.specs.EqualityLaws.{IsModestEquality}
use Rattle.pb_choice.proofs.EqualityDerived.{equalities_derive}
use Rattle.pb_choice.proofs.EqualitySizes.{equalities_brief, equalities_few, equalities_sayable}
use Rattle.pb_encode.specs.declared.groups.Group.{Group}
use Rattle.pb_encode.specs.Groups.{group_clauses, group_count, group_fresh, group_size, group_steps, members}
use Rattle.pb_encode.specs.declared.groups.Group.TheVariants.{Alone, Paired}
use Rattle.pb_encode.proofs.ChoiceLaws.{HasFewTerms, IsLight, IsSaid, bytes_few, constraint-derives, constraint-few, constraint-said, light_below, light_original, modest}
use Rattle.pb_encode.proofs.GroupLists.{AreBoth, OfGroup}
use Rattle.pb_encode.proofs.LoadedDatabases.{Stand}
use Rattle.pb_encode.proofs.StepPositions.{leaves_next}

abbrev pub IsGroupLight : Options → ℕ → Group → Type 0
IsGroupLight o n g = OfGroup (IsLight o n) g

-- the constraints stand under neighbouring ids, and the fresh variables are new
pub record IsGroupStart (o : Options) (first id : ℕ) (g : Group) (db : Database) : Type 0 where
  pub original : db.original < first
  pub vars : first + group_fresh o g ≤ db.vars + 1
  pub numbered : IsNumbered db
  pub stands : Stand db.live id (members g)
  pub unnamed : (v : ℕ) → first ≤ v → v < first + group_fresh o g → IsUnnamed v db

both_modest : (o : Options) (n : ℕ) (c d : Constraint) → AreBoth (IsLight o n) c d → IsModestEquality c d
both_modest o n c d light = record { lower_modest = modest o n c light.lower; upper_modest = modest o n d light.upper; halves = light.halves }

pub group-derives : (o : Options) (n first id : ℕ) (g : Group) (db : Database) → IsGroupLight o n g → n ≤ first → IsGroupStart o first id g db
    → Derives db (group_steps o g first id db.next) (group_clauses o g first) (first + group_fresh o g)
group-derives o n first id (Alone c) db light le start = constraint-derives o n first id c db light le (record {
  original = start.original;
  vars = start.vars;
  numbered = start.numbered;
  stands = start.stands.0;
  unnamed = start.unnamed;
})
group-derives o n first id (Paired c d) db light le start =
    equalities_derive o c d first id (id + 1) db (both_modest o n c d light) (light_below o n first c le light.lower)
    (record { original = start.original; vars = start.vars; numbered = start.numbered; stands = start.stands.0; unnamed = start.unnamed })
    (record { original = start.original; vars = start.vars; numbered = start.numbered; stands = start.stands.1.0; unnamed = start.unnamed })

pub group-few : (o : Options) (n : ℕ) (g : Group) (first id next : ℕ) → IsGroupLight o n g → length (group_steps o g first id next) ≤ 8 * (group_fresh o g + group_count o g) + 4 * group_size g
group-few o n (Alone c) first id next light = omega (arith, constraint-few o n c first id next light)
group-few o n (Paired c d) first id next light = omega (arith, equalities_few o c d first id (id + 1) next (both_modest o n c d light))

-- how many terms there are
abbrev pub term_total : List Constraint → ℕ
term_total cs = sum_by (λ (c : Constraint). length c.terms) cs

-- the second half has as many terms as the first
as_long : (o : Options) (n : ℕ) (c d : Constraint) → AreBoth (IsLight o n) c d → length d.terms ≡ length c.terms
as_long o n c d light = ap (λ (ts : List Weighted). length ts) light.halves.turned ∙ length-map c.terms opposite

pub group-said : (o : Options) (most n first id next : ℕ) (g : Group) → IsGroupLight o n g → All (HasFewTerms most) (members g) → n ≤ first → 1 ≤ first → first + group_fresh o g ≤ 2 ^ 31 → group_count o g ≤ 2 ^ 56 → 1 ≤ id → id + group_size g ≤ next → LeavesIds (group_steps o g first id) next
    → IsSaid most (term_total (members g)) (group_size g) (group_fresh o g) (group_count o g) (group_steps o g first id next)
group-said o most n first id next (Alone c) light short le low fits counted given known few =
    let said = constraint-said o most n first id next c light (All-head (HasFewTerms most) c [] short) le low fits counted given (omega (arith, known)) (leaves_next (group_steps o (Alone c) first id) next few) in
    let all = said.all in
    record { sayable = said.sayable; each = said.each; all = omega (arith, all) }
group-said o most n first id next (Paired c d) light short le low fits counted given known few =
    let both = both_modest o n c d light in
    let original = light_original o n first c le light.lower in
    let soon = leaves_next (equality_steps o c d first id (id + 1)) next few in
    let lower_start : MayStart first (equality_fresh o c d) id next = record { low = low; fits = fits; given = given; known = omega (arith, known); few = omega (arith, soon) } in
    let upper_start : MayStart first (equality_fresh o c d) (id + 1) next = record { low = low; fits = fits; given = omega arith; known = omega (arith, known); few = omega (arith, soon) } in
    let brief = equalities_brief o c d first id (id + 1) next both counted original lower_start upper_start few (omega (arith, light.lower.few)) in
    let bytes = bytes_few most (length c.terms) 2 (equality_fresh o c d) (2 ^ 20 * (equality_fresh o c d + equality_count o c d + 8)) (sum_by line_size (equality_steps o c d first id (id + 1) next)) (All-head (HasFewTerms most) c (d ∷ []) short) brief.all in
    record {
      sayable = equalities_sayable o c d first id (id + 1) next both counted original lower_start upper_start few;
      each = brief.each;
      all = omega (arith, bytes, as_long o n c d light);
    }
