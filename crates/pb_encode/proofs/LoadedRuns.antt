-- The derivations of groups run one after another.
use Rattle.std.proofs.Common.{◌≡◌, ◌≤◌, ◌<◌, ◌+◌, ◌*◌, ◌^◌, ◌++◌, ℕ, List, [], ◌∷◌, length, refl, ap, subst, ◌∙◌, arith, length-append}
use Rattle.std.proofs.Math.Nat.{add-mul}
use Rattle.std.specs.Prelude.{All, sum_by}
use Rattle.std.proofs.lemmas.List.Elements.{All-nil, All-head, All-tail, All-append}
use Rattle.std.proofs.lemmas.List.Sums.{sum_by-append, sum_by-cons}
use Rattle.pb_base.specs.declared.literal.Lit.{Lit}
use Rattle.pb_base.proofs.Members.{All-append_both}
use Rattle.pb_norm.specs.Constraints.{Constraint}
use Rattle.pb_steps.specs.declared.step.Step.{Step}
use Rattle.pb_steps.specs.Database.{Database}
use Rattle.pb_steps.specs.Runs.{Runs}
use Rattle.pb_steps.specs.Sayable.{IsSayable}
use Rattle.pb_derive.specs.Later.{IsNumbered, IsUnnamed}
use Rattle.pb_derive.specs.Short.{line_size}
use Rattle.pb_derive.proofs.FollowedBy.{runs_next}
use Rattle.pb_derive.proofs.Running.{runs_append}
use Rattle.pb_base.specs.declared.options.Options.{Options}
use Rattle.pb_choice.specs.Readiness.{LeavesIds}
use Rattle.pb_encode.specs.Clauses.{clauses_from, clause_total, fresh_total}
use Rattle.pb_encode.specs.declared.groups.Group.{Group}
use Rattle.pb_encode.specs.Groups.{all_members, group_clauses, group_count, group_fresh, group_size, group_steps, members, size_total}
use Rattle.pb_encode.specs.Steps.{steps_from}
use Rattle.pb_encode.proofs.ChoiceLaws.{HasFewTerms}
use Rattle.pb_encode.proofs.GroupDerivations.{IsGroupLight, group-derives, group-few, group-said, term_total}
use Rattle.pb_encode.proofs.GroupLists.{size-members}
use Rattle.pb_encode.proofs.LoadedDatabases.{Stand, stand_first, stand_later, stand_rest}
use Rattle.pb_encode.proofs.StepPositions.{ids_in, ids-append}

-- the constraints stand under neighbouring ids, and variables from a number on are new
pub record IsStartOfAll (o : Options) (first id : ℕ) (gs : List Group) (db : Database) : Type 0 where
  pub original : db.original < first
  pub vars : first + fresh_total o gs ≤ db.vars + 1
  pub numbered : IsNumbered db
  pub stands : Stand db.live id (all_members gs)
  pub known : id + size_total gs ≤ db.next
  pub unnamed : (v : ℕ) → first ≤ v → IsUnnamed v db

-- what stands where all have run: variables behind theirs are still new
pub record IsEndOfAll (o : Options) (first : ℕ) (gs : List Group) (db end : Database) : Type 0 where
  pub original : end.original ≡ db.original
  pub vars : end.vars ≡ db.vars
  pub numbered : IsNumbered end
  pub unnamed : (v : ℕ) → first + fresh_total o gs ≤ v → IsUnnamed v end

fresh-cons : (o : Options) (g : Group) (gs : List Group) → fresh_total o (g ∷ gs) ≡ group_fresh o g + fresh_total o gs
fresh-cons o g gs = sum_by-cons (group_fresh o) g gs

count-cons : (o : Options) (g : Group) (gs : List Group) → clause_total o (g ∷ gs) ≡ group_count o g + clause_total o gs
count-cons o g gs = sum_by-cons (group_count o) g gs

size-cons : (g : Group) (gs : List Group) → size_total (g ∷ gs) ≡ group_size g + size_total gs
size-cons g gs = sum_by-cons group_size g gs

pub all-run : (o : Options) (n first id : ℕ) (gs : List Group) (db : Database) → n ≤ first → All (IsGroupLight o n) gs → IsStartOfAll o first id gs db → (end : Database) × Runs db (steps_from o first id gs db.next) (clauses_from o first gs) end × IsEndOfAll o first gs db end
all-run o n first id [] db le light start = (
  db,
  (refl, refl),
  record { original = refl; vars = refl; numbered = start.numbered; unnamed = λ v low. start.unnamed v (omega (arith, low)) },
)
all-run o n first id (g ∷ gs) db le light start =
    let steps : List Step = group_steps o g first id db.next in
    let clauses : List (List Lit) = group_clauses o g first in
    let later_first : ℕ = first + group_fresh o g in
    let later_id : ℕ = id + group_size g in
    let sizes = size-cons g gs in
    let own = group-derives o n first id g db (All-head (IsGroupLight o n) g gs light) le (record {
      original = start.original;
      vars = omega (arith, start.vars, fresh-cons o g gs);
      numbered = start.numbered;
      stands = stand_first db.live id (members g) (all_members gs) start.stands;
      unnamed = λ v low high. start.unnamed v low;
    }) in
    let mid : Database = own.end in
    let rest = all-run o n later_first later_id gs mid (omega (arith, le)) (All-tail (IsGroupLight o n) g gs light) (record {
      original = omega (arith, start.original, own.later.original);
      vars = omega (arith, start.vars, own.later.vars, fresh-cons o g gs);
      numbered = own.later.numbered;
      stands = stand_later (λ v. v < later_first) db mid later_id (all_members gs) own.later (omega (arith, start.known, sizes, size-members gs)) (stand_rest db.live id (members g) (all_members gs) start.stands);
      known = omega (arith, start.known, sizes, own.later.next);
      unnamed = λ v low. own.later.unnamed v (λ below. omega (arith, low, below)) (start.unnamed v (omega (arith, low)));
    }) in (
      rest.0,
      subst (λ (m : ℕ). Runs db (steps ++ steps_from o later_first later_id gs m) (clauses ++ clauses_from o later_first gs) rest.0) (runs_next db steps clauses mid own.runs)
          (runs_append db mid rest.0 steps (steps_from o later_first later_id gs mid.next) clauses (clauses_from o later_first gs) own.runs rest.1),
      record {
        original = omega (arith, rest.2.original, own.later.original);
        vars = omega (arith, rest.2.vars, own.later.vars);
        numbered = rest.2.numbered;
        unnamed = λ v low. rest.2.unnamed v (omega (arith, low, fresh-cons o g gs));
      },
    )

pub all-few : (o : Options) (n first id : ℕ) (gs : List Group) (next : ℕ) → All (IsGroupLight o n) gs → length (steps_from o first id gs next) ≤ 8 * (fresh_total o gs + clause_total o gs) + 4 * size_total gs
all-few o n first id [] next light = omega arith
all-few o n first id (g ∷ gs) next light =
    let steps : List Step = group_steps o g first id next in
    let after : ℕ = next + ids_in steps in
    omega (
      arith,
      length-append steps (steps_from o (first + group_fresh o g) (id + group_size g) gs after),
      group-few o n g first id next (All-head (IsGroupLight o n) g gs light),
      all-few o n (first + group_fresh o g) (id + group_size g) gs after (All-tail (IsGroupLight o n) g gs light),
      fresh-cons o g gs,
      count-cons o g gs,
      size-cons g gs,
    )

-- the lines of all, where no constraint has more than `most` terms
pub record AreSaid (o : Options) (most : ℕ) (gs : List Group) (steps : List Step) : Type 0 where
  pub sayable : All IsSayable steps
  pub each : All (λ s. line_size s ≤ 2 ^ 28) steps
  pub all : sum_by line_size steps ≤ 512 * (fresh_total o gs * most) + 512 * term_total (all_members gs) + 2 ^ 20 * (fresh_total o gs + clause_total o gs + 4 * size_total gs)

terms-cons : (g : Group) (gs : List Group) → term_total (all_members (g ∷ gs)) ≡ term_total (members g) + term_total (all_members gs)
terms-cons g gs = sum_by-append (λ (c : Constraint). length c.terms) (members g) (all_members gs)

pub all-said : (o : Options) (most n first id : ℕ) (gs : List Group) (next : ℕ) → All (IsGroupLight o n) gs → All (HasFewTerms most) (all_members gs) → n ≤ first → 1 ≤ first → first + fresh_total o gs ≤ 2 ^ 31 → clause_total o gs ≤ 2 ^ 56 → 1 ≤ id → id + size_total gs ≤ next → LeavesIds (steps_from o first id gs) next
    → AreSaid o most gs (steps_from o first id gs next)
all-said o most n first id [] next light short le low fits counted given known few = record { sayable = All-nil IsSayable; each = All-nil (λ (s : Step). line_size s ≤ 2 ^ 28); all = omega arith }
all-said o most n first id (g ∷ gs) next light short le low fits counted given known few =
    let steps : List Step = group_steps o g first id next in
    let after : ℕ = next + ids_in steps in
    let later_first : ℕ = first + group_fresh o g in
    let later_id : ℕ = id + group_size g in
    let more : List Step = steps_from o later_first later_id gs after in
    let ids = ids-append steps more in
    let sizes = size-cons g gs in
    let shorts = All-append_both (HasFewTerms most) (members g) (all_members gs) short in
    let parts : fresh_total o (g ∷ gs) * most ≡ group_fresh o g * most + fresh_total o gs * most = ap (λ (k : ℕ). k * most) (fresh-cons o g gs) ∙ add-mul (group_fresh o g) (fresh_total o gs) most in
    let own = group-said o most n first id next g (All-head (IsGroupLight o n) g gs light) shorts.0 le low (omega (arith, fits, fresh-cons o g gs)) (omega (arith, counted, count-cons o g gs)) given (omega (arith, known, sizes)) (omega (arith, few, ids)) in
    let rest = all-said o most n later_first later_id gs after (All-tail (IsGroupLight o n) g gs light) shorts.1 (omega (arith, le)) (omega (arith, low)) (omega (arith, fits, fresh-cons o g gs)) (omega (arith, counted, count-cons o g gs)) (omega (arith, given)) (omega (arith, known, sizes)) (omega (arith, few, ids)) in
    record {
      sayable = All-append IsSayable steps more own.sayable rest.sayable;
      each = All-append (λ (s : Step). line_size s ≤ 2 ^ 28) steps more own.each rest.each;
      all = omega (arith, sum_by-append line_size steps more, own.all, rest.all, parts, fresh-cons o g gs, count-cons o g gs, terms-cons g gs, sizes);
    }
