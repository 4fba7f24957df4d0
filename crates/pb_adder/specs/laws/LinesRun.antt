-- The lines of blocks of adders run, and lead the running sum along.
use Rattle.std.proofs.Common.{◌≡◌, ◌≤◌, ◌<◌, ◌+◌, ◌*◌, ◌^◌, ℕ, zero, suc, Bool, true, List, [], ◌∷◌, ◌++◌, arith, refl, ap, sym, ◌∙◌, subst, length, take, drop, append-nil}
use Rattle.std.specs.Prelude.{All, map, Option, Some, None, is_some, IsTrue}
use Rattle.std.proofs.lemmas.List.{length-map, length-take, length-drop, take-append-drop, take-map, drop-map}
use Rattle.std.proofs.lemmas.List.Elements.{All-nil, All-cons, All-append}
use Rattle.std.proofs.lemmas.List.Sums.{sum_by-cons}
use Rattle.pb_base.specs.declared.literal.Lit.{Lit}
use Rattle.pb_base.specs.Literals.{Assignment, lit_value}
use Rattle.pb_norm.specs.Constraints.{Constraint}
use Rattle.pb_norm.specs.Addition.{sum_of}
use Rattle.pb_norm.proofs.Variables.{joined-vars}
use Rattle.pb_steps.specs.declared.op.PolOp.{PolOp}
use Rattle.pb_steps.specs.declared.op.PolOp.TheVariants.{Push, Add}
use Rattle.pb_steps.specs.declared.step.Step.{Step}
use Rattle.pb_steps.specs.declared.step.Step.TheVariants.{Pol}
use Rattle.pb_steps.specs.Allowed.{Allowed}
use Rattle.pb_steps.specs.Steps.{takes_id, ids_of_op, vars_of_op}
use Rattle.pb_steps.specs.Database.{Database, constraint_at, IsLive, grown}
use Rattle.pb_steps.specs.Runs.{Runs}
use Rattle.pb_steps.specs.Stacks.{after_ops, is_stacked, leaves_one}
use Rattle.pb_derive.specs.Claims.{Claim, claim_steps}
use Rattle.pb_derive.specs.Deletions.{deletion_steps}
use Rattle.pb_derive.specs.inner.Ran.{IsClaim, Ran, RanSwept}
use Rattle.pb_derive.specs.Later.{IsNumbered, IsLater}
use Rattle.pb_derive.specs.inner.Meant.{AreMeant}
use Rattle.pb_derive.proofs.Laters.{at_grown, later_same, later_grown}
use Rattle.pb_derive.proofs.Carried.{IsCarried, carried_first, carried_on, carried_ends}
use Rattle.pb_derive.proofs.Held.{AreAdding}
use Rattle.pb_derive.proofs.Meant.{meant_all}
use Rattle.pb_derive.proofs.Reasoned.{All-flat_map}
use Rattle.pb_derive.proofs.Running.{runs_append, claims_ran}
use Rattle.pb_derive.proofs.Stacked.{after_step, push_step}
use Rattle.pb_adder.specs.AdderSteps.{tree_ops, blocks_within, blocks, sum_ops, later_sums, sum_steps, last_sum, last_deletion}
use Rattle.pb_adder.specs.LeveledGates.{Leveled}
use Rattle.pb_adder.specs.laws.RunningSteps.{balanced_both, running_small}
use Rattle.pb_adder.specs.inner.RunningSums.{Sum, IsRunning, StaysUpTo, Chain, taken_by, given_by, taken, given}
use Rattle.pb_adder.specs.laws.TreeOps.{MakesFresh, IsLaid, Leaves, levels_in, reifications_of, meant_behind, laid_parts, taken_less, tree_leaves, IsReady, push_ready, add_ready, height_push}

-- ---- what does not change from line to line

pub record IsSetting (first bound m : ℕ) (a : Assignment) : Type 0 where
  pub fresh : MakesFresh first a
  pub fits : m < 2 ^ 126

-- the constraint with an id keeps a sum within the bound
pub record IsAcc (P : ℕ → Type 0) (db : Database) (id bound : ℕ) (sum : Sum) : Type 0 where
  pub constraint : Constraint
  pub at : constraint_at db.live id ≡ Some constraint
  pub running : IsRunning bound sum constraint
  pub named : All (λ t. P t.lit.var) constraint.terms

-- ---- the sum after a block

-- what the adders take from the sum, and give
pub chain_total : (first m : ℕ) (before : Sum) (xs : List Leveled) (after : Sum) → Chain first m before xs after → (p : Lit → Bool) → after p + taken first xs p ≡ before p + given first xs p
chain_total first m before [] after chain p = omega (arith, chain p)
chain_total first m before (x ∷ xs) after chain p =
    let here = chain.1 p in
    let rest = chain_total first m chain.0 xs after chain.3 p in
    omega (arith, here, rest, sum_by-cons (λ (x : Leveled). taken_by first x p) x xs, sum_by-cons (λ (x : Leveled). given_by first x p) x xs)

-- the sum between two blocks
pub record ChainParts (first m : ℕ) (before : Sum) (xs ys : List Leveled) (after : Sum) : Type 0 where
  pub between : Sum
  pub front : Chain first m before xs between
  pub up : StaysUpTo m between
  pub back : Chain first m between ys after

pub chain_parts : (first m : ℕ) (before : Sum) (xs ys : List Leveled) (after : Sum) → StaysUpTo m before → Chain first m before (xs ++ ys) after → ChainParts first m before xs ys after
chain_parts first m before [] ys after low chain = record { between = before; front = λ p. refl; up = low; back = chain }
chain_parts first m before (x ∷ xs) ys after low chain =
    let rest = chain_parts first m chain.0 xs ys after chain.2 chain.3 in
    record { between = rest.between; front = (chain.0, chain.1, chain.2, rest.front); up = rest.up; back = rest.back }

-- what rules ask of all operations
ready_allowed : (db : Database) (clause : Option (List Lit)) (ops : List PolOp) (made : Constraint) → All (IsReady db) ops → IsTrue (is_stacked ops) → after_ops db.live ops [] ≡ Some (made ∷ []) → Allowed db (Pol ops) clause (grown db made)
ready_allowed db clause ops made ready stacked result = record {
  vars = All-flat_map (λ v. v ≤ db.vars) vars_of_op ops (λ k d h. (ready k d h).vars);
  ids = All-flat_map (IsLive db.live) ids_of_op ops (λ k d h. (ready k d h).ids);
  rule = record { factors = λ k d h. (ready k d h).factor; stacked = stacked; sum = made; result = result; after = refl };
}

-- one block is added
pub record LineRan (P : ℕ → Type 0) (db : Database) (id running bound : ℕ) (xs : List Leveled) (between : Sum) : Type 0 where
  pub ran : Ran P db (Pol (sum_ops id (levels_in xs) running) ∷ []) [] 1
  pub acc : IsAcc P ran.end db.next bound between

line_ran : (P : ℕ → Type 0) (db : Database) (first bound m : ℕ) (a : Assignment) (id running : ℕ) (xs : List Leveled) (before between : Sum) → IsSetting first bound m a → IsNumbered db → 1 ≤ length xs → length xs ≤ 2 ^ 16
    → AreMeant db id (reifications_of first xs) → All (IsLaid P first) xs → IsAcc P db running bound before → Chain first m before xs between → StaysUpTo m before → StaysUpTo m between → bound ≤ before (lit_value a)
    → LineRan P db id running bound xs between
line_ran P db first bound m a id running xs before between setting numbered some few meant laid acc chain low high full =
    let tree : Leaves P db first 16 xs (tree_ops 16 id (levels_in xs)) = tree_leaves P db first a setting.fresh 16 id xs some few few meant laid in
    let ops : List PolOp = tree_ops 16 id (levels_in xs) in
    let old : Constraint = acc.constraint in
    let all : Constraint = tree.sum in
    let made : Constraint = sum_of all old in
    let total = chain_total first m before xs between chain in
    let both = balanced_both (taken first xs) (given first xs) (λ p. bound) before all old a tree.balanced acc.running (omega (arith, taken_less first xs a setting.fresh, full)) in
    let run : IsRunning bound between made = record { positive = both.positive; ascending = both.ascending; exact = λ a. omega (arith, both.exact a, total (lit_value a)) } in
    let old_small = running_small bound m before old acc.running low in
    let new_small = running_small bound m between made run high in
    let fits = setting.fits in
    let result : after_ops db.live (sum_ops id (levels_in xs) running) [] ≡ Some (made ∷ []) =
    tree.after (Push running ∷ Add ∷ []) []
    ∙ push_step db.live running (Add ∷ []) (all ∷ []) old acc.at (omega (arith, old_small, fits)) (omega (arith, old_small, fits))
    ∙ after_step db.live Add [] (old ∷ all ∷ []) made [] refl (omega (arith, new_small, fits)) (omega (arith, new_small, fits)) in
    let stacked : IsTrue (is_stacked (sum_ops id (levels_in xs) running)) =
    ap leaves_one (tree.height 0 (Push running ∷ Add ∷ []) (omega arith) ∙ height_push 1 running (Add ∷ []) (omega arith)) in
    let ready = All-append (IsReady db) ops (Push running ∷ Add ∷ []) tree.ready (All-cons (IsReady db) (Push running) (Add ∷ []) (push_ready db running (ap is_some acc.at)) (All-cons (IsReady db) Add [] (add_ready db) (All-nil (IsReady db)))) in
    let allowed = ready_allowed db None (sum_ops id (levels_in xs) running) made ready stacked result in
    let named : All (λ t. P t.lit.var) made.terms = joined-vars P all.terms old.terms tree.named acc.named in
    record {
      ran = record { end = grown db made; runs = (grown db made, allowed, (refl, refl)); later = later_grown P db made numbered named; next = refl };
      acc = record { constraint = made; at = at_grown db made numbered; running = run; named = named };
    }

-- ---- all lines

line_adds : (ops : List PolOp) → AreAdding (Pol ops ∷ [])
line_adds ops = All-cons (λ (s : Step). takes_id s ≡ true) (Pol ops) [] refl (All-nil (λ (s : Step). takes_id s ≡ true))

-- the sums so far, of which the last one is left
pub record SumsRan (P : ℕ → Type 0) (base db : Database) (steps : List Step) (bound last ids : ℕ) (after : Sum) : Type 1 where
  pub end : Database
  pub runs : Runs db steps [] end
  pub next : end.next ≡ db.next + ids
  pub acc : IsAcc P end last bound after
  pub carried : IsCarried P base end last

same_sum : (P : ℕ → Type 0) (db : Database) (id bound : ℕ) (before after : Sum) → ((p : Lit → Bool) → before p ≡ after p) → IsAcc P db id bound before → IsAcc P db id bound after
same_sum P db id bound before after same acc = record {
  constraint = acc.constraint;
  at = acc.at;
  running = record { positive = acc.running.positive; ascending = acc.running.ascending; exact = λ a. omega (arith, acc.running.exact a, same (lit_value a)) };
  named = acc.named;
}

-- the first block of some adders, and what is behind it
pub record Split (xs : List Leveled) (more : ℕ) : Type 0 where
  pub front : List Leveled
  pub back : List Leveled
  pub whole : front ++ back ≡ xs
  pub some : 1 ≤ length front
  pub few : length front ≤ 2 ^ 16
  pub left : length back ≤ more
  pub parts : blocks_within 16 (suc more) (levels_in xs) ≡ levels_in front ∷ blocks_within 16 more (levels_in back)
  pub is_front : take (2 ^ 16) xs ≡ front
  pub is_back : drop (2 ^ 16) xs ≡ back

split_first : (n more : ℕ) (x : Leveled) (xs : List Leveled) → 1 ≤ 2 ^ n → length (x ∷ xs) ≤ suc more → 2 ^ n ≤ 2 ^ 16 → n ≡ 16 → Split (x ∷ xs) more
unfolding blocks_within
split_first n more x xs from enough most sixteen =
    let k = 2 ^ n in
    let all = x ∷ xs in
    let size : length (take k all) ≤ k = omega (arith, length-take k all) in
    record {
      front = take k all;
      back = drop k all;
      whole = take-append-drop k all;
      some = omega (arith, length-take k all, from);
      few = omega (arith, size, most);
      left = omega (arith, length-drop k all, enough, from);
      parts = subst (λ (m : ℕ). blocks_within m (suc more) (levels_in all) ≡ levels_in (take k all) ∷ blocks_within m more (levels_in (drop k all))) sixteen
          (λ i. take-map (λ (x : Leveled). x.level) k all i ∷ blocks_within n more (drop-map (λ (x : Leveled). x.level) k all i));
      is_front = ap (λ (m : ℕ). take (2 ^ m) all) (sym sixteen);
      is_back = ap (λ (m : ℕ). drop (2 ^ m) all) (sym sixteen);
    }

split : (more : ℕ) (x : Leveled) (xs : List Leveled) → length (x ∷ xs) ≤ suc more → Split (x ∷ xs) more
split more x xs enough = split_first 16 more x xs (omega arith) enough (omega arith) refl

none_left : (n more : ℕ) → blocks_within n more [] ≡ []
unfolding blocks_within
none_left n zero = refl
none_left n (suc more) = refl

module _ (P : ℕ → Type 0) (base : Database) (first bound m : ℕ) (a : Assignment) (setting : IsSetting first bound m a) (numbered : IsNumbered base) where
  -- the adders of a block, and those behind it
  record Block (db : Database) (id running : ℕ) (before : Sum) (xs : List Leveled) (after : Sum) (more : ℕ) : Type 0 where
    pub split : Split xs more
    pub chain : ChainParts first m before split.front split.back after
    pub ran : LineRan P db id running bound split.front chain.between
    pub full : bound ≤ chain.between (lit_value a)
    pub meant : AreMeant base (id + 4 * length (levels_in split.front)) (reifications_of first split.back)
    pub laid : All (IsLaid P first) split.back

  block_ran : (db : Database) (id running : ℕ) (x : Leveled) (xs : List Leveled) (before after : Sum) (more : ℕ) → length (x ∷ xs) ≤ suc more → IsLater P base db → AreMeant base id (reifications_of first (x ∷ xs)) → All (IsLaid P first) (x ∷ xs)
      → IsAcc P db running bound before → Chain first m before (x ∷ xs) after → StaysUpTo m before → bound ≤ before (lit_value a) → Block db id running before (x ∷ xs) after more
  block_ran db id running x xs before after more enough later meant laid acc chain low full =
      let parted : Split (x ∷ xs) more = split more x xs enough in
      let front : List Leveled = parted.front in
      let back : List Leveled = parted.back in
      let links : ChainParts first m before front back after = chain_parts first m before front back after low (subst (λ (ys : List Leveled). Chain first m before ys after) (sym parted.whole) chain) in
      let met = meant_behind base first id front back (subst (λ (ys : List Leveled). AreMeant base id (reifications_of first ys)) (sym parted.whole) meant) in
      let laid_all = laid_parts P first (2 ^ 16) (x ∷ xs) laid in
      let laid_front : All (IsLaid P first) front = subst (All (IsLaid P first)) parted.is_front laid_all.0 in
      let total = chain_total first m before front links.between links.front (lit_value a) in
      let size : length front ≡ length (levels_in front) = sym (length-map front (λ (x : Leveled). x.level)) in
      record {
        split = parted;
        chain = links;
        ran = line_ran P db first bound m a id running front before links.between setting later.numbered parted.some parted.few (meant_all P base db id (reifications_of first front) later numbered met.0) laid_front acc links.front low links.up full;
        full = omega (arith, total, taken_less first front a setting.fresh, full);
        meant = subst (λ (n : ℕ). AreMeant base (id + 4 * n) (reifications_of first back)) size met.1;
        laid = subst (All (IsLaid P first)) parted.is_back laid_all.1;
      }

  later_ran : (more : ℕ) (db : Database) (id running : ℕ) (xs : List Leveled) (before after : Sum) → length xs ≤ more → AreMeant base id (reifications_of first xs) → All (IsLaid P first) xs
      → IsCarried P base db running → IsAcc P db running bound before → Chain first m before xs after → StaysUpTo m before → bound ≤ before (lit_value a)
      → SumsRan P base db (later_sums id running db.next (blocks_within 16 more (levels_in xs))) bound (last_sum running db.next (blocks_within 16 more (levels_in xs))) (length (blocks_within 16 more (levels_in xs))) after
  later_ran more db id running [] before after enough meant laid carried acc chain low full =
      subst (λ (bs : List (List ℕ)). SumsRan P base db (later_sums id running db.next bs) bound (last_sum running db.next bs) (length bs) after) (sym (none_left 16 more))
      (record { end = db; runs = (refl, refl); next = omega arith; acc = same_sum P db running bound before after chain acc; carried = carried })
  later_ran zero db id running (x ∷ xs) before after enough meant laid carried acc chain low full = absurd (omega (arith, enough))
  later_ran (suc more) db id running (x ∷ xs) before after enough meant laid carried acc chain low full =
      let here : Block db id running before (x ∷ xs) after more = block_ran db id running x xs before after more enough carried.later meant laid acc chain low full in
      let front : List ℕ = levels_in here.split.front in
      let back : List (List ℕ) = blocks_within 16 more (levels_in here.split.back) in
      let between : Sum = here.chain.between in
      let next_id = id + 4 * length front in
      let step : Step = Pol (sum_ops id front running) in
      let on = carried_on P base db (step ∷ []) running carried (line_adds (sum_ops id front running)) here.ran.ran in
      let mid : Database = on.end in
      let done = here.ran.acc in
      let now : IsAcc P mid db.next bound between = record { constraint = done.constraint; at = on.same ∙ done.at; running = done.running; named = done.named } in
      let rest = later_ran more mid next_id db.next here.split.back between after here.split.left here.meant here.laid on.carried now here.chain.back here.chain.up here.full in
      let end : Database = rest.end in
      subst (λ (bs : List (List ℕ)). SumsRan P base db (later_sums id running db.next bs) bound (last_sum running db.next bs) (length bs) after) (sym here.split.parts)
      (record {
        end = end;
        runs = subst (λ (k : ℕ). Runs db (step ∷ (deletion_steps 1 running 1 ++ later_sums next_id db.next k back)) [] end) on.next
            (runs_append db mid end (step ∷ deletion_steps 1 running 1) (later_sums next_id db.next mid.next back) [] [] on.runs rest.runs);
        next = omega (arith, on.next, rest.next);
        acc = subst (λ (k : ℕ). IsAcc P end (last_sum db.next k back) bound after) on.next rest.acc;
        carried = subst (λ (k : ℕ). IsCarried P base end (last_sum db.next k back)) on.next rest.carried;
      })

  -- the first sum starts with the constraint itself
  first_ran : (id running : ℕ) (x : Leveled) (xs : List Leveled) (before after : Sum) → AreMeant base id (reifications_of first (x ∷ xs)) → All (IsLaid P first) (x ∷ xs)
      → IsAcc P base running bound before → Chain first m before (x ∷ xs) after → StaysUpTo m before → bound ≤ before (lit_value a)
      → SumsRan P base base (sum_steps id running base.next (blocks (levels_in (x ∷ xs)))) bound (last_sum running base.next (blocks (levels_in (x ∷ xs)))) (length (blocks (levels_in (x ∷ xs)))) after
  first_ran id running x xs before after meant laid acc chain low full =
      let more : ℕ = length (levels_in xs) in
      let size = length-map xs (λ (x : Leveled). x.level) in
      let here : Block base id running before (x ∷ xs) after more = block_ran base id running x xs before after more (omega (arith, size)) (later_same P base numbered) meant laid acc chain low full in
      let front : List ℕ = levels_in here.split.front in
      let back : List (List ℕ) = blocks_within 16 more (levels_in here.split.back) in
      let between : Sum = here.chain.between in
      let next_id = id + 4 * length front in
      let step : Step = Pol (sum_ops id front running) in
      let ran = here.ran.ran in
      let mid : Database = ran.end in
      let carried = carried_first P base (step ∷ []) numbered (line_adds (sum_ops id front running)) ran in
      let rest = later_ran more mid next_id base.next here.split.back between after here.split.left here.meant here.laid carried here.ran.acc here.chain.back here.chain.up here.full in
      let end : Database = rest.end in
      let count : mid.next ≡ base.next + 1 = ran.next in
      subst (λ (bs : List (List ℕ)). SumsRan P base base (sum_steps id running base.next bs) bound (last_sum running base.next bs) (length bs) after) (sym here.split.parts)
      (record {
        end = end;
        runs = subst (λ (k : ℕ). Runs base (step ∷ later_sums next_id base.next k back) [] end) count
            (runs_append base mid end (step ∷ []) (later_sums next_id base.next mid.next back) [] [] ran.runs rest.runs);
        next = omega (arith, count, rest.next);
        acc = subst (λ (k : ℕ). IsAcc P end (last_sum base.next k back) bound after) count rest.acc;
        carried = subst (λ (k : ℕ). IsCarried P base end (last_sum base.next k back)) count rest.carried;
      })

  -- ---- and the clauses, once the last sum stands

  abbrev clauses_in : List Claim → List (List Lit)
  clauses_in cs = map (λ (c : Claim). c.clause) cs

  abbrev proving : ℕ → ℕ → List Leveled → (ℕ → List Claim) → List Step
  proving id running xs claims =
      let levels = levels_in xs in
      let parts = blocks levels in
      let last = last_sum running base.next parts in
      sum_steps id running base.next parts ++ (claim_steps (base.next + length parts) (claims last) ++ last_deletion last levels)

  pub sums_swept : (id running : ℕ) (xs : List Leveled) (before after : Sum) (claims : ℕ → List Claim) → AreMeant base id (reifications_of first xs) → All (IsLaid P first) xs
      → IsAcc P base running bound before → Chain first m before xs after → StaysUpTo m before → bound ≤ before (lit_value a)
      → ((end : Database) (last : ℕ) → IsLater P base end → IsAcc P end last bound after → All (IsClaim P end) (claims last))
      → RanSwept P base (proving id running xs claims) (clauses_in (claims (last_sum running base.next (blocks (levels_in xs))))) (length (blocks (levels_in xs)) + length (claims (last_sum running base.next (blocks (levels_in xs)))))
  sums_swept id running [] before after claims meant laid acc chain low full claimed =
      let cs : List Claim = claims running in
      let ran = claims_ran P base cs numbered (claimed base running (later_same P base numbered) (same_sum P base running bound before after chain acc)) in
      subst (λ (bs : List (List ℕ)). RanSwept P base (sum_steps id running base.next bs ++ (claim_steps (base.next + length bs) (claims (last_sum running base.next bs)) ++ []))
      (clauses_in (claims (last_sum running base.next bs))) (length bs + length (claims (last_sum running base.next bs)))) (sym (none_left 16 0))
      (subst (λ (ss : List Step). RanSwept P base ss (clauses_in cs) (0 + length cs)) (sym (append-nil (claim_steps (base.next + 0) cs)))
      (subst (λ (k : ℕ). RanSwept P base (claim_steps k cs) (clauses_in cs) (0 + length cs)) (let e : base.next ≡ base.next + 0 = omega arith in e)
      (subst (λ (n : ℕ). RanSwept P base (claim_steps base.next cs) (clauses_in cs) n) (let e : length cs ≡ 0 + length cs = omega arith in e) ran)))
  sums_swept id running (x ∷ xs) before after claims meant laid acc chain low full claimed =
      let all = first_ran id running x xs before after meant laid acc chain low full in
      let end : Database = all.end in
      let parts : List (List ℕ) = blocks (levels_in (x ∷ xs)) in
      let last : ℕ = last_sum running base.next parts in
      let cs : List Claim = claims last in
      let ran = claims_ran P end cs all.carried.later.numbered (claimed end last all.carried.later all.acc) in
      carried_ends P base end (sum_steps id running base.next parts) (claim_steps (base.next + length parts) cs) (clauses_in cs) (length parts) (length cs) last all.runs all.next all.carried
      (subst (λ (k : ℕ). RanSwept P end (claim_steps k cs) (clauses_in cs) (length cs)) all.next ran)
