-- Lists to which what is made of one item after another is appended.
use Rattle.std.proofs.Common.{◌≡◌, ◌<◌, ◌≤◌, ◌+◌, ◌-◌, ◌∙◌, ◌++◌, ◌∷◌, [], ℕ, Bool, true, false, if◌then◌else◌, List, append_assoc, ap, arith, get_or, length, map, refl, sym, take, drop}
use Rattle.std.specs.List.{flat_map}
use Rattle.std.proofs.lemmas.List.{flat_map_more, map_push, take_more, take_all, drop_more}
use Rattle.pb_base.specs.declared.literal.Lit.{Lit}
use Rattle.pb_base.specs.declared.literal.Term.{Term}
use Rattle.pb_base.specs.Literals.{is_among}
use Rattle.pb_norm.specs.BoundedSums.{vars_of}
use Rattle.pb_norm.specs.Constraints.{weights}
use Rattle.pb_steps.specs.declared.op.PolOp.TheVariants.{Push}
use Rattle.pb_derive.specs.Justifications.{adding, push_and_add}
use Rattle.pb_norm.specs.ClauseForm.{one_of, distinct}

-- what is made of the next item
pub flat_next : {X Y : Type 0} (f : X → List Y) (xs : List X) (i : ℕ) (x d : X) (start made next : List Y) → i < length xs → x ≡ get_or xs i d → made ≡ start ++ flat_map f (take i xs) → next ≡ made ++ f x
    → next ≡ start ++ flat_map f (take (i + 1) xs)
flat_next {X} {Y} f xs i x d start made next within is so_far added =
    let more = take_more xs i d within ∙ ap (λ (y : X). take i xs ++ y ∷ []) (sym is) in
    added ∙ ap (λ (ys : List Y). ys ++ f x) so_far ∙ flat_map_more f start (take i xs) x ∙ ap (λ (zs : List X). start ++ flat_map f zs) (sym more)

pub flat_last : {X Y : Type 0} (f : X → List Y) (xs : List X) (i : ℕ) (start made : List Y) → length xs ≤ i → made ≡ start ++ flat_map f (take i xs) → made ≡ start ++ flat_map f xs
flat_last {X} f xs i start made all so_far = so_far ∙ ap (λ (zs : List X). start ++ flat_map f zs) (take_all i xs all)

pub map_next : {X Y : Type 0} (f : X → Y) (xs : List X) (i : ℕ) (x : X) (start made next : List Y) (y : Y) → i < length xs → x ≡ get_or xs i x → made ≡ start ++ map f (take i xs) → next ≡ made ++ y ∷ [] → y ≡ f x
    → next ≡ start ++ map f (take (i + 1) xs)
map_next {X} {Y} f xs i x start made next y within is so_far pushed same =
    let more = take_more xs i x within ∙ ap (λ (z : X). take i xs ++ z ∷ []) (sym is) in
    pushed
    ∙ ap (λ (ys : List Y). ys ++ y ∷ []) so_far
    ∙ append_assoc start (map f (take i xs)) (y ∷ [])
    ∙ ap (λ (z : Y). start ++ (map f (take i xs) ++ z ∷ [])) same
    ∙ ap (λ (ys : List Y). start ++ ys) (sym (ap (map f) more ∙ map_push f (take i xs) x))

pub map_last : {X Y : Type 0} (f : X → Y) (xs : List X) (i : ℕ) (start made : List Y) → length xs ≤ i → made ≡ start ++ map f (take i xs) → made ≡ start ++ map f xs
map_last {X} f xs i start made all so_far = so_far ∙ ap (λ (zs : List X). start ++ map f zs) (take_all i xs all)

-- of the variables of terms
pub vars_mapped : {Y : Type 0} (f : ℕ → Y) (ts : List Term) → map (λ (t : Term). f t.lit.var) ts ≡ map f (vars_of (weights ts))
vars_mapped f [] = refl
vars_mapped {Y} f (t ∷ ts) = ap (λ (ys : List Y). f t.lit.var ∷ ys) (vars_mapped f ts)

-- of the sum of constraints
pub added_behind : (ids : List ℕ) → 1 ≤ length ids → Push (get_or ids 0 0) ∷ flat_map push_and_add (take (length ids - 1) (drop 1 ids)) ≡ adding ids
added_behind [] some = absurd (omega arith)
added_behind (id ∷ ids) some = ap (λ (is : List ℕ). Push id ∷ flat_map push_and_add is) (take_all (length (id ∷ ids) - 1) ids (omega arith))

-- ---- each literal once, by where it stands last

abbrev ones : List Lit → List Term
ones ls = map one_of (distinct ls)

module _ (ls : List Lit) (i : ℕ) (l : Lit) (made next all : List Term) (within : i < length ls) (is : l ≡ get_or ls i l) (so_far : made ++ ones (drop i ls) ≡ all) where
  here : drop i ls ≡ l ∷ drop (i + 1) ls
  here = drop_more ls i l within ∙ ap (λ (k : Lit). k ∷ drop (i + 1) ls) (sym is)

  before : (b : Bool) → is_among (drop (i + 1) ls) l ≡ b → made ++ map one_of (if b then distinct (drop (i + 1) ls) else l ∷ distinct (drop (i + 1) ls)) ≡ all
  before b among = ap (λ (c : Bool). made ++ map one_of (if c then distinct (drop (i + 1) ls) else l ∷ distinct (drop (i + 1) ls))) (sym among) ∙ ap (λ (ks : List Lit). made ++ ones ks) (sym here) ∙ so_far

  pub once_pushed : is_among (drop (i + 1) ls) l ≡ false → next ≡ made ++ one_of l ∷ [] → next ++ ones (drop (i + 1) ls) ≡ all
  once_pushed among pushed = ap (λ (ts : List Term). ts ++ ones (drop (i + 1) ls)) pushed ∙ append_assoc made (one_of l ∷ []) (ones (drop (i + 1) ls)) ∙ before false among

  pub once_passed : is_among (drop (i + 1) ls) l ≡ true → next ≡ made → next ++ ones (drop (i + 1) ls) ≡ all
  once_passed among kept = ap (λ (ts : List Term). ts ++ ones (drop (i + 1) ls)) kept ∙ before true among
