-- Places that are taken one after another, as the names have them.
use Rattle.std.proofs.Common.{◌≡◌, ℕ, ◌+◌, ◌<◌, ◌≤◌, List, [], ◌∷◌, ◌++◌, map, length, take, drop, get_or, arith, refl, ap, sym, ◌∙◌, subst, append_assoc, zero, suc}
use Rattle.std.specs.List.{flat_map, position_or_len}
use Rattle.std.specs.Str.{bytes_eq}
use Rattle.std.proofs.lemmas.List.{take_more, flat_map_more}
use Rattle.pb_named.specs.Names.{Name}
use Rattle.pb_named.specs.Names.Name.{free}
use Rattle.pb_named.specs.NamedProblems.{Table, var_of}
use Rattle.pb_named.specs.inner.Numbering.{place_in, StartsWith, Gives}

append-cancel : (xs ys zs : List ℕ) → xs ++ ys ≡ xs ++ zs → ys ≡ zs
append-cancel [] ys zs same = same
append-cancel (x ∷ xs) ys zs same = append-cancel xs ys zs cc

pub flat_map-append : {X Y : Type 0} (g : X → List Y) (xs ys : List X) → flat_map g (xs ++ ys) ≡ flat_map g xs ++ flat_map g ys
flat_map-append g [] ys = refl
flat_map-append {X} {Y} g (x ∷ xs) ys = ap (λ (zs : List Y). g x ++ zs) (flat_map-append g xs ys) ∙ sym (append_assoc (g x) (flat_map g xs) (flat_map g ys))

-- a list about one of its items
pub cut-at : {X : Type 0} (xs : List X) (i : ℕ) (x : X) → i < length xs → x ≡ get_or xs i x → xs ≡ take i xs ++ x ∷ drop (i + 1) xs
cut-at [] i x inside is = absurd (omega arith)
cut-at {X} (y ∷ ys) zero x inside is = ap (λ (z : X). z ∷ ys) (sym is)
cut-at {X} (y ∷ ys) (suc i) x inside is =
    let next : suc (i + 1) ≡ suc i + 1 = omega arith in
    ap (λ (zs : List X). y ∷ zs) (cut-at ys i x (omega arith) is) ∙ ap (λ (n : ℕ). y ∷ (take i ys ++ x ∷ drop n (y ∷ ys))) next

module _ (f : Name → List ℕ) where
  pub gives-more : (ks ls ms : List ℕ) (ns more : List Name) → Gives f ks ns ls → Gives f ls more ms → Gives f ks (ns ++ more) ms
  gives-more ks ls ms ns more first second =
      first ∙ ap (λ (w : List ℕ). flat_map f ns ++ w) second ∙ sym (append_assoc (flat_map f ns) (flat_map f more) ms) ∙ ap (λ (w : List ℕ). w ++ ms) (sym (flat_map-append f ns more))

  pub starts-behind : (ks ls : List ℕ) (ns more : List Name) → StartsWith f ks (ns ++ more) → Gives f ks ns ls → StartsWith f ls more
  starts-behind ks ls ns more (rest, is) gives =
      (rest, append-cancel (flat_map f ns) ls (flat_map f more ++ rest) (sym gives ∙ is ∙ ap (λ (w : List ℕ). w ++ rest) (flat_map-append f ns more) ∙ append_assoc (flat_map f ns) (flat_map f more) rest))

  pub starts-front : (ks : List ℕ) (ns more : List Name) → StartsWith f ks (ns ++ more) → StartsWith f ks ns
  starts-front ks ns more (rest, is) = (flat_map f more ++ rest, is ∙ ap (λ (w : List ℕ). w ++ rest) (flat_map-append f ns more) ∙ append_assoc (flat_map f ns) (flat_map f more) rest)

  -- of the first name alone
  pub starts-first : (ks : List ℕ) (n : Name) (ns : List Name) → StartsWith f ks (n ∷ ns) → StartsWith f ks (n ∷ [])
  starts-first ks n ns starts = starts-front ks (n ∷ []) ns starts

-- ---- the place of a free name

-- the next place is that of a free name
pub record TakesPlace (t : Table) (n : Name) (ks ls : List ℕ) (k : ℕ) : Type 0 where
  pub var : t.numbered + 1 + k ≡ var_of t n
  pub gives : Gives (place_in t) ks (n ∷ []) ls

-- there is one
pub starts-some : (t : Table) (n : Name) (ks : List ℕ) (text : List ℕ) → n ≡ free text → StartsWith (place_in t) ks (n ∷ []) → 1 ≤ length ks
starts-some t n ks text is starts = some (subst (λ (m : Name). StartsWith (place_in t) ks (m ∷ [])) is starts)
  where
    some : StartsWith (place_in t) ks (free text ∷ []) → 1 ≤ length ks
    some (rest, begins) = omega (arith, ap length begins)

pub takes-place : (t : Table) (n : Name) (ks ls : List ℕ) (k : ℕ) (text : List ℕ) → n ≡ free text → StartsWith (place_in t) ks (n ∷ []) → ks ≡ k ∷ ls → TakesPlace t n ks ls k
takes-place t n ks ls k text is starts next =
    subst (λ (m : Name). TakesPlace t m ks ls k) (sym is) (takes (subst (λ (m : Name). StartsWith (place_in t) ks (m ∷ [])) is starts))
  where
    takes : StartsWith (place_in t) ks (free text ∷ []) → TakesPlace t (free text) ks ls k
    takes (rest, begins) =
        let both : k ∷ ls ≡ position_or_len (bytes_eq text) t.names ∷ rest = sym next ∙ begins in
        let own : k ≡ position_or_len (bytes_eq text) t.names = cc in
        record { var = ap (λ (m : ℕ). t.numbered + 1 + m) own; gives = next ∙ ap (λ (m : ℕ). m ∷ ls) own }

-- ---- loops over items with names

module _ (f : Name → List ℕ) {X : Type 0} (g : X → List Name) where
  names-cut : (xs : List X) (i : ℕ) (x : X) → i < length xs → x ≡ get_or xs i x → flat_map g xs ≡ flat_map g (take i xs) ++ (g x ++ flat_map g (drop (i + 1) xs))
  names-cut xs i x inside is = ap (flat_map g) (cut-at xs i x inside is) ∙ flat_map-append g (take i xs) (x ∷ drop (i + 1) xs)

  pub starts-item : (ks ls : List ℕ) (xs : List X) (i : ℕ) (x : X) → i < length xs → x ≡ get_or xs i x → StartsWith f ks (flat_map g xs) → Gives f ks (flat_map g (take i xs)) ls → StartsWith f ls (g x)
  starts-item ks ls xs i x inside is starts gives =
      starts-front f ls (g x) (flat_map g (drop (i + 1) xs))
      (starts-behind f ks ls (flat_map g (take i xs)) (g x ++ flat_map g (drop (i + 1) xs)) (subst (StartsWith f ks) (names-cut xs i x inside is) starts) gives)

  pub starts-next : (ks ls : List ℕ) (all before behind : List X) (x : X) → before ++ x ∷ behind ≡ all → StartsWith f ks (flat_map g all) → Gives f ks (flat_map g before) ls → StartsWith f ls (g x)
  starts-next ks ls all before behind x whole starts gives =
      starts-front f ls (g x) (flat_map g behind)
      (starts-behind f ks ls (flat_map g before) (g x ++ flat_map g behind) (subst (StartsWith f ks) (ap (flat_map g) (sym whole) ∙ flat_map-append g before (x ∷ behind)) starts) gives)

  pub gives-push : (ks ls ms : List ℕ) (xs : List X) (x : X) → Gives f ks (flat_map g xs) ls → Gives f ls (g x) ms → Gives f ks (flat_map g (xs ++ x ∷ [])) ms
  gives-push ks ls ms xs x first second = subst (λ (ns : List Name). Gives f ks ns ms) (flat_map_more g [] xs x) (gives-more f ks ls ms (flat_map g xs) (g x) first second)

  pub gives-item : (ks ls ms : List ℕ) (xs : List X) (i : ℕ) (x : X) → i < length xs → x ≡ get_or xs i x → Gives f ks (flat_map g (take i xs)) ls → Gives f ls (g x) ms → Gives f ks (flat_map g (take (i + 1) xs)) ms
  gives-item ks ls ms xs i x inside is first second =
      subst (λ (ys : List X). Gives f ks (flat_map g ys) ms) (sym (take_more xs i x inside ∙ ap (λ (y : X). take i xs ++ y ∷ []) (sym is))) (gives-push ks ls ms (take i xs) x first second)

-- the same over items with one name each
module _ (f : Name → List ℕ) {X : Type 0} (h : X → Name) where
  as-flat : (xs : List X) → map h xs ≡ flat_map (λ x. h x ∷ []) xs
  as-flat [] = refl
  as-flat (x ∷ xs) = ap (λ (ns : List Name). h x ∷ ns) (as-flat xs)

  pub starts-one : (ks ls : List ℕ) (xs : List X) (i : ℕ) (x : X) → i < length xs → x ≡ get_or xs i x → StartsWith f ks (map h xs) → Gives f ks (map h (take i xs)) ls → StartsWith f ls (h x ∷ [])
  starts-one ks ls xs i x inside is starts gives =
      starts-item f (λ y. h y ∷ []) ks ls xs i x inside is (subst (StartsWith f ks) (as-flat xs) starts) (subst (λ (ns : List Name). Gives f ks ns ls) (as-flat (take i xs)) gives)

  pub gives-one : (ks ls ms : List ℕ) (xs : List X) (i : ℕ) (x : X) → i < length xs → x ≡ get_or xs i x → Gives f ks (map h (take i xs)) ls → Gives f ls (h x ∷ []) ms → Gives f ks (map h (take (i + 1) xs)) ms
  gives-one ks ls ms xs i x inside is first second =
      subst (λ (ns : List Name). Gives f ks ns ms) (sym (as-flat (take (i + 1) xs)))
      (gives-item f (λ y. h y ∷ []) ks ls ms xs i x inside is (subst (λ (ns : List Name). Gives f ks ns ls) (as-flat (take i xs)) first) second)
