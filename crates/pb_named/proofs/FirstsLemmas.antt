-- Items of a list that has each where it first stands, and the places of items.
use Rattle.std.proofs.Common.{◌≡◌, ◌<◌, ◌≤◌, Bool, true, false, cond, List, [], ◌∷◌, ◌++◌, map, length, arith, refl, sym, ◌∙◌}
use Rattle.std.specs.List.{list_any, position_or_len, AllByRecursion}
use Rattle.std.proofs.lemmas.List.{map-append, length-append}
use Rattle.std.proofs.lemmas.List.Folds.{position_or_len_push}
use Rattle.indexmap.specs.IndexSet.{insert_key}
use Rattle.pb_base.specs.Firsts.{with_item, firsts_behind}

-- ---- places

position-push : {X : Type 0} (p : X → Bool) (xs : List X) (y : X) → position_or_len p xs < length xs → position_or_len p (xs ++ y ∷ []) ≡ position_or_len p xs
position-push p xs y found = grind (arith, position_or_len_push p xs y)

any-position : {X : Type 0} (p : X → Bool) (xs : List X) → list_any p xs ≡ true → position_or_len p xs < length xs
any-position p [] h = cc
any-position p (x ∷ xs) h = by-test (p x) refl (λ e. any-position p xs e)
  where
    by-test : (b : Bool) → p x ≡ b → (list_any p xs ≡ true → position_or_len p xs < length xs) → position_or_len p (x ∷ xs) < length (x ∷ xs)
    by-test true e rest = grind (arith, e)
    by-test false e rest = (let there : list_any p xs ≡ true = grind (arith, e, h) in grind (arith, e, rest there))

any-last : {X : Type 0} (p : X → Bool) (xs : List X) (y : X) → p y ≡ true → list_any p (xs ++ y ∷ []) ≡ true
any-last p [] y h = grind (arith, h)
any-last p (x ∷ xs) y h = grind (arith, h, any-last p xs y h)

place-last : {X : Type 0} (p : X → Bool) (xs : List X) (y : X) → list_any p xs ≡ false → p y ≡ true → position_or_len p (xs ++ y ∷ []) ≡ position_or_len p xs
place-last p [] y none h = grind (arith, h)
place-last p (x ∷ xs) y none h = by-test (p x) refl (place-last p xs y)
  where
    by-test : (b : Bool) → p x ≡ b → (list_any p xs ≡ false → p y ≡ true → position_or_len p (xs ++ y ∷ []) ≡ position_or_len p xs) → position_or_len p (x ∷ (xs ++ y ∷ [])) ≡ position_or_len p (x ∷ xs)
    by-test true e rest = grind (arith, e)
    by-test false e rest = (let rest_none : list_any p xs ≡ false = grind (arith, e, none) in grind (arith, e, rest rest_none h))

-- ---- a set that keeps the order in which its items came, seen through a function

module _ {K X : Type 0} (f : K → X) (kin : K → K → Bool) (eq : X → X → Bool) (same : (a b : K) → kin a b ≡ eq (f a) (f b)) where
  any-seen : (ks : List K) (k : K) → list_any (kin k) ks ≡ list_any (eq (f k)) (map f ks)
  any-seen [] k = refl
  any-seen (x ∷ ks) k = grind (arith, same k x, any-seen ks k)

  pub insert-seen : (ks : List K) (k : K) → map f (insert_key kin ks k) ≡ with_item eq (map f ks) (f k)
  insert-seen ks k = by-test (list_any (kin k) ks) (list_any (eq (f k)) (map f ks)) (any-seen ks k)
    where
      by-test : (b c : Bool) → b ≡ c → map f (cond b ks (ks ++ k ∷ [])) ≡ cond c (map f ks) (map f ks ++ f k ∷ [])
      by-test true true e = refl
      by-test false false e = map-append f ks (k ∷ [])
      by-test true false e = cc
      by-test false true e = cc

  pub place-seen : (ks : List K) (k : K) → position_or_len (kin k) ks ≡ position_or_len (eq (f k)) (map f ks)
  place-seen [] k = refl
  place-seen (x ∷ ks) k = grind (arith, same k x, place-seen ks k)

module _ {X : Type 0} (eq : X → X → Bool) where
  pub with-longer : (xs : List X) (y : X) → length xs ≤ length (with_item eq xs y)
  with-longer xs y = by-test (list_any (eq y) xs)
    where
      by-test : (b : Bool) → length xs ≤ length (cond b xs (xs ++ y ∷ []))
      by-test true = omega arith
      by-test false = omega (arith, length-append xs (y ∷ []))

  -- an item that is found stays where it is
  pub with-place : (xs : List X) (y x : X) → position_or_len (eq x) xs < length xs → position_or_len (eq x) (with_item eq xs y) ≡ position_or_len (eq x) xs
  with-place xs y x found = by-test (list_any (eq y) xs)
    where
      push : position_or_len (eq x) (xs ++ y ∷ []) ≡ position_or_len (eq x) xs
      push = position-push (eq x) xs y found

      by-test : (b : Bool) → position_or_len (eq x) (cond b xs (xs ++ y ∷ [])) ≡ position_or_len (eq x) xs
      by-test true = refl
      by-test false = push

  pub firsts-append : (seen xs ys : List X) → firsts_behind eq seen (xs ++ ys) ≡ firsts_behind eq (firsts_behind eq seen xs) ys
  firsts-append seen [] ys = refl
  firsts-append seen (x ∷ xs) ys = firsts-append (with_item eq seen x) xs ys

  pub firsts-longer : (seen xs : List X) → length seen ≤ length (firsts_behind eq seen xs)
  firsts-longer seen [] = omega arith
  firsts-longer seen (x ∷ xs) = omega (arith, with-longer seen x, firsts-longer (with_item eq seen x) xs)

  pub firsts-place : (seen xs : List X) (x : X) → position_or_len (eq x) seen < length seen → position_or_len (eq x) (firsts_behind eq seen xs) ≡ position_or_len (eq x) seen
  firsts-place seen [] x found = refl
  firsts-place seen (y ∷ ys) x found =
      let stays = with-place seen y x found in
      firsts-place (with_item eq seen y) ys x (omega (arith, stays, with-longer seen y)) ∙ stays

module _ {X : Type 0} (eq : X → X → Bool) (own : (x : X) → eq x x ≡ true) where
  -- an item's place is the same before and after it is added
  pub own-place : (xs : List X) (x : X) → position_or_len (eq x) xs ≡ position_or_len (eq x) (with_item eq xs x)
  own-place xs x = by-test (list_any (eq x) xs) refl
    where
      by-test : (b : Bool) → list_any (eq x) xs ≡ b → position_or_len (eq x) xs ≡ position_or_len (eq x) (cond b xs (xs ++ x ∷ []))
      by-test true e = refl
      by-test false e = sym (place-last (eq x) xs x e (own x))

  pub added-place : (xs : List X) (x : X) → position_or_len (eq x) (with_item eq xs x) < length (with_item eq xs x)
  added-place xs x = by-test (list_any (eq x) xs) refl
    where
      by-test : (b : Bool) → list_any (eq x) xs ≡ b → position_or_len (eq x) (cond b xs (xs ++ x ∷ [])) < length (cond b xs (xs ++ x ∷ []))
      by-test true e = any-position (eq x) xs e
      by-test false e = any-position (eq x) (xs ++ x ∷ []) (any-last (eq x) xs x (own x))

  -- all that were added are found
  pub firsts-found : (seen xs : List X) → AllByRecursion (λ x. position_or_len (eq x) (firsts_behind eq seen xs) < length (firsts_behind eq seen xs)) xs
  firsts-found seen [] = tt
  firsts-found seen (x ∷ xs) =
      let next = with_item eq seen x in
      let found = added-place seen x in
      let stays = firsts-place eq next xs x found in
      (omega (arith, found, stays, firsts-longer eq next xs), firsts-found next xs)
