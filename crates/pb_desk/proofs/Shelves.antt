-- Where a file of a name stands.
use Rattle.std.proofs.Common.{◌≡◌, ℕ, zero, suc, ◌<◌, List, [], ◌∷◌, length, drop, get_or, true, Some, subst, arith}
use Rattle.std.specs.Str.{bytes_eq}
use Rattle.pb_desk.specs.declared.shelf.Named.{Named}
use Rattle.pb_desk.specs.Memory.{shelf_of, bytes_at}

pub found_at : (shelf : List Named) (name : List ℕ) (i : ℕ) (file : Named) → i < length shelf → file ≡ get_or shelf i file → bytes_eq (file.name) name ≡ true → shelf_of (drop i shelf) name ≡ Some (bytes_at shelf i)
found_at [] name i file lt is named = absurd (omega arith)
found_at (f ∷ fs) name zero file lt is named = let here = subst (λ (x : Named). bytes_eq (x.name) name ≡ true) is named in simp here
found_at (f ∷ fs) name (suc i) file lt is named = found_at fs name i file (omega arith) is named
