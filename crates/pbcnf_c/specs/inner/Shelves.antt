-- Texts as files of a desk in memory. It serves proofs.
use Rattle.std.specs.Prelude.{ℕ, List, [], ◌∷◌, ◌++◌, codes}
use Rattle.pb_desk.specs.declared.shelf.Named.{Named}

abbrev pub file_of : List ℕ → List ℕ → Named
file_of name text = record { name = name; bytes = text }

abbrev pub checked_texts : List ℕ → List ℕ → List ℕ → List Named
checked_texts opb cnf proof = file_of (codes "opb") opb ∷ file_of (codes "cnf") cnf ∷ file_of (codes "proof") proof ∷ []

abbrev pub refuted_texts : List ℕ → List ℕ → List ℕ → List ℕ → List Named
refuted_texts opb cnf proof lrat = checked_texts opb cnf proof ++ file_of (codes "lrat") lrat ∷ []
