-- What is left where appending fails (our own).
use Rattle.std.specs.Prelude.{◌≡◌, ℕ, List, length, take}

-- the bytes begin with what was there before
abbrev pub KeepsFront : List ℕ → List ℕ → Type 0
KeepsFront old new = take (length old) new ≡ old
