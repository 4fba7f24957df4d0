-- What the system is asked, and what it answers (our own).
use Rattle.std.specs.Prelude.{ℕ, List, ◌∷◌}
use Rattle.std.specs.Option.{option_map}
use Rattle.std.specs.declared.option.Option.{Option}
use Rattle.std.specs.declared.option.Option.TheVariants.{Some, None}
use Rattle.std.specs.declared.result.Result.{Result}
use Rattle.std.specs.declared.result.Result.TheVariants.{Ok, Err}
use Rattle.pb_base.specs.declared.fault.Failed.{Failed}
use Rattle.pb_files.specs.declared.file_id.FileId.{FileId}

-- A call with its answer, none where the system failed. Files are asked for by name, each for a slot; from then on the slot stands for
-- the file. An open file is answered by what it is, if the system tells.
pub data Call : Type 0 where
  open_file : (slot : ℕ) (name : List ℕ) (answer : Option (Option FileId)) → Call
  create : (slot : ℕ) (name : List ℕ) (answer : Option (Option FileId)) → Call
  truncate : (slot : ℕ) (answer : Option (Unit {0})) → Call
  read : (slot room : ℕ) (answer : Option (List ℕ)) → Call
  write : (slot : ℕ) (piece : List ℕ) (answer : Option ℕ) → Call
  sync : (slot : ℕ) (answer : Option (Unit {0})) → Call
  say : (piece : List ℕ) (answer : Option ℕ) → Call

-- the answer, as it is kept
abbrev pub answered : {X Y : Type 0} → (X → Y) → Result X Failed → Option Y
answered f (Ok x) = Some (f x)
answered f (Err e) = None

-- one more call, the newest first, where calls are kept
abbrev pub with_call : Call → Option (List Call) → Option (List Call)
with_call call calls = option_map (λ (cs : List Call). call ∷ cs) calls
