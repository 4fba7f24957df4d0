-- A name as the code keeps it.
use Rattle.std.specs.Prelude.{ℕ, ◌==◌, List, if◌then◌else◌}
use Rattle.pb_named.specs.Names.{Name}
use Rattle.pb_named.specs.Names.Name.{index, free}

-- an index, or 0 and a text
abbrev pub kept_name : ℕ → List ℕ → Name
kept_name n text = if n == 0 then free text else index n
