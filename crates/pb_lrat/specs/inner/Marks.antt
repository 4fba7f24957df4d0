-- Values by variable, as the code keeps them: pages of as many values each, of which those that were never needed are empty.
use Rattle.std.specs.Prelude.{ℕ, ◌/◌, ◌%◌, Bool, List, [], Option, None, slice_index_or}

abbrev pub value_at : List (List (Option Bool)) → ℕ → Option Bool
value_at pages v = slice_index_or (slice_index_or pages (v / 65536) []) (v % 65536) None
