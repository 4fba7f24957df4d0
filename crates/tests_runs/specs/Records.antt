-- Calls that were kept, as the desk of a system knows them (our own).
use Rattle.std.specs.Prelude.{take}
use Rattle.pb_files.specs.Calls.{Call, answered}
use Rattle.pb_files.specs.Calls.Call.{open_file, create, truncate, read, write, sync, say}
use Rattle.tests_runs.specs.declared.recorder.Kept.{Kept}
use Rattle.tests_runs.specs.declared.recorder.Kept.TheVariants as kept

abbrev pub call_of : Kept → Call
call_of (kept.Open slot name answer) = open_file slot name (answered (λ id. id) answer)
call_of (kept.Create slot name answer) = create slot name (answered (λ id. id) answer)
call_of (kept.Truncate slot answer) = truncate slot (answered (λ u. tt) answer)
call_of (kept.Read slot length room answer) = read slot length (answered (λ count. take count room) answer)
call_of (kept.Write slot piece answer) = write slot piece (answered (λ count. count) answer)
call_of (kept.Sync slot answer) = sync slot (answered (λ u. tt) answer)
call_of (kept.Say piece answer) = say piece (answered (λ count. count) answer)
