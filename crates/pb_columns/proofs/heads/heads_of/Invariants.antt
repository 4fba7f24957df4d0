use Rattle.std.proofs.Common.{◌≡◌, All, Some, map, take}
use Rattle.pb_columns.specs.Columns.{head_of, IsShort}
use Rattle.pb_columns.proofs.heads.heads_of.Given as goal

abbrev pub invariant-loop-place : goal.invariant-loop-place
invariant-loop-place l = record {
  heads : map Some l.heads ≡ map head_of (take l.place l.sums);
  short : All IsShort (take l.place l.sums);
}
