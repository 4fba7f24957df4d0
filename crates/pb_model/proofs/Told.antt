-- What is told has a value for each variable.
use Rattle.std.proofs.Common.{◌≡◌, ℕ, ◌+◌, true, List, [], length, Some, None, ap, sym, ◌∙◌}
use Rattle.std.specs.Prelude.{Option, Result, Ok, Err, IfOk}
use Rattle.std.proofs.lemmas.List.FromFn.{length-map-range_with_len}
use Rattle.pb_model.specs.declared.fault.ModelFault.{ModelFault}
use Rattle.pb_model.specs.declared.model.Model.{Model}
use Rattle.pb_model.specs.ModelLines.{Symbol}
use Rattle.pb_model.specs.ModelReading.{is_listed, first_fault, model_in, told_by, told_in}

told_model : (fault : Option ModelFault) (m n : Model) → told_by fault m ≡ Ok n → n ≡ m
told_model None m n e = cc
told_model (Some fault) m n e = cc

told_covers : (vars : ℕ) (ss : List Symbol) (m : Model) → told_in vars ss ≡ Ok m → length m.values ≡ vars
told_covers vars ss m e =
    ap (λ (n : Model). length n.values) (told_model (first_fault [] ss) (model_in vars ss) m e)
    ∙ length-map-range_with_len (λ k. is_listed ss (record { var = k + 1; positive = true })) 0 vars

pub ok_covers : (vars : ℕ) (ss : List Symbol) (result : Result Model ModelFault) → result ≡ told_in vars ss → IfOk result (λ m. length m.values ≡ vars)
ok_covers vars ss (Ok m) e = told_covers vars ss m (sym e)
ok_covers vars ss (Err f) e = tt
