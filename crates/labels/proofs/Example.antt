-- Labels that are not doubled, and two that are. Assumes nothing.
use mathlib.Core.Path.{◌≡◌, refl}
use mathlib.Core.List.{List, [], ◌∷◌, ◌++◌}
use Rattle.std.specs.Prelude.{Some, None}
use Rattle.value.specs.Value.{slot_at}
use Rattle.cell.specs.declared.Record.{Record}
use Rattle.cell.specs.Records.{record_of}
use Rattle.basics.specs.Lists.{tabulate, any_of}
use Rattle.labels.specs.Labels.{is_labelled, label_of, same_label, doubled_label, first_doubled}

-- an input of two bits with label 7, and an output with label 7, of its bit 0
fine : List Record
fine = record_of 1 0 0 7 0 0 ∷ record_of 1 0 1 7 0 0 ∷ record_of 2 0 0 2 7 0 ∷ []

fine-free : first_doubled fine ≡ None
unfolding fine first_doubled doubled_label same_label label_of is_labelled tabulate any_of
fine-free = refl

-- then another input with label 7
inputs-told : first_doubled (fine ++ (record_of 1 0 0 7 0 0 ∷ [])) ≡ Some (slot_at 3)
unfolding fine first_doubled doubled_label same_label label_of is_labelled tabulate any_of
inputs-told = refl

-- or another output, of bit 1, and behind it one more
outputs-told : first_doubled (fine ++ (record_of 2 0 0 3 7 0 ∷ record_of 2 0 0 3 7 0 ∷ [])) ≡ Some (slot_at 3)
unfolding fine first_doubled doubled_label same_label label_of is_labelled tabulate any_of
outputs-told = refl
