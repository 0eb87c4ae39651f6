use Rattle.std.proofs.Common.{◌≡◌, Some, false, map, [], ◌∷◌}
use Rattle.std.specs.List.{flat_map, range_with_len}
use Rattle.csv.specs.Records.{partial_of}
use Rattle.csv.specs.Writing.{fields_written, has_written, row_text, text_written, writer_setup}
use Rattle.rr_trace.specs.View.{plain_ports, plain_values}
use Rattle.rr_trace.specs.Written.{fields_at, layout, names_of}
use Rattle.rr_trace.proofs.write.text_of.Given as goal

abbrev pub invariant-loop-row : goal.invariant-loop-row
invariant-loop-row l = (fields_written l.writer ≡ 0) × (has_written l.writer ≡ false) × (writer_setup l.writer ≡ layout) × (partial_of l.record ≡ [])
    × (text_written (λ v. Some v.items) l.writer
    ≡ Some (flat_map (row_text layout) (names_of (plain_ports l.ports) ∷ map (fields_at (plain_values l.inputs) (plain_values l.outputs)) (range_with_len 0 l.row))))
