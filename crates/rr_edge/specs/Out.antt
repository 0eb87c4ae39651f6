-- What a sink over a writer is made of.
use Rattle.std.specs.Prelude.{ℕ}
use Rattle.rr_edge.specs.declared.writer.OutSink.{OutSink}

-- the writer below the sink
abbrev pub writer_of : {W : Type 0} → OutSink W → W
writer_of sink = sink.writer

-- how often the sink has failed
abbrev pub out_fault_count : {W : Type 0} → OutSink W → ℕ
out_fault_count sink = sink.faults
