-- All that holds of a run follows from how it ends.
use Rattle.rr_top.specs.Execution.{Execution, IsExecution}
use Rattle.rr_top.specs.Whole.{IsRightRun}
use Rattle.rr_top.proofs.Executions.{execution_kept, execution_done, execution_certified, execution_failed, execution_left, execution_refused, execution_faulty, execution_failure, execution_exhausted, execution_usage, execution_not_plain, execution_shelf, execution_out, execution_notes, execution_decided, execution_as_it_was, execution_settles, execution_complete}

pub right_run : {r : Execution} → IsExecution r → IsRightRun r
right_run e = record {
  ended = e;
  kept = execution_kept e;
  done = execution_done e;
  certified = execution_certified e;
  failed = execution_failed e;
  left_open = execution_left e;
  refused = execution_refused e;
  faulty = execution_faulty e;
  failure = execution_failure e;
  exhausted = execution_exhausted e;
  usage = execution_usage e;
  not_plain = execution_not_plain e;
  shelf_fault = execution_shelf e;
  out_fault = execution_out e;
  notes_fault = execution_notes e;
  decided = execution_decided e;
  as_it_was = execution_as_it_was e;
  settles = execution_settles e;
  complete = execution_complete e;
}
