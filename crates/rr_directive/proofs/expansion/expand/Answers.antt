use Rattle.std.proofs.Common.{◌≤◌, ◌∙◌, ap, arith, length}
use Rattle.rr_directive.specs.Expand.{bytes_of}
use Rattle.rr_directive.proofs.Outputs.{few_bytes}
use Rattle.rr_directive.proofs.expansion.expand.Goals as goal

pub read_all-requires-clause-unclosed : goal.read_all-requires-clause-unclosed
read_all-requires-clause-unclosed c = c.in_ok-unclosed.ensures

pub finish-requires-2 : goal.finish-requires-2
finish-requires-2 c = let w = c.in_ok-read_all.ensures in (w.events, c.finish.ensures w.state w.events w.stands)

pub returns-clause-answer : goal.returns-clause-answer
returns-clause-answer c =
    let w = c.in_ok-read_all.ensures in
    let s = c.finish.ensures w.state w.events w.stands in
    record {
      expansion = record {
        events = w.events;
        end = w.state;
        reads = w.reads;
        closed = w.closed;
        text_is = c.finish-2.ensures.text ∙ s.text;
        origins_are = c.finish-2.ensures.origins ∙ s.origins;
      };
      few = omega (arith, s.left);
    }

pub returns-clause-few : goal.returns-clause-few
returns-clause-few c =
    let w = c.in_ok-read_all.ensures in
    let s = c.finish.ensures w.state w.events w.stands in
    let b : length (bytes_of w.events) ≤ length w.events = few_bytes w.events in
    omega (arith, s.left, ap length (c.finish-2.ensures.text ∙ s.text))
