use Rattle.rr_vcd.specs.View.{earlier}
use Rattle.rr_vcd.proofs.Sampling.{ended}
use Rattle.rr_vcd.proofs.Keeping.{closed_full, closed_all, closed_over, closed_not, current_slots, kept_rows, watched_clock}
use Rattle.rr_vcd.proofs.sampler.Sampler.close.Goals as goal

pub returns-then-self-clause-rows : goal.returns-then-self-clause-rows
returns-then-self-clause-rows c = λ top d s told h off begun. closed_full top d s told c.args.self.now h off begun c.if-self.true

pub returns-in_ok-push-in-Some-clause-rows : goal.returns-in_ok-push-in-Some-clause-rows
returns-in_ok-push-in-Some-clause-rows c = λ top d s told h off begun.
    let x = c.args.self.now in
    let slots = (current_slots top d s told x x.off off h.current).0 in
    let has = kept_rows _ x.full x.table c.if-self.false h.kept in
    let over = c.goes_over.ensures (earlier told) told slots (watched_clock x.slots x.probes.clock c.in-Some.clock c.in-Some.is h.watched.clock) in
    closed_over top d s told x h off begun _ _ c.in-Some.clock c.goes_over.result c.in-Some.is over c.if-goes_over.true (c.in_ok-push-in-Some.ensures.rows (earlier told) told (ended top d s told) slots h.watched has)

pub returns-else-goes_over-clause-rows : goal.returns-else-goes_over-clause-rows
returns-else-goes_over-clause-rows c = λ top d s told h off begun.
    let x = c.args.self.now in
    let slots = (current_slots top d s told x x.off off h.current).0 in
    let over = c.goes_over.ensures (earlier told) told slots (watched_clock x.slots x.probes.clock c.in-Some.clock c.in-Some.is h.watched.clock) in
    closed_not top d s told x h off begun c.in-Some.clock c.goes_over.result c.in-Some.is over c.if-goes_over.false

pub returns-in_ok-push-in-None-clause-rows : goal.returns-in_ok-push-in-None-clause-rows
returns-in_ok-push-in-None-clause-rows c = λ top d s told h off begun.
    let x = c.args.self.now in
    let slots = (current_slots top d s told x x.off off h.current).0 in
    let has = kept_rows _ x.full x.table c.if-self.false h.kept in
    closed_all top d s told x h off begun _ _ c.in-None.is (c.in_ok-push-in-None.ensures.rows (earlier told) told (ended top d s told) slots h.watched has)
