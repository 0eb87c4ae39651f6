use Rattle.std.proofs.Common.{◌∙◌, ap, ap₂, Bool, List, cond}
use Rattle.rr_circuit.specs.Values.{wire_value, wire_values}
use Rattle.rr_cycle.specs.Exec.{Environment, write}
use Rattle.rr_signal_wires.specs.Words.{carried}
use Rattle.rr_signal_wires.proofs.WordLaws.{carried-extends}
use Rattle.rr_blast_stmt.specs.Running.{held}
use Rattle.rr_blast_stmt.proofs.RanLaws.{made, stored_later, stored_now}
use Rattle.rr_blast_stmt.proofs.statements.store.Goals as goal

pub returns-then-now-clause-ran : goal.returns-then-now-clause-ran
returns-then-now-clause-ran c = λ env named h.
    let x = c.in_ok-put_all.ensures in
    let g : Bool = wire_value c.args.b.now env c.args.guard in
    let m : Environment = carried c.args.b.now env c.args.machine.now.now.items in
    ap₂ made
    (x.value env ∙ ap (λ (f : Environment). cond g f m) (h m))
    (carried-extends c.args.b.now c.put_all.new.b env c.args.machine.now.later.items x.extends c.requires.machine.later)
    ∙ stored_now g named (wire_values c.args.b.now env c.args.bits.now) c.args.now (held c.args.b.now env c.args.machine.now) c.if-now.true

pub returns-clause-ran : goal.returns-clause-ran
returns-clause-ran c = λ env named h.
    let x = c.in_ok-put_all-2.ensures in
    let g : Bool = wire_value c.args.b.now env c.args.guard in
    let m : Environment = carried c.args.b.now env c.args.machine.now.later.items in
    ap₂ made
    (carried-extends c.args.b.now c.put_all-2.new.b env c.args.machine.now.now.items x.extends c.requires.machine.now)
    (x.value env ∙ ap (λ (f : Environment). cond g f m) (h m))
    ∙ stored_later g named (wire_values c.args.b.now env c.args.bits.now) c.args.now (held c.args.b.now env c.args.machine.now) c.if-now.false
