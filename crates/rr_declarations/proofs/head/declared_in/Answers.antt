use Rattle.std.proofs.Common.{map}
use Rattle.rr_syntax.specs.View.{plain_module, plain_port, plain_item}
use Rattle.rr_flat.specs.Faults.{each}
use Rattle.rr_declarations.specs.Declarations.{declare_ports, declare_item}
use Rattle.rr_declarations.specs.View.{plain_declarations}
use Rattle.rr_declarations.proofs.Steps.{refused}
use Rattle.rr_declarations.proofs.HeadLemmas.{ends, declared_is}
use Rattle.rr_declarations.proofs.head.declared_in.Goals as goal

pub returns-in_err-declare_groups-clause-value : goal.returns-in_err-declare_groups-clause-value
unfolding plain_module
returns-in_err-declare_groups-clause-value c =
    let is = declared_is c.args.instance c.args.bits c.args.given.now (plain_module c.args.own.now) c.in_ok-names.names c.in_ok-known.known c.know_module.new.names c.in_ok-bracketed.bracketed c.in_ok-names.ensures.value c.in_ok-known.ensures.value c.in_ok-bracketed.ensures c.in_ok-know_module.ensures in
    refused c.from_residual-in_err-declare_groups.result _ _ c.in_err-declare_groups.field-0.0 c.from_residual-in_err-declare_groups.ensures.1
    (rw (is, ← c.new-declared.ensures) (ends (each (declare_ports c.in_ok-bracketed.bracketed c.know_module.new.names) (map plain_port c.args.own.now.groups.now) (plain_declarations c.new-declared.result)) (each (declare_item c.in_ok-bracketed.bracketed c.know_module.new.names) (map plain_item c.args.own.now.items.now)) c.in_err-declare_groups.field-0.0 c.in_err-declare_groups.ensures.value))

pub returns-in_err-declare_items-clause-value : goal.returns-in_err-declare_items-clause-value
unfolding plain_module
returns-in_err-declare_items-clause-value c =
    let is = declared_is c.args.instance c.args.bits c.args.given.now (plain_module c.args.own.now) c.in_ok-names.names c.in_ok-known.known c.know_module.new.names c.in_ok-bracketed.bracketed c.in_ok-names.ensures.value c.in_ok-known.ensures.value c.in_ok-bracketed.ensures c.in_ok-know_module.ensures in
    refused c.from_residual-in_err-declare_items.result _ _ c.in_err-declare_items.field-0.0 c.from_residual-in_err-declare_items.ensures.1
    (rw (is, ← c.new-declared.ensures, c.in_ok-declare_groups.ensures.value) c.in_err-declare_items.ensures.value)
