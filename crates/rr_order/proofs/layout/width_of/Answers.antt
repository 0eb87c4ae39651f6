use Rattle.std.proofs.Common.{arith, ap, length}
use Rattle.std.proofs.lemmas.List.Elements.{All-get_or}
use Rattle.rr_flat.specs.Sound.{IsSignal}
use Rattle.rr_order.proofs.Lists.{width_flat, width_count}
use Rattle.rr_order.proofs.layout.width_of.Goals as goal

pub bounds-signals-id : goal.bounds-signals-id
bounds-signals-id c = omega (arith, c.requires, width_count c.args.flat.now, ap length c.signal_list-signals.ensures.value)

pub returns-clause-value : goal.returns-clause-value
returns-clause-value c = width_flat c.args.flat.now c.signal_list-signals.result.now c.args.id _ (omega (arith, c.requires, width_count c.args.flat.now)) c.signal_list-signals.ensures.value

pub returns-clause-high : goal.returns-clause-high
returns-clause-high c =
    (All-get_or (IsSignal (length c.args.flat.now.scopes)) c.signal_list-signals.result.now c.args.id _ (omega (arith, c.requires, width_count c.args.flat.now, ap length c.signal_list-signals.ensures.value)) c.signal_list-signals.ensures.sound).high
