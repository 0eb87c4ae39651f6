use Rattle.std.proofs.Common.{◌+◌, arith}
use Rattle.rr_patch.specs.Changes.{plain_changes}
use Rattle.rr_patch.proofs.ItemWalks.{Ports_adds, Variables_adds, Integers_adds, Parameters_adds, Initial_adds, Nets_adds, Assigns_adds, Always_adds, Instances_adds}
use Rattle.rr_patch.proofs.item.item.Goals as goal

pub returns-in-Ports : goal.returns-in-Ports
returns-in-Ports c = Ports_adds c.args.list.now c.args.choice.now.picks.items (plain_changes c.args.out.now.items) c.args.item.now c.in-Ports.field-0 c.in-Ports.is

pub returns-in-Variables : goal.returns-in-Variables
returns-in-Variables c = Variables_adds c.args.list.now c.args.choice.now.picks.items (plain_changes c.args.out.now.items) c.args.item.now c.in-Variables.signed c.in-Variables.range c.in-Variables.names c.in-Variables.is

pub returns-in-Integers : goal.returns-in-Integers
returns-in-Integers c = Integers_adds c.args.list.now c.args.choice.now.picks.items (plain_changes c.args.out.now.items) c.args.item.now c.in-Integers.names c.in-Integers.is

pub returns-in-Parameters : goal.returns-in-Parameters
returns-in-Parameters c = Parameters_adds c.args.list.now c.args.choice.now.picks.items (plain_changes c.args.out.now.items) c.args.item.now c.in-Parameters.field-0 c.in-Parameters.is

pub returns-in-Initial : goal.returns-in-Initial
returns-in-Initial c = Initial_adds c.args.list.now c.args.choice.now.picks.items (plain_changes c.args.out.now.items) c.args.item.now c.in-Initial.body c.in-Initial.token c.in-Initial.is

pub returns-in_ok-nets-in-Nets : goal.returns-in_ok-nets-in-Nets
returns-in_ok-nets-in-Nets c = Nets_adds c.args.list.now c.args.choice.now.picks.items (plain_changes c.args.out.now.items) (plain_changes c.nets.new.out.items) c.args.item.now c.in-Nets.signed c.in-Nets.range c.in-Nets.names c.in-Nets.is c.in_ok-nets-in-Nets.ensures

pub returns-in_ok-pairs-in-Assigns : goal.returns-in_ok-pairs-in-Assigns
returns-in_ok-pairs-in-Assigns c = Assigns_adds c.args.list.now c.args.choice.now.picks.items (plain_changes c.args.out.now.items) (plain_changes c.pairs.new.out.items) c.args.item.now c.in-Assigns.entries c.in-Assigns.is c.in_ok-pairs-in-Assigns.ensures

pub returns-in_ok-body-in-Always : goal.returns-in_ok-body-in-Always
returns-in_ok-body-in-Always c = let a = c.from.ensures in let b = c.events_len.ensures in Always_adds c.args.list.now c.args.choice.now.picks.items (plain_changes c.args.out.now.items) (plain_changes c.body.new.out.items) (c.from.result + 2 + c.events_len.result) c.args.item.now c.in-Always.events c.in-Always.stmt c.in-Always.token c.in-Always.is (omega (arith, a, b)) c.in_ok-body-in-Always.ensures.made

pub returns-in_ok-children-in-Instances : goal.returns-in_ok-children-in-Instances
returns-in_ok-children-in-Instances c = Instances_adds c.args.list.now c.args.choice.now.picks.items (plain_changes c.args.out.now.items) (plain_changes c.children.new.out.items) c.args.item.now c.in-Instances.«module» c.in-Instances.token c.in-Instances.overrides c.in-Instances.entries c.in-Instances.is c.in_ok-children-in-Instances.ensures
