use Rattle.std.proofs.Common.{nat_eq, arith}
use Rattle.indexmap.specs.IndexMap.{get}
use Rattle.rr_kept.proofs.BodyTable.{Ports_none, Nets_none, Variables_none, Integers_none, Parameters_none, Assigns_none, Initial_none, Instances_none, Always_found}
use Rattle.rr_kept.proofs.bodies.item.Goals as goal

pub returns-in-Ports : goal.returns-in-Ports
returns-in-Ports c = Ports_none (get nat_eq c.args.bodies.now) c.args.item.now c.in-Ports.field-0 c.in-Ports.is

pub returns-in-Nets : goal.returns-in-Nets
returns-in-Nets c = Nets_none (get nat_eq c.args.bodies.now) c.args.item.now c.in-Nets.signed c.in-Nets.range c.in-Nets.names c.in-Nets.is

pub returns-in-Variables : goal.returns-in-Variables
returns-in-Variables c = Variables_none (get nat_eq c.args.bodies.now) c.args.item.now c.in-Variables.signed c.in-Variables.range c.in-Variables.names c.in-Variables.is

pub returns-in-Integers : goal.returns-in-Integers
returns-in-Integers c = Integers_none (get nat_eq c.args.bodies.now) c.args.item.now c.in-Integers.names c.in-Integers.is

pub returns-in-Parameters : goal.returns-in-Parameters
returns-in-Parameters c = Parameters_none (get nat_eq c.args.bodies.now) c.args.item.now c.in-Parameters.field-0 c.in-Parameters.is

pub returns-in-Assigns : goal.returns-in-Assigns
returns-in-Assigns c = Assigns_none (get nat_eq c.args.bodies.now) c.args.item.now c.in-Assigns.pairs c.in-Assigns.is

pub returns-in-Initial : goal.returns-in-Initial
returns-in-Initial c = Initial_none (get nat_eq c.args.bodies.now) c.args.item.now c.in-Initial.body c.in-Initial.token c.in-Initial.is

pub returns-in-Instances : goal.returns-in-Instances
returns-in-Instances c = Instances_none (get nat_eq c.args.bodies.now) c.args.item.now c.in-Instances.module c.in-Instances.token c.in-Instances.overrides c.in-Instances.list c.in-Instances.is

pub returns-in_ok-put-in-Always : goal.returns-in_ok-put-in-Always
returns-in_ok-put-in-Always c =
    Always_found (get nat_eq c.args.bodies.now) c.args.item.now (get nat_eq c.put.new.bodies) c.in-Always.events c.in-Always.body c.in-Always.token _ _ c.in-Always.is
    (let a = c.from.ensures in let b = c.events_len.ensures in omega (arith, a, b)) c.in_ok-size-in-Always.ensures c.in_ok-put-in-Always.ensures
