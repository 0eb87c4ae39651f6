use Rattle.std.proofs.Common.{◌+◌, ◌∙◌, arith, sym}
use Rattle.rr_patch.specs.Changes.{plain_changes}
use Rattle.rr_lint_names.specs.Latched.{marks}
use Rattle.rr_lint.proofs.Items.{Ports_adds, Nets_adds, Variables_adds, Integers_adds, Parameters_adds, Assigns_adds, Initial_adds, Instances_adds, Always_stays, Always_adds}
use Rattle.rr_lint.proofs.changes.item.Goals as goal

pub returns-in-Ports : goal.returns-in-Ports
returns-in-Ports c = Ports_adds (marks c.args.noted.now) (plain_changes c.args.out.now.items) c.args.item.now c.in-Ports.field-0 c.in-Ports.is

pub returns-in-Nets : goal.returns-in-Nets
returns-in-Nets c = Nets_adds (marks c.args.noted.now) (plain_changes c.args.out.now.items) c.args.item.now c.in-Nets.signed c.in-Nets.range c.in-Nets.names c.in-Nets.is

pub returns-in-Variables : goal.returns-in-Variables
returns-in-Variables c = Variables_adds (marks c.args.noted.now) (plain_changes c.args.out.now.items) c.args.item.now c.in-Variables.signed c.in-Variables.range c.in-Variables.names c.in-Variables.is

pub returns-in-Integers : goal.returns-in-Integers
returns-in-Integers c = Integers_adds (marks c.args.noted.now) (plain_changes c.args.out.now.items) c.args.item.now c.in-Integers.names c.in-Integers.is

pub returns-in-Parameters : goal.returns-in-Parameters
returns-in-Parameters c = Parameters_adds (marks c.args.noted.now) (plain_changes c.args.out.now.items) c.args.item.now c.in-Parameters.field-0 c.in-Parameters.is

pub returns-in-Assigns : goal.returns-in-Assigns
returns-in-Assigns c = Assigns_adds (marks c.args.noted.now) (plain_changes c.args.out.now.items) c.args.item.now c.in-Assigns.pairs c.in-Assigns.is

pub returns-in-Initial : goal.returns-in-Initial
returns-in-Initial c = Initial_adds (marks c.args.noted.now) (plain_changes c.args.out.now.items) c.args.item.now c.in-Initial.body c.in-Initial.token c.in-Initial.is

pub returns-in-Instances : goal.returns-in-Instances
returns-in-Instances c = Instances_adds (marks c.args.noted.now) (plain_changes c.args.out.now.items) c.args.item.now c.in-Instances.module c.in-Instances.token c.in-Instances.overrides c.in-Instances.list c.in-Instances.is

pub returns-then-has_edges : goal.returns-then-has_edges
returns-then-has_edges c =
    Always_stays (marks c.args.noted.now) (plain_changes c.args.out.now.items) c.args.item.now c.in-Always.events c.in-Always.body c.in-Always.token c.in-Always.is (sym c.has_edges.ensures ∙ c.if-has_edges.true)

pub returns-in_ok-mended-in-Always : goal.returns-in_ok-mended-in-Always
returns-in_ok-mended-in-Always c =
    let a = c.from.ensures in
    let b = c.events_len.ensures in
    Always_adds (marks c.args.noted.now) (plain_changes c.args.out.now.items) (plain_changes c.mended.new.out.items) (c.from.result + 2 + c.events_len.result) c.args.item.now c.in-Always.events c.in-Always.body c.in-Always.token c.in-Always.is
    (sym c.has_edges.ensures ∙ c.if-has_edges.false) (omega (arith, a, b)) c.in_ok-mended-in-Always.ensures
