use Rattle.std.proofs.Common.{◌∙◌, sym}
use Rattle.rr_lint_laws.specs.Mended.{mended_body}
use Rattle.rr_lint_names.specs.Latched.{marks}
use Rattle.rr_lint_tree.proofs.Trees.{Ports_stays, Nets_stays, Variables_stays, Integers_stays, Parameters_stays, Assigns_stays, Initial_stays, Instances_stays, Always_stays, Always_new}
use Rattle.rr_lint_tree.proofs.mending.new_item.Goals as goal

pub returns-in-Ports : goal.returns-in-Ports
returns-in-Ports c = Ports_stays (mended_body (marks c.args.noted.now)) c.args.item.now c.in-Ports.field-0 c.in-Ports.is

pub returns-in-Nets : goal.returns-in-Nets
returns-in-Nets c = Nets_stays (mended_body (marks c.args.noted.now)) c.args.item.now c.in-Nets.signed c.in-Nets.range c.in-Nets.names c.in-Nets.is

pub returns-in-Variables : goal.returns-in-Variables
returns-in-Variables c = Variables_stays (mended_body (marks c.args.noted.now)) c.args.item.now c.in-Variables.signed c.in-Variables.range c.in-Variables.names c.in-Variables.is

pub returns-in-Integers : goal.returns-in-Integers
returns-in-Integers c = Integers_stays (mended_body (marks c.args.noted.now)) c.args.item.now c.in-Integers.names c.in-Integers.is

pub returns-in-Parameters : goal.returns-in-Parameters
returns-in-Parameters c = Parameters_stays (mended_body (marks c.args.noted.now)) c.args.item.now c.in-Parameters.field-0 c.in-Parameters.is

pub returns-in-Assigns : goal.returns-in-Assigns
returns-in-Assigns c = Assigns_stays (mended_body (marks c.args.noted.now)) c.args.item.now c.in-Assigns.pairs c.in-Assigns.is

pub returns-in-Initial : goal.returns-in-Initial
returns-in-Initial c = Initial_stays (mended_body (marks c.args.noted.now)) c.args.item.now c.in-Initial.body c.in-Initial.token c.in-Initial.is

pub returns-in-Instances : goal.returns-in-Instances
returns-in-Instances c = Instances_stays (mended_body (marks c.args.noted.now)) c.args.item.now c.in-Instances.module c.in-Instances.token c.in-Instances.overrides c.in-Instances.list c.in-Instances.is

pub returns-then-has_edges : goal.returns-then-has_edges
returns-then-has_edges c = Always_stays (mended_body (marks c.args.noted.now)) c.args.item.now c.in-Always.events c.in-Always.body c.in-Always.token c.in-Always.is (sym c.has_edges.ensures ∙ c.if-has_edges.true)

pub returns-in_ok-new-in-Always : goal.returns-in_ok-new-in-Always
returns-in_ok-new-in-Always c =
    Always_new (mended_body (marks c.args.noted.now)) c.args.item.now c.in-Always.events c.in-Always.body c.in_ok-new-in-Always.new c.in-Always.token c.in-Always.is (sym c.has_edges.ensures ∙ c.if-has_edges.false) c.in_ok-new-in-Always.ensures
