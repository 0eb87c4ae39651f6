use Rattle.std.proofs.Common.{length, ap, arith}
use Rattle.std.proofs.lemmas.List.{length-map}
use Rattle.rr_choice.specs.View.{plain_site}
use Rattle.rr_instance_tests.proofs.instances.decoded.Goals as goal

pub bits-requires : goal.bits-requires
bits-requires c =
    let few = c.choice_laws.ensures.few c.args.list.now c.sites-sites.ensures.kept in
    let same = ap length c.sites-sites.ensures.same in
    let count = length-map c.sites-sites.result.now plain_site in
    omega (arith, few, same, count, c.if-sites-gt1000.false)
