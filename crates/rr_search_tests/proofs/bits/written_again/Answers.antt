use Rattle.std.proofs.Common.{length, ap, arith}
use Rattle.std.proofs.lemmas.List.{length-map}
use Rattle.rr_choice.specs.View.{plain_site}
use Rattle.rr_search_tests.proofs.bits.written_again.Goals as goal

pub bits-requires : goal.bits-requires
bits-requires c =
    let few = c.choice_laws.ensures.few c.new-list.result c.sites-found.ensures.kept in
    let same = ap length c.sites-found.ensures.same in
    let count = length-map c.sites-found.result.now plain_site in
    omega (arith, few, same, count, c.if-found-gt1000.false)
