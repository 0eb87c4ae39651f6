use Rattle.rr_sites_command.proofs.Numbers.{sound_at}
use Rattle.rr_sites_command.proofs.lines.number_at.Goals as goal

pub returns-in-Number-clause-some : goal.returns-in-Number-clause-some
returns-in-Number-clause-some c =
    let s = sound_at c.args.tokens.now c.args.at c.in-Some.token.now c.requires c.in-Some.ensures.lookup.3.0 c.in-Some.ensures.lookup.1 in
    let k = rw c.in-Number.is at s in k.0

pub returns-in-Number-clause-wide : goal.returns-in-Number-clause-wide
returns-in-Number-clause-wide c =
    let s = sound_at c.args.tokens.now c.args.at c.in-Some.token.now c.requires c.in-Some.ensures.lookup.3.0 c.in-Some.ensures.lookup.1 in
    let k = rw c.in-Number.is at s in k.1

pub returns-in-Number-clause-fits : goal.returns-in-Number-clause-fits
returns-in-Number-clause-fits c =
    let s = sound_at c.args.tokens.now c.args.at c.in-Some.token.now c.requires c.in-Some.ensures.lookup.3.0 c.in-Some.ensures.lookup.1 in
    let k = rw c.in-Number.is at s in k.2
