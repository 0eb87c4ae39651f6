use Rattle.rr_writers.proofs.reaches.word_of.Goals as goal

pub returns : goal.returns
returns c =
    let e = c.in_ok-signal.ensures in
    λ i. record c.args.reach.now.piece { signal = e i }
