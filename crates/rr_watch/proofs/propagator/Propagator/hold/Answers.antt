use Rattle.std.proofs.Common.{◌≡◌, ◌∙◌, sym, subst, length, refl}
use Rattle.std.proofs.lemmas.Bool.{eqb-true}
use Rattle.rr_cnf.specs.Codes.{code_of}
use Rattle.rr_watch_lists.specs.Holdings.{Held, coming}
use Rattle.rr_watch.specs.Lists.{first_of, second_of}
use Rattle.rr_watch_lists.specs.Lists.{Listed}
use Rattle.rr_watch.proofs.StateSteps.{State-hold, literal_is, seen_held}
use Rattle.rr_watch.proofs.propagator.Propagator.hold.Goals as goal

pub returns-clause-whole : goal.returns-clause-whole
returns-clause-whole c =
    let o = c.args.self.now in
    let cl = c.args.clause.now in
    let h : Held = coming o.hand c.args.source cl c.args.watched in
    let one : c.index-clause-watched.result ≡ first_of h = literal_is cl cl c.args.watched.first c.index-clause-watched.result refl c.requires.placed.first c.index-clause-watched.is in
    let two : c.index-clause-watched-2.result ≡ second_of h = literal_is cl cl c.args.watched.second c.index-clause-watched-2.result refl c.requires.placed.second c.index-clause-watched-2.is in
    let a = subst (λ l. Listed o.lists c.push-2.new.self (code_of l) c.new.result) one c.push-2.ensures in
    let b = subst (λ l. Listed c.push-2.new.self c.push-3.new.self (code_of l) c.new-2.result) two c.push-3.ensures in
    rw c.in_ok-push.ensures.ok (State-hold o.trail o.hand.held o.lists o.short.items o.settled o.head o.late c.requires.whole h c.requires.new.few c.requires.new.id c.requires.new.within c.push-2.new.self c.push-3.new.self c.new.result c.new-2.result c.requires.placed c.requires.differ c.requires.first c.requires.second c.requires.lists a b
    (c.new.ensures.place ∙ c.len-index.ensures) (c.new-2.ensures.place ∙ c.len-index.ensures) (c.new.ensures.blocker ∙ two) (c.new-2.ensures.blocker ∙ one)
    (λ e. eqb-true (length cl) 2 (sym c.new.ensures.brief ∙ e)) (λ e. eqb-true (length cl) 2 (sym c.new-2.ensures.brief ∙ e)))

pub returns-clause-seen : goal.returns-clause-seen
returns-clause-seen c =
    let o = c.args.self.now in
    let h : Held = coming o.hand c.args.source c.args.clause.now c.args.watched in
    rw c.in_ok-push.ensures.ok (λ head k b x. seen_held o.trail o.hand.held o.lists o.short.items o.settled o.head o.late c.requires.whole h c.requires.new.few c.requires.new.id c.requires.new.within c.push-2.new.self c.push-3.new.self c.new.result c.new-2.result
    (code_of c.index-clause-watched.result) (code_of c.index-clause-watched-2.result) c.push-2.ensures c.push-3.ensures o.late head k b x)
