use Rattle.std.proofs.Common.{◌≡◌, ◌∙◌, ◌<◌, ap, sym, subst, length, refl}
use Rattle.std.specs.Prelude.{Some}
use Rattle.rr_cnf.specs.Codes.{code_of}
use Rattle.rr_watch_lists.specs.Holdings.{Held, held_at}
use Rattle.rr_watch.specs.Lists.{IsOther, IsPlaced, IsReplacement, literal_at}
use Rattle.rr_watch_lists.specs.Lists.{Listed, list_at}
use Rattle.rr_watch.proofs.StateSteps.{State-rewatch, rewatch_room, rewatch_numbered, rewatch_length, rewatch_served, literal_is}
use Rattle.rr_watch.proofs.AdvanceLaws.{other_bound}
use Rattle.rr_watch.proofs.propagator.Propagator.rewatch.Goals as goal

pub push-requires-clause-room : goal.push-requires-clause-room
push-requires-clause-room c =
    let o = c.args.self.now in
    let q = c.args.falsified in
    let i = c.place-index.result in
    let h = held_at o.hand.held i in
    let n : Held = record { id = h.id; clause = h.clause; first = c.args.other; second = c.args.found } in
    let index = c.place-index.ensures ∙ ap (λ v. v.place) c.watcher.ensures.is in
    let other : IsOther h q (Some c.args.other) = subst (λ k. IsOther (held_at o.hand.held k) q (Some c.args.other)) (sym index) c.requires.other in
    let found : IsReplacement o.trail.entries h.clause (literal_at h.clause c.args.other) (Some c.args.found) = subst (λ k. IsReplacement o.trail.entries (held_at o.hand.held k).clause (literal_at (held_at o.hand.held k).clause c.args.other) (Some c.args.found)) (sym index) c.requires.found in
    let same = c.clause-clause.ensures in
    let lit : c.index-clause-found.result ≡ literal_at h.clause c.args.found = literal_is c.clause-clause.result.now h.clause c.args.found c.index-clause-found.result same found.0 c.index-clause-found.is in
    subst (λ l. length (list_at c.remove.new.self (code_of l)).entries < (list_at c.remove.new.self (code_of l)).uses) (sym lit) (rewatch_room o.trail o.hand.held o.lists o.short.items o.settled o.head o.late c.requires.whole c.remove.new.self q c.args.at i c.args.other c.args.found n c.requires.at index other found c.requires.next.inside c.requires.next.literal refl refl refl refl c.remove.ensures)

pub returns-clause-whole : goal.returns-clause-whole
returns-clause-whole c =
    let o = c.args.self.now in
    let q = c.args.falsified in
    let i = c.place-index.result in
    let h = held_at o.hand.held i in
    let n : Held = record { id = h.id; clause = h.clause; first = c.args.other; second = c.args.found } in
    let index = c.place-index.ensures ∙ ap (λ v. v.place) c.watcher.ensures.is in
    let other : IsOther h q (Some c.args.other) = subst (λ k. IsOther (held_at o.hand.held k) q (Some c.args.other)) (sym index) c.requires.other in
    let found : IsReplacement o.trail.entries h.clause (literal_at h.clause c.args.other) (Some c.args.found) = subst (λ k. IsReplacement o.trail.entries (held_at o.hand.held k).clause (literal_at (held_at o.hand.held k).clause c.args.other) (Some c.args.found)) (sym index) c.requires.found in
    let same = c.clause-clause.ensures in
    let lit : c.index-clause-found.result ≡ literal_at h.clause c.args.found = literal_is c.clause-clause.result.now h.clause c.args.found c.index-clause-found.result same found.0 c.index-clause-found.is in
    let placed = subst (λ k. IsPlaced (held_at o.hand.held k)) (sym c.place-index.ensures) c.watcher.ensures.watches.placed in
    let blocker : c.index-clause-other.result ≡ literal_at h.clause c.args.other = literal_is c.clause-clause.result.now h.clause c.args.other c.index-clause-other.result same (other_bound h q c.args.other placed other) c.index-clause-other.is in
    let on = subst (λ l. Listed c.remove.new.self c.push.new.self (code_of l) c.new.result) lit c.push.ensures in
    rw c.rewatch.ensures (State-rewatch o.trail o.hand.held o.lists o.short.items o.settled o.head o.late c.requires.whole c.remove.new.self q c.args.at i c.args.other c.args.found n c.requires.at index other found c.requires.next.inside c.requires.next.literal refl refl refl refl c.remove.ensures c.push.new.self c.new.result on c.new.ensures.place (c.new.ensures.blocker ∙ blocker) c.new.ensures.brief)

pub returns-clause-stays : goal.returns-clause-stays
returns-clause-stays c =
    let o = c.args.self.now in
    let q = c.args.falsified in
    let i = c.place-index.result in
    let h = held_at o.hand.held i in
    let n : Held = record { id = h.id; clause = h.clause; first = c.args.other; second = c.args.found } in
    let index = c.place-index.ensures ∙ ap (λ v. v.place) c.watcher.ensures.is in
    let other : IsOther h q (Some c.args.other) = subst (λ k. IsOther (held_at o.hand.held k) q (Some c.args.other)) (sym index) c.requires.other in
    let found : IsReplacement o.trail.entries h.clause (literal_at h.clause c.args.other) (Some c.args.found) = subst (λ k. IsReplacement o.trail.entries (held_at o.hand.held k).clause (literal_at (held_at o.hand.held k).clause c.args.other) (Some c.args.found)) (sym index) c.requires.found in
    rw c.rewatch.ensures (record { trail = refl; clauses = rewatch_numbered o.trail o.hand.held o.lists o.short.items o.settled o.head o.late c.requires.whole c.remove.new.self q c.args.at i c.args.other c.args.found n c.requires.at index other found c.requires.next.inside c.requires.next.literal refl refl refl refl c.remove.ensures })

pub returns-clause-stepped : goal.returns-clause-stepped
returns-clause-stepped c =
    let o = c.args.self.now in
    let q = c.args.falsified in
    let i = c.place-index.result in
    let h = held_at o.hand.held i in
    let n : Held = record { id = h.id; clause = h.clause; first = c.args.other; second = c.args.found } in
    let index = c.place-index.ensures ∙ ap (λ v. v.place) c.watcher.ensures.is in
    let other : IsOther h q (Some c.args.other) = subst (λ k. IsOther (held_at o.hand.held k) q (Some c.args.other)) (sym index) c.requires.other in
    let found : IsReplacement o.trail.entries h.clause (literal_at h.clause c.args.other) (Some c.args.found) = subst (λ k. IsReplacement o.trail.entries (held_at o.hand.held k).clause (literal_at (held_at o.hand.held k).clause c.args.other) (Some c.args.found)) (sym index) c.requires.found in
    let same = c.clause-clause.ensures in
    let lit : c.index-clause-found.result ≡ literal_at h.clause c.args.found = literal_is c.clause-clause.result.now h.clause c.args.found c.index-clause-found.result same found.0 c.index-clause-found.is in
    let placed = subst (λ k. IsPlaced (held_at o.hand.held k)) (sym c.place-index.ensures) c.watcher.ensures.watches.placed in
    let blocker : c.index-clause-other.result ≡ literal_at h.clause c.args.other = literal_is c.clause-clause.result.now h.clause c.args.other c.index-clause-other.result same (other_bound h q c.args.other placed other) c.index-clause-other.is in
    let on = subst (λ l. Listed c.remove.new.self c.push.new.self (code_of l) c.new.result) lit c.push.ensures in
    rw c.rewatch.ensures (rewatch_served o.trail o.hand.held o.lists o.short.items o.settled o.head o.late c.requires.whole c.remove.new.self q c.args.at i c.args.other c.args.found n c.requires.at index other found c.requires.next.inside c.requires.next.literal refl refl refl refl c.remove.ensures c.push.new.self c.new.result on c.new.ensures.place (c.new.ensures.blocker ∙ blocker) c.new.ensures.brief c.requires.served, rewatch_length o.trail o.hand.held o.lists o.short.items o.settled o.head o.late c.requires.whole c.remove.new.self q c.args.at i c.args.other c.args.found n c.requires.at index other found c.requires.next.inside c.requires.next.literal refl refl refl refl c.remove.ensures c.push.new.self c.new.result on c.new.ensures.place (c.new.ensures.blocker ∙ blocker) c.new.ensures.brief)
