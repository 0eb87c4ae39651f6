use Rattle.std.proofs.Common.{◌≡◌, ◌∙◌, sym, ap, true, is_some, rules}
use Rattle.std.specs.Map.{lookup as looked_up}
use Rattle.std.specs.Str.{bytes_eq}
use Rattle.rr_trace.specs.Names.{number_of}
use Rattle.rr_trace.proofs.Entries.{added_last, none_of, same_number, stays}
use Rattle.rr_trace.proofs.names.Numbers.add.Goals as goal
use Rattle.rr_trace.proofs.names.Numbers.add.Goals.{in-Ok, in-Err}

pub returns-then-contains_key : goal.returns-then-contains_key
returns-then-contains_key c =
    let same = same_number c.args.name.now c.self.inside.names.entries in
    let there : is_some (number_of c.args.name.now c.args.self.now) ≡ true = rw (← c.self.view_is) (ap is_some same ∙ (sym c.contains_key.ensures ∙ c.if-contains_key.true)) in
    stays c.args.name.now c.args.number c.args.self.now there

pub returns : goal.returns
returns c =
    let none = none_of (looked_up (λ k. bytes_eq c.args.name.now k.now) c.self.inside.names.entries) (sym c.contains_key.ensures ∙ c.if-contains_key.false) in
    let last = added_last c.args.name c.args.number c.self.inside.names.entries none in
    elim c.match-insert.branch [
      | in-Ok w ↦ rw (w.result-is, ← c.self.view_is, w.in-Ok.ensures.entries) (λ t. ap (number_of t) last)
      | in-Err w ↦ rw w.result-is (search rules)
    ]
