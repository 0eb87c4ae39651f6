use Rattle.std.proofs.Common.{◌∙◌, sym, ap, not, map, rules}
use Rattle.std.specs.List.{list_any}
use Rattle.std.specs.Str.{bytes_eq}
use Rattle.rr_guard.proofs.Sets.{same_any, added_text, any_added}
use Rattle.rr_guard.proofs.texts.TextSet.add.Goals as goal
use Rattle.rr_guard.proofs.texts.TextSet.add.Goals.{in-Ok, in-Err}

pub returns-clause-was_new : goal.returns-clause-was_new
returns-clause-was_new c =
    let same = same_any c.args.text.now c.self.inside.texts.keys in
    elim c.match-insert.branch [
      | in-Ok w ↦ rw (w.result-is, ← c.self.view_is) (w.in-Ok.ensures.added ∙ sym (ap not same))
      | in-Err w ↦ rw w.result-is (search rules)
    ]

pub returns-clause-added : goal.returns-clause-added
returns-clause-added c =
    let last = added_text c.args.text c.self.inside.texts.keys in
    elim c.match-insert.branch [
      | in-Ok w ↦ rw (w.result-is, ← c.self.view_is, w.in-Ok.ensures.keys) last
      | in-Err w ↦ rw w.result-is (search rules)
    ]

pub returns-clause-among : goal.returns-clause-among
returns-clause-among c =
    let last = added_text c.args.text c.self.inside.texts.keys in
    elim c.match-insert.branch [
      | in-Ok w ↦ rw (w.result-is, ← c.self.view_is, w.in-Ok.ensures.keys) (λ name. ap (list_any (bytes_eq name)) last ∙ any_added name c.args.text.now (map (λ k. k.now) c.self.inside.texts.keys))
      | in-Err w ↦ rw w.result-is (search rules)
    ]
