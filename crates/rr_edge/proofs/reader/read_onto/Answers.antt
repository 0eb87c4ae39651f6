use Rattle.std.proofs.Common.{◌≡◌, ◌+◌, ◌∙◌, ap, sym, subst, take, drop, length, rules}
use Rattle.std.specs.Io.KnownBytes.{Consumes}
use Rattle.std.proofs.lemmas.List.{with_items_is, places, drop-take}
use Rattle.rr_edge.proofs.reader.read_onto.Goals as goal

-- what stands after the old bytes is what the read put there
pub returns-clause-read : goal.returns-clause-read
returns-clause-read g c =
    let old = c.args.bytes.now.items in
    let start = c.len-start.result in
    let count = c.in_ok-count.count in
    let kept : c.truncate.new.self.items ≡ take (start + count) c.read_at.new.buf =
    c.truncate.ensures.items ∙ ap (take (start + count)) (with_items_is c.resize.new.self c.read_at.new.buf (search (rules, places))) in
    let len : length old ≡ start = search (rules, places) in
    subst (Consumes _ _) (sym (ap (drop (length old)) kept ∙ ap (λ n. drop n (take (start + count) c.read_at.new.buf)) len ∙ drop-take start count c.read_at.new.buf)) c.in_ok-count.ensures.ok
