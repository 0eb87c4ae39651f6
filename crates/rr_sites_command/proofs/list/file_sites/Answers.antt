use Rattle.std.proofs.Common.{List, arith}
use Rattle.rr_syntax.specs.View.{plain_source}
use Rattle.rr_lex.specs.Tokens.{lexemes}
use Rattle.rr_flat.specs.View.{plain_flat}
use Rattle.rr_choice.specs.Sites.{Site}
use Rattle.rr_kept.specs.Kept.{AreKept}
use Rattle.rr_lawful_instance.specs.Listed.{AreRight}
use Rattle.rr_sites_command.proofs.Given.{if_ok, kept_right}
use Rattle.rr_sites_command.specs.Lists.{AreSites}
use Rattle.rr_sites_command.proofs.list.file_sites.Goals as goal

pub design_sites-requires-clause-tree : goal.design_sites-requires-clause-tree
design_sites-requires-clause-tree c = (c.args.file.now.expanded.text.items, c.requires.tree)

pub kept-requires-clause-few : goal.kept-requires-clause-few
kept-requires-clause-few c = let small = c.requires.small in omega (arith, small)

pub kept-requires-clause-tokens : goal.kept-requires-clause-tokens
kept-requires-clause-tokens c = c.requires.tree.1.text.lexed

pub kept-requires-clause-tree : goal.kept-requires-clause-tree
kept-requires-clause-tree c = c.requires.tree.1.text.spells.tree.spells

pub kept-requires-clause-numbered : goal.kept-requires-clause-numbered
kept-requires-clause-numbered c = c.requires.tree.1.text.spells.numbered

pub returns-clause-kept : goal.returns-clause-kept
returns-clause-kept c =
    let origins = c.args.file.now.expanded.origins.items in
    let ts = lexemes c.args.file.now.design.tokens.now in
    let source = plain_source c.args.file.now.design.source.now in
    let flat = plain_flat c.args.file.now.design.flat in
    if_ok (λ (ss : List Site). AreKept origins ts source c.in_ok-listed.listed ss)
    (λ (ss : List Site). (listed : List Site) × (AreSites source flat c.args.file.now.design.order.clock listed × AreKept origins ts source listed ss)) c.kept.result
    (λ ss k. (c.in_ok-listed.listed, (c.in_ok-listed.ensures.list, k))) c.kept.ensures

pub returns-clause-right : goal.returns-clause-right
returns-clause-right c = λ word o.
    let origins = c.args.file.now.expanded.origins.items in
    let ts = lexemes c.args.file.now.design.tokens.now in
    let source = plain_source c.args.file.now.design.source.now in
    let flat = plain_flat c.args.file.now.design.flat in
    if_ok (λ (ss : List Site). AreKept origins ts source c.in_ok-listed.listed ss) (λ (ss : List Site). AreRight source flat word ss) c.kept.result
    (λ ss k. kept_right origins ts source flat word c.in_ok-listed.listed ss k (c.in_ok-listed.ensures.right word o)) c.kept.ensures
