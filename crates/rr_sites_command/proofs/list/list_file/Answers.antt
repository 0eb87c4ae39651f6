use Rattle.std.proofs.Common.{◌≡◌, ◌∙◌, ap, ℕ, List, sym, subst}
use Rattle.std.specs.Prelude.{All}
use Rattle.rr_syntax.specs.View.{plain_source}
use Rattle.rr_syntax.specs.Words.{Word}
use Rattle.rr_lex.specs.Tokens.{IsSound, lexemes, words_of}
use Rattle.rr_lex.proofs.Sound.{words_sound}
use Rattle.rr_flat.specs.View.{plain_flat}
use Rattle.rr_run.specs.Files.{placed_tokens}
use Rattle.rr_sites_command.specs.View.{source_file}
use Rattle.rr_sites_command.proofs.Given.{has, placed_words, told}
use Rattle.rr_sites_command.proofs.list.list_file.Goals as goal

pub told-requires : goal.told-requires
told-requires c =
    let file = c.args.file.now in
    let ts = lexemes file.design.tokens.now in
    let same : lexemes c.as_slice.result.now ≡ placed_tokens file.expanded.origins.items c.args.size ts = ap lexemes c.as_slice.ensures.value ∙ c.in-Ok-placed_tokens.ensures in
    subst (λ (ws : List Word). All IsSound ws) (sym (ap words_of same ∙ placed_words file.expanded.origins.items c.args.size ts)) (words_sound file.expanded.text.items ts c.requires.tree.1.text.lexed)

pub returns-in-Ok-placed_tokens : goal.returns-in-Ok-placed_tokens
returns-in-Ok-placed_tokens c = λ bytes top word is taken d o.
    let file = c.args.file.now in
    let ts = lexemes file.design.tokens.now in
    let source = plain_source file.design.source.now in
    let flat = plain_flat file.design.flat in
    let k = c.in-Ok.ensures.kept in
    let same : lexemes c.as_slice.result.now ≡ placed_tokens file.expanded.origins.items c.args.size ts = ap lexemes c.as_slice.ensures.value ∙ c.in-Ok-placed_tokens.ensures in
    told bytes top word (source_file file) c.in-Ok.list
    (has file.expanded.text.items ts source top flat d bytes file.expanded.origins.items word file.design.order.clock file.design.order.rising taken o.0 o.1.one_clock k.0 c.in-Ok.list k.1.0 k.1.1)
    (λ text. text.items) c.told.result (lexemes c.as_slice.result.now) (same ∙ ap (λ (n : ℕ). placed_tokens file.expanded.origins.items n ts) (sym is)) c.told.ensures
