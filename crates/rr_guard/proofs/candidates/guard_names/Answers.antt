use Rattle.std.proofs.Common.{◌∙◌, ap, true, false, map, filter}
use Rattle.rr_syntax.specs.Tree.{Identifier}
use Rattle.rr_syntax.specs.View.{plain_identifier, plain_module, texts}
use Rattle.rr_guard.specs.Candidates.{may_be}
use Rattle.rr_guard.specs.Names.{firsts}
use Rattle.rr_guard.proofs.Chosen.{names_told}
use Rattle.rr_guard.proofs.candidates.guard_names.Goals as goal

pub returns : goal.returns
returns c =
    let u = c.in_ok-uses.uses in
    let names = c.in_ok-names.ensures ∙ ap (λ xs. firsts (map plain_identifier xs)) c.as_slice.ensures.value in
    record {
      clocked = names_told (plain_module c.args.«module».now) (texts c.args.place.now.clocks.now) u c.in_ok-uses.ensures true _ _ _ _ c.in_ok-declared.ensures names
          (c.in_ok-clocked.ensures ∙ ap (λ xs. filter (λ (x : Identifier). may_be u true x.text) (map plain_identifier xs)) c.as_slice-2.ensures.value) c.shorten.ensures;
      elsewhere = names_told (plain_module c.args.«module».now) (texts c.args.place.now.clocks.now) u c.in_ok-uses.ensures false _ _ _ _ c.in_ok-declared.ensures names
          (c.in_ok-elsewhere.ensures ∙ ap (λ xs. filter (λ (x : Identifier). may_be u false x.text) (map plain_identifier xs)) c.as_slice-3.ensures.value) c.shorten-2.ensures;
    }
