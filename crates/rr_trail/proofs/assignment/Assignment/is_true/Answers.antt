use Rattle.std.proofs.Common.{◌≡◌, ◌∙◌, Bool, false, sym, subst, get_or}
use Rattle.std.specs.Prelude.{Contains, IsTrue, ◌↔◌, vec_capacity}
use Rattle.std.proofs.lemmas.List.{get_or_default}
use Rattle.rr_cnf.specs.Codes.{code_of}
use Rattle.rr_trail.proofs.TableLaws.{code_in_table, held_is, within_in}
use Rattle.rr_trail.proofs.assignment.Assignment.is_true.Goals as goal

pub returns : goal.returns
returns c =
    let o = c.self.inside in
    let l = c.args.lit in
    let inside = code_in_table o.truths.items o.variables.items o.lits.items (vec_capacity o.lits) c.self.invariant l (within_in o.variables.items o.lits.items _ c.self.view_is l c.requires) in
    let read : c.index.result.now ≡ get_or o.truths.items (code_of l) false = rw (← c.code.ensures) c.index.ensures ∙ get_or_default o.truths.items (code_of l) c.index.result.now false inside in
    subst (λ t. IsTrue c.index.result.now ↔ Contains t l) (held_is o.variables.items o.lits.items _ c.self.view_is) (subst (λ (b : Bool). IsTrue b ↔ Contains o.lits.items l) (sym read) (c.self.invariant.told l))
