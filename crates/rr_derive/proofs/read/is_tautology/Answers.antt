use Rattle.std.proofs.Common.{◌≡◌, ◌∙◌, ap, false, subst, sym, take, true}
use Rattle.std.specs.BTreeSet.{Updates, contains_by, insert_key}
use Rattle.std.specs.Ordering.{nat_cmp}
use Rattle.std.proofs.lemmas.List.{take_all}
use Rattle.std.proofs.lemmas.List.Elements.{Contains-get_or}
use Rattle.std.specs.Prelude.{Contains}
use Rattle.rr_cnf.specs.Clauses.{negated}
use Rattle.rr_cnf.specs.Codes.{code_of}
use Rattle.rr_derive.specs.Derive.{IsNoTautology}
use Rattle.rr_derive.proofs.MarkLaws.{take_read}
use Rattle.rr_derive.proofs.Signs.{Coded, Coded-none, both_signs, one_more}
use Rattle.rr_derive.proofs.read.is_tautology.Goals as goal

pub loop-lit-init : goal.loop-lit-init
loop-lit-init c = Coded-none _ c.new-codes.ensures.empty

pub loop-lit-preserved : goal.loop-lit-preserved
loop-lit-preserved c =
    let l = c.lit-item.result in
    let clause = c.args.clause.now in
    let there : c.code.result ≡ code_of (negated l) = c.code.ensures ∙ ap code_of c.negated.ensures in
    let free = subst (λ k. contains_by (nat_cmp k) c.loop-lit.codes ≡ false) there (sym c.contains.ensures ∙ c.if-contains.false) in
    let here : c.code-in-loop-lit.result ≡ code_of l = c.code-in-loop-lit.ensures in
    let more = one_more c.loop-lit.codes c.insert.new.self (take c.loop-lit.lit-index clause) l c.loop-lit.invariant free
    (subst (λ k. Updates nat_cmp c.loop-lit.codes c.insert.new.self k true) here c.in_ok-insert.ensures.updates)
    (c.in_ok-insert.ensures.keys ∙ ap (insert_key nat_cmp c.loop-lit.codes.keys) here) in
    subst (Coded c.insert.new.self) (take_read clause c.loop-lit.lit-index l c.loop-lit-test.true c.lit-item.is) more

pub returns-then-contains : goal.returns-then-contains
returns-then-contains c =
    let l = c.lit-item.result in
    let there : c.code.result ≡ code_of (negated l) = c.code.ensures ∙ ap code_of c.negated.ensures in
    both_signs c.loop-lit.codes c.loop-lit.lit-index c.args.clause.now l c.loop-lit.invariant
    (subst (Contains c.args.clause.now) (sym c.lit-item.is) (Contains-get_or c.args.clause.now c.loop-lit.lit-index l c.loop-lit-test.true))
    (subst (λ k. contains_by (nat_cmp k) c.loop-lit.codes ≡ true) there (sym c.contains.ensures ∙ c.if-contains.true))

pub returns : goal.returns
returns c = subst IsNoTautology (take_all c.loop-lit.lit-index c.args.clause.now c.loop-lit-test.false) c.loop-lit.invariant.apart
