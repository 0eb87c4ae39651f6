use Rattle.std.proofs.Common.{rules, arith, Ok, ◌≡◌, ◌∷◌, []}
use Rattle.rr_grammar.specs.Formats.{Finds, FindsNone}
use Rattle.rr_grammar.specs.Parts.{separator_of}
use Rattle.rr_parse_expr.specs.Lists.{Refuses}
use Rattle.rr_parse.proofs.Chained.{alternate_first, alternate_more}
use Rattle.rr_parse.proofs.ListsRead.{closes_behind, closes_alone, separated_made}
use Rattle.rr_parse.proofs.lists.alternating.Goals as goal
use Rattle.rr_parse.proofs.lists.alternating.Goals.{in-Some+in-Err, in_default}

pub loop-between-init : goal.loop-between-init
loop-between-init g c =
    let r : goal.F-post g c.args.read c.args.from (Ok c.in_ok-first.first) = search rules in
    let e : c.add.new.items.items ≡ c.in_ok-first.first.value ∷ [] = search rules in
    (alternate_first _ _ _ _ _ _ _ e c.new-commas.ensures.items r, (c.requires.moves c.args.from c.in_ok-first.first (omega arith) r).1)

pub loop-between-preserved : goal.loop-between-preserved
loop-between-preserved g c =
    let f : Finds separator_of c.args.tokens.now c.loop-between.next c.in-Some.between.value c.in-Some.between.next = c.in-Some.ensures in
    let r : goal.F-post g c.args.read c.in-Some.between.next (Ok c.in-Ok.more) = search rules in
    let m = c.requires.moves c.in-Some.between.next c.in-Ok.more (omega (arith, f.within)) r in
    (alternate_more _ _ _ _ _ _ _ _ _ _ _ _ c.in_ok-add-in-Ok-2.ensures c.in_ok-add-in-Ok.ensures c.loop-between.invariant.0 f r, m.1)

pub returns : goal.returns
returns g c = elim c.match-separator.branch [
  | in-Some+in-Err w ↦
      (let r : Refuses (λ at o. goal.F-post g c.args.read at o) w.in-Some.between.next = search rules in
      separated_made _ _ _ _ _ _ _ _ c.into_bump_slice-commas.ensures c.into_bump_slice-list.ensures c.loop-between.invariant.0 (closes_behind _ _ _ _ _ w.in-Some.ensures r) c.loop-between.invariant.1)
  | in_default w ↦
      (let n : FindsNone separator_of c.args.tokens.now c.loop-between.next = search rules in
      separated_made _ _ _ _ _ _ _ _ c.into_bump_slice-commas.ensures c.into_bump_slice-list.ensures c.loop-between.invariant.0 (closes_alone _ _ _ n) c.loop-between.invariant.1)
]
