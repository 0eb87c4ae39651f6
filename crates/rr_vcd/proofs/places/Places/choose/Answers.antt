use Rattle.std.proofs.Common.{◌∙◌, sym, ap, arith, not}
use Rattle.std.specs.Prelude.{is_some}
use Rattle.std.specs.List.{list_all}
use Rattle.rr_vcd.specs.View.{plain_port, plain_top, place_at}
use Rattle.rr_vcd.proofs.Scoping.{Sought-none, Sought-neither, Sought-new, Sought-kept, Sought-whole, Sought-all, has_all_is}
use Rattle.rr_vcd.proofs.places.Places.choose.Goals as goal
use Rattle.rr_vcd.proofs.places.Places.choose.Goals.{then-has_all+else-has_all-2+then-is_none, then-has_all+else-has_all-2+else-is_none, else-has_all}

pub loop-scope-init : goal.loop-scope-init
loop-scope-init c = λ d places. Sought-none _ d

pub returns-then-has_all-2 : goal.returns-then-has_all-2
returns-then-has_all-2 c = λ d places count.
    let at = c.loop-scope.scope in
    let every = c.has_all.ensures ∙ (ap (list_all (λ x. is_some (place_at at (plain_port x) c.args.self.now))) c.as_slice.ensures.value ∙ has_all_is plain_port d at c.args.self.now places c.args.top.now.every.items) in
    let outputs = c.has_all-then-has_all.ensures ∙ (ap (list_all (λ x. is_some (place_at at (plain_port x) c.args.self.now))) c.as_slice-then-has_all.ensures.value ∙ has_all_is plain_port d at c.args.self.now places c.args.top.now.outputs.items) in
    Sought-whole (plain_top c.args.top.now) d at c.loop-scope.alone (c.loop-scope.invariant d places) (sym every ∙ c.if-has_all.true) (sym outputs ∙ c.if-has_all-2.true) (omega (arith, count, c.loop-scope-test.true))

pub loop-scope-preserved : goal.loop-scope-preserved
loop-scope-preserved c = λ d places.
    let at = c.loop-scope.scope in
    let every = c.has_all.ensures ∙ (ap (list_all (λ x. is_some (place_at at (plain_port x) c.args.self.now))) c.as_slice.ensures.value ∙ has_all_is plain_port d at c.args.self.now places c.args.top.now.every.items) in
    elim c.if-has_all.branch [
      | then-has_all+else-has_all-2+then-is_none w ↦
          let outputs = w.has_all-then-has_all.ensures ∙ (ap (list_all (λ x. is_some (place_at at (plain_port x) c.args.self.now))) w.as_slice-then-has_all.ensures.value ∙ has_all_is plain_port d at c.args.self.now places c.args.top.now.outputs.items) in
          rw w.alone-is (Sought-new (plain_top c.args.top.now) d at c.loop-scope.alone (c.loop-scope.invariant d places) (w.is_none.ensures ∙ ap not w.if-is_none.true) (sym every ∙ w.if-has_all.true) (sym outputs ∙ w.if-has_all-2.false))
      | then-has_all+else-has_all-2+else-is_none w ↦
          let outputs = w.has_all-then-has_all.ensures ∙ (ap (list_all (λ x. is_some (place_at at (plain_port x) c.args.self.now))) w.as_slice-then-has_all.ensures.value ∙ has_all_is plain_port d at c.args.self.now places c.args.top.now.outputs.items) in
          rw w.alone-is (Sought-kept (plain_top c.args.top.now) d at c.loop-scope.alone (c.loop-scope.invariant d places) (w.is_none.ensures ∙ ap not w.if-is_none.false) (sym every ∙ w.if-has_all.true) (sym outputs ∙ w.if-has_all-2.false))
      | else-has_all w ↦ rw w.alone-is (Sought-neither (plain_top c.args.top.now) d at c.loop-scope.alone (c.loop-scope.invariant d places) (sym every ∙ w.if-has_all.false))
    ]

pub returns : goal.returns
returns c = λ d places count. Sought-all _ d c.loop-scope.scope c.args.scopes _ (c.loop-scope.invariant d places) (omega (arith, c.loop-scope.auto.scope-end, c.loop-scope-test.false)) count
