-- The reading of the text of a use, step by step.
use Rattle.std.proofs.Common.{ℕ, ◌≡◌, ◌+◌, ◌≤◌, ◌<◌, List, [], ◌∷◌, ◌++◌, length, Bool, Result, Ok, Err, ap, ◌∙◌, sym, subst, arith}
use Rattle.std.specs.Result.{OnOk}
use Rattle.std.proofs.lemmas.List.{append_assoc, append-nil, map-append, length-append, length-map}
use Rattle.rr_directive.specs.declared.output.Output.{Output}
use Rattle.rr_directive.specs.declared.output.Stop.{Stop}
use Rattle.rr_directive.specs.declared.output.Stop.TheVariants as stop
use Rattle.rr_directive.specs.declared.using.Frame.{Frame}
use Rattle.rr_directive.specs.Expand.{Item, Byte, Use, Definition, Event, Step, Gives, Uses, Halt, Whole, Failed, Cut, Reads, from_use, stands_for}
use Rattle.rr_directive.specs.View.{Advances, AreLeft, Begins, Begun, Goes, Left, left_names, ReadsOn, ended, Opens, Overflows, Shows, UseAnswers, UseGives}
use Rattle.rr_directive.proofs.Frames.{behind, on_byte, on_use, on_end, at_first, unfit_first, unfit_within, full_first, full_use, full_byte, none_left}

left_is : (ds : List Definition) (l : Left) (ls : List Left) (rest : List Item) (steps : List Step) (halt : Halt) → l.rest ≡ rest → ReadsOn ds (behind l rest ∷ ls) steps halt → ReadsOn ds (l ∷ ls) steps halt
left_is ds l ls rest steps halt e t = subst (λ (xs : List Item). ReadsOn ds (behind l xs ∷ ls) steps halt) (sym e) t

pub end_answers : (names : List (List ℕ)) (ds : List Definition) (l : Left) (ls : List Left) (events : List Event) (at : ℕ) (flags : List Bool) (frames : List Frame) (out : Output) →
    l.rest ≡ [] → AreLeft names frames ls → Opens names flags (left_names ls) → Shows out events → Goes names ds (l ∷ ls) events at flags frames out
end_answers names ds l ls events at flags frames out e a o s = record {
  steps = [];
  left = ls;
  shows = subst (Shows out) (sym (append-nil events)) s;
  stack = a;
  opens = o;
  leads = λ steps halt t. on_end ds l ls steps halt e t;
}

pub byte_answers : {T : Type 0} (names : List (List ℕ)) (ds : List Definition) (l : Left) (ls : List Left) (events : List Event) (at : ℕ) (flags : List Bool) (frames : List Frame) (old out : Output) (b : ℕ) (rest : List Item)
    (r : Result T Stop) → l.rest ≡ Byte b ∷ rest → AreLeft names frames (behind l rest ∷ ls) → Opens names flags (l.name ∷ left_names ls) → Shows old events →
    OnOk r ((es : List Event) → Shows old es → Shows out (es ++ (stands_for at (Gives b) ∷ []))) → Overflows old.left 1 r → Advances names ds (l ∷ ls) events at flags frames out r
byte_answers names ds l ls events at flags frames old out b rest (Ok x) e a o s g f = record {
  steps = Gives b ∷ [];
  left = behind l rest ∷ ls;
  shows = g events s;
  stack = a;
  opens = o;
  leads = λ steps halt t. left_is ds l ls (Byte b ∷ rest) (Gives b ∷ steps) halt e (on_byte ds (behind l rest) ls b steps halt t);
}
byte_answers names ds l ls events at flags frames old out b rest (Err (stop.Wrong w)) e a o s g f = absurd f
byte_answers names ds l ls events at flags frames old out b rest (Err stop.Full) e a o s g f = record {
  steps = Gives b ∷ [];
  reads = left_is ds l ls (Byte b ∷ rest) (Gives b ∷ []) Cut e (full_byte ds l ls b rest);
  many = omega (arith, s.left);
}
byte_answers names ds l ls events at flags frames old out b rest (Err stop.Memory) e a o s g f = tt

pub use_answers : {T : Type 0} (names : List (List ℕ)) (ds : List Definition) (l : Left) (ls : List Left) (events : List Event) (at : ℕ) (flags : List Bool) (frames : List Frame) (out : Output) (name : List ℕ) (rest : List Item)
    (r : Result T Stop) → l.rest ≡ Use name ∷ rest → Begins names ds name (behind l rest ∷ ls) events at flags frames out r → Advances names ds (l ∷ ls) events at flags frames out r
use_answers names ds l ls events at flags frames out name rest (Ok x) e b = record {
  steps = Uses ∷ [];
  left = record { name = name; rest = b.text } ∷ (behind l rest ∷ ls);
  shows = b.shows;
  stack = b.stack;
  opens = b.opens;
  leads = λ steps halt t. left_is ds l ls (Use name ∷ rest) (Uses ∷ steps) halt e (on_use ds (behind l rest) ls name b.text steps halt b.defined b.fresh t);
}
use_answers names ds l ls events at flags frames out name rest (Err (stop.Wrong w)) e b = record {
  steps = Uses ∷ [];
  reads = left_is ds l ls (Use name ∷ rest) (Uses ∷ []) (Failed w) e (unfit_within ds l ls name rest w b.0);
  few = b.1;
}
use_answers names ds l ls events at flags frames out name rest (Err stop.Full) e b = record {
  steps = Uses ∷ [];
  reads = left_is ds l ls (Use name ∷ rest) (Uses ∷ []) Cut e (full_use ds l ls name rest);
  many = b;
}
use_answers names ds l ls events at flags frames out name rest (Err stop.Memory) e b = tt

-- ---- from the use on

pub record Running (names : List (List ℕ)) (ds : List Definition) (name : List ℕ) (events : List Event) (at : ℕ) (flags : List Bool) (frames : List Frame) (out : Output) : Type 0 where
  pub gone : List Step
  pub left : List Left
  pub shows : Shows out (events ++ from_use at gone)
  pub stack : AreLeft names frames left
  pub opens : Opens names flags (left_names left)
  pub leads : (steps : List Step) (halt : Halt) → ReadsOn ds left steps halt → Reads ds [] (Use name ∷ []) (gone ++ steps) halt

pub begun : (names : List (List ℕ)) (ds : List Definition) (name : List ℕ) (events : List Event) (at : ℕ) (flags : List Bool) (frames : List Frame) (out : Output) →
    Begun names ds name [] events at flags frames out → Running names ds name events at flags frames out
begun names ds name events at flags frames out b = record {
  gone = Uses ∷ [];
  left = record { name = name; rest = b.text } ∷ [];
  shows = b.shows;
  stack = b.stack;
  opens = b.opens;
  leads = λ steps halt t. at_first ds name b.text steps halt b.defined t;
}

pub first_fails : (T U : Type 0) (names : List (List ℕ)) (ds : List Definition) (name : List ℕ) (events : List Event) (at : ℕ) (flags : List Bool) (frames : List Frame) (out : Output) (e : Stop) →
    Begins {T = T} names ds name [] events at flags frames out (Err e) → UseAnswers {T = U} names ds name events at flags out (Err e)
first_fails T U names ds name events at flags frames out (stop.Wrong w) b = record { steps = Uses ∷ []; reads = unfit_first ds name w b.0; few = b.1 }
first_fails T U names ds name events at flags frames out stop.Full b = record { steps = Uses ∷ []; reads = full_first ds name; many = b }
first_fails T U names ds name events at flags frames out stop.Memory b = tt

from_append : (events : List Event) (at : ℕ) (gone steps : List Step) → (events ++ from_use at gone) ++ from_use at steps ≡ events ++ from_use at (gone ++ steps)
from_append events at gone steps = append_assoc events (from_use at gone) (from_use at steps) ∙ ap (λ (xs : List Event). events ++ xs) (sym (map-append (stands_for at) gone steps))

-- the innermost text is taken off, and one step is made with it
pub went : (names : List (List ℕ)) (ds : List Definition) (name : List ℕ) (events : List Event) (at : ℕ) (flags : List Bool) (frames : List Frame) (out out' : Output) (flags' : List Bool) (frames' : List Frame) (l : Left) (ls : List Left)
    (r : Running names ds name events at flags frames out) → r.left ≡ l ∷ ls → Goes names ds (l ∷ ls) (events ++ from_use at r.gone) at flags' frames' out' → Running names ds name events at flags' frames' out'
went names ds name events at flags frames out out' flags' frames' l ls r e g = record {
  gone = r.gone ++ g.steps;
  left = g.left;
  shows = subst (Shows out') (from_append events at r.gone g.steps) g.shows;
  stack = g.stack;
  opens = g.opens;
  leads = λ steps halt t. subst (λ (xs : List Step). Reads ds [] (Use name ∷ []) xs halt) (sym (append_assoc r.gone g.steps steps))
      (r.leads (g.steps ++ steps) halt (subst (λ (ms : List Left). ReadsOn ds ms (g.steps ++ steps) halt) (sym e) (g.leads steps halt t)));
}

met_all : (events : List Event) (at : ℕ) (gone steps : List Step) → length (events ++ from_use at gone) + length steps ≡ length events + length (gone ++ steps)
met_all events at gone steps = omega (arith, length-append events (from_use at gone), length-map gone (stands_for at), length-append gone steps)

pub run_fails : (T U : Type 0) (names : List (List ℕ)) (ds : List Definition) (name : List ℕ) (events : List Event) (at : ℕ) (flags : List Bool) (frames : List Frame) (out out' : Output) (flags' : List Bool) (frames' : List Frame) (l : Left) (ls : List Left) (e : Stop)
    (r : Running names ds name events at flags frames out) → r.left ≡ l ∷ ls → Advances {T = T} names ds (l ∷ ls) (events ++ from_use at r.gone) at flags' frames' out' (Err e) → UseAnswers {T = U} names ds name events at flags' out' (Err e)
run_fails T U names ds name events at flags frames out out' flags' frames' l ls (stop.Wrong w) r e g = record {
  steps = r.gone ++ g.steps;
  reads = r.leads g.steps (Failed w) (subst (λ (ms : List Left). ReadsOn ds ms g.steps (Failed w)) (sym e) g.reads);
  few = subst (λ (n : ℕ). n ≤ 1048576) (met_all events at r.gone g.steps) g.few;
}
run_fails T U names ds name events at flags frames out out' flags' frames' l ls stop.Full r e g = record {
  steps = r.gone ++ g.steps;
  reads = r.leads g.steps Cut (subst (λ (ms : List Left). ReadsOn ds ms g.steps Cut) (sym e) g.reads);
  many = subst (λ (n : ℕ). 1048576 < n) (met_all events at r.gone g.steps) g.many;
}
run_fails T U names ds name events at flags frames out out' flags' frames' l ls stop.Memory r e g = tt

pub run_ends : (names : List (List ℕ)) (ds : List Definition) (name : List ℕ) (events : List Event) (at : ℕ) (flags : List Bool) (frames : List Frame) (out : Output)
    (r : Running names ds name events at flags frames out) → frames ≡ [] → UseGives names ds name events at flags out
run_ends names ds name events at flags frames out r e =
    let z : r.left ≡ [] = none_left names frames r.left e r.stack in
    record {
      steps = r.gone;
      reads = subst (λ (xs : List Step). Reads ds [] (Use name ∷ []) xs Whole) (append-nil r.gone) (r.leads [] Whole (subst (λ (ms : List Left). ReadsOn ds ms [] Whole) (sym z) ended));
      shows = r.shows;
      opens = subst (λ (ms : List Left). Opens names flags (left_names ms)) z r.opens;
    }
