-- Reading a file, unit by unit.
use Rattle.std.proofs.Common.{ℕ, ◌≡◌, ◌&&◌, List, [], ◌∷◌, ◌++◌, length, drop, Bool, true, false, not, Option, Some, None, Err, refl, ap, ◌∙◌, sym, subst, arith, inl, inr}
use Rattle.std.specs.List.{All}
use Rattle.std.proofs.lemmas.Bool.{cases_Bool}
use Rattle.std.proofs.lemmas.Bool.Decides.{nat_tests}
use Rattle.std.proofs.lemmas.List.{append_assoc, append-nil, length-append}
use Rattle.std.proofs.lemmas.List.Elements.{All-nil, All-head, All-tail, All-push}
use Rattle.rr_directive.specs.declared.fault.Wrong.TheVariants as wrong
use Rattle.rr_directive.specs.declared.output.Stop.{Stop}
use Rattle.rr_directive.specs.declared.output.Stop.TheVariants as stop
use Rattle.rr_directive.specs.declared.reading.Reader.{Reader}
use Rattle.rr_directive.specs.Pieces.{TextUnit, units, units_of}
use Rattle.rr_directive.specs.Expand.{Event, State, Faults, first_unclosed, closes, is_opening, IsFault, IsNot, Meets, more, none, Reaches, ReadsAll, start, unclosed}
use Rattle.rr_directive.specs.View.{Answers, Gave, ReadsWhole, Stands, fault_of, is_place}

pub reads_push : (s t r : State) (front : List TextUnit) (u : TextUnit) (es fs : List Event) → ReadsAll s front es t → Meets t u fs r → ReadsAll s (front ++ (u ∷ [])) (es ++ fs) r
reads_push s t r front u es fs (none s0) m = subst (λ (xs : List Event). ReadsAll s (u ∷ []) xs r) (append-nil fs) (more s r r u [] fs [] m (none r))
reads_push s t r front u es fs (more s0 t0 r0 v vs events later a k) m =
    subst (λ (xs : List Event). ReadsAll s (v ∷ (vs ++ (u ∷ []))) xs r) (sym (append_assoc events later fs)) (more s t0 r v (vs ++ (u ∷ [])) events (later ++ fs) a (reads_push t0 t r vs u later fs k m))

-- reading has come to this place of the file
pub record Comes (bytes : List ℕ) (at : ℕ) (r : Reader) : Type 0 where
  pub front : List TextUnit
  pub events : List Event
  pub state : State
  pub reads : ReadsAll start front events state
  pub there : units_of bytes ≡ front ++ units at 0 (drop at bytes)
  pub stands : Stands r state events
  pub passed : All (IsNot (first_unclosed (units_of bytes))) front

pub at_start : (bytes : List ℕ) (r : Reader) → Stands r start [] → Comes bytes 0 r
at_start bytes r h = record { front = []; events = []; state = start; reads = none start; there = refl; stands = h; passed = All-nil (IsNot (first_unclosed (units_of bytes))) }

front_on : (all front vs us : List TextUnit) (u : TextUnit) → all ≡ front ++ vs → vs ≡ u ∷ us → all ≡ (front ++ (u ∷ [])) ++ us
front_on all front vs us u e f = e ∙ (ap (λ (ws : List TextUnit). front ++ ws) f ∙ sym (append_assoc front (u ∷ []) us))

is_not : (o : Option ℕ) (u : TextUnit) → is_place o u.at ≡ false → IsNot o u
is_not None u h = tt
is_not (Some place) u h = λ e. absurd (grind (arith, nat_tests))

pub comes_on : (bytes : List ℕ) (at end : ℕ) (u : TextUnit) (r new : Reader) (k : Comes bytes at r) → units at 0 (drop at bytes) ≡ u ∷ units end 0 (drop end bytes) → Gave k.state u k.events new →
    is_place (first_unclosed (units_of bytes)) u.at ≡ false → Comes bytes end new
comes_on bytes at end u r new k e g p = record {
  front = k.front ++ (u ∷ []);
  events = k.events ++ g.more;
  state = g.state;
  reads = reads_push start k.state g.state k.front u k.events g.more k.reads g.meets;
  there = front_on (units_of bytes) k.front (units at 0 (drop at bytes)) (units end 0 (drop end bytes)) u k.there e;
  stands = g.stands;
  passed = All-push (IsNot (first_unclosed (units_of bytes))) k.front u k.passed (is_not (first_unclosed (units_of bytes)) u p);
}

reaches : (bytes : List ℕ) (at : ℕ) (u : TextUnit) (us : List TextUnit) (r : Reader) (k : Comes bytes at r) → units at 0 (drop at bytes) ≡ u ∷ us → Reaches bytes u k.state (length k.events)
reaches bytes at u us r k e = record {
  front = k.front;
  behind = us;
  there = k.there ∙ ap (λ (ws : List TextUnit). k.front ++ ws) e;
  events = k.events;
  reads = k.reads;
  counted = refl;
  few = omega (arith, k.stands.shows.left);
  passed = k.passed;
}

pub stops_there : (T : Type 0) (bytes : List ℕ) (at : ℕ) (u : TextUnit) (us : List TextUnit) (r new : Reader) (e : Stop) (k : Comes bytes at r) → units at 0 (drop at bytes) ≡ u ∷ us →
    Answers {T = T} bytes k.state u k.events new (Err e) → Faults bytes (fault_of e u.at)
stops_there T bytes at u us r new (stop.Wrong wrong.Unknown) k e a = record { unit = u; state = k.state; met = length k.events; reaches = reaches bytes at u us r k e; wrong = a; place = refl }
stops_there T bytes at u us r new (stop.Wrong wrong.Bad) k e a = record { unit = u; state = k.state; met = length k.events; reaches = reaches bytes at u us r k e; wrong = a; place = refl }
stops_there T bytes at u us r new (stop.Wrong wrong.Loop) k e a = record { unit = u; state = k.state; met = length k.events; reaches = reaches bytes at u us r k e; wrong = a; place = refl }
stops_there T bytes at u us r new stop.Full k e a = record { unit = u; state = k.state; met = length k.events; reaches = reaches bytes at u us r k e; over = a; told = refl }
stops_there T bytes at u us r new stop.Memory k e a = tt

it_is : (o : Option ℕ) (at : ℕ) → is_place o at ≡ true → o ≡ Some at
it_is None at h = absurd (cc)
it_is (Some place) at h = let e : place ≡ at = grind (arith, nat_tests) in ap Some e

pub unclosed_there : (bytes : List ℕ) (at : ℕ) (u : TextUnit) (us : List TextUnit) (r new : Reader) (k : Comes bytes at r) → units at 0 (drop at bytes) ≡ u ∷ us → Gave k.state u k.events new →
    is_place (first_unclosed (units_of bytes)) u.at ≡ true → IsFault bytes wrong.Bad u.at
unclosed_there bytes at u us r new k e g p = record {
  unit = u;
  state = k.state;
  met = length k.events;
  reaches = reaches bytes at u us r k e;
  wrong = unclosed g.more g.state (it_is (first_unclosed (units_of bytes)) u.at p) g.meets (omega (arith, length-append k.events g.more, g.stands.shows.left));
  place = refl;
}

first_on : (u : TextUnit) (us : List TextUnit) (b : Bool) (p : ℕ) → (is_opening u.piece.kind && not (closes 0 us)) ≡ b → first_unclosed (u ∷ us) ≡ Some p → (b ≡ true → u.at ≡ p) × (b ≡ false → first_unclosed us ≡ Some p)
unfolding first_unclosed
first_on u us true p e h = let k : Some u.at ≡ Some p = rw e at h in (λ q. cc, λ q. absurd (cc))
first_on u us false p e h = let k : first_unclosed us ≡ Some p = rw e at h in (λ q. absurd (cc), λ q. k)

none_empty : (p : ℕ) → first_unclosed [] ≡ Some p → ⊥
unfolding first_unclosed
none_empty p h = cc

not_passed : (us : List TextUnit) (p : ℕ) → first_unclosed us ≡ Some p → All (IsNot (Some p)) us → ⊥
not_passed [] p h a = none_empty p h
not_passed (u ∷ us) p h a = elim (cases_Bool (is_opening u.piece.kind && not (closes 0 us))) [
  | inl t ↦ All-head (IsNot (Some p)) u us a ((first_on u us true p t h).0 refl)
  | inr t ↦ not_passed us p ((first_on u us false p t h).1 refl) (All-tail (IsNot (Some p)) u us a)
]

pub none_unclosed : (us : List TextUnit) → All (IsNot (first_unclosed us)) us → first_unclosed us ≡ None
none_unclosed us a = go (first_unclosed us) refl
  where
    go : (o : Option ℕ) → first_unclosed us ≡ o → first_unclosed us ≡ None
    go None e = e
    go (Some p) e = absurd (not_passed us p e (subst (λ (o : Option ℕ). All (IsNot o) us) e a))

pub comes_to_end : (bytes : List ℕ) (at : ℕ) (r : Reader) → Comes bytes at r → units at 0 (drop at bytes) ≡ [] → ReadsWhole bytes r
comes_to_end bytes at r k e =
    let f : units_of bytes ≡ k.front = k.there ∙ (ap (λ (ws : List TextUnit). k.front ++ ws) e ∙ append-nil k.front) in
    record {
      events = k.events;
      state = k.state;
      reads = subst (λ (us : List TextUnit). ReadsAll start us k.events k.state) (sym f) k.reads;
      closed = none_unclosed (units_of bytes) (subst (λ (us : List TextUnit). All (IsNot (first_unclosed (units_of bytes))) us) (sym f) k.passed);
      stands = k.stands;
    }
