-- What an output has of events.
use Rattle.std.proofs.Common.{ℕ, ◌≡◌, ◌+◌, ◌-◌, ◌≤◌, ◌<◌, List, [], ◌∷◌, ◌++◌, length, take, drop, get_or, nat_le, Err, refl, ap, ◌∙◌, sym, subst, arith}
use Rattle.std.proofs.lemmas.List.{append_assoc, append-nil, length_push, length-append, length-drop, take_more, length-take-le, get_or-drop}
use Rattle.rr_directive.specs.declared.origin.Origin.{Origin}
use Rattle.rr_directive.specs.declared.output.Output.{Output}
use Rattle.rr_directive.specs.declared.output.Stop.{Stop}
use Rattle.rr_directive.specs.declared.output.Stop.TheVariants as stop
use Rattle.rr_directive.specs.Expand.{Event, Step, Gives, Uses, bytes_given, bytes_of, origins_given, origins_of}
use Rattle.rr_directive.specs.View.{Overflows, Shows, exact_from}

pub bytes_append : (es fs : List Event) → bytes_of (es ++ fs) ≡ bytes_of es ++ bytes_of fs
unfolding bytes_of
bytes_append [] fs = refl
bytes_append (e ∷ es) fs = ap (λ (t : List ℕ). bytes_given e.step ++ t) (bytes_append es fs) ∙ sym (append_assoc (bytes_given e.step) (bytes_of es) (bytes_of fs))

pub origins_append : (es fs : List Event) → origins_of (es ++ fs) ≡ origins_of es ++ origins_of fs
unfolding origins_of
origins_append [] fs = refl
origins_append (e ∷ es) fs = ap (λ (t : List Origin). origins_given e.step e.origin ++ t) (origins_append es fs) ∙ sym (append_assoc (origins_given e.step e.origin) (origins_of es) (origins_of fs))

one_byte : (e : Event) → bytes_of (e ∷ []) ≡ bytes_given e.step
unfolding bytes_of
one_byte e = append-nil (bytes_given e.step)

one_origin : (e : Event) → origins_of (e ∷ []) ≡ origins_given e.step e.origin
unfolding origins_of
one_origin e = append-nil (origins_given e.step e.origin)

pub shows_more : (out new : Output) (events : List Event) (e : Event) → Shows out events → new.text.items ≡ out.text.items ++ bytes_given e.step → new.origins.items ≡ out.origins.items ++ origins_given e.step e.origin →
    new.left + 1 ≡ out.left → Shows new (events ++ (e ∷ []))
shows_more out new events e h t o l = record {
  text = t ∙ (ap (λ (xs : List ℕ). xs ++ bytes_given e.step) h.text ∙ (ap (λ (xs : List ℕ). bytes_of events ++ xs) (sym (one_byte e)) ∙ sym (bytes_append events (e ∷ []))));
  origins = o ∙ (ap (λ (xs : List Origin). xs ++ origins_given e.step e.origin) h.origins ∙ (ap (λ (xs : List Origin). origins_of events ++ xs) (sym (one_origin e)) ∙ sym (origins_append events (e ∷ []))));
  left = omega (arith, length_push events e, h.left);
}

pub shows_none : (out : Output) → out.text.items ≡ [] → out.origins.items ≡ [] → out.left ≡ 1048576 → Shows out []
unfolding bytes_of origins_of
shows_none out t o l = record { text = t; origins = o; left = omega arith }

given_same : (step : Step) (o : Origin) → length (bytes_given step) ≡ length (origins_given step o)
given_same (Gives b) o = refl
given_same Uses o = refl

pub same_length : (es : List Event) → length (bytes_of es) ≡ length (origins_of es)
unfolding bytes_of origins_of
same_length [] = refl
same_length (e ∷ es) = omega (arith, length-append (bytes_given e.step) (bytes_of es), length-append (origins_given e.step e.origin) (origins_of es), given_same e.step e.origin, same_length es)

pub shown_same : (out : Output) (events : List Event) → Shows out events → length out.text.items ≡ length out.origins.items
shown_same out events h = ap length h.text ∙ (same_length events ∙ sym (ap length h.origins))

given_few : (step : Step) → length (bytes_given step) ≤ 1
given_few (Gives b) = omega arith
given_few Uses = omega arith

pub few_bytes : (es : List Event) → length (bytes_of es) ≤ length es
unfolding bytes_of
few_bytes [] = omega arith
few_bytes (e ∷ es) = omega (arith, length-append (bytes_given e.step) (bytes_of es), given_few e.step, few_bytes es)

-- ---- own bytes
abbrev pub own_byte : ℕ → ℕ → ℕ → Event
own_byte exact at b = record { step = Gives b; origin = record { offset = at; exact = nat_le exact at } }

exact_push : (exact at b : ℕ) (bs : List ℕ) → exact_from exact at (bs ++ (b ∷ [])) ≡
    exact_from exact at bs ++ (record { step = Gives b; origin = record { offset = at + length bs; exact = nat_le exact (at + length bs) } } ∷ [])
unfolding exact_from
exact_push exact at b [] = let e : at ≡ at + 0 = omega arith in ap (λ (n : ℕ). record { step = Gives b; origin = record { offset = n; exact = nat_le exact n } } ∷ []) e
exact_push exact at b (c ∷ bs) =
    let e : at + 1 + length bs ≡ at + length (c ∷ bs) = omega arith in
    ap (λ (es : List Event). record { step = Gives c; origin = record { offset = at; exact = nat_le exact at } } ∷ es) (exact_push exact (at + 1) b bs ∙
    ap (λ (n : ℕ). exact_from exact (at + 1) bs ++ (record { step = Gives b; origin = record { offset = n; exact = nat_le exact n } } ∷ [])) e)

pub own_more : (out new : Output) (events : List Event) (file : List ℕ) (exact from at byte : ℕ) → from ≤ at → at < length file → byte ≡ get_or file at 0 →
    Shows new ((events ++ exact_from exact from (take (at - from) (drop from file))) ++ (record { step = Gives byte; origin = record { offset = at; exact = nat_le exact at } } ∷ [])) →
    Shows new (events ++ exact_from exact from (take (at + 1 - from) (drop from file)))
own_more out new events file exact from at byte k l e h =
    let n : at + 1 - from ≡ at - from + 1 = omega arith in
    let r : at - from < length (drop from file) = omega (arith, length-drop from file) in
    let b : get_or (drop from file) (at - from) 0 ≡ byte = get_or-drop from file (at - from) 0 ∙ (ap (λ (m : ℕ). get_or file m 0) (omega arith) ∙ sym e) in
    let t : take (at + 1 - from) (drop from file) ≡ take (at - from) (drop from file) ++ (byte ∷ []) =
    ap (λ (m : ℕ). take m (drop from file)) n ∙ (take_more (drop from file) (at - from) 0 r ∙ ap (λ (c : ℕ). take (at - from) (drop from file) ++ (c ∷ [])) b) in
    let m : from + length (take (at - from) (drop from file)) ≡ at = omega (arith, length-take-le (at - from) (drop from file)) in
    let x : exact_from exact from (take (at + 1 - from) (drop from file)) ≡ exact_from exact from (take (at - from) (drop from file)) ++ (own_byte exact at byte ∷ []) =
    ap (exact_from exact from) t ∙ (exact_push exact from byte (take (at - from) (drop from file)) ∙
    ap (λ (i : ℕ). exact_from exact from (take (at - from) (drop from file)) ++ (own_byte exact i byte ∷ [])) m) in
    subst (Shows new) (append_assoc events (exact_from exact from (take (at - from) (drop from file))) (own_byte exact at byte ∷ []) ∙ ap (λ (xs : List Event). events ++ xs) (sym x)) h

pub own_none : (out : Output) (events : List Event) (file : List ℕ) (exact from : ℕ) → Shows out events → Shows out (events ++ exact_from exact from (take (from - from) (drop from file)))
unfolding exact_from
own_none out events file exact from h = let z : from - from ≡ 0 = omega arith in
    subst (λ (n : ℕ). Shows out (events ++ exact_from exact from (take n (drop from file)))) (sym z) (subst (Shows out) (sym (append-nil events)) h)

pub overflow_more : (T : Type 0) (left old k n : ℕ) (e : Stop) → left + k ≡ old → k + 1 ≤ n → Overflows {T = T} left 1 (Err e) → Overflows {T = T} old n (Err e)
overflow_more T left old k n (stop.Wrong w) s m h = h
overflow_more T left old k n stop.Full s m h = omega arith
overflow_more T left old k n stop.Memory s m h = tt
