-- The bytes of a file whose units all give themselves stand at their own places; and so do those of a file without a backtick.
use Rattle.std.proofs.Common.{ℕ, zero, suc, ◌≡◌, ◌≢◌, ◌+◌, ◌-◌, ◌≤◌, ◌<◌, ◌==◌, List, [], ◌∷◌, ◌++◌, length, take, true, false, refl, ap, ◌∙◌, sym, subst, arith, inl, inr}
use Rattle.std.specs.List.{All, flat_map}
use Rattle.std.proofs.lemmas.Bool.{cases_Bool, cases_lt}
use Rattle.std.proofs.lemmas.Bool.Decides.{nat_tests}
use Rattle.std.proofs.lemmas.List.{length-append, length-take-le}
use Rattle.std.proofs.lemmas.List.Elements.{All-cons, All-head, All-nil, All-tail}
use Rattle.rr_directive.specs.declared.origin.Origin.{Origin}
use Rattle.rr_directive.specs.Pieces.{TextUnit, begins_with, is_escaped, piece, units, units_of}
use Rattle.rr_directive.specs.Places.{offset_at}
use Rattle.rr_directive.specs.Expand.{Event, Exact, bytes_of, own, own_bytes, origins_of, ReadsAll, none, more, start}
use Rattle.rr_directive.specs.Laws.{NoBackticks, PlainTaken, is_kept}
use Rattle.rr_directive.proofs.Outputs.{bytes_append, origins_append, same_length}
use Rattle.rr_directive.proofs.Plain.{AreKept, its_bytes, kept_act, none_open, own_given, some_size, units_join}

-- ---- places

-- origins from a place on
abbrev StandFrom : ℕ → List Origin → Type 0
StandFrom at [] = Unit {0}
StandFrom at (o ∷ os) = (o.offset ≡ at) × StandFrom (at + 1) os

stand_at : (at : ℕ) (os : List Origin) (k : ℕ) → StandFrom at os → k < length os → offset_at os k ≡ at + k
stand_at at [] k s l = absurd (omega arith)
stand_at at (o ∷ os) zero s l = s.0 ∙ omega arith
stand_at at (o ∷ os) (suc k) s l = stand_at (at + 1) os k s.1 (omega arith) ∙ omega arith

stand_append : (at n : ℕ) (os ps : List Origin) → length os + at ≡ n → StandFrom at os → StandFrom n ps → StandFrom at (os ++ ps)
stand_append at n [] ps e a b = let z : n ≡ at = omega (arith, e) in subst (λ (m : ℕ). StandFrom m ps) z b
stand_append at n (o ∷ os) ps e a b = (a.0, stand_append (at + 1) n os ps (omega (arith, e)) a.1 b)

own_stands : (exact : Exact) (at : ℕ) (bs : List ℕ) → StandFrom at (origins_of (own exact at bs))
unfolding own origins_of
own_stands exact at [] = tt
own_stands exact at (b ∷ bs) = (refl, own_stands exact (at + 1) bs)

own_length : (exact : Exact) (at : ℕ) (bs : List ℕ) → length (own exact at bs) ≡ length bs
unfolding own
own_length exact at [] = refl
own_length exact at (b ∷ bs) = ap suc (own_length exact (at + 1) bs)

-- ---- units stand one behind the other

abbrev AreNext : ℕ → List TextUnit → Type 0
AreNext at [] = Unit {0}
AreNext at (u ∷ us) = (u.at ≡ at) × AreNext (at + length u.bytes) us

drained : (at taken : ℕ) (bs : List ℕ) → length bs ≤ taken → units at taken bs ≡ []
unfolding units
drained at zero [] l = refl
drained at (suc taken) [] l = refl
drained at zero (b ∷ bs) l = absurd (omega arith)
drained at (suc taken) (b ∷ bs) l = drained (at + 1) taken bs (omega arith)

units_next : (at taken n : ℕ) (bs : List ℕ) → at + taken ≡ n → AreNext n (units at taken bs)
unfolding units
units_next at zero n [] e = tt
units_next at (suc taken) n [] e = tt
units_next at (suc taken) n (b ∷ bs) e = units_next (at + 1) taken n bs (omega (arith, e))
units_next at zero n (b ∷ bs) e = (
  omega (arith, e),
  elim (cases_lt (length bs) (piece (b ∷ bs)).size) [
    | inl l ↦ subst (AreNext (n + length (take (piece (b ∷ bs)).size (b ∷ bs)))) (sym (drained (at + 1) ((piece (b ∷ bs)).size - 1) bs (omega (arith, l)))) tt
    | inr l ↦
        units_next (at + 1) ((piece (b ∷ bs)).size - 1) (n + length (take (piece (b ∷ bs)).size (b ∷ bs))) bs
        (omega (arith, e, some_size (b ∷ bs), length-take-le (piece (b ∷ bs)).size (b ∷ bs) (omega (arith, l))))
  ],
)

-- ---- the reading

record Reading (at : ℕ) (us : List TextUnit) : Type 0 where
  events : List Event
  reads : ReadsAll start us events start
  bytes : bytes_of events ≡ flat_map its_bytes us
  count : length events ≡ length (flat_map its_bytes us)
  stand : StandFrom at (origins_of events)

nothing_read : (at : ℕ) → Reading at []
unfolding bytes_of origins_of
nothing_read at = record { events = []; reads = none start; bytes = refl; count = refl; stand = tt }

kept_reading : (at : ℕ) (us : List TextUnit) → AreKept us → AreNext at us → Reading at us
kept_reading at [] a n = nothing_read at
kept_reading at (u ∷ us) a n =
    let k = kept_act u u.piece.kind (All-head (λ (v : TextUnit). is_kept v.piece.kind ≡ true) u us a) in
    let r = kept_reading (at + length u.bytes) us (All-tail (λ (v : TextUnit). is_kept v.piece.kind ≡ true) u us a) n.1 in
    let its : List Event = own k.0 u.at u.bytes in
    let given : bytes_of its ≡ u.bytes = own_given k.0 u.at u.bytes in
    let place : length (origins_of its) + at ≡ at + length u.bytes = omega (arith, same_length its, ap length given) in
    let stands : StandFrom at (origins_of its) = subst (λ (m : ℕ). StandFrom m (origins_of its)) n.0 (own_stands k.0 u.at u.bytes) in
    record {
      events = its ++ r.events;
      reads = more start start start u us its r.events (own_bytes k.0 k.1) r.reads;
      bytes = bytes_append its r.events ∙ (ap (λ (xs : List ℕ). xs ++ bytes_of r.events) given ∙ ap (λ (xs : List ℕ). u.bytes ++ xs) r.bytes);
      count = omega (arith, length-append its r.events, own_length k.0 u.at u.bytes, r.count, length-append u.bytes (flat_map its_bytes us));
      stand = subst (StandFrom at) (sym (origins_append its r.events)) (stand_append at (at + length u.bytes) (origins_of its) (origins_of r.events) place stands r.stand);
    }

pub plain_taken : PlainTaken
plain_taken bytes a few =
    let r = kept_reading 0 (units_of bytes) a (units_next 0 0 0 bytes refl) in
    let joined : flat_map its_bytes (units_of bytes) ≡ bytes = units_join 0 0 bytes in (
      origins_of r.events,
      (
        record {
          expansion = record {
            events = r.events;
            end = start;
            reads = r.reads;
            closed = none_open (units_of bytes) a;
            text_is = sym (r.bytes ∙ joined);
            origins_are = refl;
          };
          few = omega (arith, r.count, ap length joined, few);
        },
        λ k l. stand_at 0 (origins_of r.events) k r.stand l ∙ omega arith,
      ),
    )

-- ---- files without a backtick

not_equal : (a b : ℕ) → a ≢ b → (a == b) ≡ false
not_equal a b n = grind (arith, nat_tests)

kept_piece : (b : ℕ) (bs : List ℕ) → b ≢ 96 → is_kept (piece (b ∷ bs)).kind ≡ true
unfolding piece is_kept
kept_piece b bs n = elim (cases_Bool (begins_with 47 47 (b ∷ bs))) [
  | inl h ↦ rw h refl
  | inr h ↦ elim (cases_Bool (begins_with 47 42 (b ∷ bs))) [
    | inl k ↦ rw (h, k) refl
    | inr k ↦ elim (cases_Bool (is_escaped (b ∷ bs))) [
      | inl e ↦ rw (h, k, e) refl
      | inr e ↦ let m = not_equal b 96 n in rw (h, k, e, m) refl
    ]
  ]
]

units_kept : (at taken : ℕ) (bs : List ℕ) → All (λ (b : ℕ). b ≢ 96) bs → AreKept (units at taken bs)
unfolding units
units_kept at zero [] a = All-nil (λ (u : TextUnit). is_kept u.piece.kind ≡ true)
units_kept at (suc taken) [] a = All-nil (λ (u : TextUnit). is_kept u.piece.kind ≡ true)
units_kept at (suc taken) (b ∷ bs) a = units_kept (at + 1) taken bs (All-tail (λ (c : ℕ). c ≢ 96) b bs a)
units_kept at zero (b ∷ bs) a =
    let size = (piece (b ∷ bs)).size in
    All-cons (λ (u : TextUnit). is_kept u.piece.kind ≡ true) (record { at = at; piece = piece (b ∷ bs); bytes = take size (b ∷ bs) }) (units (at + 1) (size - 1) bs)
    (kept_piece b bs (All-head (λ (c : ℕ). c ≢ 96) b bs a)) (units_kept (at + 1) (size - 1) bs (All-tail (λ (c : ℕ). c ≢ 96) b bs a))

pub no_backticks : NoBackticks
no_backticks bytes a = units_kept 0 0 bytes a
