-- The laws of lifted edits.
use Rattle.std.proofs.Common.{ℕ, suc, ◌≡◌, ◌+◌, ◌-◌, ◌<◌, List, [], ◌∷◌, ◌++◌, length, drop, get_or, Bool, true, false, if◌then◌else◌, refl, ap, ◌∙◌, sym, subst, arith, inl, inr, ◌⊎◌}
use Rattle.std.specs.List.{All, list_any}
use Rattle.std.proofs.lemmas.Bool.{cases_Bool, cases_lt, cases_order, or_cases, or_left, or_right}
use Rattle.std.proofs.lemmas.Bool.Decides.{nat_tests}
use Rattle.std.proofs.lemmas.List.{drop_more}
use Rattle.std.proofs.lemmas.List.Elements.{All-head, All-tail}
use Rattle.rr_directive.specs.declared.origin.Origin.{Origin}
use Rattle.rr_directive.specs.Bytes.{begins, is, is_printable}
use Rattle.rr_directive.specs.Expand.{Event, Gives, IsExpansion, Step, Uses, bytes_given, bytes_of, origins_given, origins_of, start}
use Rattle.rr_directive.specs.Places.{no_origin, offset_at}
use Rattle.rr_directive.proofs.Facts.{begins_length}
use Rattle.rr_directive.proofs.Outputs.{same_length}
use Rattle.rr_edit.specs.Edits.{AreEdits, Edit, edited}
use Rattle.rr_lift.specs.Laws.{LiftExpands, NothingLifts, OwnLifted}
use Rattle.rr_edit.specs.Lifted.{exact_at, is_anchor, lifted, replaces, texts_at}
use Rattle.rr_lift.proofs.Exacts.{made, made_event}
use Rattle.rr_lift.proofs.InFile.{Exactly, Fits, Stands, ending_zero, exact_room, fits, gone_same, has_at, in_file, lift_parts, lifted_marked, none_gone, put_same, replaced_stand, replaces_it, replaces_some}
use Rattle.rr_lift.proofs.Lifting.{Touched, lifts_reading}
use Rattle.rr_lift.proofs.Marks.{Marking, Marks, Texts, marked, marked_byte, no_text, put_text, some}
use Rattle.rr_lift.proofs.Places.{by_bytes, exact_are, exact_rise}
use Rattle.rr_lift.proofs.Readings.{from_bytes, has}
use Rattle.rr_lift.proofs.Scan.{in_text, marked_alike, scans}
use Rattle.rr_lift.proofs.Steps.{Follows}

-- ---- the marks of the file are such as edits make

byte_begins : (p : ℕ → Bool) (k : ℕ) (bs : List ℕ) → begins p (drop k bs) ≡ true → p (get_or bs k 0) ≡ true
byte_begins p k bs h = let d = drop_more bs k 0 (begins_length p k bs h) in rw d at h

begins_byte : (p : ℕ → Bool) (k : ℕ) (bs : List ℕ) → k < length bs → p (get_or bs k 0) ≡ true → begins p (drop k bs) ≡ true
begins_byte p k bs l h = let d = drop_more bs k 0 l in rw d h

-- what holds of an exact byte in the text holds of it in the file
file_begins : (file text : List ℕ) (origins : List Origin) (p : ℕ → Bool) (k o : ℕ) → Exactly file text origins → exact_at origins k ≡ true → offset_at origins k ≡ o → begins p (drop k text) ≡ true → begins p (drop o file) ≡ true
file_begins file text origins p k o x h e b =
    let a = x.are k h in
    let q : p (get_or file (offset_at origins k) 0) ≡ true = ap p a.1 ∙ byte_begins p k text b in
    subst (λ (i : ℕ). begins p (drop i file) ≡ true) e (begins_byte p (offset_at origins k) file a.0 q)

-- an exact byte of the text that stands at this place of the file
record Place (origins : List Origin) (o : ℕ) : Type 0 where
  byte : ℕ
  exact : exact_at origins byte ≡ true
  there : offset_at origins byte ≡ o

gone_place : (text : List ℕ) (origins : List Origin) (es : List Edit) (o : ℕ) → All (Fits text origins) es → list_any (replaces origins o) es ≡ true → Place origins o
gone_place text origins [] o f h = absurd (cc)
gone_place text origins (e ∷ es) o f h = elim (or_cases (replaces origins o e) (list_any (replaces origins o) es) h) [
  | inl x ↦
      let g = All-head (Fits text origins) e es f in
      let r = replaces_some text origins e o g x in
      record { byte = r.0; exact = (replaced_stand text origins e r.0 g r.1.0 r.1.1.0).0; there = r.1.1.1 }
  | inr x ↦ gone_place text origins es o (All-tail (Fits text origins) e es f) x
]

put_place : (text : List ℕ) (origins : List Origin) (es : List Edit) (o : ℕ) → All (Fits text origins) es → some (texts_at origins o es) ≡ true → Place origins o
unfolding texts_at
put_place text origins [] o f h = absurd (cc)
put_place text origins (e ∷ es) o f h = elim (cases_Bool (is_anchor origins o e)) [
  | inl x ↦ record { byte = e.to - 1; exact = (lift_parts origins e (All-head (Fits text origins) e es f).lifted).1.0; there = grind (arith, nat_tests, x) }
  | inr x ↦ let g : some (texts_at origins o es) ≡ true = rw x at h in put_place text origins es o (All-tail (Fits text origins) e es f) g
]

no_rest : (xs ys : List ℕ) → xs ++ ys ≡ [] → ys ≡ []
no_rest [] ys e = e
no_rest (x ∷ xs) ys e = absurd (cc)

no_front : (xs ys : List ℕ) → begins (is 32) xs ≡ true → xs ++ ys ≡ [] → ⊥
no_front [] ys b e = cc
no_front (x ∷ xs) ys b e = cc

gone_on : (text : List ℕ) (origins : List Origin) (es : List Edit) (o : ℕ) → All (Fits text origins) es → list_any (replaces origins o) es ≡ true → texts_at origins o es ≡ [] → list_any (replaces origins (o + 1)) es ≡ true
unfolding texts_at
gone_on text origins [] o f h n = absurd (cc)
gone_on text origins (e ∷ es) o f h n =
    let g = All-head (Fits text origins) e es f in
    elim (or_cases (replaces origins o e) (list_any (replaces origins o) es) h) [
      | inl x ↦
          let r = replaces_some text origins e o g x in
          let k : ℕ = r.0 in
          elim (cases_lt (k + 1) e.to) [
            | inl l ↦
                let a = replaced_stand text origins e k g r.1.0 r.1.1.0 in
                let b = replaced_stand text origins e (k + 1) g (omega (arith, r.1.0)) l in
                let q : offset_at origins (k + 1) ≡ o + 1 = omega (arith, a.1, b.1, r.1.1.1, r.1.0) in
                or_left (replaces origins (o + 1) e) (list_any (replaces origins (o + 1)) es) (replaces_it text origins e (k + 1) (o + 1) g (omega (arith, r.1.0)) l q)
            | inr l ↦
                let q : e.to - 1 ≡ k = omega (arith, l, r.1.1.0) in
                let z : offset_at origins (e.to - 1) ≡ o = ap (offset_at origins) q ∙ r.1.1.1 in
                let t : is_anchor origins o e ≡ true = grind (arith, nat_tests, z) in
                let m : e.text ++ texts_at origins o es ≡ [] = rw t at n in absurd (no_front e.text (texts_at origins o es) g.put.first m)
          ]
      | inr x ↦
          let m : texts_at origins o es ≡ [] = no_rest (if is_anchor origins o e then e.text else []) (texts_at origins o es) n in
          or_right (replaces origins (o + 1) e) (list_any (replaces origins (o + 1)) es) (gone_on text origins es o (All-tail (Fits text origins) e es f) x m)
    ]

abbrev First : List ℕ → List Origin → List Edit → ℕ → Type 0
First file origins es o = (begins is_printable (drop o file) ≡ true) ⊎ ((p : ℕ) × ((o ≡ p + 1) × (list_any (replaces origins p) es ≡ true)))

gone_first : (file text : List ℕ) (origins : List Origin) (es : List Edit) (o : ℕ) → Exactly file text origins → All (Fits text origins) es → list_any (replaces origins o) es ≡ true → First file origins es o
gone_first file text origins [] o x f h = absurd (cc)
gone_first file text origins (e ∷ es) o x f h =
    let g = All-head (Fits text origins) e es f in
    elim (or_cases (replaces origins o e) (list_any (replaces origins o) es) h) [
      | inl y ↦
          let r = replaces_some text origins e o g y in
          let k : ℕ = r.0 in
          let a = replaced_stand text origins e k g r.1.0 r.1.1.0 in
          elim (cases_lt e.from k) [
            | inl l ↦
                let b = replaced_stand text origins e (k - 1) g (omega (arith, l)) (omega (arith, r.1.1.0)) in
                let p : ℕ = offset_at origins (k - 1) in
                let q : o ≡ p + 1 = omega (arith, a.1, b.1, r.1.1.1, l) in
                inr (p, (q, or_left (replaces origins p e) (list_any (replaces origins p) es) (replaces_it text origins e (k - 1) p g (omega (arith, l)) (omega (arith, r.1.1.0)) refl)))
            | inr l ↦
                let q : k ≡ e.from = omega (arith, l, r.1.0) in
                let b : begins is_printable (drop k text) ≡ true = ap (λ (i : ℕ). begins is_printable (drop i text)) q ∙ g.placed.first (omega (arith, r.1.0, r.1.1.0)) in
                inl (file_begins file text origins is_printable k o x a.0 r.1.1.1 b)
          ]
      | inr y ↦ elim (gone_first file text origins es o x (All-tail (Fits text origins) e es f) y) [
        | inl z ↦ inl z
        | inr z ↦ inr (z.0, (z.1.0, or_right (replaces origins z.0 e) (list_any (replaces origins z.0) es) z.1.1))
      ]
    ]

put_last : (file text : List ℕ) (origins : List Origin) (es : List Edit) (o : ℕ) → Exactly file text origins → All (Fits text origins) es → some (texts_at origins o es) ≡ true → begins is_printable (drop o file) ≡ true
unfolding texts_at
put_last file text origins [] o x f h = absurd (cc)
put_last file text origins (e ∷ es) o x f h =
    let g = All-head (Fits text origins) e es f in
    let p = lift_parts origins e g.lifted in
    elim (cases_Bool (is_anchor origins o e)) [
      | inl y ↦ let q : offset_at origins (e.to - 1) ≡ o = grind (arith, nat_tests, y) in file_begins file text origins is_printable (e.to - 1) o x p.1.0 q (g.placed.last (omega (arith, p.0)))
      | inr y ↦ let h2 : some (texts_at origins o es) ≡ true = rw y at h in put_last file text origins es o x (All-tail (Fits text origins) e es f) h2
    ]

put_texts : (text : List ℕ) (origins : List Origin) (es : List Edit) (o : ℕ) → All (Fits text origins) es → Texts (texts_at origins o es)
unfolding texts_at
put_texts text origins [] o f = no_text
put_texts text origins (e ∷ es) o f =
    let i = put_texts text origins es o (All-tail (Fits text origins) e es f) in
    elim (cases_Bool (is_anchor origins o e)) [
      | inl y ↦ rw y (put_text e.text (texts_at origins o es) (All-head (Fits text origins) e es f).put i)
      | inr y ↦ rw y i
    ]

file_marks : (file text : List ℕ) (origins : List Origin) (es : List Edit) → Exactly file text origins → All (Fits text origins) es → Marks file (in_file origins es)
file_marks file text origins es x f = record {
  short = λ o h. let p = gone_place text origins es o f h in omega (arith, (x.are p.byte p.exact).0, p.there);
  on = λ o h n. gone_on text origins es o f h n;
  first = λ o h. gone_first file text origins es o x f h;
  last = λ o h. put_last file text origins es o x f h;
  texts = λ o. put_texts text origins es o f;
}

place_has : (origins : List Origin) (o : ℕ) → Place origins o → has o origins ≡ true
place_has origins o p = ap (λ (i : ℕ). has i origins) (sym p.there) ∙ has_at origins p.byte p.exact

touched : (text : List ℕ) (origins : List Origin) (es : List Edit) (events : List Event) → origins ≡ origins_of events → All (Fits text origins) es → Touched (in_file origins es) 0 events
touched text origins es events e f o l h =
    let p : Place origins o = elim (or_cases (list_any (replaces origins o) es) (some (texts_at origins o es)) h) [
      | inl x ↦ gone_place text origins es o f x
      | inr x ↦ put_place text origins es o f x
    ] in
    ap (has o) (sym e) ∙ place_has origins o p

-- ---- the text with the marks

-- the marks of the file at the origin of a byte are those of the text at the byte
abbrev Agree : Marking → Marking → ℕ → Origin → Type 0
Agree m n k o = (o.exact ≡ true → (m.gone o.offset ≡ n.gone k) × (m.put o.offset ≡ n.put k)) × (o.exact ≡ false → (n.gone k ≡ false) × (n.put k ≡ []))

event_same : (m n : Marking) (k b : ℕ) (o : Origin) → Agree m n k o → made_event m (Gives b) o ≡ marked_byte n k b
event_same m n k b o a = elim (cases_Bool o.exact) [
  | inl h ↦ let p = a.0 h in rw (h, p.0, p.1) refl
  | inr h ↦ let p = a.1 h in rw (h, p.0, p.1) refl
]

made_text : (m n : Marking) (k : ℕ) (events : List Event) → ((j : ℕ) → j < length (origins_of events) → Agree m n (k + j) (get_or (origins_of events) j no_origin)) → made m events ≡ marked n k (bytes_of events)
unfolding made origins_of bytes_of
made_text m n k [] h = refl
made_text m n k (e ∷ es) h = step e.step e.origin h (λ i g. made_text m n i es g)
  where
    step : (s : Step) (o : Origin) → ((j : ℕ) → j < length (origins_given s o ++ origins_of es) → Agree m n (k + j) (get_or (origins_given s o ++ origins_of es) j no_origin)) →
        ((i : ℕ) → ((j : ℕ) → j < length (origins_of es) → Agree m n (i + j) (get_or (origins_of es) j no_origin)) → made m es ≡ marked n i (bytes_of es)) →
        made_event m s o ++ made m es ≡ marked n k (bytes_given s ++ bytes_of es)
    step (Gives b) o g f =
        let z : k + 0 ≡ k = omega arith in
        let a : Agree m n k o = subst (λ (i : ℕ). Agree m n i o) z (g 0 (omega arith)) in
        let i = f (k + 1) (λ j l. let q : k + suc j ≡ k + 1 + j = omega arith in subst (λ (i : ℕ). Agree m n i (get_or (origins_of es) j no_origin)) q (g (suc j) (omega (arith, l)))) in
        rw (event_same m n k b o a, i) refl
    step Uses o g f = f k g

stands_exact : (file text : List ℕ) (origins : List Origin) (k : ℕ) → Exactly file text origins → exact_at origins k ≡ true → Stands origins k (offset_at origins k)
stands_exact file text origins k x h = record {
  here = refl;
  only = λ j g e.
      elim (cases_order j k) [
        | inl q ↦ q
        | inr q ↦ elim q [
          | inl l ↦ let r = x.rise j k l g h in absurd (omega (arith, r, e))
          | inr l ↦ let r = x.rise k j l h g in absurd (omega (arith, r, e))
        ]
      ];
}

agrees : (file text : List ℕ) (origins : List Origin) (es : List Edit) (k : ℕ) → Exactly file text origins → All (Fits text origins) es → Agree (in_file origins es) (in_text es) k (get_or origins k no_origin)
agrees file text origins es k x f = (
  λ h. let s = stands_exact file text origins k x h in (gone_same text origins es k (offset_at origins k) f s, put_same text origins es k (offset_at origins k) f s),
  λ h. none_gone text origins es k f h,
)

-- the expansion with the edits made is what its events give with the marks of the file
text_made : (file text : List ℕ) (origins : List Origin) (es : List Edit) (x : IsExpansion file text origins) → Exactly file text origins → AreEdits text es → All (Fits text origins) es →
    edited 0 text es ≡ made (in_file origins es) x.events
text_made file text origins es x y a f =
    let agree : (j : ℕ) → j < length (origins_of x.events) → Agree (in_file origins es) (in_text es) (0 + j) (get_or (origins_of x.events) j no_origin) = λ j l.
    let z : j ≡ 0 + j = omega arith in
    subst (λ (i : ℕ). Agree (in_file origins es) (in_text es) i (get_or (origins_of x.events) j no_origin)) z
    (subst (λ (os : List Origin). Agree (in_file origins es) (in_text es) j (get_or os j no_origin)) x.origins_are (agrees file text origins es j y f)) in
    scans 0 (length text) text es (omega arith) a.order ∙ (ap (λ (xs : List ℕ). xs ++ marked (in_text es) 0 text) (ending_zero text origins es f) ∙
    (ap (marked (in_text es) 0) x.text_is ∙ sym (made_text (in_file origins es) (in_text es) 0 x.events agree)))

-- ---- the laws

exactly : (file text : List ℕ) (origins : List Origin) → IsExpansion file text origins → Exactly file text origins
exactly file text origins x = record { rise = exact_rise file text origins x; are = exact_are file text origins x }

same_room : (file text : List ℕ) (origins : List Origin) → IsExpansion file text origins → length origins ≡ length text
same_room file text origins x = ap length x.origins_are ∙ (sym (same_length x.events) ∙ sym (ap length x.text_is))

pub lift_expands : LiftExpands
lift_expands file text origins es x a h =
    let y : Exactly file text origins = exactly file text origins x in
    let f : All (Fits text origins) es = fits text origins es (same_room file text origins x) a h in
    let m : Marking = in_file origins es in
    let w : Follows start x.end 0 file 0 (marked m 0 file) (made m x.events) =
    lifts_reading file m start x.end 0 file x.events (file_marks file text origins es y f) (by_bytes file text origins x) refl (touched text origins es x.events x.origins_are f) 0 in
    let done : IsExpansion (marked m 0 file) (edited 0 text es) (origins_of w.events) = record {
      events = w.events;
      end = x.end;
      reads = from_bytes start x.end 0 (marked m 0 file) w.events w.reads;
      closed = w.closed x.closed;
      text_is = text_made file text origins es x y a f ∙ sym w.bytes;
      origins_are = refl;
    } in
    (origins_of w.events, subst (λ (bs : List ℕ). IsExpansion bs (edited 0 text es) (origins_of w.events)) (sym (lifted_marked origins es 0 file)) done)

nothing_from : (origins : List Origin) (at : ℕ) (bs : List ℕ) → lifted origins [] at bs ≡ bs
unfolding lifted texts_at
nothing_from origins at [] = refl
nothing_from origins at (b ∷ bs) = ap (λ (xs : List ℕ). b ∷ xs) (nothing_from origins (at + 1) bs)

pub nothing_lifts : NothingLifts
nothing_lifts file origins = nothing_from origins 0 file

pub own_lifted : OwnLifted
own_lifted file origins es t own a h =
    let room : length origins ≡ length file = same_room file file origins t.expansion in
    let f : All (Fits file origins) es = fits file origins es room a h in
    let stands : (k : ℕ) → k < length file → Stands origins k k = λ k l.
    record { here = own k (omega (arith, l, room)); only = λ j g e. sym (own j (exact_room origins j g)) ∙ e } in
    let same : marked (in_file origins es) 0 file ≡ marked (in_text es) 0 file = marked_alike (in_file origins es) (in_text es) 0 file
    (λ k l u. let s = stands k (omega (arith, u)) in (gone_same file origins es k k f s, put_same file origins es k k f s)) in
    lifted_marked origins es 0 file ∙ (same ∙ sym (scans 0 (length file) file es (omega arith) a.order ∙ ap (λ (xs : List ℕ). xs ++ marked (in_text es) 0 file) (ending_zero file origins es f)))
