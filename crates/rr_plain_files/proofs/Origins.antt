-- The origins of the bytes of a file whose units all give themselves, unit by unit.
use Rattle.std.proofs.Common.{ℕ, zero, suc, ◌≡◌, ◌+◌, ◌-◌, ◌==◌, List, [], ◌∷◌, ◌++◌, length, take, drop, get_or, true, refl, ap, ◌∙◌, sym, arith}
use Rattle.std.specs.List.{flat_map}
use Rattle.std.proofs.lemmas.Bool.{eq-eqb}
use Rattle.std.proofs.lemmas.List.{append_assoc, drop-drop, drop_at, take_at}
use Rattle.std.proofs.lemmas.List.Elements.{All-head, All-tail}
use Rattle.rr_directive.specs.declared.piece.Directive.TheVariants as directive
use Rattle.rr_directive.specs.declared.piece.Kind.{Kind}
use Rattle.rr_directive.specs.declared.piece.Kind.TheVariants as kind
use Rattle.rr_directive.specs.declared.origin.Origin.{Origin}
use Rattle.rr_directive.specs.Pieces.{Piece, TextUnit, bare, piece, units, units_of}
use Rattle.rr_directive.specs.Expand.{Own, Exact, Each, Last, Nowhere, Event, IsExpansion, act_of, bytes_of, is_exact, is_on, own, own_bytes, origins_of, ReadsAll, none, more, start}
use Rattle.rr_directive.specs.Laws.{is_kept}
use Rattle.rr_directive.specs.Places.{no_origin}
use Rattle.rr_directive.proofs.Faults.{one_expansion}
use Rattle.rr_directive.proofs.Outputs.{bytes_append, origins_append}
use Rattle.rr_directive.proofs.Plain.{AreKept, its_bytes, none_open, own_given, units_join}
use Rattle.rr_edit.specs.Lifted.{adjoin}

-- ---- what reading a kept unit gives

unfoldable pub exact_of : Kind → Exact
exact_of kind.Comment = Nowhere
exact_of kind.Escaped = Last
exact_of kind.Plain = Each
exact_of kind.Use = Nowhere
exact_of (kind.Named d) = Nowhere

kept_act : (p : Piece) (k : Kind) → is_kept k ≡ true → act_of start p k ≡ Own (exact_of k)
unfolding is_kept act_of is_on exact_of
kept_act p kind.Comment h = refl
kept_act p kind.Escaped h = refl
kept_act p kind.Plain h = refl
kept_act p kind.Use h = absurd (cc)
kept_act p (kind.Named directive.Stays) h = refl
kept_act p (kind.Named directive.Define) h = absurd (cc)
kept_act p (kind.Named directive.Undef) h = absurd (cc)
kept_act p (kind.Named directive.Ifdef) h = absurd (cc)
kept_act p (kind.Named directive.Ifndef) h = absurd (cc)
kept_act p (kind.Named directive.Else) h = absurd (cc)
kept_act p (kind.Named directive.Endif) h = absurd (cc)
kept_act p (kind.Named directive.Elsif) h = absurd (cc)

unfoldable pub own_origins : List TextUnit → List Origin
own_origins [] = []
own_origins (u ∷ us) = origins_of (own (exact_of u.piece.kind) u.at u.bytes) ++ own_origins us

record Kept (us : List TextUnit) : Type 0 where
  events : List Event
  reads : ReadsAll start us events start
  bytes : bytes_of events ≡ flat_map its_bytes us
  origins : origins_of events ≡ own_origins us

no_units : Kept []
unfolding bytes_of origins_of own_origins
no_units = record { events = []; reads = none start; bytes = refl; origins = refl }

kept_reads : (us : List TextUnit) → AreKept us → Kept us
unfolding own_origins
kept_reads [] a = no_units
kept_reads (u ∷ us) a =
    let k = kept_act u.piece u.piece.kind (All-head (λ (v : TextUnit). is_kept v.piece.kind ≡ true) u us a) in
    let r = kept_reads us (All-tail (λ (v : TextUnit). is_kept v.piece.kind ≡ true) u us a) in
    let its : List Event = own (exact_of u.piece.kind) u.at u.bytes in
    record {
      events = its ++ r.events;
      reads = more start start start u us its r.events (own_bytes (exact_of u.piece.kind) k) r.reads;
      bytes = bytes_append its r.events ∙ (ap (λ (xs : List ℕ). xs ++ bytes_of r.events) (own_given (exact_of u.piece.kind) u.at u.bytes) ∙ ap (λ (xs : List ℕ). u.bytes ++ xs) r.bytes);
      origins = origins_append its r.events ∙ ap (λ (os : List Origin). origins_of its ++ os) r.origins;
    }

pub origins_are_own : (file : List ℕ) (origins : List Origin) → AreKept (units_of file) → IsExpansion file file origins → origins ≡ own_origins (units_of file)
origins_are_own file origins a e =
    let r = kept_reads (units_of file) a in
    let f : IsExpansion file file (origins_of r.events) = record {
      events = r.events;
      end = start;
      reads = r.reads;
      closed = none_open (units_of file) a;
      text_is = sym (r.bytes ∙ units_join 0 0 file);
      origins_are = refl;
    } in
    (one_expansion file file file origins (origins_of r.events) e f).1 ∙ r.origins

-- ---- a text at which units end

-- the origins of bytes from a place on, where a unit begins
abbrev pub here : ℕ → List ℕ → List Origin
here at bs = own_origins (units at 0 bs)

-- units begin with this text and end with it; these of its bytes are exact
abbrev pub Gives : Exact → List ℕ → List ℕ → Type 0
Gives exact text after = (at : ℕ) → here at (text ++ after) ≡ origins_of (own exact at text) ++ here (at + length text) after

units_skip : (at k : ℕ) (bs : List ℕ) → units at k bs ≡ units (at + k) 0 (drop k bs)
unfolding units
units_skip at zero bs = let e : at ≡ at + 0 = omega arith in ap (λ (n : ℕ). units n 0 bs) e
units_skip at (suc k) [] = refl
units_skip at (suc k) (b ∷ bs) = let e : at + 1 + k ≡ at + suc k = omega arith in units_skip (at + 1) k bs ∙ ap (λ (n : ℕ). units n 0 (drop k bs)) e

abbrev of_piece : ℕ → ℕ → List ℕ → Piece → List Origin
of_piece at b bs p = origins_of (own (exact_of p.kind) at (take p.size (b ∷ bs))) ++ own_origins (units (at + 1) (p.size - 1) bs)

first_unit : (at b : ℕ) (bs : List ℕ) → here at (b ∷ bs) ≡ of_piece at b bs (piece (b ∷ bs))
unfolding units own_origins
first_unit at b bs = refl

pub unit_gives : (k : Kind) (b : ℕ) (text after : List ℕ) → piece (b ∷ (text ++ after)) ≡ bare k (1 + length text) → Gives (exact_of k) (b ∷ text) after
unit_gives k b text after e at =
    let t : take (1 + length text) (b ∷ (text ++ after)) ≡ b ∷ text = take_at (b ∷ text) after (1 + length text) (omega arith) in
    let n : 1 + length text - 1 ≡ length text = omega arith in
    let m : at + 1 + length text ≡ at + length (b ∷ text) = omega arith in
    let s : units (at + 1) (1 + length text - 1) (text ++ after) ≡ units (at + length (b ∷ text)) 0 after =
    ap (λ (i : ℕ). units (at + 1) i (text ++ after)) n ∙ units_skip (at + 1) (length text) (text ++ after)
    ∙ ap (units (at + 1 + length text) 0) (drop_at text after (length text) refl) ∙ ap (λ (i : ℕ). units i 0 after) m in
    first_unit at b (text ++ after) ∙ ap (of_piece at b (text ++ after)) e
    ∙ ap (λ (xs : List ℕ). origins_of (own (exact_of k) at xs) ++ own_origins (units (at + 1) (1 + length text - 1) (text ++ after))) t
    ∙ ap (λ (us : List TextUnit). origins_of (own (exact_of k) at (b ∷ text)) ++ own_origins us) s

-- each byte of a text is a unit by itself
abbrev pub ArePlain : List ℕ → List ℕ → Type 0
ArePlain [] after = Unit {0}
ArePlain (b ∷ text) after = (piece (b ∷ (text ++ after)) ≡ bare kind.Plain 1) × ArePlain text after

plain_first : (b : ℕ) (text after : List ℕ) → piece (b ∷ (text ++ after)) ≡ bare kind.Plain 1 → Gives Each (b ∷ []) (text ++ after)
unfolding exact_of
plain_first b text after e = unit_gives kind.Plain b [] (text ++ after) e

own_first : (at b : ℕ) (text : List ℕ) → origins_of (own Each at (b ∷ [])) ++ origins_of (own Each (at + 1) text) ≡ origins_of (own Each at (b ∷ text))
unfolding own origins_of is_exact
own_first at b text = refl

pub plain_gives : (text after : List ℕ) → ArePlain text after → Gives Each text after
unfolding own origins_of
plain_gives [] after h at = let e : at ≡ at + 0 = omega arith in ap (λ (n : ℕ). here n after) e
plain_gives (b ∷ text) after h at =
    let m : at + 1 + length text ≡ at + length (b ∷ text) = omega arith in
    plain_first b text after h.0 at ∙ ap (λ (os : List Origin). origins_of (own Each at (b ∷ [])) ++ os) (plain_gives text after h.1 (at + 1))
    ∙ sym (append_assoc (origins_of (own Each at (b ∷ []))) (origins_of (own Each (at + 1) text)) (here (at + 1 + length text) after))
    ∙ ap (λ (os : List Origin). os ++ here (at + 1 + length text) after) (own_first at b text)
    ∙ ap (λ (n : ℕ). origins_of (own Each at (b ∷ text)) ++ here n after) m

-- ---- own bytes

own_length : (exact : Exact) (at : ℕ) (bs : List ℕ) → length (origins_of (own exact at bs)) ≡ length bs
unfolding own origins_of
own_length exact at [] = refl
own_length exact at (b ∷ bs) = ap suc (own_length exact (at + 1) bs)

pub last_exact : (exact : Exact) (at b : ℕ) (text : List ℕ) (rest : List Origin) → is_exact exact [] ≡ true →
    (get_or (origins_of (own exact at (b ∷ text)) ++ rest) (length text) no_origin).exact ≡ true
unfolding own origins_of
last_exact exact at b [] rest h = h
last_exact exact at b (c ∷ text) rest h = last_exact exact (at + 1) c text rest h

own_adjoin : (at : ℕ) (text : List ℕ) → adjoin (origins_of (own Each at text)) ≡ true
unfolding own origins_of adjoin is_exact
own_adjoin at [] = refl
own_adjoin at (b ∷ []) = refl
own_adjoin at (b ∷ (c ∷ text)) = let e : (at + 1 == at + 1) ≡ true = eq-eqb (at + 1) (at + 1) refl in rw (e, own_adjoin (at + 1) (c ∷ text)) refl

pub front_adjoins : (at : ℕ) (text : List ℕ) (rest : List Origin) → adjoin (take (length text) (origins_of (own Each at text) ++ rest)) ≡ true
front_adjoins at text rest = ap adjoin (take_at (origins_of (own Each at text)) rest (length text) (own_length Each at text)) ∙ own_adjoin at text

pub past_text : (exact : Exact) (os : List Origin) (at : ℕ) (text after : List ℕ) → drop at os ≡ here at (text ++ after) → Gives exact text after → drop (at + length text) os ≡ here (at + length text) after
past_text exact os at text after h g =
    sym (drop-drop (length text) at os) ∙ ap (drop (length text)) (h ∙ g at) ∙ drop_at (origins_of (own exact at text)) (here (at + length text) after) (length text) (own_length exact at text)
