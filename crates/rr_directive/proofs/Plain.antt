-- A file whose units all give themselves.
use Rattle.std.proofs.Common.{ℕ, zero, suc, ◌≡◌, ◌+◌, ◌-◌, ◌≤◌, ◌&&◌, List, [], ◌∷◌, ◌++◌, take, drop, true, false, Option, Some, None, refl, ap, ◌∙◌, sym, arith, inl, inr}
use Rattle.std.specs.List.{All, flat_map, prefix_len}
use Rattle.std.proofs.lemmas.Bool.{cases_Bool}
use Rattle.std.proofs.lemmas.List.{take-append-drop}
use Rattle.std.proofs.lemmas.List.Elements.{All-head, All-tail}
use Rattle.rr_directive.specs.declared.piece.Directive.{Directive}
use Rattle.rr_directive.specs.declared.piece.Directive.TheVariants as directive
use Rattle.rr_directive.specs.declared.piece.Kind.{Kind}
use Rattle.rr_directive.specs.declared.piece.Kind.TheVariants as kind
use Rattle.rr_directive.specs.Bytes.{begins, is, is_letter, is_name_byte, is_space, past}
use Rattle.rr_directive.specs.Pieces.{Piece, TextUnit, begins_with, defining, directive_of, front, has_name, is_escaped, named_piece, piece, units, units_of, with_name}
use Rattle.rr_directive.specs.Expand.{Own, Exact, Each, Last, Nowhere, Event, act_of, bytes_of, first_unclosed, is_on, is_opening, own, own_bytes, origins_of, ReadsAll, none, more, start}
use Rattle.rr_directive.specs.Laws.{PlainStays, is_kept}
use Rattle.rr_directive.proofs.Outputs.{bytes_append}

-- ---- each byte stands in one unit

name_size : (k : Kind) (n : ℕ) (bs : List ℕ) → 1 ≤ n → 1 ≤ (with_name k n bs).size
name_size k n bs l = elim (cases_Bool (begins is_letter (past is_space bs))) [
  | inl h ↦ rw h (omega arith)
  | inr h ↦ rw h l
]

define_size : (p : Piece) (bs : List ℕ) → 1 ≤ p.size → 1 ≤ (defining p bs).size
define_size p bs l = elim (cases_Bool (has_name p)) [
  | inl h ↦ rw h (omega arith)
  | inr h ↦ rw h l
]

named_size : (o : Option Directive) (n : ℕ) (bs : List ℕ) → 1 ≤ (named_piece o n bs).size
unfolding named_piece
named_size None n bs = omega arith
named_size (Some directive.Stays) n bs = omega arith
named_size (Some directive.Define) n bs = define_size (with_name (kind.Named directive.Define) (1 + n) (drop (1 + n) bs)) bs (name_size (kind.Named directive.Define) (1 + n) (drop (1 + n) bs) (omega arith))
named_size (Some directive.Undef) n bs = name_size (kind.Named directive.Undef) (1 + n) (drop (1 + n) bs) (omega arith)
named_size (Some directive.Ifdef) n bs = name_size (kind.Named directive.Ifdef) (1 + n) (drop (1 + n) bs) (omega arith)
named_size (Some directive.Ifndef) n bs = name_size (kind.Named directive.Ifndef) (1 + n) (drop (1 + n) bs) (omega arith)
named_size (Some directive.Else) n bs = omega arith
named_size (Some directive.Endif) n bs = omega arith
named_size (Some directive.Elsif) n bs = omega arith

pub some_size : (bs : List ℕ) → 1 ≤ (piece bs).size
unfolding piece
some_size bs = elim (cases_Bool (begins_with 47 47 bs)) [
  | inl h ↦ rw h (omega arith)
  | inr h ↦ elim (cases_Bool (begins_with 47 42 bs)) [
    | inl k ↦ rw (h, k) (omega arith)
    | inr k ↦ elim (cases_Bool (is_escaped bs)) [
      | inl e ↦ rw (h, k, e) (omega arith)
      | inr e ↦ elim (cases_Bool (begins (is 96) bs && begins is_letter (drop 1 bs))) [
        | inl t ↦ rw (h, k, e, t) (named_size (directive_of (front is_name_byte (drop 1 bs))) (prefix_len is_name_byte (drop 1 bs)) bs)
        | inr t ↦ rw (h, k, e, t) (omega arith)
      ]
    ]
  ]
]

abbrev pub its_bytes : TextUnit → List ℕ
its_bytes u = u.bytes

taken_one : (n b : ℕ) (bs : List ℕ) → 1 ≤ n → take n (b ∷ bs) ++ drop (n - 1) bs ≡ b ∷ bs
taken_one zero b bs l = absurd (omega arith)
taken_one (suc n) b bs l = let e : suc n - 1 ≡ n = omega arith in ap (λ (m : ℕ). b ∷ (take n bs ++ drop m bs)) e ∙ ap (λ (xs : List ℕ). b ∷ xs) (take-append-drop n bs)

pub units_join : (at taken : ℕ) (bs : List ℕ) → flat_map its_bytes (units at taken bs) ≡ drop taken bs
unfolding units
units_join at zero [] = refl
units_join at (suc taken) [] = refl
units_join at (suc taken) (b ∷ bs) = units_join (at + 1) taken bs
units_join at zero (b ∷ bs) =
    ap (λ (xs : List ℕ). take (piece (b ∷ bs)).size (b ∷ bs) ++ xs) (units_join (at + 1) ((piece (b ∷ bs)).size - 1) bs) ∙ taken_one (piece (b ∷ bs)).size b bs (some_size (b ∷ bs))

-- ---- units that give themselves

pub own_given : (exact : Exact) (at : ℕ) (bs : List ℕ) → bytes_of (own exact at bs) ≡ bs
unfolding own bytes_of
own_given exact at [] = refl
own_given exact at (b ∷ bs) = ap (λ (xs : List ℕ). b ∷ xs) (own_given exact (at + 1) bs)

pub kept_act : (u : TextUnit) (k : Kind) → is_kept k ≡ true → (exact : Exact) × (act_of start u.piece k ≡ Own exact)
unfolding is_kept act_of is_on
kept_act u kind.Comment h = (Nowhere, refl)
kept_act u kind.Escaped h = (Last, refl)
kept_act u kind.Plain h = (Each, refl)
kept_act u kind.Use h = absurd (cc)
kept_act u (kind.Named directive.Stays) h = (Nowhere, refl)
kept_act u (kind.Named directive.Define) h = absurd (cc)
kept_act u (kind.Named directive.Undef) h = absurd (cc)
kept_act u (kind.Named directive.Ifdef) h = absurd (cc)
kept_act u (kind.Named directive.Ifndef) h = absurd (cc)
kept_act u (kind.Named directive.Else) h = absurd (cc)
kept_act u (kind.Named directive.Endif) h = absurd (cc)
kept_act u (kind.Named directive.Elsif) h = absurd (cc)

kept_closed : (k : Kind) → is_kept k ≡ true → is_opening k ≡ false
unfolding is_kept is_opening
kept_closed kind.Comment h = refl
kept_closed kind.Escaped h = refl
kept_closed kind.Plain h = refl
kept_closed kind.Use h = refl
kept_closed (kind.Named directive.Stays) h = refl
kept_closed (kind.Named directive.Define) h = refl
kept_closed (kind.Named directive.Undef) h = refl
kept_closed (kind.Named directive.Ifdef) h = absurd (cc)
kept_closed (kind.Named directive.Ifndef) h = absurd (cc)
kept_closed (kind.Named directive.Else) h = refl
kept_closed (kind.Named directive.Endif) h = refl
kept_closed (kind.Named directive.Elsif) h = refl

abbrev pub AreKept : List TextUnit → Type 0
AreKept us = All (λ u. is_kept u.piece.kind ≡ true) us

pub none_open : (us : List TextUnit) → AreKept us → first_unclosed us ≡ None
unfolding first_unclosed
none_open [] a = refl
none_open (u ∷ us) a =
    let o = kept_closed u.piece.kind (All-head (λ (v : TextUnit). is_kept v.piece.kind ≡ true) u us a) in
    rw o (none_open us (All-tail (λ (v : TextUnit). is_kept v.piece.kind ≡ true) u us a))

no_bytes : bytes_of [] ≡ []
unfolding bytes_of
no_bytes = refl

kept_reads : (us : List TextUnit) → AreKept us → (es : List Event) × (ReadsAll start us es start × (bytes_of es ≡ flat_map its_bytes us))
kept_reads [] a = ([], (none start, no_bytes))
kept_reads (u ∷ us) a =
    let k = kept_act u u.piece.kind (All-head (λ (v : TextUnit). is_kept v.piece.kind ≡ true) u us a) in
    let r = kept_reads us (All-tail (λ (v : TextUnit). is_kept v.piece.kind ≡ true) u us a) in (
      own k.0 u.at u.bytes ++ r.0,
      (
        more start start start u us (own k.0 u.at u.bytes) r.0 (own_bytes k.0 k.1) r.1.0,
        bytes_append (own k.0 u.at u.bytes) r.0 ∙ (ap (λ (xs : List ℕ). xs ++ bytes_of r.0) (own_given k.0 u.at u.bytes) ∙ ap (λ (xs : List ℕ). u.bytes ++ xs) r.1.1),
      ),
    )

pub plain_stays : PlainStays
plain_stays bytes a =
    let r = kept_reads (units_of bytes) a in (
      origins_of r.0,
      record {
        events = r.0;
        end = start;
        reads = r.1.0;
        closed = none_open (units_of bytes) a;
        text_is = sym (r.1.1 ∙ units_join 0 0 bytes);
        origins_are = refl;
      },
    )
