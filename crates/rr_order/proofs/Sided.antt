-- The bits of the sides of drivers.
use Rattle.std.proofs.Common.{◌≡◌, ◌∙◌, sym, ap, subst, ℕ, ◌<◌, List, [], ◌∷◌, ◌++◌, map, pos, true, ◌&&◌, not, nat_eq, nat_lt, int_lt, ◌+ℤ◌, arith, append-nil, Option}
use Rattle.std.proofs.lemmas.Bool.{and_parts, eqb-true, ltb-true}
use Rattle.rr_syntax.specs.declared.tree.Expr.{Expr}
use Rattle.rr_syntax.specs.View.{plain}
use Rattle.rr_expr.specs.declared.types.Bit.{Bit}
use Rattle.rr_expr.specs.Reading.{NamesBit}
use Rattle.rr_expr.specs.Scopes.{Names}
use Rattle.rr_flat.specs.declared.signal.Signal.{Signal}
use Rattle.rr_flat.specs.Signals as plain_head
use Rattle.rr_flat.specs.View.{plain_signal}
use Rattle.rr_flat.specs.declared.design.Side as declared_side
use Rattle.rr_flat.specs.declared.design.Side.TheVariants as side
use Rattle.rr_flat.specs.View.{Design, plain_flat, plain_side}
use Rattle.rr_flat.specs.Writers.{scope_at, signal_bits, side_taken, taken, SideReads, side_is_wiring, is_wiring, side_signed}
use Rattle.rr_named_bits.specs.declared.piece.Piece.{Piece}
use Rattle.rr_named_bits.specs.declared.piece.Reach.{Reach}
use Rattle.rr_named_bits.specs.Lists.{Grown}
use Rattle.rr_named_bits.specs.Pieces.{bits_of, all_bits, covers}
use Rattle.rr_named_bits.proofs.Growing.{grown_push}
use Rattle.rr_named_bits.proofs.Reaching.{reach_one}
use Rattle.std.proofs.lemmas.Int.{ints}
use Rattle.rr_expr.specs.declared.types.Shape.{Shape}
use Rattle.rr_expr.specs.Values.{form}
use Rattle.rr_flat.specs.Plain.{Whole}
use Rattle.rr_named_bits.proofs.Runs.{run_of, in_has, covers_in}
use denote.Ref.{Bor}

pub one_piece : (ps : List Piece) (p : Piece) (old bits : List (Option Bit)) → all_bits ps ≡ bits_of p ++ old → old ≡ [] → bits_of p ≡ bits → all_bits ps ≡ bits
one_piece ps p old bits e f g = e ∙ (ap (λ (xs : List (Option Bit)). bits_of p ++ xs) f ∙ (append-nil (bits_of p) ∙ g))

pub none_left : (all new : List (Option Bit)) (ps : List Piece) → ps ≡ [] → all ≡ new ++ all_bits ps → all ≡ new
unfolding all_bits
none_left all new ps e h = h ∙ (ap (λ (qs : List Piece). new ++ all_bits qs) e ∙ append-nil new)

pub whole_taken : (d : Design) (id : ℕ) (x : declared_side.Side) (p : Piece) (all : List (Option Bit)) (ps : List Piece) → x ≡ side.Whole id → ps ≡ [] → all ≡ bits_of p ++ all_bits ps → bits_of p ≡ signal_bits (plain_flat d) id → all ≡ side_taken (plain_flat d) (plain_side x)
unfolding side_taken
whole_taken d id x p all ps e f h g = none_left all (bits_of p) ps f h ∙ (g ∙ ap (λ z. side_taken (plain_flat d) (plain_side z)) (sym e))

pub text_taken : (d : Design) (t : Bor Expr) (scope : ℕ) (names : Names) (x : declared_side.Side) (all : List (Option Bit)) (ps : List Piece) → x ≡ side.Text t scope → names ≡ scope_at (plain_flat d) scope → ps ≡ [] → all ≡ taken names (plain t.now) ++ all_bits ps
    → all ≡ side_taken (plain_flat d) (plain_side x)
unfolding side_taken
text_taken d t scope names x all ps e f k h =
    none_left all (taken names (plain t.now)) ps k h ∙ (ap (λ z. taken z (plain t.now)) f ∙ ap (λ z. side_taken (plain_flat d) (plain_side z)) (sym e))

pub text_wires : (d : Design) (t : Bor Expr) (scope : ℕ) (names : Names) (x : declared_side.Side) → x ≡ side.Text t scope → names ≡ scope_at (plain_flat d) scope → is_wiring names (plain t.now) ≡ side_is_wiring (plain_flat d) (plain_side x)
unfolding side_is_wiring
text_wires d t scope names x e f = ap (λ z. is_wiring z (plain t.now)) f ∙ ap (λ z. side_is_wiring (plain_flat d) (plain_side z)) (sym e)

pub whole_wires : (d : Design) (id : ℕ) (x : declared_side.Side) → x ≡ side.Whole id → true ≡ side_is_wiring (plain_flat d) (plain_side x)
unfolding side_is_wiring
whole_wires d id x e = ap (λ z. side_is_wiring (plain_flat d) (plain_side z)) (sym e)

covers_place : (id w : ℕ) (b : Bit) → covers (run_of id w (pos 0) w) b ≡ true → (b.signal ≡ id) × (b.place < w)
covers_place id w b h =
    let p = and_parts (nat_eq id b.signal) (nat_lt b.place w && (not (int_lt (pos b.place) (pos 0)) && int_lt (pos b.place) (pos 0 +ℤ pos w))) h in
    let q = and_parts (nat_lt b.place w) (not (int_lt (pos b.place) (pos 0)) && int_lt (pos b.place) (pos 0 +ℤ pos w)) p.1 in
    (sym (eqb-true id b.signal p.0), ltb-true b.place w q.0)

none_more : (k : ℕ) → pos 0 +ℤ pos k ≡ pos k
none_more k = grind (arith, ints)

place_covers : (id w : ℕ) (b : Bit) → b.signal ≡ id → b.place < w → covers (run_of id w (pos 0) w) b ≡ true
place_covers id w b e l = covers_in (run_of id w (pos 0) w) b ∙ in_has (run_of id w (pos 0) w) (pos 0) w b b.place (sym e) l l (none_more b.place)

pub whole_named : (d : Design) (id : ℕ) (ps : List Reach) (p : Piece) → p ≡ run_of id (plain_head.signal_at (map plain_signal d.signals) id).width (pos 0) (plain_head.signal_at (map plain_signal d.signals) id).width
    → Grown ps (ps ++ record { piece = p; words = 1 } ∷ []) (SideReads (plain_flat d) (Whole id))
unfolding SideReads
whole_named d id ps p e =
    let w : ℕ = (plain_head.signal_at (map plain_signal d.signals) id).width in
    let r : Piece = run_of id w (pos 0) w in
    let Q : Piece → Type 0 = λ q. Grown ps (ps ++ record { piece = q; words = 1 } ∷ []) (SideReads (plain_flat d) (Whole id)) in
    subst Q (sym e)
    (grown_push ps (record { piece = r; words = 1 }) (SideReads (plain_flat d) (Whole id)) (λ b c. covers_place id w b (sym (reach_one r b) ∙ c)) (λ b s. reach_one r b ∙ place_covers id w b s.0 s.1))

pub text_named : (d : Design) (t : Bor Expr) (scope : ℕ) (names : Names) (x : declared_side.Side) (ps qs : List Reach) → x ≡ side.Text t scope → names ≡ scope_at (plain_flat d) scope → Grown ps qs (NamesBit names (plain t.now))
    → Grown ps qs (SideReads (plain_flat d) (plain_side x))
unfolding SideReads
text_named d t scope names x ps qs e f g =
    let P : Names → Type 0 = λ z. Grown ps qs (NamesBit z (plain t.now)) in
    let Q : declared_side.Side → Type 0 = λ z. Grown ps qs (SideReads (plain_flat d) (plain_side z)) in
    subst Q (sym e) (subst P f g)

pub side_named : (d : Design) (id : ℕ) (x : declared_side.Side) (ps qs : List Reach) → x ≡ side.Whole id → Grown ps qs (SideReads (plain_flat d) (Whole id)) → Grown ps qs (SideReads (plain_flat d) (plain_side x))
side_named d id x ps qs e g =
    let Q : declared_side.Side → Type 0 = λ z. Grown ps qs (SideReads (plain_flat d) (plain_side z)) in
    subst Q (sym e) g

pub whole_signed : (d : Design) (id : ℕ) (s : Signal) (x : declared_side.Side) → plain_signal s ≡ plain_head.signal_at (plain_flat d).signals id → x ≡ side.Whole id → s.signed ≡ side_signed (plain_flat d) (plain_side x)
unfolding side_signed
whole_signed d id s x q f = ap (λ (y : plain_head.Signal). y.signed) q ∙ ap (λ y. side_signed (plain_flat d) (plain_side y)) (sym f)

pub text_signed : (d : Design) (t : Bor Expr) (scope : ℕ) (names : Names) (x : declared_side.Side) (own : Shape) → x ≡ side.Text t scope → names ≡ scope_at (plain_flat d) scope → own ≡ form names (plain t.now) → own.signed ≡ side_signed (plain_flat d) (plain_side x)
unfolding side_signed
text_signed d t scope names x own e f g = ap (λ (y : Shape). y.signed) g ∙ (ap (λ z. (form z (plain t.now)).signed) f ∙ ap (λ z. side_signed (plain_flat d) (plain_side z)) (sym e))
