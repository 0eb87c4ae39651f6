-- A fault of a text is told at a byte of the text, or at its end.
use Rattle.std.proofs.Common.{◌≡◌, ℕ, zero, suc, ◌+◌, ◌≤◌, List, [], ◌∷◌, length, Option, arith, ap, sym, subst}
use Rattle.std.proofs.lemmas.List.{length-append}
use Rattle.rr_lex.specs.Tokens.{Lexeme, AreTokens, IsFirstFault, Read, here, white, token, Rise}
use Rattle.rr_lex.specs.declared.piece.Wrong.{Wrong}
use Rattle.rr_lex.proofs.Steps.{lex_rise}
use Rattle.rr_flat.specs.Signals.{Text}
use Rattle.rr_flat.specs.declared.fault.FlatFault.{FlatFault}
use Rattle.rr_flat.specs.declared.fault.FlatFault.TheVariants as flat
use Rattle.rr_elaborate.specs.Designs.{IsFlawed, IsUnsupported, placed, start_of}
use Rattle.rr_run.specs.declared.fault.Fault.{Fault}
use Rattle.rr_run.specs.Runs.{IsBroken}

-- ---- tokens
rise_room : (from end : ℕ) (ts : List Lexeme) → Rise from end ts → from ≤ end
rise_room from end [] r = r
rise_room from end (t ∷ ts) r = omega (arith, r.0, r.1, rise_room t.end end ts r.2)

rise_start : (from end k : ℕ) (ts : List Lexeme) → Rise from end ts → start_of ts k ≤ end
rise_start from end k [] r = omega arith
rise_start from end zero (t ∷ ts) r = omega (arith, r.1, rise_room t.end end ts r.2)
rise_start from end (suc k) (t ∷ ts) r = rise_start t.end end k ts r.2

starts_within : (bytes : List ℕ) (ts : List Lexeme) (k : ℕ) → AreTokens bytes ts → start_of ts k ≤ length bytes
starts_within bytes ts k are = rise_start 0 (length bytes) k ts (lex_rise bytes ts are)

-- ---- where reading stops
read_room : (end : ℕ) (rest : List ℕ) (at : ℕ) (bs : List ℕ) (ts : List Lexeme) → Read end rest at bs ts → end + length rest ≡ at + length bs
read_room end rest at bs ts (here a b e f) = omega (arith, e, ap length f)
read_room end rest at bs ts (white a b text after us e w r) = omega (arith, ap length e, length-append text after, read_room end rest (a + length text) after us r)
read_room end rest at bs ts (token a b text after w us e s r) = omega (arith, ap length e, length-append text after, read_room end rest (a + length text) after us r)

pub fault_within : (bytes : List ℕ) (w : Wrong) (at : ℕ) → IsFirstFault bytes w at → at ≤ length bytes
fault_within bytes w at f = omega (arith, read_room at f.1 0 bytes f.0 f.2)

pub outside_within : (bytes : List ℕ) (at : ℕ) → IsUnsupported bytes at → at ≤ length bytes
outside_within bytes at u = omega (arith, u.starts, starts_within bytes u.tokens u.at u.lexed)

pub broken_within : (bytes : List ℕ) (top word : Option Text) (what : Fault) (at : ℕ) → IsBroken bytes top word what at → at ≤ length bytes
broken_within bytes top word what at b = omega (arith, b.place, starts_within bytes b.tokens b.token b.design.text.lexed)

-- ---- elaboration
-- the byte of a fault that has one
abbrev pub byte_of : FlatFault → ℕ
byte_of flat.NoTop = 0
byte_of (flat.UnknownModule at) = at
byte_of (flat.SelfInstance at) = at
byte_of (flat.NameTwice at) = at
byte_of (flat.UnknownName at) = at
byte_of (flat.BadRange at) = at
byte_of (flat.NotConstant at) = at
byte_of (flat.PortMismatch at) = at
byte_of (flat.TooWide at width) = at
byte_of (flat.TooMany limit count) = 0
byte_of (flat.BadLoop at) = at
byte_of flat.Memory = 0

placed_within : (n : ℕ) (ts : List Lexeme) (f : FlatFault) → ((k : ℕ) → start_of ts k ≤ n) → byte_of (placed ts f) ≤ n
placed_within n ts flat.NoTop l = omega arith
placed_within n ts (flat.UnknownModule at) l = l at
placed_within n ts (flat.SelfInstance at) l = l at
placed_within n ts (flat.NameTwice at) l = l at
placed_within n ts (flat.UnknownName at) l = l at
placed_within n ts (flat.BadRange at) l = l at
placed_within n ts (flat.NotConstant at) l = l at
placed_within n ts (flat.PortMismatch at) l = l at
placed_within n ts (flat.TooWide at width) l = l at
placed_within n ts (flat.TooMany limit count) l = omega arith
placed_within n ts (flat.BadLoop at) l = l at
placed_within n ts flat.Memory l = omega arith

pub flaw_within : (bytes : List ℕ) (top : Option Text) (f : FlatFault) → IsFlawed bytes top f → byte_of f ≤ length bytes
flaw_within bytes top f is =
    subst (λ (g : FlatFault). byte_of g ≤ length bytes) (sym is.at) (placed_within (length bytes) is.tokens is.found (λ k. starts_within bytes is.tokens k is.text.lexed))
