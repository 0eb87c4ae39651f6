-- The units in which a file is read, and in the same way a text that was defined (IEEE 1364-2005 sections 3.3, 3.7.1 and 19): a
-- comment, an escaped name, a backtick with a name and what belongs to its directive, and every other byte.
use Rattle.std.specs.Prelude.{ℕ, zero, suc, ◌+◌, ◌-◌, List, [], ◌∷◌, take, drop, codes, Bool, false, ◌&&◌, ◌||◌, ◌==◌, Option, Some, None, if◌then◌else◌}
use Rattle.std.specs.List.{prefix_len}
use Rattle.std.specs.Str.{bytes_eq}
use Rattle.rr_directive.specs.declared.piece.Directive.{Directive}
use Rattle.rr_directive.specs.declared.piece.Directive.TheVariants as directive
use Rattle.rr_directive.specs.declared.piece.Kind.{Kind}
use Rattle.rr_directive.specs.declared.piece.Kind.TheVariants as kind
use Rattle.rr_directive.specs.Bytes.{is, begins, past, is_letter, is_name_byte, is_printable, is_space, is_in_line}

-- A unit: what it is, its name, whether `(` stands directly after the name, the text that it defines, and how many bytes it has.
-- The name is that of a use, or the one that a directive takes, where it has one.
pub record Piece : Type 0 where
  pub kind : Kind
  pub name : List ℕ
  pub bracket : Bool
  pub text : List ℕ
  pub size : ℕ

abbrev pub bare : Kind → ℕ → Piece
bare k n = record { kind = k; name = []; bracket = false; text = []; size = n }

unfoldable pub begins_with : ℕ → ℕ → List ℕ → Bool
begins_with a b bs = begins (is a) bs && begins (is b) (drop 1 bs)

-- how many bytes there are up to the two bytes, these included; all of them, where the two stand nowhere
unfoldable pub closed : ℕ → ℕ → List ℕ → ℕ
closed a b [] = 0
closed a b (x ∷ xs) = if x == a && begins (is b) xs then 2 else 1 + closed a b xs

-- \ and one or more bytes 33 to 126, up to the first other byte, whatever that is (section 3.7.1)
unfoldable pub is_escaped : List ℕ → Bool
is_escaped bs = begins (is 92) bs && begins is_printable (drop 1 bs)

-- the directives (section 19), of which five and `include stay as they are
unfoldable pub directive_of : List ℕ → Option Directive
directive_of name =
    if bytes_eq name (codes "define") then Some directive.Define
    else (if bytes_eq name (codes "undef") then Some directive.Undef
    else (if bytes_eq name (codes "ifdef") then Some directive.Ifdef
    else (if bytes_eq name (codes "ifndef") then Some directive.Ifndef
    else (if bytes_eq name (codes "else") then Some directive.Else
    else (if bytes_eq name (codes "endif") then Some directive.Endif
    else (if bytes_eq name (codes "elsif") then Some directive.Elsif
    else (if bytes_eq name (codes "timescale") then Some directive.Stays
    else (if bytes_eq name (codes "default_nettype") then Some directive.Stays
    else (if bytes_eq name (codes "resetall") then Some directive.Stays
    else (if bytes_eq name (codes "celldefine") then Some directive.Stays
    else (if bytes_eq name (codes "endcelldefine") then Some directive.Stays
    else (if bytes_eq name (codes "include") then Some directive.Stays
    else None))))))))))))

-- the end of a line, LF or CR and LF
unfoldable pub ends_line : List ℕ → Bool
ends_line bs = begins (is 10) bs || begins_with 13 10 bs

-- A text goes on in the next line behind a \ directly before the end of its line. How many bytes these are.
unfoldable pub join_len : List ℕ → ℕ
join_len bs = if begins_with 92 10 bs then 2 else (if begins_with 92 13 bs && begins (is 10) (drop 2 bs) then 3 else 0)

-- how many bytes a defined text has, of which so many belong to a \ and the end of its line: up to the end of the line, or to //
unfoldable pub text_len : ℕ → List ℕ → ℕ
text_len taken [] = 0
text_len (suc taken) (b ∷ bs) = 1 + text_len taken bs
text_len zero (b ∷ bs) = if ends_line (b ∷ bs) || begins_with 47 47 (b ∷ bs) then 0 else 1 + text_len (join_len (b ∷ bs) - 1) bs

-- .. in which a \ and the end of its line are one blank
unfoldable pub joined : ℕ → List ℕ → List ℕ
joined taken [] = []
joined (suc taken) (b ∷ bs) = joined taken bs
joined zero (b ∷ bs) = (if join_len (b ∷ bs) == 0 then b else 32) ∷ joined (join_len (b ∷ bs) - 1) bs

abbrev pub front : (ℕ → Bool) → List ℕ → List ℕ
front p bs = take (prefix_len p bs) bs

-- a directive that takes a name, which stands after blanks and tabs in the same line; n bytes go before what is left
abbrev pub with_name : Kind → ℕ → List ℕ → Piece
with_name k n after =
    if begins is_letter (past is_space after) then
    record { kind = k; name = front is_name_byte (past is_space after); bracket = false; text = []; size = n + (prefix_len is_space after + prefix_len is_name_byte (past is_space after)) }
    else bare k n

-- and one that defines a text, from the first byte after its name that is no blank or tab
abbrev pub with_text : Piece → List ℕ → Piece
with_text p after = record {
  kind = p.kind;
  name = p.name;
  bracket = begins (is 40) after;
  text = joined 0 (take (text_len 0 (past is_space after)) (past is_space after));
  size = p.size + (prefix_len is_space after + text_len 0 (past is_space after));
}

abbrev pub has_name : Piece → Bool
has_name p = begins is_letter p.name

abbrev pub defining : Piece → List ℕ → Piece
defining p bs = if has_name p then with_text p (drop p.size bs) else p

-- a backtick and a name of n bytes
unfoldable pub named_piece : Option Directive → ℕ → List ℕ → Piece
named_piece None n bs = record { kind = kind.Use; name = take n (drop 1 bs); bracket = false; text = []; size = 1 + n }
named_piece (Some directive.Stays) n bs = bare (kind.Named directive.Stays) (1 + prefix_len is_in_line (drop 1 bs))
named_piece (Some directive.Define) n bs = defining (with_name (kind.Named directive.Define) (1 + n) (drop (1 + n) bs)) bs
named_piece (Some directive.Undef) n bs = with_name (kind.Named directive.Undef) (1 + n) (drop (1 + n) bs)
named_piece (Some directive.Ifdef) n bs = with_name (kind.Named directive.Ifdef) (1 + n) (drop (1 + n) bs)
named_piece (Some directive.Ifndef) n bs = with_name (kind.Named directive.Ifndef) (1 + n) (drop (1 + n) bs)
named_piece (Some directive.Else) n bs = bare (kind.Named directive.Else) (1 + n)
named_piece (Some directive.Endif) n bs = bare (kind.Named directive.Endif) (1 + n)
named_piece (Some directive.Elsif) n bs = bare (kind.Named directive.Elsif) (1 + n)

-- the unit with which bytes begin, of which there are some
unfoldable pub piece : List ℕ → Piece
piece bs =
    if begins_with 47 47 bs then bare kind.Comment (2 + prefix_len is_in_line (drop 2 bs))
    else (if begins_with 47 42 bs then bare kind.Comment (2 + closed 42 47 (drop 2 bs))
    else (if is_escaped bs then bare kind.Escaped (1 + prefix_len is_printable (drop 1 bs))
    else (if begins (is 96) bs && begins is_letter (drop 1 bs) then
    named_piece (directive_of (front is_name_byte (drop 1 bs))) (prefix_len is_name_byte (drop 1 bs)) bs
    else bare kind.Plain 1)))

-- a unit with its place, from 0, and its bytes
pub record TextUnit : Type 0 where
  pub at : ℕ
  pub piece : Piece
  pub bytes : List ℕ

-- the units of bytes from a place on, the first of which belong to the unit before
unfoldable pub units : ℕ → ℕ → List ℕ → List TextUnit
units at taken [] = []
units at (suc taken) (b ∷ bs) = units (at + 1) taken bs
units at zero (b ∷ bs) = record { at = at; piece = piece (b ∷ bs); bytes = take (piece (b ∷ bs)).size (b ∷ bs) } ∷ units (at + 1) ((piece (b ∷ bs)).size - 1) bs

abbrev pub units_of : List ℕ → List TextUnit
units_of bs = units 0 0 bs
