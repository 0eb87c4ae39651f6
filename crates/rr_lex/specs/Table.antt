-- The tables that the lexer looks up.
use Rattle.std.specs.Prelude.{ℕ, List, [], ◌∷◌, ◌+◌, ◌-◌, ◌*◌, ◌/◌, ◌%◌, ◌&&◌, nat_lt, length, get_or, Option, Some, None, if◌then◌else◌}
use Rattle.std.specs.Str.{bytes_eq}
use Rattle.rr_lex.specs.declared.bytes.Class.{Class}
use Rattle.rr_lex.specs.declared.bytes.Class.TheVariants as class

unfoldable pub mask_of : Class → ℕ
mask_of class.Blank = 1
mask_of class.Gap = 2
mask_of class.Dark = 4
mask_of class.InLine = 8
mask_of class.Letter = 16
mask_of class.NameByte = 32
mask_of class.Printable = 64
mask_of class.Digit = 128
mask_of class.Decimal = 256
mask_of class.Bits = 512
mask_of class.Octals = 1024
mask_of class.Hexes = 2048
mask_of class.Underscore = 4096
mask_of class.Wild = 8192
mask_of class.FirstBit = 16384
mask_of class.FirstOctal = 32768
mask_of class.FirstDecimal = 65536
mask_of class.FirstHex = 131072

-- bit k of an entry says that its byte is of the k-th class
abbrev pub class_table : List ℕ
class_table =
    12 ∷ 12 ∷ 12 ∷ 12 ∷ 12 ∷ 12 ∷ 12 ∷ 12 ∷ 12 ∷ 11 ∷ 3 ∷ 12 ∷ 9 ∷ 11 ∷ 12 ∷ 12 ∷
    12 ∷ 12 ∷ 12 ∷ 12 ∷ 12 ∷ 12 ∷ 12 ∷ 12 ∷ 12 ∷ 12 ∷ 12 ∷ 12 ∷ 12 ∷ 12 ∷ 12 ∷ 12 ∷
    11 ∷ 76 ∷ 76 ∷ 76 ∷ 108 ∷ 76 ∷ 76 ∷ 76 ∷ 76 ∷ 76 ∷ 76 ∷ 76 ∷ 76 ∷ 76 ∷ 76 ∷ 76 ∷
    249836 ∷ 249836 ∷ 232940 ∷ 232940 ∷ 232940 ∷ 232940 ∷ 232940 ∷ 232940 ∷ 199148 ∷ 199148 ∷ 76 ∷ 76 ∷ 76 ∷ 76 ∷ 76 ∷ 257612 ∷
    76 ∷ 133244 ∷ 133244 ∷ 133244 ∷ 133244 ∷ 133244 ∷ 133244 ∷ 124 ∷ 124 ∷ 124 ∷ 124 ∷ 124 ∷ 124 ∷ 124 ∷ 124 ∷ 124 ∷
    124 ∷ 124 ∷ 124 ∷ 124 ∷ 124 ∷ 124 ∷ 124 ∷ 124 ∷ 257660 ∷ 124 ∷ 257660 ∷ 76 ∷ 76 ∷ 76 ∷ 76 ∷ 8060 ∷
    76 ∷ 133244 ∷ 133244 ∷ 133244 ∷ 133244 ∷ 133244 ∷ 133244 ∷ 124 ∷ 124 ∷ 124 ∷ 124 ∷ 124 ∷ 124 ∷ 124 ∷ 124 ∷ 124 ∷
    124 ∷ 124 ∷ 124 ∷ 124 ∷ 124 ∷ 124 ∷ 124 ∷ 124 ∷ 257660 ∷ 124 ∷ 257660 ∷ 76 ∷ 76 ∷ 76 ∷ 76 ∷ 12 ∷
    12 ∷ 12 ∷ 12 ∷ 12 ∷ 12 ∷ 12 ∷ 12 ∷ 12 ∷ 12 ∷ 12 ∷ 12 ∷ 12 ∷ 12 ∷ 12 ∷ 12 ∷ 12 ∷
    12 ∷ 12 ∷ 12 ∷ 12 ∷ 12 ∷ 12 ∷ 12 ∷ 12 ∷ 12 ∷ 12 ∷ 12 ∷ 12 ∷ 12 ∷ 12 ∷ 12 ∷ 12 ∷
    12 ∷ 12 ∷ 12 ∷ 12 ∷ 12 ∷ 12 ∷ 12 ∷ 12 ∷ 12 ∷ 12 ∷ 12 ∷ 12 ∷ 12 ∷ 12 ∷ 12 ∷ 12 ∷
    12 ∷ 12 ∷ 12 ∷ 12 ∷ 12 ∷ 12 ∷ 12 ∷ 12 ∷ 12 ∷ 12 ∷ 12 ∷ 12 ∷ 12 ∷ 12 ∷ 12 ∷ 12 ∷
    12 ∷ 12 ∷ 12 ∷ 12 ∷ 12 ∷ 12 ∷ 12 ∷ 12 ∷ 12 ∷ 12 ∷ 12 ∷ 12 ∷ 12 ∷ 12 ∷ 12 ∷ 12 ∷
    12 ∷ 12 ∷ 12 ∷ 12 ∷ 12 ∷ 12 ∷ 12 ∷ 12 ∷ 12 ∷ 12 ∷ 12 ∷ 12 ∷ 12 ∷ 12 ∷ 12 ∷ 12 ∷
    12 ∷ 12 ∷ 12 ∷ 12 ∷ 12 ∷ 12 ∷ 12 ∷ 12 ∷ 12 ∷ 12 ∷ 12 ∷ 12 ∷ 12 ∷ 12 ∷ 12 ∷ 12 ∷
    12 ∷ 12 ∷ 12 ∷ 12 ∷ 12 ∷ 12 ∷ 12 ∷ 12 ∷ 12 ∷ 12 ∷ 12 ∷ 12 ∷ 12 ∷ 12 ∷ 12 ∷ 12 ∷ []

-- what the first letter of a reserved word adds to its hash
abbrev pub keyword_offsets : List ℕ
keyword_offsets =
    0 ∷ 4 ∷ 5 ∷ 31 ∷ 2 ∷ 0 ∷ 25 ∷ 4 ∷ 5 ∷ 1 ∷ 0 ∷ 0 ∷ 5 ∷ 2 ∷ 8 ∷ 8 ∷
    3 ∷ 0 ∷ 1 ∷ 0 ∷ 2 ∷ 1 ∷ 0 ∷ 14 ∷ 1 ∷ 0 ∷ 0 ∷ 0 ∷ 0 ∷ 0 ∷ 0 ∷ 0 ∷ []

-- the place of the only reserved word with a hash, or 255
abbrev pub keyword_slots : List ℕ
keyword_slots =
    7 ∷ 255 ∷ 255 ∷ 255 ∷ 255 ∷ 255 ∷ 31 ∷ 255 ∷ 55 ∷ 45 ∷ 123 ∷ 16 ∷ 103 ∷ 84 ∷ 122 ∷ 69 ∷
    255 ∷ 61 ∷ 35 ∷ 255 ∷ 60 ∷ 27 ∷ 104 ∷ 121 ∷ 119 ∷ 44 ∷ 255 ∷ 255 ∷ 9 ∷ 255 ∷ 255 ∷ 92 ∷
    255 ∷ 82 ∷ 32 ∷ 85 ∷ 43 ∷ 63 ∷ 5 ∷ 255 ∷ 53 ∷ 66 ∷ 255 ∷ 12 ∷ 255 ∷ 255 ∷ 4 ∷ 255 ∷
    10 ∷ 46 ∷ 255 ∷ 255 ∷ 255 ∷ 255 ∷ 255 ∷ 51 ∷ 255 ∷ 255 ∷ 255 ∷ 18 ∷ 101 ∷ 255 ∷ 47 ∷ 56 ∷
    255 ∷ 255 ∷ 15 ∷ 255 ∷ 114 ∷ 91 ∷ 255 ∷ 255 ∷ 255 ∷ 48 ∷ 255 ∷ 255 ∷ 255 ∷ 255 ∷ 255 ∷ 8 ∷
    255 ∷ 255 ∷ 115 ∷ 255 ∷ 255 ∷ 255 ∷ 255 ∷ 255 ∷ 255 ∷ 106 ∷ 255 ∷ 255 ∷ 255 ∷ 102 ∷ 86 ∷ 255 ∷
    255 ∷ 255 ∷ 28 ∷ 107 ∷ 99 ∷ 21 ∷ 11 ∷ 13 ∷ 255 ∷ 1 ∷ 255 ∷ 255 ∷ 255 ∷ 255 ∷ 100 ∷ 255 ∷
    70 ∷ 23 ∷ 255 ∷ 255 ∷ 255 ∷ 255 ∷ 255 ∷ 255 ∷ 89 ∷ 255 ∷ 80 ∷ 36 ∷ 255 ∷ 117 ∷ 255 ∷ 74 ∷
    71 ∷ 93 ∷ 90 ∷ 255 ∷ 255 ∷ 255 ∷ 255 ∷ 118 ∷ 255 ∷ 120 ∷ 38 ∷ 57 ∷ 255 ∷ 111 ∷ 255 ∷ 255 ∷
    255 ∷ 255 ∷ 255 ∷ 64 ∷ 78 ∷ 255 ∷ 67 ∷ 255 ∷ 255 ∷ 255 ∷ 25 ∷ 255 ∷ 255 ∷ 65 ∷ 255 ∷ 255 ∷
    255 ∷ 255 ∷ 50 ∷ 29 ∷ 255 ∷ 255 ∷ 255 ∷ 255 ∷ 52 ∷ 20 ∷ 42 ∷ 255 ∷ 81 ∷ 255 ∷ 22 ∷ 110 ∷
    113 ∷ 72 ∷ 68 ∷ 255 ∷ 108 ∷ 19 ∷ 76 ∷ 3 ∷ 54 ∷ 79 ∷ 94 ∷ 73 ∷ 255 ∷ 255 ∷ 255 ∷ 255 ∷
    255 ∷ 255 ∷ 255 ∷ 255 ∷ 255 ∷ 77 ∷ 255 ∷ 30 ∷ 14 ∷ 97 ∷ 255 ∷ 26 ∷ 41 ∷ 255 ∷ 255 ∷ 255 ∷
    255 ∷ 255 ∷ 95 ∷ 98 ∷ 83 ∷ 87 ∷ 255 ∷ 255 ∷ 255 ∷ 255 ∷ 255 ∷ 62 ∷ 96 ∷ 75 ∷ 255 ∷ 88 ∷
    255 ∷ 255 ∷ 255 ∷ 255 ∷ 255 ∷ 33 ∷ 0 ∷ 255 ∷ 112 ∷ 24 ∷ 255 ∷ 255 ∷ 255 ∷ 58 ∷ 17 ∷ 255 ∷
    2 ∷ 59 ∷ 37 ∷ 116 ∷ 39 ∷ 255 ∷ 6 ∷ 255 ∷ 255 ∷ 105 ∷ 255 ∷ 49 ∷ 109 ∷ 34 ∷ 40 ∷ 255 ∷ []

-- the place of the only mark with a hash, or 255
abbrev pub mark_slots : List ℕ
mark_slots =
    8 ∷ 255 ∷ 22 ∷ 3 ∷ 25 ∷ 255 ∷ 255 ∷ 255 ∷ 38 ∷ 10 ∷ 34 ∷ 255 ∷ 255 ∷ 255 ∷ 255 ∷ 255 ∷
    36 ∷ 14 ∷ 39 ∷ 255 ∷ 255 ∷ 17 ∷ 255 ∷ 255 ∷ 255 ∷ 28 ∷ 255 ∷ 255 ∷ 255 ∷ 255 ∷ 255 ∷ 30 ∷
    40 ∷ 7 ∷ 255 ∷ 5 ∷ 23 ∷ 12 ∷ 255 ∷ 255 ∷ 255 ∷ 255 ∷ 41 ∷ 255 ∷ 255 ∷ 255 ∷ 0 ∷ 255 ∷
    255 ∷ 255 ∷ 6 ∷ 255 ∷ 255 ∷ 255 ∷ 255 ∷ 255 ∷ 255 ∷ 255 ∷ 255 ∷ 255 ∷ 255 ∷ 255 ∷ 255 ∷ 255 ∷
    255 ∷ 2 ∷ 24 ∷ 255 ∷ 20 ∷ 255 ∷ 11 ∷ 19 ∷ 33 ∷ 255 ∷ 42 ∷ 18 ∷ 255 ∷ 255 ∷ 35 ∷ 1 ∷
    255 ∷ 255 ∷ 43 ∷ 15 ∷ 255 ∷ 255 ∷ 255 ∷ 255 ∷ 255 ∷ 255 ∷ 255 ∷ 255 ∷ 255 ∷ 31 ∷ 255 ∷ 255 ∷
    255 ∷ 4 ∷ 255 ∷ 13 ∷ 255 ∷ 255 ∷ 255 ∷ 255 ∷ 255 ∷ 27 ∷ 44 ∷ 255 ∷ 21 ∷ 255 ∷ 255 ∷ 29 ∷
    16 ∷ 255 ∷ 37 ∷ 255 ∷ 9 ∷ 32 ∷ 26 ∷ 255 ∷ 255 ∷ 255 ∷ 255 ∷ 255 ∷ 255 ∷ 255 ∷ 255 ∷ 255 ∷ []

-- tells the reserved words apart
unfoldable pub keyword_hash : List ℕ → ℕ
keyword_hash text =
    (get_or keyword_offsets (get_or text 0 0 % 32) 0 + length text % 32 * 15 + get_or text (length text / 3) 0 * 11 + get_or text (length text / 2) 0 * 13
    + get_or text (length text - 1) 0 * 10)
    % 256

-- tells the marks apart
unfoldable pub mark_hash : List ℕ → ℕ
mark_hash text = (length text % 32 * 6 + get_or text 0 0 * 12 + get_or text (length text - 1) 0 * 21) % 128

abbrev pub keyword_slot : List ℕ → ℕ
keyword_slot text = get_or keyword_slots (keyword_hash text) 0

abbrev pub mark_slot : List ℕ → ℕ
mark_slot text = get_or mark_slots (mark_hash text) 0

-- a place, where the text stands there
unfoldable pub placed : ℕ → List ℕ → List (List ℕ) → Option ℕ
placed slot text ts = if nat_lt slot (length ts) && bytes_eq (get_or ts slot []) text then Some slot else None
