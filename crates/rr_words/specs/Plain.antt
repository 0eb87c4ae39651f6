-- The words that a command takes as its usage line writes them.
use Rattle.std.specs.Prelude.{◌≡◌, ◌==◌, ◌++◌, ◌⊎◌, ⊤, Bool, false, List, [], ◌∷◌, Option, Some, None, if◌then◌else◌, codes}
use Rattle.std.specs.List.{flat_map}
use Rattle.std.specs.Str.{bytes_eq}
use Rattle.clap.specs.Words.{Text}
use Rattle.rr_words.specs.Plan.{Plan, check, lint, make, most_seed, number_of, number_or, repair, run, sites}

-- a part of the words after a command: a name, or an option with its value in the next word or after `=`
pub data Part : Type 0 where
  name : Text → Part
  apart : Text → Text → Part
  joined : Text → Text → Part

abbrev pub dashes : Text → Text
dashes id = 45 ∷ 45 ∷ id

abbrev pub part_words : Part → List Text
part_words (name v) = v ∷ []
part_words (apart id v) = dashes id ∷ v ∷ []
part_words (joined id v) = (dashes id ++ 61 ∷ v) ∷ []

abbrev pub words_of : List Part → List Text
words_of parts = flat_map part_words parts

-- the names, in order
abbrev pub names_in : List Part → List Text
names_in [] = []
names_in (name v ∷ ps) = v ∷ names_in ps
names_in (apart id v ∷ ps) = names_in ps
names_in (joined id v ∷ ps) = names_in ps

abbrev pub value_if : Bool → Text → Option Text → Option Text
value_if b v rest = if b then Some v else rest

-- the value of an option
abbrev pub given : Text → List Part → Option Text
given id [] = None
given id (name v ∷ ps) = given id ps
given id (apart other v ∷ ps) = value_if (bytes_eq other id) v (given id ps)
given id (joined other v ∷ ps) = value_if (bytes_eq other id) v (given id ps)

-- not empty, and with no hyphen first
abbrev pub IsPlainText : Text → Type 0
IsPlainText [] = ⊥
IsPlainText (b ∷ bs) = (b == 45) ≡ false

abbrev pub IsAmongIds : Text → List Text → Type 0
IsAmongIds id [] = ⊥
IsAmongIds id (x ∷ xs) = (id ≡ x) ⊎ IsAmongIds id xs

-- each value is plain, and each option is one of these and is not given again
abbrev pub ArePlain : List Text → List Part → Type 0
ArePlain ids [] = ⊤
ArePlain ids (name v ∷ ps) = IsPlainText v × ArePlain ids ps
ArePlain ids (apart id v ∷ ps) = IsPlainText v × IsAmongIds id ids × (given id ps ≡ None) × ArePlain ids ps
ArePlain ids (joined id v ∷ ps) = IsPlainText v × IsAmongIds id ids × (given id ps ≡ None) × ArePlain ids ps

abbrev pub repair_options : List Text
repair_options = codes "top" ∷ codes "clock" ∷ codes "budget" ∷ codes "members" ∷ []

abbrev pub design_options : List Text
design_options = codes "top" ∷ codes "clock" ∷ []

abbrev pub top_option : List Text
top_option = codes "top" ∷ []

-- the words are the program's name, the command's word, and plain parts
abbrev pub Spells : List Text → Text → List Text → List Part → List Text → Type 0
Spells words command ids parts names = (program : Text) × (words ≡ program ∷ command ∷ words_of parts) × ArePlain ids parts × (names_in parts ≡ names)

-- the words are plain, and spell the plan
abbrev pub IsPlain : List Text → Plan → Type 0
IsPlain words (repair design table cert top clock budget members) = (parts : List Part)
    × Spells words (codes "repair") repair_options parts (design ∷ table ∷ cert ∷ [])
    × (given (codes "top") parts ≡ top) × (given (codes "clock") parts ≡ clock)
    × (number_or 20000 1 1000000 (given (codes "budget") parts) ≡ Some budget) × (number_or 4 1 8 (given (codes "members") parts) ≡ Some members)
IsPlain words (run design table top clock) = (parts : List Part)
    × Spells words (codes "run") design_options parts (design ∷ table ∷ [])
    × (given (codes "top") parts ≡ top) × (given (codes "clock") parts ≡ clock)
IsPlain words (sites design top clock) = (parts : List Part)
    × Spells words (codes "sites") design_options parts (design ∷ [])
    × (given (codes "top") parts ≡ top) × (given (codes "clock") parts ≡ clock)
IsPlain words (check circuit proof) = (parts : List Part) × Spells words (codes "check") [] parts (circuit ∷ proof ∷ [])
IsPlain words (make seed cert) = (parts : List Part) × (text : Text) × Spells words (codes "make") [] parts (text ∷ cert ∷ []) × (number_of 0 most_seed text ≡ Some seed)
IsPlain words (lint design top) = (parts : List Part) × Spells words (codes "lint") top_option parts (design ∷ []) × (given (codes "top") parts ≡ top)
