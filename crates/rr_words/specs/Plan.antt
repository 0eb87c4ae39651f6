-- What the words of a command line ask for.
use Rattle.std.specs.Prelude.{ℕ, Bool, List, [], ◌∷◌, length, Option, Some, None, option_map, option_and_then, codes, if◌then◌else◌, ◌&&◌, nat_lt, nat_le}
use Rattle.std.specs.List.{list_all}
use Rattle.std.specs.Str.{bytes_eq}
use Rattle.std.specs.Str.Parse.{digits_value}
use Rattle.std.specs.Char.{digit_value}
use Rattle.std.specs.Borrow.{Bor}
use Rattle.clap.specs.Words.{Row, Text, fault_of, first_of, subcommand_of}
use Rattle.clap.specs.Kinds.{Kinds}
use Rattle.rr_words.specs.Line.{tool}
use Rattle.rr_words.specs.declared.read.Command.{Command}
use Rattle.rr_words.specs.declared.read.Command.TheVariants.{Repair, Run, Sites, Check, Make, Lint}

-- a command with its names, and its options as they are given or stand for
pub data Plan : Type 0 where
  repair : Text → Text → Text → Option Text → Option Text → ℕ → ℕ → Plan
  run : Text → Text → Option Text → Option Text → Plan
  sites : Text → Option Text → Option Text → Plan
  check : Text → Text → Plan
  make : ℕ → Text → Plan
  lint : Text → Option Text → Plan

abbrev pub texts_of : Option (Bor Text) → Option Text
texts_of = option_map (λ s. s.now)

-- the plan that a command is
abbrev pub plan_of : Command → Plan
plan_of (Repair design table cert top clock budget members) = repair design.now table.now cert.now (texts_of top) (texts_of clock) budget members
plan_of (Run design table top clock) = run design.now table.now (texts_of top) (texts_of clock)
plan_of (Sites design top clock) = sites design.now (texts_of top) (texts_of clock)
plan_of (Check circuit proof) = check circuit.now proof.now
plan_of (Make seed cert) = make seed cert.now
plan_of (Lint design top) = lint design.now (texts_of top)

-- one decimal digit or more, and nothing else
abbrev pub is_number : Text → Bool
is_number text = nat_lt 0 (length text) && list_all (λ d. nat_lt (digit_value d) 10) text

-- the number that the digits write, within its range
abbrev pub number_of : ℕ → ℕ → Text → Option ℕ
number_of least most text = if is_number text && (nat_le least (digits_value 10 text) && nat_le (digits_value 10 text) most) then Some (digits_value 10 text) else None

-- the number of an option, or the one that stands for it
abbrev pub number_or : ℕ → ℕ → ℕ → Option Text → Option ℕ
number_or usual least most None = Some usual
number_or usual least most (Some text) = number_of least most text

-- a name, which has to be there
abbrev pub with_named : Text → List Row → (Text → Option Plan) → Option Plan
with_named id rows next = option_and_then next (first_of id rows)

abbrev pub most_seed : ℕ
most_seed = 18446744073709551615

abbrev pub repair_of : List Row → Option Plan
repair_of rows = with_named (codes "design") rows (λ design. with_named (codes "table") rows (λ table. with_named (codes "cert") rows (λ cert.
    option_and_then (λ budget. option_and_then (λ members.
    Some (repair design table cert (first_of (codes "top") rows) (first_of (codes "clock") rows) budget members))
    (number_or 4 1 8 (first_of (codes "members") rows)))
    (number_or 20000 1 1000000 (first_of (codes "budget") rows)))))

abbrev pub run_of : List Row → Option Plan
run_of rows = with_named (codes "design") rows (λ design. with_named (codes "table") rows (λ table.
    Some (run design table (first_of (codes "top") rows) (first_of (codes "clock") rows))))

abbrev pub sites_of : List Row → Option Plan
sites_of rows = with_named (codes "design") rows (λ design.
    Some (sites design (first_of (codes "top") rows) (first_of (codes "clock") rows)))

abbrev pub check_of : List Row → Option Plan
check_of rows = with_named (codes "circuit") rows (λ circuit. with_named (codes "proof") rows (λ proof. Some (check circuit proof)))

abbrev pub make_of : List Row → Option Plan
make_of rows = with_named (codes "seed") rows (λ seed. with_named (codes "cert") rows (λ cert.
    option_map (λ n. make n cert) (number_of 0 most_seed seed)))

abbrev pub lint_of : List Row → Option Plan
lint_of rows = with_named (codes "design") rows (λ design. Some (lint design (first_of (codes "top") rows)))

-- the plan of a command and of what was found for it
abbrev pub read_of : Text → List Row → Option Plan
read_of name rows =
    if bytes_eq name (codes "repair") then repair_of rows
    else (if bytes_eq name (codes "run") then run_of rows
    else (if bytes_eq name (codes "sites") then sites_of rows
    else (if bytes_eq name (codes "check") then check_of rows
    else (if bytes_eq name (codes "make") then make_of rows
    else (if bytes_eq name (codes "lint") then lint_of rows else None)))))

abbrev pub where_taken : Kinds → Option Plan → Option Plan
where_taken [] plan = plan
where_taken (k ∷ ks) plan = None

-- the plan of the words of a command line, as `clap` reads them
abbrev pub command_of : List Text → Option Plan
command_of words = where_taken (fault_of tool words) (option_and_then (λ p. read_of p.0 p.1) (subcommand_of tool words))
