-- What holds of each run of the program, clause by clause.
use Rattle.std.specs.Prelude.{◌≡◌, ◌<◌, ◌⊎◌, ℕ, List, Some}
use Rattle.rr_edge.specs.Held.{Held}
use Rattle.rr_words.specs.Plan.{Plan, command_of}
use Rattle.rr_words.specs.Plain.{IsPlain}
use Rattle.rr_top.specs.Commands.{AsksRepair, command_of_plan}
use Rattle.rr_top.specs.Expected.{Expected, Judges}
use Rattle.rr_top.specs.Execution.{AllGiven, AsksNoRepair, Execution, Follows, HasDone, HasFailed, HoldsNeverTrue, IsAbsent, IsAmpleRepair, IsCheck, IsExecution, IsExhausted, IsFailure, IsMatchingRepair, IsRefused, IsUnread, LeavesOpen, NoFaults, NoneRefuses, PrintsAsItWas, SomeFault, WhereCommand}

pub record IsRightRun (r : Execution) : Type 0 where
  -- How the run ends, whole: what was found, which text reports it, and what it leaves.
  pub ended : IsExecution r
  -- Where no repair is asked for, the shelf is only read.
  pub kept : AsksNoRepair r.arguments → r.after.held ≡ r.before.held
  -- Status 0. Of `repair`: the bytes put out are the design as it is, which matches every known cell, and the shelf
  -- stays; or they are the file with k changes made in it, whose expansion has as its tree an instance that matches
  -- every known cell, no instance with fewer does, and the shelf holds the refutation of fewer. Of `run`: the bytes put
  -- out are the table of the rows that were read with the outputs of the one run of the design on them. Of `sites`: the
  -- bytes put out are the lines of the sites of the design that was read. Of `check`: `accepted` is put out, and the proof
  -- that was read refutes the formula of the circuit that was read. Of `make`: the bytes put out are the summary of the
  -- seed, which tells the least number of changes with which its design matches its table, and the shelf holds the files
  -- of such a repair. Of `lint`: the bytes put out are the file with its combinational blocks mended; the tree of their
  -- expansion is the mended source, which has a flat design without the two faults; where the design had neither, they are
  -- the file as it was.
  pub done : r.status ≡ 0 → WhereCommand r.arguments (HasDone r)
  -- Status 0 of `check`: no input makes every output of the circuit in the file true.
  pub certified : r.status ≡ 0 → (circuit proof : List ℕ) → IsCheck r.arguments circuit proof
      → HoldsNeverTrue r.before.held circuit
  -- Status 1. Of `repair`: no instance matches, and the shelf holds the refutation. Of `check`: the verdict is put out,
  -- and the proof does not refute. Of `make`: as of `repair`, for the design and the table of the seed.
  pub failed : r.status ≡ 1 → WhereCommand r.arguments (HasFailed r)
  -- Status 2, of `repair` and `make` alone: whether so many changes match is open, and the shelf holds the question, with as
  -- many fresh lines of each member as it may learn. Of `repair`: where these are changes of all sites, nothing is put out;
  -- where they are fewer, the bytes put out are the file with one change more made in it, whose expansion has as its tree an
  -- instance that matches every known cell, and nothing says that no instance with fewer does. Of `make`: nothing is put out,
  -- and what such a repair reports is reported.
  pub left_open : r.status ≡ 2 → WhereCommand r.arguments (LeavesOpen r)
  -- Status 3: the refusal that is due is printed.
  pub refused : r.status ≡ 3 → WhereCommand r.arguments (λ plan. IsRefused r (command_of_plan plan))
  -- Status 4: a count of faults rose or stands at its end, or a name is absent.
  pub faulty : r.status ≡ 4 → SomeFault r ⊎ WhereCommand r.arguments (λ plan. IsAbsent r (command_of_plan plan))
  -- .. and which: a put on the notes failed, and all else is as the ending leaves it that was to be reported; or `absent`
  -- tells an absent name; or `fault read` tells a name whose read failed, where those before it gave their files, the
  -- shelf's count rose, and the output stays; or `fault write` tells a file of the answer, those before it are whole, that
  -- name has what it had or a front of its bytes, the shelf's count rose, and the output stays; or `fault out` says so, the
  -- output's count rose, and it has grown by a front of the piece that was due.
  pub failure : r.status ≡ 4 → IsFailure r
  -- Status 5: memory ran out; the shelf holds what it held, and of `repair` and `make` maybe the first of their files,
  -- each whole.
  pub exhausted : r.status ≡ 5 → IsExhausted r
  -- Status 6: the arguments name no command, so they are not plain.
  pub usage : r.status ≡ 6 → IsUnread r
  pub not_plain : r.status ≡ 6 → (plan : Plan) → IsPlain r.arguments plan → ⊥
  -- A fault in this call makes the status 4.
  pub shelf_fault : r.before.faults < r.after.faults → r.status ≡ 4
  pub out_fault : r.before.out_faults < r.after.out_faults → r.status ≡ 4
  pub notes_fault : r.notes_faults_before < r.notes_faults_after → r.status ≡ 4
  -- What a told shelf decides comes about: each absent name, each refusal, each list of sites, each verdict on a
  -- certificate, and the statuses 0 and 1, exactly where they are due. Otherwise memory ran out, or the status is 4 and a
  -- count of faults rose or stands at its end, or it is 2, of a repair.
  pub decided : (plan : Plan) (held : Held) (expected : Expected) → command_of r.arguments ≡ Some plan → r.before.held ≡ Some held
      → Judges (command_of_plan plan) held expected → Follows r expected
  -- Where the design of a repair matches as it is, it is put out as it was and the shelf stays, or memory ran out, or
  -- something failed.
  pub as_it_was : (design : List ℕ) → IsMatchingRepair r design → PrintsAsItWas r design
  -- Where each member may learn more than c * 3^c lines, for the c bits that write a choice of the sites, no repair is left
  -- open.
  pub settles : IsAmpleRepair r → r.status ≡ 2 → ⊥
  -- Plain arguments, files that are held within their limits, no refusal that is due and no fault: the command is done, or
  -- memory ran out, or a repair is left open.
  pub complete : (plan : Plan) (held : Held) → IsPlain r.arguments plan → r.before.held ≡ Some held
      → AllGiven (Some held) (command_of_plan plan).reads → NoneRefuses (command_of_plan plan) (Some held) → NoFaults r → (r.status ≡ 0) ⊎ ((r.status ≡ 1) ⊎ ((r.status ≡ 5) ⊎ ((r.status ≡ 2) × AsksRepair plan)))
