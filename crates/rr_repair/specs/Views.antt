-- What contracts see of the words of a repair, and of an answer of the search.
use Rattle.std.specs.Prelude.{ℕ, option_map}
use Rattle.rr_search.specs.declared.answer.Answer.{Answer}
use Rattle.rr_search.specs.declared.answer.Answer.TheVariants.{Unchanged, Repair, NoRepair, Spent}
use Rattle.rr_repair.specs.declared.counted.Counted.{Counted}
use Rattle.rr_repair.specs.declared.request.Request.{Request}
use Rattle.rr_repair.specs.Repairs.{Counts, PlainRequest}

abbrev pub plain_request : Request → PlainRequest
plain_request a = record {
  kind = a.kind;
  top = option_map (λ t. t.now) a.top;
  clock = option_map (λ c. c.now) a.clock;
  cert = a.cert.now;
  budget = a.budget;
  members = a.members;
}

-- the status with which an answer of the search is told
abbrev pub answer_status : Answer → ℕ
answer_status Unchanged = 0
answer_status (Repair choice k circuit journal) = 0
answer_status (NoRepair circuit journal) = 1
answer_status (Spent bound circuit journal found) = 2

-- .. and how many changes it makes
abbrev pub changes_of : Answer → ℕ
changes_of Unchanged = 0
changes_of (Repair choice k circuit journal) = k
changes_of (NoRepair circuit journal) = 0
changes_of (Spent bound circuit journal found) = 0

abbrev pub plain_counts : Counted → Counts
plain_counts c = record { rows = c.rows; sites = c.sites; changes = c.changes }
