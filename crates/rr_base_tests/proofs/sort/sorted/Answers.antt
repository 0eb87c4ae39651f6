use Rattle.rr_base_tests.proofs.sort.sorted.Goals as goal

pub sort-requires : goal.sort-requires
sort-requires c = rw c.as_slice.ensures.value c.in_ok-rows.ensures
