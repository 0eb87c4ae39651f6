-- a list of few sites has few choice bits
use Rattle.std.proofs.Common.{◌<◌, ◌≤◌, List, length, arith}
use Rattle.rr_choice.specs.Choices.{total_bits}
use Rattle.rr_choice.specs.Sites.{Site, IsSiteList}
use Rattle.rr_instance_laws.proofs.Few.{bits_are_few}

pub few_bits : (ss : List Site) → IsSiteList ss → length ss ≤ 1024 → total_bits ss < 4294967296
few_bits ss h l = let b = bits_are_few ss h in omega (arith, b, l)
