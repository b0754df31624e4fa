-- The number that digits write, where it is at most a limit.
use Rattle.std.specs.Prelude.{ℕ, ◌&&◌, List, Option, Some, None, if◌then◌else◌, nat_le}
use Rattle.cedar_ext.specs.Decimals.{is_number, number_of}

abbrev pub number_within : ℕ → List ℕ → Option ℕ
number_within limit ds = if is_number ds && nat_le (number_of ds) limit then Some (number_of ds) else None
