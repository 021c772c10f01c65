-- Layouts: which capacities storage can have.
--     bad_layout_one, good_layout, large_layout    at alignment 1 any capacity below 2 ^ 63 has storage, and no
--                                                  larger one
use Rattle.std.specs.Prelude.{◌≡◌, ℕ, ◌-◌, ◌%◌, ◌^◌, ◌<◌, ◌≤◌, false, nat_lt, IsTrue}
use Rattle.std.specs.Int.{next_multiple_of}
use Rattle.std.specs.Int.Count.{ones}
use Rattle.std.proofs.Common.{arith}
use Rattle.std.proofs.lemmas.Bool.Decides.{nat_tests}
use Rattle.iobufs_core.specs.Part.{is_bad_layout}

-- at alignment 1 only the number of bytes counts
pub bad_layout_one : (n : ℕ) → is_bad_layout n 1 ≡ nat_lt (2 ^ 63 - 1) n
unfolding ones
bad_layout_one n =
    let none : (1 - n % 1) % 1 ≡ 0 = omega arith in
    let same : next_multiple_of n 1 ≡ n = omega arith in
    rw same (grind (arith, nat_tests))

-- fewer than 2 ^ 63 bytes have a layout
pub good_layout : (n : ℕ) → n < 2 ^ 63 → is_bad_layout n 1 ≡ false
good_layout n fits = rw (bad_layout_one n) (grind (arith, nat_tests))

-- 2 ^ 63 bytes or more have none
pub large_layout : (n : ℕ) → 2 ^ 63 ≤ n → IsTrue (is_bad_layout n 1)
large_layout n large = rw (bad_layout_one n) (grind (arith, nat_tests))
