-- A new machine is sound.
use Rattle.iobufs_owner.proofs.Base.{◌≡◌, ℕ, zero, suc, ◌+◌, ◌≤◌, ◌<◌, ◌^◌, Bool, false, replicate, refl, arith, Option, None, length-replicate, All-replicate, All-nil, Block, Freed, State, fresh, holders-le-users, users, tally, reading, IsPlace, IsSound, Fits, FitsCall, releases, users-as, drops_by}

tally-none : {X : Type 0} (p : Option X → Bool) (n : ℕ) → p None ≡ false → tally p (replicate n None) ≡ 0
tally-none p zero e = refl
tally-none p (suc n) e = rw e (omega (arith, tally-none p n e))

no-users : (a t z c n b : ℕ) → users (reading (fresh a t z c n)) b ≡ 0
no-users a t z c n b = omega (arith, users-as (fresh a t z c n) b, tally-none (drops_by (fresh a t z c n).tables b) n refl)

-- a new machine is sound, where the fields of a descriptor and one bit fit 64, the ceiling is above 0 and there are at most 2^32 threads
pub sound-fresh : (a t z ceiling threads : ℕ) → 1 + a + t + z ≤ 64 → 0 < ceiling → threads ≤ 2 ^ 32 → IsSound (fresh a t z ceiling threads)
sound-fresh a t z c n wide some few =
    let s : State = fresh a t z c n in
    record {
      size = record {
        wide = wide;
        ceiling = some;
        few_blocks = omega arith;
        few_records = omega arith;
        few_handles = omega arith;
        few_calls = rw length-replicate few;
      };
      blocks = record { places = All-nil (λ (b : Block). IsPlace b.base b.size b.align); apart = λ b d h l. absurd (omega arith) };
      fit = All-nil (Fits s.tables s.calls);
      calls_fit = All-replicate (FitsCall s) n None tt;
      one_release = λ b. rw (tally-none (releases s.tables b) n refl) (omega arith);
      counted = λ r live. absurd (cc);
      one_record = λ q r lq. absurd (cc);
      sole = λ b h. absurd (omega arith);
      capped = λ b. omega (arith, no-users a t z c n b, holders-le-users (reading s) b);
      known_users = λ b h. absurd (omega (arith, no-users a t z c n b));
      block_log = record {
        freed = λ b h. absurd (omega arith);
        known = All-nil (λ (f : Freed). _);
        once = λ i j d h l. absurd
            (omega arith);
        many = refl;
      };
      record_log = record {
        exact = λ r l. absurd (omega arith);
        known = All-nil (λ (r : ℕ). _);
        once = λ i j d h l. absurd
            (omega arith);
        many = refl;
      };
    }
