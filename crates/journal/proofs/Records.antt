-- What the reader's tests say of a record. Assumes nothing.
use Prim.Native.Nat.{ℕ, ◌+◌, ◌-◌, ◌≤◌, ◌<◌}
use mathlib.Core.Path.{◌≡◌}
use mathlib.Core.List.{List}
use lib.ListN.{length}
use borrow.Author.Tests.{lt-ltb, le-ltb, le-leb, lt-leb, ne_eqb}
use Rattle.std.specs.Prelude.{None, Ok}
use Rattle.prelude.specs.Parts.{part}
use Rattle.journal.specs.declared.read.Stop.TheVariants.{Cut}
use Rattle.journal.specs.Numbers.{number_at}
use Rattle.journal.specs.Reading.{Read, stopped_at, body_read, record_at}

-- ---- the record at an offset
module _ (l : List ℕ) (at : ℕ) where
  pub at_end : length l ≤ at → Ok None ≡ record_at l at
  unfolding record_at
  at_end h = rw (le-leb (length l) at h)

  module _ (h : at < length l) where
    pub at_cut : length l - at < 2 → stopped_at at Cut ≡ record_at l at
    unfolding record_at
    at_cut k = rw (lt-leb (length l) at h, lt-ltb (length l - at) 2 k)

    module _ (k : 2 ≤ length l - at) (size : ℕ) (e : size ≡ number_at 2 at l) where
      pub at_cut_body : length l - at - 2 < size → stopped_at at Cut ≡ record_at l at
      unfolding record_at
      at_cut_body m = rw (lt-leb (length l) at h, le-ltb (length l - at) 2 k, ← e, lt-ltb (length l - at - 2) size m)

      module _ (m : size ≤ length l - at - 2) where
        pub at_record : (size ≡ 0 → ⊥) → (r : Read) → r ≡ body_read at (part size (at + 2) l) → r ≡ record_at l at
        unfolding record_at
        at_record z r s =
            rw (lt-leb (length l) at h, le-ltb (length l - at) 2 k, ← e, le-ltb (length l - at - 2) size m, ne_eqb size 0 z) s
