-- The test of a line is the two-sided test of an interval. Assumes nothing.
use Rattle.std.proofs.Common.{◌≡◌, ℕ, ◌+◌, ◌^◌, ◌<◌, ◌≤◌, true, ◌&&◌, ltb, leb, ◌∙◌, arith, ltb-true, lt-ltb, le-leb, leb-true}
use Rattle.idmap.specs.Line.{less, in_range}
use Rattle.idmap.specs.Good.{no_id, Within}
use Rattle.prelude.proofs.Tests.{by_test}

module _ (id start count : ℕ) (small : id < 2 ^ 32) (bound : start + count ≤ no_id) where
  pub in_interval : in_range id start count ≡ true → Within id start count
  in_interval e = let h = ltb-true (less id start) count e in omega arith

  pub interval_in : Within id start count → in_range id start count ≡ true
  interval_in w = lt-ltb (less id start) count (omega arith)

  -- for a line of document 01's bounds, the wrapping subtract and one comparison are the two comparisons
  pub interval_test : in_range id start count ≡ (leb start id && ltb id (start + count))
  interval_test =
      by_test (in_range id start count)
      (λ p. let h = in_interval p in p ∙ rw (le-leb start id h.0, lt-ltb id (start + count) h.1))
      (λ p.
      by_test (leb start id)
      (λ q.
      by_test (ltb id (start + count))
      (λ r. let e = interval_in (leb-true start id q, ltb-true id (start + count) r) in cc)
      (λ r. p ∙ rw (q, r)))
      (λ q. p ∙ rw q))
