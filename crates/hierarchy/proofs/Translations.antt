-- Translation in the initial namespace. Assumes nothing.
use Prim.Native.Nat.{ℕ}
use mathlib.Core.Path.{◌≡◌, refl}
use Rattle.records.specs.declared.Kind.{Kind}
use Rattle.tables.specs.Tables.{State}
use Rattle.hierarchy.specs.Walks.{itself}
use Rattle.hierarchy.specs.KernelStarts.{to_kernel, from_kernel}

-- ---- namespace 0 translates to itself and back, whatever its maps say
module _ (s : State) (kind : Kind) where
  pub to_kernel_root : (x : ℕ) → to_kernel s kind 0 x ≡ itself x
  unfolding to_kernel
  to_kernel_root x = refl

  pub from_kernel_root : (y : ℕ) → from_kernel s kind 0 y ≡ itself y
  unfolding from_kernel
  from_kernel_root y = refl
