-- The laws of Levels of the parents, the lines and the levels that a history gives. Assumes nothing.
use Rattle.std.specs.Prelude.{Some}
use Prim.Native.Nat.{ℕ, ◌<◌, ◌^◌}
use mathlib.Core.Path.{◌≡◌}
use mathlib.Core.List.{List}
use native.Mathlib.Omega.{arith}
use Rattle.idmap.specs.Good.{no_id}
use Rattle.records.specs.declared.Kind.{Kind}
use Rattle.claims.specs.Events.{Event}
use Rattle.claims.specs.Words.{parent_of, level_of, written_lines, stands_for}
use Rattle.claims.specs.Translation.{back_by}
use Rattle.claims.specs.TopLevel.{IsUnder, OutOf, BackOf, Stands}
use Rattle.claims.proofs.Sound.{deep}
use Rattle.claims.proofs.Levels
use Rattle.claims.proofs.Allowed.{SoundAt}

module _ (h : List Event) (d : SoundAt h) (k : Kind) where
  -- what the lookups give, the relations have
  pub stands_is : (n x y : ℕ) → x < 2 ^ 32 → stands_for k h n x ≡ Some y → OutOf k h n x y
  stands_is n = Levels.out_is (parent_of h) (written_lines k h) (d.good k) (level_of h n) n

  pub returns_is : (n y x : ℕ) → y < 2 ^ 32 → back_by (parent_of h) (written_lines k h) (level_of h n) n y ≡ Some x → BackOf k h n y x
  returns_is n = Levels.back_is (parent_of h) (written_lines k h) (d.good k) (level_of h n) n

  -- and what the relations have, the lookups give
  pub is_stands : (n x y : ℕ) → OutOf k h n x y → stands_for k h n x ≡ Some y
  is_stands n x y = Levels.is_out (parent_of h) (written_lines k h) (d.good k) (level_of h) (deep _ _ _ _ _ _ d k) (level_of h n) n x y (omega arith)

  pub is_returns : (n y x : ℕ) → BackOf k h n y x → back_by (parent_of h) (written_lines k h) (level_of h n) n y ≡ Some x
  is_returns n y x = Levels.is_back (parent_of h) (written_lines k h) (d.good k) (level_of h) (deep _ _ _ _ _ _ d k) (level_of h n) n y x (omega arith)

  pub back_small : (n y x : ℕ) → BackOf k h n y x → x < no_id
  back_small = Levels.back_small (parent_of h) (written_lines k h) (d.good k)

  pub out_back : (n x y : ℕ) → OutOf k h n x y → BackOf k h n y x
  out_back = Levels.out_back (parent_of h) (written_lines k h) (d.good k)

  pub back_out : (n x y : ℕ) → BackOf k h n y x → OutOf k h n x y
  back_out = Levels.back_out (parent_of h) (written_lines k h) (d.good k)

  pub out_once : (n x y y' : ℕ) → OutOf k h n x y → OutOf k h n x y' → y ≡ y'
  out_once = Levels.out_once (parent_of h) (written_lines k h) (d.good k) (level_of h) (deep _ _ _ _ _ _ d k)

  pub back_once : (n y x x' : ℕ) → BackOf k h n y x → BackOf k h n y x' → x ≡ x'
  back_once = Levels.back_once (parent_of h) (written_lines k h) (d.good k) (level_of h) (deep _ _ _ _ _ _ d k)

  pub one_to_one : (n x x' y : ℕ) → OutOf k h n x y → OutOf k h n x' y → x ≡ x'
  one_to_one = Levels.one_to_one (parent_of h) (written_lines k h) (d.good k) (level_of h) (deep _ _ _ _ _ _ d k)

  -- what stands for y under b does so by an ID of b
  pub passes : (b n x y : ℕ) → IsUnder h b n → OutOf k h n x y → Stands k h b y
  passes = Levels.passes (parent_of h) (written_lines k h) (d.good k)
