-- Features counted one after another.
use Rattle.std.proofs.Common.{◌≡◌, ℕ, suc, ◌+◌, true, false, List, refl, arith}
use Rattle.perf_base.specs.Order.{Order}
use Rattle.perf_file.specs.FeatureTable.{has_feature, features_before}

pub counts_none : (o : Order) (bytes : List ℕ) → features_before o bytes 0 ≡ 0
unfolding features_before
counts_none o bytes = refl

pub counts_one : (o : Order) (bytes : List ℕ) (k : ℕ) → has_feature o bytes k ≡ true → features_before o bytes (k + 1) ≡ features_before o bytes k + 1
unfolding features_before
counts_one o bytes k has = let n : k + 1 ≡ suc k = omega arith in rw n (rw has refl)

pub counts_other : (o : Order) (bytes : List ℕ) (k : ℕ) → has_feature o bytes k ≡ false → features_before o bytes (k + 1) ≡ features_before o bytes k
unfolding features_before
counts_other o bytes k has = let n : k + 1 ≡ suc k = omega arith in rw n (rw has (omega arith))
