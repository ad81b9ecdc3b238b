-- Large communities are ordered by their three numbers: each two of them, and without a circle.
use Rattle.std.proofs.Common.{ℕ}
use Rattle.std.specs.Cmp.{IsTotalOrder}
use Rattle.std.proofs.lemmas.Cmp.{nat_cmp_total, on_total, then_total}
use Rattle.attr_model.specs.Valid.{large_cmp}

pub large_total : IsTotalOrder large_cmp
large_total = then_total (then_total (on_total (λ (l : ℕ × ℕ × ℕ). l.0) nat_cmp_total) (on_total (λ (l : ℕ × ℕ × ℕ). l.1) nat_cmp_total)) (on_total (λ (l : ℕ × ℕ × ℕ). l.2) nat_cmp_total)
