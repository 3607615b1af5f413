-- Products and sums modulo m. Assumes nothing.
use Rattle.std.specs.Prelude.{◌≡◌, ℕ, ◌+◌, ◌*◌, ◌/◌, ◌%◌}
use Rattle.std.proofs.Common.{sym, ap, ◌∙◌, mul_comm, mul_assoc, add-mul}
use Rattle.std.proofs.Math.Nat.{div-add-mod, mul-add-mod_self_left}

-- a factor may be reduced first
pub times-mod-left : (m a b : ℕ) → (a % m * b) % m ≡ (a * b) % m
times-mod-left m a b =
    let split : m * (a / m * b) + a % m * b ≡ a * b =
    ap (λ x. x + a % m * b) (sym (mul_assoc m (a / m) b)) ∙ sym (add-mul (m * (a / m)) (a % m) b) ∙ ap (λ x. x * b) (div-add-mod a m)
    in sym (mul-add-mod_self_left m (a / m * b) (a % m * b)) ∙ ap (λ x. x % m) split

pub times-mod_right : (m a b : ℕ) → (a * (b % m)) % m ≡ (a * b) % m
times-mod_right m a b =
    ap (λ x. x % m) (mul_comm a (b % m)) ∙ times-mod-left m b a ∙ ap (λ x. x % m) (mul_comm b a)
