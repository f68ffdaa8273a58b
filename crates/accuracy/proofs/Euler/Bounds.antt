-- e ^ t for a fraction t = a / c that is not negative, with no real numbers: Euler's (1 + t / n) ^ n, which is
-- (c n + a) ^ n / (c n) ^ n, grows with n to e ^ t. So e ^ t ≤ P / Q says that every one of them is at most P / Q, and
-- P / Q ≤ e ^ t follows where one of them is at least P / Q. Definitions only. Assumes nothing.
use Rattle.accuracy.proofs.Prelude.{◌≡◌, Bool, true, false, ℕ, suc, ◌+◌, ◌*◌, ◌^◌, ◌≤◌, ◌<◌}

-- e ^ (a / c) ≤ P / Q
abbrev pub Above : ℕ → ℕ → ℕ → ℕ → Type 0
Above a c P Q = (n : ℕ) → 0 < n → (c * n + a) ^ n * Q ≤ P * (c * n) ^ n

-- P / Q ≤ (1 + t / n) ^ n for some n
abbrev pub Below : ℕ → ℕ → ℕ → ℕ → Type 0
Below a c P Q = (n : ℕ) × (0 < n) × (P * (c * n) ^ n ≤ Q * (c * n + a) ^ n)

-- P / Q is e ^ x up to one part in E, where x is a / c, or - a / c if s is true, for every n above |x|:
-- (1 + x / n) ^ n ≤ P / Q * (1 + 1 / E) and P / Q * (1 - x / n) ^ n ≤ 1 + 1 / E. `most` and `least` in AsClaimed.antt
-- give it in the words of specs/Accuracy.antt. d is c * n - a, so that (1 - a / (c n)) is d / (c n).
abbrev pub IsExp : Bool → ℕ → ℕ → ℕ → ℕ → ℕ → Type 0
IsExp false a c P Q E = (n d : ℕ) → 0 < n → d + a ≡ c * n → ((c * n + a) ^ n * (Q * E) ≤ P * suc E * (c * n) ^ n)
    × (P * E * d ^ n ≤ Q * suc E * (c * n) ^ n)
IsExp true a c P Q E = (n d : ℕ) → 0 < n → d + a ≡ c * n → (d ^ n * (Q * E) ≤ P * suc E * (c * n) ^ n)
    × (P * E * (c * n + a) ^ n ≤ Q * suc E * (c * n) ^ n)
