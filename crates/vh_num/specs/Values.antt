use Rattle.std.specs.Prelude.{ℕ, zero, suc, ◌+◌, ◌*◌, ◌/◌, ◌^◌, min}

-- the step of n + 1 equal parts of 0 to 2^24 that v falls on, 2^24 itself on the last
abbrev pub index_of : ℕ → ℕ → ℕ
index_of v n = min n (v * (n + 1) / 2 ^ 24)

-- the value of step i of n
abbrev pub norm_of : ℕ → ℕ → ℕ
norm_of i n = i * 2 ^ 24 / n

-- the value that a parameter of step count n takes for v; with step count 0 it is continuous
abbrev pub quant_of : ℕ → ℕ → ℕ
quant_of v zero = v
quant_of v (suc n) = norm_of (index_of v (suc n)) (suc n)
