-- Document 02, Note 9, and document 01, demand 3: a quotient rounded up.
use Rattle.std.specs.Prelude.{ℕ, ◌+◌, ◌-◌, ◌/◌}

-- The least whole number that is at least num / den.
abbrev pub ceiling : ℕ → ℕ → ℕ
ceiling num den = (num + (den - 1)) / den
