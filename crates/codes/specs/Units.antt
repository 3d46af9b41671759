-- Units that figures count in.
use Rattle.std.specs.Prelude.{ℕ}

-- Points, deviations and fractions count in billionths of the span.
abbrev pub billion : ℕ
billion = 1_000_000_000
