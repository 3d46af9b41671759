-- The answer of `next_row`; and what only inner contracts need.
use Rattle.std.specs.Prelude.{◌≡◌, ℕ, ◌+◌, ◌*◌, ◌%◌, ◌≤◌, Bool, cond, not, ◌&&◌, List, length, ◌==◌, Option, None, Some}
use Rattle.refusal.specs.Outcome.{Outcome, Ok, ◌>>=◌}
use Rattle.memory.specs.declared.Sizes.{Sizes}
use Rattle.memory.specs.Image.{image_bytes}
use Rattle.writing.specs.declared.rows.Row.{Row}
use Rattle.writing.specs.declared.rows.Tally.{Tally}
use Rattle.writing.specs.Numbers.{count, last}
use Rattle.writing.specs.Steps.{Step, done, write, differs}

-- Row r, named by its first byte's offset.
abbrev pub row_at : ℕ → List ℕ → Row
row_at r bytes = record { offset = 8 * r; bytes = bytes }

-- The row that a step writes, if any.
abbrev pub to_write : Step → Option Row
to_write done = None
to_write (write r bytes) = Some (row_at r bytes)

abbrev pub answered : Outcome Step → Outcome (Option Row)
answered o = o >>= λ s. Ok (to_write s)

-- Two images of one chip, whose register, if any, is a row.
pub record Fits (z : Sizes) (present wanted : List ℕ) : Type 0 where
  pub held : length present ≡ image_bytes z
  pub asked : length wanted ≡ image_bytes z
  pub paged : 1 ≤ z.pages
  pub few : z.register ≤ 8
  pub most : image_bytes z ≤ 512
  pub whole : z.register % 8 ≡ 0

-- Of the first n rows, those that differ: their number, the
-- last one, and the last one other than the check byte's.
abbrev pub tally_to : List ℕ → List ℕ → ℕ → ℕ → Tally
tally_to present wanted check n = record {
  rows = count (differs present wanted) n;
  last = last (differs present wanted) n;
  other = last (λ r. differs present wanted r && not (r == check)) n;
}

-- The tally with one more row that differs, row i.
abbrev pub tallied : Tally → ℕ → ℕ → Tally
tallied t i check = record { rows = 1 + t.rows; last = i; other = cond (not (i == check)) i t.other }

-- The last number below n for which a test holds, if any.
abbrev pub last_for : (ℕ → Bool) → ℕ → Option ℕ
last_for test n = cond (count test n == 0) None (Some (last test n))
