-- How an image is written to a chip row by row, so that a chip pulled out halfway
-- is refused. The next row depends on what the chip holds and what it shall hold.
use Rattle.std.specs.Prelude.{ℕ, zero, suc, ◌+◌, ◌*◌, ◌/◌, ◌%◌, Bool, true, cond, not, ◌&&◌, ◌||◌, List, ◌++◌, length, take, drop, ◌==◌, nat_lt, slice_index, slice_set}
use Rattle.refusal.specs.Outcome.{Outcome, Ok, ◌>>=◌}
use Rattle.memory.specs.declared.Sizes.{Sizes}
use Rattle.memory.specs.Image.{image_bytes, image_sizes, page_at, page_sum}
use Rattle.sheet.specs.Check.{check}
use Rattle.writing.specs.Numbers.{count, last}

-- ---- rows

-- A row is 8 bytes.
abbrev pub row : ℕ → List ℕ → List ℕ
row r image = take 8 (drop (8 * r) image)

abbrev pub rows : Sizes → ℕ
rows z = image_bytes z / 8

-- The row of page 0's check byte, which is its first byte: row
-- 1 of kind 0, after the register; row 0 of kinds 1 and 2.
abbrev pub check_row : Sizes → ℕ
check_row z = z.register / 8

-- The rows that page 0's check byte covers, the register's among them.
-- The next is the row of page 1's check byte: row 4 of kinds 1 and 2.
abbrev pub covered_rows : Sizes → ℕ
covered_rows z = (z.register + 32) / 8

-- The image after a row of it is written.
abbrev pub written : ℕ → List ℕ → List ℕ → List ℕ
written r bytes image = take (8 * r) image ++ (bytes ++ drop (8 * r + 8) image)

-- n bytes from byte i on are equal.
unfoldable pub same : List ℕ → List ℕ → ℕ → ℕ → Bool
same present wanted zero i = true
same present wanted (suc n) i = slice_index present i == slice_index wanted i && same present wanted n (suc i)

abbrev pub differs : List ℕ → List ℕ → ℕ → Bool
differs present wanted r = not (same present wanted 8 (8 * r))

-- The number of rows that differ.
abbrev pub differing : Sizes → List ℕ → List ℕ → ℕ
differing z present wanted = count (differs present wanted) (rows z)

-- The last row that differs; and the last one other than the row of page 0's check byte.
abbrev pub last_row : Sizes → List ℕ → List ℕ → ℕ
last_row z present wanted = last (differs present wanted) (rows z)

abbrev pub last_other : Sizes → List ℕ → List ℕ → ℕ
last_other z present wanted = last (λ r. differs present wanted r && not (r == check_row z)) (rows z)

-- The image with the byte at an offset raised by d, modulo 256.
abbrev pub raised : List ℕ → ℕ → ℕ → List ℕ
raised image at d = slice_set image at ((slice_index image at + d) % 256)

-- ---- a step: nothing more to write, or a row with its bytes

pub data Step : Type 0 where
  done : Step
  write : ℕ → List ℕ → Step

abbrev pub write_row : List ℕ → ℕ → Step
write_row image r = write r (row r image)

-- ---- two pages or more

-- The wanted image with page 1's check byte raised by 1, so that page 1 does not add up.
unfoldable pub unsealed : Sizes → List ℕ → List ℕ
unsealed z wanted = raised wanted (page_at z 1) 1

-- The last row that differs is after page 0, and page 0 adds up.
unfoldable pub invalidate_first : Sizes → List ℕ → List ℕ → Bool
invalidate_first z present target = not (nat_lt (last_row z present target) (covered_rows z)) && page_sum z present 0 == 0

-- Present is wanted: done. Present is unsealed: the row of page 1's check byte as
-- wanted. Else the last row in which present and unsealed differ, as in unsealed.
-- But before a row after page 0, if page 0 adds up, its check byte raised by 1.
unfoldable pub several_pages : Sizes → List ℕ → List ℕ → Step
several_pages z present wanted =
    cond (differing z present wanted == 0) done
    (cond (differing z present (unsealed z wanted) == 0) (write_row wanted (covered_rows z))
    (cond (invalidate_first z present (unsealed z wanted)) (write_row (raised present z.register 1) (check_row z))
    (write_row (unsealed z wanted) (last_row z present (unsealed z wanted)))))

-- ---- one page

-- With the check byte raised by d, one of the sums s and t is 0.
abbrev pub adds_up : ℕ → ℕ → ℕ → Bool
adds_up s t d = (s + d) % 256 == 0 || (t + d) % 256 == 0

-- The least of 1, 2 and 3 that makes neither sum 0.
abbrev pub raise_by : ℕ → ℕ → ℕ
raise_by s t = cond (adds_up s t 1) (cond (adds_up s t 2) 3 2) 1

-- The sum after writing the last row other than the check byte's.
unfoldable pub sum_ahead : Sizes → List ℕ → List ℕ → ℕ
sum_ahead z present wanted = page_sum z (written (last_other z present wanted) (row (last_other z present wanted) wanted) present) 0

-- No row differs: done. One differs: that row. Else the last one
-- other than the check byte's, as wanted. But if the sum is 0 before
-- or after that row, first the check byte raised so that neither is.
unfoldable pub one_page : Sizes → List ℕ → List ℕ → Step
one_page z present wanted =
    cond (differing z present wanted == 0) done
    (cond (differing z present wanted == 1) (write_row wanted (last_row z present wanted))
    (cond (adds_up (page_sum z present 0) (sum_ahead z present wanted) 0)
    (write_row (raised present z.register (raise_by (page_sum z present 0) (sum_ahead z present wanted))) (check_row z))
    (write_row wanted (last_other z present wanted))))

-- ---- the call

unfoldable pub step : Sizes → List ℕ → List ℕ → Step
step z present wanted = cond (nat_lt z.pages 2) (one_page z present wanted) (several_pages z present wanted)

-- The check's refusal of wanted; then 1 for the length of present.
unfoldable pub next_row : ℕ → List ℕ → List ℕ → Outcome Step
next_row kind present wanted = do
  accepted ← check kind wanted
  z ← image_sizes kind (length present)
  Ok (step z present wanted)
