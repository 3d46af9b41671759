-- Document 01, "Turning down", "Order", as document 02's notes
-- extend it: the rows that each call can refuse by, in its order.
use Rattle.std.specs.Prelude.{cond, List, [], ◌∷◌, ◌++◌, ℕ, suc, ◌<◌, eqb}
use Rattle.refusal.specs.Outcome.{Outcome, Ok, Err}
use Rattle.refusal.specs.Rows.{row_number}

-- How often a number occurs in a list.
abbrev pub occurs : ℕ → List ℕ → ℕ
occurs n [] = 0
occurs n (m ∷ rows) = cond (eqb n m) (suc (occurs n rows)) (occurs n rows)

-- Accepted, or refused by one of these rows.
abbrev pub By : {A : Type 0} → List ℕ → Outcome A → Type 0
By rows (Ok a) = Unit {0}
By rows (Err r) = 0 < occurs (row_number r) rows

-- The stream from its start: at a pair 3 and 5 of the point, 3
-- and 5 of its deviation, then 7, then 22; in a curve 24 and 25.
abbrev pub stream_rows : List ℕ
stream_rows = 3 ∷ 4 ∷ 5 ∷ 6 ∷ 7 ∷ 22 ∷ 24 ∷ 25 ∷ []

-- Check: 1, 17, 2 by page, then the stream.
abbrev pub check_order : List ℕ
check_order = 1 ∷ 17 ∷ 2 ∷ stream_rows

-- Field, pair, character, segment or term read: check, 8.
abbrev pub read_order : List ℕ
read_order = check_order ++ (8 ∷ [])

-- Text: 8, 9, 10.
abbrev pub text_order : List ℕ
text_order = 8 ∷ 9 ∷ 10 ∷ []

-- Change and proposal: check, 8, 12, 20, 9, 10.
abbrev pub change_order : List ℕ
change_order = check_order ++ (8 ∷ 12 ∷ 20 ∷ 9 ∷ 10 ∷ [])

-- Commit: check, 8, 12, 20, 19, 10.
abbrev pub commit_order : List ℕ
commit_order = check_order ++ (8 ∷ 12 ∷ 20 ∷ 19 ∷ 10 ∷ [])

-- Index: check, 18.
abbrev pub index_order : List ℕ
index_order = check_order ++ (18 ∷ [])

-- Fetch: 1, 17, 2, 8, then the index, 18 and 5, then the field's bits, 5 and 6.
abbrev pub fetch_order : List ℕ
fetch_order = 1 ∷ 17 ∷ 2 ∷ 8 ∷ 18 ∷ 5 ∷ 6 ∷ []

-- Reading: check, 4, 23, 13, 21, 14.
abbrev pub reading_order : List ℕ
reading_order = check_order ++ (4 ∷ 23 ∷ 13 ∷ 21 ∷ 14 ∷ [])

-- Comparison: check, 26.
abbrev pub compare_order : List ℕ
compare_order = check_order ++ (26 ∷ [])

-- Build: 1, 16, fields each 9 then 10, points each 10, then 7 and 22; last 11.
abbrev pub build_order : List ℕ
build_order = 1 ∷ 16 ∷ 9 ∷ 10 ∷ 7 ∷ 22 ∷ 11 ∷ []

-- Build with a curve: 1, fields each 9 then 10, then 24, 10 and 25 in stream order; last 11.
abbrev pub curve_order : List ℕ
curve_order = 1 ∷ 9 ∷ 10 ∷ 24 ∷ 25 ∷ 11 ∷ []

-- Distance: 16, points each 10, then 7.
abbrev pub distance_order : List ℕ
distance_order = 16 ∷ 10 ∷ 7 ∷ []

abbrev pub orders : List (List ℕ)
orders =
    check_order ∷ read_order ∷ text_order ∷ change_order ∷ commit_order ∷ index_order ∷ fetch_order ∷ reading_order ∷ compare_order ∷ build_order ∷ curve_order ∷
    distance_order ∷ []
