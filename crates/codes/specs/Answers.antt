-- The answers of this crate's functions as outcomes, with document 01's numbers.

-- ---- only inner contracts need these
