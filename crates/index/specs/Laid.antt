-- Only inner contracts need this: bytes written into a buffer, and
-- the entries of an accepted sheet by the places of its layout.
use Rattle.std.specs.Prelude.{cond, List, [], ◌∷◌, ◌++◌, ℕ, zero, suc, ◌+◌, ◌-◌, ltb, length, take, drop}
use Rattle.templates.specs.declared.Layout.{Layout}
use Rattle.templates.specs.Lines.{last_field, row_of}
use Rattle.layout.specs.Places.{field_place, pair_bits, pair_place}
use Rattle.index.specs.declared.Entry.{Entry}
use Rattle.index.specs.Index.{entry}

-- The buffer with bytes at an offset, all else unchanged.
abbrev pub laid : List ℕ → ℕ → List ℕ → List ℕ
laid buffer at bytes = take at buffer ++ bytes ++ drop (at + length bytes) buffer

-- Entry i, counted from 0: the fields first, then the points.
unfoldable pub entry_of : Layout → ℕ → Entry
entry_of layout i =
    let last = last_field layout.template in
    cond (ltb i last) (entry (field_place layout (suc i)) (row_of layout (suc i)).width) (entry (pair_place layout (i - last)) pair_bits)

-- Entries 0 to n − 1.
abbrev pub first_entries : Layout → ℕ → List Entry
first_entries layout zero = []
first_entries layout (suc n) = first_entries layout n ++ (entry_of layout n ∷ [])
