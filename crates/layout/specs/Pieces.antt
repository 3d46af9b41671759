-- Document 01, "Layout", as pieces of a stream: the start of a block, and the end bit.
use Rattle.std.specs.Prelude.{Bool, cond, List, [], ◌∷◌, ℕ}
use Rattle.memory.specs.Pieces.{Piece, piece}

-- A block's selector 0 and its template number.
abbrev pub block_pieces : ℕ → List Piece
block_pieces number = piece 2 0 ∷ piece 8 number ∷ []

abbrev pub end_code : Bool → ℕ
end_code end_bit = cond end_bit 1 0
