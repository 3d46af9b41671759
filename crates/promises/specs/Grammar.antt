-- One grammar: the pieces that a build writes are those of the format that a check parses by.
use Rattle.std.specs.Prelude.{◌≡◌, List, [], ◌∷◌, map, ℕ, ◌+◌, ◌-◌, ◌≤◌}
use Rattle.refusal.specs.Outcome.{Ok}
use Rattle.memory.specs.Pieces.{Piece, piece, needed}
use Rattle.layout.specs.Format.{Format, ends, stops, takes, looks}
use Rattle.layout.specs.Contents.{sheet_of}
use Rattle.build.specs.declared.Sheet.{Sheet}
use Rattle.build.specs.Build.{Table, plan}
use Rattle.promises.specs.Lent.{Lendable, LendableTable}

-- The pieces that a format reads from bit `at` of a stream
-- of S bits on, if its fields have these codes in turn.
abbrev pub laid : {A : Type 0} → ℕ → Format A → ℕ → List ℕ → List Piece
laid S (ends a) at codes = []
laid S (stops r) at codes = []
laid S (takes w next) at [] = []
laid S (takes w next) at (code ∷ codes) = piece w code ∷ laid S (next code) (at + w) codes
laid S (looks next) at codes = laid S (next at (S - at)) at codes

-- Whatever is lent: if a stream has room for the pieces of a plan,
-- they are those that the format of a sheet has for their codes.
abbrev pub OneGrammar : Type 0
OneGrammar =
    (S : ℕ) (sheet : Sheet) (text : List ℕ) (table : Table) (pieces : List Piece) → Lendable sheet → LendableTable table →
    plan sheet text table ≡ Ok pieces → needed pieces ≤ S → laid S sheet_of 0 (map (λ p. p.code) pieces) ≡ pieces
