-- Laws of the fields of a sheet: Basic, the first block and the
-- template's own, as one list of lines with the block between.
use Rattle.build.proofs.Names.{◌≡◌, refl, ap, ◌∙◌, List, [], ◌∷◌, ◌++◌, ℕ, suc, ◌+◌, arith, length, take, drop, take-append-drop, Outcome, Ok, Err, ◌>>=◌, Piece, piece, needed, needed-append, Template}
use Rattle.build.proofs.Names.{encode, Line, basic, template_lines, lines_of, number_of, block_pieces, Sheet, lent, template_in, line_pieces, field_pieces}

-- Pieces inserted after the first n of others.
abbrev behind : ℕ → List Piece → List Piece → List Piece
behind n block ps = take n ps ++ (block ++ drop n ps)

-- The block comes after Basic.
abbrev pub with_block : Template → List Piece → List Piece
with_block template ps = behind (length basic) (block_pieces (number_of template)) ps

pub block-needed : (template : Template) (ps : List Piece) → needed (with_block template ps) ≡ needed ps + 10
block-needed template ps =
    let front : List Piece = take (length basic) ps in
    let back : List Piece = drop (length basic) ps in
    omega (
      arith,
      needed-append front (block_pieces (number_of template) ++ back),
      needed-append front back,
      ap needed (take-append-drop (length basic) ps),
    )

-- A line whose row depends on no choice: its bits, and its code or the refusal.
record Part : Type 0 where
  width : ℕ
  code : Outcome ℕ

abbrev joined : List Part → Outcome (List Piece) → Outcome (List Piece)
joined [] own = own
joined (p ∷ parts) own = p.code >>= λ code. joined parts own >>= λ rest. Ok (piece p.width code ∷ rest)

module _ (block : List Piece) (own : Outcome (List Piece)) where
  abbrev apart : Outcome (List Piece) → Outcome (List Piece)
  apart front = front >>= λ bs. own >>= λ os. Ok (bs ++ (block ++ os))

  apart_more : (p : Piece) (front : Outcome (List Piece)) → apart (front >>= λ rest. Ok (p ∷ rest)) ≡ (apart front >>= λ l. Ok (p ∷ l))
  apart_more p (Err r) = refl
  apart_more p (Ok bs) = go own
    where
      go : (o : Outcome (List Piece)) → (o >>= λ os. Ok (p ∷ (bs ++ (block ++ os)))) ≡ ((o >>= λ os. Ok (bs ++ (block ++ os))) >>= λ l. Ok (p ∷ l))
      go (Err r) = refl
      go (Ok os) = refl

  behind_more : (p : Piece) (n : ℕ) (all : Outcome (List Piece)) → ((all >>= λ ps. Ok (behind n block ps)) >>= λ l. Ok (p ∷ l)) ≡ ((all >>= λ rest. Ok (p ∷ rest)) >>= λ ps. Ok (behind (suc n) block ps))
  behind_more p n (Err r) = refl
  behind_more p n (Ok ps) = refl

  abbrev Between : List Part → Type 0
  Between parts = apart (joined parts (Ok [])) ≡ (joined parts own >>= λ ps. Ok (behind (length parts) block ps))

  between_more : (parts : List Part) → Between parts → (width : ℕ) (code : Outcome ℕ) → Between (record { width = width; code = code } ∷ parts)
  between_more parts h width (Err r) = refl
  between_more parts h width (Ok code) =
      let p : Piece = piece width code in
      apart_more p (joined parts (Ok [])) ∙ ap (λ o. o >>= λ l. Ok (p ∷ l)) h ∙ behind_more p (length parts) (joined parts own)

  between : (parts : List Part) → Between parts
  between [] = refl
  between (p ∷ parts) = between_more parts (between parts) p.width p.code

module _ (sheet : Sheet) where
  abbrev parts_from : ℕ → List Line → List Part
  parts_from f [] = []
  parts_from f (l ∷ lines) = record { width = (l.row_at 0).width; code = encode (l.row_at 0) f (lent sheet f) } ∷ parts_from (suc f) lines

  pub fields-listed : field_pieces sheet ≡ (line_pieces sheet (lines_of (template_in sheet)) 0 1 >>= λ ps. Ok (with_block (template_in sheet) ps))
  unfolding field_pieces lines_of basic line_pieces
  fields-listed = between (block_pieces (number_of (template_in sheet))) (line_pieces sheet (template_lines (template_in sheet)) 0 (suc (length basic))) (parts_from 1 basic)
