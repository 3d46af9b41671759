-- Laws of the ending: what the format allows as end bit and text,
-- and their pieces. A zero character ends the text if room is left.
use Rattle.layout.proofs.Names.{◌≡◌, refl, sym, ap, ap₂, ◌∙◌, subst, subst₂, Bool, true, false, cond, List, [], ◌∷◌, ◌++◌, map, ℕ, zero, suc, ◌+◌, ◌-◌, ◌*◌, ◌/◌, ◌^◌, ◌≤◌, ◌<◌, arith, eqb, ltb, leb-suc-suc}
use Rattle.layout.proofs.Names.{length, eqb-true, eqb-false, ne_eqb, lt-ltb, Piece, piece, pack, needed, needed-append, pack-append, ends, ◌>>=◌, Ending, characters_of, ending_of, end_code}
use Rattle.layout.proofs.Formats.{Parses, ends-pieces, parses-made, made-pieces}

-- ---- the text

-- Every character is 1 to 127.
abbrev pub Characters : List ℕ → Type 0
Characters [] = Unit {0}
Characters (c ∷ text) = (1 ≤ c) × (c ≤ 127) × Characters text

-- The zero that ends a text, or nothing.
abbrev pub zero_if : Bool → List Piece
zero_if true = piece 7 0 ∷ []
zero_if false = []

-- The zero adds 7 bits, and nothing to the number.
pub zero-needed : (ps : List Piece) (t : Bool) → needed (ps ++ zero_if t) ≡ needed ps + cond t 7 0
zero-needed ps true = omega (arith, needed-append ps (zero_if true))
zero-needed ps false = omega (arith, needed-append ps (zero_if false))

pub zero-pack : (ps : List Piece) (t : Bool) → pack (ps ++ zero_if t) ≡ pack ps
zero-pack ps true = pack-append ps (zero_if true) ∙ omega arith
zero-pack ps false = pack-append ps (zero_if false) ∙ omega arith

pub text-needed : (text : List ℕ) → needed (map (piece 7) text) ≡ 7 * length text
text-needed [] = refl
text-needed (c ∷ text) = omega (arith, text-needed text)

-- The characters, and a zero if they are fewer than n.
abbrev pub text_pieces : ℕ → List ℕ → List Piece
text_pieces n text = map (piece 7) text ++ zero_if (ltb (length text) n)

shorter : (c n : ℕ) (text : List ℕ) → text_pieces (suc n) (c ∷ text) ≡ piece 7 c ∷ text_pieces n text
shorter c n text = ap (λ t. piece 7 c ∷ (map (piece 7) text ++ zero_if t)) (leb-suc-suc (suc (length text)) n)

text-parses : (S n at : ℕ) (text : List ℕ) → Characters text → length text ≤ n → Parses S (characters_of n) at (text_pieces n text) text
unfolding characters_of
text-parses S zero at [] h m = refl
text-parses S zero at (c ∷ text) h m = absurd (omega arith)
text-parses S (suc n) at [] h m = rw (lt-ltb 0 (suc n) (omega arith)) (refl, omega arith, refl)
text-parses S (suc n) at (c ∷ text) h m =
    let l = parses-made S (characters_of n) (λ rest. c ∷ rest) (at + 7) (text_pieces n text) text (text-parses S n (at + 7) text h.2 (omega arith)) in
    subst (λ q. Parses S (characters_of (suc n)) at q (c ∷ text)) (sym (shorter c n text))
    (refl, omega arith, rw (ne_eqb c 0 (λ e. omega arith)) l)

record TextPieces (n : ℕ) (ps : List Piece) (text : List ℕ) : Type 0 where
  characters : Characters text
  room : length text ≤ n
  split : ps ≡ text_pieces n text

text-pieces : (S n at : ℕ) (ps : List Piece) (text : List ℕ) → Parses S (characters_of n) at ps text → TextPieces n ps text
unfolding characters_of
text-pieces S zero at ps text l =
    let (e, f) = ends-pieces S [] at ps text l in
    subst₂ (λ q t. TextPieces 0 q t) (sym e) f (record { characters = tt; room = omega arith; split = refl })
text-pieces S (suc n) at [] text l = absurd l
text-pieces S (suc n) at (p ∷ ps) text l = go (text-pieces S n (at + 7) ps) (eqb p.code 0) refl l.2
  where
    character : (c : ℕ) → p.code ≡ c → p ≡ piece 7 c
    character c e = λ i. record { width = l.0 i; code = e i }

    go : ((rest : List ℕ) → Parses S (characters_of n) (at + 7) ps rest → TextPieces n ps rest) → (t : Bool) → eqb p.code 0 ≡ t →
        Parses S (cond t (ends []) (characters_of n >>= λ rest. ends (p.code ∷ rest))) (at + 7) ps text → TextPieces (suc n) (p ∷ ps) text
    go others true e m =
        let (f, g) = ends-pieces S [] (at + 7) ps text m in
        let z : zero_if (ltb 0 (suc n)) ≡ piece 7 0 ∷ [] = ap zero_if (lt-ltb 0 (suc n) (omega arith)) in
        subst (TextPieces (suc n) (p ∷ ps)) g
        (record { characters = tt; room = omega arith; split = ap₂ (λ q r. q ∷ r) (character 0 (eqb-true p.code 0 e)) f ∙ sym z })
    go others false e m =
        let (rest, f, k) = made-pieces S (characters_of n) (λ rest. p.code ∷ rest) (at + 7) ps text m in
        let w = others rest k in
        subst (TextPieces (suc n) (p ∷ ps)) f (record {
          characters = (omega (arith, eqb-false p.code 0 e), omega (arith, l.1), w.characters);
          room = omega (arith, w.room);
          split = ap₂ (λ q r. q ∷ r) (character p.code refl) w.split ∙ sym (shorter p.code n rest);
        })

-- ---- the end bit and the text

-- The characters that fit from a place on: none with end bit 0.
abbrev pub characters_from : ℕ → Bool → ℕ → ℕ
characters_from S end_bit at = cond end_bit ((S - at) / 7) 0

-- The end bit at a place, and the text after it.
abbrev pub end_pieces : ℕ → ℕ → Bool → List ℕ → List Piece
end_pieces S at end_bit text = piece 1 (end_code end_bit) ∷ text_pieces (characters_from S end_bit (at + 1)) text

-- What the format allows as an ending at a place.
pub record EndingAt (S at : ℕ) (end_bit : Bool) (text : List ℕ) : Type 0 where
  pub characters : Characters text
  pub room : length text ≤ characters_from S end_bit (at + 1)

bit_is : (n : ℕ) → n < 2 ^ 1 → n ≡ end_code (eqb n 1)
bit_is zero h = refl
bit_is (suc zero) h = refl
bit_is (suc (suc n)) h = absurd (omega arith)

abbrev ended : Bool → List ℕ → Ending
ended end_bit text = record { end_bit = end_bit; text = text }

module _ (S at : ℕ) where
  pub ending-parses : (end_bit : Bool) (text : List ℕ) → EndingAt S at end_bit text → Parses S ending_of at (end_pieces S at end_bit text) (ended end_bit text)
  unfolding ending_of
  ending-parses end_bit text h = go end_bit (text-parses S (characters_from S end_bit (at + 1)) (at + 1) text h.characters h.room)
    where
      go : (b : Bool) → Parses S (characters_of (characters_from S b (at + 1))) (at + 1) (text_pieces (characters_from S b (at + 1)) text) text →
          Parses S ending_of at (end_pieces S at b text) (ended b text)
      go true l = (refl, omega arith, parses-made S (characters_of ((S - (at + 1)) / 7)) (ended true) (at + 1) _ text l)
      go false l = (refl, omega arith, parses-made S (characters_of 0) (ended false) (at + 1) _ text l)

  pub ending-pieces : (ps : List Piece) (e : Ending) → Parses S ending_of at ps e → (ps ≡ end_pieces S at e.end_bit e.text) × EndingAt S at e.end_bit e.text
  unfolding ending_of
  ending-pieces [] e l = absurd l
  ending-pieces (p ∷ ps) e l =
      let b : Bool = eqb p.code 1 in
      let f : p.code ≡ end_code b = bit_is p.code l.1 in
      let (text, g, m) = made-pieces S (characters_of (characters_from S b (at + 1))) (ended b) (at + 1) ps e l.2 in
      let w = text-pieces S (characters_from S b (at + 1)) (at + 1) ps text m in
      subst (λ (x : Ending). (p ∷ ps ≡ end_pieces S at x.end_bit x.text) × EndingAt S at x.end_bit x.text) g (
        (λ i. record { width = l.0 i; code = f i } ∷ w.split i),
        record { characters = w.characters; room = w.room },
      )
