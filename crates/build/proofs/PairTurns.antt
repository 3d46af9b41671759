-- Laws of the loops over the lent points, pair by pair.
use Rattle.build.proofs.Names.{◌≡◌, refl, sym, ap, ap₂, ◌∙◌, List, [], ◌∷◌, ◌++◌, append_assoc, append-nil, Option, None, Some, ℕ, zero, suc, ◌+◌, ◌*◌, ◌/◌, ◌^◌, ◌≤◌, ◌<◌, add-one, arith, ℤ, pos, length, drop, get_or, set, length-drop, drop-cons, Refusal}
use Rattle.build.proofs.Names.{Outcome, Ok, Err, ◌>>=◌, ◌>>◌, bind-good, bind-refused, bind_assoc, bind-same, Piece, piece, needed, needed-append, Whole, Row, Pair, Codes, Domain, encode, domain_code, domain-most, cal_point, cal_deviation, codes_of, follows}
use Rattle.build.proofs.Names.{Sound, point-sound, deviation-sound, reads-back, block_pieces, table_bits, pairs_lent, codes_for, pair_codes, pair_pieces, table_pieces, tested, pair_at}
use Rattle.build.proofs.Names.{CodedField, Listed, Ok, Err, Fitting, Fit, field_piece, first_codes, block_head, BitString, bit_string, BlockPlanned}
use Rattle.build.proofs.Tests.{tested-made}
use Rattle.build.proofs.PairPlans.{codes-planned, pairs-length}
use Rattle.build.proofs.Coding.{taken, fit-more}
use Rattle.build.proofs.Listing.{head-fit, head-pieces, string-between, two-one}

-- ---- one pair

module _ (i : ℕ) (p : Pair) where
  pub point-refused : {r : Refusal} → encode cal_point i (Whole p.point) ≡ Err r → codes_for i p ≡ Err r
  unfolding codes_for
  point-refused e = bind-refused _ e

  pub deviation-refused : {a : ℕ} {r : Refusal} → encode cal_point i (Whole p.point) ≡ Ok a → encode cal_deviation i (Whole p.deviation) ≡ Err r → codes_for i p ≡ Err r
  unfolding codes_for
  deviation-refused e f = rw (e, f)

  pub pair-coded : {a b : ℕ} → encode cal_point i (Whole p.point) ≡ Ok a → encode cal_deviation i (Whole p.deviation) ≡ Ok b → codes_for i p ≡ Ok (codes_of a b)
  unfolding codes_for
  pair-coded e f = rw (e, f)

  -- The codes of a pair, then the tests with the pair before it.
  pub codes-then : (domain : Domain) (before : Option Codes) → pair_codes domain before i p ≡ (codes_for i p >>= λ codes. follows domain before i codes >> Ok codes)
  unfolding pair_codes
  codes-then domain before = refl

  -- A code fits its row.
  pub fitting : (row : Row) (z : ℤ) (code : ℕ) → Sound row → encode row i (Whole z) ≡ Ok code → Fitting row.width code
  fitting row z code s e = record { some = s.some; most = omega (arith, s.most); fits = (reads-back row i 0 code (Whole z) s tt e).0 }

  pub pair_fits : (codes : Codes) → codes_for i p ≡ Ok codes → Fitting cal_point.width codes.point × Fitting cal_deviation.width codes.deviation
  pair_fits codes e =
      let d = codes-planned i p codes e in
      (fitting cal_point p.point codes.point point-sound d.point, fitting cal_deviation p.deviation codes.deviation deviation-sound d.deviation)

-- ---- the pairs left

abbrev pub pairs_from : List ℤ → ℕ → List Pair
pairs_from points i = pairs_lent (drop (2 * i) points)

pairs-none : (l : List ℤ) → length l ≤ 1 → pairs_lent l ≡ []
pairs-none [] h = refl
pairs-none (a ∷ []) h = refl
pairs-none (a ∷ s ∷ l) h = absurd (omega arith)

module _ (points : List ℤ) (i : ℕ) where
  pub pairs_end : length points / 2 ≤ i → pairs_from points i ≡ []
  pairs_end h = pairs-none (drop (2 * i) points) (omega (arith, length-drop (2 * i) points))

  pub pairs-left : i < length points / 2 → pairs_from points i ≡ pair_at points i ∷ pairs_from points (i + 1)
  pairs-left h =
      let e : suc (suc (2 * i)) ≡ 2 * (i + 1) = omega arith in
      let f : suc (2 * i) ≡ 2 * i + 1 = omega arith in
      ap pairs_lent (drop-cons points (2 * i) (pos 0) (omega arith) ∙ ap (λ l. get_or points (2 * i) (pos 0) ∷ l) (drop-cons points (suc (2 * i)) (pos 0) (omega arith)))
      ∙ ap₂ (λ s l. pairs_lent (get_or points (2 * i) (pos 0) ∷ s ∷ l)) (ap (λ (n : ℕ). get_or points n (pos 0)) f) (ap (λ (n : ℕ). drop n points) e)

  -- ---- tested

  module _ (domain : Domain) (before : Option Codes) where
    abbrev test : Outcome (Unit {0})
    test = tested (pair_pieces domain before i (pairs_from points i))

    pub test-end : length points / 2 ≤ i → test ≡ Ok tt
    unfolding pair_pieces
    test-end h = ap (λ l. tested (pair_pieces domain before i l)) (pairs_end h)

    module _ (h : i < length points / 2) where
      step : pair_pieces domain before i (pairs_from points i) ≡ (pair_codes domain before i (pair_at points i) >>= λ codes. pair_pieces domain (Some codes) (suc i) (pairs_from points (i + 1)) >>= λ rest.
          Ok (piece cal_point.width codes.point ∷ piece cal_deviation.width codes.deviation ∷ rest))
      unfolding pair_pieces
      step = ap (pair_pieces domain before i) (pairs-left h)

      pub test-refused : {r : Refusal} → pair_codes domain before i (pair_at points i) ≡ Err r → test ≡ Err r
      test-refused e = ap tested (step ∙ bind-refused _ e)

      pub test-next : {codes : Codes} → pair_codes domain before i (pair_at points i) ≡ Ok codes → test ≡ tested (pair_pieces domain (Some codes) (i + 1) (pairs_from points (i + 1)))
      test-next {codes} e =
          ap tested (step ∙ bind-good _ e) ∙ tested-made (pair_pieces domain (Some codes) (suc i) (pairs_from points (i + 1))) _
          ∙ ap (λ (n : ℕ). tested (pair_pieces domain (Some codes) n (pairs_from points (i + 1)))) (sym (add-one i))

pub table-tested : (domain : Domain) (pairs : List Pair) → tested (table_pieces domain pairs) ≡ tested (pair_pieces domain None 0 pairs)
unfolding table_pieces pair_pieces
table-tested domain [] = refl
table-tested domain (p ∷ pairs) = tested-made (pair_pieces domain None 0 (p ∷ pairs)) _

-- ---- planned

pub some-points : (n : ℕ) → (n ≡ 0 → ⊥) → 0 < n
some-points zero h = absurd (h refl)
some-points (suc n) h = omega arith

-- The pieces of a table that is not empty, as bit strings.
abbrev table_string : Domain → List ℤ → Outcome BitString
table_string domain points = table_pieces domain (pairs_lent points) >>= λ ps. Ok (bit_string ps)

table-some : (domain : Domain) (pairs : List Pair) → 0 < length pairs →
    (table_pieces domain pairs >>= λ ps. Ok (bit_string ps)) ≡ (pair_pieces domain None 0 pairs >>= λ rest. Ok (bit_string ((block_pieces 40 ++ (piece 1 (domain_code domain) ∷ piece 7 (length pairs) ∷ [])) ++ rest)))
unfolding table_pieces
table-some domain [] h = absurd (omega arith)
table-some domain (p ∷ pairs) h = bind_assoc (pair_pieces domain None 0 (p ∷ pairs)) _ _

module _ (domain : Domain) (points : List ℤ) (n : ℕ) where
  -- The first i pairs have their codes.
  pub record PointsDone (codes : List CodedField) (before : Option Codes) (i : ℕ) : Type 0 where
    pub inside : i ≤ length points / 2
    pub fit : Fit n codes
    pub said : (pair_pieces domain before i (pairs_from points i) >>= λ rest. Ok (bit_string (first_codes codes (4 + i) ++ rest))) ≡ table_string domain points
    pub bits : needed (first_codes codes (4 + i)) ≡ 18 + 37 * i

  pub points_none : {codes : List CodedField} → Fit n codes → 0 < length points / 2 → length points ≤ 254 → 4 ≤ n →
      PointsDone (block_head codes 40 (domain_code domain) 7 (length points / 2)) None 0
  points_none {codes} fit enough few room =
      let head = head-pieces 40 (domain_code domain) 7 (length points / 2) codes (omega (arith, fit.long)) in
      record {
        inside = omega arith;
        fit = head-fit 40 (domain_code domain) 7 (length points / 2) codes fit (omega arith) (omega (arith, domain-most domain)) (record { some = omega arith; most = omega arith; fits = omega arith });
        said = rw head (sym (rw (pairs-length points) at (table-some domain (pairs_lent points) (omega (arith, pairs-length points)))));
        bits = ap needed head;
      }

  module _ {codes : List CodedField} {before : Option Codes} {i : ℕ} (d : PointsDone codes before i) where
    pub points-down : {r : Refusal} → i < length points / 2 → pair_codes domain before i (pair_at points i) ≡ Err r → BlockPlanned (table_pieces domain (pairs_lent points)) n codes (Err r)
    points-down h e = record {
      said = sym (bind-refused _ (step points i domain before h ∙ bind-refused _ e)) ∙ d.said;
      fit = d.fit;
      count = λ l a. absurd (let z : ◌≡◌ {A = ℕ} 0 1 = cc in omega arith);
    }

    -- One more pair, as one code.
    pub points-next : {pair : Codes} → i < length points / 2 → 4 + i < n → pair_codes domain before i (pair_at points i) ≡ Ok pair → codes_for i (pair_at points i) ≡ Ok pair →
        PointsDone (set codes (4 + i) (record { width = 37; code = pair.point + pair.deviation * 2 ^ 16 })) (Some pair) (i + 1)
    points-next {pair} h room e coded =
        let fits = pair_fits i (pair_at points i) pair coded in
        let x : CodedField = record { width = 37; code = pair.point + pair.deviation * 2 ^ 16 } in
        let one : Piece = field_piece x in
        let two : List Piece = piece cal_point.width pair.point ∷ piece cal_deviation.width pair.deviation ∷ [] in
        let D : List Piece = first_codes codes (4 + i) in
        let rest : Outcome (List Piece) = pair_pieces domain (Some pair) (suc i) (pairs_from points (i + 1)) in
        let next : 4 + (i + 1) ≡ suc (4 + i) = omega arith in
        let more : first_codes (set codes (4 + i) x) (4 + (i + 1)) ≡ D ++ (one ∷ []) = rw next (taken codes (4 + i) x (omega (arith, d.fit.long))) in
        let here : (pair_pieces domain before i (pairs_from points i) >>= λ l. Ok (bit_string (D ++ l))) ≡ (rest >>= λ l. Ok (bit_string (D ++ (two ++ l)))) =
        ap (λ o. o >>= λ l. Ok (bit_string (D ++ l))) (step points i domain before h ∙ bind-good _ e) ∙ bind_assoc rest _ _ in
        let joined : (rest >>= λ l. Ok (bit_string (D ++ (two ++ l)))) ≡ (rest >>= λ l. Ok (bit_string (first_codes (set codes (4 + i) x) (4 + (i + 1)) ++ l))) =
        bind-same rest (λ l. ap Ok (string-between D two (one ∷ []) l (two-one 16 21 pair.point pair.deviation) ∙ ap bit_string (sym (ap (λ m. m ++ l) more ∙ append_assoc D (one ∷ []) l)))) in
        record {
          inside = omega arith;
          fit = fit-more codes (4 + i) x d.fit (record { some = omega arith; most = omega arith; fits = omega (arith, fits.0.fits, fits.1.fits) });
          said =
              ap (λ (m : ℕ). pair_pieces domain (Some pair) m (pairs_from points (i + 1)) >>= λ l. Ok (bit_string (first_codes (set codes (4 + i) x) (4 + (i + 1)) ++ l))) (add-one i)
              ∙ sym (here ∙ joined) ∙ d.said;
          bits = omega (arith, ap needed more, needed-append D (one ∷ []), d.bits);
        }

    pub points-all : length points / 2 ≤ i → length points ≤ 254 → 4 + length points / 2 ≤ n → {l : Listed} → l.count ≡ 4 + length points / 2 → l.bits ≡ table_bits (length points / 2) →
        0 < length points / 2 → BlockPlanned (table_pieces domain (pairs_lent points)) n codes (Ok l)
    unfolding pair_pieces
    points-all end few room {l} c b enough =
        let same : i ≡ length points / 2 = omega (arith, d.inside) in
        let D : List Piece = first_codes codes (4 + i) in
        record {
          said = rw (c, ← same) (sym (sym d.said ∙ rw (pairs_end points i end) (ap (λ m. Ok (bit_string m)) (append-nil D))));
          fit = d.fit;
          count = λ m a. let is : l ≡ m = cc in rw (← is) (omega (arith, c), rw (c, ← same) (b ∙ omega (arith, d.bits, bits-some (length points / 2) enough)), omega (arith, b, bits-some (length points / 2) enough));
        }
      where
        bits-some : (k : ℕ) → 0 < k → table_bits k ≡ 18 + 37 * k
        bits-some zero h = absurd (omega arith)
        bits-some (suc k) h = omega arith

  pub table_none : length points / 2 ≡ 0 → table_pieces domain (pairs_lent points) ≡ Ok []
  unfolding table_pieces
  table_none h = ap (table_pieces domain) (pairs-none points (omega arith))

  -- An empty list has no block.
  pub points-empty : {codes : List CodedField} → Fit n codes → length points / 2 ≡ 0 → BlockPlanned (table_pieces domain (pairs_lent points)) n codes (Ok (record { count = 0; bits = 0 }))
  unfolding table_pieces
  points-empty fit h = record {
    said = rw (pairs-none points (omega arith));
    fit = fit;
    count = λ l a. let is : record { count = 0; bits = 0 } ≡ l = cc in rw (← is) (omega arith, refl, omega arith);
  }
