-- Laws of the calibration after the fields: what the
-- format allows as a table or a curve, and its pieces.
use Rattle.layout.proofs.Names.{◌≡◌, refl, sym, ap, ap₂, ◌∙◌, subst, Bool, true, false, not, cond, List, [], ◌∷◌, ◌++◌, Option, None, Some, ℕ, zero, suc, ◌+◌, ◌*◌, ◌^◌, ◌≤◌, ◌<◌, arith, eqb, length, eqb-true}
use Rattle.layout.proofs.Names.{not-false, Outcome, Ok, Err, WrongBlock, Piece, piece, needed, needed-append, Codes, Domain, cal_domain, domain_code, domain_of, point_count, cal_point, cal_deviation, follows}
use Rattle.layout.proofs.Names.{plain-bounds, domain-coded, code-domained, domain-most, Format, ends, stops, ◌>>=◌, ◌>>◌, given, reject◌if◌, Found, FoundPair, Calibration, bare, table, curve, paired, codes_in}
use Rattle.layout.proofs.Names.{field_of, selector_of, pair_of, pairs_of, table_of, nothing_passed, curve_of, block_of, block_at, calibration_of, pairs_in, segments_in, all_terms, table_bits, curve_bits, block_pieces}
use Rattle.layout.proofs.Formats.{Parses, parses-bind, parses-halves, ends-pieces, refuse-pieces, parses-made, made-pieces, fixed-pieces}
use Rattle.layout.proofs.Fields.{piece_of, FieldAt, width_is, at-is, plain-field, field-parses, field-pieces}
use Rattle.layout.proofs.Curves.{curve_pieces, CurveAt, SegmentsAt, segments-needed, curve-parses, curve-pieces}

-- ---- pairs

abbrev pub found_pair_pieces : FoundPair → List Piece
found_pair_pieces p = piece_of p.point ∷ piece_of p.deviation ∷ []

-- A pair at a place, after the one before it.
pub record PairAt (domain : Domain) (before : Option Codes) (at : ℕ) (p : FoundPair) : Type 0 where
  pub point : FieldAt cal_point at p.point
  pub deviation : FieldAt cal_deviation (at + 16) p.deviation
  pub follows : follows domain before at (codes_in p) ≡ Ok tt

given-pieces : {A B : Type 0} (S : ℕ) (o : Outcome A) (k : A → Format B) (at : ℕ) (ps : List Piece) (b : B) →
    Parses S (given o >>= k) at ps b → (a : A) × (o ≡ Ok a) × Parses S (k a) at ps b
given-pieces S (Ok a) k at ps b l = (a, refl, l)
given-pieces S (Err r) k at ps b l = absurd l

-- The format after a pair's two fields.
abbrev pub following : Domain → Option Codes → Found → Found → Format FoundPair
following domain before point deviation = given (follows domain before point.at (codes_in (paired point deviation))) >> ends (paired point deviation)

module _ (S : ℕ) (domain : Domain) (before : Option Codes) (at : ℕ) where
  pub pair-parses : (p : FoundPair) → PairAt domain before at p → Parses S (pair_of domain before) at (found_pair_pieces p) p
  unfolding pair_of
  pair-parses p h =
      let f : follows domain before p.point.at (codes_in p) ≡ Ok tt = ap (λ (n : ℕ). follows domain before n (codes_in p)) (at-is h.point) ∙ h.follows in
      field-parses S cal_point (λ x. field_of cal_deviation >>= following domain before x) at p.point _ p h.point
      (field-parses S cal_deviation (following domain before p.point) (at + 16) p.deviation [] p h.deviation (rw f refl))

  pub pair-pieces : (ps : List Piece) (p : FoundPair) → Parses S (pair_of domain before) at ps p → (ps ≡ found_pair_pieces p) × PairAt domain before at p
  unfolding pair_of
  pair-pieces ps p l =
      let a = field-pieces S cal_point (λ x. field_of cal_deviation >>= following domain before x) at ps p l in
      let b = field-pieces S cal_deviation (following domain before a.first) (at + 16) a.behind p a.parses in
      let (u, f, m) = given-pieces S (follows domain before a.first.at _) _ _ b.behind p b.parses in
      let (z, e) = ends-pieces S (paired a.first b.first) 0 b.behind p m in
      subst (λ (q : FoundPair). (ps ≡ found_pair_pieces q) × PairAt domain before at q) e (
        a.split ∙ ap (λ q. piece_of a.first ∷ q) (b.split ∙ ap (λ q. piece_of b.first ∷ q) z),
        record {
          point = a.field;
          deviation = b.field;
          follows = ap (λ (n : ℕ). follows domain before n (codes_in (paired a.first b.first))) (sym (at-is a.field)) ∙ f;
        },
      )

-- Pairs in order, 37 bits each.
abbrev pub found_pairs_pieces : List FoundPair → List Piece
found_pairs_pieces [] = []
found_pairs_pieces (p ∷ pairs) = found_pair_pieces p ++ found_pairs_pieces pairs

abbrev pub PairsAt : Domain → Option Codes → ℕ → List FoundPair → Type 0
PairsAt domain before at [] = Unit {0}
PairsAt domain before at (p ∷ pairs) = PairAt domain before at p × PairsAt domain (Some (codes_in p)) (at + 37) pairs

pair-needed : (domain : Domain) (before : Option Codes) (at : ℕ) (p : FoundPair) → PairAt domain before at p → needed (found_pair_pieces p) ≡ 37
pair-needed domain before at p h = omega (arith, width_is h.point, width_is h.deviation)

pub pairs-needed : (domain : Domain) (before : Option Codes) (at : ℕ) (pairs : List FoundPair) → PairsAt domain before at pairs → needed (found_pairs_pieces pairs) ≡ 37 * length pairs
pairs-needed domain before at [] h = refl
pairs-needed domain before at (p ∷ pairs) h =
    omega (arith, pair-needed domain before at p h.0, needed-append (found_pair_pieces p) (found_pairs_pieces pairs), pairs-needed domain (Some (codes_in p)) (at + 37) pairs h.1)

pub pairs-parses : (S : ℕ) (domain : Domain) (before : Option Codes) (at : ℕ) (pairs : List FoundPair) → PairsAt domain before at pairs →
    Parses S (pairs_of domain (length pairs) before) at (found_pairs_pieces pairs) pairs
unfolding pairs_of
pairs-parses S domain before at [] h = refl
pairs-parses S domain before at (p ∷ pairs) h =
    let e : at + 37 ≡ at + needed (found_pair_pieces p) = omega (arith, pair-needed domain before at p h.0) in
    parses-bind S (pair_of domain before) _ at (found_pair_pieces p) (found_pairs_pieces pairs) p (p ∷ pairs) (pair-parses S domain before at p h.0)
    (parses-made S (pairs_of domain (length pairs) (Some (codes_in p))) (λ rest. p ∷ rest) _ (found_pairs_pieces pairs) pairs
    (subst (λ (n : ℕ). Parses S (pairs_of domain (length pairs) (Some (codes_in p))) n (found_pairs_pieces pairs) pairs) e (pairs-parses S domain (Some (codes_in p)) (at + 37) pairs h.1)))

pub record PairsPieces (domain : Domain) (n : ℕ) (before : Option Codes) (at : ℕ) (ps : List Piece) (pairs : List FoundPair) : Type 0 where
  pub count : length pairs ≡ n
  pub split : ps ≡ found_pairs_pieces pairs
  pub stand : PairsAt domain before at pairs

pub pairs-pieces : (S : ℕ) (domain : Domain) (n : ℕ) (before : Option Codes) (at : ℕ) (ps : List Piece) (pairs : List FoundPair) →
    Parses S (pairs_of domain n before) at ps pairs → PairsPieces domain n before at ps pairs
unfolding pairs_of
pairs-pieces S domain zero before at ps pairs l =
    let (e, f) = ends-pieces S [] at ps pairs l in
    subst (PairsPieces domain 0 before at ps) f (record { count = refl; split = e; stand = tt })
pairs-pieces S domain (suc n) before at ps pairs l =
    let h = parses-halves S (pair_of domain before) (λ p. pairs_of domain n (Some (codes_in p)) >>= λ rest. ends (p ∷ rest)) at ps pairs l in
    let p : FoundPair = h.middle in
    let (e, f) = pair-pieces S domain before at h.first p h.front in
    let k : at + needed h.first ≡ at + 37 = omega (arith, ap needed e, pair-needed domain before at p f) in
    let (others, g, m) = made-pieces S (pairs_of domain n (Some (codes_in p))) (λ rest. p ∷ rest) _ h.second pairs h.back in
    let r = pairs-pieces S domain n (Some (codes_in p)) (at + 37) h.second others
    (subst (λ (i : ℕ). Parses S (pairs_of domain n (Some (codes_in p))) i h.second others) k m) in
    subst (PairsPieces domain (suc n) before at ps) g (record {
      count = ap suc r.count;
      split = sym h.joined ∙ ap₂ (λ q s. q ++ s) e r.split;
      stand = (f, r.stand);
    })

-- ---- the block, or no block

-- Selector 0, template 40, the domain, the count and the
-- pairs; or those of a curve, template 41; or nothing.
abbrev pub calibration_pieces : Calibration → List Piece
calibration_pieces bare = []
calibration_pieces (table domain pairs) = block_pieces 40 ++ (piece 1 (domain_code domain) ∷ piece 7 (length pairs) ∷ found_pairs_pieces pairs)
calibration_pieces (curve segments) = block_pieces 41 ++ curve_pieces segments

pub record TableAt (at : ℕ) (domain : Domain) (pairs : List FoundPair) : Type 0 where
  pub some : 1 ≤ length pairs
  pub most : length pairs ≤ 127
  pub stand : PairsAt domain None (at + 18) pairs

abbrev pub CalibrationAt : ℕ → Calibration → Type 0
CalibrationAt at bare = Unit {0}
CalibrationAt at (table domain pairs) = TableAt at domain pairs
CalibrationAt at (curve segments) = CurveAt at segments

pub calibration-needed : (at : ℕ) (c : Calibration) → CalibrationAt at c →
    needed (calibration_pieces c) ≡ table_bits (length (pairs_in c)) + curve_bits (length (segments_in c)) (length (all_terms (segments_in c)))
calibration-needed at bare h = refl
calibration-needed at (curve segments) h = go (length segments) refl h.some
  where
    go : (n : ℕ) → length segments ≡ n → 1 ≤ n → needed (calibration_pieces (curve segments)) ≡ 0 + curve_bits n (length (all_terms segments))
    go zero f l = absurd (omega arith)
    go (suc n) f l = omega (arith, segments-needed nothing_passed (at + 19) segments h.stand)
calibration-needed at (table domain pairs) h = go (length pairs) refl h.some
  where
    go : (n : ℕ) → length pairs ≡ n → 1 ≤ n → needed (calibration_pieces (table domain pairs)) ≡ table_bits n + 0
    go zero f l = absurd (omega arith)
    go (suc n) f l = omega (arith, pairs-needed domain None (at + 18) pairs h.stand)

module _ (S at : ℕ) where
  -- The pieces after the block's template number.
  abbrev counted_pieces : Domain → List FoundPair → List Piece
  counted_pieces domain pairs = piece 1 (domain_code domain) ∷ piece 7 (length pairs) ∷ found_pairs_pieces pairs

  abbrev listed : Domain → Found → Format Calibration
  listed domain count = pairs_of domain count.code None >>= λ pairs. ends (table domain pairs)

  abbrev counted : Found → Format Calibration
  counted x = field_of point_count >>= listed (domain_of x.code)

  table-parses : (domain : Domain) (pairs : List FoundPair) → 1 ≤ length pairs → length pairs ≤ 127 → PairsAt domain None (at + 1 + 7) pairs →
      Parses S table_of at (counted_pieces domain pairs) (table domain pairs)
  unfolding table_of
  table-parses domain pairs l g h =
      let most = domain-most domain in
      field-parses S cal_domain counted at _ _ (table domain pairs) (plain-field 1 0 1 at (domain_code domain) (omega arith) most (omega arith))
      (subst (λ (d : Domain). Parses S (field_of point_count >>= listed d) (at + 1) (piece 7 (length pairs) ∷ found_pairs_pieces pairs) (table domain pairs)) (sym (domain-coded domain))
      (field-parses S point_count (listed domain) (at + 1) _ _ (table domain pairs) (plain-field 7 1 127 (at + 1) (length pairs) l g (omega arith))
      (parses-made S (pairs_of domain (length pairs) None) (table domain) _ (found_pairs_pieces pairs) pairs (pairs-parses S domain None (at + 1 + 7) pairs h))))

  record TablePieces (ps : List Piece) (c : Calibration) : Type 0 where
    domain : Domain
    pairs : List FoundPair
    is : table domain pairs ≡ c
    split : ps ≡ counted_pieces domain pairs
    some : 1 ≤ length pairs
    most : length pairs ≤ 127
    stand : PairsAt domain None (at + 1 + 7) pairs

  table-pieces : (ps : List Piece) (c : Calibration) → Parses S table_of at ps c → TablePieces ps c
  unfolding table_of
  table-pieces ps c l =
      let a = field-pieces S cal_domain counted at ps c l in
      let d : Domain = domain_of a.first.code in
      let b = field-pieces S point_count (listed d) (at + 1) a.behind c a.parses in
      let n : ℕ = b.first.code in
      let da = plain-bounds 1 0 1 at a.first.code _ a.field.means in
      let db = plain-bounds 7 1 127 (at + 1) n _ b.field.means in
      let z : a.first.code ≡ domain_code d = sym (code-domained a.first.code da.1) in
      let (pairs, e, m) = made-pieces S (pairs_of d n None) (table d) _ b.behind c b.parses in
      let r = pairs-pieces S d n None (at + 1 + 7) b.behind pairs m in
      record {
        domain = d;
        pairs = pairs;
        is = e;
        split =
            a.split ∙ ap₂ (λ (w k : ℕ). piece w k ∷ a.behind) (width_is a.field) z
            ∙ ap (λ q. piece 1 (domain_code d) ∷ q) (b.split ∙ ap₂ (λ (w k : ℕ). piece w k ∷ b.behind) (width_is b.field) (sym r.count) ∙ ap (λ q. piece 7 (length pairs) ∷ q) r.split);
        some = omega (arith, r.count, db.0);
        most = omega (arith, r.count, db.1);
        stand = r.stand;
      }

module _ (S at : ℕ) where
  abbrev after_block : Calibration → Format Calibration
  after_block c = selector_of 3 >> ends c

  -- A block whose selector 0 is here, and the last selector after it.
  only-parses : (number : ℕ) (c : Calibration) (ps : List Piece) → number < 2 ^ 8 → Parses S (block_of at number) (at + 2 + 8) ps c →
      Parses S calibration_of at ((block_pieces number ++ ps) ++ (piece 2 3 ∷ [])) c
  unfolding calibration_of block_at selector_of
  only-parses number c ps small l =
      (refl, omega arith, parses-bind S (block_at at) after_block (at + 2) (piece 8 number ∷ ps) (piece 2 3 ∷ []) c c (refl, small, l) (refl, omega arith, refl))

  pub calibration-parses : (c : Calibration) → CalibrationAt at c → Parses S calibration_of at (calibration_pieces c ++ (piece 2 3 ∷ [])) c
  unfolding calibration_of selector_of
  calibration-parses bare h = (refl, omega arith, refl)
  calibration-parses (table domain pairs) h =
      let e : at + 18 ≡ at + 2 + 8 + 1 + 7 = omega arith in
      only-parses 40 (table domain pairs) _ (omega arith)
      (table-parses S (at + 2 + 8) domain pairs h.some h.most (subst (λ (n : ℕ). PairsAt domain None n pairs) e h.stand))
  calibration-parses (curve segments) h =
      let e : at + 19 ≡ at + 2 + 8 + 1 + 8 = omega arith in
      only-parses 41 (curve segments) _ (omega arith)
      (curve-parses S (at + 2 + 8) segments h.some h.most (subst (λ (n : ℕ). SegmentsAt nothing_passed n segments) e h.stand))

  -- The pieces of a block after its selector 0.
  block-pieces : (ps : List Piece) (c : Calibration) → Parses S (block_at at) (at + 2) ps c → (piece 2 0 ∷ ps ≡ calibration_pieces c) × CalibrationAt at c
  unfolding block_at
  block-pieces [] c l = absurd l
  block-pieces (p ∷ ps) c l = go (eqb p.code 40) refl (eqb p.code 41) refl l.2
    where
      number : (n : ℕ) → p.code ≡ n → p ≡ piece 8 n
      number n e = λ i. record { width = l.0 i; code = e i }

      go : (t : Bool) → eqb p.code 40 ≡ t → (u : Bool) → eqb p.code 41 ≡ u →
          Parses S (cond t table_of (cond u curve_of (stops (WrongBlock at)))) (at + 2 + 8) ps c →
          (piece 2 0 ∷ p ∷ ps ≡ calibration_pieces c) × CalibrationAt at c
      go true e u f m =
          let t = table-pieces S (at + 2 + 8) ps c m in
          let n : at + 2 + 8 + 1 + 7 ≡ at + 18 = omega arith in
          subst (λ (d : Calibration). (piece 2 0 ∷ p ∷ ps ≡ calibration_pieces d) × CalibrationAt at d) t.is (
            ap₂ (λ x q. piece 2 0 ∷ x ∷ q) (number 40 (eqb-true p.code 40 e)) t.split,
            record { some = t.some; most = t.most; stand = subst (λ (k : ℕ). PairsAt t.domain None k t.pairs) n t.stand },
          )
      go false e true f m =
          let t = curve-pieces S (at + 2 + 8) ps c m in
          let n : at + 2 + 8 + 1 + 8 ≡ at + 19 = omega arith in
          subst (λ (d : Calibration). (piece 2 0 ∷ p ∷ ps ≡ calibration_pieces d) × CalibrationAt at d) t.is (
            ap₂ (λ x q. piece 2 0 ∷ x ∷ q) (number 41 (eqb-true p.code 41 f)) t.split,
            record { some = t.some; most = t.most; stand = subst (λ (k : ℕ). SegmentsAt nothing_passed k t.segments) n t.stand },
          )
      go false e false f m = absurd m

  pub calibration-pieces : (ps : List Piece) (c : Calibration) → Parses S calibration_of at ps c →
      (ps ≡ calibration_pieces c ++ (piece 2 3 ∷ [])) × CalibrationAt at c
  unfolding calibration_of selector_of
  calibration-pieces [] c l = absurd l
  calibration-pieces (p ∷ ps) c l = go (eqb p.code 0) refl l.2
    where
      selector : (n : ℕ) → p.code ≡ n → p ≡ piece 2 n
      selector n e = λ i. record { width = l.0 i; code = e i }

      go : (t : Bool) → eqb p.code 0 ≡ t →
          Parses S (cond t (block_at at >>= after_block) (reject WrongBlock at if not (eqb p.code 3) >> ends bare)) (at + 2) ps c →
          (p ∷ ps ≡ calibration_pieces c ++ (piece 2 3 ∷ [])) × CalibrationAt at c
      go true e m =
          let h = parses-halves S (block_at at) after_block (at + 2) ps c m in
          let (f, k) = block-pieces h.first h.middle h.front in
          let (rs, g, j) = fixed-pieces S 2 3 (WrongBlock _) (ends h.middle) _ h.second c h.back in
          let (z, i) = ends-pieces S h.middle 0 rs c j in
          subst (λ (d : Calibration). (p ∷ ps ≡ calibration_pieces d ++ (piece 2 3 ∷ [])) × CalibrationAt at d) i (
            ap₂ (λ q r. q ∷ r) (selector 0 (eqb-true p.code 0 e)) (sym h.joined)
                ∙ ap₂ (λ q r. q ++ r) f (g ∙ ap (λ q. piece 2 3 ∷ q) z),
            k,
          )
      go false e m =
          let (t, k) = refuse-pieces S (WrongBlock at) (not (eqb p.code 3)) (ends bare) (at + 2) ps c m in
          let (z, i) = ends-pieces S bare (at + 2) ps c k in
          subst (λ (d : Calibration). (p ∷ ps ≡ calibration_pieces d ++ (piece 2 3 ∷ [])) × CalibrationAt at d) i
          (ap₂ (λ q r. q ∷ r) (selector 3 (eqb-true p.code 3 (not-false _ t))) z, tt)
