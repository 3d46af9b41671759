-- Laws of a whole plan: the format allows what it writes, with the
-- zero that may end the text, and a parsed sheet is planned again.
use Rattle.promises.proofs.Names.{◌≡◌, refl, sym, ap, ap₂, ◌∙◌, subst, Bool, true, false, ◌&&◌, ◌||◌, List, [], ◌∷◌, ◌++◌, map, append_assoc, ℕ, suc, ◌+◌, ◌-◌, ◌*◌, ◌/◌, ◌%◌, ◌≤◌, ◌<◌, arith, eqb, ltb, leb, ℤ}
use Rattle.promises.proofs.Names.{length, take, length-map, ltb-false, le-ltb, lt-ltb, leb-true, leb-false, ne_eqb, Ok, WrongSort, OutOfRange, WrongList, good-same, good-bind, good-then, passed, neither}
use Rattle.promises.proofs.Names.{bind-good, then-good, Piece, piece, needed, needed-append, Template, basic, template_lines, number_of, ending, Real, Domain, basic-sound, lines-sound, Calibration, bare, table_found}
use Rattle.promises.proofs.Names.{curve_found, Contents, pair_in, pairs_in, segments_in, all_terms, segment_in, term_in, points, segments, terms, block_pieces, end_code, piece_of, laid-length, calibration_pieces}
use Rattle.promises.proofs.Names.{CalibrationAt, Characters, zero_if, text-needed, characters_from, end_pieces, Formed, sheet_pieces, domain_in, Sheet, lent, template_in, line_pieces, field_pieces, unfit, ending_tested, ending_pieces}
use Rattle.promises.proofs.Names.{pairs_lent, table_pieces, Table, listed, by_curve, list_tested, behind_pieces, plan, LendableTable, segments_lent, kept_points, kept_domain, kept_segments, kept_terms, InDomain}
use Rattle.promises.proofs.Names.{not-refused, fit-characters, stray_text}
use Rattle.promises.proofs.PlannedFields.{KeptFrom, LentFrom, lines-stand, lines-again, kept_append, lent_split}
use Rattle.promises.proofs.PlannedPairs.{table-stands, table-again}
use Rattle.promises.proofs.PlannedCurve.{curve-stands, curve-again}

-- ---- the ending

characters-fit : (text : List ℕ) → Characters text → unfit text ≡ false
characters-fit [] h = refl
characters-fit (c ∷ text) h = rw (ne_eqb c 0 (λ e. omega arith), le-ltb 127 c h.1) (characters-fit text h.2)

text-room : (S : ℕ) (end_bit : Bool) (at : ℕ) (text : List ℕ) → stray_text end_bit text ≡ false → at + 7 * length text ≤ S →
    length text ≤ characters_from S end_bit at
text-room S true at text e h = omega arith
text-room S false at text e h = ltb-false 0 (length text) e

room-text : (S : ℕ) (end_bit : Bool) (at : ℕ) (text : List ℕ) → length text ≤ characters_from S end_bit at → stray_text end_bit text ≡ false
room-text S true at text h = refl
room-text S false at text h = le-ltb 0 (length text) h

-- A zero follows the text if the end bit is 1 and 7 bits remain.
zero_room : (S : ℕ) (end_bit : Bool) (at n : ℕ) → ltb n (characters_from S end_bit at) ≡ (end_bit && leb (at + 7 * n + 7) S)
zero_room S true at n = go (leb (at + 7 * n + 7) S) refl
  where
    go : (t : Bool) → leb (at + 7 * n + 7) S ≡ t → ltb n ((S - at) / 7) ≡ t
    go true e = lt-ltb n ((S - at) / 7) (omega (arith, leb-true (at + 7 * n + 7) S e))
    go false e = le-ltb n ((S - at) / 7) (omega (arith, leb-false (at + 7 * n + 7) S e))
zero_room S false at n = le-ltb n 0 (omega arith)

ending-again : (f : ℕ) (end_bit : Bool) (text : List ℕ) → stray_text end_bit text ≡ false → Characters text → ending_tested f end_bit text ≡ Ok tt
unfolding ending_tested
ending-again f end_bit text stray h = rw (stray, characters-fit text h)

-- ---- a plan in its parts

pub record PlanParts (sheet : Sheet) (text : List ℕ) (table : Table) (pieces : List Piece) : Type 0 where
  pub basics : List Piece
  pub own : List Piece
  pub behind : List Piece
  pub tested : list_tested table ≡ Ok tt
  pub basics_planned : line_pieces sheet basic 0 1 ≡ Ok basics
  pub own_planned : line_pieces sheet (template_lines (template_in sheet)) 0 (suc (length basic)) ≡ Ok own
  pub stray : stray_text sheet.end_bit text ≡ false
  pub characters : Characters text
  pub behind_planned : behind_pieces table ≡ Ok behind
  pub joined : (basics ++ (block_pieces (number_of (template_in sheet)) ++ own)) ++ (behind ++ ending_pieces sheet.end_bit text) ≡ pieces

pub plan-parts : (sheet : Sheet) (text : List ℕ) (table : Table) (pieces : List Piece) → plan sheet text table ≡ Ok pieces →
    PlanParts sheet text table pieces
unfolding plan field_pieces ending_tested
plan-parts sheet text table pieces e =
    let f : ℕ = ending (template_in sheet) in
    let b : Bool = sheet.end_bit in
    let (t, e0) = good-then (list_tested table) _ pieces e in
    let (fs, e1, e2) = good-bind (field_pieces sheet) _ pieces e0 in
    let (e3, e4) = good-then (ending_tested f b text) _ pieces e2 in
    let (ts, e5, e6) = good-bind (behind_pieces table) _ pieces e4 in
    let (bs, f1, f2) = good-bind (line_pieces sheet basic 0 1) _ fs e1 in
    let (os, f3, f4) = good-bind (line_pieces sheet (template_lines (template_in sheet)) 0 (suc (length basic))) _ fs f2 in
    let (s, g1) = passed (WrongSort f) (stray_text b text) _ tt e3 in
    let u = not-refused (OutOfRange f) (unfit text) g1 in
    record {
      basics = bs;
      own = os;
      behind = ts;
      tested = t;
      basics_planned = f1;
      own_planned = f3;
      stray = s;
      characters = fit-characters text u;
      behind_planned = e5;
      joined = ap (λ p. p ++ (ts ++ ending_pieces b text)) (good-same f4) ∙ good-same e6;
    }

pub half : (lentPoints : List ℤ) → 2 * length (pairs_lent lentPoints) ≤ length lentPoints
half [] = omega arith
half (a ∷ []) = omega arith
half (a ∷ s ∷ lentPoints) = omega (arith, half lentPoints)

-- ---- what follows the fields

few-lent : (domain : Domain) (lentPoints : List ℤ) → list_tested (listed domain lentPoints) ≡ Ok tt → length lentPoints ≤ 254
few-lent domain lentPoints e =
    ltb-false 254 (length lentPoints) (neither (eqb (length lentPoints % 2) 1) (ltb 254 (length lentPoints)) (not-refused (WrongList (length lentPoints)) _ e)).1

pub record BehindStands (at : ℕ) (table : Table) (ps : List Piece) : Type 0 where
  pub calibration : Calibration
  pub pieces : ps ≡ calibration_pieces calibration
  pub stands : CalibrationAt at calibration
  pub keeps_points : map pair_in (pairs_in calibration) ≡ kept_points table
  pub keeps_domain : domain_in calibration ≡ kept_domain table
  pub keeps_segments : map segment_in (segments_in calibration) ≡ kept_segments table
  pub keeps_terms : map term_in (all_terms (segments_in calibration)) ≡ kept_terms table

pub behind-stands : (at : ℕ) (table : Table) (ps : List Piece) → LendableTable table → list_tested table ≡ Ok tt → behind_pieces table ≡ Ok ps → BehindStands at table ps
behind-stands at (listed domain lentPoints) ps lendable t e =
    let k = table-stands at domain (pairs_lent lentPoints) ps (omega (arith, half lentPoints, few-lent domain lentPoints t)) e in
    record {
      calibration = k.calibration;
      pieces = k.pieces;
      stands = k.stands;
      keeps_points = k.keeps;
      keeps_domain = k.domained;
      keeps_segments = ap (map segment_in) k.straight;
      keeps_terms = ap (λ l. map term_in (all_terms l)) k.straight;
    }
behind-stands at (by_curve given) ps lendable t e =
    let k = curve-stands at given ps lendable e in
    record {
      calibration = curve_found k.founds;
      pieces = k.pieces;
      stands = k.stands;
      keeps_points = refl;
      keeps_domain = refl;
      keeps_segments = k.keeps;
      keeps_terms = k.keeps_terms;
    }

-- ---- the pieces of a plan, in the order of a sheet's

regroup : (bs block os ts cs zs : List Piece) (n : ℕ) →
    bs ++ (block ++ (os ++ (ts ++ (piece 2 3 ∷ []) ++ (piece 1 n ∷ (cs ++ zs))))) ≡ (bs ++ (block ++ os)) ++ (ts ++ (piece 2 3 ∷ piece 1 n ∷ cs)) ++ zs
regroup bs block os ts cs zs n = simp append_assoc

module _ (S number : ℕ) (end_bit : Bool) (text : List ℕ) (bs os ts : List Piece) where
  abbrev laid_down : List Piece
  laid_down = (bs ++ (block_pieces number ++ os)) ++ (ts ++ ending_pieces end_bit text)

  abbrev end_place : ℕ
  end_place = needed bs + 10 + needed os + needed ts + 2

  laid-needed : end_place + 1 + 7 * length text ≡ needed laid_down
  laid-needed =
      omega (
        arith,
        needed-append (bs ++ (block_pieces number ++ os)) (ts ++ ending_pieces end_bit text),
        needed-append bs (block_pieces number ++ os),
        needed-append ts (ending_pieces end_bit text),
        text-needed text,
      )

  -- The pieces in order, with the zero that may follow the text.
  reordered : bs ++ (block_pieces number ++ (os ++ (ts ++ (piece 2 3 ∷ []) ++ end_pieces S end_place end_bit text))) ≡ laid_down ++ zero_if (end_bit && leb (needed laid_down + 7) S)
  reordered =
      let z : ltb (length text) (characters_from S end_bit (end_place + 1)) ≡ (end_bit && leb (needed laid_down + 7) S) =
      zero_room S end_bit (end_place + 1) (length text) ∙ ap (λ (n : ℕ). end_bit && leb (n + 7) S) laid-needed in
      ap (λ t. bs ++ (block_pieces number ++ (os ++ (ts ++ (piece 2 3 ∷ []) ++ (piece 1 (end_code end_bit) ∷ (map (piece 7) text ++ zero_if t)))))) z
      ∙ regroup bs (block_pieces number) os ts (map (piece 7) text) (zero_if (end_bit && leb (needed laid_down + 7) S)) (end_code end_bit)

-- ---- planned sheets are what the format allows

pub record PlanStands (S : ℕ) (sheet : Sheet) (text : List ℕ) (table : Table) (pieces : List Piece) : Type 0 where
  pub contents : Contents
  pub formed : Formed S contents
  pub pieces_are : sheet_pieces formed ≡ pieces ++ zero_if (sheet.end_bit && leb (needed pieces + 7) S)
  pub same_template : contents.template ≡ template_in sheet
  pub keeps_fields : KeptFrom sheet 1 contents.fields
  pub keeps_points : points contents ≡ kept_points table
  pub keeps_domain : domain_in contents.calibration ≡ kept_domain table
  pub keeps_segments : segments contents ≡ kept_segments table
  pub keeps_terms : terms contents ≡ kept_terms table
  pub same_end : contents.end_bit ≡ sheet.end_bit
  pub same_text : contents.text ≡ text

pub plan-stands : (S : ℕ) (sheet : Sheet) (text : List ℕ) (table : Table) (pieces : List Piece) → ((f : ℕ) → Real (lent sheet f)) → LendableTable table →
    plan sheet text table ≡ Ok pieces → needed pieces ≤ S → PlanStands S sheet text table pieces
plan-stands S sheet text table pieces real lendable e inside =
    let d = plan-parts sheet text table pieces e in
    let t : Template = template_in sheet in
    let b : Bool = sheet.end_bit in
    let a = lines-stand sheet real basic 0 1 0 d.basics basic-sound d.basics_planned in
    let own_at : ℕ = needed (map piece_of a.fields) + 10 in
    let o = lines-stand sheet real (template_lines t) 0 (suc (length basic)) own_at d.own (lines-sound t) d.own_planned in
    let behind : ℕ = own_at + needed (map piece_of o.fields) in
    let k = behind-stands behind table d.behind lendable d.tested d.behind_planned in
    let ts : List Piece = calibration_pieces k.calibration in
    let end_at : ℕ = behind + needed ts + 2 in
    let p : laid_down S (number_of t) b text (map piece_of a.fields) (map piece_of o.fields) ts ≡ pieces =
    ap₂ (λ q r. (q ++ (block_pieces (number_of t) ++ map piece_of o.fields)) ++ (r ++ ending_pieces b text)) (sym a.pieces) (sym k.pieces)
    ∙ ap (λ q. (d.basics ++ (block_pieces (number_of t) ++ q)) ++ (d.behind ++ ending_pieces b text)) (sym o.pieces) ∙ d.joined in
    let n : end_at + 1 + 7 * length text ≡ needed pieces =
    laid-needed S (number_of t) b text (map piece_of a.fields) (map piece_of o.fields) ts ∙ ap needed p in
    let first : suc (length basic) ≡ 1 + length a.fields = omega (arith, laid-length basic 0 0 a.fields a.laid) in
    record {
      contents = record {
        template = t;
        fields = a.fields ++ o.fields;
        calibration = k.calibration;
        end_bit = b;
        text = text;
        bits = end_at + needed (end_pieces S end_at b text);
      };
      formed = record {
        basics = a.fields;
        own = o.fields;
        own_at = own_at;
        behind = behind;
        end_at = end_at;
        fields = refl;
        own-at = refl;
        behind-at = refl;
        end-at = refl;
        basics_laid = a.laid;
        own_laid = o.laid;
        calibrated = k.stands;
        ending = record { characters = d.characters; room = text-room S b (end_at + 1) text d.stray (omega arith) };
        bits_are = refl;
      };
      pieces_are =
          reordered S (number_of t) b text (map piece_of a.fields) (map piece_of o.fields) ts
          ∙ ap (λ q. q ++ zero_if (b && leb (needed q + 7) S)) p;
      same_template = refl;
      keeps_fields = kept_append sheet 1 a.fields o.fields a.keeps (subst (λ (f : ℕ). KeptFrom sheet f o.fields) first o.keeps);
      keeps_points = k.keeps_points;
      keeps_domain = k.keeps_domain;
      keeps_segments = k.keeps_segments;
      keeps_terms = k.keeps_terms;
      same_end = refl;
      same_text = refl;
    }

-- ---- parsed sheets are planned again

right-length : (lentPoints : List ℤ) (n : ℕ) → length lentPoints ≡ 2 * n → n ≤ 127 → (eqb (length lentPoints % 2) 1 || ltb 254 (length lentPoints)) ≡ false
right-length lentPoints n e few =
    rw (ne_eqb (length lentPoints % 2) 1 (λ h. omega arith)) (le-ltb 254 (length lentPoints) (omega arith))

few-pairs : (at : ℕ) (c : Contents) → CalibrationAt at c.calibration → length (points c) ≤ 127
few-pairs at c h = omega (arith, length-map (pairs_in c.calibration) pair_in, go c.calibration h)
  where
    go : (k : Calibration) → CalibrationAt at k → length (pairs_in k) ≤ 127
    go bare h = omega arith
    go (table_found domain pairs) h = h.most
    go (curve_found segments) h = omega arith

-- What is lent after the fields is what was parsed there.
abbrev pub LentBehind : Table → Contents → Type 0
LentBehind (listed domain lentPoints) c =
    (pairs_lent lentPoints ≡ points c) × (length lentPoints ≡ 2 * length (points c)) × (segments_in c.calibration ≡ []) × InDomain (domain_in c.calibration) domain
LentBehind (by_curve given) c =
    (given.count ≡ length (segments c)) × (segments_lent given ≡ segments c) × (take (length (terms c)) given.terms ≡ terms c) × (0 < length (segments c))

tested-again : (at : ℕ) (c : Contents) → CalibrationAt at c.calibration → (table : Table) → LentBehind table c → list_tested table ≡ Ok tt
tested-again at c h (listed domain lentPoints) l = rw (right-length lentPoints (length (points c)) l.1 (few-pairs at c h))
tested-again at c h (by_curve given) l = refl

behind-again : (at : ℕ) (c : Contents) → CalibrationAt at c.calibration → (table : Table) → LentBehind table c → behind_pieces table ≡ Ok (calibration_pieces c.calibration)
behind-again at c h (listed domain lentPoints) l = ap (table_pieces domain) l.0 ∙ table-again at c.calibration domain h l.2 l.3
behind-again at c h (by_curve given) l = go c.calibration refl h
  where
    go : (k : Calibration) → c.calibration ≡ k → CalibrationAt at k → behind_pieces (by_curve given) ≡ Ok (calibration_pieces c.calibration)
    go bare e h = absurd (omega (arith, l.3, ap (λ q. length (map segment_in (segments_in q))) e))
    go (table_found domain pairs) e h = absurd (omega (arith, l.3, ap (λ q. length (map segment_in (segments_in q))) e))
    go (curve_found xs) e h =
        let same : segments c ≡ map segment_in xs = ap (λ q. map segment_in (segments_in q)) e in
        let all : terms c ≡ map term_in (all_terms xs) = ap (λ q. map term_in (all_terms (segments_in q))) e in
        curve-again at xs given h (l.0 ∙ ap length same ∙ length-map xs segment_in) (l.1 ∙ same)
        (ap (λ (n : ℕ). take n given.terms) (sym (ap length all ∙ length-map (all_terms xs) term_in)) ∙ l.2 ∙ all)
        ∙ ap (λ q. Ok (calibration_pieces q)) (sym e)

module _ {S : ℕ} {c : Contents} (h : Formed S c) (sheet : Sheet) (table : Table) (lents : LentFrom sheet 1 c.fields) (same_template : template_in sheet ≡ c.template)
    (same_end : sheet.end_bit ≡ c.end_bit) (lentBehind : LentBehind table c) where
  abbrev bs : List Piece
  bs = map piece_of h.basics

  abbrev os : List Piece
  os = map piece_of h.own

  abbrev ts : List Piece
  ts = calibration_pieces c.calibration

  abbrev pub again : List Piece
  again = (bs ++ (block_pieces (number_of c.template) ++ os)) ++ (ts ++ ending_pieces c.end_bit c.text)

  fields-again : field_pieces sheet ≡ Ok (bs ++ (block_pieces (number_of c.template) ++ os))
  unfolding field_pieces
  fields-again =
      let (first, others) = lent_split sheet 1 h.basics h.own (subst (LentFrom sheet 1) h.fields lents) in
      let n : 1 + length h.basics ≡ suc (length basic) = omega (arith, laid-length basic 0 0 h.basics h.basics_laid) in
      let own : line_pieces sheet (template_lines (template_in sheet)) 0 (suc (length basic)) ≡ Ok os =
      ap (λ t. line_pieces sheet (template_lines t) 0 (suc (length basic))) same_template
      ∙ lines-again sheet (template_lines c.template) 0 (suc (length basic)) h.own_at h.own (lines-sound c.template) h.own_laid
      (subst (λ (f : ℕ). LentFrom sheet f h.own) n others) in
      bind-good _ (lines-again sheet basic 0 1 0 h.basics basic-sound h.basics_laid first) ∙ bind-good _ own
      ∙ ap (λ t. Ok (bs ++ (block_pieces (number_of t) ++ os))) same_template

  pub plan-again : plan sheet c.text table ≡ Ok again
  unfolding plan
  plan-again =
      let stray = room-text S c.end_bit (h.end_at + 1) c.text h.ending.room in
      rw (tested-again h.behind c h.calibrated table lentBehind)
      (bind-good _ fields-again
      ∙ then-good _ (ap (λ b. ending_tested (ending (template_in sheet)) b c.text) same_end ∙ ending-again (ending (template_in sheet)) c.end_bit c.text stray h.ending.characters)
      ∙ bind-good _ (behind-again h.behind c h.calibrated table lentBehind)
      ∙ ap (λ b. Ok ((bs ++ (block_pieces (number_of c.template) ++ os)) ++ (ts ++ ending_pieces b c.text))) same_end)

  pub zero-behind : again ++ zero_if (c.end_bit && leb (needed again + 7) S) ≡ sheet_pieces h
  zero-behind =
      let e : end_place S (number_of c.template) c.end_bit c.text bs os ts ≡ h.end_at = omega (arith, h.end-at, h.behind-at, h.own-at) in
      sym (reordered S (number_of c.template) c.end_bit c.text bs os ts)
      ∙ ap (λ (n : ℕ). bs ++ (block_pieces (number_of c.template) ++ (os ++ (ts ++ (piece 2 3 ∷ []) ++ end_pieces S n c.end_bit c.text)))) e
