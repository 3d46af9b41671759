-- Laws of a whole sheet: what the format allows, and its pieces.
use Rattle.layout.proofs.Names.{◌≡◌, refl, sym, ap, ap₂, ◌∙◌, subst, List, [], ◌∷◌, ◌++◌, map, append-nil, Option, None, Some, ℕ, ◌+◌, arith, WrongBlock, Piece, piece, needed, needed-append, Template, basic}
use Rattle.layout.proofs.Names.{template_lines, number_of, template_of, number_lt, number-known, known-number, Format, ends, ◌>>=◌, bits, place, Found, Calibration, Contents, Ending, fields_of, selector_of, named}
use Rattle.layout.proofs.Names.{first_block, calibration_of, ending_of, sheet_of, block_pieces}
use Rattle.layout.proofs.Formats.{Parses, parses-bind, parses-halves, ends-pieces, fixed-pieces}
use Rattle.layout.proofs.Fields.{piece_of, Laid, laid-parses, laid-pieces}
use Rattle.layout.proofs.Calibrations.{calibration_pieces, CalibrationAt, calibration-parses, calibration-pieces}
use Rattle.layout.proofs.Endings.{end_pieces, EndingAt, ending-parses, ending-pieces}

-- ---- the first block

module _ (S at : ℕ) where
  block-parses : (t : Template) → Parses S first_block at (block_pieces (number_of t)) t
  unfolding first_block selector_of
  block-parses t = (refl, omega arith, (refl, number_lt t, rw (number-known t) refl))

  named-pieces : (n : ℕ) (o : Option Template) → template_of n ≡ o → (ps : List Piece) (t : Template) → Parses S (named at o) (at + 2 + 8) ps t →
      (ps ≡ []) × (n ≡ number_of t)
  named-pieces n (Some u) e ps t l = let (z, f) = ends-pieces S u 0 ps t l in (z, known-number n t (e ∙ ap Some f))
  named-pieces n None e ps t l = absurd l

  block-pieces : (ps : List Piece) (t : Template) → Parses S first_block at ps t → ps ≡ block_pieces (number_of t)
  unfolding first_block selector_of
  block-pieces ps t l =
      let (qs, e, m) = fixed-pieces S 2 0 (WrongBlock at) (bits 8 >>= λ number. named at (template_of number)) at ps t l in
      e ∙ ap (λ q. piece 2 0 ∷ q) (number qs m)
    where
      number : (qs : List Piece) → Parses S (bits 8 >>= λ number. named at (template_of number)) (at + 2) qs t → qs ≡ piece 8 (number_of t) ∷ []
      number [] m = absurd m
      number (q ∷ qs) m =
          let (z, f) = named-pieces q.code (template_of q.code) refl qs t m.2 in
          ap₂ (λ x y. x ∷ y) (λ i. record { width = m.0 i; code = f i }) z

-- ---- the sheet

-- What the format allows in a stream of S bits: Basic's fields, the template's
-- own, the calibration and the ending, each where the one before ends.
pub record Formed (S : ℕ) (c : Contents) : Type 0 where
  pub basics : List Found
  pub own : List Found
  pub own_at : ℕ
  pub behind : ℕ
  pub end_at : ℕ
  pub fields : c.fields ≡ basics ++ own
  pub own-at : own_at ≡ needed (map piece_of basics) + 10
  pub behind-at : behind ≡ own_at + needed (map piece_of own)
  pub end-at : end_at ≡ behind + needed (calibration_pieces c.calibration) + 2
  pub basics_laid : Laid basic 0 0 basics
  pub own_laid : Laid (template_lines c.template) 0 own_at own
  pub calibrated : CalibrationAt behind c.calibration
  pub ending : EndingAt S end_at c.end_bit c.text
  pub bits_are : c.bits ≡ end_at + needed (end_pieces S end_at c.end_bit c.text)

-- The pieces after the fields, and all pieces.
abbrev pub rest_pieces : ℕ → ℕ → Contents → List Piece
rest_pieces S end_at c = calibration_pieces c.calibration ++ (piece 2 3 ∷ []) ++ end_pieces S end_at c.end_bit c.text

abbrev pub sheet_pieces : {S : ℕ} {c : Contents} → Formed S c → List Piece
sheet_pieces {S} {c} h = map piece_of h.basics ++ (block_pieces (number_of c.template) ++ (map piece_of h.own ++ rest_pieces S h.end_at c))

pub sheet-needed : {S : ℕ} {c : Contents} (h : Formed S c) → needed (sheet_pieces h) ≡ c.bits
sheet-needed {S} {c} h =
    let ts : List Piece = calibration_pieces c.calibration in
    let es : List Piece = end_pieces S h.end_at c.end_bit c.text in
    let os : List Piece = map piece_of h.own in
    let bs : List Piece = map piece_of h.basics in
    let block : List Piece = block_pieces (number_of c.template) in
    omega (
      arith,
      needed-append bs (block ++ (os ++ (ts ++ (piece 2 3 ∷ []) ++ es))),
      needed-append os (ts ++ (piece 2 3 ∷ []) ++ es),
      needed-append (ts ++ (piece 2 3 ∷ [])) es,
      needed-append ts (piece 2 3 ∷ []),
      h.own-at,
      h.behind-at,
      h.end-at,
      h.bits_are,
    )

abbrev pub made : Template → List Found → Calibration → Ending → ℕ → Contents
made template fields calibration ending end = record {
  template = template;
  fields = fields;
  calibration = calibration;
  end_bit = ending.end_bit;
  text = ending.text;
  bits = end;
}

-- The format after each of the sheet's parts.
abbrev pub after_calibration : Template → List Found → Calibration → Format Contents
after_calibration t xs k = ending_of >>= λ e. place >>= λ end. ends (made t xs k e end)

abbrev pub after_own : Template → List Found → Format Contents
after_own t xs = calibration_of >>= λ k. after_calibration t xs k

abbrev pub after_block : List Found → Template → Format Contents
after_block bs t = fields_of (template_lines t) 0 >>= λ os. after_own t (bs ++ os)

abbrev pub after_basics : List Found → Format Contents
after_basics bs = first_block >>= λ t. after_block bs t

pub sheet-parses : {S : ℕ} {c : Contents} (h : Formed S c) → Parses S sheet_of 0 (sheet_pieces h) c
unfolding sheet_of
sheet-parses {S} {c} h =
    let t : Template = c.template in
    let bs : List Found = h.basics in
    let os : List Found = h.own in
    let k : Calibration = c.calibration in
    let e : Ending = record { end_bit = c.end_bit; text = c.text } in
    let ps : List Piece = map piece_of bs in
    let qs : List Piece = map piece_of os in
    let ts : List Piece = calibration_pieces k ++ (piece 2 3 ∷ []) in
    let es : List Piece = end_pieces S h.end_at c.end_bit c.text in
    let n1 : h.own_at ≡ needed ps + needed (block_pieces (number_of t)) = omega (arith, h.own-at) in
    let n2 : h.end_at ≡ h.behind + needed ts = omega (arith, h.end-at, needed-append (calibration_pieces k) (piece 2 3 ∷ [])) in
    let same : made t (bs ++ os) k e (h.end_at + needed es) ≡ c =
    ap₂ (λ xs (n : ℕ). made t xs k e n) (sym h.fields) (sym h.bits_are) in
    let l5 : Parses S (after_calibration t (bs ++ os) k) h.end_at es c =
    subst (λ q. Parses S (after_calibration t (bs ++ os) k) h.end_at q c) (append-nil es)
    (parses-bind S ending_of _ h.end_at es [] e c (ending-parses S h.end_at c.end_bit c.text h.ending) same) in
    let l4 : Parses S (after_own t (bs ++ os)) h.behind (ts ++ es) c =
    parses-bind S calibration_of (λ k. after_calibration t (bs ++ os) k) h.behind ts es k c (calibration-parses S h.behind k h.calibrated)
    (subst (λ (n : ℕ). Parses S (after_calibration t (bs ++ os) k) n es c) n2 l5) in
    let l3 : Parses S (after_block bs t) h.own_at (qs ++ (ts ++ es)) c =
    parses-bind S (fields_of (template_lines t) 0) (λ os. after_own t (bs ++ os)) h.own_at qs (ts ++ es) os c
    (laid-parses S (template_lines t) 0 h.own_at os h.own_laid)
    (subst (λ (n : ℕ). Parses S (after_own t (bs ++ os)) n (ts ++ es) c) h.behind-at l4) in
    let l2 : Parses S (after_basics bs) (needed ps) (block_pieces (number_of t) ++ (qs ++ (ts ++ es))) c =
    parses-bind S first_block (after_block bs) (needed ps) (block_pieces (number_of t)) (qs ++ (ts ++ es)) t c (block-parses S (needed ps) t)
    (subst (λ (n : ℕ). Parses S (after_block bs t) n (qs ++ (ts ++ es)) c) n1 l3) in
    let n0 : needed ps ≡ 0 + needed ps = omega arith in
    parses-bind S (fields_of basic 0) after_basics 0 ps (block_pieces (number_of t) ++ (qs ++ (ts ++ es))) bs c (laid-parses S basic 0 0 bs h.basics_laid)
    (subst (λ (n : ℕ). Parses S (after_basics bs) n (block_pieces (number_of t) ++ (qs ++ (ts ++ es))) c) n0 l2)

pub sheet-formed : (S : ℕ) (ps : List Piece) (c : Contents) → Parses S sheet_of 0 ps c → (h : Formed S c) × (sheet_pieces h ≡ ps)
unfolding sheet_of
sheet-formed S ps c l =
    let g1 = parses-halves S (fields_of basic 0) after_basics 0 ps c l in
    let bs : List Found = g1.middle in
    let (e1, h1) = laid-pieces S basic 0 0 g1.first bs g1.front in
    let g2 = parses-halves S first_block (after_block bs) (0 + needed g1.first) g1.second c g1.back in
    let t : Template = g2.middle in
    let e2 : g2.first ≡ block_pieces (number_of t) = block-pieces S _ g2.first t g2.front in
    let own_at : ℕ = 0 + needed g1.first + needed g2.first in
    let g3 = parses-halves S (fields_of (template_lines t) 0) (λ os. after_own t (bs ++ os)) own_at g2.second c g2.back in
    let os : List Found = g3.middle in
    let (e3, h3) = laid-pieces S (template_lines t) 0 own_at g3.first os g3.front in
    let behind : ℕ = own_at + needed g3.first in
    let g4 = parses-halves S calibration_of (λ k. after_calibration t (bs ++ os) k) behind g3.second c g3.back in
    let k : Calibration = g4.middle in
    let (e4, h4) = calibration-pieces S behind g4.first k g4.front in
    let end_at : ℕ = behind + needed g4.first in
    let g5 = parses-halves S ending_of (λ e. place >>= λ end. ends (made t (bs ++ os) k e end)) end_at g4.second c g4.back in
    let e : Ending = g5.middle in
    let (e5, h5) = ending-pieces S end_at g5.first e g5.front in
    let (z, same) = ends-pieces S (made t (bs ++ os) k e (end_at + needed g5.first)) (end_at + needed g5.first) g5.second c g5.back in
    let last : g5.first ≡ g4.second = sym (append-nil g5.first) ∙ ap (λ q. g5.first ++ q) (sym z) ∙ g5.joined in
    let h : Formed S (made t (bs ++ os) k e (end_at + needed g5.first)) = record {
      basics = bs;
      own = os;
      own_at = own_at;
      behind = behind;
      end_at = end_at;
      fields = refl;
      own-at = omega (arith, ap needed e1, ap needed e2);
      behind-at = omega (arith, ap needed e3);
      end-at = omega (arith, ap needed e4, needed-append (calibration_pieces k) (piece 2 3 ∷ []));
      basics_laid = h1;
      own_laid = h3;
      calibrated = h4;
      ending = h5;
      bits_are = ap (λ q. end_at + needed q) e5;
    } in
    subst (λ (x : Contents). (f : Formed S x) × (sheet_pieces f ≡ ps)) same (
      h,
      ap₂ (λ p q. p ++ q) (sym e1) (ap₂ (λ p q. p ++ q) (sym e2) (ap₂ (λ p q. p ++ q) (sym e3) (ap₂ (λ p q. p ++ q) (sym e4) (sym e5 ∙ last) ∙ g4.joined) ∙ g3.joined) ∙ g2.joined) ∙ g1.joined,
    )
