-- Laws of the numbers that refuse a stream: never 15, which no row has, or 17, a blank chip's.
use Rattle.layout.proofs.Names.{row_number, Bool, true, false, not, ◌||◌, ◌&&◌, cond, List, [], ◌∷◌, Option, None, Some, ℕ, zero, suc, ◌+◌, ◌/◌, arith, eqb, ltb, leb, binary32, of_bits, le_z, Refusal, Outcome, Ok, Err}
use Rattle.layout.proofs.Names.{WrongBlock, OutsideTable, NotFinite, NotRising, SumsNotRising, WrongCurve, TooManyTerms, Elsewhere, Other, other-cond, other_test, other-then, Row, Rule, Plain, Stepped, Geometric}
use Rattle.layout.proofs.Names.{Single, Template, Codes, Domain, all_ones, top_code, finite, meaning, decode, Line, chose, basic, template_lines, template_of, cal_domain, point_count, cal_point, cal_deviation, domain_of}
use Rattle.layout.proofs.Names.{is_physical, stored_sum, follows, curve_domain, segment_count, segment_start, term_count, exponent, coefficient, is_segment_count, is_term_count, most_terms, start_follows, tenths_of}
use Rattle.layout.proofs.Names.{tenths_before, exponent_follows, Format, ends, stops, takes, looks, ◌>>=◌, given, reject◌if◌, repeated, Stream, parse, field_of, fields_of, selector_of, named, first_block, paired}
use Rattle.layout.proofs.Names.{codes_in, pair_of, pairs_of, table_of, Passed, ruled_of, term_of, behind_term, terms_of, segment_of, behind_segment, nothing_passed, segments_of, curve_of, block_at, calibration_of, characters_of}
use Rattle.layout.proofs.Names.{ending_of, sheet_of}

-- No refusal of a format has number 15 or 17.
abbrev Others : {A : Type 0} → Format A → Type 0
Others (ends a) = Unit {0}
Others (stops r) = Elsewhere (row_number r)
Others (takes w next) = (code : ℕ) → Others (next code)
Others (looks next) = (at left : ℕ) → Others (next at left)

-- ---- any format

others-bind : {A B : Type 0} (f : Format A) (next : A → Format B) → Others f → ((a : A) → Others (next a)) → Others (f >>= next)
others-bind (ends a) next h g = g a
others-bind (stops r) next h g = h
others-bind (takes w step) next h g = λ code. others-bind (step code) next (h code) g
others-bind (looks step) next h g = λ at left. others-bind (step at left) next (h at left) g

others-given : {A : Type 0} (o : Outcome A) → Other o → Others (given o)
others-given (Ok a) h = tt
others-given (Err r) h = h

others-test : (r : Refusal) (t : Bool) → Elsewhere (row_number r) → Others (reject r if t)
others-test r true h = h
others-test r false h = tt

others-cond : {A : Type 0} (t : Bool) (f g : Format A) → Others f → Others g → Others (cond t f g)
others-cond true f g h k = h
others-cond false f g h k = k

pub parse-other : {A : Type 0} (s : Stream) (f : Format A) (at : ℕ) → Others f → Other (parse s f at)
parse-other s (ends a) at h = tt
parse-other s (stops r) at h = h
parse-other s (takes w next) at h = other-cond (ltb s.bits (at + w)) _ _ (omega arith) (parse-other s (next _) (at + w) (h _))
parse-other s (looks next) at h = parse-other s (next _ _) at (h _ _)

-- ---- the sheet's format

meaning-other : (rule : Rule) (w at code : ℕ) → Other (meaning rule w at code)
meaning-other (Plain least greatest) w at code = other-then (OutsideTable at) (ltb code least || ltb greatest code) _ (omega arith) tt
meaning-other (Stepped start step) w at code = other-then (OutsideTable at) (ltb (top_code w) code) _ (omega arith) tt
meaning-other (Geometric scale) w at code = other-then (OutsideTable at) (ltb (top_code w) code) _ (omega arith) tt
meaning-other Single w at code =
    other-then (OutsideTable at) (eqb code (all_ones w)) _ (omega arith)
    (other-then (NotFinite at) (not (finite (of_bits binary32 code))) _ (omega arith) tt)

decode-other : (row : Row) (at code : ℕ) → Other (decode row at code)
unfolding decode
decode-other row at code = other-cond (row.missing && eqb code (all_ones row.width)) _ _ tt (meaning-other row.rule row.width at code)

follows-other : (domain : Domain) (before : Option Codes) (at : ℕ) (next : Codes) → Other (follows domain before at next)
unfolding follows
follows-other domain None at next = tt
follows-other domain (Some before) at next =
    other-then (NotRising at) (leb next.point before.point) _ (omega arith)
    (other_test (SumsNotRising at) (is_physical domain && le_z (stored_sum next) (stored_sum before)) (omega arith))

field-others : (row : Row) → Others (field_of row)
unfolding field_of
field-others row = λ at left. λ code. others-bind (given (decode row at code)) _ (others-given (decode row at code) (decode-other row at code)) (λ v. tt)

fields-others : (lines : List Line) (latest : ℕ) → Others (fields_of lines latest)
unfolding fields_of
fields-others [] latest = tt
fields-others (line ∷ lines) latest =
    others-bind (field_of (line.row_at latest)) _ (field-others (line.row_at latest)) (λ x.
    others-bind (fields_of lines (chose line.sets x.code latest)) _ (fields-others lines (chose line.sets x.code latest)) (λ rest. tt))

selector-others : (wanted : ℕ) → Others (selector_of wanted)
unfolding selector_of
selector-others wanted = λ at left. λ code. others-test (WrongBlock at) (not (eqb code wanted)) (omega arith)

named-others : (at : ℕ) (o : Option Template) → Others (named at o)
named-others at None = omega arith
named-others at (Some t) = tt

block-others : Others first_block
unfolding first_block
block-others = λ at left. others-bind (selector_of 0) _ (selector-others 0) (λ u. λ number. named-others at (template_of number))

pair-others : (domain : Domain) (before : Option Codes) → Others (pair_of domain before)
unfolding pair_of
pair-others domain before =
    others-bind (field_of cal_point) _ (field-others cal_point) (λ p.
    others-bind (field_of cal_deviation) _ (field-others cal_deviation) (λ d.
    others-bind (given (follows domain before p.at (codes_in (paired p d)))) _ (others-given (follows domain before p.at (codes_in (paired p d))) (follows-other domain before p.at (codes_in (paired p d)))) (λ u. tt)))

pairs-others : (domain : Domain) (n : ℕ) (before : Option Codes) → Others (pairs_of domain n before)
unfolding pairs_of
pairs-others domain zero before = tt
pairs-others domain (suc n) before =
    others-bind (pair_of domain before) _ (pair-others domain before) (λ p. others-bind (pairs_of domain n (Some (codes_in p))) _ (pairs-others domain n (Some (codes_in p))) (λ rest. tt))

table-others : Others table_of
unfolding table_of
table-others =
    others-bind (field_of cal_domain) _ (field-others cal_domain) (λ d.
    others-bind (field_of point_count) _ (field-others point_count) (λ n.
    others-bind (pairs_of (domain_of d.code) n.code None) _ (pairs-others (domain_of d.code) n.code None) (λ pairs. tt)))

ruled-others : (row : Row) (rule : ℕ → Bool) → Others (ruled_of row rule)
unfolding ruled_of
ruled-others row rule =
    others-bind (field_of row) _ (field-others row) (λ x.
    others-bind (reject WrongCurve x.at if not (rule x.code)) _ (others-test (WrongCurve x.at) (not (rule x.code)) (omega arith)) (λ u. tt))

repeated-others : {A B : Type 0} (one : B → Format A) (behind : B → A → B) → ((before : B) → Others (one before)) → (n : ℕ) (before : B) → Others (repeated one behind n before)
unfolding repeated
repeated-others one behind h zero before = tt
repeated-others one behind h (suc n) before =
    others-bind (one before) _ (h before) (λ x. others-bind (repeated one behind n (behind before x)) _ (repeated-others one behind h n (behind before x)) (λ rest. tt))

term-others : (before : Option ℕ) → Others (term_of before)
unfolding term_of
term-others before =
    others-bind (ruled_of exponent (λ code. exponent_follows (tenths_before before) (tenths_of code))) _ (ruled-others exponent _) (λ x.
    others-bind (field_of coefficient) _ (field-others coefficient) (λ c. tt))

segment-others : (before : Passed) → Others (segment_of before)
unfolding segment_of terms_of
segment-others before =
    others-bind (ruled_of segment_start (start_follows before.start)) _ (ruled-others segment_start _) (λ start.
    others-bind (ruled_of term_count is_term_count) _ (ruled-others term_count is_term_count) (λ count.
    let total = before.terms + count.code in
    others-bind (reject TooManyTerms total if ltb most_terms total) _ (others-test (TooManyTerms total) (ltb most_terms total) (omega arith)) (λ u.
    others-bind (terms_of count.code) _ (repeated-others term_of behind_term term-others count.code None) (λ terms. tt))))

curve-others : Others curve_of
unfolding curve_of segments_of
curve-others =
    others-bind (field_of curve_domain) _ (field-others curve_domain) (λ d.
    others-bind (ruled_of segment_count is_segment_count) _ (ruled-others segment_count is_segment_count) (λ n.
    others-bind (segments_of n.code) _ (repeated-others segment_of behind_segment segment-others n.code nothing_passed) (λ segments. tt)))

only-others : (at : ℕ) → Others (block_at at)
unfolding block_at
only-others at = λ number. others-cond (eqb number 40) _ _ table-others (others-cond (eqb number 41) _ _ curve-others (omega arith))

calibration-others : Others calibration_of
unfolding calibration_of
calibration-others = λ at left. λ selector.
    others-cond (eqb selector 0) _ _
    (others-bind (block_at at) _ (only-others at) (λ k. others-bind (selector_of 3) _ (selector-others 3) (λ u. tt)))
    (others-bind (reject WrongBlock at if not (eqb selector 3)) _ (others-test (WrongBlock at) (not (eqb selector 3)) (omega arith)) (λ u. tt))

text-others : (n : ℕ) → Others (characters_of n)
unfolding characters_of
text-others zero = tt
text-others (suc n) = λ c. others-cond (eqb c 0) _ _ tt (others-bind (characters_of n) _ (text-others n) (λ text. tt))

ending-others : Others ending_of
unfolding ending_of
ending-others = λ bit. λ at left. others-bind (characters_of (cond (eqb bit 1) (left / 7) 0)) _ (text-others _) (λ text. tt)

pub sheet-others : Others sheet_of
unfolding sheet_of
sheet-others =
    others-bind (fields_of basic 0) _ (fields-others basic 0) (λ bs.
    others-bind first_block _ block-others (λ t.
    others-bind (fields_of (template_lines t) 0) _ (fields-others (template_lines t) 0) (λ os.
    others-bind calibration_of _ calibration-others (λ k.
    others-bind ending_of _ ending-others (λ e. λ at left. tt)))))
